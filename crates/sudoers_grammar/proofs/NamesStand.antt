-- Where a line says that an alias is named, its name stands.
use Rattle.std.proofs.Common.{◌≡◌, ◌⊎◌, inl, inr, false, ℕ, ◌+◌, ◌<◌, List, [], ◌∷◌, length, refl, sym, ap, ap₂, ◌∙◌, arith}
use Rattle.std.specs.Prelude.{slice_range, codes}
use Rattle.std.specs.List.{AllByRecursion}
use Rattle.sudoers_text.specs.declared.token.Token.{Token}
use Rattle.sudoers_text.specs.Ascend.{AreOrderedTokens}
use Rattle.sudoers_text.specs.LineMode.{line_mode}
use Rattle.sudoers_grammar.specs.Node.{Node}
use Rattle.sudoers_grammar.specs.Piece.{TokenWithBytes, token_with_bytes, tokens_with_bytes}
use Rattle.sudoers_grammar.specs.Line.{LineReadsAsNode}
use Rattle.sudoers_grammar.specs.Ascend.{AreOrderedNameOffsets}
use Rattle.sudoers_grammar.specs.Renamed.{NamedAlias, NameStandsAtOffset, alias_offsets_in_node}
use Rattle.sudoers_grammar.proofs.RenamedNodes.{renamed_tokens_read_as_renamed_node}
use Rattle.sudoers_grammar.proofs.RenamedPieces.{NameChange, AreTokensRenamedUpToRest, done, keep, swap}
use Rattle.sudoers_grammar.proofs.RenamedStarts.{AreOffsetsApart, equal_nonempty_pieces_have_equal_parts, old_name_place_is_token_start, ordered_tokens_end_no_earlier_than_start, renamed_places_are_apart}
use Rattle.sudoers_grammar.proofs.Ascending.{TokensOfLinesAreOrdered}

-- The name stands at its places.
name_stands_at_each_renamed_place : (c : NameChange) (line : List ℕ) (ts us : List TokenWithBytes) (ps : List ℕ) → AreTokensRenamedUpToRest c ps ts [] us [] → (from : ℕ) (ks : List Token)
    → ts ≡ tokens_with_bytes line ks → AreOrderedTokens from (length line) ks → AllByRecursion (NameStandsAtOffset line c.old.name) ps
name_stands_at_each_renamed_place c line ts us ps (done rest left) from ks e a = tt
name_stands_at_each_renamed_place c line ts us ps (keep places t tts rest uus left r) from [] e a = absurd (cc)
name_stands_at_each_renamed_place c line ts us ps (keep places t tts rest uus left r) from (k ∷ ks) e a =
    name_stands_at_each_renamed_place c line tts uus ps r k.stop ks (equal_nonempty_pieces_have_equal_parts t (token_with_bytes line k) tts (tokens_with_bytes line ks) e).1 a.2
name_stands_at_each_renamed_place c line ts us ps (swap place places t tts rest uus left w n q r) from [] e a = absurd (cc)
name_stands_at_each_renamed_place c line ts us ps (swap place places t tts rest uus left w n q r) from (k ∷ ks) e a =
    let parts = equal_nonempty_pieces_have_equal_parts t (token_with_bytes line k) tts (tokens_with_bytes line ks) e in
    let at = old_name_place_is_token_start c line k t place a.1 (ordered_tokens_end_no_earlier_than_start k.stop (length line) ks a.2) parts.0 n q in
    let ends : place + length c.old.name ≡ k.stop = omega (arith, at.0, at.1, a.1) in
    let here : NameStandsAtOffset line c.old.name place = ap₂ (slice_range line) at.0 ends ∙ sym (ap (λ (u : TokenWithBytes). u.text) parts.0) ∙ n in
    (here, name_stands_at_each_renamed_place c line tts uus places r k.stop ks parts.1 a.2)

-- A name that stands somewhere is not empty.
renamed_name_with_places_is_not_empty : (c : NameChange) (line : List ℕ) (ts us : List TokenWithBytes) (ps : List ℕ) → AreTokensRenamedUpToRest c ps ts [] us [] → (from : ℕ) (ks : List Token)
    → ts ≡ tokens_with_bytes line ks → AreOrderedTokens from (length line) ks → (ps ≡ []) ⊎ (0 < length c.old.name)
renamed_name_with_places_is_not_empty c line ts us ps (done rest left) from ks e a = inl refl
renamed_name_with_places_is_not_empty c line ts us ps (keep places t tts rest uus left r) from [] e a = absurd (cc)
renamed_name_with_places_is_not_empty c line ts us ps (keep places t tts rest uus left r) from (k ∷ ks) e a =
    renamed_name_with_places_is_not_empty c line tts uus ps r k.stop ks (equal_nonempty_pieces_have_equal_parts t (token_with_bytes line k) tts (tokens_with_bytes line ks) e).1 a.2
renamed_name_with_places_is_not_empty c line ts us ps (swap place places t tts rest uus left w n q r) from [] e a = absurd (cc)
renamed_name_with_places_is_not_empty c line ts us ps (swap place places t tts rest uus left w n q r) from (k ∷ ks) e a =
    let parts = equal_nonempty_pieces_have_equal_parts t (token_with_bytes line k) tts (tokens_with_bytes line ks) e in
    let at = old_name_place_is_token_start c line k t place a.1 (ordered_tokens_end_no_earlier_than_start k.stop (length line) ks a.2) parts.0 n q in
    inr (omega (arith, at.1, a.1))

-- A name stands in a line at these offsets, one behind another.
pub record StandsAtOffsets (line name : List ℕ) (ps : List ℕ) : Type 0 where
  pub apart : AreOffsetsApart (length name) 0 (length line) ps
  pub stand : AllByRecursion (NameStandsAtOffset line name) ps
  pub some : (ps ≡ []) ⊎ (0 < length name)

-- An alias stands where the line says that it is named.
pub alias_stands_at_its_offsets_in_line : TokensOfLinesAreOrdered → (old : NamedAlias) (line : List ℕ) (n : Node) → LineReadsAsNode line n → StandsAtOffsets line old.name (alias_offsets_in_node old n)
alias_stands_at_its_offsets_in_line ascend old line n is =
    let c : NameChange = record { old = old; fresh = codes "A"; at = λ x. x; last = λ t. false } in
    let ts = tokens_with_bytes line is.tokens in
    let turned = renamed_tokens_read_as_renamed_node c ts n (refl, refl) is.reads in
    let ps = alias_offsets_in_node old n in
    let a = ascend (line_mode line) line is.tokens is.has in
    record {
      apart = renamed_places_are_apart c line ts turned.0 ps turned.2 0 is.tokens refl a;
      stand = name_stands_at_each_renamed_place c line ts turned.0 ps turned.2 0 is.tokens refl a;
      some = renamed_name_with_places_is_not_empty c line ts turned.0 ps turned.2 0 is.tokens refl a;
    }

pub alias_name_stands_at_each_offset : TokensOfLinesAreOrdered → (old : NamedAlias) (line : List ℕ) (n : Node) → LineReadsAsNode line n
    → AllByRecursion (NameStandsAtOffset line old.name) (alias_offsets_in_node old n)
alias_name_stands_at_each_offset ascend old line n is = (alias_stands_at_its_offsets_in_line ascend old line n is).stand

pub alias_name_offsets_are_ordered : TokensOfLinesAreOrdered → (old : NamedAlias) (line : List ℕ) (n : Node) → LineReadsAsNode line n
    → AreOrderedNameOffsets (length old.name) 0 (length line) (alias_offsets_in_node old n)
alias_name_offsets_are_ordered ascend old line n is = by_starts (alias_offsets_in_node old n) (alias_stands_at_its_offsets_in_line ascend old line n is)
  where
    by_size : (size from to : ℕ) (ps : List ℕ) → 0 < size → AreOffsetsApart size from to ps → AreOrderedNameOffsets size from to ps
    by_size size from to [] some a = a
    by_size size from to (p ∷ ps) some a = (a.0, omega (arith, some), by_size size (p + size) to ps some a.1)

    by_starts : (ps : List ℕ) → StandsAtOffsets line old.name ps → AreOrderedNameOffsets (length old.name) 0 (length line) ps
    by_starts [] s = s.apart
    by_starts (p ∷ ps) s =
        elim s.some [
          | inl none ↦ absurd (cc)
          | inr some ↦ by_size (length old.name) 0 (length line) (p ∷ ps) some s.apart
        ]
