-- Where a name stands in a line, and where an offset lies once it is replaced by another.
use Rattle.std.proofs.Common.{◌≡◌, ◌⊎◌, inl, inr, ℕ, ◌+◌, ◌-◌, ◌≤◌, ◌<◌, Bool, true, false, List, [], ◌∷◌, length, drop, refl, sym, ap, ◌∙◌, arith}
use Rattle.std.specs.Prelude.{nat_lt, if◌then◌else◌, slice_range}
use Rattle.std.proofs.lemmas.List.{length-take-le, length-drop}
use Rattle.std.proofs.lemmas.Bool.Decides.{nat_tests}
use Rattle.sudoers_text.specs.declared.token.Token.{Token}
use Rattle.sudoers_text.specs.Ascend.{AreOrderedTokens}
use Rattle.sudoers_text.specs.Renamed.{offset_after_replacement}
use Rattle.sudoers_grammar.specs.Piece.{TokenWithBytes, token_with_bytes, tokens_with_bytes}
use Rattle.sudoers_grammar.specs.Renamed.{offset_after_renames}
use Rattle.sudoers_grammar.proofs.RenamedPieces.{NameChange, AreTokensRenamedUpToRest, done, keep, swap}

-- The places stand one behind another, each with so many bytes.
abbrev pub AreOffsetsApart : ℕ → ℕ → ℕ → List ℕ → Type 0
AreOffsetsApart size from to [] = from ≤ to
AreOffsetsApart size from to (p ∷ ps) = (from ≤ p) × AreOffsetsApart size (p + size) to ps

pub lower_start_keeps_offsets_apart : (size from less to : ℕ) (ps : List ℕ) → less ≤ from → AreOffsetsApart size from to ps → AreOffsetsApart size less to ps
lower_start_keeps_offsets_apart size from less to [] h a = omega (arith, h, a)
lower_start_keeps_offsets_apart size from less to (p ∷ ps) h a = (omega (arith, h, a.0), a.1)

pub offsets_apart_end_no_earlier_than_start : (size from to : ℕ) (ps : List ℕ) → AreOffsetsApart size from to ps → from ≤ to
offsets_apart_end_no_earlier_than_start size from to [] a = a
offsets_apart_end_no_earlier_than_start size from to (p ∷ ps) a = omega (arith, a.0, offsets_apart_end_no_earlier_than_start size (p + size) to ps a.1)

slice_has_size_of_its_places : (text : List ℕ) (from to : ℕ) → from ≤ to → to ≤ length text → length (slice_range text from to) ≡ to - from
slice_has_size_of_its_places text from to h within = length-take-le (to - from) (drop from text) (omega (arith, h, within, length-drop from text))

pub equal_nonempty_pieces_have_equal_parts : (t u : TokenWithBytes) (ts us : List TokenWithBytes) → t ∷ ts ≡ u ∷ us → (t ≡ u) × (ts ≡ us)
equal_nonempty_pieces_have_equal_parts t u ts us e = (cc, cc)

-- where a name stands
pub old_name_place_is_token_start : (c : NameChange) (line : List ℕ) (k : Token) (t : TokenWithBytes) (place : ℕ) → k.start < k.stop → k.stop ≤ length line → t ≡ token_with_bytes line k
    → t.text ≡ c.old.name → (place ≡ t.start) ⊎ (place ≡ t.stop - length c.old.name)
    → (place ≡ k.start) × (length c.old.name ≡ k.stop - k.start)
old_name_place_is_token_start c line k t place some within e named at =
    let size : length c.old.name ≡ k.stop - k.start =
    ap length (sym named ∙ ap (λ (u : TokenWithBytes). u.text) e) ∙ slice_has_size_of_its_places line k.start k.stop (omega (arith, some)) within in
    (by_place at size, size)
  where
    by_place : (place ≡ t.start) ⊎ (place ≡ t.stop - length c.old.name) → length c.old.name ≡ k.stop - k.start → place ≡ k.start
    by_place (inl h) size = h ∙ ap (λ (u : TokenWithBytes). u.start) e
    by_place (inr h) size = omega (arith, h, size, some, ap (λ (u : TokenWithBytes). u.stop) e)

pub ordered_tokens_end_no_earlier_than_start : (from to : ℕ) (ts : List Token) → AreOrderedTokens from to ts → from ≤ to
ordered_tokens_end_no_earlier_than_start from to [] a = a
ordered_tokens_end_no_earlier_than_start from to (t ∷ ts) a = omega (arith, a.0, a.1, ordered_tokens_end_no_earlier_than_start t.stop to ts a.2)

pub renamed_places_are_apart : (c : NameChange) (line : List ℕ) (ts us : List TokenWithBytes) (ps : List ℕ) → AreTokensRenamedUpToRest c ps ts [] us [] → (from : ℕ) (ks : List Token)
    → ts ≡ tokens_with_bytes line ks → AreOrderedTokens from (length line) ks → AreOffsetsApart (length c.old.name) from (length line) ps
renamed_places_are_apart c line ts us ps (done rest left) from ks e a = ordered_tokens_end_no_earlier_than_start from (length line) ks a
renamed_places_are_apart c line ts us ps (keep places t tts rest uus left r) from [] e a = absurd (cc)
renamed_places_are_apart c line ts us ps (keep places t tts rest uus left r) from (k ∷ ks) e a =
    let parts = equal_nonempty_pieces_have_equal_parts t (token_with_bytes line k) tts (tokens_with_bytes line ks) e in
    lower_start_keeps_offsets_apart (length c.old.name) k.stop from (length line) ps (omega (arith, a.0, a.1)) (renamed_places_are_apart c line tts uus ps r k.stop ks parts.1 a.2)
renamed_places_are_apart c line ts us ps (swap place places t tts rest uus left w n p r) from [] e a = absurd (cc)
renamed_places_are_apart c line ts us ps (swap place places t tts rest uus left w n p r) from (k ∷ ks) e a =
    let parts = equal_nonempty_pieces_have_equal_parts t (token_with_bytes line k) tts (tokens_with_bytes line ks) e in
    let at = old_name_place_is_token_start c line k t place a.1 (ordered_tokens_end_no_earlier_than_start k.stop (length line) ks a.2) parts.0 n p in
    let later = renamed_places_are_apart c line tts uus places r k.stop ks parts.1 a.2 in (
      omega (arith, a.0, at.0),
      lower_start_keeps_offsets_apart (length c.old.name) k.stop (place + length c.old.name) (length line) places
          (omega (arith, at.0, at.1, a.1)) later,
    )

lower_number_passes_less_test : (p x : ℕ) → p < x → nat_lt p x ≡ true
lower_number_passes_less_test p x h = grind (arith, nat_tests)

higher_number_fails_less_test : (p x : ℕ) → x ≤ p → nat_lt p x ≡ false
higher_number_fails_less_test p x h = grind (arith, nat_tests)

-- a place before all of them
pub offset_before_renames_is_unchanged : (old new size from to : ℕ) (ps : List ℕ) (x : ℕ) → AreOffsetsApart size from to ps → x ≤ from → offset_after_renames old new ps x ≡ x
offset_before_renames_is_unchanged old new size from to [] x a h = refl
offset_before_renames_is_unchanged old new size from to (p ∷ ps) x a h =
    ap (λ (t : Bool). if t then offset_after_replacement old new (offset_after_renames old new ps x) else x) (higher_number_fails_less_test p x (omega (arith, h, a.0)))

pub offset_after_first_rename_is_replaced : (old new p : ℕ) (ps : List ℕ) (x : ℕ) → p < x → offset_after_renames old new (p ∷ ps) x ≡ offset_after_replacement old new (offset_after_renames old new ps x)
offset_after_first_rename_is_replaced old new p ps x h = ap (λ (t : Bool). if t then offset_after_replacement old new (offset_after_renames old new ps x) else x) (lower_number_passes_less_test p x h)
