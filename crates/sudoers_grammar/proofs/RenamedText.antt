-- The line whose tokens are the renamed ones.
use Rattle.std.proofs.Common.{◌≡◌, inl, inr, ℕ, ◌+◌, ◌-◌, ◌≤◌, ◌<◌, Bool, true, false, List, [], ◌∷◌, ◌++◌, map, length, take, drop, refl, sym, ap, ap₂, subst, ◌∙◌, arith, append_assoc}
use Rattle.std.specs.Prelude.{◌==◌, slice_range}
use Rattle.std.proofs.lemmas.List.{length-take-le, length-take, take-take, take-append-drop, drop-take, take-append-le, take_at, drop_at, drop-drop}
use Rattle.std.proofs.Math.Seq.{drop-append-add}
use Rattle.std.proofs.lemmas.Bool.Decides.{eqb_tells, Decides-eqb}
use Rattle.sudoers_text.specs.declared.token.TokenKind.TheVariants as kind
use Rattle.sudoers_text.specs.declared.token.Token.{Token}
use Rattle.sudoers_text.specs.declared.token.Mode.{Mode}
use Rattle.sudoers_text.specs.Token.{HasTokens}
use Rattle.sudoers_text.specs.Ascend.{AreOrderedTokens}
use Rattle.sudoers_text.specs.Ended.{ends_in_lf}
use Rattle.sudoers_text.specs.LineMode.{line_mode}
use Rattle.sudoers_text.specs.Whole.{IsLogicalLine}
use Rattle.sudoers_text.specs.Renamed.{IsDefinableName, token_of_name_after, offset_after_replacement, token_after_replacement, tokens_after_replacement}
use Rattle.sudoers_grammar.specs.Node.{Node}
use Rattle.sudoers_grammar.specs.Piece.{TokenWithBytes, token_with_bytes, tokens_with_bytes, begins_line_end_or_nothing}
use Rattle.sudoers_grammar.specs.Grammar.{Reads}
use Rattle.sudoers_grammar.specs.Line.{LineReadsAsNode}
use Rattle.sudoers_grammar.specs.Renamed.{NamedAlias, node_with_alias_renamed, alias_offsets_in_node, bytes_replaced_at_offsets, offset_after_renames, line_text_after_rename, renaming_of_alias_in_node}
use Rattle.sudoers_grammar.proofs.Ascending.{TokensOfLinesAreOrdered}
use Rattle.sudoers_grammar.proofs.TextLaws.{RenamedLineHasMovedTokens, RenamingKeepsLineMode, RenamingKeepsLogicalLine, RenamingKeepsLfEnd}
use Rattle.sudoers_grammar.proofs.RenamedNodes.{renamed_tokens_read_as_renamed_node}
use Rattle.sudoers_grammar.proofs.RenamedPieces.{NameChange, alias_renaming_of_change, piece_with_moved_offsets, piece_with_new_name, AreTokensRenamedUpToRest, done, keep, swap, KeepsSecondTokenAdjacency}
use Rattle.sudoers_grammar.proofs.RenamedStarts.{AreOffsetsApart, lower_start_keeps_offsets_apart, offsets_apart_end_no_earlier_than_start, equal_nonempty_pieces_have_equal_parts, old_name_place_is_token_start, ordered_tokens_end_no_earlier_than_start, renamed_places_are_apart, offset_before_renames_is_unchanged, offset_after_first_rename_is_replaced}

-- ---- the text

equal_longer_prefixes_have_equal_prefixes : (n m : ℕ) (xs ys : List ℕ) → n ≤ m → take m xs ≡ take m ys → take n xs ≡ take n ys
equal_longer_prefixes_have_equal_prefixes n m xs ys h e = sym (take-take n m xs h) ∙ ap (take n) e ∙ take-take n m ys h

pub replacement_keeps_bytes_before_first_place : (size : ℕ) (fresh line : List ℕ) (from : ℕ) (ps : List ℕ) → AreOffsetsApart size from (length line) ps → (x : ℕ) → x ≤ from
    → take x (bytes_replaced_at_offsets size fresh ps line) ≡ take x line
replacement_keeps_bytes_before_first_place size fresh line from [] a x h = refl
replacement_keeps_bytes_before_first_place size fresh line from (p ∷ ps) a x h =
    let later = bytes_replaced_at_offsets size fresh ps line in
    let same = replacement_keeps_bytes_before_first_place size fresh line (p + size) ps a.1 (p + size) (omega arith) in
    let le = offsets_apart_end_no_earlier_than_start size (p + size) (length line) ps a.1 in
    let inside : p ≤ length later = within (p + size) later line same le p (omega arith) in
    take-append-le x (take p later) (fresh ++ drop (p + size) later) (omega (arith, h, a.0, length-take-le p later inside))
    ∙ equal_longer_prefixes_have_equal_prefixes x p (take p later) later (omega (arith, h, a.0)) (twice p later)
    ∙ equal_longer_prefixes_have_equal_prefixes x (p + size) later line (omega (arith, h, a.0)) same
  where
    within : (n : ℕ) (xs ys : List ℕ) → take n xs ≡ take n ys → n ≤ length ys → (m : ℕ) → m ≤ n → m ≤ length xs
    within n xs ys e h m l = omega (arith, ap length e, length-take n xs, length-take-le n ys h, l)

    twice : (n : ℕ) (xs : List ℕ) → take n (take n xs) ≡ take n xs
    twice n xs = take-take n n xs (omega arith)

abbrev token_after_renames : ℕ → ℕ → List ℕ → Token → Token
token_after_renames old new ps t = record { kind = t.kind; start = offset_after_renames old new ps t.start; stop = offset_after_renames old new ps t.stop }

-- Tokens of the line have these kinds and texts.
abbrev AreTokensWithTexts : List ℕ → List Token → List TokenWithBytes → Type 0
AreTokensWithTexts line [] [] = Unit {0}
AreTokensWithTexts line [] (u ∷ us) = ⊥
AreTokensWithTexts line (t ∷ ts) [] = ⊥
AreTokensWithTexts line (t ∷ ts) (u ∷ us) = (u.kind ≡ t.kind) × (u.text ≡ slice_range line t.start t.stop) × AreTokensWithTexts line ts us

pub slice_of_equal_prefixes_is_equal : (xs ys : List ℕ) (a b : ℕ) → a ≤ b → take b xs ≡ take b ys → slice_range xs a b ≡ slice_range ys a b
slice_of_equal_prefixes_is_equal xs ys a b h e =
    let size : a + (b - a) ≡ b = omega (arith, h) in
    sym (drop-take a (b - a) xs)
    ∙ ap (λ (n : ℕ). drop a (take n xs)) size ∙ ap (drop a) e ∙ ap (λ (n : ℕ). drop a (take n ys)) (sym size)
    ∙ drop-take a (b - a) ys

-- ---- one name replaced

pub record StandsAtPlaceInLine (L name : List ℕ) (p : ℕ) : Type 0 where
  pub inside : p + length name ≤ length L
  pub stands : slice_range L p (p + length name) ≡ name

pub prefix_before_name_has_size_of_place : (L name : List ℕ) (p : ℕ) → StandsAtPlaceInLine L name p → length (take p L) ≡ p
prefix_before_name_has_size_of_place L name p one = length-take-le p L (omega (arith, one.inside))

pub line_is_prefix_name_and_rest : (L name : List ℕ) (p : ℕ) → StandsAtPlaceInLine L name p → L ≡ take p L ++ (name ++ drop (p + length name) L)
line_is_prefix_name_and_rest L name p one =
    let size : length name ≡ p + length name - p = omega arith in
    let here : take (length name) (drop p L) ≡ name = ap (λ (n : ℕ). take n (drop p L)) size ∙ one.stands in
    let there : drop (length name) (drop p L) ≡ drop (p + length name) L = drop-drop (length name) p L in
    sym (take-append-drop p L)
    ∙ ap (λ (t : List ℕ). take p L ++ t) (sym (take-append-drop (length name) (drop p L)) ∙ ap₂ (λ (x y : List ℕ). x ++ y) here there)

new_name_stands_at_its_place : (L name fresh rest : List ℕ) (p : ℕ) → StandsAtPlaceInLine L name p → slice_range (take p L ++ (fresh ++ rest)) p (p + length fresh) ≡ fresh
new_name_stands_at_its_place L name fresh rest p one =
    let size : p + length fresh - p ≡ length fresh = omega arith in
    ap (λ (n : ℕ). take n (drop p (take p L ++ (fresh ++ rest)))) size
    ∙ ap (take (length fresh)) (drop_at (take p L) (fresh ++ rest) p (prefix_before_name_has_size_of_place L name p one))
    ∙ take_at fresh rest (length fresh) refl

slice_after_name_is_unchanged : (L name fresh : List ℕ) (p : ℕ) → StandsAtPlaceInLine L name p → (a b : ℕ) → p + length name ≤ a → a ≤ b
    → slice_range (take p L ++ (fresh ++ drop (p + length name) L)) (offset_after_replacement (length name) (length fresh) a)
    (offset_after_replacement (length name) (length fresh) b) ≡ slice_range L a b
slice_after_name_is_unchanged L name fresh p one a b h l =
    let rest = drop (p + length name) L in
    let c = a - (p + length name) in
    let size : offset_after_replacement (length name) (length fresh) b - offset_after_replacement (length name) (length fresh) a ≡ b - a = omega (arith, h, l) in
    let place : offset_after_replacement (length name) (length fresh) a ≡ length (take p L) + (length fresh + c) = omega (arith, h, prefix_before_name_has_size_of_place L name p one) in
    let at : p + length name + c ≡ a = omega (arith, h) in
    ap (λ (n : ℕ). take n (drop (offset_after_replacement (length name) (length fresh) a) (take p L ++ (fresh ++ rest)))) size
    ∙ ap (take (b - a)) (ap (λ (n : ℕ). drop n (take p L ++ (fresh ++ rest))) place
    ∙ drop-append-add (take p L) (fresh ++ rest) (length fresh + c) ∙ drop-append-add fresh rest c
    ∙ drop-drop c (p + length name) L ∙ ap (λ (n : ℕ). drop n L) at)

token_texts_after_name_are_unchanged : (L name fresh : List ℕ) (p : ℕ) → StandsAtPlaceInLine L name p → (from to : ℕ) (ts : List Token) (us : List TokenWithBytes) → p + length name ≤ from
    → AreOrderedTokens from to ts → AreTokensWithTexts L ts us
    → AreTokensWithTexts (take p L ++ (fresh ++ drop (p + length name) L)) (tokens_after_replacement (length name) (length fresh) ts) us
token_texts_after_name_are_unchanged L name fresh p one from to [] [] h a is = tt
token_texts_after_name_are_unchanged L name fresh p one from to [] (u ∷ us) h a is = absurd is
token_texts_after_name_are_unchanged L name fresh p one from to (t ∷ ts) [] h a is = absurd is
token_texts_after_name_are_unchanged L name fresh p one from to (t ∷ ts) (u ∷ us) h a is = (
  is.0,
  is.1 ∙ sym (slice_after_name_is_unchanged L name fresh p one t.start t.stop (omega (arith, h, a.0)) (omega (arith, a.1))),
  token_texts_after_name_are_unchanged L name fresh p one t.stop to ts us (omega (arith, h, a.0, a.1)) a.2 is.2,
)

-- ---- all of them

-- the line with another name at these offsets, by its tokens from one on: those before it are as they were
record IsLineWithNameReplaced (m : Mode) (line name fresh : List ℕ) (ps : List ℕ) (before ks : List Token) (us : List TokenWithBytes) : Type 0 where
  tokens : HasTokens m (bytes_replaced_at_offsets (length name) fresh ps line) (before ++ map (token_after_renames (length name) (length fresh) ps) ks)
  mode : line_mode line ≡ line_mode (bytes_replaced_at_offsets (length name) fresh ps line)
  logical : IsLogicalLine line → IsLogicalLine (bytes_replaced_at_offsets (length name) fresh ps line)
  ends : ends_in_lf line ≡ ends_in_lf (bytes_replaced_at_offsets (length name) fresh ps line)
  texts : AreTokensWithTexts (bytes_replaced_at_offsets (length name) fresh ps line) (map (token_after_renames (length name) (length fresh) ps) ks) us

-- tokens behind others
tokens_after_others_are_ordered : (from to : ℕ) (before : List Token) (k : Token) (ks : List Token) → AreOrderedTokens from to ((before ++ k ∷ []) ++ ks)
    → AreOrderedTokens k.stop to ks
tokens_after_others_are_ordered from to [] k ks a = a.2
tokens_after_others_are_ordered from to (b ∷ before) k ks a = tokens_after_others_are_ordered b.stop to before k ks a.2

tokens_after_renames_are_moved_again : (old new p size from to : ℕ) (ps : List ℕ) (ks : List Token) → p < from → AreOrderedTokens from to ks
    → tokens_after_replacement old new (map (token_after_renames old new ps) ks) ≡ map (token_after_renames old new (p ∷ ps)) ks
tokens_after_renames_are_moved_again old new p size from to ps [] h a = refl
tokens_after_renames_are_moved_again old new p size from to ps (k ∷ ks) h a =
    let start = sym (offset_after_first_rename_is_replaced old new p ps k.start (omega (arith, h, a.0))) in
    let stop = sym (offset_after_first_rename_is_replaced old new p ps k.stop (omega (arith, h, a.0, a.1))) in
    let first : token_after_replacement old new (token_after_renames old new ps k) ≡ token_after_renames old new (p ∷ ps) k =
    λ j. record { kind = k.kind; start = start j; stop = stop j } in
    ap₂ (λ (x : Token) (xs : List Token). x ∷ xs) first (tokens_after_renames_are_moved_again old new p size k.stop to ps ks (omega (arith, h, a.0, a.1)) a.2)

pub definable_name_is_not_empty : (word : List ℕ) → IsDefinableName word → 0 < length word
definable_name_is_not_empty [] is = absurd (let bad = is.0 in cc)
definable_name_is_not_empty (b ∷ word) is = omega arith

module _ (ascend : TokensOfLinesAreOrdered) (same : RenamedLineHasMovedTokens) (modes : RenamingKeepsLineMode) (logical : RenamingKeepsLogicalLine) (endings : RenamingKeepsLfEnd) (c : NameChange)
    (named : IsDefinableName c.old.name) (fresh : IsDefinableName c.fresh) (m : Mode) (line : List ℕ) where
  swaps : (ts us : List TokenWithBytes) (ps : List ℕ) → AreTokensRenamedUpToRest c ps ts [] us [] → (before ks : List Token) → ts ≡ tokens_with_bytes line ks → (from : ℕ)
      → AreOrderedTokens from (length line) ks → HasTokens m line (before ++ ks)
      → IsLineWithNameReplaced m line c.old.name c.fresh ps before ks us
  swaps ts us ps (done rest left) before [] e from a has = record { tokens = has; mode = refl; logical = λ x. x; ends = refl; texts = tt }
  swaps ts us ps (done rest left) before (k ∷ ks) e from a has = absurd (cc)
  swaps ts us ps (keep places t tts rest uus left r) before [] e from a has = absurd (cc)
  swaps ts us ps (keep places t tts rest uus left r) before (k ∷ ks) e from a has =
      let N = length c.old.name in
      let F = length c.fresh in
      let parts = equal_nonempty_pieces_have_equal_parts t (token_with_bytes line k) tts (tokens_with_bytes line ks) e in
      let apart = renamed_places_are_apart c line tts uus ps r k.stop ks parts.1 a.2 in
      let later =
      swaps tts uus ps r (before ++ k ∷ []) ks parts.1 k.stop a.2 (subst (HasTokens m line) (sym (append_assoc before (k ∷ []) ks)) has) in
      let start : offset_after_renames N F ps k.start ≡ k.start = offset_before_renames_is_unchanged N F N k.stop (length line) ps k.start apart (omega (arith, a.1)) in
      let stop : offset_after_renames N F ps k.stop ≡ k.stop = offset_before_renames_is_unchanged N F N k.stop (length line) ps k.stop apart (omega arith) in
      let first : k ≡ token_after_renames N F ps k = λ j. record { kind = k.kind; start = sym start j; stop = sym stop j } in
      let text = bytes_replaced_at_offsets N c.fresh ps line in
      let kept : slice_range text k.start k.stop ≡ slice_range line k.start k.stop =
      slice_of_equal_prefixes_is_equal text line k.start k.stop (omega (arith, a.1)) (replacement_keeps_bytes_before_first_place N c.fresh line k.stop ps apart k.stop (omega arith)) in
      record {
        tokens =
            subst (HasTokens m text) (append_assoc before (k ∷ []) (map (token_after_renames N F ps) ks)
            ∙ ap (λ (x : Token). before ++ x ∷ map (token_after_renames N F ps) ks) first) later.tokens;
        mode = later.mode;
        logical = later.logical;
        ends = later.ends;
        texts = (
          ap (λ (u : TokenWithBytes). u.kind) parts.0,
          ap (λ (u : TokenWithBytes). u.text) parts.0 ∙ sym kept
              ∙ ap (λ (x : Token). slice_range text x.start x.stop) first,
          later.texts,
        );
      }
  swaps ts us ps (swap place places t tts rest uus left w n q r) before [] e from a has = absurd (cc)
  swaps ts us ps (swap place places t tts rest uus left w n q r) before (k ∷ ks) e from a has =
      let name = c.old.name in
      let N = length name in
      let F = length c.fresh in
      let parts = equal_nonempty_pieces_have_equal_parts t (token_with_bytes line k) tts (tokens_with_bytes line ks) e in
      let le = ordered_tokens_end_no_earlier_than_start k.stop (length line) ks a.2 in
      let at = old_name_place_is_token_start c line k t place a.1 le parts.0 n q in
      let some = definable_name_is_not_empty name named in
      let ends : place + N ≡ k.stop = omega (arith, at.0, at.1, a.1) in
      let apart : AreOffsetsApart N (place + N) (length line) places =
      lower_start_keeps_offsets_apart N k.stop (place + N) (length line) places (omega (arith, ends)) (renamed_places_are_apart c line tts uus places r k.stop ks parts.1 a.2) in
      let later =
      swaps tts uus places r (before ++ k ∷ []) ks parts.1 k.stop a.2 (subst (HasTokens m line) (sym (append_assoc before (k ∷ []) ks)) has) in
      let L = bytes_replaced_at_offsets N c.fresh places line in
      let T = map (token_after_renames N F places) ks in
      let agree : take (place + N) L ≡ take (place + N) line = replacement_keeps_bytes_before_first_place N c.fresh line (place + N) places apart (place + N) (omega arith) in
      let stands : slice_range L place (place + N) ≡ name =
      slice_of_equal_prefixes_is_equal L line place (place + N) (omega arith) agree
      ∙ ap₂ (λ (x y : ℕ). slice_range line x y) at.0 ends ∙ sym (ap (λ (u : TokenWithBytes). u.text) parts.0) ∙ n in
      let inside : place + N ≤ length L =
      omega (arith, ap length agree, length-take (place + N) L, length-take-le (place + N) line (omega (arith, ends, le)), ends, le) in
      let one : StandsAtPlaceInLine L name place = record { inside = inside; stands = stands } in
      let front = take place L in
      let rest = drop (place + N) L in
      let size = prefix_before_name_has_size_of_place L name place one in
      let token : k ≡ token_of_name_after front name =
      (let kinds : k.kind ≡ kind.Word = sym (ap (λ (u : TokenWithBytes). u.kind) parts.0) ∙ w in
      let starts : k.start ≡ length front = omega (arith, at.0, size) in
      let stops : k.stop ≡ length front + N = omega (arith, ends, size) in
      λ j. record { kind = kinds j; start = starts j; stop = stops j }) in
      let there : HasTokens m (front ++ (name ++ rest)) (before ++ token_of_name_after front name ∷ T) =
      subst (λ (x : Token). HasTokens m (front ++ (name ++ rest)) (before ++ x ∷ T)) token
      (subst (λ (x : List ℕ). HasTokens m x (before ++ k ∷ T)) (line_is_prefix_name_and_rest L name place one)
      (subst (HasTokens m L) (append_assoc before (k ∷ []) T) later.tokens)) in
      let start : length front ≡ offset_after_renames N F (place ∷ places) k.start =
      omega (arith, size, at.0)
      ∙ sym (offset_before_renames_is_unchanged N F N place (length line) (place ∷ places) k.start (omega arith, apart) (omega (arith, at.0))) in
      let stop : length front + F ≡ offset_after_renames N F (place ∷ places) k.stop =
      (let below : offset_after_renames N F places k.stop ≡ k.stop = offset_before_renames_is_unchanged N F N (place + N) (length line) places k.stop apart (omega (arith, ends)) in
      let sum : length front + F ≡ k.stop + F - N = omega (arith, size, ends) in
      sum ∙ sym (ap (offset_after_replacement N F) below) ∙ sym (offset_after_first_rename_is_replaced N F place places k.stop (omega (arith, ends, some)))) in
      let kinds : kind.Word ≡ k.kind = sym w ∙ ap (λ (u : TokenWithBytes). u.kind) parts.0 in
      let first : token_of_name_after front c.fresh ≡ token_after_renames N F (place ∷ places) k = λ j. record { kind = kinds j; start = start j; stop = stop j } in
      let others : tokens_after_replacement N F T ≡ map (token_after_renames N F (place ∷ places)) ks =
      tokens_after_renames_are_moved_again N F place N k.stop (length line) places ks (omega (arith, ends, some)) a.2 in
      let new = front ++ (c.fresh ++ rest) in
      let list : token_of_name_after front c.fresh ∷ tokens_after_replacement N F T ≡ map (token_after_renames N F (place ∷ places)) (k ∷ ks) =
      ap₂ (λ (x : Token) (xs : List Token). x ∷ xs) first others in
      let back = line_is_prefix_name_and_rest L name place one in
      record {
        tokens = subst (λ (x : List Token). HasTokens m new (before ++ x)) list (same m front name c.fresh rest before T named fresh there);
        mode = later.mode ∙ ap line_mode back ∙ modes m front name c.fresh rest before T named fresh there;
        logical = λ x. logical m front name c.fresh rest before T named fresh there (subst IsLogicalLine back (later.logical x));
        ends = later.ends ∙ ap (λ (x : List ℕ). ends_in_lf x) back ∙ endings front name c.fresh rest named fresh;
        texts = (
          ap (λ (u : TokenWithBytes). u.kind) parts.0,
          sym (new_name_stands_at_its_place L name c.fresh rest place one)
              ∙ ap₂ (λ (x y : ℕ). slice_range new x y) (sym size ∙ start) (ap (λ (x : ℕ). x + F) (sym size) ∙ stop),
          subst (λ (x : List Token). AreTokensWithTexts new x uus) others
              (token_texts_after_name_are_unchanged L name c.fresh place one k.stop (length L) T uus (omega (arith, ends))
              (tokens_after_others_are_ordered 0 (length L) before k T (ascend m L ((before ++ k ∷ []) ++ T) later.tokens)) later.texts),
        );
      }

-- ---- what is read

-- The new tokens are those of the new line.
renamed_pieces_are_tokens_of_new_line : (c : NameChange) (line text : List ℕ) (old new : ℕ) (all : List ℕ) → ((x : ℕ) → c.at x ≡ offset_after_renames old new all x)
    → ((t : TokenWithBytes) → c.last t ≡ begins_line_end_or_nothing (drop (offset_after_renames old new all t.stop) text))
    → (ts us : List TokenWithBytes) (ps : List ℕ) → AreTokensRenamedUpToRest c ps ts [] us [] → (ks : List Token) → ts ≡ tokens_with_bytes line ks
    → AreTokensWithTexts text (map (token_after_renames old new all) ks) us → us ≡ tokens_with_bytes text (map (token_after_renames old new all) ks)
renamed_pieces_are_tokens_of_new_line c line text old new all at last ts us ps (done rest left) [] e is = refl
renamed_pieces_are_tokens_of_new_line c line text old new all at last ts us ps (done rest left) (k ∷ ks) e is = absurd (cc)
renamed_pieces_are_tokens_of_new_line c line text old new all at last ts us ps (keep places t tts rest uus left r) [] e is = absurd (cc)
renamed_pieces_are_tokens_of_new_line c line text old new all at last ts us ps (keep places t tts rest uus left r) (k ∷ ks) e is =
    let parts = equal_nonempty_pieces_have_equal_parts t (token_with_bytes line k) tts (tokens_with_bytes line ks) e in
    let start = at t.start ∙ ap (λ (u : TokenWithBytes). offset_after_renames old new all u.start) parts.0 in
    let stop = at t.stop ∙ ap (λ (u : TokenWithBytes). offset_after_renames old new all u.stop) parts.0 in
    let end = last t ∙ ap (λ (u : TokenWithBytes). begins_line_end_or_nothing (drop (offset_after_renames old new all u.stop) text)) parts.0 in
    let first : piece_with_moved_offsets c t ≡ token_with_bytes text (token_after_renames old new all k) = λ j. record {
      kind = is.0 j;
      text = is.1 j;
      start = start j;
      stop = stop j;
      last = end j;
    } in
    ap₂ (λ (x : TokenWithBytes) (xs : List TokenWithBytes). x ∷ xs) first (renamed_pieces_are_tokens_of_new_line c line text old new all at last tts uus ps r ks parts.1 is.2)
renamed_pieces_are_tokens_of_new_line c line text old new all at last ts us ps (swap place places t tts rest uus left w n q r) [] e is = absurd (cc)
renamed_pieces_are_tokens_of_new_line c line text old new all at last ts us ps (swap place places t tts rest uus left w n q r) (k ∷ ks) e is =
    let parts = equal_nonempty_pieces_have_equal_parts t (token_with_bytes line k) tts (tokens_with_bytes line ks) e in
    let start = at t.start ∙ ap (λ (u : TokenWithBytes). offset_after_renames old new all u.start) parts.0 in
    let stop = at t.stop ∙ ap (λ (u : TokenWithBytes). offset_after_renames old new all u.stop) parts.0 in
    let end = last t ∙ ap (λ (u : TokenWithBytes). begins_line_end_or_nothing (drop (offset_after_renames old new all u.stop) text)) parts.0 in
    let first : piece_with_new_name c t ≡ token_with_bytes text (token_after_renames old new all k) = λ j. record {
      kind = is.0 j;
      text = is.1 j;
      start = start j;
      stop = stop j;
      last = end j;
    } in
    ap₂ (λ (x : TokenWithBytes) (xs : List TokenWithBytes). x ∷ xs) first (renamed_pieces_are_tokens_of_new_line c line text old new all at last tts uus places r ks parts.1 is.2)

replaced_offsets_have_same_equality : (old new a b : ℕ) → old ≤ a → old ≤ b → (offset_after_replacement old new a == offset_after_replacement old new b) ≡ (a == b)
replaced_offsets_have_same_equality old new a b h l =
    elim (eqb_tells a b) [
      | inl w ↦ (Decides-eqb (offset_after_replacement old new a) (offset_after_replacement old new b)).1 (ap (offset_after_replacement old new) w.1) ∙ sym w.0
      | inr w ↦ no (offset_after_replacement old new a == offset_after_replacement old new b) refl w.1 ∙ sym w.0
    ]
  where
    no : (t : Bool) → (offset_after_replacement old new a == offset_after_replacement old new b) ≡ t → (a ≡ b → ⊥)
        → (offset_after_replacement old new a == offset_after_replacement old new b) ≡ false
    no false e other = e
    no true e other = absurd (other (let same = (Decides-eqb (offset_after_replacement old new a) (offset_after_replacement old new b)).0 e in omega (arith, same, h, l)))

-- A token stands directly behind the first where it did.
renamed_tokens_keep_next_adjacency : (c : NameChange) (line : List ℕ) (new : ℕ) (ts us : List TokenWithBytes) (ps : List ℕ) → IsDefinableName c.old.name
    → ((x : ℕ) → c.at x ≡ offset_after_renames (length c.old.name) new ps x) → AreTokensRenamedUpToRest c ps ts [] us []
    → (ks : List Token) → ts ≡ tokens_with_bytes line ks → AreOrderedTokens 0 (length line) ks → KeepsSecondTokenAdjacency c ts
renamed_tokens_keep_next_adjacency c line new ts us ps named at r [] e a = subst (KeepsSecondTokenAdjacency c) (sym e) tt
renamed_tokens_keep_next_adjacency c line new ts us ps named at r (k ∷ []) e a = subst (KeepsSecondTokenAdjacency c) (sym e) tt
renamed_tokens_keep_next_adjacency c line new ts us ps named at (done rest left) (k ∷ l ∷ ks) e a = absurd (cc)
renamed_tokens_keep_next_adjacency c line new ts us ps named at (keep places t tts rest uus left r) (k ∷ l ∷ ks) e a =
    let N = length c.old.name in
    let parts = equal_nonempty_pieces_have_equal_parts t (token_with_bytes line k) tts (tokens_with_bytes line (l ∷ ks)) e in
    let apart : AreOffsetsApart N l.start (length line) ps = renamed_places_are_apart c line tts uus ps r l.start (l ∷ ks) parts.1 (omega arith, a.2.1, a.2.2) in
    let first = at l.start ∙ offset_before_renames_is_unchanged N new N l.start (length line) ps l.start apart (omega arith) in
    let behind = at k.stop ∙ offset_before_renames_is_unchanged N new N l.start (length line) ps k.stop apart (omega (arith, a.2.0)) in
    subst (KeepsSecondTokenAdjacency c) (sym e) (ap₂ (λ (x y : ℕ). x == y) first behind)
renamed_tokens_keep_next_adjacency c line new ts us ps named at (swap place places t tts rest uus left w n q r) (k ∷ l ∷ ks) e a =
    let N = length c.old.name in
    let parts = equal_nonempty_pieces_have_equal_parts t (token_with_bytes line k) tts (tokens_with_bytes line (l ∷ ks)) e in
    let le = ordered_tokens_end_no_earlier_than_start k.stop (length line) (l ∷ ks) a.2 in
    let here = old_name_place_is_token_start c line k t place a.1 le parts.0 n q in
    let apart : AreOffsetsApart N l.start (length line) places = renamed_places_are_apart c line tts uus places r l.start (l ∷ ks) parts.1 (omega arith, a.2.1, a.2.2) in
    let first =
    at l.start ∙ offset_after_first_rename_is_replaced N new place places l.start (omega (arith, here.0, a.1, a.2.0))
    ∙ ap (offset_after_replacement N new) (offset_before_renames_is_unchanged N new N l.start (length line) places l.start apart (omega arith)) in
    let behind =
    at k.stop ∙ offset_after_first_rename_is_replaced N new place places k.stop (omega (arith, here.0, a.1))
    ∙ ap (offset_after_replacement N new) (offset_before_renames_is_unchanged N new N l.start (length line) places k.stop apart (omega (arith, a.2.0))) in
    subst (KeepsSecondTokenAdjacency c) (sym e) (ap₂ (λ (x y : ℕ). x == y) first behind
    ∙ replaced_offsets_have_same_equality N new l.start k.stop (omega (arith, here.1, a.1, a.2.0)) (omega (arith, here.1, a.1)))

-- another name for an alias in this line, which says this
abbrev pub name_change_of_alias_in_line : NamedAlias → List ℕ → Node → List ℕ → NameChange
name_change_of_alias_in_line old fresh n line = record {
  old = old;
  fresh = fresh;
  at = offset_after_renames (length old.name) (length fresh) (alias_offsets_in_node old n);
  last = λ t. begins_line_end_or_nothing (drop (offset_after_renames (length old.name) (length fresh) (alias_offsets_in_node old n) t.stop) (line_text_after_rename old fresh n line));
}

module _ (ascend : TokensOfLinesAreOrdered) (same : RenamedLineHasMovedTokens) (modes : RenamingKeepsLineMode) (logical : RenamingKeepsLogicalLine) (endings : RenamingKeepsLfEnd) (old : NamedAlias)
    (fresh line : List ℕ) (n : Node) (named : IsDefinableName old.name) (free : IsDefinableName fresh) (is : LineReadsAsNode line n) where
  -- what the line's tokens become
  all : IsLineWithNameReplaced (line_mode line) line old.name fresh (alias_offsets_in_node old n) [] is.tokens
      (renamed_tokens_read_as_renamed_node (name_change_of_alias_in_line old fresh n line) (tokens_with_bytes line is.tokens) n free is.reads).0
  all =
      let c = name_change_of_alias_in_line old fresh n line in
      let turned = renamed_tokens_read_as_renamed_node c (tokens_with_bytes line is.tokens) n free is.reads in
      swaps ascend same modes logical endings c named free (line_mode line) line (tokens_with_bytes line is.tokens) turned.0 (alias_offsets_in_node old n) turned.2 []
      is.tokens refl 0 (ascend (line_mode line) line is.tokens is.has) is.has

  pub reads_line : LineReadsAsNode (line_text_after_rename old fresh n line) (node_with_alias_renamed (renaming_of_alias_in_node old fresh n) n)
  reads_line =
      let c = name_change_of_alias_in_line old fresh n line in
      let ts = tokens_with_bytes line is.tokens in
      let turned = renamed_tokens_read_as_renamed_node c ts n free is.reads in
      let ps = alias_offsets_in_node old n in
      let N = length old.name in
      let F = length fresh in
      let us = renamed_pieces_are_tokens_of_new_line c line (line_text_after_rename old fresh n line) N F ps (λ x. refl) (λ t. refl) ts turned.0 ps turned.2 is.tokens refl all.texts in
      let keeps = renamed_tokens_keep_next_adjacency c line F ts turned.0 ps named (λ x. refl) turned.2 is.tokens refl (ascend (line_mode line) line is.tokens is.has) in
      record {
        tokens = map (token_after_renames N F ps) is.tokens;
        has = subst (λ (m : Mode). HasTokens m (line_text_after_rename old fresh n line) (map (token_after_renames N F ps) is.tokens)) all.mode all.tokens;
        reads = subst (λ (x : List TokenWithBytes). Reads x (node_with_alias_renamed (alias_renaming_of_change c) n)) us (turned.1 keeps);
      }

  pub stays_logical : IsLogicalLine line → IsLogicalLine (line_text_after_rename old fresh n line)
  stays_logical = all.logical

  pub ends_same : ends_in_lf line ≡ ends_in_lf (line_text_after_rename old fresh n line)
  ends_same = all.ends
