-- Whether a text is one logical line.
use Rattle.std.proofs.Common.{◌≡◌, ◌⊎◌, ◌↔◌, inl, inr, ℕ, zero, suc, ◌-◌, ◌<◌, ◌≤◌, Bool, true, false, not, List, [], ◌∷◌, ◌++◌, length, take, drop, refl, sym, ap, subst, ◌∙◌, arith, Some, append-nil, Decides}
use Rattle.std.specs.Prelude.{◌==◌, ◌&&◌, slice_get, slice_range}
use Rattle.std.specs.List.{list_any}
use Rattle.std.proofs.lemmas.List.{length-take-le, take-append-drop, take_all, drop_all}
use Rattle.std.proofs.lemmas.Option.{slice_get_within}
use Rattle.std.proofs.lemmas.Bool.{cases_lt, false≢true}
use Rattle.std.proofs.lemmas.Bool.Decides.{Decides-eqb, Decides-not, Decides-and, Decides-or, Decides-like, same_from_decides}
use Rattle.sudoers_text.specs.Unit.{is_empty}
use Rattle.sudoers_text.specs.Line.{IsLogicalLineBefore, IsUnfinishedLine, AreLinesOfText}
use Rattle.sudoers_text.specs.Cut.{first_line_size, is_unfinished_line}
use Rattle.sudoers_text.specs.Whole.{IsLogicalLine, is_logical_line}
use Rattle.sudoers_text.proofs.Computed.{first_line_prefix_is_logical_line, first_line_size_is_within_text, unfinished_line_is_computed_unfinished, computed_unfinished_line_is_unfinished}
use Rattle.sudoers_text.proofs.First.{IsFirstNul}
use Rattle.sudoers_text.proofs.Pieces.{rest_from_place_is_slice_and_rest, slice_size_is_difference_of_places}
use Rattle.sudoers_text.proofs.Unique.{logical_line_at_text_start_is_unique, logical_line_has_positive_size as line_some}

-- ---- what is computed

nonempty_test_decides_positive_length : (text : List ℕ) → Decides (not (is_empty text)) (0 < length text)
nonempty_test_decides_positive_length [] = (λ e. absurd (cc), λ l. absurd (omega arith))
nonempty_test_decides_positive_length (b ∷ text) = (λ _. omega arith, λ _. refl)

-- a first line that is the whole text
text_with_full_first_line_is_line : (text : List ℕ) → 0 < length text → first_line_size text ≡ length text → AreLinesOfText text (text ∷ [])
text_with_full_first_line_is_line text some size =
    let front : take (first_line_size text) text ≡ text = take_all (first_line_size text) text (omega (arith, size)) in
    let none : drop (first_line_size text) text ≡ [] = drop_all (first_line_size text) text (omega (arith, size)) in
    let line = subst (λ (t : List ℕ). IsLogicalLineBefore (take (first_line_size text) text) t) none (first_line_prefix_is_logical_line text some) in
    record { joined = append-nil text; each = (subst (λ (t : List ℕ). IsLogicalLineBefore t []) front line, tt) }

single_line_has_size_of_text : (text : List ℕ) → AreLinesOfText text (text ∷ []) → first_line_size text ≡ length text
single_line_has_size_of_text text cuts =
    let size = first_line_size text in
    let some = line_some text [] cuts.each.0 in
    let whole : take size text ++ drop size text ≡ text ++ [] = take-append-drop size text ∙ sym (append-nil text) in
    let same = logical_line_at_text_start_is_unique (take size text) (drop size text) text [] (first_line_prefix_is_logical_line text some) cuts.each.0 whole in
    omega (arith, ap length same.0, length-take-le size text (first_line_size_is_within_text text))

first_line_size_test_decides_one_line : (text : List ℕ) → Decides (not (is_empty text) && (first_line_size text == length text)) (AreLinesOfText text (text ∷ []))
first_line_size_test_decides_one_line text =
    let some = not (is_empty text) in
    let whole = first_line_size text == length text in
    Decides-like (some && whole) (λ both. text_with_full_first_line_is_line text both.0 both.1)
    (λ cuts. (line_some text [] cuts.each.0, single_line_has_size_of_text text cuts))
    (Decides-and some whole (nonempty_test_decides_positive_length text) (Decides-eqb (first_line_size text) (length text)))

-- a NUL stands in the text
abbrev HasNul : List ℕ → Type 0
HasNul text = (at : ℕ) × (slice_get text at ≡ Some 0)

nul_in_head_or_tail_is_nul : (b : ℕ) (text : List ℕ) → (b ≡ 0) ⊎ HasNul text → HasNul (b ∷ text)
nul_in_head_or_tail_is_nul b text (inl same) = (0, ap (λ (c : ℕ). Some c) same)
nul_in_head_or_tail_is_nul b text (inr (at, here)) = (suc at, here)

nul_is_in_head_or_tail : (b : ℕ) (text : List ℕ) → HasNul (b ∷ text) → (b ≡ 0) ⊎ HasNul text
nul_is_in_head_or_tail b text (zero, here) = inl (cc)
nul_is_in_head_or_tail b text (suc at, here) = inr (at, here)

nul_test_decides_nul_of_text : (text : List ℕ) → Decides (list_any (λ b. b == 0) text) (HasNul text)
nul_test_decides_nul_of_text [] = (λ e. absurd (cc), λ (at, here). absurd (cc))
nul_test_decides_nul_of_text (b ∷ text) =
    Decides-like (list_any (λ c. c == 0) (b ∷ text)) (nul_in_head_or_tail_is_nul b text) (nul_is_in_head_or_tail b text)
    (Decides-or (b == 0) (list_any (λ c. c == 0) text) (Decides-eqb b 0) (nul_test_decides_nul_of_text text))

-- What is computed tells whether the text is one logical line.
pub logical_line_test_decides_logical_line : (text : List ℕ) → Decides (is_logical_line text) (IsLogicalLine text)
unfolding is_logical_line
logical_line_test_decides_logical_line text =
    let whole = not (is_empty text) && (first_line_size text == length text) in
    let clean = not (list_any (λ b. b == 0) text) in
    let closed = not (is_unfinished_line text) in
    Decides-like (whole && clean && closed)
    (λ all. record { cuts = all.0.0; clean = λ at here. all.0.1 (at, here); closed = all.1 })
    (λ is. ((is.cuts, λ (at, here). is.clean at here), is.closed))
    (Decides-and (whole && clean) closed
    (Decides-and whole clean (first_line_size_test_decides_one_line text) (Decides-not (list_any (λ b. b == 0) text) (nul_test_decides_nul_of_text text)))
    (Decides-not (is_unfinished_line text) (computed_unfinished_line_is_unfinished text, unfinished_line_is_computed_unfinished text)))

-- A text that is no logical line.
pub no_logical_line_has_false_test : (text : List ℕ) → (IsLogicalLine text → ⊥) → false ≡ is_logical_line text
no_logical_line_has_false_test text none =
    same_from_decides false (is_logical_line text) (λ e. absurd (cc), λ is. absurd (none is)) (logical_line_test_decides_logical_line text)

-- No logical line is empty.
pub logical_line_is_not_empty : (text : List ℕ) → IsLogicalLine text → 0 < length text
logical_line_is_not_empty text is = line_some text [] is.cuts.each.0

-- ---- what is read

-- The first line of the text stops here. continues: where this is the text's end, whether the line is open.
pub record IsStopOfFirstLine (text : List ℕ) (stop : ℕ) (continues : Bool) : Type 0 where
  pub inside : stop ≤ length text
  pub line : IsLogicalLineBefore (slice_range text 0 stop) (drop stop text)
  pub open_text : stop ≡ length text → (continues ≡ true) ↔ IsUnfinishedLine (slice_range text 0 stop)

-- from the beginning to the end
slice_up_to_text_end_is_text : (text : List ℕ) (stop : ℕ) → stop ≡ length text → slice_range text 0 stop ≡ text
slice_up_to_text_end_is_text text stop all = take_all (stop - 0) text (omega (arith, all))

-- A line that is the whole text stops at its end.
pub logical_line_stops_at_text_end : (text : List ℕ) (stop : ℕ) (continues : Bool) → IsStopOfFirstLine text stop continues → IsLogicalLine text
    → stop ≡ length text
logical_line_stops_at_text_end text stop continues first is =
    let whole : slice_range text 0 stop ++ drop stop text ≡ text ++ [] =
    sym (rest_from_place_is_slice_and_rest text 0 stop (omega arith)) ∙ sym (append-nil text) in
    let same = logical_line_at_text_start_is_unique (slice_range text 0 stop) (drop stop text) text [] first.line is.cuts.each.0 whole in
    omega (arith, ap length same.0, slice_size_is_difference_of_places text 0 stop first.inside)

-- A line that continues is no logical line.
pub text_that_continues_is_no_logical_line : (text : List ℕ) (stop : ℕ) (continues : Bool) → stop ≡ length text → not continues ≡ false
    → IsStopOfFirstLine text stop continues → IsLogicalLine text → ⊥
text_that_continues_is_no_logical_line text stop true all e first is =
    is.closed (subst (λ (t : List ℕ). IsUnfinishedLine t) (slice_up_to_text_end_is_text text stop all) ((first.open_text all).0 refl))
text_that_continues_is_no_logical_line text stop false all e first is = absurd (cc)

logical_line_has_first_nul_at_end : (text : List ℕ) (nul : ℕ) → IsFirstNul text nul → IsLogicalLine text → nul ≡ length text
logical_line_has_first_nul_at_end text nul first is =
    elim (cases_lt nul (length text)) [
      | inl below ↦ absurd (is.clean nul (first.found below))
      | inr past ↦ omega (arith, past, first.inside)
    ]

nul_at_end_decides_logical_line : (text : List ℕ) (stop nul : ℕ) → stop ≡ length text → IsStopOfFirstLine text stop false → IsFirstNul text nul
    → Decides (nul == length text) (IsLogicalLine text)
nul_at_end_decides_logical_line text stop nul all first clean =
    let same = slice_up_to_text_end_is_text text stop all in
    let none : drop stop text ≡ [] = drop_all stop text (omega (arith, all)) in
    let line = subst (λ (t : List ℕ). IsLogicalLineBefore (slice_range text 0 stop) t) none first.line in
    let shut : IsUnfinishedLine text → ⊥ = λ unfinished.
    false≢true ((first.open_text all).1 (subst (λ (t : List ℕ). IsUnfinishedLine t) (sym same) unfinished)) in
    Decides-like (nul == length text)
    (λ past. record {
      cuts = record { joined = append-nil text; each = (subst (λ (t : List ℕ). IsLogicalLineBefore t []) same line, tt) };
      clean = λ at here. clean.before at (omega (arith, past, slice_get_within text at 0 here)) here;
      closed = shut;
    })
    (logical_line_has_first_nul_at_end text nul clean) (Decides-eqb nul (length text))

-- Where the first line is the whole text and does not continue, the place of the first NUL tells.
pub nul_place_test_is_logical_line_test : (text : List ℕ) (stop nul : ℕ) (continues : Bool) → stop ≡ length text → not continues ≡ true
    → IsStopOfFirstLine text stop continues → IsFirstNul text nul → (nul == length text) ≡ is_logical_line text
nul_place_test_is_logical_line_test text stop nul true all e first clean = absurd (cc)
nul_place_test_is_logical_line_test text stop nul false all e first clean =
    let decides = nul_at_end_decides_logical_line text stop nul all first clean in
    same_from_decides (nul == length text) (is_logical_line text) decides (logical_line_test_decides_logical_line text)
