-- Lines of which one is another.
use Rattle.sudoers_edit.proofs.Common.{AllByRecursion, Bool, Line, List, Node, Some, [], ap, ap₂, arith, ends_in_lf, false, has_inner_line_without_lf, inl, inr, leb_tells, length, lines_with_one_replaced, nat_lt}
use Rattle.sudoers_edit.proofs.Common.{not, or_false, reading_of_single_line, refl, slice_get, suc, sym, texts_of_lines, true, zero, ℕ, ◌-◌, ◌<◌, ◌||◌, ◌∙◌, ◌∷◌, ◌≡◌, ◌≤◌, ◌⊎◌}

disjunction_of_falsehoods_is_false : (a b : Bool) → a ≡ false → b ≡ false → (a || b) ≡ false
disjunction_of_falsehoods_is_false a b x y = rw (x, y) refl

-- a line that ends in LF, or is the last
pub ended_or_last_replacement_keeps_ended_lines : (ls : List (List ℕ)) (at : ℕ) (t : List ℕ) → has_inner_line_without_lf ls ≡ false → (ends_in_lf t ≡ true) ⊎ (length ls ≤ suc at)
    → has_inner_line_without_lf (lines_with_one_replaced at t ls) ≡ false
ended_or_last_replacement_keeps_ended_lines [] at t h good = refl
ended_or_last_replacement_keeps_ended_lines (l ∷ []) zero t h good = refl
ended_or_last_replacement_keeps_ended_lines (l ∷ []) (suc at) t h good = refl
ended_or_last_replacement_keeps_ended_lines (l ∷ k ∷ ls) zero t h (inl ends) = rw ends (or_false _ _ h).1
ended_or_last_replacement_keeps_ended_lines (l ∷ k ∷ ls) zero t h (inr last) = absurd (omega (arith, last))
ended_or_last_replacement_keeps_ended_lines (l ∷ k ∷ ls) (suc zero) t h good =
    disjunction_of_falsehoods_is_false (not (ends_in_lf l)) (has_inner_line_without_lf (t ∷ ls)) (or_false _ _ h).0 (ended_or_last_replacement_keeps_ended_lines (k ∷ ls) zero t (or_false _ _ h).1 (shorter good))
  where
    shorter : {A : Type 0} → A ⊎ (length (l ∷ k ∷ ls) ≤ suc (suc zero)) → A ⊎ (length (k ∷ ls) ≤ suc zero)
    shorter (inl a) = inl a
    shorter (inr b) = inr (omega (arith, b))
ended_or_last_replacement_keeps_ended_lines (l ∷ k ∷ ls) (suc (suc at)) t h good =
    disjunction_of_falsehoods_is_false (not (ends_in_lf l)) (has_inner_line_without_lf (k ∷ lines_with_one_replaced at t ls)) (or_false _ _ h).0 (ended_or_last_replacement_keeps_ended_lines (k ∷ ls) (suc at) t (or_false _ _ h).1 (shorter good))
  where
    shorter : {A : Type 0} → A ⊎ (length (l ∷ k ∷ ls) ≤ suc (suc (suc at))) → A ⊎ (length (k ∷ ls) ≤ suc (suc at))
    shorter (inl a) = inl a
    shorter (inr b) = inr (omega (arith, b))

-- a line without LF before another
pub open_replacement_before_last_is_inner : (ls : List (List ℕ)) (at : ℕ) (t : List ℕ) → suc at < length ls → ends_in_lf t ≡ false → has_inner_line_without_lf (lines_with_one_replaced at t ls) ≡ true
open_replacement_before_last_is_inner [] at t before open_ = absurd (omega (arith, before))
open_replacement_before_last_is_inner (l ∷ []) at t before open_ = absurd (omega (arith, before))
open_replacement_before_last_is_inner (l ∷ k ∷ ls) zero t before open_ = rw open_ refl
open_replacement_before_last_is_inner (l ∷ k ∷ ls) (suc zero) t before open_ = truly (not (ends_in_lf l)) (has_inner_line_without_lf (t ∷ ls)) (open_replacement_before_last_is_inner (k ∷ ls) zero t (omega (arith, before)) open_)
  where
    truly : (a b : Bool) → b ≡ true → (a || b) ≡ true
    truly true b is = refl
    truly false b is = is
open_replacement_before_last_is_inner (l ∷ k ∷ ls) (suc (suc at)) t before open_ =
    truly (not (ends_in_lf l)) (has_inner_line_without_lf (k ∷ lines_with_one_replaced at t ls)) (open_replacement_before_last_is_inner (k ∷ ls) (suc at) t (omega (arith, before)) open_)
  where
    truly : (a b : Bool) → b ≡ true → (a || b) ≡ true
    truly true b is = refl
    truly false b is = is

-- POLICIES

abbrev pub EachReadsAsItsNode : List Line → Type 0
EachReadsAsItsNode lines = AllByRecursion (λ (line : Line). reading_of_single_line line.text ≡ Some line.node) lines

-- the policy with another line at a place
unfoldable pub lines_with_line_put : ℕ → Line → List Line → List Line
lines_with_line_put at line [] = []
lines_with_line_put zero line (old ∷ lines) = line ∷ lines
lines_with_line_put (suc at) line (old ∷ lines) = old ∷ lines_with_line_put at line lines

pub texts_with_line_put_are_replaced_texts : (lines : List Line) (at : ℕ) (line : Line) → texts_of_lines (lines_with_line_put at line lines) ≡ lines_with_one_replaced at line.text (texts_of_lines lines)
unfolding lines_with_line_put
texts_with_line_put_are_replaced_texts [] at line = refl
texts_with_line_put_are_replaced_texts (old ∷ lines) zero line = refl
texts_with_line_put_are_replaced_texts (old ∷ lines) (suc at) line = ap (λ z. old.text ∷ z) (texts_with_line_put_are_replaced_texts lines at line)

pub line_put_keeps_readings : (lines : List Line) (at : ℕ) (line : Line) → EachReadsAsItsNode lines → reading_of_single_line line.text ≡ Some line.node → EachReadsAsItsNode (lines_with_line_put at line lines)
unfolding lines_with_line_put
line_put_keeps_readings [] at line all is = tt
line_put_keeps_readings (old ∷ lines) zero line all is = (is, all.1)
line_put_keeps_readings (old ∷ lines) (suc at) line all is = (all.0, line_put_keeps_readings lines at line all.1 is)

pub line_put_is_at_its_number : (lines : List Line) (at : ℕ) (line old : Line) → slice_get lines at ≡ Some old → slice_get (lines_with_line_put at line lines) at ≡ Some line
unfolding lines_with_line_put
line_put_is_at_its_number [] at line old here = absurd (cc)
line_put_is_at_its_number (l ∷ lines) zero line old here = refl
line_put_is_at_its_number (l ∷ lines) (suc at) line old here = line_put_is_at_its_number lines at line old here

equal_options_have_equal_nodes : (a b : Node) → Some a ≡ Some b → a ≡ b
equal_options_have_equal_nodes a b is = cc

equal_lists_have_equal_first_and_rest : (a b : List ℕ) (xs ys : List (List ℕ)) → a ∷ xs ≡ b ∷ ys → (a ≡ b) × (xs ≡ ys)
equal_lists_have_equal_first_and_rest a b xs ys is = (cc, cc)

-- what lines say is known from their texts
pub read_lines_of_equal_texts_are_equal : (ls ms : List Line) → EachReadsAsItsNode ls → EachReadsAsItsNode ms → texts_of_lines ls ≡ texts_of_lines ms → ls ≡ ms
read_lines_of_equal_texts_are_equal [] [] a b same = refl
read_lines_of_equal_texts_are_equal [] (m ∷ ms) a b same = absurd (cc)
read_lines_of_equal_texts_are_equal (l ∷ ls) [] a b same = absurd (cc)
read_lines_of_equal_texts_are_equal (l ∷ ls) (m ∷ ms) a b same =
    let parts = equal_lists_have_equal_first_and_rest l.text m.text (texts_of_lines ls) (texts_of_lines ms) same in
    let nodes : l.node ≡ m.node = equal_options_have_equal_nodes l.node m.node (sym a.0 ∙ ap reading_of_single_line parts.0 ∙ b.0) in
    let line : l ≡ m = ap₂ (λ t n. record { text = t; node = n }) parts.0 nodes in
    ap₂ (λ x xs. x ∷ xs) line (read_lines_of_equal_texts_are_equal ls ms a.1 b.1 parts.1)

pub replaced_text_is_restored : (lines : List Line) (at : ℕ) (t : List ℕ) (old : Line) → slice_get lines at ≡ Some old → lines_with_one_replaced at old.text (lines_with_one_replaced at t (texts_of_lines lines)) ≡ texts_of_lines lines
replaced_text_is_restored [] at t old here = refl
replaced_text_is_restored (l ∷ lines) zero t old here = let e : l ≡ old = cc in ap (λ (x : Line). x.text ∷ texts_of_lines lines) (sym e)
replaced_text_is_restored (l ∷ lines) (suc at) t old here = ap (λ z. l.text ∷ z) (replaced_text_is_restored lines at t old here)

-- whether a line without LF is the last
pub open_replacement_is_inner_iff_before_last : (ls : List (List ℕ)) (at : ℕ) (t : List ℕ) (n : ℕ) → n ≡ length ls → at < length ls → has_inner_line_without_lf ls ≡ false → ends_in_lf t ≡ false
    → nat_lt 1 (n - at) ≡ has_inner_line_without_lf (lines_with_one_replaced at t ls)
open_replacement_is_inner_iff_before_last ls at t n size within h open_ = elim (leb_tells 2 (n - at)) [
  | inl more ↦ more.0 ∙ sym (open_replacement_before_last_is_inner ls at t (omega (arith, more.1, size, within)) open_)
  | inr last ↦ last.0 ∙ sym (ended_or_last_replacement_keeps_ended_lines ls at t h (inr (omega (arith, last.1, size, within))))
]
