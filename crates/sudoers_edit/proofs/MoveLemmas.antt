-- The changes that move a line of a file.
use Rattle.sudoers_edit.proofs.Common.{AreApplicableChangesOfFile, AreLogicalLinesOfFileWithinTextLimit, FirstChangeLaw, IsLogicalLine, LineChange, LineTexts, List, NoChangesLaw, Put, Take, [], ap, arith, drop, false, inl, inr, insert}
use Rattle.sudoers_edit.proofs.Common.{leb_tells, length, length-drop, line_changes_of_move, lines_after_changes, lines_with_one_moved, nat_lt, refl, remove, slice_index_or, subst, suc, sym, take, true, zero, ℕ}
use Rattle.sudoers_edit.proofs.Common.{◌++◌, ◌+◌, ◌-◌, ◌<◌, ◌∙◌, ◌∷◌, ◌≡◌, ◌≤◌}
use Rattle.std.specs.Prelude.{if◌then◌else◌}
use Rattle.sudoers_edit.proofs.PlanLemmas.{numbered_logical_line_is_logical}

front_text_and_rest_are_insert : (ls : LineTexts) (k : ℕ) (t : List ℕ) → k ≤ length ls → take k ls ++ t ∷ drop k ls ≡ insert ls k t
front_text_and_rest_are_insert ls zero t within = refl
front_text_and_rest_are_insert [] (suc k) t within = absurd (omega (arith, within))
front_text_and_rest_are_insert (l ∷ ls) (suc k) t within = ap (λ (z : LineTexts). l ∷ z) (front_text_and_rest_are_insert ls k t (omega (arith, within)))

front_and_rest_behind_are_removal : (ls : LineTexts) (k : ℕ) → k < length ls → take k ls ++ drop (suc k) ls ≡ remove ls k
front_and_rest_behind_are_removal [] k within = absurd (omega (arith, within))
front_and_rest_behind_are_removal (l ∷ ls) zero within = refl
front_and_rest_behind_are_removal (l ∷ ls) (suc k) within = ap (λ (z : LineTexts). l ∷ z) (front_and_rest_behind_are_removal ls k (omega (arith, within)))

-- a line is taken out, and one is put in behind
move_down_parts_are_removal_and_insert : (ls : LineTexts) (from to k : ℕ) (t : List ℕ) → to ≡ from + k → to < length ls
    → take from ls ++ (take k (drop (suc from) ls) ++ t ∷ drop k (drop (suc from) ls)) ≡ insert (remove ls from) to t
move_down_parts_are_removal_and_insert [] from to k t sum within = absurd (omega (arith, within))
move_down_parts_are_removal_and_insert (l ∷ ls) zero to k t sum within =
    let same : k ≡ to = omega (arith, sum) in
    front_text_and_rest_are_insert ls k t (omega (arith, within, same)) ∙ ap (λ n. insert ls n t) same
move_down_parts_are_removal_and_insert (l ∷ ls) (suc from) zero k t sum within = absurd (omega (arith, sum))
move_down_parts_are_removal_and_insert (l ∷ ls) (suc from) (suc to) k t sum within = ap (λ (z : LineTexts). l ∷ z) (move_down_parts_are_removal_and_insert ls from to k t (omega (arith, sum)) (omega (arith, within)))

-- a line is put in, and one behind is taken out
move_up_parts_are_removal_and_insert : (ls : LineTexts) (from to k : ℕ) (t : List ℕ) → from ≡ to + k → from < length ls
    → take to ls ++ (t ∷ (take k (drop to ls) ++ drop (suc k) (drop to ls))) ≡ insert (remove ls from) to t
move_up_parts_are_removal_and_insert ls from zero k t sum within =
    let same : k ≡ from = omega (arith, sum) in
    ap (λ (z : LineTexts). t ∷ z) (front_and_rest_behind_are_removal ls k (omega (arith, within, same)) ∙ ap (remove ls) same)
move_up_parts_are_removal_and_insert [] from (suc to) k t sum within = absurd (omega (arith, within))
move_up_parts_are_removal_and_insert (l ∷ ls) zero (suc to) k t sum within = absurd (omega (arith, sum))
move_up_parts_are_removal_and_insert (l ∷ ls) (suc from) (suc to) k t sum within = ap (λ (z : LineTexts). l ∷ z) (move_up_parts_are_removal_and_insert ls from to k t (omega (arith, sum)) (omega (arith, within)))

changes_of_move_down_make_moved_lines : NoChangesLaw → FirstChangeLaw → (f : ℕ) (ls : LineTexts) (from to : ℕ) (t : List ℕ) → from < to → to < length ls
    → lines_after_changes (Take f from ∷ Put f (to + 1) t ∷ []) ls ≡ insert (remove ls from) to t
changes_of_move_down_make_moved_lines none first f ls from to t order within =
    let k : ℕ = to - from in
    let behind : LineTexts = drop (from + 1 - 0) ls in
    let next : ℕ = to + 1 - (from + 1) in
    let a : from - 0 ≡ from = omega arith in
    let b : next ≡ k = omega (arith, order) in
    let c : from + 1 - 0 ≡ suc from = omega arith in
    let last : to ≡ from + k = omega (arith, order) in
    first 0 (Take f from) (Put f (to + 1) t ∷ []) ls (omega arith, (omega (arith, order), omega (arith, within)))
    ∙ ap (λ (z : LineTexts). take (from - 0) ls ++ z)
    (first (from + 1) (Put f (to + 1) t) [] behind (omega (arith, order), omega (arith, order, within, length-drop (from + 1 - 0) ls))
    ∙ ap (λ (z : LineTexts). take next behind ++ t ∷ z) (none (to + 1) (drop next behind)))
    ∙ ap (λ n. take n ls ++ (take next behind ++ t ∷ drop next behind)) a
    ∙ ap (λ n. take from ls ++ (take n behind ++ t ∷ drop n behind)) b
    ∙ ap (λ n. take from ls ++ (take k (drop n ls) ++ t ∷ drop k (drop n ls))) c
    ∙ move_down_parts_are_removal_and_insert ls from to k t last within

changes_of_move_up_make_moved_lines : NoChangesLaw → FirstChangeLaw → (f : ℕ) (ls : LineTexts) (from to : ℕ) (t : List ℕ) → to < from → from < length ls
    → lines_after_changes (Put f to t ∷ Take f from ∷ []) ls ≡ insert (remove ls from) to t
changes_of_move_up_make_moved_lines none first f ls from to t order within =
    let k : ℕ = from - to in
    let behind : LineTexts = drop (to - 0) ls in
    let next : ℕ = from + 1 - to in
    let a : to - 0 ≡ to = omega arith in
    let b : next ≡ suc k = omega (arith, order) in
    let last : from ≡ to + k = omega (arith, order) in
    first 0 (Put f to t) (Take f from ∷ []) ls (omega arith, (omega (arith, order), omega (arith, within)))
    ∙ ap (λ (z : LineTexts). take (to - 0) ls ++ t ∷ z)
    (first to (Take f from) [] behind (omega (arith, order), omega (arith, order, within, length-drop (to - 0) ls))
    ∙ ap (λ (z : LineTexts). take k behind ++ z) (none (from + 1) (drop next behind)))
    ∙ ap (λ n. take n ls ++ t ∷ (take k (drop n ls) ++ drop next (drop n ls))) a
    ∙ ap (λ n. take to ls ++ t ∷ (take k (drop to ls) ++ drop n (drop to ls))) b
    ∙ move_up_parts_are_removal_and_insert ls from to k t last within

reinserted_removed_line_keeps_lines : (ls : LineTexts) (at : ℕ) (t : List ℕ) → at < length ls → slice_index_or ls at [] ≡ t → ls ≡ insert (remove ls at) at t
reinserted_removed_line_keeps_lines [] at t within is = absurd (omega (arith, within))
reinserted_removed_line_keeps_lines (l ∷ ls) zero t within is = ap (λ (z : List ℕ). z ∷ ls) is
reinserted_removed_line_keeps_lines (l ∷ ls) (suc at) t within is = ap (λ (z : LineTexts). l ∷ z) (reinserted_removed_line_keeps_lines ls at t (omega (arith, within)) is)

-- The changes are of this file, and make these lines.
pub record AreChangesOfMove (f from to : ℕ) (ls : LineTexts) (changes : List LineChange) : Type 0 where
  pub fits : AreApplicableChangesOfFile f changes ls
  pub are : lines_after_changes changes ls ≡ lines_with_one_moved from to ls

pub line_changes_of_move_make_moved_lines : NoChangesLaw → FirstChangeLaw → (f from to : ℕ) (ls : LineTexts) → AreLogicalLinesOfFileWithinTextLimit ls → from < length ls → to < length ls
    → AreChangesOfMove f from to ls (line_changes_of_move f from to (slice_index_or ls from []))
line_changes_of_move_make_moved_lines none first f from to ls sound inside within =
    elim (leb_tells (suc from) to) [
      | inl down ↦ by_down down.0 down.1
      | inr not_down ↦ elim (leb_tells (suc to) from) [
        | inl up ↦ by_up not_down.0 up.0 up.1
        | inr not_up ↦ by_none not_down.0 not_up.0 (omega (arith, not_down.1, not_up.1))
      ]
    ]
  where
    t : List ℕ
    t = slice_index_or ls from []

    whole : IsLogicalLine t
    whole = numbered_logical_line_is_logical ls from sound.whole inside

    by_down : nat_lt from to ≡ true → from < to → AreChangesOfMove f from to ls (line_changes_of_move f from to t)
    by_down is order =
        subst (λ b. AreChangesOfMove f from to ls (if b then Take f from ∷ Put f (to + 1) t ∷ [] else (if nat_lt to from then Put f to t ∷ Take f from ∷ [] else []))) (sym is)
        (record {
          fits = record { of_file = (refl, (refl, tt)); order = (omega arith, (omega (arith, order), omega (arith, within))); whole = (whole, tt) };
          are = changes_of_move_down_make_moved_lines none first f ls from to t order within;
        })

    by_up : nat_lt from to ≡ false → nat_lt to from ≡ true → to < from → AreChangesOfMove f from to ls (line_changes_of_move f from to t)
    by_up is_not is order =
        subst (λ b. AreChangesOfMove f from to ls (if b then Take f from ∷ Put f (to + 1) t ∷ [] else (if nat_lt to from then Put f to t ∷ Take f from ∷ [] else []))) (sym is_not)
        (subst (λ b. AreChangesOfMove f from to ls (if b then Put f to t ∷ Take f from ∷ [] else [])) (sym is)
        (record {
          fits = record { of_file = (refl, (refl, tt)); order = (omega arith, (omega (arith, order), omega (arith, inside))); whole = (whole, tt) };
          are = changes_of_move_up_make_moved_lines none first f ls from to t order inside;
        }))

    by_none : nat_lt from to ≡ false → nat_lt to from ≡ false → from ≡ to → AreChangesOfMove f from to ls (line_changes_of_move f from to t)
    by_none is_not is same =
        subst (λ b. AreChangesOfMove f from to ls (if b then Take f from ∷ Put f (to + 1) t ∷ [] else (if nat_lt to from then Put f to t ∷ Take f from ∷ [] else []))) (sym is_not)
        (subst (λ b. AreChangesOfMove f from to ls (if b then Put f to t ∷ Take f from ∷ [] else [])) (sym is)
        (record {
          fits = record { of_file = tt; order = omega arith; whole = tt };
          are = none 0 ls ∙ reinserted_removed_line_keeps_lines ls from t inside refl ∙ ap (λ n. insert (remove ls from) n t) same;
        }))
