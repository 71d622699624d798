-- What an edit leaves of the lines, and that its inverse gives them back.
use Rattle.sudoers_edit.proofs.Common.{Bool, EachIsOneLineWhenCut, SplitsIntoItselfAsOnlyLine, List, Some, [], ap, arith, ends_in_lf, false, has_inner_line_without_lf, insert, is_one_logical_line, length, lines_with_one_moved}
use Rattle.sudoers_edit.proofs.Common.{not, or_false, refl, remove, slice_get, slice_index_or, suc, sym, true, zero, ℕ, ◌-◌, ◌<◌, ◌||◌, ◌∙◌, ◌∷◌, ◌≡◌, ◌≤◌}
use Rattle.sudoers_edit.proofs.PolicyLemmas.{found_line_is_line_at_index}

disjunction_with_false_is_itself : (x : Bool) → (x || false) ≡ x
disjunction_with_false_is_itself true = refl
disjunction_with_false_is_itself false = refl

-- OPEN LINES

rest_of_ended_lines_is_ended : (l : List ℕ) (ls : List (List ℕ)) → has_inner_line_without_lf (l ∷ ls) ≡ false → has_inner_line_without_lf ls ≡ false
rest_of_ended_lines_is_ended l [] h = refl
rest_of_ended_lines_is_ended l (k ∷ ks) h = (or_false _ _ h).1

ended_line_before_ended_lines_is_ended : (l : List ℕ) (ls : List (List ℕ)) → not (ends_in_lf l) ≡ false → has_inner_line_without_lf ls ≡ false → has_inner_line_without_lf (l ∷ ls) ≡ false
ended_line_before_ended_lines_is_ended l [] c h = refl
ended_line_before_ended_lines_is_ended l (k ∷ ks) c h = rw c h

-- in front of a line, the text alone decides
pub inserted_text_decides_open_line : (ls : List (List ℕ)) (at : ℕ) (t : List ℕ) → at < length ls → has_inner_line_without_lf ls ≡ false → not (ends_in_lf t) ≡ has_inner_line_without_lf (insert ls at t)
inserted_text_decides_open_line [] at t l h = absurd (omega arith)
inserted_text_decides_open_line (k ∷ ks) zero t l h = rw h (sym (disjunction_with_false_is_itself (not (ends_in_lf t))))
inserted_text_decides_open_line (k ∷ []) (suc n) t l h = absurd (omega arith)
inserted_text_decides_open_line (k ∷ j ∷ js) (suc zero) t l h = let e : not (ends_in_lf k) ≡ false = (or_false _ _ h).0 in rw e (inserted_text_decides_open_line (j ∷ js) 0 t (omega arith) (or_false _ _ h).1)
inserted_text_decides_open_line (k ∷ j ∷ js) (suc (suc n)) t l h = let e : not (ends_in_lf k) ≡ false = (or_false _ _ h).0 in rw e (inserted_text_decides_open_line (j ∷ js) (suc n) t (omega arith) (or_false _ _ h).1)

-- behind the last line, that line decides
pub last_line_decides_open_line_at_end_insert : (ls : List (List ℕ)) (n : ℕ) (t d : List ℕ) → length ls ≡ suc n → has_inner_line_without_lf ls ≡ false → not (ends_in_lf (slice_index_or ls n d)) ≡ has_inner_line_without_lf (insert ls (suc n) t)
last_line_decides_open_line_at_end_insert [] n t d l h = absurd (omega arith)
last_line_decides_open_line_at_end_insert (k ∷ []) zero t d l h = sym (disjunction_with_false_is_itself (not (ends_in_lf k)))
last_line_decides_open_line_at_end_insert (k ∷ []) (suc n) t d l h = absurd (omega arith)
last_line_decides_open_line_at_end_insert (k ∷ j ∷ js) zero t d l h = absurd (omega arith)
last_line_decides_open_line_at_end_insert (k ∷ j ∷ js) (suc n) t d l h = let e : not (ends_in_lf k) ≡ false = (or_false _ _ h).0 in rw e (last_line_decides_open_line_at_end_insert (j ∷ js) n t d (omega arith) (or_false _ _ h).1)

pub removal_keeps_ended_lines : (ls : List (List ℕ)) (at : ℕ) → has_inner_line_without_lf ls ≡ false → has_inner_line_without_lf (remove ls at) ≡ false
removal_keeps_ended_lines [] zero h = refl
removal_keeps_ended_lines [] (suc n) h = refl
removal_keeps_ended_lines (k ∷ ks) zero h = rest_of_ended_lines_is_ended k ks h
removal_keeps_ended_lines (k ∷ []) (suc zero) h = refl
removal_keeps_ended_lines (k ∷ []) (suc (suc n)) h = refl
removal_keeps_ended_lines (k ∷ j ∷ js) (suc n) h = ended_line_before_ended_lines_is_ended k (remove (j ∷ js) n) (or_false _ _ h).0 (removal_keeps_ended_lines (j ∷ js) n (or_false _ _ h).1)

-- LINES AND SIZES

pub insert_keeps_lines_cut_alone : (ls : List (List ℕ)) (at : ℕ) (t : List ℕ) → EachIsOneLineWhenCut ls → SplitsIntoItselfAsOnlyLine t → EachIsOneLineWhenCut (insert ls at t)
insert_keeps_lines_cut_alone ls zero t each is = (is, each)
insert_keeps_lines_cut_alone [] (suc n) t each is = (is, tt)
insert_keeps_lines_cut_alone (k ∷ ks) (suc n) t each is = (each.0, insert_keeps_lines_cut_alone ks n t each.1 is)

pub removal_keeps_lines_cut_alone : (ls : List (List ℕ)) (at : ℕ) → EachIsOneLineWhenCut ls → EachIsOneLineWhenCut (remove ls at)
removal_keeps_lines_cut_alone [] zero each = tt
removal_keeps_lines_cut_alone [] (suc n) each = tt
removal_keeps_lines_cut_alone (k ∷ ks) zero each = each.1
removal_keeps_lines_cut_alone (k ∷ ks) (suc n) each = (each.0, removal_keeps_lines_cut_alone ks n each.1)

pub numbered_line_is_cut_alone : (ls : List (List ℕ)) (at : ℕ) → at < length ls → EachIsOneLineWhenCut ls → SplitsIntoItselfAsOnlyLine (slice_index_or ls at [])
numbered_line_is_cut_alone [] at l each = absurd (omega arith)
numbered_line_is_cut_alone (k ∷ ks) zero l each = each.0
numbered_line_is_cut_alone (k ∷ ks) (suc n) l each = numbered_line_is_cut_alone ks n (omega arith) each.1

pub removal_undoes_insert : (ls : List (List ℕ)) (at : ℕ) (t : List ℕ) → at ≤ length ls → remove (insert ls at t) at ≡ ls
removal_undoes_insert ls zero t l = refl
removal_undoes_insert [] (suc n) t l = absurd (omega arith)
removal_undoes_insert (k ∷ ks) (suc n) t l = ap (λ z. k ∷ z) (removal_undoes_insert ks n t (omega arith))

pub insert_undoes_removal : (ls : List (List ℕ)) (at : ℕ) (d : List ℕ) → at < length ls → insert (remove ls at) at (slice_index_or ls at d) ≡ ls
insert_undoes_removal [] at d l = absurd (omega arith)
insert_undoes_removal (k ∷ ks) zero d l = refl
insert_undoes_removal (k ∷ ks) (suc n) d l = ap (λ z. k ∷ z) (insert_undoes_removal ks n d (omega arith))

pub insert_makes_one_line_more : (ls : List (List ℕ)) (at : ℕ) (t : List ℕ) → at ≤ length ls → length (insert ls at t) ≡ suc (length ls)
insert_makes_one_line_more ls zero t l = refl
insert_makes_one_line_more [] (suc n) t l = absurd (omega arith)
insert_makes_one_line_more (k ∷ ks) (suc n) t l = ap suc (insert_makes_one_line_more ks n t (omega arith))

pub removal_makes_one_line_less : (ls : List (List ℕ)) (at : ℕ) → at < length ls → suc (length (remove ls at)) ≡ length ls
removal_makes_one_line_less [] at l = absurd (omega arith)
removal_makes_one_line_less (k ∷ ks) zero l = refl
removal_makes_one_line_less (k ∷ ks) (suc n) l = ap suc (removal_makes_one_line_less ks n (omega arith))

pub inserted_line_is_at_its_place : (ls : List (List ℕ)) (at : ℕ) (t d : List ℕ) → at ≤ length ls → slice_index_or (insert ls at t) at d ≡ t
inserted_line_is_at_its_place ls zero t d l = refl
inserted_line_is_at_its_place [] (suc n) t d l = absurd (omega arith)
inserted_line_is_at_its_place (k ∷ ks) (suc n) t d l = inserted_line_is_at_its_place ks n t d (omega arith)

-- a line that was moved and is moved back
pub move_is_undone_by_reverse_move : (ls : List (List ℕ)) (from to : ℕ) → from < length ls → to < length ls → lines_with_one_moved to from (lines_with_one_moved from to ls) ≡ ls
move_is_undone_by_reverse_move ls from to l k =
    let t : List ℕ = slice_index_or ls from [] in
    let within : to ≤ length (remove ls from) = omega (arith, removal_makes_one_line_less ls from l) in
    ap (λ z. insert z from (slice_index_or (lines_with_one_moved from to ls) to [])) (removal_undoes_insert (remove ls from) to t within)
    ∙ ap (λ z. insert (remove ls from) from z) (inserted_line_is_at_its_place (remove ls from) to t [] within)
    ∙ insert_undoes_removal ls from [] l

-- a line behind one that is taken out
line_behind_removed_is_shifted : (ls : List (List ℕ)) (at k : ℕ) (d : List ℕ) → at ≤ k → slice_index_or (remove ls at) k d ≡ slice_index_or ls (suc k) d
line_behind_removed_is_shifted [] zero k d l = refl
line_behind_removed_is_shifted [] (suc n) k d l = refl
line_behind_removed_is_shifted (j ∷ ks) zero k d l = refl
line_behind_removed_is_shifted (j ∷ ks) (suc n) zero d l = absurd (omega arith)
line_behind_removed_is_shifted (j ∷ ks) (suc n) (suc k) d l = line_behind_removed_is_shifted ks n k d (omega arith)

-- a line that is moved before another decides whether one without LF stands there
pub moved_line_decides_open_line_of_move : (ls : List (List ℕ)) (from to : ℕ) → from < length ls → to < length ls - 1 → has_inner_line_without_lf ls ≡ false
    → not (ends_in_lf (slice_index_or ls from [])) ≡ has_inner_line_without_lf (lines_with_one_moved from to ls)
moved_line_decides_open_line_of_move ls from to l k h = inserted_text_decides_open_line (remove ls from) to (slice_index_or ls from []) (omega (arith, removal_makes_one_line_less ls from l)) (removal_keeps_ended_lines ls from h)

-- where another becomes the last, the one that was last decides
pub last_line_decides_open_line_of_move : (ls : List (List ℕ)) (from to n : ℕ) (d : List ℕ) → from < suc n → length ls ≡ suc (suc n) → to ≡ suc n → has_inner_line_without_lf ls ≡ false
    → not (ends_in_lf (slice_index_or ls (suc n) d)) ≡ has_inner_line_without_lf (lines_with_one_moved from to ls)
last_line_decides_open_line_of_move ls from to n d l size last h =
    ap (λ z. not (ends_in_lf z)) (sym (line_behind_removed_is_shifted ls from n d (omega arith)))
    ∙ last_line_decides_open_line_at_end_insert (remove ls from) n (slice_index_or ls from []) d (omega (arith, removal_makes_one_line_less ls from (omega (arith, size)))) (removal_keeps_ended_lines ls from h)
    ∙ ap (λ k. has_inner_line_without_lf (insert (remove ls from) k (slice_index_or ls from []))) (sym last)

-- a line that is moved to its own place
pub move_to_same_place_keeps_ended_lines : (ls : List (List ℕ)) (from to : ℕ) → from ≡ to → from < length ls → has_inner_line_without_lf ls ≡ false → false ≡ has_inner_line_without_lf (lines_with_one_moved from to ls)
move_to_same_place_keeps_ended_lines ls from to same l h =
    sym h ∙ ap has_inner_line_without_lf (sym (insert_undoes_removal ls from [] l)) ∙ ap (λ k. has_inner_line_without_lf (lines_with_one_moved from k ls)) same

-- the line that decides, as the code reads it
pub read_moved_line_decides_open_line : (ls : List (List ℕ)) (from to before last : ℕ) (line : List ℕ) → from < length ls → last ≡ length ls - 1 → to < last → before ≡ from
    → slice_get ls before ≡ Some line → has_inner_line_without_lf ls ≡ false → not (ends_in_lf line) ≡ has_inner_line_without_lf (lines_with_one_moved from to ls)
read_moved_line_decides_open_line ls from to before last line l last_is order same here h =
    ap (λ z. not (ends_in_lf z)) (sym (found_line_is_line_at_index ls from line [] (ap (slice_get ls) (sym same) ∙ here)))
    ∙ moved_line_decides_open_line_of_move ls from to l (omega (arith, last_is, order)) h

pub read_last_line_decides_open_line : (ls : List (List ℕ)) (from to before last : ℕ) (line : List ℕ) → from < length ls → to < length ls → (from ≡ to → ⊥) → last ≡ length ls - 1 → last ≤ to
    → before ≡ last → slice_get ls before ≡ Some line → has_inner_line_without_lf ls ≡ false → not (ends_in_lf line) ≡ has_inner_line_without_lf (lines_with_one_moved from to ls)
read_last_line_decides_open_line ls from to before last line l k other last_is order same here h =
    let place : before ≡ suc (last - 1) = omega (arith, l, k, other, last_is, order, same) in
    ap (λ z. not (ends_in_lf z)) (sym (found_line_is_line_at_index ls (suc (last - 1)) line [] (ap (slice_get ls) (sym place) ∙ here)))
    ∙ last_line_decides_open_line_of_move ls from to (last - 1) [] (omega (arith, l, k, other, last_is, order)) (omega (arith, l, k, other, last_is, order)) (omega (arith, l, k, other, last_is, order)) h

-- ONE LINE

pub line_cut_alone_is_one_logical_line : (t : List ℕ) → SplitsIntoItselfAsOnlyLine t → is_one_logical_line t ≡ true
line_cut_alone_is_one_logical_line t alone = rw alone refl

-- JOURNALS

-- the last line, as the code reads it
pub read_last_line_decides_open_insert : (ls : List (List ℕ)) (at : ℕ) (t x : List ℕ) → at ≡ length ls → 0 < at → slice_index_or ls (at - 1) x ≡ x → has_inner_line_without_lf ls ≡ false → not (ends_in_lf x) ≡ has_inner_line_without_lf (insert ls at t)
read_last_line_decides_open_insert ls zero t x l some is h = absurd (omega arith)
read_last_line_decides_open_insert ls (suc n) t x l some is h =
    let e : suc n - 1 ≡ n = omega arith in
    ap (λ z. not (ends_in_lf z)) (sym is ∙ ap (λ k. slice_index_or ls k x) e) ∙ last_line_decides_open_line_at_end_insert ls n t x (sym l) h
