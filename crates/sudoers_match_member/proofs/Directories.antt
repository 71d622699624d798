-- The directory of a path.
use Rattle.std.proofs.Common.{◌≡◌, ℕ, ◌+◌, ◌<◌, Bool, true, false, not, ◌||◌, List, [], ◌∷◌, ◌++◌, length, take, drop, get_or, refl, sym, ap, subst, ◌∙◌}
use Rattle.std.specs.Prelude.{◌==◌, if◌then◌else◌}
use Rattle.std.specs.List.{list_any}
use Rattle.std.proofs.lemmas.Bool.{false≢true}
use Rattle.std.proofs.lemmas.List.{drop_more, take_more, take-append-drop}
use Rattle.sudoers_match_member.specs.Wildcard.{is_empty}
use Rattle.sudoers_match_member.specs.Hits.{path_split_at_last_slash}

abbrev pub has_slash : List ℕ → Bool
has_slash bytes = list_any (λ b. b == 47) bytes

abbrev ByteListPair : Type 0
ByteListPair = List ℕ × List ℕ

false_choice_is_second_pair : (t : Bool) (x y : ByteListPair) → t ≡ false → (if t then x else y) ≡ y
false_choice_is_second_pair true x y e = absurd (false≢true (sym e))
false_choice_is_second_pair false x y e = refl

true_choice_is_first_pair : (t : Bool) (x y : ByteListPair) → t ≡ true → (if t then x else y) ≡ x
true_choice_is_first_pair true x y e = refl
true_choice_is_first_pair false x y e = absurd (false≢true e)

false_disjunction_has_false_parts : (p q : Bool) → (p || q) ≡ false → (p ≡ false) × (q ≡ false)
false_disjunction_has_false_parts true q e = absurd (false≢true (sym e))
false_disjunction_has_false_parts false q e = (refl, e)

false_or_nonempty_of_empty_is_false : (p : Bool) (xs : List ℕ) → p ≡ false → xs ≡ [] → (p || not (is_empty xs)) ≡ false
false_or_nonempty_of_empty_is_false p xs e f = ap (λ b. b || not (is_empty xs)) e ∙ ap (λ ys. not (is_empty ys)) f

pub split_of_path_without_slash_is_path : (path : List ℕ) → has_slash path ≡ false → path_split_at_last_slash path ≡ ([], path)
split_of_path_without_slash_is_path [] e = refl
split_of_path_without_slash_is_path (b ∷ bs) e =
    let parts = false_disjunction_has_false_parts (b == 47) (has_slash bs) e in
    let rest : path_split_at_last_slash bs ≡ ([], bs) = split_of_path_without_slash_is_path bs parts.1 in
    false_choice_is_second_pair (b == 47 || not (is_empty (path_split_at_last_slash bs).0)) _ _ (false_or_nonempty_of_empty_is_false (b == 47) (path_split_at_last_slash bs).0 parts.0 (ap (λ (d : ByteListPair). d.0) rest))

bytes_with_slash_appended_are_not_empty : (xs : List ℕ) → is_empty (xs ++ 47 ∷ []) ≡ false
bytes_with_slash_appended_are_not_empty [] = refl
bytes_with_slash_appended_are_not_empty (x ∷ xs) = refl

disjunction_with_nonempty_list_is_true : (p : Bool) (xs : List ℕ) → is_empty xs ≡ false → (p || not (is_empty xs)) ≡ true
disjunction_with_nonempty_list_is_true true xs e = refl
disjunction_with_nonempty_list_is_true false xs e = ap not e

pub split_of_path_is_at_last_slash : (xs ys : List ℕ) → has_slash ys ≡ false → path_split_at_last_slash (xs ++ 47 ∷ ys) ≡ (xs ++ 47 ∷ [], ys)
split_of_path_is_at_last_slash [] ys e = ap (λ (d : ByteListPair). (47 ∷ d.0, d.1)) (split_of_path_without_slash_is_path ys e)
split_of_path_is_at_last_slash (x ∷ xs) ys e =
    let rest : path_split_at_last_slash (xs ++ 47 ∷ ys) ≡ (xs ++ 47 ∷ [], ys) = split_of_path_is_at_last_slash xs ys e in
    true_choice_is_first_pair (x == 47 || not (is_empty (path_split_at_last_slash (xs ++ 47 ∷ ys)).0)) _ _
    (disjunction_with_nonempty_list_is_true (x == 47) _ (ap (λ (d : ByteListPair). is_empty d.0) rest ∙ bytes_with_slash_appended_are_not_empty xs))
    ∙ ap (λ (d : ByteListPair). (x ∷ d.0, d.1)) rest

pub split_at_start_has_empty_directory : (path : List ℕ) (at : ℕ) → at ≡ 0 → has_slash (drop at path) ≡ false → path_split_at_last_slash path ≡ (take at path, drop at path)
split_at_start_has_empty_directory path at e h =
    subst (λ n. path_split_at_last_slash path ≡ (take n path, drop n path)) (sym e)
    (split_of_path_without_slash_is_path path (subst (λ n. has_slash (drop n path) ≡ false) e h))

pub split_after_last_slash_place : (path : List ℕ) (before : ℕ) → before < length path → get_or path before 0 ≡ 47 → has_slash (drop (before + 1) path) ≡ false
    → path_split_at_last_slash path ≡ (take (before + 1) path, drop (before + 1) path)
split_after_last_slash_place path before h e none =
    let whole : path ≡ take before path ++ 47 ∷ drop (before + 1) path =
    sym (take-append-drop before path) ∙ ap (λ xs. take before path ++ xs) (drop_more path before 0 h ∙ ap (λ b. b ∷ drop (before + 1) path) e) in
    let front : take (before + 1) path ≡ take before path ++ 47 ∷ [] = take_more path before 0 h ∙ ap (λ b. take before path ++ b ∷ []) e in
    ap path_split_at_last_slash whole ∙ split_of_path_is_at_last_slash (take before path) (drop (before + 1) path) none ∙ ap (λ xs. (xs, drop (before + 1) path)) (sym front)
