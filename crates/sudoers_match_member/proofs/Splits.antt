-- Matching by splits, and as a relation.
use Rattle.std.proofs.Common.{◌≡◌, ℕ, Bool, true, false, ◌&&◌, ◌||◌, List, [], ◌∷◌, ◌++◌, map, refl, sym, ap, ◌∙◌}
use Rattle.std.specs.Prelude.{◌↔◌, IsTrue}
use Rattle.std.proofs.lemmas.Bool.Decides.{same_from_decides}
use Rattle.std.specs.List.{list_any, list_all}
use Rattle.std.proofs.lemmas.Bool.{false≢true}
use Rattle.sudoers_match_member.specs.declared.wildcards.GlobMode.{GlobMode}
use Rattle.sudoers_match_member.specs.Wildcard.{PatternItem, Star, Byte, Any, Set, may_wildcard_take, is_byte_taken_by_item, splits_of_text, is_empty, items_of_pattern, is_items_match, is_pattern_match}
use Rattle.sudoers_match_member.specs.internal.Run.{MayStarTakeRun, DoItemsMatch, DoesPatternMatch}

pub true_conjunction_has_true_left_part : (p q : Bool) → (p && q) ≡ true → p ≡ true
true_conjunction_has_true_left_part true q e = refl
true_conjunction_has_true_left_part false q e = e

pub true_conjunction_has_true_right_part : (p q : Bool) → (p && q) ≡ true → q ≡ true
true_conjunction_has_true_right_part true q e = e
true_conjunction_has_true_right_part false q e = absurd (false≢true e)

pub conjunction_of_true_parts_is_true : (p q : Bool) → p ≡ true → q ≡ true → (p && q) ≡ true
conjunction_of_true_parts_is_true true q e f = f
conjunction_of_true_parts_is_true false q e f = absurd (false≢true e)

-- what is any of them, is one of them
any_of_mapped_list_is_any_composed : {X Y : Type 0} (p : Y → Bool) (f : X → Y) (xs : List X) → list_any p (map f xs) ≡ list_any (λ x. p (f x)) xs
any_of_mapped_list_is_any_composed p f [] = refl
any_of_mapped_list_is_any_composed p f (x ∷ xs) = ap (λ b. p (f x) || b) (any_of_mapped_list_is_any_composed p f xs)

disjunction_with_true_left_part_is_true : (p q : Bool) → p ≡ true → (p || q) ≡ true
disjunction_with_true_left_part_is_true true q e = refl
disjunction_with_true_left_part_is_true false q e = absurd (false≢true e)

disjunction_with_true_right_part_is_true : (p q : Bool) → q ≡ true → (p || q) ≡ true
disjunction_with_true_right_part_is_true true q e = refl
disjunction_with_true_right_part_is_true false q e = e

-- which of two it is
pub data IsEitherTrue (p q : Bool) : Type 0 where
  first : p ≡ true → IsEitherTrue p q
  second : q ≡ true → IsEitherTrue p q

true_disjunction_has_true_part : (p q : Bool) → (p || q) ≡ true → IsEitherTrue p q
true_disjunction_has_true_part true q e = first refl
true_disjunction_has_true_part false q e = second e

run_that_wildcards_take_is_star_run : (mode : GlobMode) (run : List ℕ) → list_all (may_wildcard_take mode) run ≡ true → MayStarTakeRun mode run
run_that_wildcards_take_is_star_run mode [] e = tt
run_that_wildcards_take_is_star_run mode (b ∷ run) e = (true_conjunction_has_true_left_part (may_wildcard_take mode b) _ e, run_that_wildcards_take_is_star_run mode run (true_conjunction_has_true_right_part (may_wildcard_take mode b) _ e))

star_run_is_taken_by_wildcards : (mode : GlobMode) (run : List ℕ) → MayStarTakeRun mode run → list_all (may_wildcard_take mode) run ≡ true
star_run_is_taken_by_wildcards mode [] s = refl
star_run_is_taken_by_wildcards mode (b ∷ run) s = conjunction_of_true_parts_is_true (may_wildcard_take mode b) _ s.0 (star_run_is_taken_by_wildcards mode run s.1)

-- A split of the text is one of all of them.
split_with_property_is_any_of_splits : (p : List ℕ × List ℕ → Bool) (run rest : List ℕ) → p (run, rest) ≡ true → list_any p (splits_of_text (run ++ rest)) ≡ true
split_with_property_is_any_of_splits p [] [] e = disjunction_with_true_left_part_is_true (p ([], [])) false e
split_with_property_is_any_of_splits p [] (b ∷ rest) e = disjunction_with_true_left_part_is_true (p ([], b ∷ rest)) _ e
split_with_property_is_any_of_splits p (b ∷ run) rest e =
    disjunction_with_true_right_part_is_true (p ([], b ∷ run ++ rest)) _
    (any_of_mapped_list_is_any_composed p (λ (s : List ℕ × List ℕ). (b ∷ s.0, s.1)) (splits_of_text (run ++ rest)) ∙ split_with_property_is_any_of_splits (λ s. p (b ∷ s.0, s.1)) run rest e)

any_of_splits_has_split_with_property : (p : List ℕ × List ℕ → Bool) (text : List ℕ) → list_any p (splits_of_text text) ≡ true
    → (run rest : List ℕ) × (text ≡ run ++ rest) × (p (run, rest) ≡ true)
any_of_splits_has_split_with_property p [] e = elim (true_disjunction_has_true_part (p ([], [])) false e) [ first f ↦ ([], [], refl, f) | second f ↦ absurd (false≢true f) ]
any_of_splits_has_split_with_property p (b ∷ bs) e =
    elim (true_disjunction_has_true_part (p ([], b ∷ bs)) _ e) [
      | first f ↦ ([], b ∷ bs, refl, f)
      | second f ↦ (let more = any_of_splits_has_split_with_property (λ s. p (b ∷ s.0, s.1)) bs (sym (any_of_mapped_list_is_any_composed p (λ (s : List ℕ × List ℕ). (b ∷ s.0, s.1)) (splits_of_text bs)) ∙ f) in
          (b ∷ more.0, more.1, ap (λ xs. b ∷ xs) more.2, more.3))
    ]

list_tested_empty_is_empty : (text : List ℕ) → is_empty text ≡ true → text ≡ []
list_tested_empty_is_empty [] e = refl
list_tested_empty_is_empty (b ∷ bs) e = absurd (false≢true e)

item_match_test_implies_taken_byte : (mode : GlobMode) (item : PatternItem) (items : List PatternItem) (b : ℕ) (rest : List ℕ)
    → ((t : List ℕ) → is_items_match mode items t ≡ true → DoItemsMatch mode items t)
    → (is_byte_taken_by_item mode item b && is_items_match mode items rest) ≡ true
    → (c : ℕ) × (left : List ℕ) × (b ∷ rest ≡ c ∷ left) × (is_byte_taken_by_item mode item c ≡ true) × DoItemsMatch mode items left
item_match_test_implies_taken_byte mode item items b rest items_match_test_implies_items_match e =
    (b, rest, refl, true_conjunction_has_true_left_part (is_byte_taken_by_item mode item b) _ e, items_match_test_implies_items_match rest (true_conjunction_has_true_right_part (is_byte_taken_by_item mode item b) _ e))

items_match_test_implies_items_match : (mode : GlobMode) (items : List PatternItem) (text : List ℕ) → is_items_match mode items text ≡ true → DoItemsMatch mode items text
items_match_test_implies_items_match mode [] text e = list_tested_empty_is_empty text e
items_match_test_implies_items_match mode (Star ∷ items) text e =
    let found = any_of_splits_has_split_with_property (λ (s : List ℕ × List ℕ). list_all (may_wildcard_take mode) s.0 && is_items_match mode items s.1) text e in (
      found.0,
      found.1,
      found.2,
      run_that_wildcards_take_is_star_run mode found.0 (true_conjunction_has_true_left_part (list_all (may_wildcard_take mode) found.0) _ found.3),
      items_match_test_implies_items_match mode items found.1 (true_conjunction_has_true_right_part (list_all (may_wildcard_take mode) found.0) _ found.3),
    )
items_match_test_implies_items_match mode (Byte c ∷ items) [] e = absurd (false≢true e)
items_match_test_implies_items_match mode (Byte c ∷ items) (b ∷ bs) e = item_match_test_implies_taken_byte mode (Byte c) items b bs (items_match_test_implies_items_match mode items) e
items_match_test_implies_items_match mode (Any ∷ items) [] e = absurd (false≢true e)
items_match_test_implies_items_match mode (Any ∷ items) (b ∷ bs) e = item_match_test_implies_taken_byte mode Any items b bs (items_match_test_implies_items_match mode items) e
items_match_test_implies_items_match mode (Set n is ∷ items) [] e = absurd (false≢true e)
items_match_test_implies_items_match mode (Set n is ∷ items) (b ∷ bs) e = item_match_test_implies_taken_byte mode (Set n is) items b bs (items_match_test_implies_items_match mode items) e

items_match_implies_items_match_test : (mode : GlobMode) (items : List PatternItem) (text : List ℕ) → DoItemsMatch mode items text → is_items_match mode items text ≡ true
items_match_implies_items_match_test mode [] text m = ap is_empty m
items_match_implies_items_match_test mode (Star ∷ items) text m =
    let p = λ (s : List ℕ × List ℕ). list_all (may_wildcard_take mode) s.0 && is_items_match mode items s.1 in
    ap (λ t. list_any p (splits_of_text t)) m.2
    ∙ split_with_property_is_any_of_splits p m.0 m.1 (conjunction_of_true_parts_is_true (list_all (may_wildcard_take mode) m.0) _ (star_run_is_taken_by_wildcards mode m.0 m.3) (items_match_implies_items_match_test mode items m.1 m.4))
items_match_implies_items_match_test mode (Byte c ∷ items) text m = ap (is_items_match mode (Byte c ∷ items)) m.2 ∙ conjunction_of_true_parts_is_true (is_byte_taken_by_item mode (Byte c) m.0) _ m.3 (items_match_implies_items_match_test mode items m.1 m.4)
items_match_implies_items_match_test mode (Any ∷ items) text m = ap (is_items_match mode (Any ∷ items)) m.2 ∙ conjunction_of_true_parts_is_true (is_byte_taken_by_item mode Any m.0) _ m.3 (items_match_implies_items_match_test mode items m.1 m.4)
items_match_implies_items_match_test mode (Set n is ∷ items) text m = ap (is_items_match mode (Set n is ∷ items)) m.2 ∙ conjunction_of_true_parts_is_true (is_byte_taken_by_item mode (Set n is) m.0) _ m.3 (items_match_implies_items_match_test mode items m.1 m.4)

-- What tells of the relation is what the splits compute.
pub pattern_match_truth_is_pattern_match_test : (mode : GlobMode) (pattern text : List ℕ) (r : Bool) → IsTrue r ↔ DoesPatternMatch mode pattern text → r ≡ is_pattern_match mode pattern text
pattern_match_truth_is_pattern_match_test mode pattern text r conjunction_of_true_parts_is_true =
    same_from_decides r (is_pattern_match mode pattern text) conjunction_of_true_parts_is_true (items_match_test_implies_items_match mode (items_of_pattern pattern) text, items_match_implies_items_match_test mode (items_of_pattern pattern) text)

-- ---- a pattern that begins with `*`

pub star_match_is_run_and_rest_match : (mode : GlobMode) (pattern text : List ℕ) → is_pattern_match mode (42 ∷ pattern) text ≡ true
    ↔ ((run : List ℕ) × (rest : List ℕ) × (text ≡ run ++ rest) × (list_all (may_wildcard_take mode) run ≡ true) × (is_pattern_match mode pattern rest ≡ true))
star_match_is_run_and_rest_match mode pattern text =
    let p = λ (s : List ℕ × List ℕ). list_all (may_wildcard_take mode) s.0 && is_pattern_match mode pattern s.1 in (
      λ e. let found = any_of_splits_has_split_with_property p text e in
          (found.0, found.1, found.2, true_conjunction_has_true_left_part (list_all (may_wildcard_take mode) found.0) _ found.3, true_conjunction_has_true_right_part (list_all (may_wildcard_take mode) found.0) _ found.3),
      λ m. ap (λ t. list_any p (splits_of_text t)) m.2 ∙ split_with_property_is_any_of_splits p m.0 m.1 (conjunction_of_true_parts_is_true (list_all (may_wildcard_take mode) m.0) _ m.3 m.4),
    )
