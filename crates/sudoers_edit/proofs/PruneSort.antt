-- Changes sorted by their files.
use Rattle.sudoers_edit.proofs.Common.{All-from_recursion, AllByRecursion, AreFileNumbersOfChangesInOrder, Bool, IsFileOrderOfChanges, IsLogicalLine, LineChange, List, Take, [], ap₂, arith, changes_of_file, eqb-false}
use Rattle.sudoers_edit.proofs.Common.{eqb-true, false, file_number_of_change, filter, if◌then◌else◌, inl, inr, le-ltb, leb_tells, length, lt-ltb, nat_lt, not, option_to_list, recursion_from_All, refl}
use Rattle.sudoers_edit.proofs.Common.{slice_index_or, suc, sym, text_of_change, texts_of_changes, true, ℕ, ◌&&◌, ◌++◌, ◌<◌, ◌==◌, ◌∙◌, ◌∷◌, ◌≡◌, ◌≤◌}
use Rattle.std.proofs.lemmas.List.Sorted.{All-permutation}
use Rattle.std.specs.List.Sorted.{IsNonDecreasingBy, IsPermutation, IsStableByKey, ties}
use Rattle.std.specs.Ordering.{is_lt, nat_cmp}
use Rattle.sudoers_edit.proofs.PrunePlaces.{property_of_lists_holds_of_their_join}

-- ---- numbers

comparison_less_is_less_than : (m n : ℕ) → is_lt (nat_cmp m n) ≡ nat_lt m n
comparison_less_is_less_than m n = by (nat_lt m n) refl (m == n) refl
  where
    by : (a : Bool) → nat_lt m n ≡ a → (b : Bool) → (m == n) ≡ b → is_lt (nat_cmp m n) ≡ nat_lt m n
    by true x b y = rw x refl
    by false x true y = rw (x, y) refl
    by false x false y = rw (x, y) refl

-- neither number is below the other exactly if they are the same
numbers_not_below_each_other_are_equal : (m n : ℕ) → (not (nat_lt n m) && not (nat_lt m n)) ≡ (m == n)
numbers_not_below_each_other_are_equal m n = by (m == n) refl
  where
    by : (b : Bool) → (m == n) ≡ b → (not (nat_lt n m) && not (nat_lt m n)) ≡ b
    by true is =
        let same : m ≡ n = eqb-true m n is in
        rw (le-ltb n m (omega (arith, same)), le-ltb m n (omega (arith, same))) refl
    by false is = elim (leb_tells m n) [
      | inl less ↦
          let below : m < n = omega (arith, less.1, eqb-false m n is) in
          rw (le-ltb n m (omega (arith, less.1)), lt-ltb m n below) refl
      | inr more ↦ rw (lt-ltb n m (omega (arith, more.1))) refl
    ]

-- ---- the changes of a file

abbrev is_change_of_lower_file : LineChange → LineChange → Bool
is_change_of_lower_file a b = is_lt (nat_cmp (file_number_of_change a) (file_number_of_change b))

tie_with_file_is_equal_file_number : (f : ℕ) (change : LineChange) → ties is_change_of_lower_file (Take f 0) change ≡ (file_number_of_change change == f)
tie_with_file_is_equal_file_number f change =
    ap₂ (λ (a b : Bool). not a && not b) (comparison_less_is_less_than f (file_number_of_change change)) (comparison_less_is_less_than (file_number_of_change change) f) ∙ numbers_not_below_each_other_are_equal (file_number_of_change change) f

changes_tied_with_file_are_its_changes : (f : ℕ) (changes : List LineChange) → filter (ties is_change_of_lower_file (Take f 0)) changes ≡ changes_of_file f changes
changes_tied_with_file_are_its_changes f [] = refl
changes_tied_with_file_are_its_changes f (change ∷ changes) =
    ap₂ (λ (t : Bool) (cs : List LineChange). if t then change ∷ cs else cs) (tie_with_file_is_equal_file_number f change) (changes_tied_with_file_are_its_changes f changes)

-- changes whose files do not fall
nondecreasing_changes_are_in_file_order : (f count : ℕ) (changes : List LineChange) → ((d : LineChange) → 0 < length changes → f ≤ file_number_of_change (slice_index_or changes 0 d))
    → IsNonDecreasingBy file_number_of_change changes → AllByRecursion (λ (change : LineChange). file_number_of_change change < count) changes → AreFileNumbersOfChangesInOrder f changes count
nondecreasing_changes_are_in_file_order f count [] from up inside = tt
nondecreasing_changes_are_in_file_order f count (change ∷ changes) from up inside = (
  from change (omega arith),
  inside.0,
  nondecreasing_changes_are_in_file_order (file_number_of_change change) count changes (λ d some. up 0 1 d (omega arith) (omega (arith, some)))
      (λ i j d less within. up (suc i) (suc j) d (omega (arith, less)) (omega (arith, within))) inside.1,
)

-- ---- the texts

-- what a change brings is one logical line
abbrev BringsLogicalLine : LineChange → Type 0
BringsLogicalLine change = AllByRecursion IsLogicalLine (option_to_list (text_of_change change))

joined_list_property_holds_of_both_lists : {X : Type 0} (P : X → Type 0) (xs ys : List X) → AllByRecursion P (xs ++ ys) → AllByRecursion P xs × AllByRecursion P ys
joined_list_property_holds_of_both_lists P [] ys a = (tt, a)
joined_list_property_holds_of_both_lists P (x ∷ xs) ys a = let rest = joined_list_property_holds_of_both_lists P xs ys a.1 in ((a.0, rest.0), rest.1)

logical_texts_imply_logical_changes : (changes : List LineChange) → AllByRecursion IsLogicalLine (texts_of_changes changes) → AllByRecursion BringsLogicalLine changes
logical_texts_imply_logical_changes [] all = tt
logical_texts_imply_logical_changes (change ∷ changes) all =
    let parts = joined_list_property_holds_of_both_lists IsLogicalLine (option_to_list (text_of_change change)) (texts_of_changes changes) all in
    (parts.0, logical_texts_imply_logical_changes changes parts.1)

logical_changes_imply_logical_texts : (changes : List LineChange) → AllByRecursion BringsLogicalLine changes → AllByRecursion IsLogicalLine (texts_of_changes changes)
logical_changes_imply_logical_texts [] each = tt
logical_changes_imply_logical_texts (change ∷ changes) each = property_of_lists_holds_of_their_join IsLogicalLine (option_to_list (text_of_change change)) (texts_of_changes changes) each.0 (logical_changes_imply_logical_texts changes each.1)

permutation_keeps_property_of_changes : (P : LineChange → Type 0) (changes sorted : List LineChange) → IsPermutation changes sorted → AllByRecursion P changes → AllByRecursion P sorted
permutation_keeps_property_of_changes P changes sorted same all = recursion_from_All P sorted (All-permutation P changes sorted same (All-from_recursion P changes all))

-- Sorted changes go file by file.
pub stable_sort_by_file_is_file_order : (changes sorted : List LineChange) → IsPermutation changes sorted → IsNonDecreasingBy file_number_of_change sorted
    → IsStableByKey file_number_of_change nat_cmp changes sorted → IsFileOrderOfChanges changes sorted
stable_sort_by_file_is_file_order changes sorted same up stable = record {
  same = λ f. sym (changes_tied_with_file_are_its_changes f sorted) ∙ stable (Take f 0) ∙ changes_tied_with_file_are_its_changes f changes;
  goes = λ count inside.
      nondecreasing_changes_are_in_file_order 0 count sorted (λ d some. omega arith) up (permutation_keeps_property_of_changes (λ (change : LineChange). file_number_of_change change < count) changes sorted same inside);
  whole = λ all. logical_changes_imply_logical_texts sorted (permutation_keeps_property_of_changes BringsLogicalLine changes sorted same (logical_texts_imply_logical_changes changes all));
}
