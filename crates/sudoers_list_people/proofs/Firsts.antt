-- The first of those that are the same, gathered one after another.
use Rattle.std.proofs.Common.{◌≡◌, ℕ, ◌+◌, ◌<◌, Bool, true, false, not, ◌&&◌, ◌||◌, cond, if◌then◌else◌, List, [], ◌∷◌, ◌++◌, length, map, drop, get_or, filter, Option, Some, None, option_map, nat_lt, ◌==◌, Bor, arith, refl, sym, ap, subst, ◌∙◌, append_assoc, bytes_eq}
use Rattle.std.specs.List.{list_any, cons_option, position_from}
use Rattle.std.proofs.lemmas.Slice.Eq.{bytes_eq-Decides}
use Rattle.std.proofs.lemmas.List.{drop_more}
use Rattle.sudoers_list_people.specs.Rows.{deduplicated_keeping_first, with_item_if_new, parsed_rows_without_skipped_or_malformed, parsed_unless_skipped_row, is_malformed_row, is_skipped_row}
use Rattle.std.proofs.lemmas.Bool.Decides.{nat_tests}
use Rattle.sudoers_match_member.specs.declared.people_and_commands.Group.{Group}
use Rattle.sudoers_list_people.specs.declared.account_and_group_row_types.GroupFileRow.{GroupFileRow}
use Rattle.sudoers_list_people.specs.Person.{group_of_row, has_same_group_number}
use Rattle.sudoers_text.specs.Fault.{text_limit}
use Rattle.sudoers_list_people.specs.internal.Slices.{texts_of_view}
use Rattle.sudoers_list_people.specs.People.{rows_of_file_text, first_fault_in_people_file, bad_row_fault}
use Rattle.sudoers_list_people.specs.declared.fault.PeopleFile.{PeopleFile}
use Rattle.sudoers_list_people.specs.declared.fault.PeopleFault.TheVariants.{TooLarge}
use Rattle.sudoers_names.proofs.Keys.{any_by_key_is_any_of_keys}

-- What is the same as another is the same as all that it is.
pub record IsKeyEquality {X : Type 0} (same : X → X → Bool) : Type 0 where
  pub swaps : (x y z : X) → same x y ≡ true → same x z ≡ same y z

pub name_equality_is_key : {X : Type 0} (name : X → List ℕ) → IsKeyEquality (λ (x y : X). bytes_eq (name x) (name y))
name_equality_is_key name = record { swaps = λ x y z e. ap (λ n. bytes_eq n (name z)) ((bytes_eq-Decides (name x) (name y)).0 e) }

abbrev is_new_to_kept_items : {X : Type 0} → (X → X → Bool) → List X → X → Bool
is_new_to_kept_items same kept x = not (list_any (same x) kept)

-- those that are kept, and the first of the others
abbrev pub kept_with_first_of_others : {X : Type 0} → (X → X → Bool) → List X → List X → List X
kept_with_first_of_others same kept xs = kept ++ filter (is_new_to_kept_items same kept) (deduplicated_keeping_first same xs)

filter_of_filter_is_joint_filter : {X : Type 0} (p q r : X → Bool) → ((x : X) → (q x && p x) ≡ r x) → (xs : List X) → filter p (filter q xs) ≡ filter r xs
filter_of_filter_is_joint_filter p q r e [] = refl
filter_of_filter_is_joint_filter {X} p q r e (x ∷ xs) = by (q x) refl (p x) refl (filter_of_filter_is_joint_filter p q r e xs)
  where
    by : (b : Bool) → q x ≡ b → (d : Bool) → p x ≡ d → filter p (filter q xs) ≡ filter r xs → filter p (filter q (x ∷ xs)) ≡ filter r (x ∷ xs)
    by true f true g again =
        ap (λ t. filter p (cond t (x ∷ filter q xs) (filter q xs))) f ∙ ap (λ t. cond t (x ∷ filter p (filter q xs)) (filter p (filter q xs))) g
        ∙ ap (λ ys. x ∷ ys) again
        ∙ sym (ap (λ t. cond t (x ∷ filter r xs) (filter r xs)) (sym (e x) ∙ ap (λ t. t && p x) f ∙ g))
    by true f false g again =
        ap (λ t. filter p (cond t (x ∷ filter q xs) (filter q xs))) f ∙ ap (λ t. cond t (x ∷ filter p (filter q xs)) (filter p (filter q xs))) g
        ∙ again
        ∙ sym (ap (λ t. cond t (x ∷ filter r xs) (filter r xs)) (sym (e x) ∙ ap (λ t. t && p x) f ∙ g))
    by false f d g again =
        ap (λ t. filter p (cond t (x ∷ filter q xs) (filter q xs))) f
        ∙ again
        ∙ sym (ap (λ t. cond t (x ∷ filter r xs) (filter r xs)) (sym (e x) ∙ ap (λ t. t && p x) f))

filter_by_true_keeps_list : {X : Type 0} (xs : List X) → filter (λ x. true) xs ≡ xs
filter_by_true_keeps_list [] = refl
filter_by_true_keeps_list (x ∷ xs) = ap (λ ys. x ∷ ys) (filter_by_true_keeps_list xs)

or_false_is_itself : (a : Bool) → (a || false) ≡ a
or_false_is_itself true = refl
or_false_is_itself false = refl

disjunction_is_associative : (a b c : Bool) → ((a || b) || c) ≡ (a || (b || c))
disjunction_is_associative true b c = refl
disjunction_is_associative false b c = refl

any_of_pushed_list_is_or : {X : Type 0} (p : X → Bool) (xs : List X) (x : X) → list_any p (xs ++ x ∷ []) ≡ (list_any p xs || p x)
any_of_pushed_list_is_or p [] x = or_false_is_itself (p x)
any_of_pushed_list_is_or p (y ∷ xs) x = ap (λ b. p y || b) (any_of_pushed_list_is_or p xs x) ∙ sym (disjunction_is_associative (p y) (list_any p xs) (p x))

same_items_have_equal_any : {X : Type 0} (same : X → X → Bool) → IsKeyEquality same → (x y : X) → same x y ≡ true → (xs : List X) → list_any (same x) xs ≡ list_any (same y) xs
same_items_have_equal_any same k x y e [] = refl
same_items_have_equal_any same k x y e (z ∷ xs) = ap (λ b. b || list_any (same x) xs) (k.swaps x y z e) ∙ ap (λ b. same y z || b) (same_items_have_equal_any same k x y e xs)

-- what is not that one, and new to the others
old_item_filters_no_new_item : {X : Type 0} (same : X → X → Bool) → IsKeyEquality same → (kept : List X) (x : X) → list_any (same x) kept ≡ true
    → (y : X) → (not (same y x) && is_new_to_kept_items same kept y) ≡ is_new_to_kept_items same kept y
old_item_filters_no_new_item same k kept x has y = by (same y x) refl
  where
    by : (b : Bool) → same y x ≡ b → (not b && is_new_to_kept_items same kept y) ≡ is_new_to_kept_items same kept y
    by true e = sym (ap not (same_items_have_equal_any same k y x e kept ∙ has))
    by false e = refl

conjunction_of_negations_is_negated_or : (a b : Bool) → (not a && not b) ≡ not (b || a)
conjunction_of_negations_is_negated_or true true = refl
conjunction_of_negations_is_negated_or true false = refl
conjunction_of_negations_is_negated_or false true = refl
conjunction_of_negations_is_negated_or false false = refl

new_and_other_is_new_to_pushed : {X : Type 0} (same : X → X → Bool) (kept : List X) (x y : X) → (not (same y x) && is_new_to_kept_items same kept y) ≡ is_new_to_kept_items same (kept ++ x ∷ []) y
new_and_other_is_new_to_pushed same kept x y = conjunction_of_negations_is_negated_or (same y x) (list_any (same y) kept) ∙ sym (ap not (any_of_pushed_list_is_or (same y) kept x))

pub adding_next_item_keeps_firsts : {X : Type 0} (same : X → X → Bool) → IsKeyEquality same → (kept : List X) (o : Option X) (xs : List X)
    → kept_with_first_of_others same (with_item_if_new same o kept) xs ≡ kept_with_first_of_others same kept (cons_option o xs)
adding_next_item_keeps_firsts same k kept None xs = refl
adding_next_item_keeps_firsts {X} same k kept (Some x) xs = by (list_any (same x) kept) refl
  where
    others : List X
    others = filter (λ y. not (same y x)) (deduplicated_keeping_first same xs)

    by : (b : Bool) → list_any (same x) kept ≡ b → kept_with_first_of_others same (with_item_if_new same (Some x) kept) xs ≡ kept_with_first_of_others same kept (x ∷ xs)
    by true e =
        ap (λ b. kept_with_first_of_others same (if b then kept else kept ++ x ∷ []) xs) e
        ∙ sym (ap (λ b. kept ++ cond (not b) (x ∷ filter (is_new_to_kept_items same kept) others) (filter (is_new_to_kept_items same kept) others)) e
        ∙ ap (λ ys. kept ++ ys) (filter_of_filter_is_joint_filter (is_new_to_kept_items same kept) (λ y. not (same y x)) (is_new_to_kept_items same kept) (old_item_filters_no_new_item same k kept x e) (deduplicated_keeping_first same xs)))
    by false e =
        ap (λ b. kept_with_first_of_others same (if b then kept else kept ++ x ∷ []) xs) e
        ∙ append_assoc kept (x ∷ []) (filter (is_new_to_kept_items same (kept ++ x ∷ [])) (deduplicated_keeping_first same xs))
        ∙ sym (ap (λ b. kept ++ cond (not b) (x ∷ filter (is_new_to_kept_items same kept) others) (filter (is_new_to_kept_items same kept) others)) e
        ∙ ap (λ ys. kept ++ (x ∷ ys)) (filter_of_filter_is_joint_filter (is_new_to_kept_items same kept) (λ y. not (same y x)) (is_new_to_kept_items same (kept ++ x ∷ [])) (new_and_other_is_new_to_pushed same kept x) (deduplicated_keeping_first same xs)))

pub firsts_with_none_kept_are_deduplicated : {X : Type 0} (same : X → X → Bool) (xs : List X) → kept_with_first_of_others same [] xs ≡ deduplicated_keeping_first same xs
firsts_with_none_kept_are_deduplicated same xs = filter_by_true_keeps_list (deduplicated_keeping_first same xs)

-- ---- rows one after another

-- what is kept of the rows before this one, with the names that were seen
pub record AreRowsReadSoFar {X : Type 0} (same : X → X → Bool) (said : List ℕ → Option X) (name : X → List ℕ) (all rest : List (List ℕ)) (i : ℕ) (kept : List X) (seen : List (List ℕ)) : Type 0 where
  pub names : seen ≡ map name kept
  pub firsts : kept_with_first_of_others same kept (parsed_rows_without_skipped_or_malformed said rest) ≡ deduplicated_keeping_first same (parsed_rows_without_skipped_or_malformed said all)
  pub bad : position_from (is_malformed_row said) (i + 1) rest ≡ position_from (is_malformed_row said) 1 all

pub no_rows_are_read_at_start : {X : Type 0} (same : X → X → Bool) (said : List ℕ → Option X) (name : X → List ℕ) (all rest : List (List ℕ)) (kept : List X) (seen : List (List ℕ))
    → rest ≡ all → kept ≡ [] → seen ≡ [] → AreRowsReadSoFar same said name all rest 0 kept seen
no_rows_are_read_at_start same said name all rest kept seen whole none unseen = record {
  names = unseen ∙ sym (ap (map name) none);
  firsts = ap (λ ys. kept_with_first_of_others same ys (parsed_rows_without_skipped_or_malformed said rest)) none ∙ ap (λ rs. kept_with_first_of_others same [] (parsed_rows_without_skipped_or_malformed said rs)) whole ∙ firsts_with_none_kept_are_deduplicated same (parsed_rows_without_skipped_or_malformed said all);
  bad = ap (position_from (is_malformed_row said) 1) whole;
}

pub reading_good_row_keeps_read_so_far : {X : Type 0} (same : X → X → Bool) → IsKeyEquality same → (said : List ℕ → Option X) (name : X → List ℕ) (all rest : List (List ℕ)) (i : ℕ)
    (kept kept' : List X) (seen seen' : List (List ℕ)) (row : List ℕ)
    → AreRowsReadSoFar same said name all (row ∷ rest) i kept seen → is_malformed_row said row ≡ false
    → kept' ≡ with_item_if_new same (parsed_unless_skipped_row said row) kept → seen' ≡ map name kept' → AreRowsReadSoFar same said name all rest (i + 1) kept' seen'
reading_good_row_keeps_read_so_far same k said name all rest i kept kept' seen seen' row s good e n = record {
  names = n;
  firsts = ap (λ ys. kept_with_first_of_others same ys (parsed_rows_without_skipped_or_malformed said rest)) e ∙ adding_next_item_keeps_firsts same k kept (parsed_unless_skipped_row said row) (parsed_rows_without_skipped_or_malformed said rest) ∙ s.firsts;
  bad = sym (ap (λ b. cond b (Some (i + 1)) (position_from (is_malformed_row said) (i + 1 + 1) rest)) good) ∙ s.bad;
}

pub malformed_row_has_first_bad_position : {X : Type 0} (same : X → X → Bool) (said : List ℕ → Option X) (name : X → List ℕ) (all rest : List (List ℕ)) (i : ℕ)
    (kept : List X) (seen : List (List ℕ)) (row : List ℕ)
    → AreRowsReadSoFar same said name all (row ∷ rest) i kept seen → is_malformed_row said row ≡ true → position_from (is_malformed_row said) 1 all ≡ Some (i + 1)
malformed_row_has_first_bad_position same said name all rest i kept seen row s bad =
    sym s.bad ∙ ap (λ b. cond b (Some (i + 1)) (position_from (is_malformed_row said) (i + 1 + 1) rest)) bad

-- ---- whether a name was seen

pub negated_true_test_is_false : (b said : Bool) → said ≡ not b → said ≡ true → b ≡ false
negated_true_test_is_false true said e t = sym t ∙ e
negated_true_test_is_false false said e t = refl

pub negated_false_test_is_true : (b said : Bool) → said ≡ not b → said ≡ false → b ≡ true
negated_false_test_is_true true said e t = refl
negated_false_test_is_true false said e t = sym t ∙ e

-- ---- one row

unskipped_row_is_parsed_as_said : {X : Type 0} (said : List ℕ → Option X) (row : List ℕ) (x : X) → is_skipped_row row ≡ false → said row ≡ Some x → parsed_unless_skipped_row said row ≡ Some x
unskipped_row_is_parsed_as_said said row x over e = ap (λ b. if b then None else said row) over ∙ e

-- what a row says, and whether its name was seen before
pub record IsNamedRowItem {X : Type 0} (name : X → List ℕ) (said : List ℕ → Option X) (row : List ℕ) (x : X) (xs : List X) (asked : List ℕ) (seen : List (List ℕ)) (is_new : Bool) : Type 0 where
  pub over : is_skipped_row row ≡ false
  pub says : said row ≡ Some x
  pub asks : asked ≡ name x
  pub names : seen ≡ map name xs
  pub new : is_new ≡ not (list_any (bytes_eq asked) seen)

module _ {X : Type 0} (name : X → List ℕ) (said : List ℕ → Option X) (row : List ℕ) (x : X) (xs : List X) (asked : List ℕ) (seen : List (List ℕ)) (is_new : Bool)
    (n : IsNamedRowItem name said row x xs asked seen is_new) where
  tells : is_new ≡ not (list_any (bytes_eq (name x)) (map name xs))
  tells = n.new ∙ ap not (ap (λ (a : List ℕ). list_any (bytes_eq a) seen) n.asks ∙ ap (list_any (bytes_eq (name x))) n.names)

  kept : (has : Bool) → list_any (bytes_eq (name x)) (map name xs) ≡ has
      → with_item_if_new (λ (a b : X). bytes_eq (name a) (name b)) (parsed_unless_skipped_row said row) xs ≡ (if has then xs else xs ++ x ∷ [])
  kept has e =
      ap (λ o. with_item_if_new (λ a b. bytes_eq (name a) (name b)) o xs) (unskipped_row_is_parsed_as_said said row x n.over n.says)
      ∙ ap (λ b. if b then xs else xs ++ x ∷ []) (any_by_key_is_any_of_keys name (bytes_eq (name x)) xs ∙ e)

  pub kept_new : is_new ≡ true → xs ++ x ∷ [] ≡ with_item_if_new (λ (a b : X). bytes_eq (name a) (name b)) (parsed_unless_skipped_row said row) xs
  kept_new t = sym (kept false (negated_true_test_is_false (list_any (bytes_eq (name x)) (map name xs)) is_new tells t))

  pub kept_old : is_new ≡ false → xs ≡ with_item_if_new (λ (a b : X). bytes_eq (name a) (name b)) (parsed_unless_skipped_row said row) xs
  kept_old f = sym (kept true (negated_false_test_is_true (list_any (bytes_eq (name x)) (map name xs)) is_new tells f))

-- what is next in a list, by what each shows
pub mapped_drop_begins_with_next_image : {X Y : Type 0} (f : X → Y) (xs : List X) (i : ℕ) (d : X) → i < length xs → (y : Y) → y ≡ f (get_or xs i d)
    → map f (drop i xs) ≡ y ∷ map f (drop (i + 1) xs)
mapped_drop_begins_with_next_image f xs i d h y e = ap (map f) (drop_more xs i d h) ∙ ap (λ z. z ∷ map f (drop (i + 1) xs)) (sym e)

-- ---- one group

pub item_with_new_number_is_pushed : {X : Type 0} (number : X → ℕ) (x : X) (xs : List X) → list_any (λ n. number x == n) (map number xs) ≡ false
    → xs ++ x ∷ [] ≡ with_item_if_new (λ (a b : X). number a == number b) (Some x) xs
item_with_new_number_is_pushed number x xs new = sym (ap (λ b. if b then xs else xs ++ x ∷ []) (any_by_key_is_any_of_keys number (λ n. number x == n) xs ∙ new))

pub item_with_old_number_changes_nothing : {X : Type 0} (number : X → ℕ) (x : X) (xs : List X) → list_any (λ n. number x == n) (map number xs) ≡ true
    → xs ≡ with_item_if_new (λ (a b : X). number a == number b) (Some x) xs
item_with_old_number_changes_nothing number x xs has = sym (ap (λ b. if b then xs else xs ++ x ∷ []) (any_by_key_is_any_of_keys number (λ n. number x == n) xs ∙ has))

equal_number_test_implies_equality : (m n : ℕ) → (m == n) ≡ true → m ≡ n
equal_number_test_implies_equality m n e = grind (arith, nat_tests)

pub number_equality_is_key : {X : Type 0} (number : X → ℕ) → IsKeyEquality (λ (x y : X). number x == number y)
number_equality_is_key number = record { swaps = λ x y z e. ap (λ n. n == number z) (equal_number_test_implies_equality (number x) (number y) e) }

-- ---- groups that list a user

abbrev groups_of_passing_rows : (GroupFileRow → Bool) → List GroupFileRow → List Group
groups_of_passing_rows test rows_of_file_text = map group_of_row (filter test rows_of_file_text)

pub passing_group_row_keeps_wanted_groups : (test : GroupFileRow → Bool) (all rest : List GroupFileRow) (row : GroupFileRow) (groups groups' : List Group) (wanted : List Group) → all ≡ row ∷ rest
    → kept_with_first_of_others has_same_group_number groups (map group_of_row (filter test all)) ≡ wanted
    → test row ≡ true → groups' ≡ with_item_if_new has_same_group_number (Some (group_of_row row)) groups
    → kept_with_first_of_others has_same_group_number groups' (map group_of_row (filter test rest)) ≡ wanted
passing_group_row_keeps_wanted_groups test all rest row groups groups' wanted split so_far has e =
    let more : groups_of_passing_rows test all ≡ group_of_row row ∷ groups_of_passing_rows test rest =
    ap (groups_of_passing_rows test) split ∙ ap (λ b. map group_of_row (cond b (row ∷ filter test rest) (filter test rest))) has in
    ap (λ gs. kept_with_first_of_others has_same_group_number gs (groups_of_passing_rows test rest)) e
    ∙ adding_next_item_keeps_firsts has_same_group_number (number_equality_is_key (λ x. x.gid)) groups (Some (group_of_row row)) (groups_of_passing_rows test rest)
    ∙ ap (kept_with_first_of_others has_same_group_number groups) (sym more) ∙ so_far

pub failing_group_row_keeps_wanted_groups : (test : GroupFileRow → Bool) (all rest : List GroupFileRow) (row : GroupFileRow) (groups : List Group) (wanted : List Group) → all ≡ row ∷ rest
    → kept_with_first_of_others has_same_group_number groups (map group_of_row (filter test all)) ≡ wanted
    → test row ≡ false
    → kept_with_first_of_others has_same_group_number groups (map group_of_row (filter test rest)) ≡ wanted
failing_group_row_keeps_wanted_groups test all rest row groups wanted split so_far has =
    let more : groups_of_passing_rows test all ≡ groups_of_passing_rows test rest =
    ap (groups_of_passing_rows test) split ∙ ap (λ b. map group_of_row (cond b (row ∷ filter test rest) (filter test rest))) has in
    ap (kept_with_first_of_others has_same_group_number groups) (sym more) ∙ so_far

-- ---- rows in memory

not_good_row_is_bad : (bad good : Bool) → good ≡ not bad → good ≡ false → bad ≡ true
not_good_row_is_bad true good e f = refl
not_good_row_is_bad false good e f = sym f ∙ e

good_row_is_not_bad : (bad good : Bool) → good ≡ not bad → good ≡ true → bad ≡ false
good_row_is_not_bad true good e t = sym t ∙ e
good_row_is_not_bad false good e t = refl

pub next_good_row_keeps_read_so_far : {X : Type 0} (same : X → X → Bool) → IsKeyEquality same → (said : List ℕ → Option X) (name : X → List ℕ) (all : List (List ℕ))
    (xs : List (Bor (List ℕ))) (i : ℕ) (d : Bor (List ℕ)) (kept kept' : List X) (seen seen' : List (List ℕ)) (good : Bool)
    → AreRowsReadSoFar same said name all (texts_of_view (drop i xs)) i kept seen → i < length xs
    → good ≡ not (is_malformed_row said (get_or xs i d).now) → good ≡ true
    → kept' ≡ with_item_if_new same (parsed_unless_skipped_row said (get_or xs i d).now) kept → seen' ≡ map name kept'
    → AreRowsReadSoFar same said name all (texts_of_view (drop (i + 1) xs)) (i + 1) kept' seen'
next_good_row_keeps_read_so_far same k said name all xs i d kept kept' seen seen' good s lt e t more names =
    reading_good_row_keeps_read_so_far same k said name all (texts_of_view (drop (i + 1) xs)) i kept kept' seen seen' (get_or xs i d).now
    (subst (λ rest. AreRowsReadSoFar same said name all rest i kept seen) (mapped_drop_begins_with_next_image (λ x. x.now) xs i d lt (get_or xs i d).now refl) s)
    (good_row_is_not_bad (is_malformed_row said (get_or xs i d).now) good e t) more names

pub next_bad_row_has_first_bad_position : {X : Type 0} (same : X → X → Bool) (said : List ℕ → Option X) (name : X → List ℕ) (all : List (List ℕ))
    (xs : List (Bor (List ℕ))) (i : ℕ) (d : Bor (List ℕ)) (kept : List X) (seen : List (List ℕ)) (good : Bool)
    → AreRowsReadSoFar same said name all (texts_of_view (drop i xs)) i kept seen → i < length xs
    → good ≡ not (is_malformed_row said (get_or xs i d).now) → good ≡ false
    → position_from (is_malformed_row said) 1 all ≡ Some (i + 1)
next_bad_row_has_first_bad_position same said name all xs i d kept seen good s lt e f =
    malformed_row_has_first_bad_position same said name all (texts_of_view (drop (i + 1) xs)) i kept seen (get_or xs i d).now
    (subst (λ rest. AreRowsReadSoFar same said name all rest i kept seen) (mapped_drop_begins_with_next_image (λ x. x.now) xs i d lt (get_or xs i d).now refl) s)
    (not_good_row_is_bad (is_malformed_row said (get_or xs i d).now) good e f)

-- ---- texts that are not too large

pub fitting_text_fault_is_at_bad_row : {X : Type 0} (file : PeopleFile) (said : List ℕ → Option X) (text : List ℕ) (o : Option ℕ) → nat_lt text_limit (length text) ≡ false
    → position_from (is_malformed_row said) 1 (rows_of_file_text text) ≡ o → first_fault_in_people_file file said text ≡ option_map (bad_row_fault file) o
fitting_text_fault_is_at_bad_row file said text o fits e =
    ap (λ b. if b then Some TooLarge else option_map (bad_row_fault file) (position_from (is_malformed_row said) 1 (rows_of_file_text text))) fits ∙ ap (option_map (bad_row_fault file)) e
