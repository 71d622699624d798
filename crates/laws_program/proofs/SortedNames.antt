-- Names in the order of their bytes: such a list is determined by what it has.
use Rattle.std.proofs.Common.{◌≡◌, ℕ, ◌+◌, Bool, true, false, if◌then◌else◌, List, [], ◌∷◌, ◌++◌, length, drop, take, map, Some, refl, sym, ap, ap₂, subst, ◌∙◌}
use Rattle.std.specs.declared.cmp.Ordering.{Ordering}
use Rattle.std.specs.declared.cmp.Ordering.TheVariants.{Less, Equal, Greater}
use Rattle.std.specs.BTreeSet.{insert_key}
use Rattle.std.specs.Cmp.Lexicographic.{slice_cmp}
use Rattle.std.specs.List.{AllByRecursion}
use Rattle.std.specs.Ordering.{is_eq, match_ordering, nat_cmp, ordering_reverse, ordering_then}
use Rattle.std.specs.Str.{bytes_eq}
use Rattle.std.proofs.lemmas.Cmp.{nat_cmp_total, nat_list_cmp_total}
use Rattle.std.proofs.lemmas.Map.Text.{is_eq-slice_cmp}
use Rattle.std.proofs.lemmas.Slice.Eq.{bytes_eq-Decides}
use Rattle.sudoers_text.specs.Fault.{text_limit}
use Rattle.sudoers_grammar.specs.Piece.{has_byte}
use Rattle.sudoers_tree.specs.declared.named_files.NamedFile.{NamedFile}
use Rattle.sudoers_tree.specs.Lead.{folder_of}
use Rattle.sudoers_tree.specs.Load.{is_name_among}
use Rattle.sudoers_tree.specs.Targets.{base_name_of_file_name, is_includable_base_name}
use Rattle.sudoers_files.specs.Folder.{file_name_of_base_in_folder}
use Rattle.sudoers_files.specs.Shelf.{named_file_bytes_truncated_past_limit, base_names_in_folder}
use Rattle.laws_program.proofs.WalkSteps.{true_disjunction_has_true_part, disjunction_with_true_first_is_true, disjunction_with_true_second_is_true}
use Rattle.laws_program.proofs.FolderNames.{inserted_key_keeps_property_of_all, base_names_with_includables_added, name_has_equal_bytes_to_itself, base_names_with_includable_added}

abbrev pub byte_order_of_names : List ℕ → List ℕ → Ordering
byte_order_of_names = slice_cmp nat_cmp

abbrev pub IsNameBelowAll : List ℕ → List (List ℕ) → Type 0
IsNameBelowAll x = AllByRecursion (λ y. byte_order_of_names x y ≡ Less)

-- Each name stands before those behind it in the order of their bytes.
abbrev pub AreNamesAscending : List (List ℕ) → Type 0
AreNamesAscending [] = Unit {0}
AreNamesAscending (x ∷ xs) = IsNameBelowAll x xs × AreNamesAscending xs

abbrev pub IsNameInList : List ℕ → List (List ℕ) → Type 0
IsNameInList q names = is_name_among q names ≡ true

ordering_equal_to_reverse_is_not_less : (o : Ordering) → o ≡ ordering_reverse o → o ≡ Less → ⊥
ordering_equal_to_reverse_is_not_less Less same less = absurd cc
ordering_equal_to_reverse_is_not_less Equal same less = absurd cc
ordering_equal_to_reverse_is_not_less Greater same less = absurd cc

name_is_not_below_itself : (x : List ℕ) → byte_order_of_names x x ≡ Less → ⊥
name_is_not_below_itself x less = ordering_equal_to_reverse_is_not_less (byte_order_of_names x x) (nat_list_cmp_total.antisymm x x) less

name_below_all_is_below_each : (x q : List ℕ) (xs : List (List ℕ)) → IsNameBelowAll x xs → IsNameInList q xs → byte_order_of_names x q ≡ Less
name_below_all_is_below_each x q [] above has = absurd cc
name_below_all_is_below_each x q (y ∷ xs) above has =
    true_disjunction_has_true_part (bytes_eq q y) (is_name_among q xs) (byte_order_of_names x q ≡ Less) has (λ same. ap (byte_order_of_names x) ((bytes_eq-Decides q y).0 same) ∙ above.0) (λ later. name_below_all_is_below_each x q xs above.1 later)

pub smaller_name_is_below_all_too : (k x : List ℕ) (ys : List (List ℕ)) → byte_order_of_names k x ≡ Less → IsNameBelowAll x ys → IsNameBelowAll k ys
smaller_name_is_below_all_too k x [] less above = tt
smaller_name_is_below_all_too k x (y ∷ ys) less above = (nat_list_cmp_total.trans k x y less above.0, smaller_name_is_below_all_too k x ys less above.1)

first_name_is_in_list : (x : List ℕ) (xs : List (List ℕ)) → IsNameInList x (x ∷ xs)
first_name_is_in_list x xs = disjunction_with_true_first_is_true (bytes_eq x x) (is_name_among x xs) (name_has_equal_bytes_to_itself x)

pub ascending_lists_of_same_names_are_equal : (xs ys : List (List ℕ)) → AreNamesAscending xs → AreNamesAscending ys → ((q : List ℕ) → IsNameInList q xs → IsNameInList q ys) → ((q : List ℕ) → IsNameInList q ys → IsNameInList q xs) → xs ≡ ys
ascending_lists_of_same_names_are_equal [] [] up down there back = refl
ascending_lists_of_same_names_are_equal [] (y ∷ ys) up down there back = let none : IsNameInList y [] = back y (first_name_is_in_list y ys) in absurd cc
ascending_lists_of_same_names_are_equal (x ∷ xs) [] up down there back = let none : IsNameInList x [] = there x (first_name_is_in_list x xs) in absurd cc
ascending_lists_of_same_names_are_equal (x ∷ xs) (y ∷ ys) up down there back =
    ap₂ (λ z zs. z ∷ zs) first
    (ascending_lists_of_same_names_are_equal xs ys up.1 down.1
    (λ q has.
    true_disjunction_has_true_part (bytes_eq q y) (is_name_among q ys) (IsNameInList q ys) (there q (disjunction_with_true_second_is_true (bytes_eq q x) (is_name_among q xs) has))
    (λ same. absurd (name_is_not_below_itself x (ap (byte_order_of_names x) (first ∙ sym ((bytes_eq-Decides q y).0 same)) ∙ name_below_all_is_below_each x q xs up.0 has)))
    (λ later. later))
    (λ q has.
    true_disjunction_has_true_part (bytes_eq q x) (is_name_among q xs) (IsNameInList q xs) (back q (disjunction_with_true_second_is_true (bytes_eq q y) (is_name_among q ys) has))
    (λ same. absurd (name_is_not_below_itself y (ap (byte_order_of_names y) (sym first ∙ sym ((bytes_eq-Decides q x).0 same)) ∙ name_below_all_is_below_each y q ys down.0 has)))
    (λ later. later)))
  where
    first : x ≡ y
    first =
        true_disjunction_has_true_part (bytes_eq x y) (is_name_among x ys) (x ≡ y) (there x (first_name_is_in_list x xs)) (λ same. (bytes_eq-Decides x y).0 same)
        (λ behind.
        true_disjunction_has_true_part (bytes_eq y x) (is_name_among y xs) (x ≡ y) (back y (first_name_is_in_list y ys)) (λ same. sym ((bytes_eq-Decides y x).0 same))
        (λ within. absurd (name_is_not_below_itself x (nat_list_cmp_total.trans x y x (name_below_all_is_below_each x y xs up.0 within) (name_below_all_is_below_each y x ys down.0 behind)))))

-- ---- names that are inserted

pub greater_name_has_lesser_reversed : (x y : List ℕ) → byte_order_of_names x y ≡ Greater → byte_order_of_names y x ≡ Less
greater_name_has_lesser_reversed x y greater = nat_list_cmp_total.antisymm y x ∙ ap ordering_reverse greater

inserted_name_keeps_ascending : (keys : List (List ℕ)) (key : List ℕ) → AreNamesAscending keys → AreNamesAscending (insert_key (slice_cmp nat_cmp) keys key)
inserted_name_keeps_ascending [] key up = (tt, tt)
inserted_name_keeps_ascending (x ∷ keys) key up = by (byte_order_of_names key x) refl (inserted_name_keeps_ascending keys key up.1)
  where
    by : (o : Ordering) → byte_order_of_names key x ≡ o → AreNamesAscending (insert_key (slice_cmp nat_cmp) keys key) → AreNamesAscending (match_ordering o (key ∷ x ∷ keys) (x ∷ keys) (x ∷ insert_key (slice_cmp nat_cmp) keys key))
    by Less is later = ((is, smaller_name_is_below_all_too key x keys is up.0), up)
    by Equal is later = up
    by Greater is later = (inserted_key_keeps_property_of_all (λ y. byte_order_of_names x y ≡ Less) keys key up.0 (greater_name_has_lesser_reversed key x is), later)

inserted_name_is_in_list : (keys : List (List ℕ)) (key : List ℕ) → IsNameInList key (insert_key (slice_cmp nat_cmp) keys key)
inserted_name_is_in_list [] key = first_name_is_in_list key []
inserted_name_is_in_list (x ∷ keys) key = by (byte_order_of_names key x) refl (inserted_name_is_in_list keys key)
  where
    by : (o : Ordering) → byte_order_of_names key x ≡ o → IsNameInList key (insert_key (slice_cmp nat_cmp) keys key) → IsNameInList key (match_ordering o (key ∷ x ∷ keys) (x ∷ keys) (x ∷ insert_key (slice_cmp nat_cmp) keys key))
    by Less is later = first_name_is_in_list key (x ∷ keys)
    by Equal is later = disjunction_with_true_first_is_true (bytes_eq key x) (is_name_among key keys) (sym (is_eq-slice_cmp key x) ∙ ap is_eq is)
    by Greater is later = disjunction_with_true_second_is_true (bytes_eq key x) (is_name_among key (insert_key (slice_cmp nat_cmp) keys key)) later

insertion_keeps_names_in_list : (q : List ℕ) (keys : List (List ℕ)) (key : List ℕ) → IsNameInList q keys → IsNameInList q (insert_key (slice_cmp nat_cmp) keys key)
insertion_keeps_names_in_list q [] key has = absurd cc
insertion_keeps_names_in_list q (x ∷ keys) key has = by (byte_order_of_names key x) (λ later. insertion_keeps_names_in_list q keys key later)
  where
    by : (o : Ordering) → (IsNameInList q keys → IsNameInList q (insert_key (slice_cmp nat_cmp) keys key)) → IsNameInList q (match_ordering o (key ∷ x ∷ keys) (x ∷ keys) (x ∷ insert_key (slice_cmp nat_cmp) keys key))
    by Less later = disjunction_with_true_second_is_true (bytes_eq q key) (is_name_among q (x ∷ keys)) has
    by Equal later = has
    by Greater later =
        true_disjunction_has_true_part (bytes_eq q x) (is_name_among q keys) (IsNameInList q (x ∷ insert_key (slice_cmp nat_cmp) keys key)) has
        (λ same. disjunction_with_true_first_is_true (bytes_eq q x) (is_name_among q (insert_key (slice_cmp nat_cmp) keys key)) same)
        (λ behind. disjunction_with_true_second_is_true (bytes_eq q x) (is_name_among q (insert_key (slice_cmp nat_cmp) keys key)) (later behind))

added_base_name_keeps_ascending : (before : List (List ℕ)) (base : List ℕ) → AreNamesAscending before → AreNamesAscending (base_names_with_includable_added base before)
added_base_name_keeps_ascending before base up = by (is_includable_base_name base)
  where
    by : (t : Bool) → AreNamesAscending (if t then insert_key (slice_cmp nat_cmp) before base else before)
    by true = inserted_name_keeps_ascending before base up
    by false = up

added_base_name_keeps_names_in_list : (q : List ℕ) (before : List (List ℕ)) (base : List ℕ) → IsNameInList q before → IsNameInList q (base_names_with_includable_added base before)
added_base_name_keeps_names_in_list q before base has = by (is_includable_base_name base)
  where
    by : (t : Bool) → IsNameInList q (if t then insert_key (slice_cmp nat_cmp) before base else before)
    by true = insertion_keeps_names_in_list q before base has
    by false = has

pub added_base_names_keep_ascending : (before bases : List (List ℕ)) → AreNamesAscending before → AreNamesAscending (base_names_with_includables_added before bases)
added_base_names_keep_ascending before [] up = up
added_base_names_keep_ascending before (base ∷ bases) up = added_base_names_keep_ascending (base_names_with_includable_added base before) bases (added_base_name_keeps_ascending before base up)

added_base_names_keep_names_in_list : (q : List ℕ) (before bases : List (List ℕ)) → IsNameInList q before → IsNameInList q (base_names_with_includables_added before bases)
added_base_names_keep_names_in_list q before [] has = has
added_base_names_keep_names_in_list q before (base ∷ bases) has = added_base_names_keep_names_in_list q (base_names_with_includable_added base before) bases (added_base_name_keeps_names_in_list q before base has)

includable_base_name_is_added : (q : List ℕ) (before bases : List (List ℕ)) → is_includable_base_name q ≡ true → IsNameInList q bases → IsNameInList q (base_names_with_includables_added before bases)
includable_base_name_is_added q before [] is has = absurd cc
includable_base_name_is_added q before (base ∷ bases) is has =
    true_disjunction_has_true_part (bytes_eq q base) (is_name_among q bases) (IsNameInList q (base_names_with_includables_added before (base ∷ bases))) has
    (λ same.
    let here : q ≡ base = (bytes_eq-Decides q base).0 same in
    added_base_names_keep_names_in_list q (base_names_with_includable_added base before) bases
    (subst (λ b. IsNameInList q (base_names_with_includable_added b before)) here
    (subst (λ t. IsNameInList q (if t then insert_key (slice_cmp nat_cmp) before q else before)) (sym is) (inserted_name_is_in_list before q))))
    (λ later. includable_base_name_is_added q (base_names_with_includable_added base before) bases is later)

-- ---- names in a folder

ordering_equal_to_reverse_is_equal : (o : Ordering) → o ≡ ordering_reverse o → o ≡ Equal
ordering_equal_to_reverse_is_equal Less same = absurd cc
ordering_equal_to_reverse_is_equal Equal same = refl
ordering_equal_to_reverse_is_equal Greater same = absurd cc

common_first_byte_keeps_order : (d : ℕ) (xs ys : List ℕ) → byte_order_of_names (d ∷ xs) (d ∷ ys) ≡ byte_order_of_names xs ys
common_first_byte_keeps_order d xs ys = ap (λ o. ordering_then o (byte_order_of_names xs ys)) (ordering_equal_to_reverse_is_equal (nat_cmp d d) (nat_cmp_total.antisymm d d))

common_folder_keeps_order : (dir a b : List ℕ) → byte_order_of_names (file_name_of_base_in_folder dir a) (file_name_of_base_in_folder dir b) ≡ byte_order_of_names a b
common_folder_keeps_order [] a b = common_first_byte_keeps_order 47 a b
common_folder_keeps_order (d ∷ dir) a b = common_first_byte_keeps_order d (file_name_of_base_in_folder dir a) (file_name_of_base_in_folder dir b) ∙ common_folder_keeps_order dir a b

common_folder_keeps_name_below_all : (dir base : List ℕ) (bases : List (List ℕ)) → IsNameBelowAll base bases → IsNameBelowAll (file_name_of_base_in_folder dir base) (map (file_name_of_base_in_folder dir) bases)
common_folder_keeps_name_below_all dir base [] above = tt
common_folder_keeps_name_below_all dir base (b ∷ bases) above = (common_folder_keeps_order dir base b ∙ above.0, common_folder_keeps_name_below_all dir base bases above.1)

pub common_folder_keeps_ascending : (dir : List ℕ) (bases : List (List ℕ)) → AreNamesAscending bases → AreNamesAscending (map (file_name_of_base_in_folder dir) bases)
common_folder_keeps_ascending dir [] up = tt
common_folder_keeps_ascending dir (base ∷ bases) up = (common_folder_keeps_name_below_all dir base bases up.0, common_folder_keeps_ascending dir bases up.1)

listed_base_gives_listed_file_name : (dir q : List ℕ) (bases : List (List ℕ)) → IsNameInList q bases → IsNameInList (file_name_of_base_in_folder dir q) (map (file_name_of_base_in_folder dir) bases)
listed_base_gives_listed_file_name dir q [] has = absurd cc
listed_base_gives_listed_file_name dir q (b ∷ bases) has =
    true_disjunction_has_true_part (bytes_eq q b) (is_name_among q bases) (IsNameInList (file_name_of_base_in_folder dir q) (map (file_name_of_base_in_folder dir) (b ∷ bases))) has
    (λ same. disjunction_with_true_first_is_true (bytes_eq (file_name_of_base_in_folder dir q) (file_name_of_base_in_folder dir b)) (is_name_among (file_name_of_base_in_folder dir q) (map (file_name_of_base_in_folder dir) bases))
    ((bytes_eq-Decides (file_name_of_base_in_folder dir q) (file_name_of_base_in_folder dir b)).1 (ap (file_name_of_base_in_folder dir) ((bytes_eq-Decides q b).0 same))))
    (λ later. disjunction_with_true_second_is_true (bytes_eq (file_name_of_base_in_folder dir q) (file_name_of_base_in_folder dir b)) (is_name_among (file_name_of_base_in_folder dir q) (map (file_name_of_base_in_folder dir) bases)) (listed_base_gives_listed_file_name dir q bases later))

-- a name is its folder and its base
name_is_folder_and_base : (name : List ℕ) → name ≡ folder_of name ++ base_name_of_file_name name
name_is_folder_and_base [] = refl
name_is_folder_and_base (b ∷ name) = by (has_byte 47 (b ∷ name)) (name_is_folder_and_base name)
  where
    by : (t : Bool) → name ≡ folder_of name ++ base_name_of_file_name name
        → b ∷ name ≡ (if t then b ∷ folder_of name else []) ++ drop (length (if t then b ∷ folder_of name else [])) (b ∷ name)
    by true later = ap (λ n. b ∷ n) later
    by false later = refl

folder_slash_and_base_are_file_name : (dir base : List ℕ) → (dir ++ 47 ∷ []) ++ base ≡ file_name_of_base_in_folder dir base
folder_slash_and_base_are_file_name [] base = refl
folder_slash_and_base_are_file_name (d ∷ dir) base = ap (λ n. d ∷ n) (folder_slash_and_base_are_file_name dir base)

pub name_in_folder_is_of_its_base : (dir name : List ℕ) → folder_of name ≡ dir ++ 47 ∷ [] → name ≡ file_name_of_base_in_folder dir (base_name_of_file_name name)
name_in_folder_is_of_its_base dir name is = name_is_folder_and_base name ∙ ap (λ f. f ++ base_name_of_file_name name) is ∙ folder_slash_and_base_are_file_name dir (base_name_of_file_name name)

known_file_base_is_in_folder : (known : List NamedFile) (dir name bytes : List ℕ) → folder_of name ≡ dir ++ 47 ∷ [] → named_file_bytes_truncated_past_limit name known ≡ Some bytes → IsNameInList (base_name_of_file_name name) (base_names_in_folder dir known)
known_file_base_is_in_folder [] dir name bytes is there = absurd cc
known_file_base_is_in_folder (file ∷ known) dir name bytes is there = by (bytes_eq name file.name) refl there (known_file_base_is_in_folder known dir name bytes is)
  where
    kept : (t : Bool) → IsNameInList (base_name_of_file_name name) (base_names_in_folder dir known) → IsNameInList (base_name_of_file_name name) (if t then base_name_of_file_name file.name ∷ base_names_in_folder dir known else base_names_in_folder dir known)
    kept true later = disjunction_with_true_second_is_true (bytes_eq (base_name_of_file_name name) (base_name_of_file_name file.name)) (is_name_among (base_name_of_file_name name) (base_names_in_folder dir known)) later
    kept false later = later

    by : (t : Bool) → bytes_eq name file.name ≡ t → (if t then Some (take (text_limit + 1) file.bytes) else named_file_bytes_truncated_past_limit name known) ≡ Some bytes → (named_file_bytes_truncated_past_limit name known ≡ Some bytes → IsNameInList (base_name_of_file_name name) (base_names_in_folder dir known))
        → IsNameInList (base_name_of_file_name name) (base_names_in_folder dir (file ∷ known))
    by true e f later =
        let same : name ≡ file.name = (bytes_eq-Decides name file.name).0 e in
        subst (λ t. IsNameInList (base_name_of_file_name name) (if t then base_name_of_file_name file.name ∷ base_names_in_folder dir known else base_names_in_folder dir known))
        (sym ((bytes_eq-Decides (folder_of file.name) (dir ++ 47 ∷ [])).1 (ap folder_of (sym same) ∙ is)))
        (disjunction_with_true_first_is_true (bytes_eq (base_name_of_file_name name) (base_name_of_file_name file.name)) (is_name_among (base_name_of_file_name name) (base_names_in_folder dir known)) ((bytes_eq-Decides (base_name_of_file_name name) (base_name_of_file_name file.name)).1 (ap base_name_of_file_name same)))
    by false e f later = kept (bytes_eq (folder_of file.name) (dir ++ 47 ∷ [])) (later f)

-- A file that is known and to which an include of the folder leads is among its names.
pub known_includable_file_is_included : (known : List NamedFile) (dir name bytes : List ℕ) → folder_of name ≡ dir ++ 47 ∷ [] → is_includable_base_name (base_name_of_file_name name) ≡ true → named_file_bytes_truncated_past_limit name known ≡ Some bytes
    → IsNameInList name (map (file_name_of_base_in_folder dir) (base_names_with_includables_added [] (base_names_in_folder dir known)))
known_includable_file_is_included known dir name bytes is base there =
    subst (λ n. IsNameInList n (map (file_name_of_base_in_folder dir) (base_names_with_includables_added [] (base_names_in_folder dir known)))) (sym (name_in_folder_is_of_its_base dir name is))
    (listed_base_gives_listed_file_name dir (base_name_of_file_name name) (base_names_with_includables_added [] (base_names_in_folder dir known)) (includable_base_name_is_added (base_name_of_file_name name) [] (base_names_in_folder dir known) base (known_file_base_is_in_folder known dir name bytes is there)))
