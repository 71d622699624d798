-- The files of a folder on the walk are those that are gathered, in one order.
use Rattle.std.proofs.Common.{◌≡◌, ℕ, suc, ◌+◌, ◌≤◌, ◌&&◌, Bool, true, false, if◌then◌else◌, List, [], ◌∷◌, ◌++◌, take, map, slice_get, Some, refl, sym, ap, subst, ◌∙◌, arith}
use Rattle.std.specs.declared.cmp.Ordering.{Ordering}
use Rattle.std.specs.declared.cmp.Ordering.TheVariants.{Less, Equal, Greater}
use Rattle.std.specs.BTreeSet.{insert_key}
use Rattle.std.specs.Cmp.Lexicographic.{slice_cmp}
use Rattle.std.specs.List.{AllByRecursion}
use Rattle.std.specs.Ordering.{is_eq, is_lt, nat_cmp}
use Rattle.std.specs.Str.{bytes_eq}
use Rattle.std.proofs.lemmas.Map.Text.{is_eq-slice_cmp}
use Rattle.std.proofs.lemmas.Slice.Eq.{bytes_eq-Decides}
use Rattle.sudoers_text.specs.Fault.{text_limit}
use Rattle.sudoers_tree.specs.declared.named_files.NamedFile.{NamedFile}
use Rattle.sudoers_tree.specs.Files.{ParsedFile, name_of_optional_file as read_name, name_of_numbered_file}
use Rattle.sudoers_tree.specs.Lead.{folder_of}
use Rattle.sudoers_tree.specs.Load.{is_name_among}
use Rattle.sudoers_tree.specs.Targets.{base_name_of_file_name, included_files_of_folder, is_includable_base_name, is_file_name_before, is_includable_from_folder, number_of_first_file_named, file_inserted_in_name_order}
use Rattle.sudoers_files.specs.Folder.{file_name_of_base_in_folder, sorted_file_names_in_folder}
use Rattle.sudoers_files.specs.Shelf.{named_file_bytes_truncated_past_limit, base_names_in_folder, included_base_names_in}
use Rattle.laws_program.proofs.WalkSteps.{true_disjunction_has_true_part, disjunction_with_true_first_is_true, disjunction_with_true_second_is_true}
use Rattle.laws_program.proofs.FolderNames.{inserted_key_keeps_property_of_all, includable_name_in_folder_is_included, file_names_included_from_folder, sorted_folder_names_are_included_names, added_bases_keep_names_includable, base_names_with_includables_added, name_has_equal_bytes_to_itself, base_names_with_includable_added}
use Rattle.laws_program.proofs.SortedNames.{IsNameInList, AreNamesAscending, smaller_name_is_below_all_too, name_in_folder_is_of_its_base, known_includable_file_is_included, byte_order_of_names, added_base_names_keep_ascending, greater_name_has_lesser_reversed, common_folder_keeps_ascending, ascending_lists_of_same_names_are_equal}

-- the names of these files
abbrev pub names_of_numbered_files : List ParsedFile → List ℕ → List (List ℕ)
names_of_numbered_files files = map (name_of_numbered_file files)

-- the file is the first of its name
abbrev pub IsFirstFileOfItsName : List ParsedFile → ℕ → Type 0
IsFirstFileOfItsName files k = number_of_first_file_named (name_of_numbered_file files k) 0 files ≡ Some k

-- the file of this name is known
abbrev pub IsNameOfKnownFile : List NamedFile → List ℕ → Type 0
IsNameOfKnownFile known name = (bytes : List ℕ) × (named_file_bytes_truncated_past_limit name known ≡ Some bytes)

-- ---- the order of the files of a folder

inserted_file_keeps_property_of_names : (P : List ℕ → Type 0) (files : List ParsedFile) (f : ℕ) (numbers : List ℕ) → AllByRecursion P (names_of_numbered_files files numbers) → P (name_of_numbered_file files f)
    → AllByRecursion P (names_of_numbered_files files (file_inserted_in_name_order files f numbers))
inserted_file_keeps_property_of_names P files f [] all is = (is, tt)
inserted_file_keeps_property_of_names P files f (g ∷ numbers) all is = by (is_file_name_before files f g) (inserted_file_keeps_property_of_names P files f numbers all.1 is)
  where
    by : (t : Bool) → AllByRecursion P (names_of_numbered_files files (file_inserted_in_name_order files f numbers))
        → AllByRecursion P (names_of_numbered_files files (if t then f ∷ g ∷ numbers else g ∷ file_inserted_in_name_order files f numbers))
    by true later = (is, all)
    by false later = (all.0, later)

inserted_file_keeps_property_of_numbers : (P : ℕ → Type 0) (files : List ParsedFile) (f : ℕ) (numbers : List ℕ) → AllByRecursion P numbers → P f → AllByRecursion P (file_inserted_in_name_order files f numbers)
inserted_file_keeps_property_of_numbers P files f [] all is = (is, tt)
inserted_file_keeps_property_of_numbers P files f (g ∷ numbers) all is = by (is_file_name_before files f g) (inserted_file_keeps_property_of_numbers P files f numbers all.1 is)
  where
    by : (t : Bool) → AllByRecursion P (file_inserted_in_name_order files f numbers) → AllByRecursion P (if t then f ∷ g ∷ numbers else g ∷ file_inserted_in_name_order files f numbers)
    by true later = (is, all)
    by false later = (all.0, later)

-- two files with their own numbers, of which the first does not stand before the second
file_not_before_other_is_after_it : (files : List ParsedFile) (f g : ℕ) → IsFirstFileOfItsName files f → IsFirstFileOfItsName files g → (g ≡ f → ⊥) → is_file_name_before files f g ≡ false → byte_order_of_names (name_of_numbered_file files g) (name_of_numbered_file files f) ≡ Less
file_not_before_other_is_after_it files f g own other differ is = by (byte_order_of_names (name_of_numbered_file files f) (name_of_numbered_file files g)) refl is
  where
    by : (o : Ordering) → byte_order_of_names (name_of_numbered_file files f) (name_of_numbered_file files g) ≡ o → is_lt o ≡ false → byte_order_of_names (name_of_numbered_file files g) (name_of_numbered_file files f) ≡ Less
    by Less e lt = absurd cc
    by Equal e lt =
        let same : name_of_numbered_file files f ≡ name_of_numbered_file files g = (bytes_eq-Decides (name_of_numbered_file files f) (name_of_numbered_file files g)).0 (sym (is_eq-slice_cmp (name_of_numbered_file files f) (name_of_numbered_file files g)) ∙ ap is_eq e) in
        absurd (differ (let both : Some g ≡ Some f = sym other ∙ ap (λ n. number_of_first_file_named n 0 files) (sym same) ∙ own in cc))
    by Greater e lt = greater_name_has_lesser_reversed (name_of_numbered_file files f) (name_of_numbered_file files g) e

less_test_implies_ordering_less : (o : Ordering) → is_lt o ≡ true → o ≡ Less
less_test_implies_ordering_less Less is = refl
less_test_implies_ordering_less Equal is = absurd cc
less_test_implies_ordering_less Greater is = absurd cc

abbrev IsDifferentFirstFile : List ParsedFile → ℕ → ℕ → Type 0
IsDifferentFirstFile files f g = (g ≡ f → ⊥) × IsFirstFileOfItsName files g

inserted_file_keeps_names_ascending : (files : List ParsedFile) (f : ℕ) (numbers : List ℕ) → AreNamesAscending (names_of_numbered_files files numbers) → IsFirstFileOfItsName files f → AllByRecursion (IsDifferentFirstFile files f) numbers
    → AreNamesAscending (names_of_numbered_files files (file_inserted_in_name_order files f numbers))
inserted_file_keeps_names_ascending files f [] up own all = (tt, tt)
inserted_file_keeps_names_ascending files f (g ∷ numbers) up own all = by (is_file_name_before files f g) refl (inserted_file_keeps_names_ascending files f numbers up.1 own all.1)
  where
    by : (t : Bool) → is_file_name_before files f g ≡ t → AreNamesAscending (names_of_numbered_files files (file_inserted_in_name_order files f numbers)) → AreNamesAscending (names_of_numbered_files files (if t then f ∷ g ∷ numbers else g ∷ file_inserted_in_name_order files f numbers))
    by true is later =
        let less = less_test_implies_ordering_less (byte_order_of_names (name_of_numbered_file files f) (name_of_numbered_file files g)) is in
        ((less, smaller_name_is_below_all_too (name_of_numbered_file files f) (name_of_numbered_file files g) (names_of_numbered_files files numbers) less up.0), up)
    by false is later =
        (inserted_file_keeps_property_of_names (λ y. byte_order_of_names (name_of_numbered_file files g) y ≡ Less) files f numbers up.0 (file_not_before_other_is_after_it files f g own all.0.1 all.0.0 is), later)

-- a file of the folder, of those from the number n on
pub record IsFileInFolderFromNumber (all : List ParsedFile) (folder : List ℕ) (n g : ℕ) : Type 0 where
  pub least : n ≤ g
  pub reading : ParsedFile
  pub there : slice_get all g ≡ Some reading
  pub inside : is_includable_from_folder folder reading.name ≡ true

abbrev AreFilesFromNumber : List ParsedFile → ℕ → List ParsedFile → Type 0
AreFilesFromNumber all n files = (i : ℕ) (reading : ParsedFile) → slice_get files i ≡ Some reading → slice_get all (n + i) ≡ Some reading

abbrev pub AreAllFirstOfTheirNames : List ParsedFile → Type 0
AreAllFirstOfTheirNames all = (k : ℕ) (reading : ParsedFile) → slice_get all k ≡ Some reading → IsFirstFileOfItsName all k

files_from_next_number_are_from_number : (all : List ParsedFile) (folder : List ℕ) (n : ℕ) (numbers : List ℕ) → AllByRecursion (IsFileInFolderFromNumber all folder (n + 1)) numbers → AllByRecursion (IsFileInFolderFromNumber all folder n) numbers
files_from_next_number_are_from_number all folder n [] members = tt
files_from_next_number_are_from_number all folder n (g ∷ numbers) members = (
  record { least = omega (arith, members.0.least); reading = members.0.reading; there = members.0.there; inside = members.0.inside },
  files_from_next_number_are_from_number all folder n numbers members.1,
)

files_from_next_number_differ_from_file : (all : List ParsedFile) (folder : List ℕ) (n : ℕ) (numbers : List ℕ) → AreAllFirstOfTheirNames all → AllByRecursion (IsFileInFolderFromNumber all folder (n + 1)) numbers → AllByRecursion (IsDifferentFirstFile all n) numbers
files_from_next_number_differ_from_file all folder n [] own members = tt
files_from_next_number_differ_from_file all folder n (g ∷ numbers) own members =
    (((λ same. omega (arith, members.0.least, same)), own g members.0.reading members.0.there), files_from_next_number_differ_from_file all folder n numbers own members.1)

files_from_number_have_rest_from_next : (all : List ParsedFile) (n : ℕ) (file : ParsedFile) (files : List ParsedFile) → AreFilesFromNumber all n (file ∷ files) → AreFilesFromNumber all (n + 1) files
files_from_number_have_rest_from_next all n file files stand i reading is =
    let moved : n + suc i ≡ n + 1 + i = omega arith in
    subst (λ k. slice_get all k ≡ Some reading) moved (stand (suc i) reading is)

first_of_files_from_number_has_it : (all : List ParsedFile) (n : ℕ) (file : ParsedFile) (files : List ParsedFile) → AreFilesFromNumber all n (file ∷ files) → slice_get all n ≡ Some file
first_of_files_from_number_has_it all n file files stand =
    let same : n + 0 ≡ n = omega arith in
    subst (λ k. slice_get all k ≡ Some file) same (stand 0 file refl)

pub folder_file_names_are_ascending : (all : List ParsedFile) (folder : List ℕ) → AreAllFirstOfTheirNames all → (n : ℕ) (files : List ParsedFile) → AreFilesFromNumber all n files
    → AreNamesAscending (names_of_numbered_files all (included_files_of_folder all folder n files)) × AllByRecursion (IsFileInFolderFromNumber all folder n) (included_files_of_folder all folder n files)
folder_file_names_are_ascending all folder own n [] stand = (tt, tt)
folder_file_names_are_ascending all folder own n (file ∷ files) stand =
    by (is_includable_from_folder folder file.name) refl (folder_file_names_are_ascending all folder own (n + 1) files (files_from_number_have_rest_from_next all n file files stand))
  where
    later : List ℕ
    later = included_files_of_folder all folder (n + 1) files

    by : (t : Bool) → is_includable_from_folder folder file.name ≡ t → AreNamesAscending (names_of_numbered_files all later) × AllByRecursion (IsFileInFolderFromNumber all folder (n + 1)) later
        → AreNamesAscending (names_of_numbered_files all (if t then file_inserted_in_name_order all n later else later)) × AllByRecursion (IsFileInFolderFromNumber all folder n) (if t then file_inserted_in_name_order all n later else later)
    by true is rest =
        let here = first_of_files_from_number_has_it all n file files stand in (
          inserted_file_keeps_names_ascending all n later rest.0 (own n file here) (files_from_next_number_differ_from_file all folder n later own rest.1),
          inserted_file_keeps_property_of_numbers (IsFileInFolderFromNumber all folder n) all n later (files_from_next_number_are_from_number all folder n later rest.1) (record { least = omega arith; reading = file; there = here; inside = is }),
        )
    by false is rest = (rest.0, files_from_next_number_are_from_number all folder n later rest.1)

inserted_file_name_is_in_names : (files : List ParsedFile) (f : ℕ) (numbers : List ℕ) → IsNameInList (name_of_numbered_file files f) (names_of_numbered_files files (file_inserted_in_name_order files f numbers))
inserted_file_name_is_in_names files f [] = disjunction_with_true_first_is_true (bytes_eq (name_of_numbered_file files f) (name_of_numbered_file files f)) false (name_has_equal_bytes_to_itself (name_of_numbered_file files f))
inserted_file_name_is_in_names files f (g ∷ numbers) = by (is_file_name_before files f g) (inserted_file_name_is_in_names files f numbers)
  where
    by : (t : Bool) → IsNameInList (name_of_numbered_file files f) (names_of_numbered_files files (file_inserted_in_name_order files f numbers)) → IsNameInList (name_of_numbered_file files f) (names_of_numbered_files files (if t then f ∷ g ∷ numbers else g ∷ file_inserted_in_name_order files f numbers))
    by true later = disjunction_with_true_first_is_true (bytes_eq (name_of_numbered_file files f) (name_of_numbered_file files f)) (is_name_among (name_of_numbered_file files f) (names_of_numbered_files files (g ∷ numbers))) (name_has_equal_bytes_to_itself (name_of_numbered_file files f))
    by false later = disjunction_with_true_second_is_true (bytes_eq (name_of_numbered_file files f) (name_of_numbered_file files g)) (is_name_among (name_of_numbered_file files f) (names_of_numbered_files files (file_inserted_in_name_order files f numbers))) later

inserted_file_keeps_names_in_list : (q : List ℕ) (files : List ParsedFile) (f : ℕ) (numbers : List ℕ) → IsNameInList q (names_of_numbered_files files numbers) → IsNameInList q (names_of_numbered_files files (file_inserted_in_name_order files f numbers))
inserted_file_keeps_names_in_list q files f [] has = absurd cc
inserted_file_keeps_names_in_list q files f (g ∷ numbers) has = by (is_file_name_before files f g) (λ behind. inserted_file_keeps_names_in_list q files f numbers behind)
  where
    by : (t : Bool) → (IsNameInList q (names_of_numbered_files files numbers) → IsNameInList q (names_of_numbered_files files (file_inserted_in_name_order files f numbers))) → IsNameInList q (names_of_numbered_files files (if t then f ∷ g ∷ numbers else g ∷ file_inserted_in_name_order files f numbers))
    by true later = disjunction_with_true_second_is_true (bytes_eq q (name_of_numbered_file files f)) (is_name_among q (names_of_numbered_files files (g ∷ numbers))) has
    by false later =
        true_disjunction_has_true_part (bytes_eq q (name_of_numbered_file files g)) (is_name_among q (names_of_numbered_files files numbers)) (IsNameInList q (names_of_numbered_files files (g ∷ file_inserted_in_name_order files f numbers))) has
        (λ same. disjunction_with_true_first_is_true (bytes_eq q (name_of_numbered_file files g)) (is_name_among q (names_of_numbered_files files (file_inserted_in_name_order files f numbers))) same)
        (λ behind. disjunction_with_true_second_is_true (bytes_eq q (name_of_numbered_file files g)) (is_name_among q (names_of_numbered_files files (file_inserted_in_name_order files f numbers))) (later behind))

includable_file_is_in_folder_files : (all : List ParsedFile) (folder name : List ℕ) (n : ℕ) (files : List ParsedFile) → AreFilesFromNumber all n files → is_includable_from_folder folder name ≡ true → (k : ℕ) → number_of_first_file_named name n files ≡ Some k
    → IsNameInList name (names_of_numbered_files all (included_files_of_folder all folder n files))
includable_file_is_in_folder_files all folder name n [] stand inside k is = absurd cc
includable_file_is_in_folder_files all folder name n (file ∷ files) stand inside k is = by (bytes_eq name file.name) refl is (includable_file_is_in_folder_files all folder name (n + 1) files (files_from_number_have_rest_from_next all n file files stand) inside k)
  where
    later : List ℕ
    later = included_files_of_folder all folder (n + 1) files

    kept : (t : Bool) → IsNameInList name (names_of_numbered_files all later) → IsNameInList name (names_of_numbered_files all (if t then file_inserted_in_name_order all n later else later))
    kept true has = inserted_file_keeps_names_in_list name all n later has
    kept false has = has

    by : (t : Bool) → bytes_eq name file.name ≡ t → (if t then Some n else number_of_first_file_named name (n + 1) files) ≡ Some k → (number_of_first_file_named name (n + 1) files ≡ Some k → IsNameInList name (names_of_numbered_files all later))
        → IsNameInList name (names_of_numbered_files all (included_files_of_folder all folder n (file ∷ files)))
    by true e found rest =
        let same : name ≡ file.name = (bytes_eq-Decides name file.name).0 e in
        let named : name_of_numbered_file all n ≡ name = ap read_name (first_of_files_from_number_has_it all n file files stand) ∙ sym same in
        subst (λ t. IsNameInList name (names_of_numbered_files all (if t then file_inserted_in_name_order all n later else later))) (sym (ap (is_includable_from_folder folder) (sym same) ∙ inside))
        (subst (λ q. IsNameInList q (names_of_numbered_files all (file_inserted_in_name_order all n later))) named (inserted_file_name_is_in_names all n later))
    by false e found rest = kept (is_includable_from_folder folder file.name) (rest found)

-- ---- the names that an include of the folder leads to

true_conjunction_has_true_parts : (a b : Bool) → (a && b) ≡ true → (a ≡ true) × (b ≡ true)
true_conjunction_has_true_parts true b is = (refl, is)
true_conjunction_has_true_parts false b is = absurd cc

added_base_names_keep_property_of_all : (P : List ℕ → Type 0) (before bases : List (List ℕ)) → AllByRecursion P before → AllByRecursion P bases → AllByRecursion P (base_names_with_includables_added before bases)
added_base_names_keep_property_of_all P before [] all more = all
added_base_names_keep_property_of_all P before (base ∷ bases) all more = added_base_names_keep_property_of_all P (base_names_with_includable_added base before) bases (by (is_includable_base_name base)) more.1
  where
    by : (t : Bool) → AllByRecursion P (if t then insert_key (slice_cmp nat_cmp) before base else before)
    by true = inserted_key_keeps_property_of_all P before base all more.0
    by false = all

further_file_keeps_known_name : (file : NamedFile) (known : List NamedFile) (name : List ℕ) → IsNameOfKnownFile known name → IsNameOfKnownFile (file ∷ known) name
further_file_keeps_known_name file known name there = by (bytes_eq name file.name)
  where
    by : (t : Bool) → (bytes : List ℕ) × ((if t then Some (take (text_limit + 1) file.bytes) else named_file_bytes_truncated_past_limit name known) ≡ Some bytes)
    by true = (take (text_limit + 1) file.bytes, refl)
    by false = there

further_file_keeps_known_base_names : (dir : List ℕ) (file : NamedFile) (known : List NamedFile) (bases : List (List ℕ)) → AllByRecursion (λ base. IsNameOfKnownFile known (file_name_of_base_in_folder dir base)) bases
    → AllByRecursion (λ base. IsNameOfKnownFile (file ∷ known) (file_name_of_base_in_folder dir base)) bases
further_file_keeps_known_base_names dir file known [] all = tt
further_file_keeps_known_base_names dir file known (base ∷ bases) all = (further_file_keeps_known_name file known (file_name_of_base_in_folder dir base) all.0, further_file_keeps_known_base_names dir file known bases all.1)

base_names_in_folder_are_known : (known : List NamedFile) (dir : List ℕ) → AllByRecursion (λ base. IsNameOfKnownFile known (file_name_of_base_in_folder dir base)) (base_names_in_folder dir known)
base_names_in_folder_are_known [] dir = tt
base_names_in_folder_are_known (file ∷ known) dir = by (bytes_eq (folder_of file.name) (dir ++ 47 ∷ [])) refl (further_file_keeps_known_base_names dir file known (base_names_in_folder dir known) (base_names_in_folder_are_known known dir))
  where
    here : folder_of file.name ≡ dir ++ 47 ∷ [] → IsNameOfKnownFile (file ∷ known) (file_name_of_base_in_folder dir (base_name_of_file_name file.name))
    here is = (
      take (text_limit + 1) file.bytes,
      ap (λ t. if t then Some (take (text_limit + 1) file.bytes) else named_file_bytes_truncated_past_limit (file_name_of_base_in_folder dir (base_name_of_file_name file.name)) known)
          ((bytes_eq-Decides (file_name_of_base_in_folder dir (base_name_of_file_name file.name)) file.name).1 (sym (name_in_folder_is_of_its_base dir file.name is))),
    )

    by : (t : Bool) → bytes_eq (folder_of file.name) (dir ++ 47 ∷ []) ≡ t → AllByRecursion (λ base. IsNameOfKnownFile (file ∷ known) (file_name_of_base_in_folder dir base)) (base_names_in_folder dir known)
        → AllByRecursion (λ base. IsNameOfKnownFile (file ∷ known) (file_name_of_base_in_folder dir base)) (if t then base_name_of_file_name file.name ∷ base_names_in_folder dir known else base_names_in_folder dir known)
    by true e later = (here ((bytes_eq-Decides (folder_of file.name) (dir ++ 47 ∷ [])).0 e), later)
    by false e later = later

property_of_bases_holds_of_file_names : (P : List ℕ → Type 0) (dir : List ℕ) (bases : List (List ℕ)) → AllByRecursion (λ base. P (file_name_of_base_in_folder dir base)) bases → AllByRecursion P (map (file_name_of_base_in_folder dir) bases)
property_of_bases_holds_of_file_names P dir [] all = tt
property_of_bases_holds_of_file_names P dir (base ∷ bases) all = (all.0, property_of_bases_holds_of_file_names P dir bases all.1)

-- All names to which an include of the folder leads are known.
names_included_from_folder_are_known : (known : List NamedFile) (dir : List ℕ) → AllByRecursion (IsNameOfKnownFile known) (file_names_included_from_folder dir (base_names_in_folder dir known))
names_included_from_folder_are_known known dir =
    property_of_bases_holds_of_file_names (IsNameOfKnownFile known) dir (base_names_with_includables_added [] (base_names_in_folder dir known)) (added_base_names_keep_property_of_all (λ base. IsNameOfKnownFile known (file_name_of_base_in_folder dir base)) [] (base_names_in_folder dir known) tt (base_names_in_folder_are_known known dir))

pub sorted_folder_file_names_are_known : (known : List NamedFile) (dir : List ℕ) → AllByRecursion (IsNameOfKnownFile known) (sorted_file_names_in_folder dir (included_base_names_in dir known))
sorted_folder_file_names_are_known known dir = subst (AllByRecursion (IsNameOfKnownFile known)) (sym (sorted_folder_names_are_included_names known dir)) (names_included_from_folder_are_known known dir)

includable_bases_are_included_by_folder : (dir : List ℕ) (bases : List (List ℕ)) → AllByRecursion (λ base. is_includable_base_name base ≡ true) bases → AllByRecursion (λ name. is_includable_from_folder (dir ++ 47 ∷ []) name ≡ true) (map (file_name_of_base_in_folder dir) bases)
includable_bases_are_included_by_folder dir [] all = tt
includable_bases_are_included_by_folder dir (base ∷ bases) all = (includable_name_in_folder_is_included dir base all.0, includable_bases_are_included_by_folder dir bases all.1)

name_in_list_has_property_of_all : (P : List ℕ → Type 0) (names : List (List ℕ)) (q : List ℕ) → AllByRecursion P names → IsNameInList q names → P q
name_in_list_has_property_of_all P [] q all has = absurd cc
name_in_list_has_property_of_all P (n ∷ names) q all has =
    true_disjunction_has_true_part (bytes_eq q n) (is_name_among q names) (P q) has (λ same. subst P (sym ((bytes_eq-Decides q n).0 same)) all.0) (λ later. name_in_list_has_property_of_all P names q all.1 later)

names_of_contained_files_are_in_list : (all : List ParsedFile) (numbers : List ℕ) (names : List (List ℕ)) (q : List ℕ) → AllByRecursion (λ g. IsNameInList (name_of_numbered_file all g) names) numbers → IsNameInList q (names_of_numbered_files all numbers) → IsNameInList q names
names_of_contained_files_are_in_list all [] names q each has = absurd cc
names_of_contained_files_are_in_list all (g ∷ numbers) names q each has =
    true_disjunction_has_true_part (bytes_eq q (name_of_numbered_file all g)) (is_name_among q (names_of_numbered_files all numbers)) (IsNameInList q names) has
    (λ same. subst (λ n. IsNameInList n names) (sym ((bytes_eq-Decides q (name_of_numbered_file all g)).0 same)) each.0)
    (λ later. names_of_contained_files_are_in_list all numbers names q each.1 later)

folder_files_are_among_included_names : (known : List NamedFile) (all : List ParsedFile) → ((k : ℕ) (reading : ParsedFile) → slice_get all k ≡ Some reading → IsNameOfKnownFile known reading.name) → (dir : List ℕ) (numbers : List ℕ)
    → AllByRecursion (IsFileInFolderFromNumber all (dir ++ 47 ∷ []) 0) numbers → AllByRecursion (λ g. IsNameInList (name_of_numbered_file all g) (file_names_included_from_folder dir (base_names_in_folder dir known))) numbers
folder_files_are_among_included_names known all there dir [] members = tt
folder_files_are_among_included_names known all there dir (g ∷ numbers) members =
    let named : name_of_numbered_file all g ≡ members.0.reading.name = ap read_name members.0.there in
    let parts = true_conjunction_has_true_parts (bytes_eq (folder_of members.0.reading.name) (dir ++ 47 ∷ [])) (is_includable_base_name (base_name_of_file_name members.0.reading.name)) members.0.inside in
    let file = there g members.0.reading members.0.there in (
      subst (λ n. IsNameInList n (file_names_included_from_folder dir (base_names_in_folder dir known))) (sym named)
          (known_includable_file_is_included known dir members.0.reading.name file.0 ((bytes_eq-Decides (folder_of members.0.reading.name) (dir ++ 47 ∷ [])).0 parts.0) parts.1 file.1),
      folder_files_are_among_included_names known all there dir numbers members.1,
    )

pub all_files_are_from_number_zero : (all : List ParsedFile) → AreFilesFromNumber all 0 all
all_files_are_from_number_zero all i reading is = let same : i ≡ 0 + i = omega arith in subst (λ k. slice_get all k ≡ Some reading) same is

folder_files_have_included_names : (known : List NamedFile) (all : List ParsedFile) → AreAllFirstOfTheirNames all → ((k : ℕ) (reading : ParsedFile) → slice_get all k ≡ Some reading → IsNameOfKnownFile known reading.name) → (dir : List ℕ)
    → AllByRecursion (λ name. (k : ℕ) × (number_of_first_file_named name 0 all ≡ Some k)) (file_names_included_from_folder dir (base_names_in_folder dir known)) → names_of_numbered_files all (included_files_of_folder all (dir ++ 47 ∷ []) 0 all) ≡ file_names_included_from_folder dir (base_names_in_folder dir known)
folder_files_have_included_names known all own there dir numbered =
    let both = folder_file_names_are_ascending all (dir ++ 47 ∷ []) own 0 all (all_files_are_from_number_zero all) in
    let names = file_names_included_from_folder dir (base_names_in_folder dir known) in
    ascending_lists_of_same_names_are_equal (names_of_numbered_files all (included_files_of_folder all (dir ++ 47 ∷ []) 0 all)) names both.0 (common_folder_keeps_ascending dir (base_names_with_includables_added [] (base_names_in_folder dir known)) (added_base_names_keep_ascending [] (base_names_in_folder dir known) tt))
    (λ q has. names_of_contained_files_are_in_list all (included_files_of_folder all (dir ++ 47 ∷ []) 0 all) names q (folder_files_are_among_included_names known all there dir (included_files_of_folder all (dir ++ 47 ∷ []) 0 all) both.1) has)
    (λ q has.
    let number = name_in_list_has_property_of_all (λ name. (k : ℕ) × (number_of_first_file_named name 0 all ≡ Some k)) names q numbered has in
    includable_file_is_in_folder_files all (dir ++ 47 ∷ []) q 0 all (all_files_are_from_number_zero all)
    (name_in_list_has_property_of_all (λ name. is_includable_from_folder (dir ++ 47 ∷ []) name ≡ true) names q (includable_bases_are_included_by_folder dir (base_names_with_includables_added [] (base_names_in_folder dir known)) (added_bases_keep_names_includable [] (base_names_in_folder dir known) tt)) has)
    number.0 number.1)

-- The files of the folder on the walk have the names that are gathered, in their order, if each of these is among the files.
pub folder_files_have_sorted_known_names : (known : List NamedFile) (all : List ParsedFile) → AreAllFirstOfTheirNames all → ((k : ℕ) (reading : ParsedFile) → slice_get all k ≡ Some reading → IsNameOfKnownFile known reading.name) → (dir : List ℕ)
    → AllByRecursion (λ name. (k : ℕ) × (number_of_first_file_named name 0 all ≡ Some k)) (sorted_file_names_in_folder dir (included_base_names_in dir known))
    → names_of_numbered_files all (included_files_of_folder all (dir ++ 47 ∷ []) 0 all) ≡ sorted_file_names_in_folder dir (included_base_names_in dir known)
folder_files_have_sorted_known_names known all own there dir numbered =
    folder_files_have_included_names known all own there dir (subst (AllByRecursion (λ name. (k : ℕ) × (number_of_first_file_named name 0 all ≡ Some k))) (sorted_folder_names_are_included_names known dir) numbered) ∙ sym (sorted_folder_names_are_included_names known dir)
