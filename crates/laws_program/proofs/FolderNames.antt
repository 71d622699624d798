-- The names of files in a folder to which an include of it leads.
use Rattle.std.proofs.Common.{◌≡◌, ℕ, ◌==◌, ◌&&◌, not, Bool, true, false, if◌then◌else◌, List, [], ◌∷◌, ◌++◌, length, drop, map, refl, ap, ap₂, ◌∙◌}
use Rattle.std.specs.declared.cmp.Ordering.{Ordering}
use Rattle.std.specs.declared.cmp.Ordering.TheVariants.{Less, Equal, Greater}
use Rattle.std.specs.BTreeSet.{insert_key}
use Rattle.std.specs.Cmp.Derive.{both_true}
use Rattle.std.specs.Cmp.Lexicographic.{slice_cmp}
use Rattle.std.specs.List.{AllByRecursion, filter}
use Rattle.std.specs.Ordering.{match_ordering, nat_cmp}
use Rattle.std.specs.Str.{bytes_eq}
use Rattle.std.proofs.lemmas.Slice.Eq.{bytes_eq-Decides}
use Rattle.sudoers_grammar.specs.Piece.{has_byte}
use Rattle.sudoers_tree.specs.Lead.{folder_of}
use Rattle.sudoers_tree.specs.Targets.{base_name_of_file_name, ends_in_tilde, is_includable_base_name, is_includable_from_folder}
use Rattle.sudoers_tree.specs.declared.named_files.NamedFile.{NamedFile}
use Rattle.sudoers_files.specs.Folder.{sorted_names_with_names_inserted, file_name_of_base_in_folder, sorted_file_names_in_folder}
use Rattle.sudoers_files.specs.Shelf.{base_names_in_folder, included_base_names_in}
use Rattle.laws_program.proofs.WalkSteps.{disjunction_with_true_second_is_true}

-- ---- the name of a file in a folder

name_in_folder_has_slash : (dir base : List ℕ) → has_byte 47 (dir ++ 47 ∷ base) ≡ true
name_in_folder_has_slash [] base = refl
name_in_folder_has_slash (d ∷ dir) base = disjunction_with_true_second_is_true (d == 47) (has_byte 47 (dir ++ 47 ∷ base)) (name_in_folder_has_slash dir base)

name_without_slash_has_empty_folder : (base : List ℕ) → has_byte 47 base ≡ false → folder_of base ≡ []
name_without_slash_has_empty_folder [] none = refl
name_without_slash_has_empty_folder (b ∷ base) none = ap (λ t. if t then b ∷ folder_of base else []) none

folder_of_name_in_folder_is_folder : (dir base : List ℕ) → has_byte 47 base ≡ false → folder_of (file_name_of_base_in_folder dir base) ≡ dir ++ 47 ∷ []
folder_of_name_in_folder_is_folder [] base none = ap (λ t. if t then 47 ∷ folder_of base else []) (name_in_folder_has_slash [] base) ∙ ap (λ f. 47 ∷ f) (name_without_slash_has_empty_folder base none)
folder_of_name_in_folder_is_folder (d ∷ dir) base none =
    ap (λ t. if t then d ∷ folder_of (dir ++ 47 ∷ base) else []) (name_in_folder_has_slash (d ∷ dir) base) ∙ ap (λ f. d ∷ f) (folder_of_name_in_folder_is_folder dir base none)

folder_dropped_leaves_base_name : (dir base : List ℕ) → drop (length (dir ++ 47 ∷ [])) (dir ++ 47 ∷ base) ≡ base
folder_dropped_leaves_base_name [] base = refl
folder_dropped_leaves_base_name (d ∷ dir) base = folder_dropped_leaves_base_name dir base

base_of_name_in_folder_is_base : (dir base : List ℕ) → has_byte 47 base ≡ false → base_name_of_file_name (file_name_of_base_in_folder dir base) ≡ base
base_of_name_in_folder_is_base dir base none = ap (λ f. drop (length f) (file_name_of_base_in_folder dir base)) (folder_of_name_in_folder_is_folder dir base none) ∙ folder_dropped_leaves_base_name dir base

includable_base_name_has_no_slash : (base : List ℕ) → is_includable_base_name base ≡ true → has_byte 47 base ≡ false
includable_base_name_has_no_slash base is = by (has_byte 47 base) refl is
  where
    by : (t : Bool) → has_byte 47 base ≡ t → (not t && not (has_byte 46 base) && not (ends_in_tilde base)) ≡ true → has_byte 47 base ≡ false
    by true has e = absurd cc
    by false has e = has

pub name_has_equal_bytes_to_itself : (name : List ℕ) → bytes_eq name name ≡ true
name_has_equal_bytes_to_itself name = (bytes_eq-Decides name name).1 refl

-- An include of the folder leads to it.
pub includable_name_in_folder_is_included : (dir base : List ℕ) → is_includable_base_name base ≡ true → is_includable_from_folder (dir ++ 47 ∷ []) (file_name_of_base_in_folder dir base) ≡ true
includable_name_in_folder_is_included dir base is =
    let none = includable_base_name_has_no_slash base is in
    ap₂ (λ f b. bytes_eq f (dir ++ 47 ∷ []) && is_includable_base_name b) (folder_of_name_in_folder_is_folder dir base none) (base_of_name_in_folder_is_base dir base none)
    ∙ both_true (name_has_equal_bytes_to_itself (dir ++ 47 ∷ [])) is

-- ---- names in order

-- the names `before`, which are in order, and this one among them if an include of the folder reads it
abbrev pub base_names_with_includable_added : List ℕ → List (List ℕ) → List (List ℕ)
base_names_with_includable_added base before = if is_includable_base_name base then insert_key (slice_cmp nat_cmp) before base else before

-- the names `before` and those of the others that an include of the folder reads, in order
abbrev pub base_names_with_includables_added : List (List ℕ) → List (List ℕ) → List (List ℕ)
base_names_with_includables_added before [] = before
base_names_with_includables_added before (base ∷ bases) = base_names_with_includables_added (base_names_with_includable_added base before) bases

includable_base_names_are_sorted_and_unique : (before bases : List (List ℕ)) → sorted_names_with_names_inserted before (filter is_includable_base_name bases) ≡ base_names_with_includables_added before bases
includable_base_names_are_sorted_and_unique before [] = refl
includable_base_names_are_sorted_and_unique before (base ∷ bases) = by (is_includable_base_name base) (λ names. includable_base_names_are_sorted_and_unique names bases)
  where
    by : (t : Bool) → ((names : List (List ℕ)) → sorted_names_with_names_inserted names (filter is_includable_base_name bases) ≡ base_names_with_includables_added names bases)
        → sorted_names_with_names_inserted before (if t then base ∷ filter is_includable_base_name bases else filter is_includable_base_name bases)
        ≡ base_names_with_includables_added (if t then insert_key (slice_cmp nat_cmp) before base else before) bases
    by true later = later (insert_key (slice_cmp nat_cmp) before base)
    by false later = later before

-- the whole names of the files of a folder that an include of it reads
abbrev pub file_names_included_from_folder : List ℕ → List (List ℕ) → List (List ℕ)
file_names_included_from_folder dir bases = map (file_name_of_base_in_folder dir) (base_names_with_includables_added [] bases)

pub sorted_folder_names_are_included_names : (known : List NamedFile) (dir : List ℕ) → sorted_file_names_in_folder dir (included_base_names_in dir known) ≡ file_names_included_from_folder dir (base_names_in_folder dir known)
sorted_folder_names_are_included_names known dir = ap (map (file_name_of_base_in_folder dir)) (includable_base_names_are_sorted_and_unique [] (base_names_in_folder dir known))

pub inserted_key_keeps_property_of_all : (P : List ℕ → Type 0) (keys : List (List ℕ)) (key : List ℕ) → AllByRecursion P keys → P key → AllByRecursion P (insert_key (slice_cmp nat_cmp) keys key)
inserted_key_keeps_property_of_all P [] key all is = (is, tt)
inserted_key_keeps_property_of_all P (x ∷ keys) key all is = by (slice_cmp nat_cmp key x) (inserted_key_keeps_property_of_all P keys key all.1 is)
  where
    by : (o : Ordering) → AllByRecursion P (insert_key (slice_cmp nat_cmp) keys key)
        → AllByRecursion P (match_ordering o (key ∷ x ∷ keys) (x ∷ keys) (x ∷ insert_key (slice_cmp nat_cmp) keys key))
    by Less later = (is, all)
    by Equal later = all
    by Greater later = (all.0, later)

abbrev AreIncludableBaseNames : List (List ℕ) → Type 0
AreIncludableBaseNames = AllByRecursion (λ base. is_includable_base_name base ≡ true)

added_base_keeps_names_includable : (before : List (List ℕ)) (base : List ℕ) → AreIncludableBaseNames before → AreIncludableBaseNames (base_names_with_includable_added base before)
added_base_keeps_names_includable before base all = by (is_includable_base_name base) refl
  where
    by : (t : Bool) → is_includable_base_name base ≡ t → AreIncludableBaseNames (if t then insert_key (slice_cmp nat_cmp) before base else before)
    by true is = inserted_key_keeps_property_of_all (λ b. is_includable_base_name b ≡ true) before base all is
    by false is = all

pub added_bases_keep_names_includable : (before bases : List (List ℕ)) → AreIncludableBaseNames before → AreIncludableBaseNames (base_names_with_includables_added before bases)
added_bases_keep_names_includable before [] all = all
added_bases_keep_names_includable before (base ∷ bases) all = added_bases_keep_names_includable (base_names_with_includable_added base before) bases (added_base_keeps_names_includable before base all)
