-- Files with the names of others.
use Rattle.sudoers_tree.proofs.Common.{Lead, List, ParsedFile, Some, [], ap, ap₂, bytes_eq, file_inserted_in_name_order, file_names, first_repeated_file_name, if◌then◌else◌, included_files_of_folder}
use Rattle.sudoers_tree.proofs.Common.{is_file_name_before, is_includable_from_folder, is_name_among, length, map, name_of_numbered_file, named_file_of_parsed, number_of_first_file_named, option_map, refl, suc}
use Rattle.sudoers_tree.proofs.Common.{targets_of_lead, zero, ℕ, ◌++◌, ◌+◌, ◌∙◌, ◌∷◌, ◌≡◌}
use Rattle.std.specs.Cmp.Lexicographic.{slice_cmp}
use Rattle.std.specs.Ordering.{is_lt, nat_cmp}
use Rattle.sudoers_tree.specs.declared.include_leads.Lead.TheVariants.{File, Dir}

-- the first names are the same, and so are those behind them
pub same_file_names_have_same_first_and_rest : (file other : ParsedFile) (files others : List ParsedFile) → file_names (file ∷ files) ≡ file_names (other ∷ others)
    → (file.name ≡ other.name) × (file_names files ≡ file_names others)
same_file_names_have_same_first_and_rest file other files others same =
    let both : file.name ∷ file_names files ≡ other.name ∷ file_names others = same in
    (cc, cc)

-- There are as many files.
pub same_file_names_have_same_count : (files others : List ParsedFile) → file_names files ≡ file_names others → length (map named_file_of_parsed others) ≡ length (map named_file_of_parsed files)
same_file_names_have_same_count [] [] same = refl
same_file_names_have_same_count [] (other ∷ others) same = absurd cc
same_file_names_have_same_count (file ∷ files) [] same = absurd cc
same_file_names_have_same_count (file ∷ files) (other ∷ others) same = ap suc (same_file_names_have_same_count files others (same_file_names_have_same_first_and_rest file other files others same).1)

-- The first name that is there twice is the same, if there is one.
pub same_file_names_have_same_repeated_name : (before : List (List ℕ)) (files others : List ParsedFile) → file_names files ≡ file_names others
    → first_repeated_file_name before (map named_file_of_parsed others) ≡ first_repeated_file_name before (map named_file_of_parsed files)
same_file_names_have_same_repeated_name before [] [] same = refl
same_file_names_have_same_repeated_name before [] (other ∷ others) same = absurd cc
same_file_names_have_same_repeated_name before (file ∷ files) [] same = absurd cc
same_file_names_have_same_repeated_name before (file ∷ files) (other ∷ others) same =
    let both = same_file_names_have_same_first_and_rest file other files others same in
    let rest : first_repeated_file_name (before ++ file.name ∷ []) (map named_file_of_parsed others) ≡ first_repeated_file_name (before ++ file.name ∷ []) (map named_file_of_parsed files) =
    same_file_names_have_same_repeated_name (before ++ file.name ∷ []) files others both.1 in
    rw (← both.0) (ap (λ later. if is_name_among file.name before then Some file.name else later) rest)

-- The file with a number has the same name.
pub same_file_names_name_numbered_file_alike : (files others : List ParsedFile) → file_names files ≡ file_names others → (f : ℕ) → name_of_numbered_file files f ≡ name_of_numbered_file others f
same_file_names_name_numbered_file_alike [] [] same f = refl
same_file_names_name_numbered_file_alike [] (other ∷ others) same f = absurd cc
same_file_names_name_numbered_file_alike (file ∷ files) [] same f = absurd cc
same_file_names_name_numbered_file_alike (file ∷ files) (other ∷ others) same zero = (same_file_names_have_same_first_and_rest file other files others same).0
same_file_names_name_numbered_file_alike (file ∷ files) (other ∷ others) same (suc f) = same_file_names_name_numbered_file_alike files others (same_file_names_have_same_first_and_rest file other files others same).1 f

-- ---- an include line leads to the same files

same_file_names_give_name_same_number : (name : List ℕ) (n : ℕ) (files others : List ParsedFile) → file_names files ≡ file_names others
    → number_of_first_file_named name n files ≡ number_of_first_file_named name n others
same_file_names_give_name_same_number name n [] [] same = refl
same_file_names_give_name_same_number name n [] (other ∷ others) same = absurd cc
same_file_names_give_name_same_number name n (file ∷ files) [] same = absurd cc
same_file_names_give_name_same_number name n (file ∷ files) (other ∷ others) same =
    let both = same_file_names_have_same_first_and_rest file other files others same in
    ap (λ called. if bytes_eq name called then Some n else number_of_first_file_named name (n + 1) files) both.0
    ∙ ap (λ later. if bytes_eq name other.name then Some n else later) (same_file_names_give_name_same_number name (n + 1) files others both.1)

module _ (files others : List ParsedFile) (same : file_names files ≡ file_names others) where
  before_alike : (f g : ℕ) → is_file_name_before files f g ≡ is_file_name_before others f g
  before_alike f g = ap₂ (λ a b. is_lt (slice_cmp nat_cmp a b)) (same_file_names_name_numbered_file_alike files others same f) (same_file_names_name_numbered_file_alike files others same g)

  put_alike : (f : ℕ) (order : List ℕ) → file_inserted_in_name_order files f order ≡ file_inserted_in_name_order others f order
  put_alike f [] = refl
  put_alike f (g ∷ order) =
      ap (λ t. if t then f ∷ g ∷ order else g ∷ file_inserted_in_name_order files f order) (before_alike f g)
      ∙ ap (λ later. if is_file_name_before others f g then f ∷ g ∷ order else g ∷ later) (put_alike f order)

  in_folder_alike : (folder : List ℕ) (n : ℕ) (rest more : List ParsedFile) → file_names rest ≡ file_names more
      → included_files_of_folder files folder n rest ≡ included_files_of_folder others folder n more
  in_folder_alike folder n [] [] alike = refl
  in_folder_alike folder n [] (other ∷ more) alike = absurd cc
  in_folder_alike folder n (file ∷ rest) [] alike = absurd cc
  in_folder_alike folder n (file ∷ rest) (other ∷ more) alike =
      let both = same_file_names_have_same_first_and_rest file other rest more alike in
      let here = included_files_of_folder files folder (n + 1) rest in
      let there = included_files_of_folder others folder (n + 1) more in
      ap (λ name. if is_includable_from_folder folder name then file_inserted_in_name_order files n here else here) both.0
      ∙ ap (λ later. if is_includable_from_folder folder other.name then file_inserted_in_name_order files n later else later) (in_folder_alike folder (n + 1) rest more both.1)
      ∙ ap (λ later. if is_includable_from_folder folder other.name then later else there) (put_alike n there)

  pub same_targets : (lead : Lead) → targets_of_lead files lead ≡ targets_of_lead others lead
  same_targets (File name) = ap (option_map (λ f. f ∷ [])) (same_file_names_give_name_same_number name 0 files others same)
  same_targets (Dir dir) = ap (λ order. Some order) (in_folder_alike (dir ++ 47 ∷ []) 0 files others same)
