-- The numbers of files that are gathered, and those to which a line leads.
use Rattle.std.proofs.Common.{◌≡◌, ℕ, zero, suc, ◌+◌, ◌<◌, ◌||◌, nat_eq, nat_le, Bool, true, false, if◌then◌else◌, List, [], ◌∷◌, ◌++◌, length, option_map, slice_get, Option, Some, None, Ok, Err, refl, sym, ap, subst, ◌∙◌, append_assoc, append-nil, arith}
use Rattle.std.specs.List.{AllByRecursion, list_any}
use Rattle.std.specs.Str.{bytes_eq}
use Rattle.std.proofs.lemmas.Bool.{eq-eqb}
use Rattle.std.proofs.lemmas.List.Folds.{list_any-append}
use Rattle.std.proofs.lemmas.Option.{slice_get-map, slice_get_within}
use Rattle.std.proofs.lemmas.Slice.Eq.{bytes_eq-Decides}
use Rattle.sudoers_tree.specs.declared.include_leads.Lead.{Lead}
use Rattle.sudoers_tree.specs.declared.include_leads.Lead.TheVariants.{File, Dir}
use Rattle.sudoers_tree.specs.declared.named_files.NamedFile.{NamedFile}
use Rattle.sudoers_tree.specs.Files.{ParsedFile, name_of_optional_file as read_name}
use Rattle.sudoers_tree.specs.Load.{file_limit, first_repeated_file_name, has_file_with_name}
use Rattle.sudoers_tree.specs.Targets.{included_files_of_folder, number_of_first_file_named, targets_of_lead}
use Rattle.sudoers_tree.specs.Walk.{WalkState, is_file_on_walk, walk_with_line_appended}
use Rattle.sudoers_files.specs.declared.fault.GatherFault.TheVariants.{TooManyFiles}
use Rattle.sudoers_files.specs.Folder.{sorted_file_names_in_folder}
use Rattle.sudoers_files.specs.Gather.{gather_result_and_then, gathered_with_file_and_includes, gathered_unless_found, gathered_unless_missing_or_full, gathered_after_file_visit, gathered_after_file_visits}
use Rattle.sudoers_files.specs.Included.{file_names_included_by_file, file_names_of_lead}
use Rattle.sudoers_files.specs.Shelf.{named_file_bytes_truncated_past_limit, included_base_names_in}
use Rattle.laws_program.proofs.WalkSteps.{true_disjunction_has_true_part, disjunction_with_true_first_is_true, disjunction_with_true_second_is_true}
use Rattle.laws_program.proofs.FolderOrder.{AreAllFirstOfTheirNames, IsFileInFolderFromNumber, IsFirstFileOfItsName, IsNameOfKnownFile, names_of_numbered_files, folder_file_names_are_ascending, folder_files_have_sorted_known_names, sorted_folder_file_names_are_known, all_files_are_from_number_zero}
use Rattle.sudoers_files.proofs.Keeping.{names_of_found_files, visits_keep_property_kept_by_visit, visit_keeps_names_found, equal_results_have_equal_files, appended_file_has_its_name_found, visit_keeps_property_kept_by_appending}
use Rattle.laws_program.proofs.GatheredFiles.{IsParsedKnownFile, names_of_parsed_files, GatherResult, element_at_index_has_property_of_all, unrepeated_file_name_has_its_number}

-- the numbers below this one, in their order
abbrev pub numbers_below : ℕ → List ℕ
numbers_below zero = []
numbers_below (suc n) = numbers_below n ++ n ∷ []

smaller_number_is_among_numbers_below : (i n : ℕ) → i < n → list_any (nat_eq i) (numbers_below n) ≡ true
smaller_number_is_among_numbers_below i zero less = absurd (omega (arith, less))
smaller_number_is_among_numbers_below i (suc n) less = list_any-append (nat_eq i) (numbers_below n) (n ∷ []) ∙ by (nat_eq i n) refl (smaller_number_is_among_numbers_below i n)
  where
    by : (t : Bool) → nat_eq i n ≡ t → (i < n → list_any (nat_eq i) (numbers_below n) ≡ true) → (list_any (nat_eq i) (numbers_below n) || (t || false)) ≡ true
    by true is later = disjunction_with_true_second_is_true (list_any (nat_eq i) (numbers_below n)) true refl
    by false is later =
        disjunction_with_true_first_is_true (list_any (nat_eq i) (numbers_below n)) false
        (later (let differ : i ≡ n → ⊥ = λ same. let t : true ≡ false = sym (eq-eqb i n same) ∙ is in cc in omega (arith, less, differ)))

-- Files that are gathered, with what is read of them.
pub record AreGatheredFilesParsed (known found : List NamedFile) (files : List ParsedFile) : Type 0 where
  pub readings : AllByRecursion (IsParsedKnownFile known) files
  pub named : names_of_parsed_files files ≡ names_of_found_files found
  pub once : first_repeated_file_name [] found ≡ None

abbrev pub IsPrefixOfFound : (found before : List NamedFile) → Type 0
IsPrefixOfFound found before = (more : List NamedFile) × (found ≡ before ++ more)

pub found_file_has_its_number : (known found : List NamedFile) (files : List ParsedFile) → AreGatheredFilesParsed known found files → (i : ℕ) (file : NamedFile) → slice_get found i ≡ Some file
    → number_of_first_file_named file.name 0 files ≡ Some i
found_file_has_its_number known found files ready i file is =
    unrepeated_file_name_has_its_number [] 0 found files ready.named ready.once i file is ∙ (let same : 0 + i ≡ i = omega arith in ap (λ k. Some k) same)

parsed_found_files_are_first_of_names : (known found : List NamedFile) (files : List ParsedFile) → AreGatheredFilesParsed known found files → AreAllFirstOfTheirNames files
parsed_found_files_are_first_of_names known found files ready k reading is =
    ap (λ n. number_of_first_file_named n 0 files) (ap read_name is)
    ∙ by (slice_get found k) refl
    (sym (slice_get-map (λ (f : NamedFile). f.name) found k) ∙ ap (λ ns. slice_get ns k) (sym ready.named) ∙ slice_get-map (λ (f : ParsedFile). f.name) files k ∙ ap (option_map (λ (f : ParsedFile). f.name)) is)
  where
    by : (o : Option NamedFile) → slice_get found k ≡ o → option_map (λ (f : NamedFile). f.name) o ≡ Some reading.name → number_of_first_file_named reading.name 0 files ≡ Some k
    by None e n = absurd cc
    by (Some file) e n = let same : file.name ≡ reading.name = cc in ap (λ n. number_of_first_file_named n 0 files) (sym same) ∙ found_file_has_its_number known found files ready k file e

parsed_found_files_have_known_names : (known found : List NamedFile) (files : List ParsedFile) → AreGatheredFilesParsed known found files → (k : ℕ) (reading : ParsedFile) → slice_get files k ≡ Some reading → IsNameOfKnownFile known reading.name
parsed_found_files_have_known_names known found files ready k reading is = let read = element_at_index_has_property_of_all (IsParsedKnownFile known) files ready.readings k reading is in (read.bytes, read.there)

-- ---- files that are found

file_name_in_list_has_index : (q : List ℕ) (before : List NamedFile) → has_file_with_name q before ≡ true → (i : ℕ) × (file : NamedFile) × (slice_get before i ≡ Some file) × (file.name ≡ q)
file_name_in_list_has_index q [] has = absurd cc
file_name_in_list_has_index q (file ∷ before) has =
    true_disjunction_has_true_part (bytes_eq q file.name) (has_file_with_name q before) ((i : ℕ) × (f : NamedFile) × (slice_get (file ∷ before) i ≡ Some f) × (f.name ≡ q)) has
    (λ same. (0, file, refl, sym ((bytes_eq-Decides q file.name).0 same)))
    (λ later. let rest = file_name_in_list_has_index q before later in (suc rest.0, rest.1, rest.2, rest.3))

prefix_keeps_file_at_index : (before more : List NamedFile) (i : ℕ) (file : NamedFile) → slice_get before i ≡ Some file → slice_get (before ++ more) i ≡ Some file
prefix_keeps_file_at_index [] more i file is = absurd cc
prefix_keeps_file_at_index (f ∷ before) more zero file is = is
prefix_keeps_file_at_index (f ∷ before) more (suc i) file is = prefix_keeps_file_at_index before more i file is

pub appended_file_is_at_length : (before more : List NamedFile) (file : NamedFile) → slice_get (before ++ file ∷ more) (length before) ≡ Some file
appended_file_is_at_length [] more file = refl
appended_file_is_at_length (f ∷ before) more file = appended_file_is_at_length before more file

-- a file that is found so far has its number
file_found_before_has_number_below_count : (known found : List NamedFile) (files : List ParsedFile) → AreGatheredFilesParsed known found files → (q : List ℕ) (before : List NamedFile) → IsPrefixOfFound found before → has_file_with_name q before ≡ true
    → (i : ℕ) × (i < length before) × (number_of_first_file_named q 0 files ≡ Some i)
file_found_before_has_number_below_count known found files ready q before prefix has =
    let index = file_name_in_list_has_index q before has in (
      index.0,
      slice_get_within before index.0 index.1 index.2,
      ap (λ n. number_of_first_file_named n 0 files) (sym index.3)
          ∙ found_file_has_its_number known found files ready index.0 index.1 (ap (λ fs. slice_get fs index.0) prefix.1 ∙ prefix_keeps_file_at_index before prefix.0 index.0 index.1 index.2),
    )

-- A file that is not on the walk is not found yet.
pub file_not_on_walk_is_unfound : (known found : List NamedFile) (files : List ParsedFile) → AreGatheredFilesParsed known found files → (w : WalkState) (name : List ℕ) (f : ℕ) (before : List NamedFile) → IsPrefixOfFound found before
    → w.on ≡ numbers_below (length before) → number_of_first_file_named name 0 files ≡ Some f → is_file_on_walk w f ≡ false → has_file_with_name name before ≡ false
file_not_on_walk_is_unfound known found files ready w name f before prefix on number off = by (has_file_with_name name before) refl
  where
    by : (t : Bool) → has_file_with_name name before ≡ t → t ≡ false
    by true has =
        let index = file_found_before_has_number_below_count known found files ready name before prefix has in
        let same : index.0 ≡ f = let both : Some index.0 ≡ Some f = sym index.2 ∙ number in cc in
        let there : list_any (nat_eq f) (numbers_below (length before)) ≡ true = subst (λ k. list_any (nat_eq k) (numbers_below (length before)) ≡ true) same (smaller_number_is_among_numbers_below index.0 (length before) index.1) in
        let here : is_file_on_walk w f ≡ true = ap (list_any (nat_eq f)) on ∙ there in
        absurd (let t : true ≡ false = sym here ∙ off in cc)
    by false has = refl

-- ---- what a visit appends

abbrev pub IsExtensionOfFound : (before now : List NamedFile) → Type 0
IsExtensionOfFound before now = (more : List NamedFile) × (now ≡ before ++ more)

pub visits_extend_found_files : (known : List NamedFile) (left : ℕ) (before now : List NamedFile) (names : List (List ℕ)) → gathered_after_file_visits (gathered_after_file_visit left known) before names ≡ Ok now → IsExtensionOfFound before now
visits_extend_found_files known left before now names is =
    visits_keep_property_kept_by_visit (IsExtensionOfFound before) (gathered_after_file_visit left known)
    (visit_keeps_property_kept_by_appending (IsExtensionOfFound before) known (λ files file there extends. (extends.0 ++ file ∷ [], ap (λ fs. fs ++ file ∷ []) extends.1 ∙ append_assoc before extends.0 (file ∷ []))) left)
    before now names ([], sym (append-nil before)) is

pub prefix_of_prefix_is_prefix_of_found : (found before now : List NamedFile) → IsPrefixOfFound found now → IsExtensionOfFound before now → IsPrefixOfFound found before
prefix_of_prefix_is_prefix_of_found found before now prefix extends = (extends.0 ++ prefix.0, prefix.1 ∙ ap (λ fs. fs ++ prefix.0) extends.1 ∙ append_assoc before extends.0 prefix.0)

-- A visit finds a file that is known.
visit_finds_known_file : (known : List NamedFile) (left : ℕ) (before now : List NamedFile) (name : List ℕ) → IsNameOfKnownFile known name → gathered_after_file_visit left known before name ≡ Ok now → has_file_with_name name now ≡ true
visit_finds_known_file known left before now name there is = by_left left is
  where
    by_next : (next : NamedFile → GatherResult) → (next (record { name = name; bytes = there.0 }) ≡ Ok now → has_file_with_name name now ≡ true) → gathered_unless_found next known before name ≡ Ok now → has_file_with_name name now ≡ true
    by_next next walk_with_line_appended e = by_name (has_file_with_name name before) refl e
      where
        by_limit : (t : Bool) → (if t then Err TooManyFiles else next (record { name = name; bytes = there.0 })) ≡ Ok now → has_file_with_name name now ≡ true
        by_limit true f = absurd cc
        by_limit false f = walk_with_line_appended f

        by_name : (t : Bool) → has_file_with_name name before ≡ t → (if t then Ok before else gathered_unless_missing_or_full next before name (named_file_bytes_truncated_past_limit name known)) ≡ Ok now → has_file_with_name name now ≡ true
        by_name true has f = subst (λ fs. has_file_with_name name fs ≡ true) (equal_results_have_equal_files before now f) has
        by_name false has f = by_limit (nat_le file_limit (length before)) (sym (ap (gathered_unless_missing_or_full next before name) there.1) ∙ f)

    by_left : (l : ℕ) → gathered_after_file_visit l known before name ≡ Ok now → has_file_with_name name now ≡ true
    by_left zero e = by_next (λ file. Err TooManyFiles) (λ f. absurd cc) e
    by_left (suc l) e =
        by_next (gathered_with_file_and_includes (gathered_after_file_visit l known) known before)
        (λ f.
        let file : NamedFile = record { name = name; bytes = there.0 } in
        visits_keep_property_kept_by_visit (λ files. has_file_with_name name files ≡ true) (gathered_after_file_visit l known) (visit_keeps_names_found known l name) (before ++ file ∷ []) now (file_names_included_by_file known file) (appended_file_has_its_name_found before file) f)
        e

visits_find_all_known_files : (known : List NamedFile) (left : ℕ) (before now : List NamedFile) (names : List (List ℕ)) → AllByRecursion (IsNameOfKnownFile known) names → gathered_after_file_visits (gathered_after_file_visit left known) before names ≡ Ok now
    → AllByRecursion (λ name. has_file_with_name name now ≡ true) names
visits_find_all_known_files known left before now [] there is = tt
visits_find_all_known_files known left before now (name ∷ names) there is = by (gathered_after_file_visit left known before name) refl is (λ mid. visits_find_all_known_files known left mid now names there.1)
  where
    by : (r : GatherResult) → gathered_after_file_visit left known before name ≡ r → gather_result_and_then r (λ mid. gathered_after_file_visits (gathered_after_file_visit left known) mid names) ≡ Ok now
        → ((mid : List NamedFile) → gathered_after_file_visits (gathered_after_file_visit left known) mid names ≡ Ok now → AllByRecursion (λ n. has_file_with_name n now ≡ true) names) → AllByRecursion (λ n. has_file_with_name n now ≡ true) (name ∷ names)
    by (Ok mid) here e later =
        (visits_keep_property_kept_by_visit (λ files. has_file_with_name name files ≡ true) (gathered_after_file_visit left known) (visit_keeps_names_found known left name) mid now names (visit_finds_known_file known left before mid name there.0 here) e, later mid e)
    by (Err fault) here e later = absurd cc

-- ---- the files to which a line leads, and their names

-- the numbers of these names, one by one
abbrev pub AreNumbersOfNamedFiles : List ParsedFile → List (List ℕ) → List ℕ → Type 0
AreNumbersOfNamedFiles files [] [] = Unit {0}
AreNumbersOfNamedFiles files (name ∷ names) (k ∷ numbers) = (number_of_first_file_named name 0 files ≡ Some k) × AreNumbersOfNamedFiles files names numbers
AreNumbersOfNamedFiles files [] (k ∷ numbers) = ⊥
AreNumbersOfNamedFiles files (name ∷ names) [] = ⊥

first_files_have_numbers_of_their_names : (files : List ParsedFile) (numbers : List ℕ) → AllByRecursion (IsFirstFileOfItsName files) numbers → AreNumbersOfNamedFiles files (names_of_numbered_files files numbers) numbers
first_files_have_numbers_of_their_names files [] own = tt
first_files_have_numbers_of_their_names files (k ∷ numbers) own = (own.0, first_files_have_numbers_of_their_names files numbers own.1)

folder_files_are_first_of_their_names : (files : List ParsedFile) (folder : List ℕ) (numbers : List ℕ) → AreAllFirstOfTheirNames files → AllByRecursion (IsFileInFolderFromNumber files folder 0) numbers → AllByRecursion (IsFirstFileOfItsName files) numbers
folder_files_are_first_of_their_names files folder [] own members = tt
folder_files_are_first_of_their_names files folder (k ∷ numbers) own members = (own k members.0.reading members.0.there, folder_files_are_first_of_their_names files folder numbers own members.1)

found_file_names_have_numbers : (known found : List NamedFile) (files : List ParsedFile) → AreGatheredFilesParsed known found files → (now : List NamedFile) → IsPrefixOfFound found now → (names : List (List ℕ))
    → AllByRecursion (λ name. has_file_with_name name now ≡ true) names → AllByRecursion (λ name. (k : ℕ) × (number_of_first_file_named name 0 files ≡ Some k)) names
found_file_names_have_numbers known found files ready now prefix [] has = tt
found_file_names_have_numbers known found files ready now prefix (name ∷ names) has =
    let first = file_found_before_has_number_below_count known found files ready name now prefix has.0 in ((first.0, first.2), found_file_names_have_numbers known found files ready now prefix names has.1)

pub lead_targets_are_numbers_of_lead_names : (known found : List NamedFile) (files : List ParsedFile) → AreGatheredFilesParsed known found files → (left : ℕ) (before now : List NamedFile) → IsPrefixOfFound found now → (lead : Lead) (inner : List ℕ)
    → targets_of_lead files lead ≡ Some inner → gathered_after_file_visits (gathered_after_file_visit left known) before (file_names_of_lead known (Some lead)) ≡ Ok now → AreNumbersOfNamedFiles files (file_names_of_lead known (Some lead)) inner
lead_targets_are_numbers_of_lead_names known found files ready left before now prefix (File name) inner is visits = by (number_of_first_file_named name 0 files) refl is
  where
    by : (o : Option ℕ) → number_of_first_file_named name 0 files ≡ o → option_map (λ f. f ∷ []) o ≡ Some inner → AreNumbersOfNamedFiles files (name ∷ []) inner
    by None e f = absurd cc
    by (Some k) e f = subst (AreNumbersOfNamedFiles files (name ∷ [])) (let same : k ∷ [] ≡ inner = cc in same) (e, tt)
lead_targets_are_numbers_of_lead_names known found files ready left before now prefix (Dir dir) inner is visits =
    let own = parsed_found_files_are_first_of_names known found files ready in
    let names = sorted_file_names_in_folder dir (included_base_names_in dir known) in
    let numbers = included_files_of_folder files (dir ++ 47 ∷ []) 0 files in
    let has = visits_find_all_known_files known left before now names (sorted_folder_file_names_are_known known dir) visits in
    let same : names_of_numbered_files files numbers ≡ names = folder_files_have_sorted_known_names known files own (parsed_found_files_have_known_names known found files ready) dir (found_file_names_have_numbers known found files ready now prefix names has) in
    let both = folder_file_names_are_ascending files (dir ++ 47 ∷ []) own 0 files (all_files_are_from_number_zero files) in
    subst (AreNumbersOfNamedFiles files names) (let whole : numbers ≡ inner = let some = is in cc in whole)
    (subst (λ ns. AreNumbersOfNamedFiles files ns numbers) same (first_files_have_numbers_of_their_names files numbers (folder_files_are_first_of_their_names files (dir ++ 47 ∷ []) numbers own both.1)))
