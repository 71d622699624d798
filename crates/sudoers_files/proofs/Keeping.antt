-- What stays true of the files that are found, where visits append to them.
use Rattle.std.proofs.Common.{◌≡◌, ℕ, zero, suc, ◌||◌, nat_le, Bool, true, false, if◌then◌else◌, List, [], ◌∷◌, ◌++◌, length, map, Option, Some, None, Ok, Err, refl, ap, subst, ◌∙◌}
use Rattle.std.specs.List.{list_any}
use Rattle.std.specs.Str.{bytes_eq}
use Rattle.std.proofs.lemmas.List.{map-append}
use Rattle.std.proofs.lemmas.List.Folds.{list_any-append}
use Rattle.std.proofs.lemmas.Slice.Eq.{bytes_eq-Decides}
use Rattle.sudoers_tree.specs.declared.named_files.NamedFile.{NamedFile}
use Rattle.sudoers_tree.specs.Load.{file_limit, has_file_with_name}
use Rattle.sudoers_files.specs.declared.fault.GatherFault.TheVariants.{TooManyFiles}
use Rattle.sudoers_files.specs.Gather.{GatherVisitFunction, gather_result_and_then, gathered_with_file_and_includes, gathered_unless_found, gathered_unless_missing_or_full, gathered_after_file_visit, gathered_after_file_visits}
use Rattle.sudoers_files.specs.Included.{file_names_included_by_file}
use Rattle.sudoers_files.specs.Shelf.{named_file_bytes_truncated_past_limit}
use Rattle.sudoers_files.proofs.Visited.{GatherResult}

pub equal_results_have_equal_files : (files now : List NamedFile) → (let r : GatherResult = Ok files in r) ≡ Ok now → files ≡ now
equal_results_have_equal_files files now is = cc

-- the file has the bytes that are known of its name
abbrev pub HasKnownBytesOfName : List NamedFile → NamedFile → Type 0
HasKnownBytesOfName known file = named_file_bytes_truncated_past_limit file.name known ≡ Some file.bytes

-- It stays where such a file is appended.
abbrev pub IsKeptByAppendingKnownFile : List NamedFile → (List NamedFile → Type 0) → Type 0
IsKeptByAppendingKnownFile known R = (before : List NamedFile) (file : NamedFile) → HasKnownBytesOfName known file → R before → R (before ++ file ∷ [])

abbrev pub IsKeptByGatherVisit : (List NamedFile → Type 0) → GatherVisitFunction → Type 0
IsKeptByGatherVisit R gathered_after_file_visit = (before now : List NamedFile) (name : List ℕ) → R before → gathered_after_file_visit before name ≡ Ok now → R now

pub visits_keep_property_kept_by_visit : (R : List NamedFile → Type 0) (visit : GatherVisitFunction) → IsKeptByGatherVisit R visit → (before now : List NamedFile) (names : List (List ℕ)) → R before → gathered_after_file_visits visit before names ≡ Ok now → R now
visits_keep_property_kept_by_visit R visit keeps before now [] holds is = subst R (equal_results_have_equal_files before now is) holds
visits_keep_property_kept_by_visit R visit keeps before now (name ∷ names) holds is = by (visit before name) refl is (λ mid. visits_keep_property_kept_by_visit R visit keeps mid now names)
  where
    by : (r : GatherResult) → visit before name ≡ r → gather_result_and_then r (λ mid. gathered_after_file_visits visit mid names) ≡ Ok now
        → ((mid : List NamedFile) → R mid → gathered_after_file_visits visit mid names ≡ Ok now → R now) → R now
    by (Ok mid) here e later = later mid (keeps before mid name holds here) e
    by (Err fault) here e later = absurd cc

-- What holds of the files so far and of each file that is taken holds of all.
outcome_unless_found_is_same_or_taken : (S : Type 0) (next : NamedFile → GatherResult) (known before now : List NamedFile) (name : List ℕ) → (before ≡ now → S)
    → ((bytes : List ℕ) → named_file_bytes_truncated_past_limit name known ≡ Some bytes → next (record { name = name; bytes = bytes }) ≡ Ok now → S) → gathered_unless_found next known before name ≡ Ok now → S
outcome_unless_found_is_same_or_taken S next known before now name same taken is = by_name (has_file_with_name name before) is
  where
    by_limit : (t : Bool) (bytes : List ℕ) → named_file_bytes_truncated_past_limit name known ≡ Some bytes → (if t then Err TooManyFiles else next (record { name = name; bytes = bytes })) ≡ Ok now → S
    by_limit true bytes there e = absurd cc
    by_limit false bytes there e = taken bytes there e

    by_front : (o : Option (List ℕ)) → named_file_bytes_truncated_past_limit name known ≡ o → gathered_unless_missing_or_full next before name o ≡ Ok now → S
    by_front None there e = same (equal_results_have_equal_files before now e)
    by_front (Some bytes) there e = by_limit (nat_le file_limit (length before)) bytes there e

    by_name : (t : Bool) → (if t then Ok before else gathered_unless_missing_or_full next before name (named_file_bytes_truncated_past_limit name known)) ≡ Ok now → S
    by_name true e = same (equal_results_have_equal_files before now e)
    by_name false e = by_front (named_file_bytes_truncated_past_limit name known) refl e

pub visit_keeps_property_kept_by_appending : (R : List NamedFile → Type 0) (known : List NamedFile) → IsKeptByAppendingKnownFile known R → (left : ℕ) → IsKeptByGatherVisit R (gathered_after_file_visit left known)
visit_keeps_property_kept_by_appending R known stays zero before now name holds is =
    outcome_unless_found_is_same_or_taken (R now) (λ file. Err TooManyFiles) known before now name (λ same. subst R same holds) (λ bytes there e. absurd cc) is
visit_keeps_property_kept_by_appending R known stays (suc left) before now name holds is =
    outcome_unless_found_is_same_or_taken (R now) (gathered_with_file_and_includes (gathered_after_file_visit left known) known before) known before now name (λ same. subst R same holds)
    (λ bytes there e.
    let file : NamedFile = record { name = name; bytes = bytes } in
    visits_keep_property_kept_by_visit R (gathered_after_file_visit left known) (visit_keeps_property_kept_by_appending R known stays left) (before ++ file ∷ []) now (file_names_included_by_file known file) (stays before file there holds) e)
    is

-- ---- names that are found

abbrev pub names_of_found_files : List NamedFile → List (List ℕ)
names_of_found_files files = map (λ (file : NamedFile). file.name) files

pub name_after_append_is_in_old_or_new : (q : List ℕ) (before : List NamedFile) (file : NamedFile) → has_file_with_name q (before ++ file ∷ []) ≡ (has_file_with_name q before || has_file_with_name q (file ∷ []))
name_after_append_is_in_old_or_new q before file =
    ap (list_any (bytes_eq q)) (map-append (λ (f : NamedFile). f.name) before (file ∷ [])) ∙ list_any-append (bytes_eq q) (names_of_found_files before) (file.name ∷ [])

or_with_first_true_is_true : (a b : Bool) → a ≡ true → (a || b) ≡ true
or_with_first_true_is_true true b is = refl
or_with_first_true_is_true false b is = absurd cc

or_with_second_true_is_true : (a b : Bool) → b ≡ true → (a || b) ≡ true
or_with_second_true_is_true true b is = refl
or_with_second_true_is_true false b is = is

pub appending_keeps_names_found : (known : List NamedFile) (q : List ℕ) → IsKeptByAppendingKnownFile known (λ files. has_file_with_name q files ≡ true)
appending_keeps_names_found known q before file there has = name_after_append_is_in_old_or_new q before file ∙ or_with_first_true_is_true (has_file_with_name q before) (has_file_with_name q (file ∷ [])) has

pub appended_file_has_its_name_found : (before : List NamedFile) (file : NamedFile) → has_file_with_name file.name (before ++ file ∷ []) ≡ true
appended_file_has_its_name_found before file =
    name_after_append_is_in_old_or_new file.name before file
    ∙ or_with_second_true_is_true (has_file_with_name file.name before) (has_file_with_name file.name (file ∷ [])) (or_with_first_true_is_true (bytes_eq file.name file.name) false ((bytes_eq-Decides file.name file.name).1 refl))

pub visit_keeps_names_found : (known : List NamedFile) (left : ℕ) (q : List ℕ) → IsKeptByGatherVisit (λ files. has_file_with_name q files ≡ true) (gathered_after_file_visit left known)
visit_keeps_names_found known left q = visit_keeps_property_kept_by_appending (λ files. has_file_with_name q files ≡ true) known (appending_keeps_names_found known q) left
