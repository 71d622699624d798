-- The function `gathered_files_or_fault` computes what `IsGatherOutcome` defines.
use Rattle.std.proofs.Common.{◌≡◌, ℕ, zero, suc, ◌+◌, ◌≤◌, ◌<◌, nat_le, Bool, true, false, if◌then◌else◌, List, [], ◌∷◌, ◌++◌, length, Option, Some, None, Ok, Err, ◌⊎◌, inl, inr, refl, sym, ap, ap₂, subst, ◌∙◌, arith}
use Rattle.std.proofs.lemmas.Bool.{leb-true, leb-false}
use Rattle.std.proofs.lemmas.List.{length_push}
use Rattle.sudoers_tree.specs.declared.named_files.NamedFile.{NamedFile}
use Rattle.sudoers_tree.specs.Load.{file_limit, has_file_with_name}
use Rattle.sudoers_files.specs.declared.fault.GatherFault.{GatherFault}
use Rattle.sudoers_files.specs.declared.fault.GatherFault.TheVariants.{NoRoot, TooManyFiles}
use Rattle.sudoers_files.specs.Shelf.{named_file_bytes_truncated_past_limit}
use Rattle.sudoers_files.specs.Included.{file_names_included_by_file}
use Rattle.sudoers_files.specs.internal.Gathering.{IsGatherStepOutcome}
use Rattle.sudoers_files.specs.Gather.{IsFaultOfDeviceOrMemory, GatherVisitFunction, gather_result_and_then, gathered_from_root_bytes, gathered_files_or_fault, gathered_with_file_and_includes, gathered_unless_found, gathered_unless_missing_or_full, gathered_after_file_visit, gathered_after_file_visits}
use Rattle.sudoers_files.proofs.Visited.{ResultForNewFile, GatherResult, missing_file_adds_nothing, found_name_adds_nothing, new_file_at_limit_is_too_many, new_file_below_limit_is_gathered}
use Rattle.sudoers_files.specs.Gathers.{Visits, Follows, IsGatherOutcome, again, absent, full, new, end, stops, onward, no_root, found}

-- ---- a visit removes no file that is found

abbrev NeverReducesFoundFiles : GatherVisitFunction → Type 0
NeverReducesFoundFiles gathered_after_file_visit = (before now : List NamedFile) (name : List ℕ) → gathered_after_file_visit before name ≡ Ok now → length before ≤ length now

equal_results_have_equal_file_count : (files now : List NamedFile) → (let r : GatherResult = Ok files in r) ≡ Ok now → length files ≤ length now
equal_results_have_equal_file_count files now is = let same : files ≡ now = cc in omega (arith, ap length same)

visits_never_reduce_found_files : (visit : GatherVisitFunction) → NeverReducesFoundFiles visit → (before now : List NamedFile) (names : List (List ℕ)) → gathered_after_file_visits visit before names ≡ Ok now → length before ≤ length now
visits_never_reduce_found_files visit grows before now [] is = equal_results_have_equal_file_count before now is
visits_never_reduce_found_files visit grows before now (name ∷ names) is = by (visit before name) refl is (λ files. visits_never_reduce_found_files visit grows files now names)
  where
    by : (r : GatherResult) → visit before name ≡ r → gather_result_and_then r (λ files. gathered_after_file_visits visit files names) ≡ Ok now
        → ((files : List NamedFile) → gathered_after_file_visits visit files names ≡ Ok now → length files ≤ length now) → length before ≤ length now
    by (Ok files) here e later = omega (arith, grows before files name here, later files e)
    by (Err fault) here e later = absurd cc

visit_unless_found_never_reduces_files : (next : ResultForNewFile) (files before now : List NamedFile) (name : List ℕ) → ((file : NamedFile) → next file ≡ Ok now → length before ≤ length now)
    → gathered_unless_found next files before name ≡ Ok now → length before ≤ length now
visit_unless_found_never_reduces_files next files before now name grows is = by_name (has_file_with_name name before) is
  where
    by_limit : (t : Bool) (bytes : List ℕ) → (if t then Err TooManyFiles else next (record { name = name; bytes = bytes })) ≡ Ok now → length before ≤ length now
    by_limit true bytes e = absurd cc
    by_limit false bytes e = grows (record { name = name; bytes = bytes }) e

    by_front : (o : Option (List ℕ)) → gathered_unless_missing_or_full next before name o ≡ Ok now → length before ≤ length now
    by_front None e = equal_results_have_equal_file_count before now e
    by_front (Some bytes) e = by_limit (nat_le file_limit (length before)) bytes e

    by_name : (t : Bool) → (if t then Ok before else gathered_unless_missing_or_full next before name (named_file_bytes_truncated_past_limit name files)) ≡ Ok now → length before ≤ length now
    by_name true e = equal_results_have_equal_file_count before now e
    by_name false e = by_front (named_file_bytes_truncated_past_limit name files) e

visit_never_reduces_found_files : (files : List NamedFile) (left : ℕ) → NeverReducesFoundFiles (gathered_after_file_visit left files)
visit_never_reduces_found_files files zero before now name is = visit_unless_found_never_reduces_files (λ file. Err TooManyFiles) files before now name (λ file e. absurd cc) is
visit_never_reduces_found_files files (suc left) before now name is =
    visit_unless_found_never_reduces_files (gathered_with_file_and_includes (gathered_after_file_visit left files) files before) files before now name
    (λ file e. omega (arith, length_push before file, visits_never_reduce_found_files (gathered_after_file_visit left files) (visit_never_reduces_found_files files left) (before ++ file ∷ []) now (file_names_included_by_file files file) e)) is

-- ---- `IsGatherOutcome` admits what is computed

-- The levels that are left and the files that are found together reach the limit. So a level is left for each file that the limit allows.
abbrev HasLevelForEachAllowedFile : ℕ → List NamedFile → Type 0
HasLevelForEachAllowedFile left before = file_limit ≤ left + length before

abbrev AreVisitsComputedAtLevel : List NamedFile → ℕ → Type 0
AreVisitsComputedAtLevel files left = (before : List NamedFile) (name : List ℕ) → HasLevelForEachAllowedFile left before → Visits files before name (gathered_after_file_visit left files before name)

computed_visits_follow_names : (files : List NamedFile) (left : ℕ) → AreVisitsComputedAtLevel files left → (before : List NamedFile) (names : List (List ℕ)) → HasLevelForEachAllowedFile left before
    → Follows files before names (gathered_after_file_visits (gathered_after_file_visit left files) before names)
computed_visits_follow_names files left visited before [] reaches = end before
computed_visits_follow_names files left visited before (name ∷ names) reaches = by (gathered_after_file_visit left files before name) refl (λ now. computed_visits_follow_names files left visited now names)
  where
    by : (r : GatherResult) → gathered_after_file_visit left files before name ≡ r
        → ((now : List NamedFile) → HasLevelForEachAllowedFile left now → Follows files now names (gathered_after_file_visits (gathered_after_file_visit left files) now names))
        → Follows files before (name ∷ names) (gather_result_and_then r (λ now. gathered_after_file_visits (gathered_after_file_visit left files) now names))
    by (Ok now) is later =
        onward before now name names (gathered_after_file_visits (gathered_after_file_visit left files) now names) (subst (λ o. Visits files before name o) is (visited before name reaches))
        (later now (omega (arith, reaches, visit_never_reduces_found_files files left before now name is)))
    by (Err fault) is later = stops before name names fault (subst (λ o. Visits files before name o) is (visited before name reaches))

computed_visit_unless_found_is_visit : (next : ResultForNewFile) (files before : List NamedFile) (name : List ℕ)
    → ((bytes : List ℕ) → has_file_with_name name before ≡ false → named_file_bytes_truncated_past_limit name files ≡ Some bytes → length before < file_limit → Visits files before name (next (record { name = name; bytes = bytes })))
    → Visits files before name (gathered_unless_found next files before name)
computed_visit_unless_found_is_visit next files before name comes = by_name (has_file_with_name name before) refl
  where
    by_limit : (t : Bool) (bytes : List ℕ) → has_file_with_name name before ≡ false → named_file_bytes_truncated_past_limit name files ≡ Some bytes → nat_le file_limit (length before) ≡ t
        → Visits files before name (if t then Err TooManyFiles else next (record { name = name; bytes = bytes }))
    by_limit true bytes other there many = full before name bytes other there (leb-true file_limit (length before) many)
    by_limit false bytes other there few = comes bytes other there (leb-false file_limit (length before) few)

    by_front : (o : Option (List ℕ)) → has_file_with_name name before ≡ false → named_file_bytes_truncated_past_limit name files ≡ o → Visits files before name (gathered_unless_missing_or_full next before name o)
    by_front None other gone = absent before name other gone
    by_front (Some bytes) other there = by_limit (nat_le file_limit (length before)) bytes other there refl

    by_name : (t : Bool) → has_file_with_name name before ≡ t → Visits files before name (if t then Ok before else gathered_unless_missing_or_full next before name (named_file_bytes_truncated_past_limit name files))
    by_name true has = again before name has
    by_name false other = by_front (named_file_bytes_truncated_past_limit name files) other refl

pub computed_visit_is_visit_outcome : (files : List NamedFile) (left : ℕ) → AreVisitsComputedAtLevel files left
computed_visit_is_visit_outcome files zero before name reaches = computed_visit_unless_found_is_visit (λ file. Err TooManyFiles) files before name (λ bytes other there few. absurd (omega (arith, reaches, few)))
computed_visit_is_visit_outcome files (suc left) before name reaches =
    computed_visit_unless_found_is_visit (gathered_with_file_and_includes (gathered_after_file_visit left files) files before) files before name
    (λ bytes other there few.
    let file : NamedFile = record { name = name; bytes = bytes } in
    new before name bytes (gathered_after_file_visits (gathered_after_file_visit left files) (before ++ file ∷ []) (file_names_included_by_file files file)) other there few
    (computed_visits_follow_names files left (computed_visit_is_visit_outcome files left) (before ++ file ∷ []) (file_names_included_by_file files file) (omega (arith, reaches, length_push before file))))

-- ---- `IsGatherOutcome` admits nothing else

mutual
  one_visit : (files : List NamedFile) (left : ℕ) (before : List NamedFile) (name : List ℕ) (o : GatherResult) → HasLevelForEachAllowedFile left before → Visits files before name o → gathered_after_file_visit left files before name ≡ o
  one_visit files zero before name o reaches (again b n has) = found_name_adds_nothing (λ file. Err TooManyFiles) files before name has
  one_visit files (suc left) before name o reaches (again b n has) = found_name_adds_nothing (gathered_with_file_and_includes (gathered_after_file_visit left files) files before) files before name has
  one_visit files zero before name o reaches (absent b n other gone) = missing_file_adds_nothing (λ file. Err TooManyFiles) files before name other gone
  one_visit files (suc left) before name o reaches (absent b n other gone) = missing_file_adds_nothing (gathered_with_file_and_includes (gathered_after_file_visit left files) files before) files before name other gone
  one_visit files zero before name o reaches (full b n bytes other there many) = new_file_at_limit_is_too_many (λ file. Err TooManyFiles) files before name bytes other there many
  one_visit files (suc left) before name o reaches (full b n bytes other there many) = new_file_at_limit_is_too_many (gathered_with_file_and_includes (gathered_after_file_visit left files) files before) files before name bytes other there many
  one_visit files zero before name o reaches (new b n bytes outcome other there few follows) = absurd (omega (arith, reaches, few))
  one_visit files (suc left) before name o reaches (new b n bytes outcome other there few follows) =
      let file : NamedFile = record { name = name; bytes = bytes } in
      new_file_below_limit_is_gathered (gathered_with_file_and_includes (gathered_after_file_visit left files) files before) files before name bytes other there few
      ∙ one_follow files left (before ++ file ∷ []) (file_names_included_by_file files file) o (omega (arith, reaches, length_push before file)) follows

  one_follow : (files : List NamedFile) (left : ℕ) (before : List NamedFile) (names : List (List ℕ)) (o : GatherResult) → HasLevelForEachAllowedFile left before → Follows files before names o
      → gathered_after_file_visits (gathered_after_file_visit left files) before names ≡ o
  one_follow files left before names o reaches (end b) = refl
  one_follow files left before names o reaches (stops b name more fault visits) =
      ap (λ r. gather_result_and_then r (λ now. gathered_after_file_visits (gathered_after_file_visit left files) now more)) (one_visit files left before name (Err fault) reaches visits)
  one_follow files left before names o reaches (onward b now name more outcome visits follows) =
      let here : gathered_after_file_visit left files before name ≡ Ok now = one_visit files left before name (Ok now) reaches visits in
      ap (λ r. gather_result_and_then r (λ files-now. gathered_after_file_visits (gathered_after_file_visit left files) files-now more)) here
      ∙ one_follow files left now more o (omega (arith, reaches, visit_never_reduces_found_files files left before now name here)) follows

-- ---- from the root on

visit_of_root_gathers_root_file : (files : List NamedFile) (root bytes : List ℕ) → named_file_bytes_truncated_past_limit root files ≡ Some bytes
    → gathered_after_file_visit (suc file_limit) files [] root ≡ gathered_with_file_and_includes (gathered_after_file_visit file_limit files) files [] (record { name = root; bytes = bytes })
visit_of_root_gathers_root_file files root bytes there = new_file_below_limit_is_gathered (gathered_with_file_and_includes (gathered_after_file_visit file_limit files) files []) files [] root bytes refl there (omega arith)

pub computed_gathering_is_gather_outcome : (files : List NamedFile) (root : List ℕ) → IsGatherOutcome files root (gathered_files_or_fault files root)
unfolding gathered_files_or_fault
computed_gathering_is_gather_outcome files root = by (named_file_bytes_truncated_past_limit root files) refl
  where
    by : (o : Option (List ℕ)) → named_file_bytes_truncated_past_limit root files ≡ o → IsGatherOutcome files root (gathered_from_root_bytes files root o)
    by None gone = no_root gone
    by (Some bytes) there =
        found bytes (gathered_with_file_and_includes (gathered_after_file_visit file_limit files) files [] (record { name = root; bytes = bytes })) there
        (subst (λ o. Visits files [] root o) (visit_of_root_gathers_root_file files root bytes there) (computed_visit_is_visit_outcome files (suc file_limit) [] root (omega arith)))

pub gather_outcome_is_computed_gathering : (files : List NamedFile) (root : List ℕ) (o : GatherResult) → IsGatherOutcome files root o → gathered_files_or_fault files root ≡ o
unfolding gathered_files_or_fault
gather_outcome_is_computed_gathering files root o (no_root gone) = ap (gathered_from_root_bytes files root) gone
gather_outcome_is_computed_gathering files root o (found bytes outcome there visits) =
    ap (gathered_from_root_bytes files root) there ∙ sym (visit_of_root_gathers_root_file files root bytes there) ∙ one_visit files (suc file_limit) [] root o (omega arith) visits

-- the gathering without the root
pub gathering_of_missing_root_is_no_root : (files : List NamedFile) (root : List ℕ) → named_file_bytes_truncated_past_limit root files ≡ None → gathered_files_or_fault files root ≡ Err NoRoot
unfolding gathered_files_or_fault
gathering_of_missing_root_is_no_root files root gone = ap (gathered_from_root_bytes files root) gone

gathering_begins_with_root_file : (files : List NamedFile) (root bytes : List ℕ) → named_file_bytes_truncated_past_limit root files ≡ Some bytes
    → gathered_files_or_fault files root ≡ gathered_with_file_and_includes (gathered_after_file_visit file_limit files) files [] (record { name = root; bytes = bytes })
unfolding gathered_files_or_fault
gathering_begins_with_root_file files root bytes there = ap (gathered_from_root_bytes files root) there

-- The same, with `left` levels and the files `before` as variables.
gathering_begins_at_file_limit_levels : (files before : List NamedFile) (root bytes : List ℕ) (left : ℕ) → left ≡ file_limit → before ≡ [] → named_file_bytes_truncated_past_limit root files ≡ Some bytes
    → gathered_files_or_fault files root ≡ gathered_with_file_and_includes (gathered_after_file_visit left files) files before (record { name = root; bytes = bytes })
gathering_begins_at_file_limit_levels files before root bytes left all none there =
    gathering_begins_with_root_file files root bytes there
    ∙ ap₂ (λ n old. gathered_with_file_and_includes (gathered_after_file_visit n files) files old (record { name = root; bytes = bytes })) (sym all) (sym none)

pub files_gathered_from_root_are_outcome : (files before now : List NamedFile) (root bytes : List ℕ) (left : ℕ) → left ≡ file_limit → before ≡ [] → named_file_bytes_truncated_past_limit root files ≡ Some bytes
    → gathered_with_file_and_includes (gathered_after_file_visit left files) files before (record { name = root; bytes = bytes }) ≡ Ok now → gathered_files_or_fault files root ≡ Ok now
files_gathered_from_root_are_outcome files before now root bytes left all none there is = gathering_begins_at_file_limit_levels files before root bytes left all none there ∙ is

pub fault_from_root_is_gather_fault : (files before now : List NamedFile) (root bytes : List ℕ) (left : ℕ) (fault : GatherFault) → left ≡ file_limit → before ≡ [] → named_file_bytes_truncated_past_limit root files ≡ Some bytes
    → IsGatherStepOutcome (Err fault) now (gathered_with_file_and_includes (gathered_after_file_visit left files) files before (record { name = root; bytes = bytes })) → IsFaultOfDeviceOrMemory fault ⊎ (gathered_files_or_fault files root ≡ Err fault)
fault_from_root_is_gather_fault files before now root bytes left fault all none there (inl outside) = inl outside
fault_from_root_is_gather_fault files before now root bytes left fault all none there (inr is) = inr (gathering_begins_at_file_limit_levels files before root bytes left all none there ∙ is)
