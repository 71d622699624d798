-- How many files and how many bytes there are on a walk.
use Rattle.sudoers_tree.proofs.Common.{AllByRecursion, Bool, Err, FileVisit, IncludeSite, IsCutOutcome, IsDistinct, Lead, Line, List, LoadFault, LoadedPolicy, NamedFile, None, Ok, Option, ParsedFile, ReadFault}
use Rattle.sudoers_tree.proofs.Common.{Result, Some, TextFault, WalkLineSpot, WalkState, [], ap, arith, bytes_eq, cut_outcome_of_text, definitions_in_line, definitions_of_lines, empty_walk, eqb-true, false}
use Rattle.sudoers_tree.proofs.Common.{fault_of_numbered_file, file_inserted_in_name_order, file_limit, files_opened_by_lead, files_unless_missing_or_on_walk, files_unless_on_walk, first_definition_fault, first_file_on_walk}
use Rattle.sudoers_tree.proofs.Common.{if◌then◌else◌, include_depth_limit, include_site_of_line, included_files_of_folder, is_file_name_before, is_file_on_walk, is_includable_from_folder, join, lead_of_file_line}
use Rattle.sudoers_tree.proofs.Common.{length, length-append, length_push, lines_of_numbered_file, list_any, list_any-append, load_result_and_then, name_of_numbered_file, nat_eq, number_of_first_file_named}
use Rattle.sudoers_tree.proofs.Common.{option_map, parsed_file_of_texts, parsed_file_of_cut_or_fault, parsed_files_or_cut_fault, policy_or_load_fault, refl, repeated_include_fault, spot_of_file_line, subst, suc, sym}
use Rattle.sudoers_tree.proofs.Common.{syntax_fault_as_read_fault, targets_of_lead, text_limit, texts_of_lines, true, value_unless_file_fault, walk_after_file_lines, walk_after_file_visit, walk_after_file_visits}
use Rattle.sudoers_tree.proofs.Common.{walk_or_fault_of_files, walk_with_file_entered, walk_with_line_appended, zero, ℕ, ◌*◌, ◌++◌, ◌+◌, ◌<◌, ◌||◌, ◌∙◌, ◌∷◌, ◌≡◌, ◌≤◌}
use Rattle.std.specs.Cmp.{nat_eq_equiv}
use Rattle.std.proofs.lemmas.Map.Keys.{IsDistinct-push}
use Rattle.std.proofs.lemmas.Map.Steps.{length-le_from_distinct_below}
use Rattle.sudoers_tree.specs.declared.include_leads.Lead.TheVariants.{File, Dir}
use Rattle.sudoers_tree.proofs.Joined.{join_with_last_line_appends_its_text}
use Rattle.sudoers_tree.proofs.Outcomes.{ComputedCutsAreCutOutcomes}
use Rattle.sudoers_tree.proofs.FileRows.{parsed_lines_are_no_longer_than_all}
use Rattle.sudoers_tree.proofs.WalkSound.{loaded_policy_is_load_of_files}

abbrev OutcomeOfWalk : Type 0
OutcomeOfWalk = Result WalkState LoadFault

walks_of_equal_results_are_equal : (w now : WalkState) → (let r : OutcomeOfWalk = Ok w in r) ≡ Ok now → w ≡ now
walks_of_equal_results_are_equal w now is = cc

-- ---- the files to which a line leads are among all

number_of_named_file_is_below_count : (name : List ℕ) (files : List ParsedFile) (n f : ℕ) → number_of_first_file_named name n files ≡ Some f → f < n + length files
number_of_named_file_is_below_count name [] n f is = absurd cc
number_of_named_file_is_below_count name (file ∷ files) n f is = by (bytes_eq name file.name) is (number_of_named_file_is_below_count name files (n + 1) f)
  where
    by : (t : Bool) → (if t then Some n else number_of_first_file_named name (n + 1) files) ≡ Some f → (number_of_first_file_named name (n + 1) files ≡ Some f → f < n + 1 + length files) → f < n + length (file ∷ files)
    by true e later = let same : n ≡ f = cc in omega (arith, same)
    by false e later = omega (arith, later e)

inserted_file_keeps_numbers_below_count : (files : List ParsedFile) (count f : ℕ) (order : List ℕ) → f < count → AllByRecursion (λ n. n < count) order → AllByRecursion (λ n. n < count) (file_inserted_in_name_order files f order)
inserted_file_keeps_numbers_below_count files count f [] less all = (less, tt)
inserted_file_keeps_numbers_below_count files count f (g ∷ order) less all = by (is_file_name_before files f g) (inserted_file_keeps_numbers_below_count files count f order less all.1)
  where
    by : (t : Bool) → AllByRecursion (λ n. n < count) (file_inserted_in_name_order files f order) → AllByRecursion (λ n. n < count) (if t then f ∷ g ∷ order else g ∷ file_inserted_in_name_order files f order)
    by true later = (less, all)
    by false later = (all.0, later)

files_of_folder_are_below_count : (all : List ParsedFile) (folder : List ℕ) (count n : ℕ) (files : List ParsedFile) → n + length files ≤ count
    → AllByRecursion (λ k. k < count) (included_files_of_folder all folder n files)
files_of_folder_are_below_count all folder count n [] fits = tt
files_of_folder_are_below_count all folder count n (file ∷ files) fits = by (is_includable_from_folder folder file.name) (files_of_folder_are_below_count all folder count (n + 1) files (omega (arith, fits)))
  where
    by : (t : Bool) → AllByRecursion (λ k. k < count) (included_files_of_folder all folder (n + 1) files)
        → AllByRecursion (λ k. k < count) (if t then file_inserted_in_name_order all n (included_files_of_folder all folder (n + 1) files) else included_files_of_folder all folder (n + 1) files)
    by true later = inserted_file_keeps_numbers_below_count all count n (included_files_of_folder all folder (n + 1) files) (omega (arith, fits)) later
    by false later = later

targets_of_lead_are_below_count : (files : List ParsedFile) (lead : Lead) (inner : List ℕ) → targets_of_lead files lead ≡ Some inner → AllByRecursion (λ k. k < length files) inner
targets_of_lead_are_below_count files (File name) inner is = by (number_of_first_file_named name 0 files) refl is
  where
    by : (o : Option ℕ) → number_of_first_file_named name 0 files ≡ o → option_map (λ f. f ∷ []) o ≡ Some inner → AllByRecursion (λ k. k < length files) inner
    by None e found = absurd cc
    by (Some f) e found = subst (AllByRecursion (λ k. k < length files)) (let same : f ∷ [] ≡ inner = cc in same) (omega (arith, number_of_named_file_is_below_count name files 0 f e), tt)
targets_of_lead_are_below_count files (Dir dir) inner is =
    subst (AllByRecursion (λ k. k < length files)) (let same : included_files_of_folder files (dir ++ 47 ∷ []) 0 files ≡ inner = cc in same)
    (files_of_folder_are_below_count files (dir ++ 47 ∷ []) (length files) 0 files (omega arith))

opened_files_are_below_count : (files : List ParsedFile) (at : IncludeSite) (w : WalkState) (o : Option Lead) (inner : List ℕ) → files_opened_by_lead files at w o ≡ Ok inner → AllByRecursion (λ k. k < length files) inner
opened_files_are_below_count files at w None inner is = subst (AllByRecursion (λ k. k < length files)) (let same : [] ≡ inner = cc in same) tt
opened_files_are_below_count files at w (Some lead) inner is = by_targets (targets_of_lead files lead) refl is
  where
    by_on : (o : Option ℕ) (found : List ℕ) → AllByRecursion (λ k. k < length files) found → files_unless_on_walk files at found o ≡ Ok inner → AllByRecursion (λ k. k < length files) inner
    by_on None found all e = subst (AllByRecursion (λ k. k < length files)) (let same : found ≡ inner = cc in same) all
    by_on (Some f) found all e = absurd cc

    by_targets : (t : Option (List ℕ)) → targets_of_lead files lead ≡ t → files_unless_missing_or_on_walk files at lead w t ≡ Ok inner → AllByRecursion (λ k. k < length files) inner
    by_targets None e f = absurd cc
    by_targets (Some found) e f = by_on (first_file_on_walk w found) found (targets_of_lead_are_below_count files lead found e) f

-- ---- what a walk adds

-- The files on the walk have numbers below `count`, and each is there once.
record AreFilesOnWalkDistinctBelow (count : ℕ) (w : WalkState) : Type 0 where
  distinct : IsDistinct nat_eq w.on
  below : (q : ℕ) → list_any (nat_eq q) w.on ≡ true → q < count

-- The lines that are appended to the walk have at most `more` bytes, and for each file that is appended at most as many as a text may have.
record AddsBytesWithinLimits (count more : ℕ) (w now : WalkState) : Type 0 where
  numbered : AreFilesOnWalkDistinctBelow count now
  fits : length (join (texts_of_lines now.lines)) + length w.on * text_limit ≤ length (join (texts_of_lines w.lines)) + more + length now.on * text_limit

true_or_implies_claim_of_either : (a b : Bool) (P : Type 0) → (a || b) ≡ true → (a ≡ true → P) → (b ≡ true → P) → P
true_or_implies_claim_of_either true b P is left right = left refl
true_or_implies_claim_of_either false b P is left right = right is

entering_file_keeps_files_distinct_below : (count f : ℕ) (w : WalkState) → f < count → is_file_on_walk w f ≡ false → AreFilesOnWalkDistinctBelow count w → AreFilesOnWalkDistinctBelow count (walk_with_file_entered f w)
entering_file_keeps_files_distinct_below count f w less off is = record {
  distinct = IsDistinct-push nat_eq_equiv w.on f is.distinct off;
  below = λ q on. true_or_implies_claim_of_either (list_any (nat_eq q) w.on) (list_any (nat_eq q) (f ∷ [])) (q < count) (sym (list_any-append (nat_eq q) w.on (f ∷ [])) ∙ on)
      (λ before. is.below q before)
      (λ here. true_or_implies_claim_of_either (nat_eq q f) false (q < count) here (λ same. omega (arith, eqb-true q f same, less)) (λ none. absurd cc));
}

-- a visit of a file appends at most the bytes of its files
abbrev IsVisitAddingBytesWithinLimits : ℕ → FileVisit → Type 0
IsVisitAddingBytesWithinLimits count walk_after_file_visit = (at : IncludeSite) (f : ℕ) (w now : WalkState) → f < count → is_file_on_walk w f ≡ false → AreFilesOnWalkDistinctBelow count w → walk_after_file_visit at f w ≡ Ok now → AddsBytesWithinLimits count 0 w now

visits_add_bytes_within_limits : (count : ℕ) (visit : FileVisit) → IsVisitAddingBytesWithinLimits count visit → (files : List ParsedFile) (at : IncludeSite) (inner : List ℕ) (w now : WalkState)
    → AllByRecursion (λ k. k < count) inner → AreFilesOnWalkDistinctBelow count w → walk_after_file_visits visit files at inner w ≡ Ok now → AddsBytesWithinLimits count 0 w now
visits_add_bytes_within_limits count visit enters files at [] w now all numbered is =
    let same = walks_of_equal_results_are_equal w now is in
    subst (AddsBytesWithinLimits count 0 w) same (record { numbered = numbered; fits = omega arith })
visits_add_bytes_within_limits count visit enters files at (f ∷ rest) w now all numbered is = by_test (is_file_on_walk w f) refl is (λ within. visits_add_bytes_within_limits count visit enters files at rest within now all.1)
  where
    Later : Type 0
    Later = (within : WalkState) → AreFilesOnWalkDistinctBelow count within → walk_after_file_visits visit files at rest within ≡ Ok now → AddsBytesWithinLimits count 0 within now

    by_visit : (r : OutcomeOfWalk) → is_file_on_walk w f ≡ false → visit at f w ≡ r → load_result_and_then r (walk_after_file_visits visit files at rest) ≡ Ok now → Later → AddsBytesWithinLimits count 0 w now
    by_visit (Ok within) off v e later =
        let here = enters at f w within all.0 off numbered v in
        let behind = later within here.numbered e in
        record { numbered = behind.numbered; fits = omega (arith, here.fits, behind.fits) }
    by_visit (Err fault) off v e later = absurd cc

    by_test : (b : Bool) → is_file_on_walk w f ≡ b → (if b then Err (repeated_include_fault files at f) else load_result_and_then (visit at f w) (walk_after_file_visits visit files at rest)) ≡ Ok now → Later → AddsBytesWithinLimits count 0 w now
    by_test true on e later = absurd cc
    by_test false off e later = by_visit (visit at f w) off refl e later

appended_line_adds_its_bytes : (count : ℕ) (name : List ℕ) (at : WalkLineSpot) (line : Line) (w now : WalkState) → AreFilesOnWalkDistinctBelow count w → walk_with_line_appended name at line w ≡ Ok now → AddsBytesWithinLimits count (length line.text) w now
appended_line_adds_its_bytes count name at line w now numbered is = by (first_definition_fault (definitions_of_lines w.lines) (definitions_in_line (length w.lines) line.node)) is
  where
    by : (o : Option ReadFault) → value_unless_file_fault name (let next : WalkState = record { lines = w.lines ++ line ∷ []; spots = w.spots ++ at ∷ []; on = w.on } in next) o ≡ Ok now
        → AddsBytesWithinLimits count (length line.text) w now
    by None e =
        subst (AddsBytesWithinLimits count (length line.text) w) (walks_of_equal_results_are_equal (record { lines = w.lines ++ line ∷ []; spots = w.spots ++ at ∷ []; on = w.on }) now e) (record {
          numbered = record { distinct = numbered.distinct; below = numbered.below };
          fits = omega (arith, ap length (join_with_last_line_appends_its_text w.lines line), length-append (join (texts_of_lines w.lines)) line.text);
        })
    by (Some fault) e = absurd cc

numbers_below_lower_are_below_higher : (low high : ℕ) (numbers : List ℕ) → low ≤ high → AllByRecursion (λ k. k < low) numbers → AllByRecursion (λ k. k < high) numbers
numbers_below_lower_are_below_higher low high [] le all = tt
numbers_below_lower_are_below_higher low high (n ∷ numbers) le all = (omega (arith, all.0, le), numbers_below_lower_are_below_higher low high numbers le all.1)

walked_lines_add_bytes_within_limits : (count : ℕ) (visit : FileVisit) (files : List ParsedFile) → length files ≤ count → IsVisitAddingBytesWithinLimits count visit → (f n : ℕ) (lines : List Line) (w now : WalkState) → AreFilesOnWalkDistinctBelow count w
    → walk_after_file_lines visit files f n lines w ≡ Ok now → AddsBytesWithinLimits count (length (join (texts_of_lines lines))) w now
walked_lines_add_bytes_within_limits count visit files within-count enters f n [] w now numbered is = by (option_map syntax_fault_as_read_fault (fault_of_numbered_file files f)) is
  where
    by : (o : Option ReadFault) → value_unless_file_fault (name_of_numbered_file files f) w o ≡ Ok now → AddsBytesWithinLimits count 0 w now
    by None e = subst (AddsBytesWithinLimits count 0 w) (walks_of_equal_results_are_equal w now e) (record { numbered = numbered; fits = omega arith })
    by (Some fault) e = absurd cc
walked_lines_add_bytes_within_limits count visit files within-count enters f n (line ∷ lines) w now numbered is =
    by_taken (walk_with_line_appended (name_of_numbered_file files f) (spot_of_file_line files f n) line w) refl is (λ within. walked_lines_add_bytes_within_limits count visit files within-count enters f (n + 1) lines within now)
  where
    whole : length (join (texts_of_lines (line ∷ lines))) ≡ length line.text + length (join (texts_of_lines lines))
    whole = length-append line.text (join (texts_of_lines lines))

    Later : Type 0
    Later = (within : WalkState) → AreFilesOnWalkDistinctBelow count within → walk_after_file_lines visit files f (n + 1) lines within ≡ Ok now → AddsBytesWithinLimits count (length (join (texts_of_lines lines))) within now

    by_each : (r : OutcomeOfWalk) (passed : WalkState) (inner : List ℕ) → AddsBytesWithinLimits count (length line.text) w passed → files_opened_by_lead files (include_site_of_line files f n) passed (lead_of_file_line files f line) ≡ Ok inner
        → walk_after_file_visits visit files (include_site_of_line files f n) inner passed ≡ r → load_result_and_then r (walk_after_file_lines visit files f (n + 1) lines) ≡ Ok now → Later
        → AddsBytesWithinLimits count (length (join (texts_of_lines (line ∷ lines)))) w now
    by_each (Ok within) passed inner here o v e later =
        let inside = visits_add_bytes_within_limits count visit enters files (include_site_of_line files f n) inner passed within (numbers_below_lower_are_below_higher (length files) count inner within-count (opened_files_are_below_count files (include_site_of_line files f n) passed (lead_of_file_line files f line) inner o)) here.numbered v in
        let behind = later within inside.numbered e in
        record { numbered = behind.numbered; fits = omega (arith, here.fits, inside.fits, behind.fits, whole) }
    by_each (Err fault) passed inner here o v e later = absurd cc

    by_opened : (r : Result (List ℕ) LoadFault) (passed : WalkState) → AddsBytesWithinLimits count (length line.text) w passed → files_opened_by_lead files (include_site_of_line files f n) passed (lead_of_file_line files f line) ≡ r
        → load_result_and_then r (λ inner. load_result_and_then (walk_after_file_visits visit files (include_site_of_line files f n) inner passed) (walk_after_file_lines visit files f (n + 1) lines)) ≡ Ok now → Later
        → AddsBytesWithinLimits count (length (join (texts_of_lines (line ∷ lines)))) w now
    by_opened (Ok inner) passed here o e later = by_each (walk_after_file_visits visit files (include_site_of_line files f n) inner passed) passed inner here o refl e later
    by_opened (Err fault) passed here o e later = absurd cc

    by_taken : (r : OutcomeOfWalk) → walk_with_line_appended (name_of_numbered_file files f) (spot_of_file_line files f n) line w ≡ r
        → load_result_and_then r (λ passed. load_result_and_then (files_opened_by_lead files (include_site_of_line files f n) passed (lead_of_file_line files f line)) (λ inner.
        load_result_and_then (walk_after_file_visits visit files (include_site_of_line files f n) inner passed) (walk_after_file_lines visit files f (n + 1) lines))) ≡ Ok now → Later
        → AddsBytesWithinLimits count (length (join (texts_of_lines (line ∷ lines)))) w now
    by_taken (Ok passed) t e later =
        by_opened (files_opened_by_lead files (include_site_of_line files f n) passed (lead_of_file_line files f line)) passed
        (appended_line_adds_its_bytes count (name_of_numbered_file files f) (spot_of_file_line files f n) line w passed numbered t) refl e later
    by_taken (Err fault) t e later = absurd cc

-- each file is within the limit of a text
abbrev pub AreFilesWithinTextLimit : List ParsedFile → Type 0
AreFilesWithinTextLimit files = (f : ℕ) → length (join (texts_of_lines (lines_of_numbered_file files f))) ≤ text_limit

visit_adds_bytes_within_limits : (files : List ParsedFile) (count : ℕ) → length files ≤ count → AreFilesWithinTextLimit files → (left : ℕ) → IsVisitAddingBytesWithinLimits count (walk_after_file_visit left files)
visit_adds_bytes_within_limits files count within fit zero at f w now less off numbered is = absurd cc
visit_adds_bytes_within_limits files count within fit (suc left) at f w now less off numbered is =
    let inside = walked_lines_add_bytes_within_limits count (walk_after_file_visit left files) files within (visit_adds_bytes_within_limits files count within fit left) f 0 (lines_of_numbered_file files f) (walk_with_file_entered f w) now (entering_file_keeps_files_distinct_below count f w less off numbered) is in
    let one : length (w.on ++ f ∷ []) ≡ length w.on + 1 = length_push w.on f in
    record { numbered = inside.numbered; fits = omega (arith, inside.fits, one, fit f) }

-- ---- the walk over all files

empty_list_is_distinct : IsDistinct nat_eq []
unfolding IsDistinct
empty_list_is_distinct = tt

walk_at_start_has_distinct_files_below : (count : ℕ) → 0 < count → AreFilesOnWalkDistinctBelow count (walk_with_file_entered 0 empty_walk)
walk_at_start_has_distinct_files_below count some = entering_file_keeps_files_distinct_below count 0 empty_walk some refl (record { distinct = empty_list_is_distinct; below = λ q on. absurd cc })

-- Each file is at most once on the walk. Its lines have at most as many bytes as `count` texts may have.
pub walk_of_files_is_distinct_and_within_size : (files : List ParsedFile) (count : ℕ) → AreFilesWithinTextLimit files → length files ≤ count → 0 < count → (w : WalkState) → walk_or_fault_of_files files ≡ Ok w
    → IsDistinct nat_eq w.on × (length (join (texts_of_lines w.lines)) ≤ count * text_limit)
unfolding walk_or_fault_of_files
walk_of_files_is_distinct_and_within_size files count fit within some w is =
    let all = walked_lines_add_bytes_within_limits count (walk_after_file_visit include_depth_limit files) files within (visit_adds_bytes_within_limits files count within fit include_depth_limit) 0 0 (lines_of_numbered_file files 0) (walk_with_file_entered 0 empty_walk) w (walk_at_start_has_distinct_files_below count some) is in
    let many = length-le_from_distinct_below w.on count all.numbered.distinct all.numbered.below in
    let first : length (join (texts_of_lines (lines_of_numbered_file files 0))) ≤ text_limit = fit 0 in
    (all.numbered.distinct, omega (arith, all.fits, first, many))

-- ---- files that are loaded

parsed_file_fits_text_limit : (name : List ℕ) (lines : List (List ℕ)) → length (join lines) ≤ text_limit → length (join (texts_of_lines (parsed_file_of_texts name lines).lines)) ≤ text_limit
unfolding parsed_file_of_texts
parsed_file_fits_text_limit name lines fits = omega (arith, parsed_lines_are_no_longer_than_all [] lines, fits)

property_of_all_extends_to_last_item : {A : Type 0} (P : A → Type 0) (xs : List A) (x : A) → AllByRecursion P xs → P x → AllByRecursion P (xs ++ x ∷ [])
property_of_all_extends_to_last_item P [] x all is = (is, tt)
property_of_all_extends_to_last_item P (y ∷ xs) x all is = (all.0, property_of_all_extends_to_last_item P xs x all.1 is)

parsed_files_fit_text_limit : ComputedCutsAreCutOutcomes → (before read : List ParsedFile) (files : List NamedFile)
    → AllByRecursion (λ (file : ParsedFile). length (join (texts_of_lines file.lines)) ≤ text_limit) before → parsed_files_or_cut_fault before files ≡ Ok read
    → AllByRecursion (λ (file : ParsedFile). length (join (texts_of_lines file.lines)) ≤ text_limit) read × (length read ≡ length before + length files)
parsed_files_fit_text_limit cuts before read [] fit is =
    let same : before ≡ read = cc in
    (subst (AllByRecursion (λ (file : ParsedFile). length (join (texts_of_lines file.lines)) ≤ text_limit)) same fit, omega (arith, ap length same))
parsed_files_fit_text_limit cuts before read (file ∷ files) fit is = by (cut_outcome_of_text file.bytes) (cuts file.bytes) is
    (λ lines fits. parsed_files_fit_text_limit cuts (before ++ parsed_file_of_texts file.name lines ∷ []) read files (property_of_all_extends_to_last_item (λ (f : ParsedFile). length (join (texts_of_lines f.lines)) ≤ text_limit) before (parsed_file_of_texts file.name lines) fit (parsed_file_fits_text_limit file.name lines fits)))
  where
    by : (r : Result (List (List ℕ)) TextFault) → IsCutOutcome file.bytes r → load_result_and_then (parsed_file_of_cut_or_fault file.name r) (λ reading. parsed_files_or_cut_fault (before ++ reading ∷ []) files) ≡ Ok read
        → ((lines : List (List ℕ)) → length (join lines) ≤ text_limit → parsed_files_or_cut_fault (before ++ parsed_file_of_texts file.name lines ∷ []) files ≡ Ok read
        → AllByRecursion (λ (f : ParsedFile). length (join (texts_of_lines f.lines)) ≤ text_limit) read × (length read ≡ length (before ++ parsed_file_of_texts file.name lines ∷ []) + length files))
        → AllByRecursion (λ (f : ParsedFile). length (join (texts_of_lines f.lines)) ≤ text_limit) read × (length read ≡ length before + length (file ∷ files))
    by (Ok lines) cut e later =
        let rest = later lines (omega (arith, ap length cut.cuts.joined, cut.fits)) e in
        (rest.0, omega (arith, rest.1, length_push before (parsed_file_of_texts file.name lines)))
    by (Err fault) cut e later = absurd cc

fitting_files_fit_by_their_numbers : (files : List ParsedFile) → AllByRecursion (λ (file : ParsedFile). length (join (texts_of_lines file.lines)) ≤ text_limit) files → AreFilesWithinTextLimit files
fitting_files_fit_by_their_numbers [] fit f = omega arith
fitting_files_fit_by_their_numbers (file ∷ files) fit zero = fit.0
fitting_files_fit_by_their_numbers (file ∷ files) fit (suc f) = fitting_files_fit_by_their_numbers files fit.1 f

-- Each file is at most once on the walk over loaded files. The lines of the walk together are at most as long as the limit of a text
-- times the limit of files.
pub loaded_walk_is_distinct_and_within_size : ComputedCutsAreCutOutcomes → (files : List NamedFile) (p : LoadedPolicy) → policy_or_load_fault files ≡ Ok p
    → IsDistinct nat_eq p.walk.on × (length (join (texts_of_lines p.walk.lines)) ≤ file_limit * text_limit)
loaded_walk_is_distinct_and_within_size cuts files p is =
    let load = loaded_policy_is_load_of_files files p is in
    let fit = parsed_files_fit_text_limit cuts [] p.files files tt load.reads in
    walk_of_files_is_distinct_and_within_size p.files file_limit (fitting_files_fit_by_their_numbers p.files fit.0) (omega (arith, fit.1, load.few)) (omega arith) p.walk load.walks
