-- The lines of the walk over loaded files.
use Rattle.sudoers_tree.proofs.Common.{AllByRecursion, AreLinesAtSpots, AreValidWalkLines, Bool, Err, FileVisit, IncludeSite, IsCorrectlyParsed, IsLineAtSpot, IsLineOutcome, Line, LineFault, List, LoadFault}
use Rattle.sudoers_tree.proofs.Common.{LoadedPolicy, NamedFile, Node, None, Ok, Option, ParsedFile, ReadFault, Result, Some, TextFault, TooManyFiles, WalkLineSpot, WalkState, [], ap, cut_outcome_of_text}
use Rattle.sudoers_tree.proofs.Common.{definitions_in_line, definitions_of_lines, drop, empty_walk, false, fault_of_numbered_file, file_limit, files_opened_by_lead, first_definition_fault}
use Rattle.sudoers_tree.proofs.Common.{first_fault_of_unreached_file, first_repeated_file_name, if◌then◌else◌, include_depth_limit, include_site_of_line, is_file_on_walk, lead_of_file_line, length}
use Rattle.sudoers_tree.proofs.Common.{lines_of_numbered_file, lines_parsed_until_fault, load_result_and_then, ltb-false, name_of_numbered_file, nat_lt, option_map, outcome_of_line, parsed_file_of_texts}
use Rattle.sudoers_tree.proofs.Common.{parsed_file_of_cut_or_fault, parsed_files_or_cut_fault, parsed_lines_from_outcome, policy_of_parsed_files, policy_or_load_fault, refl, repeated_include_fault}
use Rattle.sudoers_tree.proofs.Common.{result_unless_repeated_name, spot_of_file_line, subst, suc, sym, syntax_fault_as_read_fault, true, value_unless_file_fault, walk_after_file_lines, walk_after_file_visit}
use Rattle.sudoers_tree.proofs.Common.{walk_after_file_visits, walk_or_fault_of_files, walk_or_unreached_file_fault, walk_with_file_entered, walk_with_line_appended, zero, ℕ, ◌++◌, ◌+◌, ◌∙◌, ◌∷◌, ◌≡◌, ◌≤◌}
use Rattle.sudoers_grammar.specs.declared.fault.LineFault.TheVariants as line_fault
use Rattle.sudoers_tree.proofs.Outcomes.{ComputedLineOutcomesAreLineOutcomes, last_parsed_line_keeps_lines_parsed}
use Rattle.sudoers_tree.proofs.Numbered.{rest_of_drop_is_later_drop, first_of_drop_is_numbered_item}
use Rattle.sudoers_tree.proofs.Passed.{faultless_line_keeps_walk_faultless}
use Rattle.sudoers_tree.proofs.Sound.{faultless_definitions_are_within_limit, faultless_definitions_are_unreserved, faultless_definitions_have_distinct_names}

abbrev WalkStateOrLoadFault : Type 0
WalkStateOrLoadFault = Result WalkState LoadFault

same_walk_result_is_same_walk : (w now : WalkState) → (let r : WalkStateOrLoadFault = Ok w in r) ≡ Ok now → w ≡ now
same_walk_result_is_same_walk w now is = cc

-- ---- lines that are read

-- Each line of these files says what is kept of it.
abbrev pub AreFilesOfCorrectlyParsedLines : List ParsedFile → Type 0
AreFilesOfCorrectlyParsedLines files = AllByRecursion (λ (file : ParsedFile). AllByRecursion IsCorrectlyParsed file.lines) files

lines_parsed_until_fault_are_correct : ComputedLineOutcomesAreLineOutcomes → (before : List Line) (lines : List (List ℕ)) → AllByRecursion IsCorrectlyParsed (lines_parsed_until_fault before lines).0
lines_parsed_until_fault_are_correct are before [] = tt
lines_parsed_until_fault_are_correct are before (text ∷ more) = by (outcome_of_line text) (are text) (λ line. lines_parsed_until_fault_are_correct are (before ++ line ∷ []) more)
  where
    by : (r : Result Node LineFault) → IsLineOutcome text r → ((line : Line) → AllByRecursion IsCorrectlyParsed (lines_parsed_until_fault (before ++ line ∷ []) more).0)
        → AllByRecursion IsCorrectlyParsed (parsed_lines_from_outcome before text r (λ line. lines_parsed_until_fault (before ++ line ∷ []) more)).0
    by (Ok says) reads later = (reads, later (record { text = text; node = says }))
    by (Err (line_fault.Syntax at why)) is later = tt
    by (Err line_fault.NoMemory) is later = tt

parsed_file_has_correct_lines : ComputedLineOutcomesAreLineOutcomes → (name : List ℕ) (lines : List (List ℕ)) → AllByRecursion IsCorrectlyParsed (parsed_file_of_texts name lines).lines
unfolding parsed_file_of_texts
parsed_file_has_correct_lines are name lines = lines_parsed_until_fault_are_correct are [] lines

property_of_list_holds_with_last_item : {A : Type 0} (P : A → Type 0) (xs : List A) (x : A) → AllByRecursion P xs → P x → AllByRecursion P (xs ++ x ∷ [])
property_of_list_holds_with_last_item P [] x all is = (is, tt)
property_of_list_holds_with_last_item P (y ∷ xs) x all is = (all.0, property_of_list_holds_with_last_item P xs x all.1 is)

parsed_files_have_correct_lines : ComputedLineOutcomesAreLineOutcomes → (before read : List ParsedFile) (files : List NamedFile) → AreFilesOfCorrectlyParsedLines before → parsed_files_or_cut_fault before files ≡ Ok read → AreFilesOfCorrectlyParsedLines read
parsed_files_have_correct_lines are before read [] said is = subst AreFilesOfCorrectlyParsedLines (let same : before ≡ read = cc in same) said
parsed_files_have_correct_lines are before read (file ∷ files) said is =
    by (cut_outcome_of_text file.bytes) is (λ lines. parsed_files_have_correct_lines are (before ++ parsed_file_of_texts file.name lines ∷ []) read files (property_of_list_holds_with_last_item (λ (f : ParsedFile). AllByRecursion IsCorrectlyParsed f.lines) before (parsed_file_of_texts file.name lines) said (parsed_file_has_correct_lines are file.name lines)))
  where
    by : (r : Result (List (List ℕ)) TextFault) → load_result_and_then (parsed_file_of_cut_or_fault file.name r) (λ reading. parsed_files_or_cut_fault (before ++ reading ∷ []) files) ≡ Ok read
        → ((lines : List (List ℕ)) → parsed_files_or_cut_fault (before ++ parsed_file_of_texts file.name lines ∷ []) files ≡ Ok read → AreFilesOfCorrectlyParsedLines read) → AreFilesOfCorrectlyParsedLines read
    by (Ok lines) e later = later lines e
    by (Err fault) e later = absurd cc

pub numbered_file_has_correct_lines : (files : List ParsedFile) (f : ℕ) → AreFilesOfCorrectlyParsedLines files → AllByRecursion IsCorrectlyParsed (lines_of_numbered_file files f)
numbered_file_has_correct_lines [] f said = tt
numbered_file_has_correct_lines (file ∷ files) zero said = said.0
numbered_file_has_correct_lines (file ∷ files) (suc f) said = numbered_file_has_correct_lines files f said.1

-- ---- lines on the walk

-- The lines say what is kept of them, their names can stand, and they stand at their spots.
pub record IsWalkOfValidPlacedLines (files : List ParsedFile) (w : WalkState) : Type 0 where
  pub says : AllByRecursion IsCorrectlyParsed w.lines
  pub none : first_definition_fault [] (definitions_of_lines w.lines) ≡ None
  pub stand : AreLinesAtSpots files w.spots w.lines

next_line_at_spot_keeps_lines_at_spots : (files : List ParsedFile) (spots : List WalkLineSpot) (lines : List Line) (at : WalkLineSpot) (line : Line) → AreLinesAtSpots files spots lines → IsLineAtSpot files at line
    → AreLinesAtSpots files (spots ++ at ∷ []) (lines ++ line ∷ [])
next_line_at_spot_keeps_lines_at_spots files [] [] at line all is = (is, tt)
next_line_at_spot_keeps_lines_at_spots files (s ∷ spots) (l ∷ lines) at line all is = (all.0, next_line_at_spot_keeps_lines_at_spots files spots lines at line all.1 is)
next_line_at_spot_keeps_lines_at_spots files [] (l ∷ lines) at line all is = absurd all
next_line_at_spot_keeps_lines_at_spots files (s ∷ spots) [] at line all is = absurd all

appended_line_keeps_walk_valid : (files : List ParsedFile) (name : List ℕ) (at : WalkLineSpot) (line : Line) (w now : WalkState) → IsCorrectlyParsed line → IsLineAtSpot files at line → IsWalkOfValidPlacedLines files w
    → walk_with_line_appended name at line w ≡ Ok now → IsWalkOfValidPlacedLines files now
appended_line_keeps_walk_valid files name at line w now says here sound is = by (first_definition_fault (definitions_of_lines w.lines) (definitions_in_line (length w.lines) line.node)) refl is
  where
    by : (o : Option ReadFault) → first_definition_fault (definitions_of_lines w.lines) (definitions_in_line (length w.lines) line.node) ≡ o
        → value_unless_file_fault name (let next : WalkState = record { lines = w.lines ++ line ∷ []; spots = w.spots ++ at ∷ []; on = w.on } in next) o ≡ Ok now → IsWalkOfValidPlacedLines files now
    by None none e =
        let whole = same_walk_result_is_same_walk (record { lines = w.lines ++ line ∷ []; spots = w.spots ++ at ∷ []; on = w.on }) now e in
        let same : w.lines ++ line ∷ [] ≡ now.lines = ap (λ (x : WalkState). x.lines) whole in
        let spots : w.spots ++ at ∷ [] ≡ now.spots = ap (λ (x : WalkState). x.spots) whole in
        record {
          says = subst (AllByRecursion IsCorrectlyParsed) same (last_parsed_line_keeps_lines_parsed w.lines line sound.says says);
          none = ap (λ ls. first_definition_fault [] (definitions_of_lines ls)) (sym same) ∙ faultless_line_keeps_walk_faultless w.lines line sound.none none;
          stand = subst (λ ls. AreLinesAtSpots files now.spots ls) same (subst (λ ss. AreLinesAtSpots files ss (w.lines ++ line ∷ [])) spots (next_line_at_spot_keeps_lines_at_spots files w.spots w.lines at line sound.stand here));
        }
    by (Some fault) none e = absurd cc

-- a visit keeps a walk sound
abbrev IsVisitKeepingWalkValid : List ParsedFile → FileVisit → Type 0
IsVisitKeepingWalkValid files walk_after_file_visit = (at : IncludeSite) (f : ℕ) (w now : WalkState) → walk_after_file_visit at f w ≡ Ok now → IsWalkOfValidPlacedLines files w → IsWalkOfValidPlacedLines files now

visits_keep_walk_valid : (visit : FileVisit) (files : List ParsedFile) → IsVisitKeepingWalkValid files visit → (at : IncludeSite) (inner : List ℕ) (w now : WalkState) → walk_after_file_visits visit files at inner w ≡ Ok now
    → IsWalkOfValidPlacedLines files w → IsWalkOfValidPlacedLines files now
visits_keep_walk_valid visit files keeps at [] w now is sound = subst (IsWalkOfValidPlacedLines files) (same_walk_result_is_same_walk w now is) sound
visits_keep_walk_valid visit files keeps at (f ∷ rest) w now is sound = by_test (is_file_on_walk w f) is (λ within. visits_keep_walk_valid visit files keeps at rest within now)
  where
    by_visit : (r : WalkStateOrLoadFault) → visit at f w ≡ r → load_result_and_then r (walk_after_file_visits visit files at rest) ≡ Ok now
        → ((within : WalkState) → walk_after_file_visits visit files at rest within ≡ Ok now → IsWalkOfValidPlacedLines files within → IsWalkOfValidPlacedLines files now) → IsWalkOfValidPlacedLines files now
    by_visit (Ok within) v e later = later within e (keeps at f w within v sound)
    by_visit (Err fault) v e later = absurd cc

    by_test : (b : Bool) → (if b then Err (repeated_include_fault files at f) else load_result_and_then (visit at f w) (walk_after_file_visits visit files at rest)) ≡ Ok now
        → ((within : WalkState) → walk_after_file_visits visit files at rest within ≡ Ok now → IsWalkOfValidPlacedLines files within → IsWalkOfValidPlacedLines files now) → IsWalkOfValidPlacedLines files now
    by_test true e later = absurd cc
    by_test false e later = by_visit (visit at f w) refl e later

walked_lines_keep_walk_valid : (visit : FileVisit) (files : List ParsedFile) → IsVisitKeepingWalkValid files visit → (f n : ℕ) (lines : List Line) (w now : WalkState) → AllByRecursion IsCorrectlyParsed lines
    → lines ≡ drop n (lines_of_numbered_file files f)
    → walk_after_file_lines visit files f n lines w ≡ Ok now → IsWalkOfValidPlacedLines files w → IsWalkOfValidPlacedLines files now
walked_lines_keep_walk_valid visit files keeps f n [] w now says from is sound = by (option_map syntax_fault_as_read_fault (fault_of_numbered_file files f)) is
  where
    by : (o : Option ReadFault) → value_unless_file_fault (name_of_numbered_file files f) w o ≡ Ok now → IsWalkOfValidPlacedLines files now
    by None e = subst (IsWalkOfValidPlacedLines files) (same_walk_result_is_same_walk w now e) sound
    by (Some fault) e = absurd cc
walked_lines_keep_walk_valid visit files keeps f n (line ∷ lines) w now says from is sound =
    by_taken (walk_with_line_appended (name_of_numbered_file files f) (spot_of_file_line files f n) line w) refl is (λ within. walked_lines_keep_walk_valid visit files keeps f (n + 1) lines within now says.1 (rest_of_drop_is_later_drop lines (lines_of_numbered_file files f) n line from))
  where
    Later : Type 0
    Later = (within : WalkState) → walk_after_file_lines visit files f (n + 1) lines within ≡ Ok now → IsWalkOfValidPlacedLines files within → IsWalkOfValidPlacedLines files now

    by_each : (r : WalkStateOrLoadFault) (passed : WalkState) (inner : List ℕ) → walk_after_file_visits visit files (include_site_of_line files f n) inner passed ≡ r → IsWalkOfValidPlacedLines files passed
        → load_result_and_then r (walk_after_file_lines visit files f (n + 1) lines) ≡ Ok now → Later → IsWalkOfValidPlacedLines files now
    by_each (Ok within) passed inner v before e later = later within e (visits_keep_walk_valid visit files keeps (include_site_of_line files f n) inner passed within v before)
    by_each (Err fault) passed inner v before e later = absurd cc

    by_opened : (r : Result (List ℕ) LoadFault) (passed : WalkState) → IsWalkOfValidPlacedLines files passed
        → load_result_and_then r (λ inner. load_result_and_then (walk_after_file_visits visit files (include_site_of_line files f n) inner passed) (walk_after_file_lines visit files f (n + 1) lines)) ≡ Ok now → Later → IsWalkOfValidPlacedLines files now
    by_opened (Ok inner) passed before e later = by_each (walk_after_file_visits visit files (include_site_of_line files f n) inner passed) passed inner refl before e later
    by_opened (Err fault) passed before e later = absurd cc

    by_taken : (r : WalkStateOrLoadFault) → walk_with_line_appended (name_of_numbered_file files f) (spot_of_file_line files f n) line w ≡ r
        → load_result_and_then r (λ passed. load_result_and_then (files_opened_by_lead files (include_site_of_line files f n) passed (lead_of_file_line files f line)) (λ inner.
        load_result_and_then (walk_after_file_visits visit files (include_site_of_line files f n) inner passed) (walk_after_file_lines visit files f (n + 1) lines))) ≡ Ok now → Later → IsWalkOfValidPlacedLines files now
    by_taken (Ok passed) t e later =
        by_opened (files_opened_by_lead files (include_site_of_line files f n) passed (lead_of_file_line files f line)) passed
        (appended_line_keeps_walk_valid files (name_of_numbered_file files f) (spot_of_file_line files f n) line w passed says.0 (record { is_spot = refl; is_line = first_of_drop_is_numbered_item lines (lines_of_numbered_file files f) n line from }) sound t) e later
    by_taken (Err fault) t e later = absurd cc

entering_file_keeps_walk_valid : (files : List ParsedFile) (f : ℕ) (w : WalkState) → IsWalkOfValidPlacedLines files w → IsWalkOfValidPlacedLines files (walk_with_file_entered f w)
entering_file_keeps_walk_valid files f w sound = record { says = sound.says; none = sound.none; stand = sound.stand }

visit_keeps_walk_valid : (files : List ParsedFile) → AreFilesOfCorrectlyParsedLines files → (left : ℕ) → IsVisitKeepingWalkValid files (walk_after_file_visit left files)
visit_keeps_walk_valid files said zero at f w now is sound = absurd cc
visit_keeps_walk_valid files said (suc left) at f w now is sound =
    walked_lines_keep_walk_valid (walk_after_file_visit left files) files (visit_keeps_walk_valid files said left) f 0 (lines_of_numbered_file files f) (walk_with_file_entered f w) now (numbered_file_has_correct_lines files f said) refl is (entering_file_keeps_walk_valid files f w sound)

walk_of_correct_files_is_valid : (files : List ParsedFile) → AreFilesOfCorrectlyParsedLines files → (now : WalkState) → walk_or_fault_of_files files ≡ Ok now → IsWalkOfValidPlacedLines files now
unfolding walk_or_fault_of_files
walk_of_correct_files_is_valid files said now is =
    walked_lines_keep_walk_valid (walk_after_file_visit include_depth_limit files) files (visit_keeps_walk_valid files said include_depth_limit) 0 0 (lines_of_numbered_file files 0) (walk_with_file_entered 0 empty_walk) now (numbered_file_has_correct_lines files 0 said) refl is
    (record { says = tt; none = refl; stand = tt })

-- ---- files that are loaded

check_of_unreached_files_keeps_walk : (w now : WalkState) (n : ℕ) (files : List ParsedFile) → walk_or_unreached_file_fault w n files ≡ Ok now → w ≡ now
check_of_unreached_files_keeps_walk w now n [] is = same_walk_result_is_same_walk w now is
check_of_unreached_files_keeps_walk w now n (file ∷ files) is = by_test (is_file_on_walk w n) is (check_of_unreached_files_keeps_walk w now (n + 1) files)
  where
    by_fault : (o : Option ReadFault) → load_result_and_then (value_unless_file_fault file.name w o) (λ same. walk_or_unreached_file_fault w (n + 1) files) ≡ Ok now → (walk_or_unreached_file_fault w (n + 1) files ≡ Ok now → w ≡ now) → w ≡ now
    by_fault None e later = later e
    by_fault (Some fault) e later = absurd cc

    by_test : (b : Bool) → load_result_and_then (if b then Ok w else value_unless_file_fault file.name w (first_fault_of_unreached_file file)) (λ same. walk_or_unreached_file_fault w (n + 1) files) ≡ Ok now
        → (walk_or_unreached_file_fault w (n + 1) files ≡ Ok now → w ≡ now) → w ≡ now
    by_test true e later = later e
    by_test false e later = by_fault (first_fault_of_unreached_file file) e later

-- Loaded files are read, and this is the walk over them. No file that is not on it has a fault.
pub record IsLoadOfFiles (files : List NamedFile) (now : LoadedPolicy) : Type 0 where
  pub few : length files ≤ file_limit
  pub reads : parsed_files_or_cut_fault [] files ≡ Ok now.files
  pub walks : walk_or_fault_of_files now.files ≡ Ok now.walk
  pub off : walk_or_unreached_file_fault now.walk 0 now.files ≡ Ok now.walk

equal_load_results_have_equal_policies : (p now : LoadedPolicy) → (let r : Result LoadedPolicy LoadFault = Ok p in r) ≡ Ok now → p ≡ now
equal_load_results_have_equal_policies p now is = cc

pub loaded_policy_is_load_of_files : (files : List NamedFile) (now : LoadedPolicy) → policy_or_load_fault files ≡ Ok now → IsLoadOfFiles files now
unfolding policy_or_load_fault
loaded_policy_is_load_of_files files now is = by_count (nat_lt file_limit (length files)) refl is
  where
    by_walk : (r : WalkStateOrLoadFault) (read : List ParsedFile) → length files ≤ file_limit → parsed_files_or_cut_fault [] files ≡ Ok read → walk_or_fault_of_files read ≡ r → load_result_and_then (load_result_and_then r (λ w. walk_or_unreached_file_fault w 0 read)) (λ w. Ok (record { files = read; walk = w })) ≡ Ok now
        → IsLoadOfFiles files now
    by_walk (Ok w) read few reads walk e = by_off (walk_or_unreached_file_fault w 0 read) refl e
      where
        by_off : (r : WalkStateOrLoadFault) → walk_or_unreached_file_fault w 0 read ≡ r → load_result_and_then r (λ w. Ok (record { files = read; walk = w })) ≡ Ok now → IsLoadOfFiles files now
        by_off (Ok v) off e =
            let whole = equal_load_results_have_equal_policies (record { files = read; walk = v }) now e in
            let same : read ≡ now.files = ap (λ (x : LoadedPolicy). x.files) whole in
            let last : w ≡ now.walk = check_of_unreached_files_keeps_walk w v 0 read off ∙ ap (λ (x : LoadedPolicy). x.walk) whole in
            record {
              few = few;
              reads = reads ∙ ap (λ fs. Ok fs) same;
              walks = ap walk_or_fault_of_files (sym same) ∙ walk ∙ ap (λ v. Ok v) last;
              off = ap (walk_or_unreached_file_fault now.walk 0) (sym same) ∙ ap (λ v. walk_or_unreached_file_fault v 0 read) (sym last) ∙ off ∙ ap (λ (x : LoadedPolicy). Ok x.walk) whole;
            }
        by_off (Err fault) off e = absurd cc
    by_walk (Err fault) read few reads walk e = absurd cc

    by_read : (r : Result (List ParsedFile) LoadFault) → length files ≤ file_limit → parsed_files_or_cut_fault [] files ≡ r → load_result_and_then r policy_of_parsed_files ≡ Ok now → IsLoadOfFiles files now
    by_read (Ok read) few e over = by_walk (walk_or_fault_of_files read) read few e refl over
    by_read (Err fault) few e over = absurd cc

    by_name : (o : Option (List ℕ)) → length files ≤ file_limit → result_unless_repeated_name o (load_result_and_then (parsed_files_or_cut_fault [] files) policy_of_parsed_files) ≡ Ok now → IsLoadOfFiles files now
    by_name None few e = by_read (parsed_files_or_cut_fault [] files) few refl e
    by_name (Some name) few e = absurd cc

    by_count : (b : Bool) → nat_lt file_limit (length files) ≡ b → (if b then Err TooManyFiles else result_unless_repeated_name (first_repeated_file_name [] files) (load_result_and_then (parsed_files_or_cut_fault [] files) policy_of_parsed_files)) ≡ Ok now
        → IsLoadOfFiles files now
    by_count true many e = absurd cc
    by_count false few e = by_name (first_repeated_file_name [] files) (ltb-false file_limit (length files) few) e

-- Each line of loaded files says what is kept of it.
pub loaded_files_have_correct_lines : ComputedLineOutcomesAreLineOutcomes → (files : List NamedFile) (p : LoadedPolicy) → policy_or_load_fault files ≡ Ok p → AreFilesOfCorrectlyParsedLines p.files
loaded_files_have_correct_lines are files p is = parsed_files_have_correct_lines are [] p.files files tt (loaded_policy_is_load_of_files files p is).reads

pub loaded_walk_is_valid : ComputedLineOutcomesAreLineOutcomes → (files : List NamedFile) (p : LoadedPolicy) → policy_or_load_fault files ≡ Ok p → IsWalkOfValidPlacedLines p.files p.walk
loaded_walk_is_valid are files p is =
    let load = loaded_policy_is_load_of_files files p is in
    walk_of_correct_files_is_valid p.files (loaded_files_have_correct_lines are files p is) p.walk load.walks

-- The lines of the walk over loaded files are a walk.
pub loaded_walk_has_valid_lines : ComputedLineOutcomesAreLineOutcomes → (files : List NamedFile) (p : LoadedPolicy) → policy_or_load_fault files ≡ Ok p → AreValidWalkLines p.walk.lines
loaded_walk_has_valid_lines are files p is =
    let sound = loaded_walk_is_valid are files p is in
    let lines : List Line = p.walk.lines in
    record {
      says = sound.says;
      free = faultless_definitions_are_unreserved (definitions_of_lines lines) sound.none;
      once = faultless_definitions_have_distinct_names (definitions_of_lines lines) sound.none;
      few = faultless_definitions_are_within_limit (definitions_of_lines lines) sound.none;
    }
