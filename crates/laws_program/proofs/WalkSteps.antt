-- The steps of a walk without a fault.
use Rattle.std.proofs.Common.{◌≡◌, ℕ, ◌+◌, ◌||◌, Bool, true, false, List, [], ◌∷◌, ◌++◌, length, option_map, Option, Some, None, Result, Ok, Err, refl, ap, ◌∙◌}
use Rattle.sudoers_tree.specs.declared.fault.ReadFault.{ReadFault}
use Rattle.sudoers_tree.specs.declared.fault.SyntaxFault.{SyntaxFault}
use Rattle.sudoers_tree.specs.declared.include_leads.Lead.{Lead}
use Rattle.sudoers_tree.specs.declared.load_fault.LoadFault.{LoadFault}
use Rattle.sudoers_tree.specs.declared.place.WalkLineSpot.{WalkLineSpot}
use Rattle.sudoers_tree.specs.Line.{Line}
use Rattle.sudoers_tree.specs.Definition.{definitions_of_lines, definitions_in_line}
use Rattle.sudoers_tree.specs.Fault.{syntax_fault_as_read_fault}
use Rattle.sudoers_tree.specs.Reading.{first_definition_fault}
use Rattle.sudoers_tree.specs.Files.{ParsedFile, fault_of_numbered_file, name_of_numbered_file}
use Rattle.sudoers_tree.specs.Targets.{targets_of_lead}
use Rattle.sudoers_tree.specs.Walk.{IncludeSite, FileVisit, WalkState, load_result_and_then, first_file_on_walk, lead_of_file_line, files_opened_by_lead, include_site_of_line, spot_of_file_line, walk_with_line_appended, value_unless_file_fault, files_unless_missing_or_on_walk, files_unless_on_walk, walk_after_file_visits, walk_after_file_lines}

abbrev WalkResult : Type 0
WalkResult = Result WalkState LoadFault

pub true_disjunction_has_true_part : (a b : Bool) (P : Type 0) → (a || b) ≡ true → (a ≡ true → P) → (b ≡ true → P) → P
true_disjunction_has_true_part true b P is left right = left refl
true_disjunction_has_true_part false b P is left right = right is

pub disjunction_with_true_first_is_true : (a b : Bool) → a ≡ true → (a || b) ≡ true
disjunction_with_true_first_is_true true b is = refl
disjunction_with_true_first_is_true false b is = absurd cc

pub disjunction_with_true_second_is_true : (a b : Bool) → b ≡ true → (a || b) ≡ true
disjunction_with_true_second_is_true true b is = refl
disjunction_with_true_second_is_true false b is = is

equal_ok_walks_are_equal : (w now : WalkState) → (let r : WalkResult = Ok w in r) ≡ Ok now → w ≡ now
equal_ok_walks_are_equal w now is = cc

pub appended_line_keeps_files_on_walk : (name : List ℕ) (at : WalkLineSpot) (line : Line) (w now : WalkState) → walk_with_line_appended name at line w ≡ Ok now → w.on ≡ now.on
appended_line_keeps_files_on_walk name at line w now is = by (first_definition_fault (definitions_of_lines w.lines) (definitions_in_line (length w.lines) line.node)) is
  where
    by : (o : Option ReadFault) → value_unless_file_fault name (let next : WalkState = record { lines = w.lines ++ line ∷ []; spots = w.spots ++ at ∷ []; on = w.on } in next) o ≡ Ok now → w.on ≡ now.on
    by None e = ap (λ (v : WalkState). v.on) (equal_ok_walks_are_equal (record { lines = w.lines ++ line ∷ []; spots = w.spots ++ at ∷ []; on = w.on }) now e)
    by (Some fault) e = absurd cc

-- The files that are opened are those to which the line leads.
pub opened_files_are_targets_of_lead : (files : List ParsedFile) (at : IncludeSite) (w : WalkState) (o : Option Lead) (inner : List ℕ) → files_opened_by_lead files at w o ≡ Ok inner
    → (lead : Lead) → o ≡ Some lead → targets_of_lead files lead ≡ Some inner
opened_files_are_targets_of_lead files at w None inner is lead some = absurd cc
opened_files_are_targets_of_lead files at w (Some l) inner is lead some = ap (targets_of_lead files) (let same : lead ≡ l = cc in same) ∙ by_targets (targets_of_lead files l) refl is
  where
    by_on : (o : Option ℕ) (found : List ℕ) → files_unless_on_walk files at found o ≡ Ok inner → found ≡ inner
    by_on None found e = cc
    by_on (Some f) found e = absurd cc

    by_targets : (t : Option (List ℕ)) → targets_of_lead files l ≡ t → files_unless_missing_or_on_walk files at l w t ≡ Ok inner → targets_of_lead files l ≡ Some inner
    by_targets None e f = absurd cc
    by_targets (Some found) e f = e ∙ ap (λ fs. Some fs) (by_on (first_file_on_walk w found) found f)

-- The file whose lines are all on the walk has no fault.
pub file_fully_on_walk_has_no_fault : (visit : FileVisit) (files : List ParsedFile) (f n : ℕ) (lines : List Line) (w now : WalkState) → walk_after_file_lines visit files f n lines w ≡ Ok now → fault_of_numbered_file files f ≡ None
file_fully_on_walk_has_no_fault visit files f n [] w now is = by (fault_of_numbered_file files f) refl is
  where
    by : (o : Option SyntaxFault) → fault_of_numbered_file files f ≡ o → value_unless_file_fault (name_of_numbered_file files f) w (option_map syntax_fault_as_read_fault o) ≡ Ok now → fault_of_numbered_file files f ≡ None
    by None none e = none
    by (Some fault) none e = absurd cc
file_fully_on_walk_has_no_fault visit files f n (line ∷ lines) w now is = by_taken (walk_with_line_appended (name_of_numbered_file files f) (spot_of_file_line files f n) line w) is (λ within. file_fully_on_walk_has_no_fault visit files f (n + 1) lines within now)
  where
    Later : Type 0
    Later = (within : WalkState) → walk_after_file_lines visit files f (n + 1) lines within ≡ Ok now → fault_of_numbered_file files f ≡ None

    by_each : (r : WalkResult) → load_result_and_then r (walk_after_file_lines visit files f (n + 1) lines) ≡ Ok now → Later → fault_of_numbered_file files f ≡ None
    by_each (Ok within) e later = later within e
    by_each (Err fault) e later = absurd cc

    by_opened : (r : Result (List ℕ) LoadFault) (passed : WalkState)
        → load_result_and_then r (λ inner. load_result_and_then (walk_after_file_visits visit files (include_site_of_line files f n) inner passed) (walk_after_file_lines visit files f (n + 1) lines)) ≡ Ok now → Later → fault_of_numbered_file files f ≡ None
    by_opened (Ok inner) passed e later = by_each (walk_after_file_visits visit files (include_site_of_line files f n) inner passed) e later
    by_opened (Err fault) passed e later = absurd cc

    by_taken : (r : WalkResult) → load_result_and_then r (λ passed. load_result_and_then (files_opened_by_lead files (include_site_of_line files f n) passed (lead_of_file_line files f line)) (λ inner.
        load_result_and_then (walk_after_file_visits visit files (include_site_of_line files f n) inner passed) (walk_after_file_lines visit files f (n + 1) lines))) ≡ Ok now → Later → fault_of_numbered_file files f ≡ None
    by_taken (Ok passed) e later = by_opened (files_opened_by_lead files (include_site_of_line files f n) passed (lead_of_file_line files f line)) passed e later
    by_taken (Err fault) e later = absurd cc
