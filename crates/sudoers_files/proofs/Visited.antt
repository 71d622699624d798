-- Names that are visited one after another.
use Rattle.std.proofs.Common.{◌≡◌, ℕ, zero, suc, ◌-◌, ◌≤◌, ◌<◌, true, false, if◌then◌else◌, List, [], ◌∷◌, ◌++◌, length, drop, get_or, Some, None, Result, Ok, Err, inl, inr, refl, sym, ap, ◌∙◌, ◌+◌}
use Rattle.std.proofs.lemmas.List.{at_drop_more}
use Rattle.sudoers_files.specs.internal.Gathering.{IsGatherStepOutcome}
use Rattle.std.proofs.lemmas.Bool.{le-leb, lt-leb}
use Rattle.sudoers_tree.specs.declared.named_files.NamedFile.{NamedFile}
use Rattle.sudoers_files.specs.declared.fault.GatherFault.{GatherFault}
use Rattle.sudoers_tree.specs.Lead.{include_lead_of_line}
use Rattle.sudoers_files.specs.Included.{file_names_included_by_lines, file_names_of_lead}
use Rattle.sudoers_files.specs.declared.fault.GatherFault.TheVariants.{TooManyFiles}
use Rattle.sudoers_files.specs.Gather.{GatherVisitFunction, gather_result_and_then, gathered_with_file_and_includes, gathered_unless_found, gathered_unless_missing_or_full, gathered_after_file_visit, gathered_after_file_visits}
use Rattle.sudoers_files.specs.Shelf.{named_file_bytes_truncated_past_limit}
use Rattle.sudoers_tree.specs.Load.{file_limit, has_file_with_name}

abbrev pub GatherResult : Type 0
GatherResult = Result (List NamedFile) GatherFault

-- the outcome for a file that is there and not found yet
abbrev pub ResultForNewFile : Type 0
ResultForNewFile = NamedFile → GatherResult

-- ---- one name

pub new_file_below_limit_is_gathered : (next : ResultForNewFile) (files before : List NamedFile) (name bytes : List ℕ) → has_file_with_name name before ≡ false → named_file_bytes_truncated_past_limit name files ≡ Some bytes → length before < file_limit
    → gathered_unless_found next files before name ≡ next (record { name = name; bytes = bytes })
new_file_below_limit_is_gathered next files before name bytes other there few =
    ap (λ t. if t then Ok before else gathered_unless_missing_or_full next before name (named_file_bytes_truncated_past_limit name files)) other
    ∙ ap (gathered_unless_missing_or_full next before name) there
    ∙ ap (λ t. if t then Err TooManyFiles else next (record { name = name; bytes = bytes })) (lt-leb file_limit (length before) few)

pub new_file_at_limit_is_too_many : (next : ResultForNewFile) (files before : List NamedFile) (name bytes : List ℕ) → has_file_with_name name before ≡ false → named_file_bytes_truncated_past_limit name files ≡ Some bytes → file_limit ≤ length before
    → gathered_unless_found next files before name ≡ Err TooManyFiles
new_file_at_limit_is_too_many next files before name bytes other there many =
    ap (λ t. if t then Ok before else gathered_unless_missing_or_full next before name (named_file_bytes_truncated_past_limit name files)) other
    ∙ ap (gathered_unless_missing_or_full next before name) there
    ∙ ap (λ t. if t then Err TooManyFiles else next (record { name = name; bytes = bytes })) (le-leb file_limit (length before) many)

pub missing_file_adds_nothing : (next : ResultForNewFile) (files before : List NamedFile) (name : List ℕ) → has_file_with_name name before ≡ false → named_file_bytes_truncated_past_limit name files ≡ None
    → gathered_unless_found next files before name ≡ Ok before
missing_file_adds_nothing next files before name other gone =
    ap (λ t. if t then Ok before else gathered_unless_missing_or_full next before name (named_file_bytes_truncated_past_limit name files)) other ∙ ap (gathered_unless_missing_or_full next before name) gone

pub found_name_adds_nothing : (next : ResultForNewFile) (files before : List NamedFile) (name : List ℕ) → has_file_with_name name before ≡ true → gathered_unless_found next files before name ≡ Ok before
found_name_adds_nothing next files before name has = ap (λ t. if t then Ok before else gathered_unless_missing_or_full next before name (named_file_bytes_truncated_past_limit name files)) has

-- a name that is found already, or is missing
pub visit_of_found_name_adds_nothing : (files before : List NamedFile) (left : ℕ) (name : List ℕ) → has_file_with_name name before ≡ true → gathered_after_file_visit left files before name ≡ Ok before
visit_of_found_name_adds_nothing files before zero name has = found_name_adds_nothing (λ file. Err TooManyFiles) files before name has
visit_of_found_name_adds_nothing files before (suc left) name has = found_name_adds_nothing (gathered_with_file_and_includes (gathered_after_file_visit left files) files before) files before name has

pub visit_of_missing_file_adds_nothing : (files before : List NamedFile) (left : ℕ) (name : List ℕ) → has_file_with_name name before ≡ false → named_file_bytes_truncated_past_limit name files ≡ None
    → gathered_after_file_visit left files before name ≡ Ok before
visit_of_missing_file_adds_nothing files before zero name other gone = missing_file_adds_nothing (λ file. Err TooManyFiles) files before name other gone
visit_of_missing_file_adds_nothing files before (suc left) name other gone = missing_file_adds_nothing (gathered_with_file_and_includes (gathered_after_file_visit left files) files before) files before name other gone

-- ---- names one after another

-- visits of some names, and then of others
pub visits_of_appended_names_are_chained : (visit : GatherVisitFunction) (found : List NamedFile) (names more : List (List ℕ))
    → gathered_after_file_visits visit found (names ++ more) ≡ gather_result_and_then (gathered_after_file_visits visit found names) (λ now. gathered_after_file_visits visit now more)
visits_of_appended_names_are_chained visit found [] more = refl
visits_of_appended_names_are_chained visit found (name ∷ names) more = by (visit found name) (λ now. visits_of_appended_names_are_chained visit now names more)
  where
    by : (r : Result (List NamedFile) GatherFault)
        → ((now : List NamedFile) → gathered_after_file_visits visit now (names ++ more) ≡ gather_result_and_then (gathered_after_file_visits visit now names) (λ files. gathered_after_file_visits visit files more))
        → gather_result_and_then r (λ now. gathered_after_file_visits visit now (names ++ more)) ≡ gather_result_and_then (gather_result_and_then r (λ now. gathered_after_file_visits visit now names)) (λ now. gathered_after_file_visits visit now more)
    by (Ok now) later = later now
    by (Err fault) later = refl

-- visits of the names to which a line leads, and then of those to which the lines after it lead
pub visits_go_on_after_line_is_visited : (visit : GatherVisitFunction) (files found now : List NamedFile) (name line : List ℕ) (more : List (List ℕ))
    → gathered_after_file_visits visit found (file_names_of_lead files (include_lead_of_line name line)) ≡ Ok now
    → gathered_after_file_visits visit found (file_names_included_by_lines files name (line ∷ more)) ≡ gathered_after_file_visits visit now (file_names_included_by_lines files name more)
visits_go_on_after_line_is_visited visit files found now name line more is =
    visits_of_appended_names_are_chained visit found (file_names_of_lead files (include_lead_of_line name line)) (file_names_included_by_lines files name more)
    ∙ ap (λ r. gather_result_and_then r (λ files-now. gathered_after_file_visits visit files-now (file_names_included_by_lines files name more))) is

pub fault_at_line_stops_visits : (visit : GatherVisitFunction) (files found : List NamedFile) (fault : GatherFault) (name line : List ℕ) (more : List (List ℕ))
    → gathered_after_file_visits visit found (file_names_of_lead files (include_lead_of_line name line)) ≡ Err fault
    → gathered_after_file_visits visit found (file_names_included_by_lines files name (line ∷ more)) ≡ Err fault
fault_at_line_stops_visits visit files found fault name line more is =
    visits_of_appended_names_are_chained visit found (file_names_of_lead files (include_lead_of_line name line)) (file_names_included_by_lines files name more)
    ∙ ap (λ r. gather_result_and_then r (λ files-now. gathered_after_file_visits visit files-now (file_names_included_by_lines files name more))) is

-- ---- names and lines by their numbers

pub drop_is_item_and_later_drop : {A : Type 0} (xs : List A) (i : ℕ) (x : A) → i < length xs → x ≡ get_or xs i x → drop i xs ≡ x ∷ drop (i + 1) xs
drop_is_item_and_later_drop xs i x less is = at_drop_more (λ ys. ys) xs i x less ∙ ap (λ y. y ∷ drop (i + 1) xs) (sym is)

-- The lines from the one with this number on are that line and those after it.
visits_of_line_and_rest_are_of_drop : (visit : GatherVisitFunction) (files found : List NamedFile) (name line item : List ℕ) (lines : List (List ℕ)) (i : ℕ) → i < length lines → item ≡ get_or lines i item → line ≡ item
    → gathered_after_file_visits visit found (file_names_included_by_lines files name (line ∷ drop (i + 1) lines)) ≡ gathered_after_file_visits visit found (file_names_included_by_lines files name (drop i lines))
visits_of_line_and_rest_are_of_drop visit files found name line item lines i less is same =
    ap (λ ls. gathered_after_file_visits visit found (file_names_included_by_lines files name ls)) (ap (λ l. l ∷ drop (i + 1) lines) same ∙ sym (drop_is_item_and_later_drop lines i item less is))

pub outcome_goes_on_after_numbered_line : (visit : GatherVisitFunction) (files found now : List NamedFile) (name line item : List ℕ) (lines : List (List ℕ)) (i : ℕ) (outcome : GatherResult)
    → i < length lines → item ≡ get_or lines i item → line ≡ item
    → gathered_after_file_visits visit found (file_names_included_by_lines files name (drop i lines)) ≡ outcome → gathered_after_file_visits visit found (file_names_of_lead files (include_lead_of_line name line)) ≡ Ok now
    → gathered_after_file_visits visit now (file_names_included_by_lines files name (drop (i + 1) lines)) ≡ outcome
outcome_goes_on_after_numbered_line visit files found now name line item lines i outcome less is same whole here =
    sym (visits_go_on_after_line_is_visited visit files found now name line (drop (i + 1) lines) here) ∙ visits_of_line_and_rest_are_of_drop visit files found name line item lines i less is same ∙ whole

pub fault_at_numbered_line_is_step_outcome : (visit : GatherVisitFunction) (files found new : List NamedFile) (fault : GatherFault) (name line item : List ℕ) (lines : List (List ℕ)) (i : ℕ) (outcome : GatherResult)
    → i < length lines → item ≡ get_or lines i item → line ≡ item
    → gathered_after_file_visits visit found (file_names_included_by_lines files name (drop i lines)) ≡ outcome → IsGatherStepOutcome (Err fault) new (gathered_after_file_visits visit found (file_names_of_lead files (include_lead_of_line name line)))
    → IsGatherStepOutcome (Err fault) new outcome
fault_at_numbered_line_is_step_outcome visit files found new fault name line item lines i outcome less is same whole (inl outside) = inl outside
fault_at_numbered_line_is_step_outcome visit files found new fault name line item lines i outcome less is same whole (inr here) =
    inr (sym whole ∙ sym (visits_of_line_and_rest_are_of_drop visit files found name line item lines i less is same) ∙ fault_at_line_stops_visits visit files found fault name line (drop (i + 1) lines) here)
