-- Files that are not on the walk.
use Rattle.sudoers_tree.proofs.Common.{Bool, Err, InFile, Line, List, LoadFault, NoMemory, None, Ok, Option, ParsedFile, ReadFault, Result, Some, WalkState, ap, definitions_in_line, drop, false}
use Rattle.sudoers_tree.proofs.Common.{fault_of_numbered_file, fault_of_optional_file, first_of_two_faults, if◌then◌else◌, inl, inr, is_file_on_walk, length, lines_of_numbered_file, lines_of_optional_file}
use Rattle.sudoers_tree.proofs.Common.{load_result_and_then, name_of_numbered_file, name_of_optional_file, option_map, reserved_name_fault_of_definitions, reserved_name_fault_in_lines, slice_get, sym, syntax_fault_as_read_fault}
use Rattle.sudoers_tree.proofs.Common.{true, value_unless_file_fault, walk_or_unreached_file_fault, ℕ, ◌+◌, ◌<◌, ◌∙◌, ◌≡◌, ◌⊎◌}
use Rattle.sudoers_tree.proofs.Numbered.{drop_begins_with_numbered_item, item_below_length_exists}

-- ---- the lines of one file

pub reserved_name_fault_is_of_line_or_rest : (lines : List Line) (n : ℕ) (line : Line) (o : Option ReadFault) → slice_get lines n ≡ Some line
    → reserved_name_fault_of_definitions (definitions_in_line 0 line.node) ≡ o → reserved_name_fault_in_lines (drop n lines) ≡ first_of_two_faults o (reserved_name_fault_in_lines (drop (n + 1) lines))
reserved_name_fault_is_of_line_or_rest lines n line o at is = ap reserved_name_fault_in_lines (drop_begins_with_numbered_item lines n line at) ∙ ap (λ f. first_of_two_faults f (reserved_name_fault_in_lines (drop (n + 1) lines))) is

-- ---- all files

-- the fault of the file with this number
abbrev pub fault_of_numbered_file_off_walk : List ParsedFile → ℕ → Option ReadFault
fault_of_numbered_file_off_walk files n = first_of_two_faults (reserved_name_fault_in_lines (lines_of_numbered_file files n)) (option_map syntax_fault_as_read_fault (fault_of_numbered_file files n))

abbrev outcome_of_checking_unreached_file : WalkState → ℕ → List ParsedFile → Bool → List ℕ → Option ReadFault → Result WalkState LoadFault
outcome_of_checking_unreached_file w n files on name fault = load_result_and_then (if on then Ok w else value_unless_file_fault name w fault) (λ same. walk_or_unreached_file_fault w (n + 1) (drop (n + 1) files))

check_of_unreached_files_begins_with_file : (w : WalkState) (files : List ParsedFile) (n : ℕ) → n < length files
    → walk_or_unreached_file_fault w n (drop n files) ≡ outcome_of_checking_unreached_file w n files (is_file_on_walk w n) (name_of_numbered_file files n) (fault_of_numbered_file_off_walk files n)
check_of_unreached_files_begins_with_file w files n less =
    let at = item_below_length_exists files n less in
    let name : name_of_numbered_file files n ≡ at.0.name = ap name_of_optional_file at.1 in
    let lines : lines_of_numbered_file files n ≡ at.0.lines = ap lines_of_optional_file at.1 in
    let fault : fault_of_numbered_file files n ≡ at.0.fault = ap fault_of_optional_file at.1 in
    ap (walk_or_unreached_file_fault w n) (drop_begins_with_numbered_item files n at.0 at.1)
    ∙ sym (ap (λ ns. outcome_of_checking_unreached_file w n files (is_file_on_walk w n) ns (fault_of_numbered_file_off_walk files n)) name
    ∙ ap (λ ls. outcome_of_checking_unreached_file w n files (is_file_on_walk w n) at.0.name (first_of_two_faults (reserved_name_fault_in_lines ls) (option_map syntax_fault_as_read_fault (fault_of_numbered_file files n)))) lines
    ∙ ap (λ f. outcome_of_checking_unreached_file w n files (is_file_on_walk w n) at.0.name (first_of_two_faults (reserved_name_fault_in_lines at.0.lines) (option_map syntax_fault_as_read_fault f))) fault)

pub file_on_walk_is_not_checked : (w : WalkState) (files : List ParsedFile) (n : ℕ) → n < length files → is_file_on_walk w n ≡ true
    → walk_or_unreached_file_fault w n (drop n files) ≡ walk_or_unreached_file_fault w (n + 1) (drop (n + 1) files)
file_on_walk_is_not_checked w files n less on = check_of_unreached_files_begins_with_file w files n less ∙ ap (λ t. outcome_of_checking_unreached_file w n files t (name_of_numbered_file files n) (fault_of_numbered_file_off_walk files n)) on

file_off_walk_is_checked_for_fault : (w : WalkState) (files : List ParsedFile) (n : ℕ) (o : Option ReadFault) → n < length files → is_file_on_walk w n ≡ false → fault_of_numbered_file_off_walk files n ≡ o
    → walk_or_unreached_file_fault w n (drop n files) ≡ outcome_of_checking_unreached_file w n files false (name_of_numbered_file files n) o
file_off_walk_is_checked_for_fault w files n o less off is =
    check_of_unreached_files_begins_with_file w files n less ∙ ap (λ t. outcome_of_checking_unreached_file w n files t (name_of_numbered_file files n) (fault_of_numbered_file_off_walk files n)) off
    ∙ ap (λ f. outcome_of_checking_unreached_file w n files false (name_of_numbered_file files n) f) is

pub faultless_unreached_file_is_passed : (w : WalkState) (files : List ParsedFile) (n : ℕ) → n < length files → is_file_on_walk w n ≡ false → fault_of_numbered_file_off_walk files n ≡ None
    → walk_or_unreached_file_fault w n (drop n files) ≡ walk_or_unreached_file_fault w (n + 1) (drop (n + 1) files)
faultless_unreached_file_is_passed w files n less off is = file_off_walk_is_checked_for_fault w files n None less off is

pub fault_of_unreached_file_is_outcome : (w : WalkState) (files : List ParsedFile) (n : ℕ) (fault : ReadFault) (told : LoadFault) (whole : Result WalkState LoadFault) → n < length files
    → is_file_on_walk w n ≡ false → fault_of_numbered_file_off_walk files n ≡ Some fault → walk_or_unreached_file_fault w n (drop n files) ≡ whole
    → (told ≡ NoMemory) ⊎ (told ≡ InFile (name_of_numbered_file files n) fault) → (told ≡ NoMemory) ⊎ (whole ≡ Err told)
fault_of_unreached_file_is_outcome w files n fault told whole less off is so_far (inl memory) = inl memory
fault_of_unreached_file_is_outcome w files n fault told whole less off is so_far (inr same) =
    inr (sym so_far ∙ file_off_walk_is_checked_for_fault w files n (Some fault) less off is ∙ ap (λ f. Err f) (sym same))
