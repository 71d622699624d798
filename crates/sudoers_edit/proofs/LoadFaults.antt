-- No fault that the definition of loading gives holds want of memory.
use Rattle.sudoers_edit.proofs.Common.{Bool, Err, FileVisit, IfErr, IncludeSite, Line, List, LoadFault, LoadedPolicy, NamedFile, None, Ok, Option, ParsedFile, PlacedDefinition, ReadFault, Result, Some, TextFault}
use Rattle.sudoers_edit.proofs.Common.{WalkLineSpot, WalkState, [], alias_limit_of_each_kind, cut_outcome_of_text, definition_count_of_kind, definitions_in_line, definitions_of_lines, empty_walk, false, fault_of_definition_name}
use Rattle.sudoers_edit.proofs.Common.{fault_of_logical_line, fault_of_numbered_file, file_limit, file_lines_of, files_opened_by_lead, files_unless_missing_or_on_walk, files_unless_on_walk, first_definition_fault}
use Rattle.sudoers_edit.proofs.Common.{first_definition_of, first_fault_of_lines, first_fault_of_unreached_file, first_file_on_walk, first_of_two_faults, first_present_fault, first_repeated_file_name, if◌then◌else◌}
use Rattle.sudoers_edit.proofs.Common.{include_depth_limit, include_site_of_line, is_file_on_walk, is_reserved, is_some, is_unfinished_line, lead_of_file_line, length, lf_count, line_limit, load_result_and_then}
use Rattle.sudoers_edit.proofs.Common.{logical_lines_of_text, name_of_numbered_file, nat_le, nat_lt, option_map, option_map_or, parsed_file_of_cut_or_fault, parsed_files_or_cut_fault, policy_of_parsed_files}
use Rattle.sudoers_edit.proofs.Common.{policy_or_load_fault, repeated_include_fault, reserved_name_fault_of_definitions, reserved_name_fault_in_lines, result_unless_repeated_name, spot_of_file_line, suc, syntax_fault_as_read_fault}
use Rattle.sudoers_edit.proofs.Common.{text_limit, true, value_unless_file_fault, walk_after_file_lines, walk_after_file_visit, walk_after_file_visits, walk_or_fault_of_files, walk_or_first_fault}
use Rattle.sudoers_edit.proofs.Common.{walk_or_unreached_file_fault, walk_with_file_entered, walk_with_line_appended, zero, ℕ, ◌++◌, ◌+◌, ◌∷◌}
use Rattle.sudoers_text.specs.declared.fault.TextFault.TheVariants as text
use Rattle.sudoers_tree.specs.Targets.{targets_of_lead}
use Rattle.sudoers_tree.specs.declared.fault.ReadFault.TheVariants as read
use Rattle.sudoers_tree.specs.declared.fault.SyntaxFault.{SyntaxFault}
use Rattle.sudoers_tree.specs.declared.include_leads.Lead.{Lead}
use Rattle.sudoers_tree.specs.declared.load_fault.LoadFault.TheVariants.{TooManyFiles}
use Rattle.sudoers_edit.specs.Memory.{IsMemoryFreeLoadFault, IsMemoryFreeReadFault}

-- a fault of files, if it is one, does not hold want of memory; nor does one of a text
abbrev pub HasNoMemoryLoadFault : {X : Type 0} → Result X LoadFault → Type 0
HasNoMemoryLoadFault r = IfErr r IsMemoryFreeLoadFault

abbrev HasNoMemoryReadFault : Option ReadFault → Type 0
HasNoMemoryReadFault None = Unit {0}
HasNoMemoryReadFault (Some fault) = IsMemoryFreeReadFault fault

-- CHOICES

choice_gives_no_memory_fault : {X : Type 0} (b : Bool) (r s : Result X LoadFault) → HasNoMemoryLoadFault r → HasNoMemoryLoadFault s → HasNoMemoryLoadFault (if b then r else s)
choice_gives_no_memory_fault true r s p q = p
choice_gives_no_memory_fault false r s p q = q

sequence_gives_no_memory_fault : {A B : Type 0} (r : Result A LoadFault) (next : A → Result B LoadFault) → HasNoMemoryLoadFault r → ((x : A) → HasNoMemoryLoadFault (next x)) → HasNoMemoryLoadFault (load_result_and_then r next)
sequence_gives_no_memory_fault (Ok x) next p all = all x
sequence_gives_no_memory_fault (Err fault) next p all = p

first_of_two_gives_no_memory_fault : (o later : Option ReadFault) → HasNoMemoryReadFault o → HasNoMemoryReadFault later → HasNoMemoryReadFault (first_of_two_faults o later)
first_of_two_gives_no_memory_fault (Some fault) later p q = p
first_of_two_gives_no_memory_fault None later p q = q

file_value_gives_no_memory_fault : {A : Type 0} (name : List ℕ) (x : A) (o : Option ReadFault) → HasNoMemoryReadFault o → HasNoMemoryLoadFault (value_unless_file_fault name x o)
file_value_gives_no_memory_fault name x None p = tt
file_value_gives_no_memory_fault name x (Some fault) p = p

-- NAMES AND SYNTAX

guarded_fault_gives_no_memory_fault : (b : Bool) (o : Option ReadFault) (fault : ReadFault) → IsMemoryFreeReadFault fault → HasNoMemoryReadFault o → HasNoMemoryReadFault (if b then Some fault else o)
guarded_fault_gives_no_memory_fault true o fault p q = p
guarded_fault_gives_no_memory_fault false o fault p q = q

definition_name_gives_no_memory_fault : (before : List PlacedDefinition) (d : PlacedDefinition) → HasNoMemoryReadFault (fault_of_definition_name before d)
unfolding fault_of_definition_name
definition_name_gives_no_memory_fault before d =
    let many : Option ReadFault = if nat_le alias_limit_of_each_kind (definition_count_of_kind d.kind before) then Some (read.TooMany d.kind) else None in
    let twice_or : Option ReadFault = if is_some (first_definition_of d.kind d.def.name before) then Some (read.Duplicate d.kind d.def.name) else many in
    guarded_fault_gives_no_memory_fault (is_reserved d.def.name) twice_or (read.Reserved d.kind d.def.name) tt
    (guarded_fault_gives_no_memory_fault (is_some (first_definition_of d.kind d.def.name before)) many (read.Duplicate d.kind d.def.name) tt
    (guarded_fault_gives_no_memory_fault (nat_le alias_limit_of_each_kind (definition_count_of_kind d.kind before)) None (read.TooMany d.kind) tt tt))

definition_names_give_no_memory_fault : (before ds : List PlacedDefinition) → HasNoMemoryReadFault (first_definition_fault before ds)
definition_names_give_no_memory_fault before [] = tt
definition_names_give_no_memory_fault before (d ∷ ds) =
    first_of_two_gives_no_memory_fault (fault_of_definition_name before d) (first_definition_fault (before ++ d ∷ []) ds) (definition_name_gives_no_memory_fault before d) (definition_names_give_no_memory_fault (before ++ d ∷ []) ds)

syntax_fault_gives_no_memory_fault : (o : Option SyntaxFault) → HasNoMemoryReadFault (option_map syntax_fault_as_read_fault o)
syntax_fault_gives_no_memory_fault None = tt
syntax_fault_gives_no_memory_fault (Some fault) = tt

reserved_name_gives_no_memory_fault : (ds : List PlacedDefinition) → HasNoMemoryReadFault (reserved_name_fault_of_definitions ds)
reserved_name_gives_no_memory_fault [] = tt
reserved_name_gives_no_memory_fault (d ∷ ds) = guarded_fault_gives_no_memory_fault (is_reserved d.def.name) (reserved_name_fault_of_definitions ds) (read.Reserved d.kind d.def.name) tt (reserved_name_gives_no_memory_fault ds)

reserved_line_names_give_no_memory_fault : (lines : List Line) → HasNoMemoryReadFault (reserved_name_fault_in_lines lines)
reserved_line_names_give_no_memory_fault [] = tt
reserved_line_names_give_no_memory_fault (line ∷ lines) =
    first_of_two_gives_no_memory_fault (reserved_name_fault_of_definitions (definitions_in_line 0 line.node)) (reserved_name_fault_in_lines lines) (reserved_name_gives_no_memory_fault (definitions_in_line 0 line.node)) (reserved_line_names_give_no_memory_fault lines)

-- THE WALK

appended_walk_line_gives_no_memory_fault : (name : List ℕ) (at : WalkLineSpot) (line : Line) (w : WalkState) → HasNoMemoryLoadFault (walk_with_line_appended name at line w)
appended_walk_line_gives_no_memory_fault name at line w =
    file_value_gives_no_memory_fault name (record { lines = w.lines ++ line ∷ []; spots = w.spots ++ at ∷ []; on = w.on })
    (first_definition_fault (definitions_of_lines w.lines) (definitions_in_line (length w.lines) line.node))
    (definition_names_give_no_memory_fault (definitions_of_lines w.lines) (definitions_in_line (length w.lines) line.node))

files_on_walk_give_no_memory_fault : (files : List ParsedFile) (at : IncludeSite) (inner : List ℕ) (o : Option ℕ) → HasNoMemoryLoadFault (files_unless_on_walk files at inner o)
files_on_walk_give_no_memory_fault files at inner None = tt
files_on_walk_give_no_memory_fault files at inner (Some f) = tt

missing_files_give_no_memory_fault : (files : List ParsedFile) (at : IncludeSite) (lead : Lead) (w : WalkState) (o : Option (List ℕ)) → HasNoMemoryLoadFault (files_unless_missing_or_on_walk files at lead w o)
missing_files_give_no_memory_fault files at lead w None = tt
missing_files_give_no_memory_fault files at lead w (Some inner) = files_on_walk_give_no_memory_fault files at inner (first_file_on_walk w inner)

files_of_lead_give_no_memory_fault : (files : List ParsedFile) (at : IncludeSite) (w : WalkState) (o : Option Lead) → HasNoMemoryLoadFault (files_opened_by_lead files at w o)
files_of_lead_give_no_memory_fault files at w None = tt
files_of_lead_give_no_memory_fault files at w (Some lead) = missing_files_give_no_memory_fault files at lead w (targets_of_lead files lead)

-- visits that give no other faults
abbrev VisitsGiveNoMemoryFault : FileVisit → Type 0
VisitsGiveNoMemoryFault go = (at : IncludeSite) (f : ℕ) (w : WalkState) → HasNoMemoryLoadFault (go at f w)

file_visits_give_no_memory_fault : (go : FileVisit) → VisitsGiveNoMemoryFault go → (files : List ParsedFile) (at : IncludeSite) (inner : List ℕ) (w : WalkState) → HasNoMemoryLoadFault (walk_after_file_visits go files at inner w)
file_visits_give_no_memory_fault go all files at [] w = tt
file_visits_give_no_memory_fault go all files at (f ∷ more) w =
    choice_gives_no_memory_fault (is_file_on_walk w f) (Err (repeated_include_fault files at f)) (load_result_and_then (go at f w) (walk_after_file_visits go files at more)) tt
    (sequence_gives_no_memory_fault (go at f w) (walk_after_file_visits go files at more) (all at f w) (file_visits_give_no_memory_fault go all files at more))

file_lines_give_no_memory_fault : (go : FileVisit) → VisitsGiveNoMemoryFault go → (files : List ParsedFile) (f n : ℕ) (lines : List Line) (w : WalkState) → HasNoMemoryLoadFault (walk_after_file_lines go files f n lines w)
file_lines_give_no_memory_fault go all files f n [] w = file_value_gives_no_memory_fault (name_of_numbered_file files f) w (option_map syntax_fault_as_read_fault (fault_of_numbered_file files f)) (syntax_fault_gives_no_memory_fault (fault_of_numbered_file files f))
file_lines_give_no_memory_fault go all files f n (line ∷ lines) w =
    let inside : WalkState → List ℕ → Result WalkState LoadFault = λ now inner.
    load_result_and_then (walk_after_file_visits go files (include_site_of_line files f n) inner now) (walk_after_file_lines go files f (n + 1) lines) in
    sequence_gives_no_memory_fault (walk_with_line_appended (name_of_numbered_file files f) (spot_of_file_line files f n) line w) (λ now. load_result_and_then (files_opened_by_lead files (include_site_of_line files f n) now (lead_of_file_line files f line)) (inside now))
    (appended_walk_line_gives_no_memory_fault (name_of_numbered_file files f) (spot_of_file_line files f n) line w)
    (λ now. sequence_gives_no_memory_fault (files_opened_by_lead files (include_site_of_line files f n) now (lead_of_file_line files f line)) (inside now) (files_of_lead_give_no_memory_fault files (include_site_of_line files f n) now (lead_of_file_line files f line))
    (λ inner. sequence_gives_no_memory_fault (walk_after_file_visits go files (include_site_of_line files f n) inner now) (walk_after_file_lines go files f (n + 1) lines) (file_visits_give_no_memory_fault go all files (include_site_of_line files f n) inner now)
    (file_lines_give_no_memory_fault go all files f (n + 1) lines)))

file_visit_gives_no_memory_fault : (left : ℕ) (files : List ParsedFile) → VisitsGiveNoMemoryFault (walk_after_file_visit left files)
file_visit_gives_no_memory_fault zero files at f w = tt
file_visit_gives_no_memory_fault (suc left) files at f w = file_lines_give_no_memory_fault (walk_after_file_visit left files) (file_visit_gives_no_memory_fault left files) files f 0 (file_lines_of files f) (walk_with_file_entered f w)

walk_of_files_gives_no_memory_fault : (files : List ParsedFile) → HasNoMemoryLoadFault (walk_or_fault_of_files files)
unfolding walk_or_fault_of_files
walk_of_files_gives_no_memory_fault files = file_lines_give_no_memory_fault (walk_after_file_visit include_depth_limit files) (file_visit_gives_no_memory_fault include_depth_limit files) files 0 0 (file_lines_of files 0) (walk_with_file_entered 0 empty_walk)

-- ALL FILES

unreached_file_gives_no_memory_fault : (w : WalkState) (n : ℕ) (files : List ParsedFile) → HasNoMemoryLoadFault (walk_or_unreached_file_fault w n files)
unreached_file_gives_no_memory_fault w n [] = tt
unreached_file_gives_no_memory_fault w n (file ∷ files) =
    sequence_gives_no_memory_fault (if is_file_on_walk w n then Ok w else value_unless_file_fault file.name w (first_fault_of_unreached_file file)) (λ same. walk_or_unreached_file_fault w (n + 1) files)
    (choice_gives_no_memory_fault (is_file_on_walk w n) (Ok w) (value_unless_file_fault file.name w (first_fault_of_unreached_file file)) tt
    (file_value_gives_no_memory_fault file.name w (first_fault_of_unreached_file file)
    (first_of_two_gives_no_memory_fault (reserved_name_fault_in_lines file.lines) (option_map syntax_fault_as_read_fault file.fault) (reserved_line_names_give_no_memory_fault file.lines) (syntax_fault_gives_no_memory_fault file.fault))))
    (λ same. unreached_file_gives_no_memory_fault w (n + 1) files)

parsed_files_give_no_memory_fault : (files : List ParsedFile) → HasNoMemoryLoadFault (policy_of_parsed_files files)
parsed_files_give_no_memory_fault files =
    sequence_gives_no_memory_fault (walk_or_first_fault files) (λ w. Ok (record { files = files; walk = w }))
    (sequence_gives_no_memory_fault (walk_or_fault_of_files files) (λ w. walk_or_unreached_file_fault w 0 files) (walk_of_files_gives_no_memory_fault files) (λ w. unreached_file_gives_no_memory_fault w 0 files)) (λ w. tt)

-- CUTS

-- want of memory is no fault of a cut
abbrev HasNoMemoryTextFault : Option TextFault → Type 0
HasNoMemoryTextFault None = Unit {0}
HasNoMemoryTextFault (Some fault) = IsMemoryFreeReadFault (read.Text fault)

first_text_fault_gives_no_memory_fault : (o p : Option TextFault) → HasNoMemoryTextFault o → HasNoMemoryTextFault p → HasNoMemoryTextFault (first_present_fault o p)
first_text_fault_gives_no_memory_fault None p x y = y
first_text_fault_gives_no_memory_fault (Some fault) p x y = x

guarded_text_fault_gives_no_memory_fault : (b : Bool) (fault : TextFault) → IsMemoryFreeReadFault (read.Text fault) → HasNoMemoryTextFault (if b then Some fault else None)
guarded_text_fault_gives_no_memory_fault true fault p = p
guarded_text_fault_gives_no_memory_fault false fault p = tt

nul_fault_gives_no_memory_fault : (at : ℕ) (o : Option ℕ) → HasNoMemoryTextFault (option_map (λ k. text.Nul (at + k)) o)
nul_fault_gives_no_memory_fault at None = tt
nul_fault_gives_no_memory_fault at (Some k) = tt

fault_of_line_gives_no_memory_fault : (number at : ℕ) (line : List ℕ) → HasNoMemoryTextFault (fault_of_logical_line number at line)
unfolding fault_of_logical_line
fault_of_line_gives_no_memory_fault number at line = first_text_fault_gives_no_memory_fault _ _ (nul_fault_gives_no_memory_fault at _) (guarded_text_fault_gives_no_memory_fault (nat_lt line_limit (length line)) (text.LineTooLong number) tt)

fault_of_lines_gives_no_memory_fault : (number at : ℕ) (lines : List (List ℕ)) → HasNoMemoryTextFault (first_fault_of_lines number at lines)
unfolding first_fault_of_lines
fault_of_lines_gives_no_memory_fault number at [] = tt
fault_of_lines_gives_no_memory_fault number at (line ∷ []) =
    first_text_fault_gives_no_memory_fault (fault_of_logical_line number at line) (if is_unfinished_line line then Some text.OpenContinuation else None) (fault_of_line_gives_no_memory_fault number at line)
    (guarded_text_fault_gives_no_memory_fault (is_unfinished_line line) text.OpenContinuation tt)
fault_of_lines_gives_no_memory_fault number at (line ∷ next ∷ lines) =
    first_text_fault_gives_no_memory_fault (fault_of_logical_line number at line) (first_fault_of_lines (number + lf_count line) (at + length line) (next ∷ lines)) (fault_of_line_gives_no_memory_fault number at line)
    (fault_of_lines_gives_no_memory_fault (number + lf_count line) (at + length line) (next ∷ lines))

named_file_cut_gives_no_memory_fault : (name : List ℕ) (b : Bool) (o : Option TextFault) (lines : List (List ℕ)) → HasNoMemoryTextFault o
    → HasNoMemoryLoadFault (parsed_file_of_cut_or_fault name (if b then Err text.TooLarge else option_map_or (λ fault. Err fault) o (Ok lines)))
named_file_cut_gives_no_memory_fault name true o lines p = tt
named_file_cut_gives_no_memory_fault name false None lines p = tt
named_file_cut_gives_no_memory_fault name false (Some fault) lines p = p

text_cut_gives_no_memory_fault : (name bytes : List ℕ) → HasNoMemoryLoadFault (parsed_file_of_cut_or_fault name (cut_outcome_of_text bytes))
unfolding cut_outcome_of_text
text_cut_gives_no_memory_fault name bytes = named_file_cut_gives_no_memory_fault name (nat_lt text_limit (length bytes)) (first_fault_of_lines 1 0 (logical_lines_of_text bytes)) (logical_lines_of_text bytes) (fault_of_lines_gives_no_memory_fault 1 0 (logical_lines_of_text bytes))

readings_of_files_give_no_memory_fault : (before : List ParsedFile) (files : List NamedFile) → HasNoMemoryLoadFault (parsed_files_or_cut_fault before files)
readings_of_files_give_no_memory_fault before [] = tt
readings_of_files_give_no_memory_fault before (file ∷ files) =
    sequence_gives_no_memory_fault (parsed_file_of_cut_or_fault file.name (cut_outcome_of_text file.bytes)) (λ reading. parsed_files_or_cut_fault (before ++ reading ∷ []) files) (text_cut_gives_no_memory_fault file.name file.bytes)
    (λ reading. readings_of_files_give_no_memory_fault (before ++ reading ∷ []) files)

-- LOADING

repeated_name_gives_no_memory_fault : {A : Type 0} (o : Option (List ℕ)) (next : Result A LoadFault) → HasNoMemoryLoadFault next → HasNoMemoryLoadFault (result_unless_repeated_name o next)
repeated_name_gives_no_memory_fault None next p = p
repeated_name_gives_no_memory_fault (Some name) next p = tt

pub load_of_files_gives_no_memory_fault : (files : List NamedFile) → HasNoMemoryLoadFault (policy_or_load_fault files)
unfolding policy_or_load_fault
load_of_files_gives_no_memory_fault files =
    let loaded : Result LoadedPolicy LoadFault = load_result_and_then (parsed_files_or_cut_fault [] files) policy_of_parsed_files in
    choice_gives_no_memory_fault (nat_lt file_limit (length files)) (Err TooManyFiles) (result_unless_repeated_name (first_repeated_file_name [] files) loaded) tt
    (repeated_name_gives_no_memory_fault (first_repeated_file_name [] files) loaded (sequence_gives_no_memory_fault (parsed_files_or_cut_fault [] files) policy_of_parsed_files (readings_of_files_give_no_memory_fault [] files) parsed_files_give_no_memory_fault))
