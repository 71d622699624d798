-- The policy that a text is, or its first fault, as a function that computes. By the law `read_is` it is the policy or the first fault
-- that `IsPolicyOrFirstFaultOfText` defines. By the law `one_outcome` a text has one outcome only.
use Rattle.std.specs.Prelude.{◌≡◌, ℕ, List, [], ◌∷◌, ◌++◌, take, length, Option, Some, None, Result, Ok, Err}
use Rattle.sudoers_text.specs.Line.{join}
use Rattle.sudoers_text.specs.Cut.{cut_outcome_of_text}
use Rattle.sudoers_text.specs.declared.fault.TextFault.{TextFault}
use Rattle.sudoers_grammar.specs.declared.fault.LineFault.{LineFault}
use Rattle.sudoers_grammar.specs.declared.fault.LineFault.TheVariants as line_fault
use Rattle.sudoers_grammar.specs.Node.{Node}
use Rattle.sudoers_line_reader.specs.Outcome.{outcome_of_line}
use Rattle.sudoers_tree.specs.Line.{Line}
use Rattle.sudoers_tree.specs.declared.fault.ReadFault.{ReadFault}
use Rattle.sudoers_tree.specs.declared.fault.ReadFault.TheVariants.{Text, Syntax, NoMemory}
use Rattle.sudoers_tree.specs.Physical.{physical_line_after_bytes, column_behind}
use Rattle.sudoers_tree.specs.Definition.{PlacedDefinition, definitions_of_lines, definitions_in_line}
use Rattle.sudoers_tree.specs.Policy.{texts_of_lines, AreLinesOfSingleTextPolicy}
use Rattle.sudoers_tree.specs.Fault.{fault_of_definition_name, IsFirstFaultOfText}

-- the first of two
abbrev pub first_of_two_faults : Option ReadFault → Option ReadFault → Option ReadFault
first_of_two_faults (Some fault) later = Some fault
first_of_two_faults None later = later

-- the fault of the first of these definitions that cannot stand after those before it
abbrev pub first_definition_fault : List PlacedDefinition → List PlacedDefinition → Option ReadFault
first_definition_fault before [] = None
first_definition_fault before (d ∷ ds) = first_of_two_faults (fault_of_definition_name before d) (first_definition_fault (before ++ d ∷ []) ds)

abbrev pub value_unless_fault : {A : Type 0} → A → Option ReadFault → Result A ReadFault
value_unless_fault x None = Ok x
value_unless_fault x (Some fault) = Err fault

-- the line with this outcome, after the lines `before`, or its fault there
abbrev pub line_from_parse_outcome : List Line → List ℕ → Result Node LineFault → Result Line ReadFault
line_from_parse_outcome before text (Ok says) =
    value_unless_fault (record { text = text; node = says }) (first_definition_fault (definitions_of_lines before) (definitions_in_line (length before) says))
line_from_parse_outcome before text (Err (line_fault.Syntax at why)) =
    Err (Syntax (physical_line_after_bytes (join (texts_of_lines before) ++ take at text)) (column_behind (take at text)) why)
line_from_parse_outcome before text (Err line_fault.NoMemory) = Err NoMemory

-- a line after the lines `before`, with what it says, or its fault there
unfoldable pub line_or_fault_after : List Line → List ℕ → Result Line ReadFault
line_or_fault_after before text = line_from_parse_outcome before text (outcome_of_line text)

abbrev pub line_result_and_then : Result Line ReadFault → (Line → Result (List Line) ReadFault) → Result (List Line) ReadFault
line_result_and_then (Ok line) next = next line
line_result_and_then (Err fault) next = Err fault

-- the lines `before`, and then those of these texts, or the first fault
abbrev pub lines_read_after : List Line → List (List ℕ) → Result (List Line) ReadFault
lines_read_after before [] = Ok before
lines_read_after before (text ∷ more) = line_result_and_then (line_or_fault_after before text) (λ line. lines_read_after (before ++ line ∷ []) more)

abbrev pub policy_lines_of_cut : Result (List (List ℕ)) TextFault → Result (List Line) ReadFault
policy_lines_of_cut (Ok lines) = lines_read_after [] lines
policy_lines_of_cut (Err fault) = Err (Text fault)

-- the lines of the policy that the text is, or its first fault
unfoldable pub policy_lines_of_text : List ℕ → Result (List Line) ReadFault
policy_lines_of_text text = policy_lines_of_cut (cut_outcome_of_text text)

-- The outcome of a text: the policy that it is, or its first fault.
abbrev pub IsPolicyOrFirstFaultOfText : List ℕ → Result (List Line) ReadFault → Type 0
IsPolicyOrFirstFaultOfText text (Ok lines) = AreLinesOfSingleTextPolicy lines × (join (texts_of_lines lines) ≡ text)
IsPolicyOrFirstFaultOfText text (Err fault) = IsFirstFaultOfText text fault
