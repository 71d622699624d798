-- Lines are read first, and then their names are entered. The outcome is that of reading line by line.
use Rattle.std.proofs.Common.{◌≡◌, ℕ, ◌+◌, List, [], ◌∷◌, ◌++◌, length, take, Option, Some, None, option_map, Result, Ok, Err, refl, sym, ap, subst, ◌∙◌, append_assoc, append-nil, arith}
use Rattle.std.proofs.lemmas.List.{length-append}
use Rattle.sudoers_grammar.specs.declared.fault.Why.{Why}
use Rattle.sudoers_grammar.specs.declared.fault.LineFault.{LineFault}
use Rattle.sudoers_grammar.specs.declared.fault.LineFault.TheVariants as line_fault
use Rattle.sudoers_grammar.specs.Node.{Node}
use Rattle.sudoers_line_reader.specs.Outcome.{outcome_of_line}
use Rattle.sudoers_line_reader.specs.Outcome.{IsOutcomeOfLine as IsLineOutcome}
use Rattle.sudoers_tree.specs.Line.{Line}
use Rattle.sudoers_tree.specs.declared.fault.ReadFault.{ReadFault}
use Rattle.sudoers_tree.specs.declared.fault.ReadFault.TheVariants.{Syntax}
use Rattle.sudoers_tree.specs.declared.fault.SyntaxFault.{SyntaxFault}
use Rattle.sudoers_tree.specs.Physical.{column_behind}
use Rattle.sudoers_tree.specs.Definition.{PlacedDefinition, definitions_of_lines, definitions_in_line, definitions_from_line_number}
use Rattle.sudoers_tree.specs.Fault.{syntax_fault_as_read_fault}
use Rattle.sudoers_tree.specs.Reading.{line_or_fault_after, line_from_parse_outcome, value_unless_fault, first_definition_fault, first_of_two_faults, lines_read_after, line_result_and_then}
use Rattle.sudoers_tree.specs.Files.{parsed_lines_from_outcome, lines_parsed_until_fault}
use Rattle.sudoers_tree.proofs.Joined.{definitions_with_last_line_are_appended}
use Rattle.sudoers_tree.proofs.Sound.{first_fault_of_append_is_of_first_or_rest}
use Rattle.sudoers_tree.proofs.Outcomes.{ComputedLineOutcomesAreLineOutcomes}
use Rattle.sudoers_tree.proofs.ReadsLines.{physical_line_in_line_adds_lf_count}

-- lines after others, with the fault of their names, or else that of the line after them
abbrev pub lines_or_fault_by_two_passes : List Line → List Line × Option SyntaxFault → Result (List Line) ReadFault
lines_or_fault_by_two_passes before read =
    value_unless_fault (before ++ read.0)
    (first_of_two_faults (first_definition_fault (definitions_of_lines before) (definitions_from_line_number (length before) read.0)) (option_map syntax_fault_as_read_fault read.1))

two_passes_agree_on_no_lines : (before : List Line) → lines_read_after before [] ≡ lines_or_fault_by_two_passes before (lines_parsed_until_fault before [])
two_passes_agree_on_no_lines before = ap (λ (ls : List Line). Ok ls) (sym (append-nil before))

-- a line that does not parse
two_passes_agree_on_syntax_fault : (before : List Line) (text : List ℕ) (more : List (List ℕ)) (at : ℕ) (why : Why) → outcome_of_line text ≡ Err (line_fault.Syntax at why)
    → lines_read_after before (text ∷ more) ≡ lines_or_fault_by_two_passes before (lines_parsed_until_fault before (text ∷ more))
unfolding line_or_fault_after
two_passes_agree_on_syntax_fault before text more at why is =
    ap (λ o. line_result_and_then (line_from_parse_outcome before text o) (λ line. lines_read_after (before ++ line ∷ []) more)) is
    ∙ ap (λ row. Err (Syntax row (column_behind (take at text)) why)) (physical_line_in_line_adds_lf_count before text at)
    ∙ sym (ap (λ o. lines_or_fault_by_two_passes before (parsed_lines_from_outcome before text o (λ line. lines_parsed_until_fault (before ++ line ∷ []) more))) is)

-- a line that parses, by the fault of its names
two_passes_agree_by_name_fault : (before : List Line) (line : Line) (more : List (List ℕ)) (read : List Line × Option SyntaxFault) (o : Option ReadFault)
    → first_definition_fault (definitions_of_lines before) (definitions_in_line (length before) line.node) ≡ o
    → lines_read_after (before ++ line ∷ []) more ≡ lines_or_fault_by_two_passes (before ++ line ∷ []) read
    → line_result_and_then (value_unless_fault line o) (λ l. lines_read_after (before ++ l ∷ []) more) ≡ lines_or_fault_by_two_passes before (line ∷ read.0, read.1)
two_passes_agree_by_name_fault before line more read o is next = by o is
  where
    here : List PlacedDefinition
    here = definitions_in_line (length before) line.node

    behind : List PlacedDefinition
    behind = definitions_from_line_number (length before + 1) read.0

    last : Option ReadFault
    last = option_map syntax_fault_as_read_fault read.1

    parts : (o : Option ReadFault) → first_definition_fault (definitions_of_lines before) here ≡ o
        → lines_or_fault_by_two_passes before (line ∷ read.0, read.1) ≡ value_unless_fault (before ++ line ∷ read.0) (first_of_two_faults (first_of_two_faults o (first_definition_fault (definitions_of_lines before ++ here) behind)) last)
    parts o is =
        ap (λ f. value_unless_fault (before ++ line ∷ read.0) (first_of_two_faults f last)) (first_fault_of_append_is_of_first_or_rest (definitions_of_lines before) here behind)
        ∙ ap (λ f. value_unless_fault (before ++ line ∷ read.0) (first_of_two_faults (first_of_two_faults f (first_definition_fault (definitions_of_lines before ++ here) behind)) last)) is

    count : length (before ++ line ∷ []) ≡ length before + 1
    count = omega (arith, length-append before (line ∷ []))

    by : (o : Option ReadFault) → first_definition_fault (definitions_of_lines before) here ≡ o
        → line_result_and_then (value_unless_fault line o) (λ l. lines_read_after (before ++ l ∷ []) more) ≡ lines_or_fault_by_two_passes before (line ∷ read.0, read.1)
    by (Some fault) is = sym (parts (Some fault) is)
    by None is =
        next
        ∙ ap (λ ls. value_unless_fault ls (first_of_two_faults (first_definition_fault (definitions_of_lines (before ++ line ∷ [])) (definitions_from_line_number (length (before ++ line ∷ [])) read.0)) last))
        (append_assoc before (line ∷ []) read.0)
        ∙ ap (λ n. value_unless_fault (before ++ line ∷ read.0) (first_of_two_faults (first_definition_fault (definitions_of_lines (before ++ line ∷ [])) (definitions_from_line_number n read.0)) last)) count
        ∙ ap (λ ds. value_unless_fault (before ++ line ∷ read.0) (first_of_two_faults (first_definition_fault ds behind) last)) (definitions_with_last_line_are_appended before line)
        ∙ sym (parts None is)

-- a line that parses
two_passes_agree_on_parsed_line : (before : List Line) (text : List ℕ) (more : List (List ℕ)) (says : Node) → outcome_of_line text ≡ Ok says
    → ((line : Line) → lines_read_after (before ++ line ∷ []) more ≡ lines_or_fault_by_two_passes (before ++ line ∷ []) (lines_parsed_until_fault (before ++ line ∷ []) more))
    → lines_read_after before (text ∷ more) ≡ lines_or_fault_by_two_passes before (lines_parsed_until_fault before (text ∷ more))
unfolding line_or_fault_after
two_passes_agree_on_parsed_line before text more says is next =
    let line : Line = record { text = text; node = says } in
    ap (λ o. line_result_and_then (line_from_parse_outcome before text o) (λ l. lines_read_after (before ++ l ∷ []) more)) is
    ∙ two_passes_agree_by_name_fault before line more (lines_parsed_until_fault (before ++ line ∷ []) more) (first_definition_fault (definitions_of_lines before) (definitions_in_line (length before) says)) refl (next line)
    ∙ sym (ap (λ o. lines_or_fault_by_two_passes before (parsed_lines_from_outcome before text o (λ l. lines_parsed_until_fault (before ++ l ∷ []) more))) is)

line_outcome_is_never_no_memory : (text : List ℕ) → IsLineOutcome text (outcome_of_line text) → outcome_of_line text ≡ Err line_fault.NoMemory → ⊥
line_outcome_is_never_no_memory text is e = subst (IsLineOutcome text) e is

pub two_passes_agree_with_line_by_line : ComputedLineOutcomesAreLineOutcomes → (before : List Line) (lines : List (List ℕ)) → lines_read_after before lines ≡ lines_or_fault_by_two_passes before (lines_parsed_until_fault before lines)
two_passes_agree_with_line_by_line are before [] = two_passes_agree_on_no_lines before
two_passes_agree_with_line_by_line are before (text ∷ more) = by (outcome_of_line text) refl (λ line. two_passes_agree_with_line_by_line are (before ++ line ∷ []) more)
  where
    Later : Type 0
    Later = (line : Line) → lines_read_after (before ++ line ∷ []) more ≡ lines_or_fault_by_two_passes (before ++ line ∷ []) (lines_parsed_until_fault (before ++ line ∷ []) more)

    by : (o : Result Node LineFault) → outcome_of_line text ≡ o → Later → lines_read_after before (text ∷ more) ≡ lines_or_fault_by_two_passes before (lines_parsed_until_fault before (text ∷ more))
    by (Ok says) is later = two_passes_agree_on_parsed_line before text more says is later
    by (Err (line_fault.Syntax at why)) is later = two_passes_agree_on_syntax_fault before text more at why is
    by (Err line_fault.NoMemory) is later = absurd (line_outcome_is_never_no_memory text (are text) is)
