-- Lines of a text, up to the first that does not parse.
use Rattle.sudoers_tree.proofs.Common.{AllByRecursion, AreParsedUntilFault, Err, IsCorrectlyParsed, IsLineOutcome, IsSyntaxFaultAfterLines, Line, LineFault, List, Node, None, Ok, Option, Result, Some, SyntaxFault}
use Rattle.sudoers_tree.proofs.Common.{Why, [], ap, append-nil, append_assoc, ap₂, arith, join, lf_count, line_before_parsed_lines, lines_parsed_until_fault, outcome_of_line, parsed_lines_from_outcome}
use Rattle.sudoers_tree.proofs.Common.{physical_line_after_bytes, refl, subst, sym, syntax_fault_at_byte, take, texts_of_lines, whole, ℕ, ◌++◌, ◌+◌, ◌∙◌, ◌∷◌, ◌≡◌}
use Rattle.sudoers_grammar.specs.declared.fault.LineFault.TheVariants as line_fault
use Rattle.sudoers_tree.specs.Files.{broken}
use Rattle.sudoers_tree.proofs.Joined.{lf_count_adds_over_append}
use Rattle.sudoers_tree.proofs.OneOutcome.{ParsedLineHasNoSyntaxFault, LineHasUniqueSyntaxFault, LineOutcomeIsComputedOutcome, LineHasUniqueNode, line_outcome_is_computed_outcome}
use Rattle.sudoers_tree.proofs.Outcomes.{ComputedLineOutcomesAreLineOutcomes, last_parsed_line_keeps_lines_parsed, texts_with_line_moved_to_front_are_same}

-- lines, and the fault of the one after them
abbrev ParsedLinesAndFault : Type 0
ParsedLinesAndFault = List Line × Option SyntaxFault

-- the physical line of a byte of the line after others
pub physical_line_in_line_adds_lf_count : (before : List Line) (text : List ℕ) (at : ℕ)
    → physical_line_after_bytes (join (texts_of_lines before) ++ take at text) ≡ physical_line_after_bytes (join (texts_of_lines before)) + lf_count (take at text)
physical_line_in_line_adds_lf_count before text at = omega (arith, lf_count_adds_over_append (join (texts_of_lines before)) (take at text))

-- ---- the computed outcome is the defined one

-- this is the outcome of these texts after the lines `before`
abbrev AreParsedAfterLines : List Line → List (List ℕ) → ParsedLinesAndFault → Type 0
AreParsedAfterLines before more read = AreParsedUntilFault (texts_of_lines before ++ more) (before ++ read.0) read.1

parsed_line_extends_lines_parsed_after : (before : List Line) (line : Line) (more : List (List ℕ)) (read : ParsedLinesAndFault) → AreParsedAfterLines (before ++ line ∷ []) more read
    → AreParsedAfterLines before (line.text ∷ more) (line_before_parsed_lines line read)
parsed_line_extends_lines_parsed_after before line more read is =
    subst (λ ls. AreParsedUntilFault (texts_of_lines before ++ line.text ∷ more) ls read.1) (append_assoc before (line ∷ []) read.0)
    (subst (λ ts. AreParsedUntilFault ts ((before ++ line ∷ []) ++ read.0) read.1) (sym (texts_with_line_moved_to_front_are_same before line more)) is)

no_texts_are_parsed_after_lines : (before : List Line) → AllByRecursion IsCorrectlyParsed before → AreParsedAfterLines before [] ([], None)
no_texts_are_parsed_after_lines before says =
    let same : before ++ [] ≡ before = append-nil before in
    subst (λ ls. AreParsedUntilFault (texts_of_lines before ++ []) ls None) (sym same) (subst (λ ts. AreParsedUntilFault ts before None) (sym (append-nil (texts_of_lines before))) (whole before says))

syntax_fault_ends_lines_parsed_after : (before : List Line) (text : List ℕ) (more : List (List ℕ)) (at : ℕ) (why : Why) → AllByRecursion IsCorrectlyParsed before → IsLineOutcome text (Err (line_fault.Syntax at why))
    → AreParsedAfterLines before (text ∷ more) ([], Some (syntax_fault_at_byte (physical_line_after_bytes (join (texts_of_lines before))) text at why))
syntax_fault_ends_lines_parsed_after before text more at why says first =
    let fault : SyntaxFault = syntax_fault_at_byte (physical_line_after_bytes (join (texts_of_lines before))) text at why in
    let wrong : IsSyntaxFaultAfterLines before text fault.line fault.col fault.why = record { at = at; first = first; row_is = sym (physical_line_in_line_adds_lf_count before text at); col_is = refl } in
    subst (λ ls. AreParsedUntilFault (texts_of_lines before ++ text ∷ more) ls (Some fault)) (sym (append-nil before)) (broken before text more fault says wrong)

computed_lines_are_parsed_after_lines : ComputedLineOutcomesAreLineOutcomes → (before : List Line) (lines : List (List ℕ)) → AllByRecursion IsCorrectlyParsed before → AreParsedAfterLines before lines (lines_parsed_until_fault before lines)
computed_lines_are_parsed_after_lines are before [] says = no_texts_are_parsed_after_lines before says
computed_lines_are_parsed_after_lines are before (text ∷ more) says = by (outcome_of_line text) (are text) (λ line. computed_lines_are_parsed_after_lines are (before ++ line ∷ []) more)
  where
    by : (r : Result Node LineFault) → IsLineOutcome text r
        → ((line : Line) → AllByRecursion IsCorrectlyParsed (before ++ line ∷ []) → AreParsedAfterLines (before ++ line ∷ []) more (lines_parsed_until_fault (before ++ line ∷ []) more))
        → AreParsedAfterLines before (text ∷ more) (parsed_lines_from_outcome before text r (λ line. lines_parsed_until_fault (before ++ line ∷ []) more))
    by (Ok n) reads later =
        let line : Line = record { text = text; node = n } in
        parsed_line_extends_lines_parsed_after before line more (lines_parsed_until_fault (before ++ line ∷ []) more) (later line (last_parsed_line_keeps_lines_parsed before line says reads))
    by (Err (line_fault.Syntax at why)) first later = syntax_fault_ends_lines_parsed_after before text more at why says first
    by (Err line_fault.NoMemory) is later = absurd is

pub computed_lines_are_parsed_until_fault : ComputedLineOutcomesAreLineOutcomes → (lines : List (List ℕ)) → AreParsedUntilFault lines (lines_parsed_until_fault [] lines).0 (lines_parsed_until_fault [] lines).1
computed_lines_are_parsed_until_fault are lines = computed_lines_are_parsed_after_lines are [] lines tt

-- ---- there is no other outcome

parsing_passes_parsed_lines : LineOutcomeIsComputedOutcome → (before lines : List Line) (more : List (List ℕ)) → AllByRecursion IsCorrectlyParsed lines
    → lines_parsed_until_fault before (texts_of_lines lines ++ more) ≡ (lines ++ (lines_parsed_until_fault (before ++ lines) more).0, (lines_parsed_until_fault (before ++ lines) more).1)
parsing_passes_parsed_lines one before [] more says = ap (λ ls. lines_parsed_until_fault ls more) (sym (append-nil before))
parsing_passes_parsed_lines one before (line ∷ lines) more says =
    ap (λ o. parsed_lines_from_outcome before line.text o (λ l. lines_parsed_until_fault (before ++ l ∷ []) (texts_of_lines lines ++ more))) (one line.text (Ok line.node) says.0)
    ∙ ap (line_before_parsed_lines line) (parsing_passes_parsed_lines one (before ++ line ∷ []) lines more says.1)
    ∙ ap (λ ls. line_before_parsed_lines line (lines ++ (lines_parsed_until_fault ls more).0, (lines_parsed_until_fault ls more).1)) (append_assoc before (line ∷ []) lines)

parsing_stops_at_syntax_fault : LineOutcomeIsComputedOutcome → (before : List Line) (text : List ℕ) (more : List (List ℕ)) (fault : SyntaxFault) → IsSyntaxFaultAfterLines before text fault.line fault.col fault.why
    → lines_parsed_until_fault before (text ∷ more) ≡ ([], Some fault)
parsing_stops_at_syntax_fault one before text more fault is =
    ap (λ o. parsed_lines_from_outcome before text o (λ l. lines_parsed_until_fault (before ++ l ∷ []) more)) (one text (Err (line_fault.Syntax is.at fault.why)) is.first)
    ∙ ap₂ (λ row col. let read : ParsedLinesAndFault = ([], Some (record { line = row; col = col; why = fault.why })) in read)
    (sym (physical_line_in_line_adds_lf_count before text is.at) ∙ sym is.row_is) (sym is.col_is)

pub lines_parsed_until_fault_are_unique : ComputedLineOutcomesAreLineOutcomes → LineHasUniqueNode → ParsedLineHasNoSyntaxFault → LineHasUniqueSyntaxFault → (lines : List (List ℕ)) (read : List Line) (fault : Option SyntaxFault) → AreParsedUntilFault lines read fault
    → lines_parsed_until_fault [] lines ≡ (read, fault)
lines_parsed_until_fault_are_unique are reading none one-fault lines read fault (whole ls says) =
    let one = line_outcome_is_computed_outcome are reading none one-fault in
    ap (lines_parsed_until_fault []) (sym (append-nil (texts_of_lines read))) ∙ parsing_passes_parsed_lines one [] read [] says ∙ ap (λ ls. let r : ParsedLinesAndFault = (ls, None) in r) (append-nil read)
lines_parsed_until_fault_are_unique are reading none one-fault lines read fault (broken ls text more why-fault says wrong) =
    let one = line_outcome_is_computed_outcome are reading none one-fault in
    parsing_passes_parsed_lines one [] read (text ∷ more) says
    ∙ ap (λ (r : ParsedLinesAndFault). let s : ParsedLinesAndFault = (read ++ r.0, r.1) in s) (parsing_stops_at_syntax_fault one read text more why-fault wrong)
    ∙ ap (λ ls. let r : ParsedLinesAndFault = (ls, Some why-fault) in r) (append-nil read)
