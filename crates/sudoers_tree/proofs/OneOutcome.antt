-- A text has one outcome.
use Rattle.sudoers_tree.proofs.Common.{AllByRecursion, Duplicate, Err, IsCorrectlyParsed, IsCutOutcome, IsFaultOfLineAfter, IsFirstLineFault, IsLineOutcome, IsLineSyntaxFault, IsNameFaultInLine, AreLinesOfSingleTextPolicy}
use Rattle.sudoers_tree.proofs.Common.{IsPolicyOrFirstFaultOfText, Line, LineFault, LineReadsAsNode, List, Node, None, NotLoaded, Ok, ReadFault, Reserved, Result, Syntax, Text, TextFault, TooDeep, TooMany, Twice, Why, [], ap}
use Rattle.sudoers_tree.proofs.Common.{append-nil, append_assoc, ap₂, cut_outcome_of_text, definitions_in_line, definitions_of_lines, first_definition_fault, join, length, line_from_parse_outcome}
use Rattle.sudoers_tree.proofs.Common.{line_or_fault_after, line_result_and_then, lines_read_after, outcome_of_line, policy_lines_of_cut, policy_lines_of_text, sym, texts_of_lines, value_unless_fault, ℕ, ◌++◌, ◌∙◌}
use Rattle.sudoers_tree.proofs.Common.{◌∷◌, ◌≡◌}
use Rattle.sudoers_grammar.specs.declared.fault.LineFault.TheVariants as line_fault
use Rattle.sudoers_tree.specs.declared.fault.ReadFault.TheVariants.{NoMemory}
use Rattle.sudoers_tree.proofs.Joined.{definitions_with_last_line_are_appended}
use Rattle.sudoers_tree.proofs.Sound.{faultless_append_has_faultless_parts, faultless_lines_have_faultless_front, sound_definitions_have_no_fault, faulty_definition_gives_first_fault, valid_definitions_are_sound}
use Rattle.sudoers_tree.proofs.Outcomes.{ComputedCutsAreCutOutcomes, ComputedLineOutcomesAreLineOutcomes}

-- a text has one cut, or one fault
abbrev pub TextHasUniqueCutOutcome : Type 0
TextHasUniqueCutOutcome = (text : List ℕ) (outcome other : Result (List (List ℕ)) TextFault) → IsCutOutcome text outcome → IsCutOutcome text other → outcome ≡ other

-- a line has at most one reading
abbrev pub LineHasUniqueNode : Type 0
LineHasUniqueNode = (line : List ℕ) (node other : Node) → LineReadsAsNode line node → LineReadsAsNode line other → node ≡ other

-- a line that parses has no fault
abbrev pub ParsedLineHasNoSyntaxFault : Type 0
ParsedLineHasNoSyntaxFault = (line : List ℕ) (node : Node) (at : ℕ) (why : Why) → LineReadsAsNode line node → IsLineSyntaxFault line at why → ⊥

-- a line has one first fault at most
abbrev pub LineHasUniqueSyntaxFault : Type 0
LineHasUniqueSyntaxFault = (line : List ℕ) (at other : ℕ) (why cause : Why) → IsLineSyntaxFault line at why → IsLineSyntaxFault line other cause → (at ≡ other) × (why ≡ cause)

-- a line has one outcome
abbrev pub LineOutcomeIsComputedOutcome : Type 0
LineOutcomeIsComputedOutcome = (line : List ℕ) (r : Result Node LineFault) → IsLineOutcome line r → outcome_of_line line ≡ r

pub line_outcome_is_computed_outcome : ComputedLineOutcomesAreLineOutcomes → LineHasUniqueNode → ParsedLineHasNoSyntaxFault → LineHasUniqueSyntaxFault → LineOutcomeIsComputedOutcome
line_outcome_is_computed_outcome lines reading none fault line r is = by (outcome_of_line line) (lines line) r is
  where
    by : (o : Result Node LineFault) → IsLineOutcome line o → (r : Result Node LineFault) → IsLineOutcome line r → o ≡ r
    by (Ok n) x (Ok m) y = ap (λ says. Ok says) (reading line n m x y)
    by (Ok n) x (Err (line_fault.Syntax at why)) y = absurd (none line n at why x y)
    by (Err (line_fault.Syntax at why)) x (Ok m) y = absurd (none line m at why y x)
    by (Err (line_fault.Syntax at why)) x (Err (line_fault.Syntax other cause)) y =
        let same = fault line at other why cause x y in
        ap₂ (λ a w. Err (line_fault.Syntax a w)) same.0 same.1
    by (Err line_fault.NoMemory) x r y = absurd x
    by o x (Err line_fault.NoMemory) y = absurd y

-- ---- a line after others

-- a line that parses and whose definitions can stand
valid_line_is_read_after_others : LineOutcomeIsComputedOutcome → (before : List Line) (line : Line) → IsCorrectlyParsed line → first_definition_fault [] (definitions_of_lines (before ++ line ∷ [])) ≡ None
    → line_or_fault_after before line.text ≡ Ok line
unfolding line_or_fault_after
valid_line_is_read_after_others one before line says none =
    ap (line_from_parse_outcome before line.text) (one line.text (Ok line.node) says)
    ∙ ap (value_unless_fault line)
    (faultless_append_has_faultless_parts (definitions_of_lines before) (definitions_in_line (length before) line.node) (ap (first_definition_fault []) (sym (definitions_with_last_line_are_appended before line)) ∙ none)).1

line_with_name_fault_is_refused : LineOutcomeIsComputedOutcome → (before : List Line) (text : List ℕ) (fault : ReadFault) → IsNameFaultInLine before text fault
    → line_or_fault_after before text ≡ Err fault
unfolding line_or_fault_after
line_with_name_fault_is_refused one before text fault is =
    let made : Line = record { text = text; node = is.says } in
    ap (line_from_parse_outcome before text) (one text (Ok is.says) is.reads)
    ∙ ap (λ ds. value_unless_fault made (first_definition_fault (definitions_of_lines before) ds)) is.split
    ∙ ap (value_unless_fault made)
    (faulty_definition_gives_first_fault (definitions_of_lines before) is.good is.bad is.more fault
    (faultless_append_has_faultless_parts (definitions_of_lines before) is.good (sound_definitions_have_no_fault (definitions_of_lines before ++ is.good) is.sound)).1 is.fault_is)

line_with_fault_is_refused : LineOutcomeIsComputedOutcome → (before : List Line) (text : List ℕ) (fault : ReadFault) → IsFaultOfLineAfter before text fault → line_or_fault_after before text ≡ Err fault
unfolding line_or_fault_after
line_with_fault_is_refused one before text (Syntax row col why) is =
    ap (line_from_parse_outcome before text) (one text (Err (line_fault.Syntax is.at why)) is.first)
    ∙ ap₂ (λ r c. Err (Syntax r c why)) (sym is.row_is) (sym is.col_is)
line_with_fault_is_refused one before text (Reserved k name) is = line_with_name_fault_is_refused one before text (Reserved k name) is
line_with_fault_is_refused one before text (Duplicate k name) is = line_with_name_fault_is_refused one before text (Duplicate k name) is
line_with_fault_is_refused one before text (TooMany k) is = line_with_name_fault_is_refused one before text (TooMany k) is
line_with_fault_is_refused one before text (NotLoaded row name) is = absurd is
line_with_fault_is_refused one before text (Twice row name) is = absurd is
line_with_fault_is_refused one before text (TooDeep row) is = absurd is
line_with_fault_is_refused one before text (Text fault) is = absurd is
line_with_fault_is_refused one before text NoMemory is = absurd is

-- ---- the lines of a text

-- Reading lines that parse and whose definitions have no fault returns these lines.
reading_passes_valid_lines : LineOutcomeIsComputedOutcome → (before lines : List Line) (more : List (List ℕ)) → AllByRecursion IsCorrectlyParsed lines
    → first_definition_fault [] (definitions_of_lines (before ++ lines)) ≡ None → lines_read_after before (texts_of_lines lines ++ more) ≡ lines_read_after (before ++ lines) more
reading_passes_valid_lines one before [] more says none = ap (λ ls. lines_read_after ls more) (sym (append-nil before))
reading_passes_valid_lines one before (line ∷ lines) more says none =
    let moved = append_assoc before (line ∷ []) lines in
    let all = ap (λ ls. first_definition_fault [] (definitions_of_lines ls)) moved ∙ none in
    ap (λ r. line_result_and_then r (λ l. lines_read_after (before ++ l ∷ []) (texts_of_lines lines ++ more)))
    (valid_line_is_read_after_others one before line says.0 (faultless_lines_have_faultless_front (before ++ line ∷ []) lines all))
    ∙ reading_passes_valid_lines one (before ++ line ∷ []) lines more says.1 all
    ∙ ap (λ ls. lines_read_after ls more) moved

policy_lines_are_those_of_cut : ComputedCutsAreCutOutcomes → TextHasUniqueCutOutcome → (text : List ℕ) (r : Result (List (List ℕ)) TextFault) → IsCutOutcome text r → policy_lines_of_text text ≡ policy_lines_of_cut r
unfolding policy_lines_of_text
policy_lines_are_those_of_cut cuts one text r is = ap policy_lines_of_cut (one text (cut_outcome_of_text text) r (cuts text) is)

policy_text_is_read_as_its_lines : ComputedCutsAreCutOutcomes → TextHasUniqueCutOutcome → LineOutcomeIsComputedOutcome → (lines : List Line) → AreLinesOfSingleTextPolicy lines → policy_lines_of_text (join (texts_of_lines lines)) ≡ Ok lines
policy_text_is_read_as_its_lines cuts one_cut one lines is =
    policy_lines_are_those_of_cut cuts one_cut (join (texts_of_lines lines)) (Ok (texts_of_lines lines)) is.cut
    ∙ ap (lines_read_after []) (sym (append-nil (texts_of_lines lines)))
    ∙ reading_passes_valid_lines one [] lines [] is.walk.says
    (sound_definitions_have_no_fault (definitions_of_lines lines) (valid_definitions_are_sound (definitions_of_lines lines) is.walk.free is.walk.once is.walk.few))

text_with_line_fault_reads_as_fault : ComputedCutsAreCutOutcomes → TextHasUniqueCutOutcome → LineOutcomeIsComputedOutcome → (text : List ℕ) (fault : ReadFault) → IsFirstLineFault text fault → policy_lines_of_text text ≡ Err fault
text_with_line_fault_reads_as_fault cuts one_cut one text fault is =
    policy_lines_are_those_of_cut cuts one_cut text (Ok (texts_of_lines is.before ++ is.line ∷ is.after)) is.cut
    ∙ reading_passes_valid_lines one [] is.before (is.line ∷ is.after) is.says (sound_definitions_have_no_fault (definitions_of_lines is.before) is.sound)
    ∙ ap (λ r. line_result_and_then r (λ l. lines_read_after (is.before ++ l ∷ []) is.after)) (line_with_fault_is_refused one is.before is.line fault is.wrong)

-- Each outcome is the computed one.
read_outcome_is_computed_outcome : ComputedCutsAreCutOutcomes → TextHasUniqueCutOutcome → LineOutcomeIsComputedOutcome → (text : List ℕ) (outcome : Result (List Line) ReadFault) → IsPolicyOrFirstFaultOfText text outcome → policy_lines_of_text text ≡ outcome
read_outcome_is_computed_outcome cuts one_cut one text (Ok lines) is = ap policy_lines_of_text (sym is.1) ∙ policy_text_is_read_as_its_lines cuts one_cut one lines is.0
read_outcome_is_computed_outcome cuts one_cut one text (Err (Text fault)) is = policy_lines_are_those_of_cut cuts one_cut text (Err fault) is
read_outcome_is_computed_outcome cuts one_cut one text (Err (Syntax row col why)) is = text_with_line_fault_reads_as_fault cuts one_cut one text (Syntax row col why) is
read_outcome_is_computed_outcome cuts one_cut one text (Err (Reserved k name)) is = text_with_line_fault_reads_as_fault cuts one_cut one text (Reserved k name) is
read_outcome_is_computed_outcome cuts one_cut one text (Err (Duplicate k name)) is = text_with_line_fault_reads_as_fault cuts one_cut one text (Duplicate k name) is
read_outcome_is_computed_outcome cuts one_cut one text (Err (TooMany k)) is = text_with_line_fault_reads_as_fault cuts one_cut one text (TooMany k) is
read_outcome_is_computed_outcome cuts one_cut one text (Err (NotLoaded row name)) is = absurd is
read_outcome_is_computed_outcome cuts one_cut one text (Err (Twice row name)) is = absurd is
read_outcome_is_computed_outcome cuts one_cut one text (Err (TooDeep row)) is = absurd is
read_outcome_is_computed_outcome cuts one_cut one text (Err NoMemory) is = absurd is

pub read_outcome_of_text_is_unique : ComputedCutsAreCutOutcomes → TextHasUniqueCutOutcome → ComputedLineOutcomesAreLineOutcomes → LineHasUniqueNode → ParsedLineHasNoSyntaxFault → LineHasUniqueSyntaxFault
    → (text : List ℕ) (outcome other : Result (List Line) ReadFault) → IsPolicyOrFirstFaultOfText text outcome → IsPolicyOrFirstFaultOfText text other → outcome ≡ other
read_outcome_of_text_is_unique cuts one_cut lines reading none fault text outcome other x y =
    let one = line_outcome_is_computed_outcome lines reading none fault in
    sym (read_outcome_is_computed_outcome cuts one_cut one text outcome x) ∙ read_outcome_is_computed_outcome cuts one_cut one text other y
