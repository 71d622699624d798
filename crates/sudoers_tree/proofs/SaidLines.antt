-- What each line of a policy says alone.
use Rattle.sudoers_tree.proofs.Common.{AllByRecursion, EachIsOneLineWhenCut, Err, IsCorrectlyParsed, IsOutcomeOfLine, Line, LineFault, LineReadsAsNode, List, Node, None, Ok, Result, Some, [], ap, ap₂}
use Rattle.sudoers_tree.proofs.Common.{cut_outcome_of_text, if◌then◌else◌, is_logical_line, outcome_of_line, reading_of_single_line, refl, result_ok, subst, texts_of_lines, true, ℕ, ◌∙◌, ◌∷◌, ◌≡◌}
use Rattle.sudoers_grammar.specs.declared.fault.LineFault.TheVariants.{Syntax, NoMemory}
use Rattle.sudoers_tree.proofs.OneOutcome.{LineHasUniqueNode, ParsedLineHasNoSyntaxFault}

-- what the laws of lines say
abbrev pub LineCutAsItselfIsLogical : Type 0
LineCutAsItselfIsLogical = (line : List ℕ) → cut_outcome_of_text line ≡ Ok (line ∷ []) → is_logical_line line ≡ true

abbrev pub EachLineHasComputedOutcome : Type 0
EachLineHasComputedOutcome = (line : List ℕ) → IsOutcomeOfLine line (outcome_of_line line)

-- the outcome of a line that parses
outcome_of_parsed_line_is_its_node : LineHasUniqueNode → ParsedLineHasNoSyntaxFault → (line : List ℕ) (n : Node) (r : Result Node LineFault) → LineReadsAsNode line n → IsOutcomeOfLine line r → r ≡ Ok n
outcome_of_parsed_line_is_its_node reading none line n (Ok m) reads is = ap (λ says. Ok says) (reading line m n is reads)
outcome_of_parsed_line_is_its_node reading none line n (Err (Syntax at why)) reads is = absurd (none line n at why reads is)
outcome_of_parsed_line_is_its_node reading none line n (Err NoMemory) reads is = absurd is

reading_of_logical_line_is_its_node : (text : List ℕ) (n : Node) → is_logical_line text ≡ true → outcome_of_line text ≡ Ok n → reading_of_single_line text ≡ Some n
unfolding reading_of_single_line
reading_of_logical_line_is_its_node text n line is = ap (λ t. if t then result_ok (outcome_of_line text) else None) line ∙ ap result_ok is

pub parsed_lines_are_read_as_single_lines : LineCutAsItselfIsLogical → EachLineHasComputedOutcome → LineHasUniqueNode → ParsedLineHasNoSyntaxFault → (lines : List Line) → EachIsOneLineWhenCut (texts_of_lines lines) → AllByRecursion IsCorrectlyParsed lines
    → AllByRecursion (λ (line : Line). reading_of_single_line line.text ≡ Some line.node) lines
parsed_lines_are_read_as_single_lines whole outcomes reading none [] alone says = tt
parsed_lines_are_read_as_single_lines whole outcomes reading none (line ∷ lines) alone says = (
  reading_of_logical_line_is_its_node line.text line.node (whole line.text alone.0)
      (outcome_of_parsed_line_is_its_node reading none line.text line.node (outcome_of_line line.text) says.0 (outcomes line.text)),
  parsed_lines_are_read_as_single_lines whole outcomes reading none lines alone.1 says.1,
)

-- Lines that have the same texts are the same, if each says what is kept of it.
pub parsed_lines_of_equal_texts_are_equal : LineHasUniqueNode → (lines others : List Line) → AllByRecursion IsCorrectlyParsed lines → AllByRecursion IsCorrectlyParsed others
    → texts_of_lines lines ≡ texts_of_lines others → lines ≡ others
parsed_lines_of_equal_texts_are_equal reading [] [] says say same = refl
parsed_lines_of_equal_texts_are_equal reading [] (other ∷ others) says say same = absurd cc
parsed_lines_of_equal_texts_are_equal reading (line ∷ lines) [] says say same = absurd cc
parsed_lines_of_equal_texts_are_equal reading (line ∷ lines) (other ∷ others) says say same =
    let both : line.text ∷ texts_of_lines lines ≡ other.text ∷ texts_of_lines others = same in
    let first : line.text ≡ other.text = cc in
    let rest : texts_of_lines lines ≡ texts_of_lines others = cc in
    let node : line.node ≡ other.node =
    reading other.text line.node other.node (subst (λ text. LineReadsAsNode text line.node) first says.0) say.0 in
    let whole : line ≡ other = ap₂ (λ text node. let l : Line = record { text = text; node = node } in l) first node in
    ap₂ (λ (l : Line) ls. l ∷ ls) whole (parsed_lines_of_equal_texts_are_equal reading lines others says.1 say.1 rest)
