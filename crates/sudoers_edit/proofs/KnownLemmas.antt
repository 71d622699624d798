-- What the lines of a loaded file say.
use Rattle.sudoers_edit.proofs.Common.{AllByRecursion, AreSoundParsedLines, EachIsOneLineWhenCut, IsCorrectlyParsed, SplitsIntoItselfAsOnlyLine, Line, LineReadsAsNode, EachLineHasComputedOutcome, List, LineCutAsItselfIsLogical, parsed_lines_are_read_as_single_lines, length, line_limit}
use Rattle.sudoers_edit.proofs.Common.{subst, texts_of_lines, ℕ, ◌<◌, ◌≤◌}
use Rattle.sudoers_tree.proofs.OneOutcome.{LineHasUniqueNode, ParsedLineHasNoSyntaxFault}
use Rattle.sudoers_edit.proofs.WayBackLemmas.{numbered_line_of_cut_lines_is_single}
use Rattle.sudoers_edit.proofs.WithinLemmas.{DefinitionsOfLineAreOrdered, line_with_definitions_is_alias_line, numbered_line_is_correctly_parsed}

pub parsed_lines_cut_alone_are_sound : LineCutAsItselfIsLogical → EachLineHasComputedOutcome → LineHasUniqueNode → ParsedLineHasNoSyntaxFault → DefinitionsOfLineAreOrdered → ((line : List ℕ) → SplitsIntoItselfAsOnlyLine line → (0 < length line) × (length line ≤ line_limit))
    → (lines : List Line) → EachIsOneLineWhenCut (texts_of_lines lines) → AllByRecursion IsCorrectlyParsed lines → AreSoundParsedLines lines
parsed_lines_cut_alone_are_sound whole outcomes reading faultless ascend size lines alone says = record {
  says = parsed_lines_are_read_as_single_lines whole outcomes reading faultless lines alone says;
  ascend = λ n line defs here makes.
      let alias = line_with_definitions_is_alias_line line.node defs makes in
      ascend line.text alias.0 defs (subst (LineReadsAsNode line.text) alias.1 (numbered_line_is_correctly_parsed lines n line says here));
  short = λ n line here. (size line.text (numbered_line_of_cut_lines_is_single lines n line alone here)).1;
}
