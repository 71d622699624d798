-- The laws of lines of the crates below, on which edits rest.
use Rattle.sudoers_edit.proofs.Common.{AllByRecursion, AreLinesOfText, AreOrderedAliasDefinitions, AreOrderedNameOffsets, Def, IsDefinableName, IsLineSyntaxFault, IsLogicalLine, IsOutcomeOfCut, Kind, LineReadsAsNode}
use Rattle.sudoers_edit.proofs.Common.{List, NamedAlias, Node, Ok, [], alias_offsets_in_node, cut_outcome_of_text, ends_in_lf, false, has_inner_line_without_lf, join, length, line_text_after_rename}
use Rattle.sudoers_edit.proofs.Common.{node_with_alias_renamed, renamed_alias, renaming_of_alias_in_node, subst, ℕ, ◌≡◌}
use Rattle.sudoers_text.proofs.Ascending.{tokens_of_line_are_ordered}
use Rattle.sudoers_text.proofs.Closed.{closed_line_is_line_anywhere}
use Rattle.sudoers_text.proofs.Found.{computed_outcome_is_outcome_of_cut}
use Rattle.sudoers_text.proofs.Renamed.{renamed_line_has_moved_tokens}
use Rattle.sudoers_text.proofs.RenamedLine.{renaming_keeps_lf_end_of_line, renamed_line_is_logical_line}
use Rattle.sudoers_text.proofs.RenamedMode.{renaming_keeps_line_mode}
use Rattle.sudoers_text.proofs.TokenLists.{tokens_of_line_are_unique}
use Rattle.sudoers_text.proofs.Unique.{lines_of_text_are_unique}
use Rattle.sudoers_text.proofs.WholeAlone.{logical_lines_are_lines_of_their_join as lines_of_join_by_closed_line}
use Rattle.sudoers_grammar.specs.Node as node
use Rattle.sudoers_grammar.specs.declared.fault.Why.{Why}
use Rattle.sudoers_grammar.proofs.Ascending.{alias_definitions_of_line_are_ordered}
use Rattle.sudoers_grammar.proofs.Lines.{syntax_fault_of_line_is_unique as unique_fault_by_tokens, line_read_as_node_has_no_fault}
use Rattle.sudoers_grammar.proofs.NamesStand.{alias_name_offsets_are_ordered}
use Rattle.sudoers_grammar.proofs.RenamedBack.{renaming_back_gives_old_line}
use Rattle.sudoers_grammar.proofs.RenamedText.{ends_same, reads_line, stays_logical}
use Rattle.sudoers_line_reader.proofs.Contract.{node_of_line_is_unique}

-- ONE LOGICAL LINE

-- what is computed tells that a text is one
-- the one line of a text is one
-- one that is not too long is the one line of a text
-- several, all but the last ending in LF, are those of their join
pub logical_lines_are_lines_of_their_join : (lines : List (List ℕ)) → AllByRecursion IsLogicalLine lines → has_inner_line_without_lf lines ≡ false → AreLinesOfText (join lines) lines
logical_lines_are_lines_of_their_join = lines_of_join_by_closed_line closed_line_is_line_anywhere

pub lines_cut_from_join_are_joined_lines : (lines others : List (List ℕ)) → AllByRecursion IsLogicalLine lines → has_inner_line_without_lf lines ≡ false → cut_outcome_of_text (join lines) ≡ Ok others
    → others ≡ lines
lines_cut_from_join_are_joined_lines lines others all ended is =
    lines_of_text_are_unique (join lines) others lines (subst (IsOutcomeOfCut (join lines)) is (computed_outcome_is_outcome_of_cut (join lines))).cuts (logical_lines_are_lines_of_their_join lines all ended)

-- WHAT A LINE SAYS

pub reading_of_line_is_unique : (line : List ℕ) (says other : Node) → LineReadsAsNode line says → LineReadsAsNode line other → says ≡ other
reading_of_line_is_unique = node_of_line_is_unique tokens_of_line_are_unique

pub line_with_reading_has_no_syntax_fault : (line : List ℕ) (says : Node) (at : ℕ) (why : Why) → LineReadsAsNode line says → IsLineSyntaxFault line at why → ⊥
line_with_reading_has_no_syntax_fault = line_read_as_node_has_no_fault tokens_of_line_are_unique

pub syntax_fault_of_line_is_unique : (line : List ℕ) (at other : ℕ) (why because : Why) → IsLineSyntaxFault line at why → IsLineSyntaxFault line other because → (at ≡ other) × (why ≡ because)
syntax_fault_of_line_is_unique = unique_fault_by_tokens tokens_of_line_are_unique

pub definitions_of_alias_line_are_ordered : (line : List ℕ) (kind : Kind) (defs : List Def) → LineReadsAsNode line (node.Alias kind defs) → AreOrderedAliasDefinitions 0 (length line) defs
definitions_of_alias_line_are_ordered = alias_definitions_of_line_are_ordered tokens_of_line_are_ordered

-- A LINE WITH ANOTHER NAME

pub alias_offsets_of_line_are_ordered : (alias : NamedAlias) (line : List ℕ) (says : Node) → LineReadsAsNode line says
    → AreOrderedNameOffsets (length alias.name) 0 (length line) (alias_offsets_in_node alias says)
alias_offsets_of_line_are_ordered = alias_name_offsets_are_ordered tokens_of_line_are_ordered

pub renamed_line_reads_as_renamed_node : (alias : NamedAlias) (fresh line : List ℕ) (says : Node) → IsDefinableName alias.name → IsDefinableName fresh → LineReadsAsNode line says
    → LineReadsAsNode (line_text_after_rename alias fresh says line) (node_with_alias_renamed (renaming_of_alias_in_node alias fresh says) says)
renamed_line_reads_as_renamed_node = reads_line tokens_of_line_are_ordered renamed_line_has_moved_tokens renaming_keeps_line_mode renamed_line_is_logical_line renaming_keeps_lf_end_of_line

pub renamed_logical_line_is_logical : (alias : NamedAlias) (fresh line : List ℕ) (says : Node) → IsDefinableName alias.name → IsDefinableName fresh → LineReadsAsNode line says
    → IsLogicalLine line → IsLogicalLine (line_text_after_rename alias fresh says line)
renamed_logical_line_is_logical = stays_logical tokens_of_line_are_ordered renamed_line_has_moved_tokens renaming_keeps_line_mode renamed_line_is_logical_line renaming_keeps_lf_end_of_line

pub renamed_line_keeps_final_lf : (alias : NamedAlias) (fresh line : List ℕ) (says : Node) → IsDefinableName alias.name → IsDefinableName fresh → LineReadsAsNode line says
    → ends_in_lf line ≡ ends_in_lf (line_text_after_rename alias fresh says line)
renamed_line_keeps_final_lf = ends_same tokens_of_line_are_ordered renamed_line_has_moved_tokens renaming_keeps_line_mode renamed_line_is_logical_line renaming_keeps_lf_end_of_line

pub reverse_rename_restores_line : (alias : NamedAlias) (fresh line : List ℕ) (says : Node) → LineReadsAsNode line says → alias_offsets_in_node (renamed_alias alias fresh) says ≡ []
    → line_text_after_rename (renamed_alias alias fresh) alias.name (node_with_alias_renamed (renaming_of_alias_in_node alias fresh says) says) (line_text_after_rename alias fresh says line) ≡ line
reverse_rename_restores_line = renaming_back_gives_old_line tokens_of_line_are_ordered
