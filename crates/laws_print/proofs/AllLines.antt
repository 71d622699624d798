-- Each line that can be written is read as it is printed, and is one logical line.
use Rattle.laws_print.proofs.Common.{[], ◌∷◌, Node, printed_line, IsWritableNode, LineReadsBackAs}
use Rattle.sudoers_grammar.specs.Node as node
use Rattle.laws_print.proofs.AliasLines.{CutTokensAreTokensOfLine}
use Rattle.laws_print.proofs.AliasLists.{printed_alias_line_reads_back, printed_alias_line_is_logical_line}
use Rattle.laws_print.proofs.SpecLines.{printed_spec_line_reads_back, printed_spec_line_is_logical_line}
use Rattle.laws_print.proofs.DefaultsLines.{TokensCutFromStartAreOfLine, printed_defaults_line_reads_back, printed_defaults_line_is_logical_line}
use Rattle.laws_print.proofs.Whole.{IsLogicalLineWithoutNul}

pub printed_line_of_any_node_reads_back : CutTokensAreTokensOfLine → TokensCutFromStartAreOfLine → (n : Node) → IsWritableNode n → LineReadsBackAs (printed_line n) n
printed_line_of_any_node_reads_back law from (node.Defaults scope params) is = printed_defaults_line_reads_back from scope params is.0 is.1
printed_line_of_any_node_reads_back law from (node.Alias k (d ∷ [])) is = printed_alias_line_reads_back law k d is
printed_line_of_any_node_reads_back law from (node.Spec users groups) is = printed_spec_line_reads_back law users groups is.0 is.1
printed_line_of_any_node_reads_back law from n is = absurd is

pub printed_writable_node_is_logical_line : (n : Node) → IsWritableNode n → IsLogicalLineWithoutNul (printed_line n)
printed_writable_node_is_logical_line (node.Defaults scope params) is = printed_defaults_line_is_logical_line scope params is.0 is.1
printed_writable_node_is_logical_line (node.Alias k (d ∷ [])) is = printed_alias_line_is_logical_line k d is
printed_writable_node_is_logical_line (node.Spec users groups) is = printed_spec_line_is_logical_line users groups is.0 is.1
printed_writable_node_is_logical_line n is = absurd is
