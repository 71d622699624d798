-- A printed text as a text that is read, and as the only file.
use Rattle.std.proofs.Common.{◌≡◌, ℕ, List, [], ◌∷◌, Ok, ap, ◌∙◌}
use Rattle.std.specs.List.{AllByRecursion}
use Rattle.sudoers_grammar.specs.Node.{Node}
use Rattle.sudoers_grammar.specs.Node as node
use Rattle.sudoers_tree.specs.Line.{Line}
use Rattle.sudoers_tree.specs.Load.{LoadedPolicy, policy_or_load_fault}
use Rattle.sudoers_tree.specs.Reading.{policy_lines_of_text}
use Rattle.sudoers_files.specs.Gather.{gathered_files_or_fault}
use Rattle.sudoers_cvt_rules.specs.Rules.{Rules, printed_rules}
use Rattle.laws_print.specs.Same.{AreItemsPairwiseRelated, NodeIsReadBackAs}
use Rattle.laws_load.specs.Alone.{IsLineWithoutInclude, IsNodeOtherThanInclude, single_file_named, policy_of_single_file}
use Rattle.laws_program.specs.Converted.{IsTextLoadedAloneAsLines}
use Rattle.laws_program.specs.ReadAs.{IsPolicyOfPrintedRules, IsTextReadAsNodes, nodes_of_lines}
use Rattle.sudoers_run.specs.declared.command_words.ConvertWords.{ConvertWords}
use Rattle.sudoers_run.specs.Convert.{convert_output_of_lines, convert_output, convert_output_of_loading}
use Rattle.sudoers_run.specs.Policy.{result_after_loading_gathered_files}

-- The text is read as lines that say the same as these.
pub record IsTextReadAsSameNodes (text : List ℕ) (nodes : List Node) : Type 0 where
  pub read : List Line
  pub is : policy_lines_of_text text ≡ Ok read
  pub same : AreItemsPairwiseRelated NodeIsReadBackAs nodes (nodes_of_lines read)

-- what the laws of a text as the only file say
abbrev pub ReadLinesLoadAsOnlyFile : Type 0
ReadLinesLoadAsOnlyFile = (name text : List ℕ) (lines : List Line) → policy_lines_of_text text ≡ Ok lines → AllByRecursion IsLineWithoutInclude lines
    → policy_or_load_fault (single_file_named name text) ≡ Ok (policy_of_single_file name lines)

abbrev pub OnlyFileLoadedIsReadAsLines : Type 0
OnlyFileLoadedIsReadAsLines = (name text : List ℕ) (policy : LoadedPolicy) → policy_or_load_fault (single_file_named name text) ≡ Ok policy → policy_lines_of_text text ≡ Ok policy.walk.lines

abbrev pub OnlyFileIsGatheredByItself : Type 0
OnlyFileIsGatheredByItself = (name text : List ℕ) (lines : List Line) → policy_lines_of_text text ≡ Ok lines → AllByRecursion IsLineWithoutInclude lines
    → gathered_files_or_fault (single_file_named name text) name ≡ Ok (single_file_named name text)

-- What says the same as something printed is no include.
node_same_as_printed_is_no_include : (n m : Node) → NodeIsReadBackAs n m → IsNodeOtherThanInclude m
node_same_as_printed_is_no_include (node.Defaults scope params) (node.Include dir path) same = absurd same
node_same_as_printed_is_no_include (node.Alias k defs) (node.Include dir path) same = absurd same
node_same_as_printed_is_no_include (node.Spec users groups) (node.Include dir path) same = absurd same
node_same_as_printed_is_no_include (node.Include is at) (node.Include dir path) same = absurd same
node_same_as_printed_is_no_include node.Blank (node.Include dir path) same = absurd same
node_same_as_printed_is_no_include node.Comment (node.Include dir path) same = absurd same
node_same_as_printed_is_no_include n node.Blank same = tt
node_same_as_printed_is_no_include n node.Comment same = tt
node_same_as_printed_is_no_include n (node.Defaults scope params) same = tt
node_same_as_printed_is_no_include n (node.Alias k defs) same = tt
node_same_as_printed_is_no_include n (node.Spec users groups) same = tt

lines_same_as_printed_have_no_include : (nodes : List Node) (lines : List Line) → AreItemsPairwiseRelated NodeIsReadBackAs nodes (nodes_of_lines lines) → AllByRecursion IsLineWithoutInclude lines
lines_same_as_printed_have_no_include [] [] same = tt
lines_same_as_printed_have_no_include [] (line ∷ lines) same = absurd same
lines_same_as_printed_have_no_include (n ∷ nodes) [] same = absurd same
lines_same_as_printed_have_no_include (n ∷ nodes) (line ∷ lines) same = (node_same_as_printed_is_no_include n line.node same.0, lines_same_as_printed_have_no_include nodes lines same.1)

-- A text that is read as what was printed is a policy as the only file, and the other way round.
pub text_of_nodes_loads_as_only_file : ReadLinesLoadAsOnlyFile → (text : List ℕ) (nodes : List Node) → IsTextReadAsSameNodes text nodes → IsTextReadAsNodes text nodes
text_of_nodes_loads_as_only_file loads text nodes is =
    record { read = is.read; loads = λ name. loads name text is.read is.is (lines_same_as_printed_have_no_include nodes is.read is.same); same = is.same }

pub only_file_text_is_read_as_nodes : OnlyFileLoadedIsReadAsLines → (text : List ℕ) (nodes : List Node) → IsTextReadAsNodes text nodes → IsTextReadAsSameNodes text nodes
only_file_text_is_read_as_nodes reads text nodes is = record { read = is.read; is = reads [] text (policy_of_single_file [] is.read) (is.loads []); same = is.same }

-- the text of rules that are printed so is read as the lines of the policy
pub printed_rules_are_read_as_policy_lines : OnlyFileLoadedIsReadAsLines → (rules : Rules) (policy : LoadedPolicy) (is : IsPolicyOfPrintedRules rules policy) → policy_lines_of_text (printed_rules rules) ≡ Ok policy.walk.lines
printed_rules_are_read_as_policy_lines reads rules policy is = reads is.name (printed_rules rules) policy is.loads

-- It is gathered alone.
pub text_read_as_nodes_is_policy_text : OnlyFileLoadedIsReadAsLines → OnlyFileIsGatheredByItself → (text : List ℕ) (nodes : List Node) (is : IsTextReadAsNodes text nodes) → IsTextLoadedAloneAsLines text is.read
text_read_as_nodes_is_policy_text reads gathers text nodes is name = record {
  files = single_file_named name text;
  gathers = gathers name text is.read (reads [] text (policy_of_single_file [] is.read) (is.loads [])) (lines_same_as_printed_have_no_include nodes is.read is.same);
  loads = is.loads name;
}

-- It is converted as its lines are.
pub policy_text_is_converted_as_its_lines : (words : ConvertWords) (out : List ℕ) (lines : List Line) → IsTextLoadedAloneAsLines out lines → convert_output_of_lines words lines ≡ Ok out
    → (name : List ℕ) → convert_output words name (single_file_named name out) ≡ Ok out
policy_text_is_converted_as_its_lines words out lines printed_rules is name =
    let policy = printed_rules name in
    ap (result_after_loading_gathered_files (convert_output_of_loading words)) policy.gathers ∙ ap (convert_output_of_loading words) policy.loads ∙ is
