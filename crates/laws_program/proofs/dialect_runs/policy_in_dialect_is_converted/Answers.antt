use Rattle.std.proofs.Common.{List, Ok, map}
use Rattle.sudoers_tree.specs.Line.{Line}
use Rattle.sudoers_tree.specs.declared.named_files.NamedFile.{NamedFile}
use Rattle.sudoers_dialect.specs.Output.{adapted_file}
use Rattle.sudoers_cvt_rules.specs.Rules.{Rules, rules_of_policy_lines, rule_nodes_in_print_order, printed_rules, is_printed_within_limits}
use Rattle.laws_program.specs.Converted.{convert_words_without_changes}
use Rattle.laws_program.proofs.Sounds.{loaded_walk_lines_are_without_nul}
use Rattle.laws_program.proofs.Outputs.{ok_text_is_within_limits}
use Rattle.laws_program.proofs.DialectRuns.{read_text_is_its_adapted_text, output_of_policy_is_output_of_its_lines}
use Rattle.laws_program.proofs.dialect_runs.policy_in_dialect_is_converted.Goals as goal

pub returns-clause-answers : goal.returns-clause-answers
returns-clause-answers c prune root known out e = c.converted_policy_answers.ensures prune root (map adapted_file known) out e

pub returns-clause-stays : goal.returns-clause-stays
returns-clause-stays c prune root known out e =
    let files : List NamedFile = map adapted_file known in
    let is = c.converted_policy_answers.ensures prune root files out e in
    let lines : List Line = is.policy.walk.lines in
    let rules : Rules = rules_of_policy_lines lines in
    let done = output_of_policy_is_output_of_its_lines (convert_words_without_changes prune) root files out is.policy is.was_loaded e in
    let found = ok_text_is_within_limits (is_printed_within_limits rules) (printed_rules rules) out done in
    let sound = loaded_walk_lines_are_without_nul c.loaded_is_walk.ensures c.loaded_lines_are_whole.ensures is.was_loaded.files is.policy is.was_loaded.loads in
    let read = c.printed_rules_are_read.ensures lines sound found.0 in
    read_text_is_its_adapted_text c.policy_is_adapted.ensures out (printed_rules rules) (rule_nodes_in_print_order rules) found.1 read
