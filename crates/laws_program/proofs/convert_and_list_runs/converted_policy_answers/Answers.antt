use Rattle.std.proofs.Common.{◌≡◌, List, [], Result, Ok, Err, refl, sym, ap, subst, ◌∙◌}
use Rattle.sudoers_tree.specs.Line.{Line}
use Rattle.sudoers_tree.specs.declared.named_files.NamedFile.{NamedFile}
use Rattle.sudoers_tree.specs.declared.load_fault.LoadFault.{LoadFault}
use Rattle.sudoers_tree.specs.Load.{LoadedPolicy, policy_or_load_fault}
use Rattle.sudoers_files.specs.declared.fault.GatherFault.{GatherFault}
use Rattle.sudoers_files.specs.Gather.{gathered_files_or_fault}
use Rattle.sudoers_cvt_rules.specs.Rules.{rules_of_policy_lines, rule_nodes_in_print_order, printed_rules, is_printed_within_limits}
use Rattle.sudoers_run.specs.declared.command_words.ConvertWords.{ConvertWords}
use Rattle.sudoers_run.specs.Convert.{convert_output_of_loading}
use Rattle.sudoers_run.specs.Policy.{result_after_loading_gathered_files}
use Rattle.laws_load.specs.Alone.{policy_of_single_file}
use Rattle.laws_program.specs.Converted.{IsConvertedTextWithSameAnswers, IsTextLoadedAloneAsLines, convert_words_without_changes}
use Rattle.laws_program.specs.ReadAs.{IsPolicyOfPrintedRules}
use Rattle.laws_program.proofs.Sounds.{loaded_walk_lines_are_without_nul}
use Rattle.laws_program.proofs.OnlyFile.{policy_text_is_converted_as_its_lines, text_read_as_nodes_is_policy_text}
use Rattle.laws_program.proofs.Outputs.{text_or_too_large, ok_text_is_within_limits}
use Rattle.laws_program.proofs.convert_and_list_runs.converted_policy_answers.Goals as goal

pub returns : goal.returns
returns c prune root known out e = gather (gathered_files_or_fault known root) refl e
  where
    words : ConvertWords
    words = convert_words_without_changes prune

    load : (files : List NamedFile) → gathered_files_or_fault known root ≡ Ok files → (o : Result LoadedPolicy LoadFault) → policy_or_load_fault files ≡ o → convert_output_of_loading words o ≡ Ok out → IsConvertedTextWithSameAnswers prune root known out
    load files g (Err fault) was done = absurd cc
    load files g (Ok p) was done =
        let lines : List Line = p.walk.lines in
        let policy = loaded_walk_lines_are_without_nul c.loaded_is_walk.ensures c.loaded_lines_are_whole.ensures files p was in
        let found = ok_text_is_within_limits (is_printed_within_limits (rules_of_policy_lines lines)) (printed_rules (rules_of_policy_lines lines)) out done in
        let read = c.printed_rules_are_read.ensures lines policy found.0 in
        let again : LoadedPolicy = policy_of_single_file [] read.read in
        let is : IsPolicyOfPrintedRules (rules_of_policy_lines lines) again = record { size = found.0; name = []; loads = read.loads [] } in
        let size = c.second_printing_is_same.ensures.size lines again policy is in
        let text = c.second_printing_is_same.ensures.text lines again policy is in
        let is_policy = subst (λ out. IsTextLoadedAloneAsLines out read.read) (sym found.1)
        (text_read_as_nodes_is_policy_text c.text_loads.ensures.reads c.text_is_gathered.ensures (printed_rules (rules_of_policy_lines lines)) (rule_nodes_in_print_order (rules_of_policy_lines lines)) read) in
        record {
          policy = p;
          printed = read.read;
          was_loaded = record { files = files; gathers = g; loads = was };
          is_policy = is_policy;
          same = read.same;
          answers = c.printed_rules_answer.ensures.answer lines again policy is;
          back = c.printed_rules_answer.ensures.back lines again policy is;
          cycle = c.printed_rules_answer.ensures.cycle lines again policy is;
          default = c.printed_rules_answer.ensures.default lines again policy is;
          groups = c.printed_rules_answer.ensures.groups lines again policy is;
          again = policy_text_is_converted_as_its_lines words out read.read is_policy (ap (λ b. text_or_too_large b (printed_rules (rules_of_policy_lines read.read))) size ∙ ap Ok text ∙ ap Ok (sym found.1));
        }

    gather : (r : Result (List NamedFile) GatherFault) → gathered_files_or_fault known root ≡ r → result_after_loading_gathered_files (convert_output_of_loading words) r ≡ Ok out → IsConvertedTextWithSameAnswers prune root known out
    gather (Ok files) g done = load files g (policy_or_load_fault files) refl done
    gather (Err fault) g done = absurd cc
