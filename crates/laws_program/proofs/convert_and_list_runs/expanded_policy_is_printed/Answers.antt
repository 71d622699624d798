use Rattle.std.proofs.Common.{◌≡◌, true, false, List, [], Result, Ok, Err, refl, sym, ap, subst, ◌∙◌, nat_lt}
use Rattle.sudoers_tree.specs.Line.{Line}
use Rattle.sudoers_tree.specs.declared.named_files.NamedFile.{NamedFile}
use Rattle.sudoers_tree.specs.declared.load_fault.LoadFault.{LoadFault}
use Rattle.sudoers_tree.specs.Load.{LoadedPolicy, policy_or_load_fault}
use Rattle.sudoers_files.specs.declared.fault.GatherFault.{GatherFault}
use Rattle.sudoers_files.specs.Gather.{gathered_files_or_fault}
use Rattle.sudoers_check.specs.Chains.{HasCyclicAliasReachedFromSpecOrDefaults}
use Rattle.sudoers_cvt_rules.specs.Rules.{Rules, rule_nodes_in_print_order, rules_of_policy_lines, printed_rules, is_printed_within_limits}
use Rattle.sudoers_match_list.specs.Flattened.{expanded_member_limit}
use Rattle.sudoers_cvt_rewrite.specs.Rewrite.{has_reachable_alias_cycle, member_count_of_rules, rules_with_used_definitions}
use Rattle.sudoers_cvt_rewrite.proofs.Uses.{round_is}
use Rattle.laws_program.specs.Expanded.{lines_with_aliases_replaced}
use Rattle.sudoers_run.specs.declared.command_words.ConvertWords.{ConvertWords}
use Rattle.sudoers_run.specs.Convert.{convert_output_of_loading}
use Rattle.sudoers_run.specs.Policy.{result_after_loading_gathered_files}
use Rattle.laws_load.specs.Alone.{policy_of_single_file}
use Rattle.laws_program.specs.Converted.{IsExpandedTextWithSameAnswers, IsTextLoadedAloneAsLines, convert_words_with_expand, convert_words_without_changes}
use Rattle.laws_program.specs.ReadAs.{IsPolicyOfPrintedRules}
use Rattle.laws_program.proofs.Sounds.{loaded_walk_lines_are_without_nul}
use Rattle.laws_program.proofs.OnlyFile.{policy_text_is_converted_as_its_lines, text_read_as_nodes_is_policy_text}
use Rattle.laws_program.proofs.Outputs.{text_or_too_large, ok_text_has_no_cycle_and_fits}
use Rattle.laws_program.proofs.convert_and_list_runs.expanded_policy_is_printed.Goals as goal

pub returns : goal.returns
returns c prune root known out e = gather (gathered_files_or_fault known root) refl e
  where
    words : ConvertWords
    words = convert_words_with_expand prune

    load : (files : List NamedFile) → gathered_files_or_fault known root ≡ Ok files → (o : Result LoadedPolicy LoadFault) → policy_or_load_fault files ≡ o → convert_output_of_loading words o ≡ Ok out → IsExpandedTextWithSameAnswers root known out
    load files g (Err fault) was done = absurd cc
    load files g (Ok p) was done =
        let lines : List Line = p.walk.lines in
        let policy = loaded_walk_lines_are_without_nul c.loaded_is_walk.ensures c.loaded_lines_are_whole.ensures files p was in
        let rules : Rules = rules_with_used_definitions (lines_with_aliases_replaced lines) in
        let found = ok_text_has_no_cycle_and_fits (has_reachable_alias_cycle lines) (nat_lt expanded_member_limit (member_count_of_rules (lines_with_aliases_replaced lines))) (is_printed_within_limits rules) (printed_rules rules) out done in
        let straight : HasCyclicAliasReachedFromSpecOrDefaults lines → ⊥ = λ r.
        let round = round_is lines (c.chains_are.ensures.unused lines) (c.chains_are.ensures.used lines) (c.chains_are.ensures.cyclic lines) (c.chains_are.ensures.straight lines) true (λ t. r, λ h. refl) in
        let clash : true ≡ false = round ∙ found.0 in absurd cc in
        let read = c.expanded_rules_are_read.ensures lines policy found.1 in
        let again : LoadedPolicy = policy_of_single_file [] read.read in
        let is : IsPolicyOfPrintedRules rules again = record { size = found.1; name = []; loads = read.loads [] } in
        let size = c.second_printing_of_expansion_is_same.ensures.size lines again policy is in
        let text = c.second_printing_of_expansion_is_same.ensures.text lines again policy is in
        let is_policy = subst (λ out. IsTextLoadedAloneAsLines out read.read) (sym found.2)
        (text_read_as_nodes_is_policy_text c.text_loads.ensures.reads c.text_is_gathered.ensures (printed_rules rules) (rule_nodes_in_print_order rules) read) in
        record {
          policy = p;
          printed = read.read;
          was_loaded = record { files = files; gathers = g; loads = was };
          is_policy = is_policy;
          same = read.same;
          there = c.printed_expansion_answers.ensures.there lines again policy straight is;
          back = c.printed_expansion_answers.ensures.back lines again policy straight is;
          was_straight = straight;
          is_straight = c.printed_expansion_answers.ensures.straight lines again policy straight is;
          default = c.printed_expansion_answers.ensures.default lines again policy straight is;
          groups = c.printed_expansion_answers.ensures.groups lines again policy straight is;
          again = λ prune. policy_text_is_converted_as_its_lines (convert_words_without_changes prune) out read.read is_policy (ap (λ b. text_or_too_large b (printed_rules (rules_of_policy_lines read.read))) size ∙ ap Ok text ∙ ap Ok (sym found.2));
        }

    gather : (r : Result (List NamedFile) GatherFault) → gathered_files_or_fault known root ≡ r → result_after_loading_gathered_files (convert_output_of_loading words) r ≡ Ok out → IsExpandedTextWithSameAnswers root known out
    gather (Ok files) g done = load files g (policy_or_load_fault files) refl done
    gather (Err fault) g done = absurd cc
