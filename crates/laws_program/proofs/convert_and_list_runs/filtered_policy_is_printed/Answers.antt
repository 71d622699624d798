use Rattle.std.proofs.Common.{◌≡◌, true, false, List, Result, Ok, Err, refl, sym, ap, subst, ◌∙◌, nat_lt, ◌&&◌}
use Rattle.sudoers_tree.specs.Line.{Line}
use Rattle.sudoers_tree.specs.declared.named_files.NamedFile.{NamedFile}
use Rattle.sudoers_tree.specs.declared.load_fault.LoadFault.{LoadFault}
use Rattle.sudoers_tree.specs.Load.{LoadedPolicy, policy_or_load_fault}
use Rattle.sudoers_files.specs.declared.fault.GatherFault.{GatherFault}
use Rattle.sudoers_files.specs.Gather.{gathered_files_or_fault}
use Rattle.sudoers_check.specs.Chains.{HasCyclicAliasReachedFromSpecOrDefaults}
use Rattle.sudoers_cvt_rules.specs.Rules.{Rules, rule_nodes_in_print_order, printed_rules, is_printed_within_limits}
use Rattle.sudoers_cvt_rewrite.specs.declared.filter.Filter.{Filter}
use Rattle.sudoers_cvt_rewrite.specs.declared.filter_text.FilterFault.{FilterFault}
use Rattle.sudoers_cvt_rewrite.specs.FilterText.{filter_read_from_text}
use Rattle.sudoers_match_list.specs.Flattened.{expanded_member_limit}
use Rattle.sudoers_cvt_rewrite.specs.Rewrite.{PolicyChanges, has_reachable_alias_cycle, member_count_of_rules, rewritten_lines_of_policy, rules_with_used_definitions}
use Rattle.sudoers_cvt_rewrite.proofs.Uses.{round_is}
use Rattle.sudoers_run.specs.declared.fault.LayerFault.TheVariants as layer
use Rattle.sudoers_run.specs.declared.command_words.ConvertWords.{ConvertWords}
use Rattle.sudoers_run.specs.Convert.{convert_output_of_filter, convert_output_of_loading, some_filter_or_layer_fault}
use Rattle.sudoers_run.specs.Policy.{result_after_loading_gathered_files}
use Rattle.laws_program.specs.Converted.{IsFaithfulFilteredText, IsTextLoadedAloneAsLines, changes_of_filter_prune_and_expand, convert_words_with_filter}
use Rattle.laws_program.proofs.Sounds.{loaded_walk_lines_are_without_nul}
use Rattle.laws_program.proofs.OnlyFile.{text_read_as_nodes_is_policy_text}
use Rattle.laws_program.proofs.Outputs.{ok_text_has_no_cycle_and_fits}
use Rattle.laws_program.proofs.convert_and_list_runs.filtered_policy_is_printed.Goals as goal

pub returns : goal.returns
returns c text prune expand root known out e = gather (gathered_files_or_fault known root) refl e
  where
    words : ConvertWords
    words = convert_words_with_filter text prune expand

    by : (files : List NamedFile) → gathered_files_or_fault known root ≡ Ok files → (p : LoadedPolicy) → policy_or_load_fault files ≡ Ok p → convert_output_of_loading words (Ok p) ≡ Ok out
        → (found : Result Filter FilterFault) → filter_read_from_text text.now ≡ found → IsFaithfulFilteredText text.now prune expand root known out
    by files g p is done (Err fault) found_is =
        let no : Err (layer.Filter fault) ≡ Ok out = sym (ap (λ x. convert_output_of_filter words p.walk.lines (some_filter_or_layer_fault x)) found_is) ∙ done in
        absurd cc
    by files g p is done (Ok f) found_is =
        let lines : List Line = p.walk.lines in
        let policy = loaded_walk_lines_are_without_nul c.loaded_is_walk.ensures c.loaded_lines_are_whole.ensures files p is in
        let changes : PolicyChanges = changes_of_filter_prune_and_expand f prune expand in
        let rules : Rules = rules_with_used_definitions (rewritten_lines_of_policy changes lines) in
        let found =
        ok_text_has_no_cycle_and_fits (has_reachable_alias_cycle lines) (expand && nat_lt expanded_member_limit (member_count_of_rules (rewritten_lines_of_policy changes lines))) (is_printed_within_limits rules) (printed_rules rules) out
        (sym (ap (λ x. convert_output_of_filter words lines (some_filter_or_layer_fault x)) found_is) ∙ done) in
        let straight : HasCyclicAliasReachedFromSpecOrDefaults lines → ⊥ = λ r.
        let round = round_is lines (c.chains_are.ensures.unused lines) (c.chains_are.ensures.used lines) (c.chains_are.ensures.cyclic lines) (c.chains_are.ensures.straight lines) true (λ t. r, λ h. refl) in
        let clash : true ≡ false = round ∙ found.0 in absurd cc in
        let read = c.filtered_rules_are_read.ensures changes lines policy found.1 in
        record {
          policy = p;
          filter = f;
          printed = read.read;
          was_loaded = record { files = files; gathers = g; loads = is };
          is_filter = found_is;
          is_policy = subst (λ out. IsTextLoadedAloneAsLines out read.read) (sym found.2)
              (text_read_as_nodes_is_policy_text c.text_loads.ensures.reads c.text_is_gathered.ensures (printed_rules rules) (rule_nodes_in_print_order rules) read);
          was_straight = straight;
          same = read.same;
        }

    load : (files : List NamedFile) → gathered_files_or_fault known root ≡ Ok files → (o : Result LoadedPolicy LoadFault) → policy_or_load_fault files ≡ o → convert_output_of_loading words o ≡ Ok out
        → IsFaithfulFilteredText text.now prune expand root known out
    load files g (Err fault) is done = absurd cc
    load files g (Ok p) is done = by files g p is done (filter_read_from_text text.now) refl

    gather : (r : Result (List NamedFile) GatherFault) → gathered_files_or_fault known root ≡ r → result_after_loading_gathered_files (convert_output_of_loading words) r ≡ Ok out
        → IsFaithfulFilteredText text.now prune expand root known out
    gather (Ok files) g done = load files g (policy_or_load_fault files) refl done
    gather (Err fault) g done = absurd cc
