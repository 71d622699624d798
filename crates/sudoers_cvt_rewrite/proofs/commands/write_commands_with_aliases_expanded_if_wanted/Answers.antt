use Rattle.sudoers_cvt_rewrite.proofs.Common.{CommandRow, CvtFault, Err, IfErr, IsTooManyMembersOrNoMemoryFault, List, ap, at_drop_all, at_drop_more, commands_of_command_expanded_if, command_in_tables, commands_and_effective_runas_member_count, drop, flat_map}
use Rattle.sudoers_cvt_rewrite.proofs.Common.{map, rules, subst, sym, ◌+◌, ◌∙◌, ◌≡◌}
use Rattle.sudoers_cvt_rewrite.proofs.Extending.{table_extension_is_transitive, table_likeness_is_transitive}
use Rattle.sudoers_match_list.proofs.Appended.{empty_rest_leaves_written_items, appended_items_take_next_values}
use Rattle.sudoers_cvt_rewrite.proofs.Steps.{refusal_depends_on_count_if_expanding}
use Rattle.sudoers_cvt_rewrite.proofs.commands.write_commands_with_aliases_expanded_if_wanted.Goals as goal

pub returns-in_err-append_commands_of_command_expanded_if_wanted-clause-fault : goal.returns-in_err-append_commands_of_command_expanded_if_wanted-clause-fault
returns-in_err-append_commands_of_command_expanded_if_wanted-clause-fault c =
    let fault : CvtFault = c.in_err-append_commands_of_command_expanded_if_wanted.field-0.0 in
    let same : c.from_residual.result ≡ Err fault = search rules in
    let e = c.args.source.now.expand in
    let base = c.args.source.now.lines.tables.now in
    let f = commands_of_command_expanded_if e c.args.source.now.policy.now in
    let rows = c.args.rows.now in
    let i = c.loop-row.row-index in
    let behind = λ (rs : List CommandRow). flat_map f (map (command_in_tables base) rs) in
    let tally = c.loop-row.tally in
    subst (λ r. IfErr r (IsTooManyMembersOrNoMemoryFault e (c.args.tally.now.count + commands_and_effective_runas_member_count 0 (behind rows)))) (sym same)
    (refusal_depends_on_count_if_expanding e _ _ fault (c.in_err-append_commands_of_command_expanded_if_wanted.ensures.fault (behind (drop (i + 1) rows)))
    (λ is. ap (λ cs. tally.count + commands_and_effective_runas_member_count tally.inherited cs) (sym (at_drop_more behind rows i _ c.loop-row-test.true)) ∙ c.loop-row.invariant.counted is))

pub loop-row-preserved : goal.loop-row-preserved
loop-row-preserved c =
    let base = c.args.source.now.lines.tables.now in
    let f = commands_of_command_expanded_if c.args.source.now.expand c.args.source.now.policy.now in
    let rows = c.args.rows.now in
    let i = c.loop-row.row-index in
    let behind = λ (rs : List CommandRow). flat_map f (map (command_in_tables base) rs) in
    let tally = c.loop-row.tally in
    let grown = c.in_ok-append_commands_of_command_expanded_if_wanted.ensures.extended in
    record {
      extended = table_extension_is_transitive _ _ _ c.loop-row.invariant.extended grown;
      like = table_likeness_is_transitive _ _ _ c.loop-row.invariant.like grown.like;
      appended = λ u ext. appended_items_take_next_values _ _ _ (behind (drop i rows)) (behind (drop (i + 1) rows)) _ (c.in_ok-append_commands_of_command_expanded_if_wanted.ensures.appended u ext)
          (at_drop_more behind rows i _ c.loop-row-test.true) (c.loop-row.invariant.appended u (table_extension_is_transitive _ _ _ grown ext));
      counted = λ is. c.in_ok-append_commands_of_command_expanded_if_wanted.ensures.counted is (behind (drop (i + 1) rows))
          ∙ ap (λ cs. tally.count + commands_and_effective_runas_member_count tally.inherited cs) (sym (at_drop_more behind rows i _ c.loop-row-test.true))
          ∙ c.loop-row.invariant.counted is;
    }

pub returns-clause-stays : goal.returns-clause-stays
returns-clause-stays c =
    let base = c.args.source.now.lines.tables.now in
    let f = commands_of_command_expanded_if c.args.source.now.expand c.args.source.now.policy.now in
    let rows = c.args.rows.now in
    let behind = λ (rs : List CommandRow). flat_map f (map (command_in_tables base) rs) in
    c.in_ok-append_command_rows.ensures.stays (behind rows) (λ u ext.
    ap (map (command_in_tables u)) c.as_slice.ensures.value
    ∙ empty_rest_leaves_written_items _ (behind (drop c.loop-row.row-index rows)) _ (at_drop_all behind rows c.loop-row.row-index c.loop-row-test.false) (c.loop-row.invariant.appended u ext))
