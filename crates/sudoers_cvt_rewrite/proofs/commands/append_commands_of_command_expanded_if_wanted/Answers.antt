use Rattle.sudoers_cvt_rewrite.proofs.Common.{CmdSpec, Cmnd, CommandRow, CvtFault, Err, IfErr, IsTooManyMembersOrNoMemoryFault, IsTableExtension, List, Tables, [], ap, arith, commands_of_command_expanded_if, command_in_tables}
use Rattle.sudoers_cvt_rewrite.proofs.Common.{commands_for_each_member, commands_and_effective_runas_member_count, length, list_expanded_if, map, on_ok_weaker, rules, runas_spec_expanded_if, subst, sym, ◌++◌, ◌+◌, ◌∙◌, ◌∷◌, ◌≡◌, ◌≤◌}
use Rattle.std.specs.Option.{option_map}
use Rattle.sudoers_cvt_rewrite.proofs.Counting.{commands_per_member_count_at_least_members, refusal_of_fewer_is_refusal_of_more, commands_per_member_count_at_least_runas, expanded_member_list_is_not_empty}
use Rattle.sudoers_cvt_rewrite.proofs.Extending.{table_extension_is_transitive, table_is_extension_of_itself, table_likeness_is_transitive}
use Rattle.sudoers_cvt_rewrite.proofs.Steps.{commands_per_member_are_expanded_command}
use Rattle.sudoers_cvt_rewrite.proofs.commands.append_commands_of_command_expanded_if_wanted.Goals as goal

pub returns-in_err-members-clause-fault : goal.returns-in_err-members-clause-fault
returns-in_err-members-clause-fault c =
    let fault : CvtFault = c.in_err-members.field-0.0 in
    let same : c.from_residual.result ≡ Err fault = search rules in
    let e = c.args.source.now.expand in
    let lines = c.args.source.now.policy.now in
    let base = c.args.source.now.lines.tables.now in
    let cmd = command_in_tables base c.args.row.now in
    let flat = list_expanded_if e Cmnd lines (cmd.member ∷ []) in
    let all = λ (rest : List CmdSpec). c.args.tally.now.count + commands_and_effective_runas_member_count c.args.tally.now.inherited (commands_of_command_expanded_if e lines cmd ++ rest) in
    subst (λ r. IfErr r (λ fault. (rest : List CmdSpec) → IsTooManyMembersOrNoMemoryFault e (all rest) fault)) (sym same)
    (λ rest.
    let more = commands_per_member_count_at_least_members (option_map (runas_spec_expanded_if e lines) cmd.runas) cmd rest c.args.tally.now.inherited flat in
    let less : length flat ≤ all rest = omega (arith, more) in
    refusal_of_fewer_is_refusal_of_more e (length flat) (all rest) fault c.in_err-members.ensures.fault less)

pub returns-in_err-runas-clause-fault : goal.returns-in_err-runas-clause-fault
returns-in_err-runas-clause-fault c =
    let fault : CvtFault = c.in_err-runas.field-0.0 in
    let same : c.from_residual-in_err-runas.result ≡ Err fault = search rules in
    let e = c.args.source.now.expand in
    let lines = c.args.source.now.policy.now in
    let base = c.args.source.now.lines.tables.now in
    let cmd = command_in_tables base c.args.row.now in
    let flat = list_expanded_if e Cmnd lines (cmd.member ∷ []) in
    let runas = option_map (runas_spec_expanded_if e lines) cmd.runas in
    let all = λ (rest : List CmdSpec). c.args.tally.now.count + commands_and_effective_runas_member_count c.args.tally.now.inherited (commands_of_command_expanded_if e lines cmd ++ rest) in
    subst (λ r. IfErr r (λ fault. (rest : List CmdSpec) → IsTooManyMembersOrNoMemoryFault e (all rest) fault)) (sym same)
    (λ rest.
    let more = commands_per_member_count_at_least_runas runas cmd rest c.args.tally.now.inherited flat (expanded_member_list_is_not_empty e Cmnd lines cmd.member c.is_acyclic.ensures.walk) in
    refusal_of_fewer_is_refusal_of_more e _ (all rest) fault c.in_err-runas.ensures.fault (omega (arith, more)))

pub returns-clause-appended : goal.returns-clause-appended
returns-clause-appended c =
    let source = c.args.source.now in
    let base = source.lines.tables.now in
    let row = c.args.row.now in
    let made : CommandRow = record { runas = c.in_ok-runas.runas; options = row.options; tags = row.tags; member = row.member } in
    let old = c.args.out.now.items in
    on_ok_weaker c.append_command_per_member.result
    (λ h (u : Tables) (ext : IsTableExtension c.write_optional_runas.new.tables u).
    h u ∙ ap (λ ms. map (command_in_tables u) old ++ commands_for_each_member u made ms) c.as_slice.ensures.value
    ∙ ap (λ cs. map (command_in_tables u) old ++ cs)
    (commands_per_member_are_expanded_command base u (table_likeness_is_transitive base c.args.tables.now u c.requires (table_extension_is_transitive _ _ _ c.in_ok-runas.ensures.extended ext).like) source.expand source.policy.now row c.in_ok-runas.runas c.in_ok-members.members.items
    (c.in_ok-runas.ensures.stays u ext) c.in_ok-members.ensures.rows))
    c.append_command_per_member.ensures.appended

pub returns-clause-counted : goal.returns-clause-counted
returns-clause-counted c =
    let source = c.args.source.now in
    let base = source.lines.tables.now in
    let row = c.args.row.now in
    let u = c.write_optional_runas.new.tables in
    let made : CommandRow = record { runas = c.in_ok-runas.runas; options = row.options; tags = row.tags; member = row.member } in
    let is : commands_for_each_member u made c.as_slice.result.now ≡ commands_of_command_expanded_if source.expand source.policy.now (command_in_tables base row) =
    ap (commands_for_each_member u made) c.as_slice.ensures.value
    ∙ commands_per_member_are_expanded_command base u (table_likeness_is_transitive base c.args.tables.now u c.requires c.in_ok-runas.ensures.extended.like) source.expand source.policy.now row c.in_ok-runas.runas c.in_ok-members.members.items
    (c.in_ok-runas.ensures.stays u (table_is_extension_of_itself u)) c.in_ok-members.ensures.rows in
    on_ok_weaker c.append_command_per_member.result
    (λ h wanted (rest : List CmdSpec). h wanted rest ∙ ap (λ cs. c.args.tally.now.count + commands_and_effective_runas_member_count c.args.tally.now.inherited (cs ++ rest)) is)
    c.append_command_per_member.ensures.counted

pub returns-clause-fault : goal.returns-clause-fault
returns-clause-fault c =
    let source = c.args.source.now in
    let base = source.lines.tables.now in
    let row = c.args.row.now in
    let u = c.write_optional_runas.new.tables in
    let made : CommandRow = record { runas = c.in_ok-runas.runas; options = row.options; tags = row.tags; member = row.member } in
    let is : commands_for_each_member u made c.as_slice.result.now ≡ commands_of_command_expanded_if source.expand source.policy.now (command_in_tables base row) =
    ap (commands_for_each_member u made) c.as_slice.ensures.value
    ∙ commands_per_member_are_expanded_command base u (table_likeness_is_transitive base c.args.tables.now u c.requires c.in_ok-runas.ensures.extended.like) source.expand source.policy.now row c.in_ok-runas.runas c.in_ok-members.members.items
    (c.in_ok-runas.ensures.stays u (table_is_extension_of_itself u)) c.in_ok-members.ensures.rows in
    let Refused : List CmdSpec → CvtFault → Type 0 = λ cs fault. (rest : List CmdSpec) → IsTooManyMembersOrNoMemoryFault source.expand (c.args.tally.now.count + commands_and_effective_runas_member_count c.args.tally.now.inherited (cs ++ rest)) fault in
    subst (λ cs. IfErr c.append_command_per_member.result (Refused cs)) is c.append_command_per_member.ensures.fault
