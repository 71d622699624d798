use Rattle.sudoers_cvt_rewrite.proofs.Common.{CommandRow, List, ap, commands_of_command_expanded_if, command_in_tables, commands_of_range_in_tables, flat_map, map, slice_range, ◌∙◌, ◌≡◌}
use Rattle.sudoers_cvt_rewrite.proofs.Extending.{table_extension_is_transitive}
use Rattle.sudoers_cvt_rewrite.proofs.user_spec_writing.write_host_group_with_aliases_expanded_if_wanted.Goals as goal

pub returns-clause-stays : goal.returns-clause-stays
returns-clause-stays c u e =
    let base = c.args.source.now.lines.tables.now in
    let f = commands_of_command_expanded_if c.args.source.now.expand c.args.source.now.policy.now in
    let r = c.args.commands in
    let hosts = c.in_ok-hosts.ensures.stays u (table_extension_is_transitive _ _ _ c.in_ok-commands.ensures.extended e) in
    let commands : commands_of_range_in_tables u c.in_ok-commands.commands ≡ flat_map f (commands_of_range_in_tables base r) =
    c.in_ok-commands.ensures.stays u e
    ∙ ap (λ (rows : List CommandRow). flat_map f (map (command_in_tables base) rows)) (c.rows_in-rows.ensures ∙ ap (λ (t : List CommandRow). slice_range t r.from r.to) c.as_slice.ensures.value) in
    λ i. record { hosts = hosts i; commands = commands i }
