use Rattle.sudoers_cvt_rewrite.proofs.Common.{AreTablesAlikeButLists, IsTableExtension, Tables, commands_of_command_expanded_if, command_in_tables, commands_and_effective_runas_member_count, drop, flat_map, map, true, ◌++◌, ◌+◌, ◌≡◌}
use Rattle.sudoers_cvt_rewrite.proofs.commands.write_commands_with_aliases_expanded_if_wanted.Given as goal

abbrev pub invariant-loop-row : goal.invariant-loop-row
invariant-loop-row l =
    let base = l.source.lines.tables.now in
    let written = commands_of_command_expanded_if l.source.expand l.source.policy.now in
    let rest = map (command_in_tables base) (drop l.row-index l.rows) in
    let all = map (command_in_tables base) l.rows in
    record {
      extended : IsTableExtension l.fn.tables l.tables;
      like : AreTablesAlikeButLists base l.tables;
      appended : (u : Tables) → IsTableExtension l.tables u → map (command_in_tables u) l.out.items ++ flat_map written rest ≡ flat_map written all;
      counted : l.source.expand ≡ true → l.tally.count + commands_and_effective_runas_member_count l.tally.inherited (flat_map written rest)
          ≡ l.fn.tally.count + commands_and_effective_runas_member_count 0 (flat_map written all);
    }
