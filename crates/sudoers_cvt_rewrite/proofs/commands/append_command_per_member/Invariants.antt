use Rattle.sudoers_cvt_rewrite.proofs.Common.{CmdSpec, List, Tables, command_in_tables, commands_for_each_member, commands_and_effective_runas_member_count, drop, map, true, ◌++◌, ◌+◌, ◌≡◌}
use Rattle.sudoers_cvt_rewrite.proofs.commands.append_command_per_member.Given as goal

abbrev pub invariant-loop-member : goal.invariant-loop-member
invariant-loop-member l =
    let rest = drop l.member-index l.members in
    record {
      appended : (u : Tables) → map (command_in_tables u) l.out.items ++ commands_for_each_member u l.row rest ≡ map (command_in_tables u) l.fn.out.items ++ commands_for_each_member u l.row l.members;
      counted : l.source.expand ≡ true → (more : List CmdSpec) → l.tally.count + commands_and_effective_runas_member_count l.tally.inherited (commands_for_each_member l.tables l.row rest ++ more)
          ≡ l.fn.tally.count + commands_and_effective_runas_member_count l.fn.tally.inherited (commands_for_each_member l.tables l.row l.members ++ more);
    }
