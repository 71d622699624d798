use Rattle.sudoers_match.proofs.Common.{CmdSpec, Cmnd, CommandLeadsToNoCycle, Has_at, LeadsToNoCyclicAlias, RunasSpecLeadsToNoCycle, [], ap, command_in_tables, command_of_view, command_test_of_context}
use Rattle.sudoers_match.proofs.Common.{commands_of_view, map, member_in_tables, settings_after_command, subst, sym, ◌∙◌, ◌∷◌}
use Rattle.sudoers_match.specs.internal.Misses.{IsValidMissSearch}
use Rattle.sudoers_match.proofs.Gathered.{mapped_row_is_at_its_index}
use Rattle.sudoers_match.proofs.Rowed.{inherit_straight}
use Rattle.sudoers_match.proofs.near_misses.MissSearch.append_misses_of_group.Goals as goal
use Rattle.sudoers_match.proofs.near_misses.MissSearch.append_misses_of_group.Goals.{in-Some+in_ok-push, in_default}

pub find_missed_part-requires-clause-runas : goal.find_missed_part-requires-clause-runas
find_missed_part-requires-clause-runas c =
    let lines = c.args.asked.now.policy.now in
    let g = c.args.group.now in
    let k = c.loop-row.row-index in
    let cmd : CmdSpec = command_of_view c.command_of_row-written.result in
    let s = c.loop-row.invariant.1 in
    let at = mapped_row_is_at_its_index (command_in_tables g.commands.tables.now) g.commands.rows.now k _ c.loop-row-test.true cmd c.command_of_row-written.ensures in
    let straight : CommandLeadsToNoCycle lines cmd = c.requires.straight.commands cmd (Has_at (commands_of_view g.commands) k cmd at) in
    subst (RunasSpecLeadsToNoCycle lines) (sym (c.apply_settings_of_command.ensures s.0 s.1).runas)
    (inherit_straight lines (command_test_of_context c.args.asked.now) c.args.asked.now.request.now s.0 cmd s.2 straight.runas)

pub find_missed_part-requires-clause-member : goal.find_missed_part-requires-clause-member
find_missed_part-requires-clause-member c =
    let lines = c.args.asked.now.policy.now in
    let g = c.args.group.now in
    let t = g.commands.tables.now in
    let k = c.loop-row.row-index in
    let cmd : CmdSpec = command_of_view c.command_of_row-written.result in
    let at = mapped_row_is_at_its_index (command_in_tables t) g.commands.rows.now k _ c.loop-row-test.true cmd c.command_of_row-written.ensures in
    let straight : CommandLeadsToNoCycle lines cmd = c.requires.straight.commands cmd (Has_at (commands_of_view g.commands) k cmd at) in
    subst (LeadsToNoCyclicAlias Cmnd lines) (sym (ap (map (member_in_tables t)) c.from_ref.ensures.value ∙ ap (λ (x : CmdSpec). x.member ∷ []) (sym c.command_of_row-written.ensures))) straight.member

pub loop-row-preserved : goal.loop-row-preserved
loop-row-preserved c =
    let asked = c.args.asked.now in
    let lines = asked.policy.now in
    let g = c.args.group.now in
    let k = c.loop-row.row-index in
    let cmd : CmdSpec = command_of_view c.command_of_row-written.result in
    let s = c.loop-row.invariant.1 in
    let at = mapped_row_is_at_its_index (command_in_tables g.commands.tables.now) g.commands.rows.now k _ c.loop-row-test.true cmd c.command_of_row-written.ensures in
    let straight : CommandLeadsToNoCycle lines cmd = c.requires.straight.commands cmd (Has_at (commands_of_view g.commands) k cmd at) in (
      elim c.match-branch-3.branch [
        | in-Some+in_ok-push w ↦ subst (IsValidMissSearch asked) (sym w.self-is) (record { question = c.in_ok-part.ensures.question; paths = c.in_ok-part.ensures.paths })
        | in_default w ↦ subst (IsValidMissSearch asked) (sym w.self-is) c.in_ok-part.ensures
      ],
      (settings_after_command s.0 cmd, c.apply_settings_of_command.ensures s.0 s.1, inherit_straight lines (command_test_of_context asked) asked.request.now s.0 cmd s.2 straight.runas),
    )
