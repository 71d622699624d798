use Rattle.std.proofs.lemmas.List.{length-map}
use Rattle.std.proofs.Common.{◌≡◌, ◌∙◌, ◌∷◌, [], true, map, sym, ap, subst, arith}
use Rattle.sudoers_grammar.specs.Node.{CmdSpec}
use Rattle.sudoers_line_rows.specs.Tables.{command_in_tables, member_in_tables}
use Rattle.sudoers_line_rows.specs.View.{command_of_view, members_of_view}
use Rattle.sudoers_match.specs.Heads.{settings_after_command}
use Rattle.sudoers_match.specs.Moment.{is_in_option_time_bounds}
use Rattle.sudoers_match.specs.Rows.{AreRowsPerFlatAtomOfCommand}
use Rattle.sudoers_match.proofs.Gathered.{mapped_row_is_at_its_index}
use Rattle.sudoers_undecided.specs.declared.asked_request.CommandLists.{CommandLists}
use Rattle.sudoers_undecided.specs.internal.Counted.{AreListsOfCommand, HasNotedLists}
use Rattle.sudoers_undecided.specs.internal.Looped.{lists_of}
use Rattle.sudoers_undecided.proofs.Loops.{are_lists_of_command, commands_all, commands_more, commands_none, counts_after_same_lists, noted_at_any_time, noted_at_start, runas_goes_on}
use Rattle.sudoers_undecided.proofs.spec_rows.count_lists_of_commands.Goals as goal

pub loop-row-init : goal.loop-row-init
loop-row-init c =
    let asked = c.args.asked.now in
    let commands = c.args.commands.now in
    let it = c.start_runas-runas.ensures in
    record {
      standing = it.standing;
      noted = noted_at_start c.args.counted.now c.start_runas-runas.new.counted c.args.who.now c.start_runas-runas.result it.same it.has_users it.has_hosts it.no_users it.no_groups c.requires.users c.requires.hosts;
      so_far = commands_none asked.policy.now asked.request.now asked.scopes.now (members_of_view c.args.who.now.users) (members_of_view c.args.who.now.hosts) (map (command_in_tables commands.tables.now) commands.rows.now)
          c.args.counted.now c.start_runas-runas.new.counted it.same c.make_empty_settings-head.result c.start_runas-runas.result.runas c.make_empty_settings-head.ensures it.runas;
    }

pub loop-row-preserved : goal.loop-row-preserved
loop-row-preserved c =
    let asked = c.args.asked.now in
    let lines = asked.policy.now in
    let r = asked.request.now in
    let scopes = asked.scopes.now in
    let who = c.args.who.now in
    let t = c.args.commands.now.tables.now in
    let cmd : CmdSpec = command_of_view c.command_of_row-written.result in
    let at = mapped_row_is_at_its_index (command_in_tables t) c.args.commands.now.rows.now c.loop-row.row-index _ c.loop-row-test.true cmd c.command_of_row-written.ensures in
    let s = c.loop-row.invariant.so_far in
    let is = c.apply_settings_of_command.ensures s.head s.is_head in
    let runas = c.go_on_to_runas-runas.result in
    let runas_are = runas_goes_on c.command_of_row-written.result.runas c.loop-row.runas.runas runas.runas s.head.runas c.go_on_to_runas-runas.ensures.runas s.runas_are in
    let lists = c.lists_of_command-lists.result in
    let same : lists ≡ lists_of who runas lists.standing.is_in_time = c.lists_of_command-lists.ensures.lists in
    let alone = ap (map (member_in_tables t)) c.from_ref.ensures.value ∙ ap (λ (x : CmdSpec). x.member ∷ []) (sym c.command_of_row-written.ensures) in
    let are : AreListsOfCommand lines r scopes (settings_after_command s.head cmd) lists =
    are_lists_of_command lines r scopes who runas (settings_after_command s.head cmd) lists c.requires.who c.go_on_to_runas-runas.ensures.standing runas_are same
    (c.lists_of_command-lists.ensures.time ∙ ap (is_in_option_time_bounds r.moment) is.options) in
    record {
      standing = c.go_on_to_runas-runas.ensures.standing;
      noted = noted_at_any_time c.count_lists_of_command.new.counted who runas lists.standing.is_in_time true
          (subst (HasNotedLists c.count_lists_of_command.new.counted) same c.in_ok-count_lists_of_command.ensures.noted);
      so_far = commands_more lines r scopes (members_of_view who.users) (members_of_view who.hosts) (map (command_in_tables t) c.args.commands.now.rows.now) c.args.counted.now c.loop-row.counted c.count_lists_of_command.new.counted
          c.loop-row.row-index cmd at c.loop-row.head c.apply_settings_of_command.new.self c.loop-row.runas.runas runas.runas s is runas_are
          (λ i j rows p. counts_after_same_lists lines r scopes c.loop-row.counted c.go_on_to_runas-runas.new.counted c.count_lists_of_command.new.counted rows c.go_on_to_runas-runas.ensures.same
          (c.in_ok-count_lists_of_command.ensures.counts (settings_after_command s.head cmd) are cmd.member alone i j c.loop-row.row-index rows
          (subst (λ (l : CommandLists). AreRowsPerFlatAtomOfCommand lines i j (members_of_view l.users) (members_of_view l.hosts) c.loop-row.row-index (settings_after_command s.head cmd, cmd.member) rows) (sym same) p)));
    }

pub returns-clause-counts : goal.returns-clause-counts
returns-clause-counts c i j rows p =
    let asked = c.args.asked.now in
    let commands = c.args.commands.now in
    commands_all asked.policy.now asked.request.now asked.scopes.now (members_of_view c.args.who.now.users) (members_of_view c.args.who.now.hosts) (map (command_in_tables commands.tables.now) commands.rows.now)
    c.args.counted.now c.loop-row.counted c.loop-row.row-index c.loop-row.head c.loop-row.runas.runas
    (omega (arith, c.loop-row-test.false, length-map commands.rows.now (command_in_tables commands.tables.now))) c.loop-row.invariant.so_far i j rows p
