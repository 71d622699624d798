use Rattle.std.proofs.Common.{map, arith}
use Rattle.std.proofs.lemmas.List.{length-map}
use Rattle.sudoers_grammar.specs.declared.node.Kind.TheVariants.{Host}
use Rattle.sudoers_grammar.specs.Node.{HostGroup}
use Rattle.sudoers_line_rows.specs.Tables.{host_group_in_tables}
use Rattle.sudoers_line_rows.specs.View.{host_group_of_view, members_of_view}
use Rattle.sudoers_match.proofs.Gathered.{mapped_row_is_at_its_index}
use Rattle.sudoers_undecided.specs.MatchTests.{match_tests_of_request, undecided_by_files_or_paths}
use Rattle.sudoers_undecided.specs.internal.Rights.{CouldTurnHostsOfGroup}
use Rattle.sudoers_undecided.proofs.UserAndHostLists.{all_added, list_added, none_added, one_more_added}
use Rattle.sudoers_undecided.proofs.Standings.{list_stands}
use Rattle.sudoers_undecided.proofs.rights.append_lists_of_hosts.Goals as goal

pub loop-row-init : goal.loop-row-init
loop-row-init c r a =
    let lines = c.args.numbers.now.walk in
    let groups = c.args.groups.now in
    none_added Host lines (undecided_by_files_or_paths r).host (match_tests_of_request r).host (CouldTurnHostsOfGroup lines r) (map (host_group_in_tables groups.tables.now) groups.rows.now) c.args.lists.now.items

pub loop-row-preserved : goal.loop-row-preserved
loop-row-preserved c r a =
    let lines = c.args.numbers.now.walk in
    let groups = c.args.groups.now in
    let gs = map (host_group_in_tables groups.tables.now) groups.rows.now in
    let k = c.loop-row.row-index in
    let view = c.host_group_of_row-group.result in
    let g : HostGroup = host_group_of_view view in
    let at = mapped_row_is_at_its_index (host_group_in_tables groups.tables.now) groups.rows.now k _ c.loop-row-test.true g c.host_group_of_row-group.ensures in
    let st = c.standing_of_list-standing.result in
    let old = c.loop-row.lists.items in
    let new = c.append_list_if_it_could_turn.new.lists.items in
    one_more_added Host lines (undecided_by_files_or_paths r).host (match_tests_of_request r).host (CouldTurnHostsOfGroup lines r) gs k g c.args.lists.now.items old new at (c.loop-row.invariant r a)
    (list_added Host lines (undecided_by_files_or_paths r).host (match_tests_of_request r).host old new c.args.line view.hosts st
    c.in_ok-append_list_if_it_could_turn.ensures.kept c.in_ok-append_list_if_it_could_turn.ensures.has c.in_ok-append_list_if_it_could_turn.ensures.only
    (list_stands lines Host (undecided_by_files_or_paths r).host (match_tests_of_request r).host c.args.hosts.now a (members_of_view view.hosts) st c.standing_of_list-standing.ensures))

pub returns : goal.returns
returns c r a =
    let lines = c.args.numbers.now.walk in
    let groups = c.args.groups.now in
    let gs = map (host_group_in_tables groups.tables.now) groups.rows.now in
    all_added Host lines (undecided_by_files_or_paths r).host (match_tests_of_request r).host (CouldTurnHostsOfGroup lines r) gs c.loop-row.row-index c.args.lists.now.items c.loop-row.lists.items
    (omega (arith, c.loop-row-test.false, length-map groups.rows.now (host_group_in_tables groups.tables.now))) (c.loop-row.invariant r a)
