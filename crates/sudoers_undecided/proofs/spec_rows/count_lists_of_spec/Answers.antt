use Rattle.std.proofs.Common.{◌+◌, false, drop, map, refl, subst, arith}
use Rattle.std.proofs.lemmas.List.{drop_all, length-map}
use Rattle.sudoers_grammar.specs.declared.node.Kind.TheVariants.{User}
use Rattle.sudoers_grammar.specs.Node.{HostGroup}
use Rattle.sudoers_line_rows.specs.Tables.{host_group_in_tables}
use Rattle.sudoers_line_rows.specs.View.{host_group_of_view, members_of_view}
use Rattle.sudoers_match.specs.Rows.{AreRowsPerFlatAtomOfHostGroup}
use Rattle.sudoers_match.proofs.Gathered.{list_from_index_is_element_and_rest, mapped_row_is_at_its_index}
use Rattle.sudoers_undecided.specs.MatchTests.{match_tests_of_request, undecided_by_files_or_paths}
use Rattle.sudoers_undecided.specs.internal.Decided.{IsStandingOfList, matched_by, undecided_by}
use Rattle.sudoers_undecided.proofs.Loops.{parts_all, parts_more, parts_none}
use Rattle.sudoers_undecided.proofs.Standings.{list_stands}
use Rattle.sudoers_undecided.proofs.spec_rows.count_lists_of_spec.Goals as goal

pub count_lists_of_host_group-requires-clause-users : goal.count_lists_of_host_group-requires-clause-users
count_lists_of_host_group-requires-clause-users c =
    let asked = c.args.asked.now in
    let d = asked.aliases.now.users in
    let st = c.standing_of_list-standing.result in
    let us = members_of_view c.args.users.now in
    list_stands asked.policy.now User (undecided_by_files_or_paths asked.request.now).user (match_tests_of_request asked.request.now).user d c.requires.aliases.users us st
    (subst (λ lines. IsStandingOfList d.kind lines (undecided_by d) (matched_by d) false us st) c.definition_numbers-numbers.ensures c.standing_of_list-standing.ensures)

pub loop-row-init : goal.loop-row-init
loop-row-init c =
    let asked = c.args.asked.now in
    let groups = c.args.groups.now in
    record {
      noted = λ has. absurd cc;
      so_far = λ i. parts_none asked.policy.now asked.request.now asked.scopes.now (AreRowsPerFlatAtomOfHostGroup asked.policy.now i (members_of_view c.args.users.now)) (map (host_group_in_tables groups.tables.now) groups.rows.now)
          c.args.counted.now (record c.args.counted.now { has_users = false }) (record { users = refl; hosts = refl; runas_users = refl; runas_groups = refl; commands = refl; default = refl });
    }

pub loop-row-preserved : goal.loop-row-preserved
loop-row-preserved c =
    let asked = c.args.asked.now in
    let groups = c.args.groups.now in
    let gs = map (host_group_in_tables groups.tables.now) groups.rows.now in
    let k = c.loop-row.row-index in
    let g : HostGroup = host_group_of_view c.host_group_of_row-group.result in
    let at = mapped_row_is_at_its_index (host_group_in_tables groups.tables.now) groups.rows.now k _ c.loop-row-test.true g c.host_group_of_row-group.ensures in
    record {
      noted = c.in_ok-count_lists_of_host_group.ensures.noted;
      so_far = λ i. parts_more asked.policy.now asked.request.now asked.scopes.now (AreRowsPerFlatAtomOfHostGroup asked.policy.now i (members_of_view c.args.users.now)) gs
          c.args.counted.now c.loop-row.counted c.count_lists_of_host_group.new.counted k g (drop k gs) (drop (k + 1) gs) (list_from_index_is_element_and_rest gs k g at) (c.loop-row.invariant.so_far i)
          (λ rows p. c.in_ok-count_lists_of_host_group.ensures.counts i k rows p);
    }

pub returns : goal.returns
returns c i rows p =
    let asked = c.args.asked.now in
    let groups = c.args.groups.now in
    let gs = map (host_group_in_tables groups.tables.now) groups.rows.now in
    parts_all asked.policy.now asked.request.now asked.scopes.now (AreRowsPerFlatAtomOfHostGroup asked.policy.now i (members_of_view c.args.users.now)) gs c.args.counted.now c.loop-row.counted c.loop-row.row-index
    (drop c.loop-row.row-index gs) (drop_all c.loop-row.row-index gs (omega (arith, c.loop-row-test.false, length-map groups.rows.now (host_group_in_tables groups.tables.now)))) (c.loop-row.invariant.so_far i) rows p
