use Rattle.std.proofs.Common.{◌≡◌, map, get_or, Some, slice_get, sym, subst, arith}
use Rattle.std.proofs.lemmas.List.{length-map}
use Rattle.std.proofs.lemmas.Option.{slice_get-get_or}
use Rattle.sudoers_grammar.specs.declared.node.Kind.TheVariants.{User, Host}
use Rattle.sudoers_grammar.specs.Node.{Node}
use Rattle.sudoers_line_rows.specs.View.{node_of_view}
use Rattle.sudoers_match.proofs.Gathered.{mapped_list_has_mapped_element_at_index}
use Rattle.sudoers_tree.specs.Line.{Line, line_of_row}
use Rattle.sudoers_undecided.specs.MatchTests.{match_tests_of_request, undecided_by_files_or_paths}
use Rattle.sudoers_undecided.specs.internal.Counted.{AreHostAliases, AreUserAliases}
use Rattle.sudoers_undecided.specs.internal.Rights.{AddsListOfNode, AddsListsOfLines, CouldTurnLineOfKind}
use Rattle.sudoers_undecided.proofs.UserAndHostLists.{all_added, none_added, one_more_added}
use Rattle.sudoers_undecided.proofs.rights.append_lists_of_scopes.Goals as goal

pub loop-line-init : goal.loop-line-init
loop-line-init c r a b =
    let lines = c.args.policy.now in
    let all = map (line_of_row c.lines-lines.result.tables.now) c.lines-lines.result.rows.now in
    record {
      users = none_added User lines (undecided_by_files_or_paths r).user (match_tests_of_request r).user (CouldTurnLineOfKind User lines r) all c.args.lists.now.users.items;
      hosts = none_added Host lines (undecided_by_files_or_paths r).host (match_tests_of_request r).host (CouldTurnLineOfKind Host lines r) all c.args.lists.now.hosts.items;
    }

pub loop-line-preserved : goal.loop-line-preserved
loop-line-preserved c r a b =
    let lines = c.args.policy.now in
    let walk = c.lines-lines.result in
    let all = map (line_of_row walk.tables.now) walk.rows.now in
    let k = c.loop-line.line in
    let row = get_or walk.rows.now k _ in
    let line : Line = line_of_row walk.tables.now row in
    let at : slice_get all k ≡ Some line =
    mapped_list_has_mapped_element_at_index (line_of_row walk.tables.now) walk.rows.now k row (slice_get-get_or walk.rows.now k _ c.loop-line-test.true) in
    let old = c.loop-line.lists in
    let new = c.append_list_of_node.new.lists in
    let so_far = c.loop-line.invariant r a b in
    let walked = c.definition_numbers-numbers.ensures in
    let said : AddsListOfNode lines r (node_of_view c.node_of_row-node.result) old new =
    subst (λ ls. AddsListOfNode ls r (node_of_view c.node_of_row-node.result) old new) walked
    (c.in_ok-append_list_of_node.ensures r (subst (λ ls. AreUserAliases ls r c.args.users.now) (sym walked) a) (subst (λ ls. AreHostAliases ls r c.args.hosts.now) (sym walked) b)) in
    let added : AddsListOfNode lines r line.node old new = subst (λ (n : Node). AddsListOfNode lines r n old new) c.node_of_row-node.ensures said in
    record {
      users = one_more_added User lines (undecided_by_files_or_paths r).user (match_tests_of_request r).user (CouldTurnLineOfKind User lines r) all k line c.args.lists.now.users.items old.users.items new.users.items at so_far.users added.users;
      hosts = one_more_added Host lines (undecided_by_files_or_paths r).host (match_tests_of_request r).host (CouldTurnLineOfKind Host lines r) all k line c.args.lists.now.hosts.items old.hosts.items new.hosts.items at so_far.hosts added.hosts;
    }

pub returns : goal.returns
returns c r a b =
    let lines = c.args.policy.now in
    let walk = c.lines-lines.result in
    let all = map (line_of_row walk.tables.now) walk.rows.now in
    let k = c.loop-line.line in
    let lists = c.loop-line.lists in
    let so_far = c.loop-line.invariant r a b in
    let it : AddsListsOfLines lines r all c.args.lists.now lists = record {
      users = all_added User lines (undecided_by_files_or_paths r).user (match_tests_of_request r).user (CouldTurnLineOfKind User lines r) all k c.args.lists.now.users.items lists.users.items
          (omega (arith, c.loop-line-test.false, length-map walk.rows.now (line_of_row walk.tables.now))) so_far.users;
      hosts = all_added Host lines (undecided_by_files_or_paths r).host (match_tests_of_request r).host (CouldTurnLineOfKind Host lines r) all k c.args.lists.now.hosts.items lists.hosts.items
          (omega (arith, c.loop-line-test.false, length-map walk.rows.now (line_of_row walk.tables.now))) so_far.hosts;
    } in
    subst (λ ls. AddsListsOfLines lines r ls c.args.lists.now lists) c.lines-lines.ensures it
