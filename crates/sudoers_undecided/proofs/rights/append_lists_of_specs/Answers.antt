use Rattle.std.proofs.Common.{◌≡◌, ◌∙◌, ◌+◌, Some, true, false, map, take, slice_get, sym, ap, subst, arith}
use Rattle.std.proofs.lemmas.List.{length-map}
use Rattle.std.proofs.lemmas.Option.{slice_get-get_or}
use Rattle.sudoers_grammar.specs.declared.node.Kind.TheVariants.{User, Host}
use Rattle.sudoers_line_rows.specs.View.{members_of_view}
use Rattle.sudoers_match.specs.declared.specs_for_users.SpecOnLine.{SpecOnLine}
use Rattle.sudoers_match.proofs.Gathered.{mapped_list_has_mapped_element_at_index}
use Rattle.sudoers_undecided.specs.MatchTests.{match_tests_of_request, undecided_by_files_or_paths}
use Rattle.sudoers_undecided.specs.internal.Counted.{AreHostAliases}
use Rattle.sudoers_undecided.specs.internal.Decided.{IsStandingOfList, matched_by, undecided_by}
use Rattle.sudoers_undecided.specs.internal.Rights.{AddsListsOfGroups, AddsListsOfSpecs, CouldTurnHostsOfSpec, CouldTurnUsersOfSpec}
use Rattle.sudoers_undecided.proofs.SpecLines.{are_specs, spec_of}
use Rattle.sudoers_undecided.proofs.UserAndHostLists.{all_added, hosts_of_spec_added, list_added, no_hosts_of_spec_added, none_added, one_more_added}
use Rattle.sudoers_undecided.proofs.Standings.{list_stands}
use Rattle.sudoers_undecided.proofs.rights.append_lists_of_specs.Goals as goal
use Rattle.sudoers_undecided.proofs.rights.append_lists_of_specs.Goals.{then-standing+in_ok-append_lists_of_hosts, else-standing}

pub loop-spec-init : goal.loop-spec-init
loop-spec-init c r a b =
    let lines = c.args.policy.now in
    let all = map spec_of c.as_slice-spec-items.result.now in
    record {
      users = none_added User lines (undecided_by_files_or_paths r).user (match_tests_of_request r).user (CouldTurnUsersOfSpec lines r) all c.args.lists.now.users.items;
      hosts = none_added Host lines (undecided_by_files_or_paths r).host (match_tests_of_request r).host (CouldTurnHostsOfSpec lines r) all c.args.lists.now.hosts.items;
    }

pub loop-spec-preserved : goal.loop-spec-preserved
loop-spec-preserved c r a b =
    let lines = c.args.policy.now in
    let items = c.as_slice-spec-items.result.now in
    let all = map spec_of items in
    let item : SpecOnLine = c.spec-item.result in
    let spec = spec_of item in
    let k = c.loop-spec.spec-index in
    let at : slice_get all k ≡ Some spec =
    mapped_list_has_mapped_element_at_index spec_of items k item (slice_get-get_or items k item c.loop-spec-test.true ∙ ap Some (sym c.spec-item.is)) in
    let d = c.args.users.now in
    let st = c.standing_of_list-standing.result in
    let stands = list_stands lines User (undecided_by_files_or_paths r).user (match_tests_of_request r).user d a (members_of_view item.users) st
    (subst (λ ls. IsStandingOfList d.kind ls (undecided_by d) (matched_by d) false (members_of_view item.users) st) c.definition_numbers-numbers.ensures c.standing_of_list-standing.ensures) in
    let so_far = c.loop-spec.invariant r a b in
    let old = c.loop-spec.lists in
    let new = c.append_list_if_it_could_turn.new.lists in
    let added = c.in_ok-append_list_if_it_could_turn.ensures in
    let users = one_more_added User lines (undecided_by_files_or_paths r).user (match_tests_of_request r).user (CouldTurnUsersOfSpec lines r) all k spec c.args.lists.now.users.items old.users.items new.items at so_far.users
    (list_added User lines (undecided_by_files_or_paths r).user (match_tests_of_request r).user old.users.items new.items item.line item.users st added.kept added.has added.only stands) in
    elim c.if-standing.branch as (λ _. AddsListsOfSpecs lines r (take (k + 1) all) c.args.lists.now c.if-standing.lists) [
      | then-standing+in_ok-append_lists_of_hosts w ↦
          let hosts = w.append_lists_of_hosts.new.lists in
          let groups : AddsListsOfGroups lines r spec.groups old.hosts.items hosts.items =
          subst (λ ls. AddsListsOfGroups ls r spec.groups old.hosts.items hosts.items) c.definition_numbers-numbers.ensures
          (w.in_ok-append_lists_of_hosts.ensures r (subst (λ ls. AreHostAliases ls r c.args.hosts.now) (sym c.definition_numbers-numbers.ensures) b)) in
          let holds : AddsListsOfSpecs lines r (take (k + 1) all) c.args.lists.now (record { users = new; hosts = hosts }) = record {
            users = users;
            hosts = one_more_added Host lines (undecided_by_files_or_paths r).host (match_tests_of_request r).host (CouldTurnHostsOfSpec lines r) all k spec c.args.lists.now.hosts.items old.hosts.items hosts.items at so_far.hosts
                (hosts_of_spec_added lines r spec old.hosts.items hosts.items (stands.holds w.if-standing.true) groups);
          } in
          subst (AddsListsOfSpecs lines r (take (k + 1) all) c.args.lists.now) (sym w.lists-is) holds
      | else-standing w ↦
          let holds : AddsListsOfSpecs lines r (take (k + 1) all) c.args.lists.now (record { users = new; hosts = old.hosts }) = record {
            users = users;
            hosts = one_more_added Host lines (undecided_by_files_or_paths r).host (match_tests_of_request r).host (CouldTurnHostsOfSpec lines r) all k spec c.args.lists.now.hosts.items old.hosts.items old.hosts.items at so_far.hosts
                (no_hosts_of_spec_added lines r spec old.hosts.items (λ allows. let clash : false ≡ true = sym w.if-standing.false ∙ stands.held allows in cc));
          } in
          subst (AddsListsOfSpecs lines r (take (k + 1) all) c.args.lists.now) (sym w.lists-is) holds
    ]

pub returns : goal.returns
returns c r a b =
    let lines = c.args.policy.now in
    let items = c.as_slice-spec-items.result.now in
    let all = map spec_of items in
    let k = c.loop-spec.spec-index in
    let lists = c.loop-spec.lists in
    let so_far = c.loop-spec.invariant r a b in
    let it : AddsListsOfSpecs lines r all c.args.lists.now lists = record {
      users = all_added User lines (undecided_by_files_or_paths r).user (match_tests_of_request r).user (CouldTurnUsersOfSpec lines r) all k c.args.lists.now.users.items lists.users.items (omega (arith, c.loop-spec-test.false, length-map items spec_of)) so_far.users;
      hosts = all_added Host lines (undecided_by_files_or_paths r).host (match_tests_of_request r).host (CouldTurnHostsOfSpec lines r) all k c.args.lists.now.hosts.items lists.hosts.items (omega (arith, c.loop-spec-test.false, length-map items spec_of)) so_far.hosts;
    } in
    subst (λ specs. AddsListsOfSpecs lines r specs c.args.lists.now lists) (are_specs lines items _ c.as_slice-spec-items.ensures.value c.in_ok-specs.ensures.all) it
