use Rattle.std.proofs.Common.{◌∙◌, false, sym, refl, subst}
use Rattle.sudoers_grammar.specs.declared.node.Kind.TheVariants.{Host}
use Rattle.sudoers_line_rows.specs.View.{host_group_of_view, members_of_view}
use Rattle.sudoers_undecided.specs.MatchTests.{match_tests_of_request, undecided_by_files_or_paths}
use Rattle.sudoers_undecided.specs.internal.Counted.{IsHostsStanding}
use Rattle.sudoers_undecided.specs.internal.Decided.{IsStandingOfList, matched_by, undecided_by}
use Rattle.sudoers_undecided.proofs.Loops.{counts_after_same_lists, unfit_host_counts, unfit_user_counts}
use Rattle.sudoers_undecided.proofs.Standings.{list_stands}
use Rattle.sudoers_undecided.proofs.spec_rows.count_lists_of_host_group.Goals as goal

pub returns-then-not-may_be_user-clause-counts : goal.returns-then-not-may_be_user-clause-counts
returns-then-not-may_be_user-clause-counts c i j rows are =
    let asked = c.args.asked.now in
    unfit_user_counts asked.policy.now asked.request.now asked.scopes.now c.args.counted.now c.args.users.now c.args.standing c.requires.users (sym c.may_hold-may_be_user.ensures ∙ c.if-not-may_be_user.true)
    i j (host_group_of_view c.args.group.now) rows are

pub returns-then-not-may_be_host-clause-counts : goal.returns-then-not-may_be_host-clause-counts
returns-then-not-may_be_host-clause-counts c i j rows are =
    let asked = c.args.asked.now in
    let d = asked.aliases.now.hosts in
    let hosts = c.args.group.now.hosts in
    let st = c.standing_of_list-hosts_standing.result in
    let stands : IsHostsStanding asked.policy.now asked.request.now hosts st =
    list_stands asked.policy.now Host (undecided_by_files_or_paths asked.request.now).host (match_tests_of_request asked.request.now).host d c.requires.asked.aliases.hosts (members_of_view hosts) st
    (subst (λ lines. IsStandingOfList d.kind lines (undecided_by d) (matched_by d) false (members_of_view hosts) st) c.definition_numbers-numbers.ensures c.standing_of_list-hosts_standing.ensures) in
    unfit_host_counts asked.policy.now asked.request.now asked.scopes.now c.args.counted.now (members_of_view c.args.users.now) hosts st stands (sym c.may_hold-may_be_host.ensures ∙ c.if-not-may_be_host.true)
    i j (host_group_of_view c.args.group.now) refl rows are

pub count_lists_of_commands-requires-clause-who : goal.count_lists_of_commands-requires-clause-who
count_lists_of_commands-requires-clause-who c =
    let asked = c.args.asked.now in
    let d = asked.aliases.now.hosts in
    let hosts = c.args.group.now.hosts in
    let st = c.standing_of_list-hosts_standing.result in
    record {
      users = c.requires.users;
      hosts = list_stands asked.policy.now Host (undecided_by_files_or_paths asked.request.now).host (match_tests_of_request asked.request.now).host d c.requires.asked.aliases.hosts (members_of_view hosts) st
          (subst (λ lines. IsStandingOfList d.kind lines (undecided_by d) (matched_by d) false (members_of_view hosts) st) c.definition_numbers-numbers.ensures c.standing_of_list-hosts_standing.ensures);
    }

pub returns-clause-counts : goal.returns-clause-counts
returns-clause-counts c i j rows are =
    let asked = c.args.asked.now in
    counts_after_same_lists asked.policy.now asked.request.now asked.scopes.now c.args.counted.now (record c.args.counted.now { has_hosts = false }) c.count_lists_of_commands.new.counted rows
    (record { users = refl; hosts = refl; runas_users = refl; runas_groups = refl; commands = refl; default = refl }) (c.in_ok-count_lists_of_commands.ensures.counts i j rows are)
