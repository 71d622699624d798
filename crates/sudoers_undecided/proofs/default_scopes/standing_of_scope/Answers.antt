use Rattle.std.proofs.Common.{sym, subst}
use Rattle.sudoers_grammar.specs.declared.node.Kind.{Kind}
use Rattle.sudoers_grammar.specs.declared.node.Kind.TheVariants.{User, Host}
use Rattle.sudoers_line_rows.specs.View.{members_of_view}
use Rattle.sudoers_undecided.specs.MatchTests.{match_tests_of_request, undecided_by_files_or_paths}
use Rattle.sudoers_undecided.specs.internal.Settings.{IsScopeStandingOfKind}
use Rattle.sudoers_undecided.proofs.Standings.{list_stands}
use Rattle.sudoers_undecided.proofs.default_scopes.standing_of_scope.Goals as goal

pub returns-in-User : goal.returns-in-User
returns-in-User c r a b =
    let lines = c.args.numbers.now.walk in
    let st = c.standing_of_list.result in
    subst (λ (k : Kind). IsScopeStandingOfKind lines r c.args.scope.now k st) (sym c.in-User.is)
    (list_stands lines User (undecided_by_files_or_paths r).user (match_tests_of_request r).user c.args.users.now a (members_of_view c.args.scope.now.members) st c.standing_of_list.ensures)

pub returns-in-Host : goal.returns-in-Host
returns-in-Host c r a b =
    let lines = c.args.numbers.now.walk in
    let st = c.standing_of_list-in-Host.result in
    subst (λ (k : Kind). IsScopeStandingOfKind lines r c.args.scope.now k st) (sym c.in-Host.is)
    (list_stands lines Host (undecided_by_files_or_paths r).host (match_tests_of_request r).host c.args.hosts.now b (members_of_view c.args.scope.now.members) st c.standing_of_list-in-Host.ensures)
