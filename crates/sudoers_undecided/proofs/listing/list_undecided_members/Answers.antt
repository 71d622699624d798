use Rattle.std.proofs.Common.{subst}
use Rattle.sudoers_undecided.specs.internal.Counted.{AreAliasesOfRequest}
use Rattle.sudoers_undecided.proofs.AnswersByTests.{runas_default_by_request_tests}
use Rattle.sudoers_undecided.proofs.Listed.{found_kept, permuted_has, permuted_has_no_other}
use Rattle.sudoers_undecided.proofs.listing.list_undecided_members.Goals as goal

pub collect_members-requires-clause-asked : goal.collect_members-requires-clause-asked
collect_members-requires-clause-asked c =
    let lines = c.args.policy.now in
    let r = c.args.request.now in
    let a = subst (λ ls. AreAliasesOfRequest ls r c.in_ok-aliases.aliases) c.definition_numbers-numbers.ensures c.in_ok-aliases.ensures in
    record {
      aliases = a;
      default = (runas_default_by_request_tests lines r c.args.default.now).1 c.requires;
      scopes = c.in_ok-scopes.ensures.scopes r a;
      only_scopes = c.in_ok-scopes.ensures.only r a;
      turned_scopes = c.in_ok-scopes.ensures.turned r a;
    }

pub returns-clause-each : goal.returns-clause-each
returns-clause-each c row p s u =
    let found = c.in_ok-found.found.items in
    let sorted = c.sort_by_key.new.self.items in
    found_kept found sorted p s (permuted_has found sorted c.in_ok-sort_by_key.ensures.permutation) (c.in_ok-found.ensures.each row p s u)

pub returns-clause-only : goal.returns-clause-only
returns-clause-only c u h = c.in_ok-found.ensures.only u (permuted_has_no_other c.in_ok-found.found.items c.sort_by_key.new.self.items c.in_ok-sort_by_key.ensures.permutation u h)
