use Rattle.sudoers_check.proofs.Common.{ListsMarkedNodes, [], false, replicate, rules, subst, ◌≡◌}
use Rattle.sudoers_check.proofs.Found.{no_nodes_are_listed_by_fresh_marks}
use Rattle.sudoers_check.proofs.graph.ReachedNodes.new.Goals as goal

pub returns-clause-found : goal.returns-clause-found
returns-clause-found c =
    let marks : c.in_ok-from_elem.field-0.items ≡ replicate c.args.len false = search rules in
    let none : [] ≡ c.new.result.items = search rules in
    subst (λ nodes. ListsMarkedNodes c.args.len nodes c.in_ok-from_elem.field-0.items) none (no_nodes_are_listed_by_fresh_marks c.args.len c.in_ok-from_elem.field-0.items marks)
