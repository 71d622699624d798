use Rattle.sudoers_check.proofs.Common.{AliasLineFirstNumber, length, rules, subst}
use Rattle.std.specs.List.Sorted.{IsSearchInRange, IsBinarySearchResult}
use Rattle.std.specs.Ordering.{nat_cmp}
use Rattle.std.proofs.lemmas.List.Sorted.{answers_always}
use Rattle.sudoers_check.proofs.Firsts.{found, missing}
use Rattle.sudoers_check.proofs.definition_numbers.index_of_alias_line.Goals as goal

-- the closure gives the number of the line
pub returns-in-Ok-clause-found : goal.returns-in-Ok-clause-found
returns-in-Ok-clause-found c =
    let facts = c.binary_search_by_key.ensures in
    let firsts = c.args.firsts.now in
    let by_key = facts.position (λ (x : AliasLineFirstNumber). x.line) (answers_always _ _ _ (λ f a r g called. search rules)) in
    found firsts c.args.line c.requires c.in-Ok.at
    (subst (λ r. IsSearchInRange r (length firsts)) c.in-Ok.is facts.bound)
    (subst (IsBinarySearchResult (λ (x : AliasLineFirstNumber). nat_cmp x.line c.args.line) firsts) c.in-Ok.is by_key)

pub returns-in-Err-clause-missing : goal.returns-in-Err-clause-missing
returns-in-Err-clause-missing c _ =
    let facts = c.binary_search_by_key.ensures in
    let firsts = c.args.firsts.now in
    let by_key = facts.position (λ (x : AliasLineFirstNumber). x.line) (answers_always _ _ _ (λ f a r g called. search rules)) in
    missing firsts c.args.line c.requires c.in-Err.field-0
    (subst (IsBinarySearchResult (λ (x : AliasLineFirstNumber). nat_cmp x.line c.args.line) firsts) c.in-Err.is by_key)
