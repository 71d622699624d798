-- Lists without aliases stay as they are.
use Rattle.std.proofs.Common.{◌≡◌, ℕ, zero, suc, List, ap, refl, ◌∙◌}
use Rattle.sudoers_grammar.specs.declared.node.Kind.{Kind}
use Rattle.sudoers_grammar.specs.Node.{Member}
use Rattle.sudoers_tree.specs.Line.{Line}
use Rattle.sudoers_match_list.specs.Flattened.{list_expanded_n_times, list_with_aliases_expanded_once}

pub list_that_stays_stays_n_times : (n : ℕ) (k : Kind) (lines : List Line) (ms : List Member) → list_with_aliases_expanded_once k lines ms ≡ ms → list_expanded_n_times n k lines ms ≡ ms
list_that_stays_stays_n_times zero k lines ms e = refl
list_that_stays_stays_n_times (suc n) k lines ms e = ap (list_expanded_n_times n k lines) e ∙ list_that_stays_stays_n_times n k lines ms e
