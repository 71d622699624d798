-- Where no reachable alias is cyclic, no list that a filter asks for leads to a cyclic alias.
use Rattle.sudoers_cvt_rewrite.proofs.Common.{FilterListsLeadToNoCycle, HasCyclicAliasReachedFromSpecOrDefaults, Host, HostGroupRow, Line, LineRow, List, ListHasElement, Node, Tables, [], arith, get_or, host_group_in_tables, inl, inr}
use Rattle.sudoers_cvt_rewrite.proofs.Common.{length, line_of_row, map, node_in_tables, refl, subst, suc, zero, ℕ, ◌<◌, ◌∷◌, ◌≡◌}
use Rattle.sudoers_grammar.specs.Node as node
use Rattle.sudoers_match.specs.internal.Straight.{HostGroupsLeadToNoCycle, LeadsToNoCyclicAlias}
use Rattle.sudoers_match.proofs.Reached.{groups_straight, scope_straight, users_straight}

-- what a row holds is among what all hold
row_value_is_among_mapped_rows : {R X : Type 0} (f : R → X) (rows : List R) (n : ℕ) (d : R) → n < length rows → ListHasElement (map f rows) (f (get_or rows n d))
row_value_is_among_mapped_rows f [] n d h = absurd (omega arith)
row_value_is_among_mapped_rows f (x ∷ rows) zero d h = inl refl
row_value_is_among_mapped_rows f (x ∷ rows) (suc n) d h = inr (row_value_is_among_mapped_rows f rows n d (omega arith))

filter_lists_of_acyclic_line_are_acyclic : (lines : List Line) → (HasCyclicAliasReachedFromSpecOrDefaults lines → ⊥) → (line : Line) → ListHasElement lines line → (n : Node) → line.node ≡ n → FilterListsLeadToNoCycle lines n
filter_lists_of_acyclic_line_are_acyclic lines straight line stands (node.Spec users groups) e =
    (users_straight lines straight line stands users groups e, groups_straight lines straight line stands users groups e)
filter_lists_of_acyclic_line_are_acyclic lines straight line stands (node.Defaults scope params) e = scope_straight lines straight line stands scope params e
filter_lists_of_acyclic_line_are_acyclic lines straight line stands (node.Alias k defs) e = tt
filter_lists_of_acyclic_line_are_acyclic lines straight line stands node.Blank e = tt
filter_lists_of_acyclic_line_are_acyclic lines straight line stands node.Comment e = tt
filter_lists_of_acyclic_line_are_acyclic lines straight line stands (node.Include dir path) e = tt

-- The lists of a row lead to no cyclic alias.
pub filter_lists_of_acyclic_row_are_acyclic : (base : Tables) (rows : List LineRow) (lines : List Line) (i : ℕ) (d : LineRow) → i < length rows → map (line_of_row base) rows ≡ lines
    → (HasCyclicAliasReachedFromSpecOrDefaults lines → ⊥) → FilterListsLeadToNoCycle lines (node_in_tables base (get_or rows i d).node)
filter_lists_of_acyclic_row_are_acyclic base rows lines i d h same straight =
    let line = line_of_row base (get_or rows i d) in
    filter_lists_of_acyclic_line_are_acyclic lines straight line (subst (λ ls. ListHasElement ls line) same (row_value_is_among_mapped_rows (line_of_row base) rows i d h)) line.node refl

pub hosts_of_acyclic_group_row_are_acyclic : (base : Tables) (rows : List HostGroupRow) (lines : List Line) (i : ℕ) (d : HostGroupRow) → i < length rows
    → HostGroupsLeadToNoCycle lines (map (host_group_in_tables base) rows) → LeadsToNoCyclicAlias Host lines (host_group_in_tables base (get_or rows i d)).hosts
hosts_of_acyclic_group_row_are_acyclic base rows lines i d h straight = (straight (host_group_in_tables base (get_or rows i d)) (row_value_is_among_mapped_rows (host_group_in_tables base) rows i d h)).hosts
