use Rattle.std.proofs.Common.{Option, Some, sym, subst}
use Rattle.sudoers_grammar.specs.declared.node.Kind.TheVariants.{User, Host}
use Rattle.sudoers_line_rows.specs.declared.view.Node.{Node as NodeView}
use Rattle.sudoers_line_rows.specs.declared.view.Scope.{Scope as ScopeView}
use Rattle.sudoers_line_rows.specs.View.{node_of_view, scope_of_view}
use Rattle.std.specs.Option.{option_map}
use Rattle.sudoers_undecided.specs.internal.Rights.{AddsListOfNode, AddsLists, CouldTurnDefaultsOfKind, CouldTurnScopeOfKind}
use Rattle.sudoers_undecided.proofs.ScopeLists.{no_lists_added, other_lines_turn_nothing, scope_list_added}
use Rattle.sudoers_undecided.proofs.rights.append_list_of_node.Goals as goal

pub returns-in_default : goal.returns-in_default
returns-in_default c r a b =
    let lines = c.args.numbers.now.walk in
    let n = c.args.node.now in
    no_lists_added lines r (CouldTurnDefaultsOfKind User lines r (node_of_view n)) (CouldTurnDefaultsOfKind Host lines r (node_of_view n)) c.args.lists.now
    (other_lines_turn_nothing lines r User n c.in_default.not-Defaults) (other_lines_turn_nothing lines r Host n c.in_default.not-Defaults)

pub returns : goal.returns
returns c r a b =
    let lines = c.args.numbers.now.walk in
    let new = c.add_scope_list.new.self in
    let scope = c.in-Some.scope in
    let added = c.in_ok-add_scope_list.ensures in
    let it : AddsLists lines r (CouldTurnScopeOfKind User lines r (Some (scope_of_view scope))) (CouldTurnScopeOfKind Host lines r (Some (scope_of_view scope))) c.args.lists.now new =
    scope_list_added lines r c.args.lists.now new c.args.line scope scope.kind c.standing_of_scope-standing.result (c.standing_of_scope-standing.ensures r a b) added.grown added.has added.only in
    let of_scope : AddsLists lines r (CouldTurnScopeOfKind User lines r (option_map scope_of_view c.in-Defaults.scope)) (CouldTurnScopeOfKind Host lines r (option_map scope_of_view c.in-Defaults.scope)) c.args.lists.now new =
    subst (λ (o : Option ScopeView). AddsLists lines r (CouldTurnScopeOfKind User lines r (option_map scope_of_view o)) (CouldTurnScopeOfKind Host lines r (option_map scope_of_view o)) c.args.lists.now new) (sym c.in-Some.is) it in
    subst (λ (n : NodeView). AddsListOfNode lines r (node_of_view n) c.args.lists.now new) (sym c.in-Defaults.is) of_scope
