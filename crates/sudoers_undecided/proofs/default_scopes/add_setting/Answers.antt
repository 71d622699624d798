use Rattle.std.proofs.Common.{◌∷◌, Some, map, subst}
use Rattle.sudoers_line_rows.specs.View.{scope_of_view}
use Rattle.sudoers_match.specs.Default.{setting_with_scope}
use Rattle.sudoers_undecided.specs.internal.Settings.{AddsOnlyScopeList, CountsSettings, HaveScopesGrown}
use Rattle.sudoers_undecided.proofs.SettingCounts.{added_scope_counts, counting_scope_counts}
use Rattle.sudoers_undecided.proofs.default_scopes.add_setting.Goals as goal
use Rattle.sudoers_undecided.proofs.default_scopes.add_setting.Goals.{then-standing, else-standing}

pub returns : goal.returns
returns c r a name names =
    let lines = c.args.numbers.now.walk in
    let scope = c.args.scope.now in
    let st = c.standing_of_scope-standing.result in
    let new = c.add_scope_list.new.self in
    elim c.if-standing.branch as (λ _. CountsSettings lines r c.args.lists.now new (map (setting_with_scope (Some (scope_of_view scope))) (name ∷ names))) [
      | then-standing w ↦ counting_scope_counts lines r c.args.lists.now w.clear.new.self new c.args.line scope st (c.standing_of_scope-standing.ensures r a.users a.hosts) c.in_ok-add_scope_list.ensures.has w.if-standing.true
          w.clear.ensures.users w.clear.ensures.hosts (subst (λ self. AddsOnlyScopeList self new c.args.line scope scope.kind st) w.lists-is c.in_ok-add_scope_list.ensures.only) name names
      | else-standing w ↦ added_scope_counts lines r c.args.lists.now new c.args.line scope st (c.standing_of_scope-standing.ensures r a.users a.hosts) c.in_ok-add_scope_list.ensures.has w.if-standing.false
          (subst (λ self. HaveScopesGrown self new) w.lists-is c.in_ok-add_scope_list.ensures.grown)
          (subst (λ self. AddsOnlyScopeList self new c.args.line scope scope.kind st) w.lists-is c.in_ok-add_scope_list.ensures.only) name names
    ]
