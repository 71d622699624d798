use Rattle.sudoers_match_list.proofs.Common.{AliasMember, DecidesConditionAndKeepsCaches, Has_at, ListLeadsToCyclicAlias, Some, ap, below_more, single_member_list_naming_alias, slice_get, slice_get-get_or, subst, sym, ◌∙◌, ◌≡◌}
use Rattle.sudoers_match_list.proofs.Roots.{property_false_at_all_indices_has_none, property_false_at_index_stays_false}
use Rattle.sudoers_match_list.proofs.alias_cycles.CycleSearchByKind.is_cycle_reached_from_any.Goals as goal

pub returns-then-cycle : goal.returns-then-cycle
returns-then-cycle c =
    let lines = c.args.numbers.now.walk in
    let all = c.args.aliases.now in
    let i = c.loop-alias.alias-index in
    let a : AliasMember = c.alias-item.result in
    let inside = c.alias.inside in
    let at : slice_get all i ≡ Some a = slice_get-get_or all i a c.loop-alias-test.true ∙ ap Some (sym c.alias-item.is) in
    let told = subst (DecidesConditionAndKeepsCaches lines (ListLeadsToCyclicAlias inside.kind lines (single_member_list_naming_alias inside.name.now)) c.is_cycle_reached_from_alias.new.self) c.if-cycle.true c.in_ok-cycle.ensures in
    record {
      alias = a;
      among = Has_at all i a at;
      leads = subst (λ (x : AliasMember). ListLeadsToCyclicAlias x.kind lines (single_member_list_naming_alias x.name)) c.alias.view_is told;
    }

pub loop-alias-preserved : goal.loop-alias-preserved
loop-alias-preserved c =
    let lines = c.args.numbers.now.walk in
    let all = c.args.aliases.now in
    let i = c.loop-alias.alias-index in
    let a : AliasMember = c.alias-item.result in
    let inside = c.alias.inside in
    let at : slice_get all i ≡ Some a = slice_get-get_or all i a c.loop-alias-test.true ∙ ap Some (sym c.alias-item.is) in
    let told = subst (DecidesConditionAndKeepsCaches lines (ListLeadsToCyclicAlias inside.kind lines (single_member_list_naming_alias inside.name.now)) c.is_cycle_reached_from_alias.new.self) c.if-cycle.false c.in_ok-cycle.ensures in
    let leads = λ (x : AliasMember). ListLeadsToCyclicAlias x.kind lines (single_member_list_naming_alias x.name) in
    record {
      known = told.0;
      none = below_more _ _ c.loop-alias.invariant.none (λ x at_x p. property_false_at_index_stays_false leads all i a x at (λ q. told.1 (subst leads (sym c.alias.view_is) q)) at_x p);
    }

pub returns : goal.returns
returns c =
    let lines = c.args.numbers.now.walk in (
      c.loop-alias.invariant.known,
      λ h. property_false_at_all_indices_has_none (λ (x : AliasMember). ListLeadsToCyclicAlias x.kind lines (single_member_list_naming_alias x.name)) c.args.aliases.now c.loop-alias.alias-index c.loop-alias-test.false
          c.loop-alias.invariant.none h.alias h.among h.leads,
    )
