use Rattle.sudoers_match_list.proofs.Common.{AliasDecisionState, AliasNumberAndMembers, Some, [], ap, arith, definitions_of_lines, get_or, get_pushed, length, member_in_tables, member_of_view, members_of_definition_number}
use Rattle.sudoers_match_list.proofs.Common.{option_map, slice_get, slice_get_read, step_after_member, sym, ℕ, ◌++◌, ◌<◌, ◌∙◌, ◌∷◌, ◌≡◌}
use Rattle.sudoers_match_list.proofs.Places.{missing_element_implies_index_past_end, read_element_is_mapped_at_its_index, mapped_list_keeps_length}
use Rattle.sudoers_match_list.proofs.Walking.{last_within}
use Rattle.sudoers_match_list.proofs.Steps.{step_closed, step_said, step_decided, step_entered, step_cycle}
use Rattle.sudoers_match_list.proofs.alias_verdicts.AliasVerdictCache.advance_unless_cycle_is_met.Goals as goal
use Rattle.sudoers_match_list.proofs.alias_verdicts.AliasVerdictCache.advance_unless_cycle_is_met.Goals.{In-Some}

pub index_mut-requires : goal.index_mut-requires
index_mut-requires g c =
    let self = c.args.self.now in
    omega (arith, c.requires.size, last_within c.args.kind c.args.numbers.now.walk (g.K.MemberKind.test c.args.asked.now) self.standings.items self.way.items c.args.step.now c.requires)

pub returns-in_default-clause-step : goal.returns-in_default-clause-step
returns-in_default-clause-step g c _ =
    let self = c.args.self.now in
    let s = c.args.step.now in
    let are = (c.requires.steps (length self.way.items) s (get_pushed self.way.items s)).members_are in
    let end = missing_element_implies_index_past_end s.next (length s.members.rows.now) c.get.result c.get.ensures.lookup.0 c.in_default.is in
    step_closed c.args.kind c.args.numbers.now.walk (g.K.MemberKind.test c.args.asked.now) self.standings.items self.way.items c.args.step.now c.requires
    (omega (arith, ap length are, mapped_list_keeps_length (member_in_tables s.members.tables.now) s.members.rows.now, end))

module _ (g : Rattle.sudoers_match_list.proofs.alias_verdicts.AliasVerdictCache.advance_unless_cycle_is_met.Given.Over) (c : In-Some g) where
  member_at : slice_get (members_of_definition_number c.args.numbers.now.walk c.args.step.now.alias) c.args.step.now.next
      ≡ Some (member_in_tables c.args.step.now.members.tables.now c.in-Some.row.now)
  member_at =
      let self = c.args.self.now in
      let s = c.args.step.now in
      let are = (c.requires.steps (length self.way.items) s (get_pushed self.way.items s)).members_are in
      ap (λ ms. slice_get ms s.next) (sym are)
      ∙ read_element_is_mapped_at_its_index (member_in_tables s.members.tables.now) s.members.rows.now s.next c.get.result c.in-Some.row c.get.ensures.lookup.0 c.get.ensures.lookup.1 c.in-Some.is

  stands_so : (k : ℕ) (s : AliasDecisionState) → k < length (definitions_of_lines c.args.numbers.now.walk) → s ≡ get_or c.args.self.now.standings.items k s
      → slice_get c.args.self.now.standings.items k ≡ Some s
  stands_so k s within is =
      slice_get_read c.args.self.now.standings.items (length (definitions_of_lines c.args.numbers.now.walk)) k s (sym c.requires.size) within is

pub returns-in_default-find_alias_of_atom-clause-step : goal.returns-in_default-find_alias_of_atom-clause-step
returns-in_default-find_alias_of_atom-clause-step g c _ =
    let self = c.args.self.now in
    let some = (goal.at.returns-in_default-find_alias_of_atom-clause-step g c).In-Some in
    let way = c.in_ok-go_on_to_next_member.ensures.way ∙ ap (λ h. self.way.items ++ step_after_member c.args.step.now h ∷ []) c.hit_of_member.ensures in
    step_said c.args.kind c.args.numbers.now.walk (g.K.MemberKind.test c.args.asked.now) self.standings.items self.way.items c.args.step.now c.requires (member_of_view c.member_of_row-member.result)
    (member_at g some ∙ ap Some (sym c.member_of_row-member.ensures))
    (sym c.find_alias_of_atom.ensures.number ∙ ap (option_map (λ (a : AliasNumberAndMembers). a.number)) c.in_default-find_alias_of_atom.is)
    c.go_on_to_next_member.new.self.standings.items c.go_on_to_next_member.new.self.way.items c.in_ok-go_on_to_next_member.ensures.standings way

pub returns-in_ok-go_on_to_next_member-in-Decided-clause-step : goal.returns-in_ok-go_on_to_next_member-in-Decided-clause-step
returns-in_ok-go_on_to_next_member-in-Decided-clause-step g c _ =
    let self = c.args.self.now in
    let some = (goal.at.returns-in_ok-go_on_to_next_member-in-Decided-clause-step g c).In-Some in
    let alias = c.in-Some-find_alias_of_atom.alias in
    let way = c.in_ok-go_on_to_next_member-in-Decided.ensures.way ∙ ap (λ h. self.way.items ++ step_after_member c.args.step.now h ∷ []) c.flip_hit_if_negated.ensures in
    step_decided c.args.kind c.args.numbers.now.walk (g.K.MemberKind.test c.args.asked.now) self.standings.items self.way.items c.args.step.now c.requires (member_of_view c.member_of_row-member.result)
    (member_at g some ∙ ap Some (sym c.member_of_row-member.ensures)) alias.number c.in-Decided.hit
    (sym c.find_alias_of_atom.ensures.number ∙ ap (option_map (λ (a : AliasNumberAndMembers). a.number)) c.in-Some-find_alias_of_atom.is)
    (stands_so g some alias.number c.index.result.now c.in-Some-find_alias_of_atom.ensures.alias.within c.index.ensures ∙ ap Some c.in-Decided.is)
    c.go_on_to_next_member-in-Decided.new.self.standings.items c.go_on_to_next_member-in-Decided.new.self.way.items c.in_ok-go_on_to_next_member-in-Decided.ensures.standings way

pub returns-in_ok-enter-in-New-clause-step : goal.returns-in_ok-enter-in-New-clause-step
returns-in_ok-enter-in-New-clause-step g c _ =
    let self = c.args.self.now in
    let some = (goal.at.returns-in_ok-enter-in-New-clause-step g c).In-Some in
    let alias = c.in-Some-find_alias_of_atom.alias in
    step_entered c.args.kind c.args.numbers.now.walk (g.K.MemberKind.test c.args.asked.now) self.standings.items self.way.items c.args.step.now c.requires (member_of_view c.member_of_row-member.result)
    (member_at g some ∙ ap Some (sym c.member_of_row-member.ensures)) alias
    (sym c.find_alias_of_atom.ensures.number ∙ ap (option_map (λ (a : AliasNumberAndMembers). a.number)) c.in-Some-find_alias_of_atom.is)
    c.in-Some-find_alias_of_atom.ensures.alias
    (stands_so g some alias.number c.index.result.now c.in-Some-find_alias_of_atom.ensures.alias.within c.index.ensures ∙ ap Some c.in-New.is)
    c.push.new.self.items c.enter.new.self.standings.items c.enter.new.self.way.items c.in_ok-push-in-New.ensures.items
    c.in_ok-enter-in-New.ensures.standings c.in_ok-enter-in-New.ensures.way

pub returns-in-Open-clause-cycle : goal.returns-in-Open-clause-cycle
returns-in-Open-clause-cycle g c _ =
    let self = c.args.self.now in
    let some = (goal.at.returns-in-Open-clause-cycle g c).In-Some in
    let alias = c.in-Some-find_alias_of_atom.alias in
    step_cycle c.args.kind c.args.numbers.now.walk (g.K.MemberKind.test c.args.asked.now) self.standings.items self.way.items c.args.step.now c.requires (member_of_view c.member_of_row-member.result)
    (member_at g some ∙ ap Some (sym c.member_of_row-member.ensures)) alias
    (sym c.find_alias_of_atom.ensures.number ∙ ap (option_map (λ (a : AliasNumberAndMembers). a.number)) c.in-Some-find_alias_of_atom.is)
    (stands_so g some alias.number c.index.result.now c.in-Some-find_alias_of_atom.ensures.alias.within c.index.ensures ∙ ap Some c.in-Open.is)
