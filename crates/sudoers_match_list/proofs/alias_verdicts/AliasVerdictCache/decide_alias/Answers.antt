use Rattle.sudoers_match_list.proofs.Common.{IsConsistentAliasSearch, IsSearchFromAlias, New, Some, [], ap, append-nil, definitions_of_lines, length, rules, slice_get, slice_get_read, subst, sym, ◌∙◌, ◌≡◌}
use Rattle.sudoers_match_list.proofs.Whole.{begun, begun_met, finds, is_decided}
use Rattle.sudoers_match_list.proofs.alias_verdicts.AliasVerdictCache.decide_alias.Goals as goal
use Rattle.sudoers_match_list.proofs.alias_verdicts.AliasVerdictCache.decide_alias.Goals.{in-New+in_ok-enter, in_default}

pub loop-step-init : goal.loop-step-init
loop-step-init g c =
    let kd = c.args.kind in
    let lines = c.args.numbers.now.walk in
    let test = g.K.MemberKind.test c.args.asked.now in
    let self = c.args.self.now in
    let stand : slice_get self.standings.items c.args.alias.now.number ≡ Some c.index.result.now =
    slice_get_read self.standings.items (length (definitions_of_lines lines)) c.args.alias.now.number c.index.result.now (sym c.requires.verdicts.1.size) c.requires.alias.within c.index.ensures in
    elim c.match-index.branch [
      | in-New+in_ok-enter w ↦ subst (IsSearchFromAlias kd lines test c.args.alias.now.number) (sym w.self-is) (begun kd lines test self w.enter.new.self c.args.alias.now c.requires.verdicts c.requires.alias (stand ∙ ap Some w.in-New.is) w.in_ok-enter.ensures)
      | in_default w ↦ subst (IsSearchFromAlias kd lines test c.args.alias.now.number) (sym w.self-is) (begun_met kd lines test self c.args.alias.now.number c.requires.verdicts
          (λ e. w.in_default.not-New (let two : Some c.index.result.now ≡ Some New = sym stand ∙ e in cc)))
    ]

pub returns-then-not-branch : goal.returns-then-not-branch
returns-then-not-branch g c =
    finds c.args.kind c.args.numbers.now.walk (g.K.MemberKind.test c.args.asked.now) c.loop-step.self c.args.alias.now.number c.in-Some.step c.pop.new.self.items c.loop-step.invariant c.in-Some.ensures.items
    (c.in_ok-advance_unless_cycle_is_met.ensures.cycle c.if-not-branch.true)

pub returns-in-Decided : goal.returns-in-Decided
returns-in-Decided g c =
    let kd = c.args.kind in
    let lines = c.args.numbers.now.walk in
    let test = g.K.MemberKind.test c.args.asked.now in
    let self = c.loop-step.self in
    let left : c.pop.new.self.items ≡ [] = search rules in
    let none : self.way.items ≡ [] = c.in_default-pop.ensures.items ∙ append-nil c.pop.new.self.items ∙ left in
    let kept : IsConsistentAliasSearch kd lines test self.standings.items [] = subst (IsConsistentAliasSearch kd lines test self.standings.items) none c.loop-step.invariant.kept in
    let stand : slice_get self.standings.items c.args.alias.now.number ≡ Some c.index-2.result.now =
    slice_get_read self.standings.items (length (definitions_of_lines lines)) c.args.alias.now.number c.index-2.result.now (sym kept.size) c.requires.alias.within c.index-2.ensures in
    ((left, kept), kept.decided c.args.alias.now.number c.in-Decided.hit (stand ∙ ap Some c.in-Decided.is))

pub returns-in_default-index : goal.returns-in_default-index
returns-in_default-index g c =
    let kd = c.args.kind in
    let lines = c.args.numbers.now.walk in
    let test = g.K.MemberKind.test c.args.asked.now in
    let self = c.loop-step.self in
    let left : c.pop.new.self.items ≡ [] = search rules in
    let none : self.way.items ≡ [] = c.in_default-pop.ensures.items ∙ append-nil c.pop.new.self.items ∙ left in
    let kept : IsConsistentAliasSearch kd lines test self.standings.items [] = subst (IsConsistentAliasSearch kd lines test self.standings.items) none c.loop-step.invariant.kept in
    let stand : slice_get self.standings.items c.args.alias.now.number ≡ Some c.index-2.result.now =
    slice_get_read self.standings.items (length (definitions_of_lines lines)) c.args.alias.now.number c.index-2.result.now (sym kept.size) c.requires.alias.within c.index-2.ensures in
    absurd (is_decided kd lines test self.standings.items c.args.alias.now.number c.index-2.result.now kept c.loop-step.invariant.alias_met stand c.in_default-index.not-Decided)
