use Rattle.sudoers_match_list.proofs.Common.{IsLastHitOrCycleOfAlias, IsLastHitOfList, IsValidVerdictCache, AliasNumberAndMembers, ap, later_hit_if_any, member_in_tables, member_of_view, members_of_view, option_map, subst, sym}
use Rattle.sudoers_match_list.proofs.Common.{take, ◌+◌, ◌∙◌}
use Rattle.sudoers_match_list.proofs.Flats.{empty_list_has_no_last_hit}
use Rattle.sudoers_match_list.proofs.Places.{mapped_row_is_at_its_index}
use Rattle.sudoers_match_list.proofs.Whole.{said_more, alias_more, to_cycle}
use Rattle.sudoers_match_list.proofs.alias_verdicts.AliasVerdictCache.find_last_hit.Goals as goal
use Rattle.sudoers_match_list.proofs.alias_verdicts.AliasVerdictCache.find_last_hit.Goals.{in-None, in-Some+in_ok-hit-in-Some+in-Latest}

pub loop-row-init : goal.loop-row-init
loop-row-init g c = record { verdicts = c.requires; latest = empty_list_has_no_last_hit c.args.kind c.args.numbers.now.walk (g.K.MemberKind.test c.args.asked.now) }

pub returns-in-Cyclic : goal.returns-in-Cyclic
returns-in-Cyclic g c =
    let kd = c.args.kind in let lines = c.args.numbers.now.walk in let test = g.K.MemberKind.test c.args.asked.now in
    let ms = c.args.members.now in let m = member_of_view c.member_of_row-member.result in
    to_cycle kd lines test (members_of_view ms) c.loop-row.row-index m
    (mapped_row_is_at_its_index (member_in_tables ms.tables.now) ms.rows.now c.loop-row.row-index _ c.loop-row-test.true m c.member_of_row-member.ensures)
    c.in-Some.alias.number
    (sym c.find_alias_of_atom.ensures.number ∙ ap (option_map (λ (a : AliasNumberAndMembers). a.number)) c.in-Some.is)
    (subst (IsLastHitOrCycleOfAlias kd lines test c.in-Some.alias.number c.decide_alias.new.self) c.in-Cyclic.is c.in_ok-hit-in-Some.ensures)

pub loop-row-preserved : goal.loop-row-preserved
loop-row-preserved g c =
    let kd = c.args.kind in let lines = c.args.numbers.now.walk in let test = g.K.MemberKind.test c.args.asked.now in
    let ms = c.args.members.now in let m = member_of_view c.member_of_row-member.result in let i = c.loop-row.row-index in
    let at = mapped_row_is_at_its_index (member_in_tables ms.tables.now) ms.rows.now i _ c.loop-row-test.true m c.member_of_row-member.ensures in
    let so_far = c.loop-row.invariant in
    elim c.match-find_alias_of_atom.branch [
      | in-None w ↦ record {
        verdicts = subst (IsValidVerdictCache kd lines test) (sym w.self-is) so_far.verdicts;
        latest = subst (IsLastHitOfList kd lines test (take (i + 1) (members_of_view ms))) (sym (c.choose_later_hit-latest.ensures ∙ ap (later_hit_if_any c.loop-row.latest) (w.hit-is ∙ w.hit_of_member-hit.ensures)))
            (said_more kd lines test (members_of_view ms) i m at c.loop-row.latest (sym c.find_alias_of_atom.ensures.number ∙ ap (option_map (λ (a : AliasNumberAndMembers). a.number)) w.in-None.is) so_far.latest);
      }
      | in-Some+in_ok-hit-in-Some+in-Latest w ↦
          let settled = subst (IsLastHitOrCycleOfAlias kd lines test w.in-Some.alias.number w.decide_alias.new.self) w.in-Latest.is w.in_ok-hit-in-Some.ensures in
          record {
            verdicts = subst (IsValidVerdictCache kd lines test) (sym w.self-is) settled.0;
            latest = subst (IsLastHitOfList kd lines test (take (i + 1) (members_of_view ms))) (sym (c.choose_later_hit-latest.ensures ∙ ap (later_hit_if_any c.loop-row.latest) (w.hit-is ∙ w.flip_hit_if_negated.ensures)))
                (alias_more kd lines test (members_of_view ms) i m at w.in-Some.alias.number c.loop-row.latest w.in-Latest.hit
                (sym c.find_alias_of_atom.ensures.number ∙ ap (option_map (λ (a : AliasNumberAndMembers). a.number)) w.in-Some.is) so_far.latest settled.1);
          }
    ]
