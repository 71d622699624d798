use Rattle.sudoers_cvt_rewrite.proofs.Common.{IsLastHitOfList, IsLastHitOrCycleOfList, subst}
use Rattle.sudoers_line_rows.specs.View.{members_of_view}
use Rattle.sudoers_cvt_rewrite.proofs.Latest.{last_hit_is_that_of_expanded_list}
use Rattle.sudoers_cvt_rewrite.proofs.values_matcher.find_filter_hit.Goals as goal

pub returns-clause-hit : goal.returns-clause-hit
returns-clause-hit g c =
    let kind = c.args.kind in
    let test = g.K.MemberKind.test c.args.asked.now in
    let ms = members_of_view c.args.members.now in
    let hit = c.in-Latest.hit in
    let judged = subst (IsLastHitOrCycleOfList kind c.definition_numbers.result.now.walk test ms c.find_last_hit.new.self) c.in-Latest.is c.in_ok-hit.ensures in
    last_hit_is_that_of_expanded_list kind c.args.policy.now test ms hit (subst (λ lines. IsLastHitOfList kind lines test ms hit) c.definition_numbers.ensures judged.1)
