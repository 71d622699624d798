use Rattle.sudoers_match.proofs.Common.{members_of_view}
use Rattle.sudoers_match_list.proofs.Said.{one}
use Rattle.sudoers_match.proofs.Said.{not_allowed}
use Rattle.sudoers_match.proofs.allowing.is_allowed_by_list.Goals as goal

pub returns-in_default : goal.returns-in_default
returns-in_default g c =
    let kd = c.args.kind in
    let lines = c.args.policy.now in
    let test = g.K.MemberKind.test c.args.asked.now in
    let ms = members_of_view c.args.members.now in
    record {
      kept = c.in_ok-hit.ensures.kept;
      allowed = not_allowed kd lines test ms (one kd lines test ms) c.in_ok-hit.hit c.from_last_hit.result c.in_ok-hit.ensures.hit c.from_last_hit.ensures c.in_default.not-Allow;
    }
