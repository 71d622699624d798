use Rattle.std.proofs.Common.{subst}
use Rattle.laws_compare.specs.Effective.{grants_for_user_on_host}
use Rattle.laws_compare.specs.Granted.{AreGrantsForUserOnHost}
use Rattle.laws_compare.proofs.laws.equal_grants_answer_same.Goals as goal

pub returns : goal.returns
returns c lines others walk other_walk straight other_straight request same =
    c.same_grants_answer_same.ensures lines others request (grants_for_user_on_host others request.who)
    (subst (AreGrantsForUserOnHost lines request.who) same (c.effect_is.ensures.granted lines walk straight request.who))
    (c.effect_is.ensures.granted others other_walk other_straight request.who)
