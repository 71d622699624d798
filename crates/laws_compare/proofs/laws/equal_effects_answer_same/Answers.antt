use Rattle.std.proofs.Common.{subst}
use Rattle.laws_compare.specs.Covers.{IsEffectOfPolicy}
use Rattle.laws_compare.specs.Effective.{effect_of_lines}
use Rattle.laws_compare.proofs.laws.equal_effects_answer_same.Goals as goal

pub returns-clause-answer : goal.returns-clause-answer
returns-clause-answer c lines others walk other_walk straight other_straight same =
    c.same_effect_answers_same.ensures.answer lines others (effect_of_lines others)
    (subst (IsEffectOfPolicy lines) same (c.effect_is.ensures.effect lines walk straight)) (c.effect_is.ensures.effect others other_walk other_straight)

pub returns-clause-default : goal.returns-clause-default
returns-clause-default c lines others walk other_walk straight other_straight same =
    c.same_effect_answers_same.ensures.default lines others (effect_of_lines others)
    (subst (IsEffectOfPolicy lines) same (c.effect_is.ensures.effect lines walk straight)) (c.effect_is.ensures.effect others other_walk other_straight)
