use Rattle.laws_compare.proofs.ComputedEffects.{computed_effect_is_effect_of_policy, computed_grants_are_grants_for_user_on_host}
use Rattle.laws_compare.proofs.laws.effect_is.Goals as goal

pub returns-clause-effect : goal.returns-clause-effect
returns-clause-effect c lines walk straight = computed_effect_is_effect_of_policy lines (c.content_is.ensures lines walk straight)

pub returns-clause-granted : goal.returns-clause-granted
returns-clause-granted c lines walk straight who = computed_grants_are_grants_for_user_on_host c.one_flat.ensures lines who (c.content_is.ensures lines walk straight)
