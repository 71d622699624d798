use Rattle.laws_compare.proofs.ComputedContents.{computed_content_is_content_of_policy}
use Rattle.laws_compare.proofs.laws.content_is.Goals as goal

pub returns : goal.returns
returns c = λ lines walk straight. computed_content_is_content_of_policy c.flat_or_cycle.ensures c.flattened_is_flat.ensures lines walk straight
