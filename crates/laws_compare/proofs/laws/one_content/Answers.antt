use Rattle.laws_compare.proofs.SameContents.{content_of_policy_is_unique}
use Rattle.laws_compare.proofs.laws.one_content.Goals as goal

pub returns : goal.returns
returns c = content_of_policy_is_unique c.one_flat.ensures
