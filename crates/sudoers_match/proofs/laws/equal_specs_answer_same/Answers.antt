use Rattle.sudoers_match.proofs.SpecsEqual.{equal_specs_answer}
use Rattle.sudoers_match.proofs.laws.equal_specs_answer_same.Goals as goal

pub returns : goal.returns
returns c write lines others hits defaults specs = equal_specs_answer c.alike_lists_say_same.ensures write lines others hits specs defaults
