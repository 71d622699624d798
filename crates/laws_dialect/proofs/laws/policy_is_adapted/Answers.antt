use Rattle.laws_dialect.proofs.AdaptedPolicies.{files_of_policy_are_their_adapted_files}
use Rattle.laws_dialect.proofs.laws.policy_is_adapted.Goals as goal

pub returns : goal.returns
returns c = λ files policy loaded. files_of_policy_are_their_adapted_files c.read_text_is_adapted.ensures files policy (c.loaded_files_are.ensures.bytes files policy loaded) (c.loaded_files_are_cut.ensures files policy loaded) (c.loaded_lines_are_said.ensures files policy loaded)
