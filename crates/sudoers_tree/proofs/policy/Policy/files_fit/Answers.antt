use Rattle.sudoers_tree.proofs.Known.{lines_of_policy_files_fit_text_limit}
use Rattle.sudoers_tree.proofs.policy.Policy.files_fit.Goals as goal

pub returns : goal.returns
returns c = lines_of_policy_files_fit_text_limit c.self.inside.walked.value c.args.self.now c.self.view_is c.self.invariant.0
