use Rattle.sudoers_tree.proofs.Common.{AreLinesAtSpots, LoadedPolicy, Ok, WalkedFiles, named_files_of_policy, policy_of_walked_files, policy_or_load_fault, ◌≡◌}
use Rattle.sudoers_tree.proofs.Placed.{walk_line_has_bounded_spot, lines_at_spots_have_count_of_spots}
use Rattle.sudoers_tree.proofs.Known.{lines_of_policy_files_fit_text_limit, equal_policy_of_walked_files_is_loaded, loaded_walk_lines_are_at_their_spots}
use Rattle.sudoers_tree.proofs.policy.Policy.lines_stand.Goals as goal

stand : (w : WalkedFiles) (policy : LoadedPolicy) → policy_of_walked_files w ≡ policy → policy_or_load_fault (named_files_of_policy (policy_of_walked_files w)) ≡ Ok (policy_of_walked_files w)
    → AreLinesAtSpots policy.files policy.walk.spots policy.walk.lines
stand w policy same is = loaded_walk_lines_are_at_their_spots (named_files_of_policy policy) policy (equal_policy_of_walked_files_is_loaded w policy same is)

pub returns-clause-count : goal.returns-clause-count
returns-clause-count c =
    lines_at_spots_have_count_of_spots c.args.self.now.files c.args.self.now.walk.spots c.args.self.now.walk.lines
    (stand c.self.inside.walked.value c.args.self.now c.self.view_is c.self.invariant.1)

pub returns-clause-stand : goal.returns-clause-stand
returns-clause-stand c = λ number line at.
    walk_line_has_bounded_spot c.args.self.now (lines_of_policy_files_fit_text_limit c.self.inside.walked.value c.args.self.now c.self.view_is c.self.invariant.0)
    (stand c.self.inside.walked.value c.args.self.now c.self.view_is c.self.invariant.1) number line at
