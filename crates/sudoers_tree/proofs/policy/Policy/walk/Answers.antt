use Rattle.sudoers_tree.proofs.Common.{AreValidWalkLines, Line, List, file_limit, join, length, named_files_of_policy, subst, sym, text_limit, texts_of_lines, ◌*◌, ◌≤◌}
use Rattle.sudoers_tree.proofs.Known.{equal_policy_of_walked_files_is_loaded, loaded_walk_lines_are_valid, loaded_walk_is_distinct_and_within_limit}
use Rattle.sudoers_tree.proofs.policy.Policy.walk.Goals as goal

pub from_rows_and_index-requires-clause-walk : goal.from_rows_and_index-requires-clause-walk
from_rows_and_index-requires-clause-walk c =
    let loaded = equal_policy_of_walked_files_is_loaded c.self.inside.walked.value c.args.self.now c.self.view_is c.self.invariant.1 in
    subst AreValidWalkLines (sym c.rows_of_walk.ensures.shown) (loaded_walk_lines_are_valid (named_files_of_policy c.args.self.now) c.args.self.now loaded)

pub from_rows_and_index-requires-clause-within : goal.from_rows_and_index-requires-clause-within
from_rows_and_index-requires-clause-within c =
    let loaded = equal_policy_of_walked_files_is_loaded c.self.inside.walked.value c.args.self.now c.self.view_is c.self.invariant.1 in
    subst (λ (lines : List Line). length (join (texts_of_lines lines)) ≤ file_limit * text_limit) (sym c.rows_of_walk.ensures.shown)
    (loaded_walk_is_distinct_and_within_limit (named_files_of_policy c.args.self.now) c.args.self.now loaded).1
