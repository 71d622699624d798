use Rattle.sudoers_compare.proofs.PlacedRows.{rows_of_policy_are_its_content}
use Rattle.sudoers_compare.proofs.laws.placed_rows_are_content.Goals as goal

pub returns : goal.returns
returns c = rows_of_policy_are_its_content
