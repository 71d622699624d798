use Rattle.sudoers_edit.proofs.Common.{Swap, [], line_texts_of_file, lines_with_one_replaced, single_swap_is_replacement, ◌∷◌}
use Rattle.sudoers_edit.proofs.PlanLemmas.{changes_making_its_lines_are_of_edit, plan_of_these_changes_is_of_edit, swap_of_logical_line_changes_file}
use Rattle.sudoers_edit.proofs.LawsApplied.{one_file_changes_law_holds}
use Rattle.sudoers_edit.proofs.edit_plan.plan_swap_change.Goals as goal

pub returns : goal.returns
returns c = λ edit back policy loaded within whole lands.
    let change = Swap c.args.file c.args.at c.args.text in
    plan_of_these_changes_is_of_edit c.plan_single_change.result edit c.args.inverse policy (change ∷ [])
    (changes_making_its_lines_are_of_edit one_file_changes_law_holds edit back c.args.inverse policy c.args.file (lines_with_one_replaced c.args.at c.args.text (line_texts_of_file policy c.args.file)) (change ∷ []) loaded
    (swap_of_logical_line_changes_file c.args.file c.args.at c.args.text (line_texts_of_file policy c.args.file) within whole)
    (single_swap_is_replacement (line_texts_of_file policy c.args.file) c.args.file c.args.at c.args.text within) lands)
    c.plan_single_change.ensures.changes c.plan_single_change.ensures.inverse
