use Rattle.sudoers_edit.proofs.Common.{Take, [], line_texts_of_file, single_take_is_remove, remove, ◌∷◌}
use Rattle.sudoers_edit.proofs.PlanLemmas.{changes_making_its_lines_are_of_edit, plan_of_these_changes_is_of_edit, take_of_present_line_changes_file}
use Rattle.sudoers_edit.proofs.LawsApplied.{one_file_changes_law_holds}
use Rattle.sudoers_edit.proofs.edit_plan.plan_take_change.Goals as goal

pub returns : goal.returns
returns c = λ edit back policy loaded within lands.
    let change = Take c.args.file c.args.at in
    plan_of_these_changes_is_of_edit c.plan_single_change.result edit c.args.inverse policy (change ∷ [])
    (changes_making_its_lines_are_of_edit one_file_changes_law_holds edit back c.args.inverse policy c.args.file (remove (line_texts_of_file policy c.args.file) c.args.at) (change ∷ []) loaded
    (take_of_present_line_changes_file c.args.file c.args.at (line_texts_of_file policy c.args.file) within)
    (single_take_is_remove (line_texts_of_file policy c.args.file) c.args.file c.args.at within) lands)
    c.plan_single_change.ensures.changes c.plan_single_change.ensures.inverse
