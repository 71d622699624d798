use Rattle.sudoers_line_rows.proofs.LastRow.{stop_of_last_row_is_list_stop}
use Rattle.sudoers_line_rows.proofs.view.stop_of_last_row.Goals as goal

pub returns-in-Some : goal.returns-in-Some
returns-in-Some c = λ t. stop_of_last_row_is_list_stop t c.args.members.now c.in-Some.last.now c.in-Some.ensures.value
