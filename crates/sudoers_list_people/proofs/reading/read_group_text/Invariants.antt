use Rattle.std.proofs.Common.{drop}
use Rattle.sudoers_list_people.specs.internal.Slices.{texts_of_view}
use Rattle.sudoers_list_people.specs.Rows.{group_file_row_of_text}
use Rattle.sudoers_list_people.specs.People.{has_same_group_name, rows_of_file_text}
use Rattle.sudoers_list_people.proofs.Firsts.{AreRowsReadSoFar}
use Rattle.sudoers_list_people.proofs.reading.read_group_text.Given as goal

abbrev pub invariant-loop-at : goal.invariant-loop-at
invariant-loop-at l =
    AreRowsReadSoFar has_same_group_name group_file_row_of_text (λ x. x.name) (rows_of_file_text l.text) (texts_of_view (drop l.at l.row-items)) l.at l.groups.items l.seen
