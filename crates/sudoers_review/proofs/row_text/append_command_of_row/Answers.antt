use Rattle.std.proofs.Common.{◌++◌, List, ℕ, ap, ◌∙◌}
use Rattle.std.proofs.lemmas.Result.{on_ok_weaker}
use Rattle.sudoers_list.proofs.Passing.{value_on_ok_is_first_choice}
use Rattle.sudoers_review.proofs.RowTexts.{settings_of_row_are_printed_as_its_grant}
use Rattle.sudoers_review.proofs.row_text.append_command_of_row.Goals as goal

pub returns : goal.returns
returns c =
    let row = c.args.row.now in
    let o = c.args.out.now.items in
    let held = c.settings_of_row.ensures in
    let every = c.in_ok-command.ensures.every in
    let same = every.2 ∙ settings_of_row_are_printed_as_its_grant c.settings_of_row.result row every.0 every.1 held.runas held.options held.tags in
    on_ok_weaker c.extend_from_slice.result (λ e. e ∙ ap (λ (text : List ℕ). o ++ text) (c.as_slice.ensures.value ∙ same))
    (value_on_ok_is_first_choice c.extend_from_slice.result c.extend_from_slice.new.self.items (o ++ c.as_slice.result.now) o c.extend_from_slice.ensures.items)
