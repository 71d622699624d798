use Rattle.std.proofs.Common.{sym, ◌∙◌}
use Rattle.sudoers_review.proofs.SilentChanges.{silent_changes_have_same_rows, silent_changes_have_same_settings}
use Rattle.sudoers_review.proofs.laws.silent_changes_answer_same.Goals as goal

pub returns-clause-answer : goal.returns-clause-answer
returns-clause-answer c old new valid valid_too straight straight_too is =
    let content = c.placed_rows_are_content.ensures in
    c.equal_rows_and_settings_answer_same.ensures.answer old.walk.lines new.walk.lines valid valid_too straight straight_too
    (sym (content old.walk.lines) ∙ silent_changes_have_same_rows old new is ∙ content new.walk.lines) (silent_changes_have_same_settings old new is)

pub returns-clause-default : goal.returns-clause-default
returns-clause-default c old new valid valid_too straight straight_too is =
    let content = c.placed_rows_are_content.ensures in
    c.equal_rows_and_settings_answer_same.ensures.default old.walk.lines new.walk.lines valid valid_too straight straight_too
    (sym (content old.walk.lines) ∙ silent_changes_have_same_rows old new is ∙ content new.walk.lines) (silent_changes_have_same_settings old new is)
