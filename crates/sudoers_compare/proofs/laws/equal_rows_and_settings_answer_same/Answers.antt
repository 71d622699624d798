use Rattle.laws_compare.specs.Computed.{content_of_lines}
use Rattle.sudoers_compare.proofs.EqualContents.{content_is_effect, equal_content_is_effect}
use Rattle.sudoers_compare.proofs.laws.equal_rows_and_settings_answer_same.Goals as goal

pub returns-clause-answer : goal.returns-clause-answer
returns-clause-answer c lines others walk other_walk straight other_straight same_rows same_settings =
    c.same_effect_answers_same.ensures.answer lines others (content_of_lines others)
    (equal_content_is_effect lines (content_of_lines lines) (content_of_lines others) same_rows same_settings (c.content_is.ensures lines walk straight))
    (content_is_effect others (content_of_lines others) (c.content_is.ensures others other_walk other_straight))

pub returns-clause-default : goal.returns-clause-default
returns-clause-default c lines others walk other_walk straight other_straight same_rows same_settings =
    c.same_effect_answers_same.ensures.default lines others (content_of_lines others)
    (equal_content_is_effect lines (content_of_lines lines) (content_of_lines others) same_rows same_settings (c.content_is.ensures lines walk straight))
    (content_is_effect others (content_of_lines others) (c.content_is.ensures others other_walk other_straight))
