use Rattle.sudoers_tree.proofs.Common.{IsPolicyOrFirstFaultOfText, Ok, subst, texts_of_lines}
use Rattle.sudoers_tree.proofs.SaidLines.{parsed_lines_are_read_as_single_lines}
use Rattle.sudoers_tree.proofs.laws.lines_are_said.Goals as goal

pub returns : goal.returns
returns c = λ text lines is.
    let outcome : IsPolicyOrFirstFaultOfText text (Ok lines) = subst (IsPolicyOrFirstFaultOfText text) is (c.read_is.ensures text) in
    parsed_lines_are_read_as_single_lines c.line_alone_is_whole.ensures.whole c.outcome_is.ensures c.one_reading.ensures c.no_fault.ensures lines
    (c.lines_stand_alone.ensures text (texts_of_lines lines) (c.policy_is_cut.ensures text lines is)).0 outcome.0.walk.says
