use Rattle.sudoers_tree.proofs.Common.{IsFaultlessCut, IsPolicyOrFirstFaultOfText, Ok, cut_outcome_of_text, subst, texts_of_lines}
use Rattle.sudoers_tree.proofs.laws.policy_is_cut.Goals as goal

pub returns : goal.returns
returns c = λ text lines is.
    let outcome : IsPolicyOrFirstFaultOfText text (Ok lines) = subst (IsPolicyOrFirstFaultOfText text) is (c.read_is.ensures text) in
    c.one_outcome.ensures text (cut_outcome_of_text text) (Ok (texts_of_lines lines)) (c.cut_is.ensures text)
    (subst (λ t. IsFaultlessCut t (texts_of_lines lines)) outcome.1 outcome.0.cut)
