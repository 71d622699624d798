use Rattle.std.proofs.Common.{Ok, ◌∷◌, [], subst}
use Rattle.sudoers_text.specs.Fault.{IsOutcomeOfCut}
use Rattle.sudoers_text.specs.Cut.{cut_outcome_of_text}
use Rattle.sudoers_text.proofs.WholeAlone.{faultless_cut_into_itself_is_logical_line, short_logical_line_has_faultless_cut}
use Rattle.sudoers_text.proofs.laws.line_alone_is_whole.Goals as goal

pub returns-clause-whole : goal.returns-clause-whole
returns-clause-whole c = λ line is.
    c.whole_line_is.ensures.told line (faultless_cut_into_itself_is_logical_line line (subst (IsOutcomeOfCut line) is (c.cut_is.ensures line)))

pub returns-clause-alone : goal.returns-clause-alone
returns-clause-alone c = λ line is fits.
    c.one_outcome.ensures line (cut_outcome_of_text line) (Ok (line ∷ [])) (c.cut_is.ensures line)
    (short_logical_line_has_faultless_cut line (c.whole_line_is.ensures.tells line is) fits)
