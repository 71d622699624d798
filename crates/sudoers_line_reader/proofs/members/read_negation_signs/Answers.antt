use Rattle.std.proofs.Common.{sym, ◌∙◌}
use Rattle.sudoers_line_reader.proofs.Loops.{negation_reader_is_repetition, negation_sign_toggles_and_goes_on, signs_end_before_other_token}
use Rattle.sudoers_line_reader.proofs.members.read_negation_signs.Goals as goal

pub loop-cursor-init : goal.loop-cursor-init
loop-cursor-init c = negation_reader_is_repetition c.args.cursor.now

pub loop-cursor-preserved : goal.loop-cursor-preserved
loop-cursor-preserved c =
    c.loop-cursor.invariant ∙ negation_sign_toggles_and_goes_on c.loop-cursor.negated c.loop-cursor.cursor c.pass_next_token.new.self (sym c.is_at_mark.ensures ∙ c.loop-cursor-test.true) c.pass_next_token.ensures

pub returns : goal.returns
returns c = c.loop-cursor.invariant ∙ signs_end_before_other_token c.loop-cursor.negated c.loop-cursor.cursor (sym c.is_at_mark.ensures ∙ c.loop-cursor-test.false)
