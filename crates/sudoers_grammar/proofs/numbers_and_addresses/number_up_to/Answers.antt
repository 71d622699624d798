use Rattle.std.proofs.Common.{◌<◌, ◌+◌, ◌*◌, arith, ap, ◌∙◌}
use Rattle.sudoers_grammar.proofs.Numbers.{number_above_limit_at_digit_is_none}
use Rattle.sudoers_grammar.proofs.numbers_and_addresses.number_up_to.Goals as goal

pub returns-then-number-from-clause-value : goal.returns-then-number-from-clause-value
returns-then-number-from-clause-value c =
    number_above_limit_at_digit_is_none c.args.limit c.args.digits.now c.loop-digit.digit-index c.loop-digit.number (c.loop-digit.number * 10 + c.from.result)
    c.loop-digit-test.true c.loop-digit.invariant.so_far
    (ap (λ n. c.loop-digit.number * 10 + n) (c.from.ensures ∙ c.saturating_sub.ensures))
    (let over : c.args.limit < c.loop-digit.number * 10 + c.from.result = omega (arith, c.if-number-from.true, c.from-in-loop-digit.ensures) in over)
