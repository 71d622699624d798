use Rattle.std.proofs.Common.{◌<◌, ◌+◌, ◌*◌, arith, ap, ◌∙◌}
use Rattle.sudoers_defaults.proofs.Numbers.{extended_number_above_limit}
use Rattle.sudoers_defaults.proofs.number_values.extend_number_up_to.Goals as goal

pub returns-then-number-limit-clause-value : goal.returns-then-number-limit-clause-value
returns-then-number-limit-clause-value c =
    extended_number_above_limit c.args.limit c.args.front c.args.digits.now c.loop-digit.digit-index c.loop-digit.number (c.loop-digit.number * 10 + c.from.result)
    c.loop-digit-test.true c.loop-digit.invariant.so_far
    (ap (λ n. c.loop-digit.number * 10 + n) (c.from.ensures ∙ c.saturating_sub.ensures))
    (let over : c.args.limit < c.loop-digit.number * 10 + c.from.result = omega (arith, c.if-number-limit.true) in over)
