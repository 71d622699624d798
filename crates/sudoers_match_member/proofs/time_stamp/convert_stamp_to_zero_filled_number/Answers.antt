use Rattle.std.proofs.Common.{◌+◌, ◌-◌, ◌*◌, drop, ap, ◌∙◌, arith}
use Rattle.sudoers_match_member.specs.Moment.{number_extended_by_digits}
use Rattle.sudoers_match_member.proofs.Stamps.{partial_stamp_number_stays_right_after_digit, number_with_digit_is_below_next_power, partial_stamp_number_is_below_limit}
use Rattle.sudoers_match_member.proofs.time_stamp.convert_stamp_to_zero_filled_number.Goals as goal

pub overflow_mul-number : goal.overflow_mul-number
overflow_mul-number c =
    let small = partial_stamp_number_is_below_limit c.loop-place.place c.loop-place.number c.loop-place-test.true c.loop-place.invariant.small in
    omega (arith, small)

pub overflow_add-number : goal.overflow_add-number
overflow_add-number c =
    let small = partial_stamp_number_is_below_limit c.loop-place.place c.loop-place.number c.loop-place-test.true c.loop-place.invariant.small in
    omega (arith, small, c.stamp_digit_at.ensures.small)

pub loop-place-preserved : goal.loop-place-preserved
loop-place-preserved c = record {
  within = omega (arith, c.loop-place-test.true);
  small = number_with_digit_is_below_next_power c.loop-place.place c.loop-place.number c.stamp_digit_at.result c.loop-place.invariant.small c.stamp_digit_at.ensures.small;
  number = ap (λ d. number_extended_by_digits (14 - (c.loop-place.place + 1)) (c.loop-place.number * 10 + d) (drop (c.loop-place.place + 1) c.args.stamp.now)) c.stamp_digit_at.ensures.digit
      ∙ partial_stamp_number_stays_right_after_digit c.args.stamp.now c.loop-place.place c.loop-place.number c.loop-place-test.true c.loop-place.invariant.number;
}
