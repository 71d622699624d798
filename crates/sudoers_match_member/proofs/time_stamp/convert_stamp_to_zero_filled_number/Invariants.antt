use Rattle.std.proofs.Common.{◌≡◌, ◌≤◌, ◌<◌, ◌-◌, ◌^◌, drop}
use Rattle.sudoers_match_member.specs.Moment.{number_extended_by_digits, zero_filled_number_of_stamp}
use Rattle.sudoers_match_member.proofs.time_stamp.convert_stamp_to_zero_filled_number.Given as goal

abbrev pub invariant-loop-place : goal.invariant-loop-place
invariant-loop-place l = record {
  within : l.place ≤ 14;
  small : l.number < 10 ^ l.place;
  number : number_extended_by_digits (14 - l.place) l.number (drop l.place l.stamp) ≡ zero_filled_number_of_stamp l.stamp;
}
