-- The time stamps that bound a command (sudoers(5), Date_Spec).
use Rattle.std.specs.Prelude.{ℕ, ◌&&◌, nat_le, Bool, true, List, Option, Some, None}
use Rattle.sudoers_match_member.specs.Moment.{zero_filled_number_of_stamp}
use Rattle.sudoers_match.specs.Values.{OptionValues}

abbrev pub is_not_before_stamp : ℕ → Option (List ℕ) → Bool
is_not_before_stamp moment None = true
is_not_before_stamp moment (Some stamp) = nat_le (zero_filled_number_of_stamp stamp) moment

abbrev pub is_not_after_stamp : ℕ → Option (List ℕ) → Bool
is_not_after_stamp moment None = true
is_not_after_stamp moment (Some stamp) = nat_le moment (zero_filled_number_of_stamp stamp)

-- The moment is not before NOTBEFORE and not after NOTAFTER; both ends count.
abbrev pub is_in_option_time_bounds : ℕ → OptionValues → Bool
is_in_option_time_bounds moment options = is_not_before_stamp moment options.notbefore && is_not_after_stamp moment options.notafter
