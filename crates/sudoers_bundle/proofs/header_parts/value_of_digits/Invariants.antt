use Rattle.std.proofs.Common.{◌≡◌, ◌≤◌, ◌+◌, ◌*◌, ◌^◌, drop}
use Rattle.sudoers_bundle.specs.Bundle.{value_with_more_digits}
use Rattle.sudoers_bundle.proofs.header_parts.value_of_digits.Given as goal

abbrev pub invariant-loop-digit : goal.invariant-loop-digit
invariant-loop-digit l = (l.value + 23 ≤ 23 * 10 ^ l.digit-index) × (value_with_more_digits l.value (drop l.digit-index l.digits) ≡ value_with_more_digits 0 l.digits)
