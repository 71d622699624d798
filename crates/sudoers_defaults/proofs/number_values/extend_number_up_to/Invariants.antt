use Rattle.std.proofs.Common.{◌≡◌, ◌≤◌, drop}
use Rattle.sudoers_grammar.specs.Number.{number_of_decimal_digits}
use Rattle.sudoers_defaults.proofs.number_values.extend_number_up_to.Given as goal

abbrev pub invariant-loop-digit : goal.invariant-loop-digit
invariant-loop-digit l = record {
  within : l.number ≤ l.limit;
  so_far : number_of_decimal_digits l.number (drop l.digit-index l.digits) ≡ number_of_decimal_digits l.front l.digits;
}
