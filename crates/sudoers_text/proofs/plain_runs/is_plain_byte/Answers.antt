use Rattle.std.proofs.Common.{get_or, refl, arith}
use Rattle.std.specs.Prelude.{nat_le}
use Rattle.sudoers_text.specs.declared.plain_runs.TheConstants.{PLAIN_BYTES}
use Rattle.sudoers_text.specs.internal.Run.{is_plain_unit_byte}
use Rattle.sudoers_text.proofs.Table.{do_tests_agree_below, agreeing_tests_are_equal_at_byte}
use Rattle.sudoers_text.proofs.plain_runs.is_plain_byte.Goals as goal

pub returns : goal.returns
unfolding do_tests_agree_below
returns c = agreeing_tests_are_equal_at_byte (λ b. nat_le 49 (get_or PLAIN_BYTES b 0)) is_plain_unit_byte c.args.byte (omega arith) refl
