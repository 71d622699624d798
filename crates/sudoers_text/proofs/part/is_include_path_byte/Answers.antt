use Rattle.std.proofs.Common.{get_or, refl, arith}
use Rattle.std.specs.Prelude.{nat_le}
use Rattle.sudoers_text.specs.declared.part.TheConstants.{KINDS_OF_BYTE}
use Rattle.sudoers_text.specs.Part.{is_byte_of_include_path}
use Rattle.sudoers_text.proofs.Table.{do_tests_agree_below, agreeing_tests_are_equal_at_byte}
use Rattle.sudoers_text.proofs.part.is_include_path_byte.Goals as goal

pub returns : goal.returns
unfolding do_tests_agree_below
returns c = agreeing_tests_are_equal_at_byte (λ b. nat_le 49 (get_or KINDS_OF_BYTE b 0)) is_byte_of_include_path c.args.byte (omega arith) refl
