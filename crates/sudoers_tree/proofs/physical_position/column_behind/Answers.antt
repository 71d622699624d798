use Rattle.sudoers_tree.proofs.Common.{arith, byte_count_after_last_lf, length, ◌+◌, ◌≡◌}
use Rattle.sudoers_tree.proofs.Columns.{bytes_without_lf_count_to_their_end, bytes_after_last_lf_are_counted}
use Rattle.sudoers_tree.proofs.physical_position.column_behind.Goals as goal

pub returns-in-Some : goal.returns-in-Some
returns-in-Some c = bytes_after_last_lf_are_counted 0 c.args.bytes.now c.in-Some.at c.in-Some.ensures.0 c.in-Some.ensures.1

pub returns-in-None : goal.returns-in-None
returns-in-None c =
    let none : byte_count_after_last_lf 0 c.args.bytes.now ≡ 0 + length c.args.bytes.now = bytes_without_lf_count_to_their_end 0 c.args.bytes.now c.in-None.ensures in
    omega (arith, none)
