use Rattle.std.proofs.Common.{◌≡◌, ◌++◌, drop}
use Rattle.std.specs.List.{flat_map}
use Rattle.sudoers_explain.specs.ShownRow.{blanks_of_byte}
use Rattle.sudoers_explain.proofs.shown_rows.make_blanks_of_bytes.Given as goal

abbrev pub invariant-loop-byte : goal.invariant-loop-byte
invariant-loop-byte l = l.out.items ++ flat_map blanks_of_byte (drop l.byte-index l.before) ≡ flat_map blanks_of_byte l.before
