use Rattle.std.proofs.Common.{◌≡◌, ◌++◌, drop}
use Rattle.std.specs.List.{flat_map}
use Rattle.sudoers_explain.specs.ShownRow.{shown_byte}
use Rattle.sudoers_explain.proofs.shown_rows.make_shown_row.Given as goal

abbrev pub invariant-loop-byte : goal.invariant-loop-byte
invariant-loop-byte l = l.out.items ++ flat_map shown_byte (drop l.byte-index l.row) ≡ flat_map shown_byte l.row
