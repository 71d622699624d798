use Rattle.std.proofs.Common.{◌≡◌, drop, false}
use Rattle.sudoers_text.specs.Line.{ends_in_unpaired_backslash}
use Rattle.sudoers_text.proofs.text_units.ends_in_lone_backslash.Given as goal

-- what is left ends as the whole does
abbrev pub invariant-loop-byte : goal.invariant-loop-byte
invariant-loop-byte l = ends_in_unpaired_backslash l.behind_backslash (drop l.byte-index l.bytes) ≡ ends_in_unpaired_backslash false l.bytes
