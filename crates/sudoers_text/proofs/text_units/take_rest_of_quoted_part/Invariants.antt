use Rattle.std.proofs.Common.{◌≡◌, ◌++◌, take, drop, false}
use Rattle.sudoers_text.specs.Unit.{rest_of_quoted_part}
use Rattle.sudoers_text.proofs.text_units.take_rest_of_quoted_part.Given as goal

-- what has been passed and what is left of the part are the part
abbrev pub invariant-loop-i : goal.invariant-loop-i
invariant-loop-i l = take l.i l.text ++ rest_of_quoted_part l.behind_backslash (drop l.i l.text) ≡ rest_of_quoted_part false l.text
