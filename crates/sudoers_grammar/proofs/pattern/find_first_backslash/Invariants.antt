use Rattle.std.proofs.Common.{◌≢◌, ◌<◌, ℕ, Some}
use Rattle.std.specs.Prelude.{slice_get}
use Rattle.sudoers_grammar.proofs.pattern.find_first_backslash.Given as goal

-- no byte that has been passed is a backslash
abbrev pub invariant-loop-i : goal.invariant-loop-i
invariant-loop-i l = (k : ℕ) → k < l.i → slice_get l.text k ≢ Some 92
