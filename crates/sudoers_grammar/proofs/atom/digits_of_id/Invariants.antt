use Rattle.std.proofs.Common.{◌≡◌, drop}
use Rattle.sudoers_grammar.specs.Atom.{id_digits_after_hash}
use Rattle.sudoers_grammar.proofs.atom.digits_of_id.Given as goal

abbrev pub invariant-loop-i : goal.invariant-loop-i
invariant-loop-i l = id_digits_after_hash (drop l.i l.text) ≡ id_digits_after_hash l.text
