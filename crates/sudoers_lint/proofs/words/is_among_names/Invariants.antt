use Rattle.std.proofs.Common.{◌≡◌, drop}
use Rattle.sudoers_lint.specs.Names.{is_among_names}
use Rattle.sudoers_lint.proofs.words.is_among_names.Given as goal

abbrev pub invariant-loop-name : goal.invariant-loop-name
invariant-loop-name l = is_among_names (drop l.name-index l.names) l.word ≡ is_among_names l.names l.word
