use Rattle.std.proofs.Common.{◌++◌, drop}
use Rattle.sudoers_cvt_spell.specs.Spelling.{spelled_word}
use Rattle.sudoers_cvt_spell.specs.internal.Fronts.{IsFront}
use Rattle.sudoers_cvt_spell.proofs.Runs.{IsPrintedUpTo}
use Rattle.sudoers_cvt_spell.proofs.words_and_patterns.append_spelled_word.Given as goal

abbrev pub invariant-loop-at : goal.invariant-loop-at
invariant-loop-at l =
    IsPrintedUpTo l.value l.out.items l.printed l.at (spelled_word (drop l.at l.value)) (l.initial.out.items ++ spelled_word l.value) × IsFront l.initial.out.items l.out.items
