use Rattle.std.proofs.Common.{◌++◌, drop}
use Rattle.sudoers_cvt_spell.specs.Spelling.{escaped_pattern}
use Rattle.sudoers_cvt_spell.specs.internal.Fronts.{IsFront}
use Rattle.sudoers_cvt_spell.proofs.Runs.{IsPrintedUpTo}
use Rattle.sudoers_cvt_spell.proofs.words_and_patterns.append_escaped_pattern.Given as goal

abbrev pub invariant-loop-at : goal.invariant-loop-at
invariant-loop-at l =
    IsPrintedUpTo l.pattern l.out.items l.printed l.at (escaped_pattern l.spelling (drop l.at l.pattern)) (l.initial.out.items ++ escaped_pattern l.spelling l.pattern) × IsFront l.initial.out.items l.out.items
