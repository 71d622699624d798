use Rattle.std.proofs.Common.{◌++◌, drop}
use Rattle.sudoers_cvt_spell.specs.Members.{spelled_command_args}
use Rattle.sudoers_cvt_spell.specs.internal.Fronts.{IsFront}
use Rattle.sudoers_cvt_spell.proofs.Runs.{IsPrintedUpTo}
use Rattle.sudoers_cvt_spell.proofs.members.append_args_pattern.Given as goal

abbrev pub invariant-loop-at : goal.invariant-loop-at
invariant-loop-at l =
    IsPrintedUpTo l.pattern l.out.items l.printed l.at (spelled_command_args l.behind (drop l.at l.pattern)) (l.initial.out.items ++ spelled_command_args l.initial.behind l.pattern) × IsFront l.initial.out.items l.out.items
