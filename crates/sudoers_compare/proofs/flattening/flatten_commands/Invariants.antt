use Rattle.std.proofs.Common.{length}
use Rattle.sudoers_compare.proofs.FlatCommands.{AreCommandsFlatSoFar}
use Rattle.sudoers_compare.proofs.flattening.flatten_commands.Given as goal

abbrev pub invariant-loop-row : goal.invariant-loop-row
invariant-loop-row l = AreCommandsFlatSoFar l.source.lines.tables.now l.source.policy.now l.fn.range l.commands.items l.settings l.runas l.left

abbrev pub decreases-loop-row : goal.decreases-loop-row
decreases-loop-row l = length l.left
