use Rattle.std.proofs.Common.{◌-◌, ◌≤◌, length}
use Rattle.sudoers_text.specs.internal.Reached.{DescribesLeftAtOffset}
use Rattle.sudoers_text.proofs.Respelling.{HasRespelledUpToPlace}
use Rattle.sudoers_text.proofs.adapting.respell_line.Given as goal

abbrev pub invariant-loop-start : goal.invariant-loop-start
invariant-loop-start l = record {
  respelling : HasRespelledUpToPlace l.line l.here l.left l.at l.respelled.items;
  below : l.reached.at ≤ l.at;
  knows : DescribesLeftAtOffset l.line l.reached;
}

abbrev pub decreases-loop-start : goal.decreases-loop-start
decreases-loop-start l = length l.line - l.at
