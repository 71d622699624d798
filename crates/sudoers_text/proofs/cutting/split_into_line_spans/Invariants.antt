use Rattle.std.proofs.Common.{◌-◌, length}
use Rattle.sudoers_text.specs.internal.Clear.{HasNoBackslashFromTo}
use Rattle.sudoers_text.proofs.Pieces.{AreSpansOfTextUpTo}
use Rattle.sudoers_text.proofs.cutting.split_into_line_spans.Given as goal

abbrev pub invariant-loop-start : goal.invariant-loop-start
invariant-loop-start l = record {
  cut : AreSpansOfTextUpTo l.text l.spans.items l.start l.continues;
  clear : HasNoBackslashFromTo l.text l.start l.backslash;
}

abbrev pub decreases-loop-start : goal.decreases-loop-start
decreases-loop-start l = length l.text - l.start
