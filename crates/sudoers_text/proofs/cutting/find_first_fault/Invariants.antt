use Rattle.sudoers_text.proofs.Faults.{AreSpansBelowIndexFaultless}
use Rattle.sudoers_text.proofs.cutting.find_first_fault.Given as goal

abbrev pub invariant-loop-span : goal.invariant-loop-span
invariant-loop-span l = AreSpansBelowIndexFaultless l.text l.spans l.span-index l.nul
