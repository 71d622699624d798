use Rattle.std.proofs.Common.{◌≡◌, drop, false}
use Rattle.sudoers_text.specs.Adapted.{leads_to_id}
use Rattle.sudoers_text.proofs.adapting.leads_to_id.Given as goal

-- what is left leads where the whole does
abbrev pub invariant-loop-i : goal.invariant-loop-i
invariant-loop-i l = leads_to_id l.behind_backslash (drop l.i l.bytes) ≡ leads_to_id false l.bytes
