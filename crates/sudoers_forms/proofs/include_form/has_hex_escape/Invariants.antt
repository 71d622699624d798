use Rattle.std.proofs.Common.{◌≡◌, length, false}
use Rattle.sudoers_forms.specs.Includes.{has_hex_escape}
use Rattle.sudoers_forms.proofs.include_form.has_hex_escape.Given as goal

abbrev pub invariant-loop-first : goal.invariant-loop-first
invariant-loop-first l = has_hex_escape l.is_escaped l.rest ≡ has_hex_escape false l.text

abbrev pub decreases-loop-first : goal.decreases-loop-first
decreases-loop-first l = length l.rest
