use Rattle.std.proofs.Common.{◌∷◌, length}
use Rattle.sudoers_match_member.specs.Folded.{bytes_case_folded_if_wanted}
use Rattle.sudoers_match_member.specs.internal.Run.{IsMatchReducedToRest}
use Rattle.sudoers_match_member.specs.internal.Known.{IsCorrectSetCache}
use Rattle.sudoers_match_member.proofs.wildcards.match_star_and_items.Given as goal

abbrev pub invariant-loop-text : goal.invariant-loop-text
invariant-loop-text l = record {
  left : IsMatchReducedToRest l.mode (42 ∷ bytes_case_folded_if_wanted l.lower l.pattern) (bytes_case_folded_if_wanted l.lower l.fn.text) (bytes_case_folded_if_wanted l.lower l.pattern) (bytes_case_folded_if_wanted l.lower l.text);
  known : IsCorrectSetCache l.mode l.lower l.pattern l.known;
}

abbrev pub decreases-loop-text : goal.decreases-loop-text
decreases-loop-text l = length l.text
