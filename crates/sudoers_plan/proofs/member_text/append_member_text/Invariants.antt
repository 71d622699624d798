use Rattle.std.proofs.Common.{◌≡◌, ◌++◌, length}
use Rattle.sudoers_plan.specs.GivenText.{text_with_percents_quoted}
use Rattle.sudoers_plan.proofs.member_text.append_member_text.Given as goal

abbrev pub invariant-loop-behind : goal.invariant-loop-behind
invariant-loop-behind l = l.out ++ text_with_percents_quoted l.rest ≡ l.initial.out ++ text_with_percents_quoted l.text

abbrev pub decreases-loop-behind : goal.decreases-loop-behind
decreases-loop-behind l = length l.rest
