use Rattle.std.proofs.Common.{◌≡◌, ◌<◌, ℕ, false, get_or}
use Rattle.sudoers_grammar.specs.Pattern.{is_special_in_patterns}
use Rattle.sudoers_match_member.proofs.place_search.count_plain_bytes.Given as goal

abbrev pub invariant-loop-place : goal.invariant-loop-place
invariant-loop-place l = (i : ℕ) → i < l.place → is_special_in_patterns (get_or l.pattern i 0) ≡ false
