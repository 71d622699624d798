use Rattle.sudoers_cvt_rewrite.proofs.Common.{is_blank, length, suffix_len, take, ◌+◌, ◌≡◌, ◌≤◌}
use Rattle.sudoers_cvt_rewrite.proofs.filter_text.drop_trailing_blanks.Given as goal

abbrev pub invariant-loop-n : goal.invariant-loop-n
invariant-loop-n l = (l.n ≤ length l.text) × (l.n + suffix_len is_blank l.text ≡ length l.text + suffix_len is_blank (take l.n l.text))

abbrev pub decreases-loop-n : goal.decreases-loop-n
decreases-loop-n l = l.n
