use Rattle.sudoers_cvt_rewrite.proofs.Common.{drop, is_blank, prefix_len, ◌+◌, ◌≡◌}
use Rattle.sudoers_cvt_rewrite.proofs.filter_text.drop_leading_blanks.Given as goal

abbrev pub invariant-loop-i : goal.invariant-loop-i
invariant-loop-i l = l.i + prefix_len is_blank (drop l.i l.text) ≡ prefix_len is_blank l.text
