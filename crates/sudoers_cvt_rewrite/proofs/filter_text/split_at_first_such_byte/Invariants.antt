use Rattle.sudoers_cvt_rewrite.proofs.Common.{drop, option_map, take, ◌≡◌}
use Rattle.sudoers_grammar.specs.Number.{parts_around_first_byte}
use Rattle.sudoers_cvt_rewrite.proofs.FilterTexts.{parts_with_front_put_before}
use Rattle.sudoers_cvt_rewrite.proofs.filter_text.split_at_first_such_byte.Given as goal

abbrev pub invariant-loop-i : goal.invariant-loop-i
invariant-loop-i l = option_map (parts_with_front_put_before (take l.i l.text)) (parts_around_first_byte l.byte (drop l.i l.text)) ≡ parts_around_first_byte l.byte l.text
