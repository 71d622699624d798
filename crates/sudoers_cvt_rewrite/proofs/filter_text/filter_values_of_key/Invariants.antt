use Rattle.sudoers_cvt_rewrite.proofs.Common.{drop, filter_pair_of_view, map, values_with_filter_key, ◌++◌, ◌≡◌}
use Rattle.sudoers_cvt_rewrite.proofs.filter_text.filter_values_of_key.Given as goal

abbrev pub invariant-loop-pair : goal.invariant-loop-pair
invariant-loop-pair l = l.values ++ values_with_filter_key l.key (map filter_pair_of_view (drop l.pair-index l.pairs)) ≡ values_with_filter_key l.key (map filter_pair_of_view l.pairs)
