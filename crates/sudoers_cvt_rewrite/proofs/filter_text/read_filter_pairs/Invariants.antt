use Rattle.sudoers_cvt_rewrite.proofs.Common.{drop, filter_pair_of_view, filter_pairs_of_pieces, length, map, slice_split, ◌==◌, ◌≡◌}
use Rattle.sudoers_cvt_rewrite.proofs.FilterTexts.{filter_pairs_with_front_before}
use Rattle.sudoers_cvt_rewrite.proofs.filter_text.read_filter_pairs.Given as goal

abbrev pub invariant-loop-piece : goal.invariant-loop-piece
invariant-loop-piece l =
    (goal.iterator-loop-piece).can_next l.piece-iterator ×
    (goal.iterator-loop-piece).is_finite l.piece-iterator ×
    (filter_pairs_with_front_before (map filter_pair_of_view l.pairs.items) (filter_pairs_of_pieces (drop (length l.yielded) (slice_split (λ b. b == 44) l.text))) ≡ filter_pairs_of_pieces (slice_split (λ b. b == 44) l.text))
