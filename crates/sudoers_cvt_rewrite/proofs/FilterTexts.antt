-- The text of a filter, read piece by piece.
use Rattle.sudoers_cvt_rewrite.proofs.Common.{Err, List, Ok, Result, [], ap, append-nil, append_assoc, arith, drop, drop_all, drop_more, filter_pair_of_piece, filter_pairs_of_pieces, pair_before_pairs_or_first_fault, get_or}
use Rattle.sudoers_cvt_rewrite.proofs.Common.{length, refl, sym, ℕ, ◌++◌, ◌+◌, ◌<◌, ◌∙◌, ◌∷◌, ◌≡◌}
use Rattle.sudoers_cvt_rewrite.specs.declared.filter_text.FilterKey.{FilterKey}
use Rattle.sudoers_cvt_rewrite.specs.declared.filter_text.FilterFault.{FilterFault}

-- the same, with more in front of the first part
abbrev pub parts_with_front_put_before : List ℕ → List ℕ × List ℕ → List ℕ × List ℕ
parts_with_front_put_before front parts = (front ++ parts.0, parts.1)

-- the pairs behind others
abbrev pub filter_pairs_with_front_before : List (FilterKey × List ℕ) → Result (List (FilterKey × List ℕ)) FilterFault → Result (List (FilterKey × List ℕ)) FilterFault
filter_pairs_with_front_before front (Ok pairs) = Ok (front ++ pairs)
filter_pairs_with_front_before front (Err fault) = Err fault

filter_pairs_take_next_pair : (front : List (FilterKey × List ℕ)) (pair : FilterKey × List ℕ) (rest : Result (List (FilterKey × List ℕ)) FilterFault)
    → filter_pairs_with_front_before (front ++ pair ∷ []) rest ≡ filter_pairs_with_front_before front (pair_before_pairs_or_first_fault (Ok pair) rest)
filter_pairs_take_next_pair front pair (Ok pairs) = ap Ok (append_assoc front (pair ∷ []) pairs)
filter_pairs_take_next_pair front pair (Err fault) = refl

-- One piece more.
module _ (front : List (FilterKey × List ℕ)) (pieces : List (List ℕ)) (n : ℕ) (piece : List ℕ) where
  at : n < length pieces → piece ≡ get_or pieces n piece → drop n pieces ≡ piece ∷ drop (n + 1) pieces
  at h is = drop_more pieces n piece h ∙ ap (λ x. x ∷ drop (n + 1) pieces) (sym is)

  pub pairs_more : (pair : FilterKey × List ℕ) → n < length pieces → piece ≡ get_or pieces n piece → filter_pair_of_piece piece ≡ Ok pair
      → filter_pairs_with_front_before front (filter_pairs_of_pieces (drop n pieces)) ≡ filter_pairs_of_pieces pieces → filter_pairs_with_front_before (front ++ pair ∷ []) (filter_pairs_of_pieces (drop (n + 1) pieces)) ≡ filter_pairs_of_pieces pieces
  pairs_more pair h is ok so_far =
      filter_pairs_take_next_pair front pair (filter_pairs_of_pieces (drop (n + 1) pieces))
      ∙ ap (λ r. filter_pairs_with_front_before front (pair_before_pairs_or_first_fault r (filter_pairs_of_pieces (drop (n + 1) pieces)))) (sym ok)
      ∙ ap (λ ps. filter_pairs_with_front_before front (filter_pairs_of_pieces ps)) (sym (at h is))
      ∙ so_far

  pub pairs_fault : (fault : FilterFault) → n < length pieces → piece ≡ get_or pieces n piece → filter_pair_of_piece piece ≡ Err fault
      → filter_pairs_with_front_before front (filter_pairs_of_pieces (drop n pieces)) ≡ filter_pairs_of_pieces pieces → filter_pairs_of_pieces pieces ≡ Err fault
  pairs_fault fault h is bad so_far =
      sym so_far ∙ ap (λ ps. filter_pairs_with_front_before front (filter_pairs_of_pieces ps)) (at h is)
      ∙ ap (λ r. filter_pairs_with_front_before front (pair_before_pairs_or_first_fault r (filter_pairs_of_pieces (drop (n + 1) pieces)))) bad

  -- All pieces.
  pub pairs_all : n ≡ length pieces → filter_pairs_with_front_before front (filter_pairs_of_pieces (drop n pieces)) ≡ filter_pairs_of_pieces pieces → filter_pairs_of_pieces pieces ≡ Ok front
  pairs_all h so_far =
      sym so_far ∙ ap (λ ps. filter_pairs_with_front_before front (filter_pairs_of_pieces ps)) (drop_all n pieces (omega arith)) ∙ ap Ok (append-nil front)
