use Rattle.sudoers_cvt_rewrite.proofs.Common.{[], ap, drop, filter_pair_of_view, filter_pairs_of_pieces, length, length_push, map, map_push, rules, slice_split, subst, sym, tests, ◌++◌, ◌==◌, ◌∙◌, ◌∷◌, ◌≡◌}
use Rattle.std.proofs.lemmas.Iterator.Splits.{YieldsList-from_slice_split}
use Rattle.std.proofs.lemmas.Iterator.Consumers.{YieldsList-turn, YieldsList-end}
use Rattle.sudoers_cvt_rewrite.proofs.FilterTexts.{filter_pairs_with_front_before, pairs_fault, pairs_more, pairs_all}
use Rattle.sudoers_cvt_rewrite.proofs.filter_text.read_filter_pairs.Goals as goal

pub returns-in_err-read_filter_pair-clause-fault : goal.returns-in_err-read_filter_pair-clause-fault
returns-in_err-read_filter_pair-clause-fault c =
    let pieces = slice_split (λ b. b == 44) c.args.text.now in
    let t = YieldsList-turn (YieldsList-from_slice_split _ (λ b. b == 44) c.args.text.now (cc) (cc) (cc) (λ x r q k. search (rules, tests))) c.loop-piece.yielded _ c.loop-piece.yielded_by _ _ c.in-Some.piece c.in-Some.is c.next.ensures.steps in
    let e = pairs_fault (map filter_pair_of_view c.loop-piece.pairs.items) pieces _ c.in-Some.piece.now _ t.0 t.1 (sym c.in_err-read_filter_pair.ensures) c.loop-piece.invariant.2 in
    search rules

pub loop-piece-preserved : goal.loop-piece-preserved
loop-piece-preserved c =
    let pieces = slice_split (λ b. b == 44) c.args.text.now in
    let t = YieldsList-turn (YieldsList-from_slice_split _ (λ b. b == 44) c.args.text.now (cc) (cc) (cc) (λ x r q k. search (rules, tests))) c.loop-piece.yielded _ c.loop-piece.yielded_by _ _ c.in-Some.piece c.in-Some.is c.next.ensures.steps in
    let e = pairs_more (map filter_pair_of_view c.loop-piece.pairs.items) pieces _ c.in-Some.piece.now _ t.0 t.1 (sym c.in_ok-read_filter_pair.ensures) c.loop-piece.invariant.2 in (
      search rules,
      tt,
      subst (λ ps. filter_pairs_with_front_before ps (filter_pairs_of_pieces (drop (length (c.loop-piece.yielded ++ c.in-Some.piece ∷ [])) pieces)) ≡ filter_pairs_of_pieces pieces)
          (sym (ap (map filter_pair_of_view) c.in_ok-push.ensures.items ∙ map_push filter_pair_of_view c.loop-piece.pairs.items c.in_ok-read_filter_pair.field-0))
          (subst (λ n. filter_pairs_with_front_before (map filter_pair_of_view c.loop-piece.pairs.items ++ filter_pair_of_view c.in_ok-read_filter_pair.field-0 ∷ []) (filter_pairs_of_pieces (drop n pieces)) ≡ filter_pairs_of_pieces pieces)
          (sym (length_push c.loop-piece.yielded c.in-Some.piece)) e),
    )

pub returns : goal.returns
returns c =
    let pieces = slice_split (λ b. b == 44) c.args.text.now in
    let t = YieldsList-end (YieldsList-from_slice_split _ (λ b. b == 44) c.args.text.now (cc) (cc) (cc) (λ x r q k. search (rules, tests))) c.loop-piece.yielded _ c.loop-piece.yielded_by _ _ c.in-None.is c.next.ensures.steps in
    record { pairs = pairs_all (map filter_pair_of_view c.loop-piece.pairs.items) pieces _ [] t.1 c.loop-piece.invariant.2; fault = tt }
