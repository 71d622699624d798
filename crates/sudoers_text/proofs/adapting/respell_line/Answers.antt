use Rattle.std.proofs.Common.{◌≡◌, ◌+◌, ◌-◌, ◌++◌, List, ℕ, [], take, drop, length, arith, subst, sym, ◌∙◌, ap}
use Rattle.std.specs.Prelude.{slice_range}
use Rattle.std.proofs.lemmas.List.{drop-drop}
use Rattle.sudoers_text.specs.declared.token.Mode.{Mode}
use Rattle.sudoers_text.specs.declared.context.TokenContext.TheVariants as context
use Rattle.sudoers_text.specs.declared.adapting.TokenBefore.TheVariants as before
use Rattle.sudoers_text.specs.Adapted.{text_of_respelled, IsRespelledLine}
use Rattle.sudoers_text.proofs.Reach.{slice_from_count_to_end_is_drop}
use Rattle.sudoers_text.proofs.Respelling.{HasRespelledUpToPlace, HasRespelledNextToken, next_token_is_respelled, all_respelled_tokens_are_line, no_tokens_are_respelled_at_line_start, respelled_line_is_computed_line}
use Rattle.sudoers_text.proofs.adapting.respell_line.Goals as goal

pub loop-start-init : goal.loop-start-init
loop-start-init c = record {
  respelling = subst (λ (so_far : List ℕ). HasRespelledUpToPlace c.args.line.now (context.First c.choose_line_mode.result) before.Other 0 so_far) (sym c.in_ok-respelled.ensures.items)
      (subst (λ (m : Mode). HasRespelledUpToPlace c.args.line.now (context.First m) before.Other 0 []) (sym c.choose_line_mode.ensures) (no_tokens_are_respelled_at_line_start c.args.line.now));
  below = omega (arith, c.start_of_line-reached.ensures.place);
  knows = c.start_of_line-reached.ensures.knows c.args.line.now;
}

pub find_next_token_start-requires : goal.find_next_token_start-requires
find_next_token_start-requires c = c.loop-start.invariant.respelling.inside

-- one token more
next : (c : goal.After-respelled_token_before-left) → HasRespelledNextToken c.args.line.now c.find_context_after_respelled-here.result c.respelled_token_before-left.result c.in-Some.start c.find_token_in_context-piece.result.len c.extend_from_slice-in-Some-2.new.self.items
next c =
    let line = c.args.line.now in
    let start = c.in-Some.start in
    let size = c.find_token_in_context-piece.result.len in
    let size_is : start + size - start ≡ size = omega arith in
    next_token_is_respelled line c.loop-start.here c.find_context_after_respelled-here.result c.loop-start.left c.respelled_token_before-left.result
    c.advance_to_token-known.result c.loop-start.at start size c.find_token_in_context-piece.result.kind c.choose_respelling-respelling.result
    (slice_range line start (start + size)) (take (length line - (start + size)) (drop (start + size) line))
    c.loop-start.respelled.items c.extend_from_slice-in-Some-2.new.self.items
    c.loop-start.invariant.respelling
    (record { is = c.in-Some.ensures.some.0; more = c.in-Some.ensures.some.1 })
    c.advance_to_token-known.ensures.found c.find_token_in_context-piece.ensures.found c.find_token_in_context-piece.ensures.within
    (ap (λ (n : ℕ). take n (drop start line)) size_is)
    (slice_from_count_to_end_is_drop (start + size) line ∙ sym (drop-drop size start line))
    c.choose_respelling-respelling.ensures
    c.find_context_after_respelled-here.ensures
    c.respelled_token_before-left.ensures
    (c.in_ok-extend_from_slice-3.ensures.items
    ∙ ap (λ (t : List ℕ). c.extend_from_slice-in-Some.new.self.items ++ t) c.text_of_respelled.ensures
    ∙ ap (λ (t : List ℕ). t ++ text_of_respelled c.choose_respelling-respelling.result (slice_range line start (start + size)))
    (c.in_ok-extend_from_slice-2.ensures.items
    ∙ ap (λ (t : List ℕ). t ++ c.prefix_of_respelled.result.now) c.in_ok-extend_from_slice.ensures.items
    ∙ ap (λ (t : List ℕ). (c.loop-start.respelled.items ++ slice_range line c.loop-start.at start) ++ t) c.prefix_of_respelled.ensures))

pub loop-start-smaller : goal.loop-start-smaller
loop-start-smaller c =
    let more = next c in
    omega (arith, more.some, more.inside, c.in-Some.ensures.some.0)

pub loop-start-preserved : goal.loop-start-preserved
loop-start-preserved c =
    let more = next c in
    record {
      respelling = more.respelling;
      below = omega (arith, c.advance_to_token-known.ensures.place);
      knows = c.advance_to_token-known.ensures.knows;
    }

-- all has been read
whole : (c : goal.In_ok-extend_from_slice-4) → IsRespelledLine c.args.line.now c.extend_from_slice-2.new.self.items
whole c =
    subst (λ (t : List ℕ). IsRespelledLine c.args.line.now t) (sym (c.in_ok-extend_from_slice-4.ensures.items ∙ ap (λ (t : List ℕ). c.loop-start.respelled.items ++ t) (slice_from_count_to_end_is_drop c.loop-start.at c.args.line.now)))
    (all_respelled_tokens_are_line c.args.line.now c.loop-start.here c.loop-start.left c.loop-start.at c.loop-start.respelled.items c.loop-start.invariant.respelling c.in_default.ensures.none)

pub returns-clause-exact : goal.returns-clause-exact
returns-clause-exact c = whole c

pub returns-clause-outcome : goal.returns-clause-outcome
returns-clause-outcome c = respelled_line_is_computed_line c.args.line.now c.extend_from_slice-2.new.self.items (whole c)
