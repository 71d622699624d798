use Rattle.std.proofs.Common.{◌≡◌, ◌<◌, ℕ, false, true, length, get_or, arith, sym, ap, subst, ◌∙◌}
use Rattle.std.proofs.lemmas.Bool.{false≢true}
use Rattle.std.proofs.lemmas.List.{length-set}
use Rattle.sudoers_match_member.specs.internal.Places.{IsTaker}
use Rattle.sudoers_match_member.proofs.Takers.{kept_with_added, added_is_taker, taken_up_to}
use Rattle.sudoers_match_member.proofs.place_search.add_item_for_taken_bytes.Goals as goal
use Rattle.sudoers_match_member.proofs.place_search.add_item_for_taken_bytes.Goals.{then-taken-byte, else-taken-byte}

pub loop-byte-preserved : goal.loop-byte-preserved
loop-byte-preserved c =
    let takers = c.loop-byte.takers in let byte = c.loop-byte.byte in let item = c.args.item in let old = c.loop-byte.invariant in let after = c.if-taken-byte.takers in
    let Taken : ℕ → Type 0 = λ b. get_or c.args.taken.now b false ≡ true in
    let within : byte < length takers = omega (arith, old.size, c.told-takers, c.loop-byte-test.true) in
    let kept : (b i : ℕ) → IsTaker takers b i → IsTaker after b i = elim c.if-taken-byte.branch [
      | then-taken-byte w ↦ subst (λ xs. (b i : ℕ) → IsTaker takers b i → IsTaker xs b i) (sym w.takers-is) (kept_with_added takers byte _ within w.add.ensures.kept)
      | else-taken-byte w ↦ subst (λ xs. (b i : ℕ) → IsTaker takers b i → IsTaker xs b i) (sym w.takers-is) (λ b i t. t)
    ] in
    let here : Taken byte → IsTaker after byte item = elim c.if-taken-byte.branch [
      | then-taken-byte w ↦ (λ is. subst (λ xs. IsTaker xs byte item) (sym w.takers-is) (added_is_taker takers byte item _ within w.add.ensures.added))
      | else-taken-byte w ↦ (λ is. absurd (false≢true (sym w.if-taken-byte.false ∙ is)))
    ] in
    let size : length after ≡ length c.args.takers.now = elim c.if-taken-byte.branch [
      | then-taken-byte w ↦ ap length w.takers-is ∙ length-set takers byte _ ∙ old.size
      | else-taken-byte w ↦ ap length w.takers-is ∙ old.size
    ] in
    record {
      size = size;
      taker = taken_up_to Taken takers after byte item old.taker kept here;
      kept = λ b i t. kept b i (old.kept b i t);
    }
