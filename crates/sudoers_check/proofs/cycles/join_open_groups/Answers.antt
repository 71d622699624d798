use Rattle.sudoers_check.proofs.Common.{HasAscendingKeys, List, ListHasElement, Some, [], ap, arith, inl, inr, length, slice_get, subst, sym, ℕ, ◌++◌, ◌-◌, ◌∙◌, ◌∷◌, ◌≡◌, ◌≤◌}
use Rattle.sudoers_check.proofs.Lists.{Has_front, Has_push, popped_list_is_front_and_last}
use Rattle.sudoers_check.proofs.Ascending.{ascends_front, ascends_end}
use Rattle.sudoers_check.proofs.cycles.join_open_groups.Goals as goal

pub loop-start-preserved : goal.loop-start-preserved
loop-start-preserved c =
    let old : List ℕ = c.loop-start.groups.items in
    let new : List ℕ = c.pop.new.self.items in
    let last : slice_get old (length old - 1) ≡ Some c.in-Some.start =
    ap (λ xs. slice_get xs (length xs - 1)) (sym c.deref.ensures.value) ∙ sym c.last.ensures.value ∙ sym c.in-Some.ensures in
    let is : old ≡ new ++ c.in-Some.start ∷ [] =
    popped_list_is_front_and_last old new c.pop.result c.loop-start.groups.len c.in-Some.start c.pop.ensures.items c.pop.ensures.value c.loop-start.groups.ok.0 last in
    record {
      kept = λ b h. c.loop-start.invariant.kept b (subst (λ gs. ListHasElement gs b) (sym is) (Has_front new (c.in-Some.start ∷ []) b h));
      all = λ b h le. elim (Has_push new c.in-Some.start b (subst (λ gs. ListHasElement gs b) is (c.loop-start.invariant.all b h le))) [ inl k ↦ k | inr e ↦ absurd (omega arith) ];
      ascend = ascends_front (λ n. n) new (c.in-Some.start ∷ []) (subst (HasAscendingKeys (λ n. n)) is c.loop-start.invariant.ascend);
    }

pub returns-then-start-place : goal.returns-then-start-place
returns-then-start-place c =
    let groups : List ℕ = c.loop-start.groups.items in
    let last : slice_get groups (length groups - 1) ≡ Some c.in-Some.start =
    ap (λ xs. slice_get xs (length xs - 1)) (sym c.deref.ensures.value) ∙ sym c.last.ensures.value ∙ sym c.in-Some.ensures in
    record {
      kept = c.loop-start.invariant.kept;
      all = c.loop-start.invariant.all;
      below = λ b h. let le : b ≤ c.in-Some.start = ascends_end (λ n. n) groups c.in-Some.start b c.loop-start.invariant.ascend last h in omega arith;
      ascend = c.loop-start.invariant.ascend;
    }
