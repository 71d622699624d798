use Rattle.std.proofs.Common.{◌<◌, length, slice_set, arith, sym, subst, ◌∙◌, inl, inr}
use Rattle.std.proofs.lemmas.Bool.{cases_eq}
use Rattle.std.proofs.lemmas.List.{get_or-set_other, length-set}
use Rattle.sudoers_match_member.specs.internal.Places.{no_items, HasItem, IsTaker, IsTakerOrOfAll}
use Rattle.sudoers_match_member.proofs.Takers.{added_is_taker}
use Rattle.sudoers_match_member.proofs.place_search.add_items_for_all_bytes.Goals as goal

pub loop-byte-preserved : goal.loop-byte-preserved
loop-byte-preserved c =
    let takers = c.loop-byte.takers in let byte = c.loop-byte.byte in let old = c.loop-byte.invariant in let new = c.add_all.new.self in let of_all = c.args.of_all.now in
    let within : byte < length takers = omega (arith, old.size, c.told-takers, c.loop-byte-test.true) in
    record {
      size = length-set takers byte _ ∙ old.size;
      done = λ b i h few may. elim (cases_eq b byte) [
        | inl same ↦ subst (λ n. IsTaker (slice_set takers byte new) n i) (sym same)
            (added_is_taker takers byte i new within (c.add_all.ensures i few
            (elim (subst (λ n. IsTakerOrOfAll c.args.takers.now of_all n i) same may) [ inl is ↦ inl (old.rest byte i (omega arith) is) | inr has ↦ inr has ])))
        | inr other ↦ subst (λ set. HasItem set i) (sym (get_or-set_other takers byte b new no_items other)) (old.done b i (omega (arith, h, other)) few may)
      ];
      rest = λ b i h is. subst (λ set. HasItem set i) (sym (get_or-set_other takers byte b new no_items (λ e. omega (arith, e, h)))) (old.rest b i (omega (arith, h)) is);
    }
