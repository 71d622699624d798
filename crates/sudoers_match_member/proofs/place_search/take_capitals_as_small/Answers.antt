use Rattle.std.proofs.Common.{◌≡◌, ◌≤◌, ◌+◌, ℕ, get_or, slice_set, arith, sym, ap, subst, ◌∙◌, inl, inr}
use Rattle.std.proofs.lemmas.Bool.{cases_eq, cases_lt}
use Rattle.std.proofs.lemmas.List.{get_or-set_same, get_or-set_other, length-set}
use Rattle.sudoers_match_member.specs.internal.Places.{no_items, HasItem}
use Rattle.sudoers_match_member.proofs.Capitals.{capital_is_read_as_small, byte_below_capitals_is_read_as_it_is, byte_above_capitals_is_read_as_it_is}
use Rattle.sudoers_match_member.proofs.place_search.take_capitals_as_small.Goals as goal

pub loop-byte-preserved : goal.loop-byte-preserved
loop-byte-preserved c =
    let takers = c.loop-byte.takers in let byte = c.loop-byte.byte in let old = c.loop-byte.invariant in
    let small = c.fold_byte_case_if_wanted.result in let new = get_or takers small no_items in
    let other = λ (b : ℕ) (n : b ≡ byte → ⊥). get_or-set_other takers byte b new no_items n in
    record {
      size = length-set takers byte new ∙ old.size;
      done = λ b low h high. elim (cases_eq b byte) [
        | inl same ↦ ap (λ n. get_or (slice_set takers byte new) n no_items) same ∙ get_or-set_same takers byte new no_items (omega (arith, c.told-takers, c.loop-byte-test.true, old.size))
            ∙ ap (λ n. get_or takers n no_items) (c.fold_byte_case_if_wanted.ensures ∙ capital_is_read_as_small byte (subst (λ n. 65 ≤ n) same low) c.loop-byte-test.true)
            ∙ old.rest (byte + 32) (omega arith) ∙ ap (λ n. get_or c.args.takers.now (n + 32) no_items) (sym same)
        | inr n ↦ other b n ∙ old.done b low (omega (arith, h, n)) high
      ];
      low = λ b h. other b (λ e. omega (arith, e, h, c.loop-byte.auto.byte)) ∙ old.low b h;
      rest = λ b h. other b (λ e. omega (arith, e, h)) ∙ old.rest b (omega (arith, h));
    }

pub returns : goal.returns
returns c b i h taken =
    let old = c.loop-byte.invariant in
    elim (cases_lt b 65) [
      | inl low ↦ subst (λ set. HasItem set i) (ap (λ n. get_or c.args.takers.now n no_items) (byte_below_capitals_is_read_as_it_is b low) ∙ sym (old.low b low)) taken
      | inr up ↦ elim (cases_lt 90 b) [
        | inl high ↦ subst (λ set. HasItem set i) (ap (λ n. get_or c.args.takers.now n no_items) (byte_above_capitals_is_read_as_it_is b high) ∙ sym (old.rest b (omega (arith, high, c.loop-byte.auto.byte-end)))) taken
        | inr inside ↦ subst (λ set. HasItem set i) (ap (λ n. get_or c.args.takers.now n no_items) (capital_is_read_as_small b up inside) ∙ sym (old.done b up (omega (arith, inside, c.loop-byte-test.false)) (omega (arith, inside)))) taken
      ]
    ]
