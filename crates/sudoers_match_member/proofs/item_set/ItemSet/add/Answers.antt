use Rattle.std.proofs.Common.{◌≡◌, ◌/◌, ◌%◌, ◌*◌, w64, get_or, slice_set, bit_or, arith, ap, subst, ◌∙◌, inl, inr}
use Rattle.std.specs.Prelude.{◌^◌}
use Rattle.std.specs.Int.{bit_at}
use Rattle.std.proofs.lemmas.Bool.{cases_eq}
use Rattle.std.proofs.lemmas.List.{get_or-set_same, get_or-set_other}
use Rattle.std.proofs.lemmas.Nat.Bits.{bit_at_set_same}
use Rattle.sudoers_match_member.proofs.Bits.{set_bit_stays_set_by_or}
use Rattle.sudoers_match_member.proofs.item_set.ItemSet.add.Goals as goal

pub returns-clause-added : goal.returns-clause-added
returns-clause-added c =
    let words = c.args.self.now.words in let item = c.args.item in
    ap (λ n. bit_at n (item % 64)) (get_or-set_same words (item / 64) _ 0 (omega (arith, c.requires)))
    ∙ bit_at_set_same w64 (get_or words (item / 64) 0) (item % 64) (omega arith)

pub returns-clause-kept : goal.returns-clause-kept
returns-clause-kept c i h =
    let words = c.args.self.now.words in let item = c.args.item in
    elim (cases_eq (i / 64) (item / 64)) [
      | inl same ↦ ap (λ n. bit_at n (i % 64)) (ap (λ n. get_or (slice_set words (item / 64) (bit_or (get_or words (item / 64) 0) (1 * 2 ^ (item % 64) % 18446744073709551616))) n 0) same ∙ get_or-set_same words (item / 64) _ 0 (omega (arith, c.requires)))
          ∙ set_bit_stays_set_by_or (get_or words (item / 64) 0) _ (i % 64) (subst (λ n. bit_at (get_or words n 0) (i % 64) ≡ 1) same h)
      | inr other ↦ ap (λ n. bit_at n (i % 64)) (get_or-set_other words (item / 64) (i / 64) _ 0 other) ∙ h
    ]
