use Rattle.std.proofs.Common.{◌≡◌, ◌≢◌, ◌/◌, ◌%◌, ◌*◌, w64, get_or, slice_set, bit_or, arith, sym, ap, subst, ◌∙◌, inl, inr}
use Rattle.std.specs.Prelude.{◌^◌}
use Rattle.std.specs.Int.{bit_at}
use Rattle.std.proofs.lemmas.Bool.{cases_eq}
use Rattle.std.proofs.lemmas.List.{get_or-set_same, get_or-set_other}
use Rattle.std.proofs.lemmas.Nat.Bits.{bit_at_set_other}
use Rattle.sudoers_match_member.proofs.unclosed_places.UnclosedPlaces.add.Goals as goal

pub returns : goal.returns
returns c other is =
    let words = c.args.self.now.words in let left = c.args.left in let word = get_or words (left / 64) 0 in let new = bit_or word (1 * 2 ^ (left % 64) % 18446744073709551616) in
    elim (cases_eq other left) [
      | inl same ↦ inr same
      | inr differs ↦ inl (elim (cases_eq (other / 64) (left / 64)) [
        | inl same ↦ (let apart : other % 64 ≢ left % 64 = λ e. differs (omega (arith, e, same)) in
            subst (λ n. bit_at (get_or words n 0) (other % 64) ≡ 1) (sym same)
            (sym (bit_at_set_other w64 word (left % 64) (omega arith) (other % 64) apart)
            ∙ sym (ap (λ n. bit_at n (other % 64)) (get_or-set_same words (left / 64) new 0 (omega (arith, c.requires))))
            ∙ ap (λ n. bit_at (get_or (slice_set words (left / 64) new) n 0) (other % 64)) (sym same) ∙ is))
        | inr away ↦ sym (ap (λ n. bit_at n (other % 64)) (get_or-set_other words (left / 64) (other / 64) new 0 away)) ∙ is
      ])
    ]
