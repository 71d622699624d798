use Rattle.std.proofs.Common.{◌≡◌, ◌<◌, ◌≤◌, ℕ, true, false, get_or, slice_set, arith, ap, ◌∙◌, inl, inr}
use Rattle.std.proofs.lemmas.Bool.{cases_eq, cases_lt}
use Rattle.std.proofs.lemmas.Bool.Decides.{nat_tests}
use Rattle.std.proofs.lemmas.List.{get_or-set_same, get_or-set_other, length-set}
use Rattle.sudoers_match_member.specs.Class.{is_between}
use Rattle.sudoers_match_member.proofs.Tables.{or_with_true_second_is_true, or_with_false_second_is_first}
use Rattle.sudoers_match_member.proofs.byte_sets.add_range.Goals as goal

pub loop-byte-preserved : goal.loop-byte-preserved
loop-byte-preserved c =
    let now = c.loop-byte.has in let byte = c.loop-byte.byte in let old = c.loop-byte.invariant in
    record {
      size = length-set now byte true ∙ old.size;
      low = omega (arith, old.low);
      high = omega (arith, c.loop-byte-test.true);
      done = λ b low h. elim (cases_eq b byte) [
        | inl same ↦ ap (λ n. get_or (slice_set now byte true) n false) same ∙ get_or-set_same now byte true false (omega (arith, old.size, c.told-has, c.loop-byte-test.true, c.ranges.high))
        | inr other ↦ get_or-set_other now byte b true false other ∙ old.done b low (omega (arith, h, other))
      ];
      before = λ b h. get_or-set_other now byte b true false (λ e. omega (arith, e, h, old.low)) ∙ old.before b h;
      rest = λ b h. get_or-set_other now byte b true false (λ e. omega (arith, e, h)) ∙ old.rest b (omega (arith, h));
    }

between : (low high b : ℕ) → low ≤ b → b ≤ high → is_between low high b ≡ true
between low high b h k = grind (arith, nat_tests)

below : (low high b : ℕ) → b < low → is_between low high b ≡ false
below low high b h = grind (arith, nat_tests)

above : (low high b : ℕ) → high < b → is_between low high b ≡ false
above low high b h = grind (arith, nat_tests)

pub returns : goal.returns
returns c b h =
    let low = c.args.low in let high = c.args.high in let is = c.loop-byte.invariant in let old = get_or c.args.has.now b false in
    elim (cases_lt b low) [
      | inl less ↦ is.before b less ∙ or_with_false_second_is_first old (is_between low high b) (below low high b less)
      | inr from ↦ elim (cases_lt high b) [
        | inl more ↦ elim (cases_lt b c.loop-byte.byte) [
          | inl within ↦ absurd (omega (arith, within, more, from, is.high))
          | inr on ↦ is.rest b on ∙ or_with_false_second_is_first old (is_between low high b) (above low high b more)
        ]
        | inr to ↦ is.done b from (omega (arith, to, c.loop-byte-test.false)) ∙ or_with_true_second_is_true old (is_between low high b) (between low high b from to)
      ]
    ]
