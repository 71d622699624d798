use Rattle.std.proofs.Common.{◌≡◌, ◌≢◌, ℕ, true, false, not, get_or, slice_set, arith, refl, sym, ap, ◌∙◌, inl, inr}
use Rattle.std.specs.Bool.{beq}
use Rattle.std.proofs.lemmas.Bool.{cases_eq, false≢true, ne_eqb}
use Rattle.std.proofs.lemmas.List.{get_or-set_same, get_or-set_other, length-set}
use Rattle.sudoers_match_member.specs.declared.wildcards.GlobMode.{GlobMode}
use Rattle.sudoers_match_member.specs.declared.wildcards.GlobMode.TheVariants.{Args, Path}
use Rattle.sudoers_match_member.specs.Wildcard.{may_wildcard_take}
use Rattle.sudoers_match_member.proofs.Tables.{done_below_next, and_with_true_first_is_second, and_with_false_first_is_false}
use Rattle.sudoers_match_member.proofs.first_pattern_item.turn_into_taken_bytes.Goals as goal

all_bytes_are_taken_where_slash_is : (mode : GlobMode) (b : ℕ) → may_wildcard_take mode 47 ≡ true → may_wildcard_take mode b ≡ true
all_bytes_are_taken_where_slash_is Path b e = absurd (false≢true e)
all_bytes_are_taken_where_slash_is Args b e = refl

byte_other_than_slash_is_taken : (mode : GlobMode) (b : ℕ) → b ≢ 47 → may_wildcard_take mode b ≡ true
byte_other_than_slash_is_taken Path b other = ap not (ne_eqb b 47 other)
byte_other_than_slash_is_taken Args b other = refl

pub loop-byte-preserved : goal.loop-byte-preserved
loop-byte-preserved c =
    let old = c.args.takes.now in let now = c.loop-byte.takes in let byte = c.loop-byte.byte in let inv = c.loop-byte.invariant in
    record {
      size = length-set now byte _ ∙ inv.size;
      so_far = done_below_next old now (λ b. not (beq (get_or old b false) c.args.negated)) byte _ (omega (arith, inv.size, c.told-takes, c.loop-byte-test.true)) inv.so_far
          (ap (λ has. not (beq has c.args.negated)) (inv.so_far.rest byte (omega arith)));
    }

pub returns-then-not-may_wildcard_take_byte : goal.returns-then-not-may_wildcard_take_byte
returns-then-not-may_wildcard_take_byte c b h =
    let mode = c.args.mode in let now = c.loop-byte.takes in let inv = c.loop-byte.invariant in
    elim (cases_eq b 47) [
      | inl same ↦ ap (λ n. get_or (slice_set now 47 false) n false) same ∙ get_or-set_same now 47 false false (omega (arith, inv.size, c.told-takes))
          ∙ and_with_false_first_is_false (may_wildcard_take mode b) _ (ap (may_wildcard_take mode) same ∙ sym c.may_wildcard_take_byte.ensures ∙ c.if-not-may_wildcard_take_byte.true)
      | inr other ↦ get_or-set_other now 47 b false false other ∙ inv.so_far.done b (omega (arith, h, c.loop-byte-test.false))
          ∙ and_with_true_first_is_second (may_wildcard_take mode b) _ (byte_other_than_slash_is_taken mode b other)
    ]

pub returns-else-not-may_wildcard_take_byte : goal.returns-else-not-may_wildcard_take_byte
returns-else-not-may_wildcard_take_byte c b h =
    c.loop-byte.invariant.so_far.done b (omega (arith, h, c.loop-byte-test.false))
    ∙ and_with_true_first_is_second (may_wildcard_take c.args.mode b) _ (all_bytes_are_taken_where_slash_is c.args.mode b (sym c.may_wildcard_take_byte.ensures ∙ c.if-not-may_wildcard_take_byte.false))
