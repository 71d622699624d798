use Rattle.std.proofs.Common.{◌+◌, ◌||◌, true, false, get_or, arith, sym, subst, ◌∙◌}
use Rattle.sudoers_match_member.specs.Class.{is_byte_of_class}
use Rattle.sudoers_match_member.proofs.Tables.{IsDoneBelow, done_below_next, done_below_next_without_change, or_with_true_second_is_true, or_with_false_second_is_first}
use Rattle.sudoers_match_member.proofs.byte_sets.add_class.Goals as goal
use Rattle.sudoers_match_member.proofs.byte_sets.add_class.Goals.{then-has, else-has}

pub loop-byte-preserved : goal.loop-byte-preserved
loop-byte-preserved c =
    let old = c.args.has.now in let now = c.loop-byte.has in let byte = c.loop-byte.byte in let so_far = c.loop-byte.invariant.so_far in
    record {
      size = c.if-has.array_long ∙ sym c.told-has;
      so_far = elim c.if-has.branch [
        | then-has w ↦ subst (λ after. IsDoneBelow old after (λ b. get_or old b false || is_byte_of_class c.args.class b) (byte + 1)) (sym w.has-is)
            (done_below_next old now _ byte true (omega (arith, c.loop-byte.invariant.size, c.told-has, c.loop-byte-test.true)) so_far
            (or_with_true_second_is_true (get_or old byte false) (is_byte_of_class c.args.class byte) (sym c.has.ensures ∙ w.if-has.true)))
        | else-has w ↦ subst (λ after. IsDoneBelow old after (λ b. get_or old b false || is_byte_of_class c.args.class b) (byte + 1)) (sym w.has-is)
            (done_below_next_without_change old now _ byte so_far
            (or_with_false_second_is_first (get_or old byte false) (is_byte_of_class c.args.class byte) (sym c.has.ensures ∙ w.if-has.false)))
      ];
    }

pub returns : goal.returns
returns c b h = c.loop-byte.invariant.so_far.done b (omega (arith, h, c.loop-byte-test.false))
