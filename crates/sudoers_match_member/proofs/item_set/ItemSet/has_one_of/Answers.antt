use Rattle.std.proofs.Common.{◌/◌, ◌%◌, ap, get_or, not, arith}
use Rattle.std.proofs.lemmas.Bool.{ne_eqb}
use Rattle.sudoers_match_member.proofs.Bits.{words_with_common_bit_meet}
use Rattle.sudoers_match_member.proofs.item_set.ItemSet.has_one_of.Goals as goal

pub returns : goal.returns
returns c i within own other =
    ap not (ne_eqb _ 0 (words_with_common_bit_meet (λ n. get_or c.args.self.now.words n 0) (λ n. get_or c.args.others.now.words n 0) (i / 64) (i % 64) (omega arith) own other))
