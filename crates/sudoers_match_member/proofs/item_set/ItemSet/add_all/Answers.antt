use Rattle.std.proofs.Common.{◌/◌, ◌%◌, arith, get_or}
use Rattle.sudoers_match_member.proofs.Bits.{joined_words_have_bits_of_both}
use Rattle.sudoers_match_member.proofs.item_set.ItemSet.add_all.Goals as goal

pub returns : goal.returns
returns c i few may =
    joined_words_have_bits_of_both (λ n. get_or c.args.self.now.words n 0) (λ n. get_or c.args.others.now.words n 0) (i / 64) (i % 64) (omega arith) may
