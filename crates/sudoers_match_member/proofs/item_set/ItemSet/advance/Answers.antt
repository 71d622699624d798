use Rattle.std.proofs.Common.{get_or, refl}
use Rattle.sudoers_match_member.proofs.Bits.{moved_word_has_first_bit, moved_words_have_item_behind}
use Rattle.sudoers_match_member.proofs.item_set.ItemSet.advance.Goals as goal

pub returns-clause-first : goal.returns-clause-first
returns-clause-first c is taken = moved_word_has_first_bit (get_or c.args.self.now.words 0 0) _ (get_or c.args.taking.now.words 0 0) (rw is refl) taken

pub returns-clause-behind : goal.returns-clause-behind
returns-clause-behind c i within reached taken =
    moved_words_have_item_behind _ (λ n. get_or c.args.self.now.words n 0) (λ n. get_or c.args.taking.now.words n 0) i within reached taken
