use Rattle.std.proofs.lemmas.Bool.{eqb-true}
use Rattle.sudoers_text.proofs.Values.{plain_word_is_its_own_value}
use Rattle.sudoers_text.proofs.word_value.is_own_value.Goals as goal

pub returns : goal.returns
returns c = λ is. plain_word_is_its_own_value c.args.word.now c.literal_prefix_len.result (eqb-true _ _ is) c.literal_prefix_len.ensures.plain
