use Rattle.sudoers_grammar.proofs.Last.{last_byte_tells_last_byte_test}
use Rattle.sudoers_grammar.proofs.token_with_text.ends_with_byte.Goals as goal

pub returns-in-Some : goal.returns-in-Some
returns-in-Some c = last_byte_tells_last_byte_test c.args.byte c.args.text.now c.in-Some.last.now c.in-Some.ensures.value
