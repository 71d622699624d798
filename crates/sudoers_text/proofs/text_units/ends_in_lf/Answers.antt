use Rattle.sudoers_text.proofs.Units.{last_byte_tells_lf_end}
use Rattle.sudoers_text.proofs.text_units.ends_in_lf.Goals as goal

pub returns-in-Some : goal.returns-in-Some
returns-in-Some c = last_byte_tells_lf_end c.args.bytes.now c.in-Some.last.now c.in-Some.ensures.value
