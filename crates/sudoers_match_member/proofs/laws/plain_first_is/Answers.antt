use Rattle.sudoers_match_member.proofs.Plain.{backslash_before_plain_byte_keeps_match, backslash_before_plain_byte_keeps_host_match}
use Rattle.sudoers_match_member.proofs.laws.plain_first_is.Goals as goal

pub returns : goal.returns
returns c = record { pattern = backslash_before_plain_byte_keeps_match; host = backslash_before_plain_byte_keeps_host_match }
