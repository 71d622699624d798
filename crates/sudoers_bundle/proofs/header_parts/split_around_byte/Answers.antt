use Rattle.sudoers_bundle.proofs.PartLemmas.{split_at_found_byte_is_parts, split_is_none_if_search_misses}
use Rattle.sudoers_bundle.proofs.header_parts.split_around_byte.Goals as goal

pub returns-in-Some : goal.returns-in-Some
returns-in-Some c = split_at_found_byte_is_parts c.args.byte c.args.bytes.now c.in-Some.at c.in-Some.ensures

pub returns-in-None : goal.returns-in-None
returns-in-None c = split_is_none_if_search_misses c.args.byte c.args.bytes.now c.in-None.ensures
