use Rattle.sudoers_tree.proofs.Common.{◌∙◌}
use Rattle.sudoers_tree.proofs.Folders.{first_byte_is_found_iff_bytes_have_it}
use Rattle.sudoers_tree.proofs.include_targets.has_byte.Goals as goal

pub returns : goal.returns
returns c = c.is_some.ensures ∙ first_byte_is_found_iff_bytes_have_it c.args.byte c.args.bytes.now c.memchr.result c.memchr.ensures
