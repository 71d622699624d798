use Rattle.std.proofs.Common.{◌≡◌, drop}
use Rattle.sudoers_match_member.specs.Class.{has_bracketed_class_name_prefix}
use Rattle.sudoers_match_member.specs.Folded.{bytes_case_folded_if_wanted}
use Rattle.sudoers_match_member.proofs.byte_classes.begins_with_bracketed_class_name.Given as goal

abbrev pub invariant-loop-index : goal.invariant-loop-index
invariant-loop-index l = has_bracketed_class_name_prefix (drop l.index (bytes_case_folded_if_wanted l.lower l.bytes)) (drop l.index l.name) ≡ has_bracketed_class_name_prefix (bytes_case_folded_if_wanted l.lower l.bytes) l.name
