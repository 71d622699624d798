use Rattle.std.proofs.Common.{◌≡◌, drop}
use Rattle.sudoers_match_member.specs.Class.{first_class_named_at, all_posix_classes}
use Rattle.sudoers_match_member.specs.Folded.{bytes_case_folded_if_wanted}
use Rattle.sudoers_match_member.proofs.byte_classes.find_class_named_at.Given as goal

abbrev pub invariant-loop-class : goal.invariant-loop-class
invariant-loop-class l = first_class_named_at (drop l.class-index all_posix_classes) (bytes_case_folded_if_wanted l.lower l.bytes) ≡ first_class_named_at all_posix_classes (bytes_case_folded_if_wanted l.lower l.bytes)
