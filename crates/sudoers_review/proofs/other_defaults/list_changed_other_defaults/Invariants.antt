use Rattle.std.proofs.Common.{◌+◌, ◌-◌, length}
use Rattle.sudoers_review.proofs.other_defaults.list_changed_other_defaults.Given as goal

abbrev pub decreases-loop-i : goal.decreases-loop-i
decreases-loop-i l = (length l.old.others.list.items - l.i) + (length l.new.others.list.items - l.j)
