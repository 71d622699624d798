use Rattle.sudoers_check.proofs.Common.{IsOnCycle, MarksDecidePredicate, length, subst}
use Rattle.sudoers_check.proofs.Linked.{cycle_node_marks_are_cyclic_definitions}
use Rattle.sudoers_check.proofs.checking.mark_cyclic_definitions.Goals as goal

pub returns : goal.returns
returns c =
    cycle_node_marks_are_cyclic_definitions c.args.numbers.now.walk c.in_ok-marks.marks.items c.is_walk.ensures
    (subst (λ g. MarksDecidePredicate (IsOnCycle g) (length g) c.in_ok-marks.marks.items) c.requires c.in_ok-marks.ensures)
