use Rattle.std.proofs.Common.{◌≡◌, ◌++◌, length, map, reverse}
use Rattle.sudoers_edit_script.specs.declared.edit.Edit.TheVariants.{Delete}
use Rattle.sudoers_plan.proofs.line_wishes.make_line_removals.Given as goal

abbrev pub invariant-loop-at : goal.invariant-loop-at
invariant-loop-at l =
    l.edits ++ map (λ at. Delete l.file at) (reverse l.numbers.items) ≡ map (λ at. Delete l.file at) (reverse l.fn.numbers.items)

abbrev pub decreases-loop-at : goal.decreases-loop-at
decreases-loop-at l = length l.numbers.items
