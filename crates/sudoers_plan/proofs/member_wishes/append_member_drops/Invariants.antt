use Rattle.std.proofs.Common.{◌≡◌, ◌++◌, length, map, reverse}
use Rattle.sudoers_edit_script.specs.declared.edit.Edit.TheVariants.{DropMember}
use Rattle.sudoers_plan.proofs.member_wishes.append_member_drops.Given as goal

abbrev pub invariant-loop-number : goal.invariant-loop-number
invariant-loop-number l =
    l.edits ++ map (λ at. DropMember l.kind l.alias at) (reverse l.numbers.items)
    ≡ l.initial.edits ++ map (λ at. DropMember l.kind l.alias at) (reverse l.fn.numbers.items)

abbrev pub decreases-loop-number : goal.decreases-loop-number
decreases-loop-number l = length l.numbers.items
