use Rattle.std.proofs.Common.{[], subst}
use Rattle.sudoers_undecided.specs.declared.wanted_members.WantedMembers.TheVariants.{All}
use Rattle.sudoers_undecided.specs.internal.Counted.{AddsOnlyListsOfParts, command_list}
use Rattle.sudoers_undecided.specs.internal.Parts.{parts_without_hold_of}
use Rattle.sudoers_undecided.proofs.AddedLists.{command_added}
use Rattle.sudoers_undecided.proofs.counted_lists.CountedLists.add_lists_of_command.Goals as goal

pub returns-clause-only : goal.returns-clause-only
returns-clause-only c =
    let l = c.args.command.now in
    command_added c.args.self.now c.add_parts.new.self c.add_command.new.self l (parts_without_hold_of l.standing) [] (command_list l.line c.args.member.now All)
    (subst (λ p. AddsOnlyListsOfParts c.args.self.now c.add_parts.new.self l p []) c.parts_without_hold.ensures c.in_ok-add_parts.ensures.only) c.in_ok-add_command.ensures.only
