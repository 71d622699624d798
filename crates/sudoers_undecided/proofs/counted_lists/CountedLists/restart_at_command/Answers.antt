use Rattle.std.proofs.Common.{[], ◌∷◌, subst}
use Rattle.sudoers_undecided.specs.declared.wanted_members.WantedMembers.TheVariants.{Allowing, Denying}
use Rattle.sudoers_undecided.specs.internal.Counted.{AddsOnlyListsOfParts, command_list}
use Rattle.sudoers_undecided.specs.internal.Parts.{all_parts}
use Rattle.sudoers_undecided.proofs.AddedLists.{command_added}
use Rattle.sudoers_undecided.proofs.counted_lists.CountedLists.restart_at_command.Goals as goal

pub returns-clause-only : goal.returns-clause-only
returns-clause-only c =
    let l = c.args.command.now in
    let allowing = command_list l.line c.args.member.now Allowing in
    let denying = command_list l.line c.args.member.now Denying in
    let start = c.clear.new.self in
    record {
      start = start;
      empty = c.clear.ensures.empty;
      only = command_added start c.add_command.new.self c.add_command-2.new.self l all_parts (allowing ∷ []) denying
          (command_added start c.add_parts.new.self c.add_command.new.self l all_parts [] allowing
          (subst (λ p. AddsOnlyListsOfParts start c.add_parts.new.self l p []) c.make_all.ensures c.in_ok-add_parts.ensures.only) c.in_ok-add_command.ensures.only) c.in_ok-add_command-2.ensures.only;
    }
