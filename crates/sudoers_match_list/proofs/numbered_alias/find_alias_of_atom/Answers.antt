use Rattle.sudoers_match_list.proofs.Common.{ap, members_of_view, option_map, sym, ◌∙◌}
use Rattle.sudoers_match_list.proofs.Numbered.{alias_is, has_members}
use Rattle.sudoers_match_list.proofs.numbered_alias.find_alias_of_atom.Goals as goal

pub returns-in_err-members-clause-number : goal.returns-in_err-members-clause-number
returns-in_err-members-clause-number c =
    absurd (has_members c.args.kind c.args.numbers.now.walk c.in-Alias.name.now c.in_ok-number.number
    (sym c.of.ensures ∙ c.in_ok-number.was) (ap (option_map members_of_view) (sym c.in_err-members.was) ∙ c.members_of_alias.ensures))

pub returns-clause-alias : goal.returns-clause-alias
returns-clause-alias c =
    alias_is c.args.kind c.args.numbers.now.walk c.in-Alias.name.now c.in_ok-number.number (members_of_view c.in_ok-members.members)
    (sym c.of.ensures ∙ c.in_ok-number.was) (ap (option_map members_of_view) (sym c.in_ok-members.was) ∙ c.members_of_alias.ensures)
