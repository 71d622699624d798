use Rattle.sudoers_line_rows.specs.View.{members_of_view}
use Rattle.sudoers_undecided.proofs.Deciding.{list_to_decide_stands, sway_tells_standing}
use Rattle.sudoers_undecided.proofs.decided_aliases.DecidedAliases.standing_of_list.Goals as goal

pub returns-in-Some : goal.returns-in-Some
returns-in-Some c =
    sway_tells_standing c.args.numbers.now.walk c.args.self.now c.args.own (members_of_view c.args.members.now) c.in-Some.sway c.in-Some.ensures (record { holds = c.allows_or_else-holds.result; could_turn = c.may_be_swayed_from.result }) c.allows_or_else-holds.ensures c.may_be_swayed_from.ensures

pub returns-in-None : goal.returns-in-None
returns-in-None c = list_to_decide_stands c.args.numbers.now.walk c.args.self.now c.requires c.args.own (members_of_view c.args.members.now) c.in-None.ensures c.from_fact.result c.from_fact.ensures.holds c.from_fact.ensures.could_turn
