use Rattle.std.proofs.Common.{◌∙◌, sym}
use Rattle.sudoers_grammar.specs.declared.node.Kind.TheVariants.{Runas}
use Rattle.sudoers_line_rows.specs.Tables.{member_in_tables}
use Rattle.sudoers_line_rows.specs.View.{members_of_view}
use Rattle.sudoers_undecided.proofs.Standings.{asked_group_aliases, decided_list_stands, empty_when_none, group_list_stands, group_of_target_stands, group_of_user_stands, not_empty, stands_for_group}
use Rattle.sudoers_undecided.proofs.request_aliases.RequestAliases.standing_of_runas_groups.Goals as goal

pub returns-then-not-is_empty : goal.returns-then-not-is_empty
returns-then-not-is_empty c =
    let lines = c.args.numbers.now.walk in
    let r = c.args.request.now in
    let g = c.in-Some.group in
    let groups = c.args.runas.now.groups in
    let gs = members_of_view groups in
    let st = c.standing_of_list.result in
    stands_for_group lines r g c.in-Some.is (members_of_view c.args.runas.now.users) gs st
    (group_list_stands lines r g (members_of_view c.args.runas.now.users) gs st c.has_number-own.result c.has_number-own.ensures
    (not_empty (member_in_tables groups.tables.now) groups.rows.now (sym c.is_empty.ensures ∙ c.if-not-is_empty.true))
    (decided_list_stands lines Runas _ _ c.args.self.now.groups (asked_group_aliases lines r g c.args.self.now.groups c.in-Some.is c.requires.groups) c.has_number-own.result gs st c.standing_of_list.ensures))

pub returns-then-is_empty : goal.returns-then-is_empty
returns-then-is_empty c =
    let lines = c.args.numbers.now.walk in
    let r = c.args.request.now in
    let g = c.in-Some.group in
    let users = c.args.runas.now.users in
    let groups = c.args.runas.now.groups in
    let us = members_of_view users in
    let gs = members_of_view groups in
    let st = c.from_fact-then-is_empty.result in
    stands_for_group lines r g c.in-Some.is us gs st
    (group_of_user_stands lines r g us gs st (empty_when_none (member_in_tables users.tables.now) users.rows.now (sym c.is_empty-else-not-is_empty.ensures ∙ c.if-is_empty.true))
    (empty_when_none (member_in_tables groups.tables.now) groups.rows.now (sym c.is_empty.ensures ∙ c.if-not-is_empty.false))
    (c.from_fact-then-is_empty.ensures.holds ∙ c.has_number.ensures) c.from_fact-then-is_empty.ensures.could_turn)

pub returns-else-is_empty : goal.returns-else-is_empty
returns-else-is_empty c =
    let lines = c.args.numbers.now.walk in
    let r = c.args.request.now in
    let g = c.in-Some.group in
    let users = c.args.runas.now.users in
    let groups = c.args.runas.now.groups in
    let us = members_of_view users in
    let gs = members_of_view groups in
    let st = c.from_fact-else-is_empty.result in
    stands_for_group lines r g c.in-Some.is us gs st
    (group_of_target_stands lines r g us gs st (not_empty (member_in_tables users.tables.now) users.rows.now (sym c.is_empty-else-not-is_empty.ensures ∙ c.if-is_empty.false))
    (empty_when_none (member_in_tables groups.tables.now) groups.rows.now (sym c.is_empty.ensures ∙ c.if-not-is_empty.false))
    (c.from_fact-else-is_empty.ensures.holds ∙ c.has_number-else-is_empty.ensures) c.from_fact-else-is_empty.ensures.could_turn)
