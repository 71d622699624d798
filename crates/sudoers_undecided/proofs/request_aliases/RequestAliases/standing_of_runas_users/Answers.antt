use Rattle.std.proofs.Common.{◌∙◌, sym}
use Rattle.std.proofs.lemmas.Bool.{eq-eqb, eqb-true}
use Rattle.sudoers_grammar.specs.declared.node.Kind.TheVariants.{Runas}
use Rattle.sudoers_line_rows.specs.Tables.{member_in_tables}
use Rattle.sudoers_line_rows.specs.View.{members_of_view}
use Rattle.sudoers_undecided.proofs.Standings.{empty_when_none, list_stands, no_runas_users_stand, not_empty, runas_users_stand}
use Rattle.sudoers_undecided.specs.MatchTests.{match_tests_of_request, undecided_by_files_or_paths}
use Rattle.sudoers_undecided.proofs.request_aliases.RequestAliases.standing_of_runas_users.Goals as goal

pub returns-else-is_empty : goal.returns-else-is_empty
returns-else-is_empty c scopes =
    let lines = c.args.numbers.now.walk in
    let r = c.args.request.now in
    let users = c.args.runas.now.users in
    let us = members_of_view users in
    let st = c.standing_of_list.result in
    runas_users_stand lines r us (not_empty (member_in_tables users.tables.now) users.rows.now (sym c.is_empty.ensures ∙ c.if-is_empty.false)) st
    (list_stands lines Runas (undecided_by_files_or_paths r).target (match_tests_of_request r).target c.args.self.now.targets c.requires.targets us st c.standing_of_list.ensures)

pub returns-then-is_empty : goal.returns-then-is_empty
returns-then-is_empty c scopes =
    let lines = c.args.numbers.now.walk in
    let r = c.args.request.now in
    let users = c.args.runas.now.users in
    let st = c.from_fact.result in
    no_runas_users_stand lines r (members_of_view users) (empty_when_none (member_in_tables users.tables.now) users.rows.now (sym c.is_empty.ensures ∙ c.if-is_empty.true)) st
    (λ e. eqb-true r.target.uid r.who.user.uid (sym c.from_fact.ensures.holds ∙ e)) (λ e. c.from_fact.ensures.holds ∙ eq-eqb r.target.uid r.who.user.uid e) c.from_fact.ensures.could_turn
