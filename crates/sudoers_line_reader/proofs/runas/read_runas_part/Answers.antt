use Rattle.std.proofs.Common.{List, rules}
use Rattle.sudoers_grammar.specs.Node.{Member, RunasSpec}
use Rattle.sudoers_line_reader.specs.Descent.{runas_reader}
use Rattle.sudoers_line_rows.specs.Tables.{members_of_range_in_tables}
use Rattle.sudoers_line_rows.proofs.Growth.{table_growth_is_transitive}
use Rattle.sudoers_line_reader.proofs.TokenRows.{two_lasting_rows_are_read_for_good}
use Rattle.sudoers_line_reader.proofs.runas.read_runas_part.Goals as goal

pub returns-in_err-groups-clause-grown : goal.returns-in_err-groups-clause-grown
returns-in_err-groups-clause-grown c = table_growth_is_transitive _ _ _ c.in_ok-users.ensures.grown c.in_err-groups.ensures.grown

pub returns-in_err-expect_mark-2-clause-grown : goal.returns-in_err-expect_mark-2-clause-grown
returns-in_err-expect_mark-2-clause-grown c = table_growth_is_transitive _ _ _ c.in_ok-users.ensures.grown c.in_ok-groups.ensures.grown

pub returns-clause-reads : goal.returns-clause-reads
unfolding runas_reader
returns-clause-reads c =
    let made : List Member → List Member → RunasSpec = λ us gs. record { users = us; groups = gs } in
    two_lasting_rows_are_read_for_good members_of_range_in_tables members_of_range_in_tables made c.read_runas_users.new.tables c.read_runas_groups.new.tables c.in_ok-users.users c.in_ok-groups.groups (runas_reader c.args.cursor.now) c.expect_mark-2.new.self
    c.in_ok-users.ensures.reads.1 c.in_ok-groups.ensures.reads.1 c.in_ok-groups.ensures.grown (search rules)

pub returns-clause-grown : goal.returns-clause-grown
returns-clause-grown c = table_growth_is_transitive _ _ _ c.in_ok-users.ensures.grown c.in_ok-groups.ensures.grown
