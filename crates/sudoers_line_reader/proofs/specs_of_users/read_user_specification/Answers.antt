use Rattle.std.proofs.Common.{rules}
use Rattle.sudoers_grammar.specs.Node.{Spec}
use Rattle.sudoers_line_reader.specs.Descent.{user_spec_reader}
use Rattle.sudoers_line_rows.specs.Tables.{members_of_range_in_tables, host_groups_of_range_in_tables}
use Rattle.sudoers_line_rows.proofs.Growth.{table_growth_is_transitive}
use Rattle.sudoers_line_reader.proofs.TokenRows.{two_lasting_rows_are_read_for_good}
use Rattle.sudoers_line_reader.proofs.specs_of_users.read_user_specification.Goals as goal

pub returns-in_err-groups-clause-grown : goal.returns-in_err-groups-clause-grown
returns-in_err-groups-clause-grown c = table_growth_is_transitive _ _ _ c.in_ok-users.ensures.grown c.in_err-groups.ensures.grown

pub returns-clause-reads : goal.returns-clause-reads
unfolding user_spec_reader
returns-clause-reads c =
    two_lasting_rows_are_read_for_good members_of_range_in_tables host_groups_of_range_in_tables Spec c.read_member_list.new.tables c.read_host_group_list.new.tables c.in_ok-users.users c.in_ok-groups.groups (user_spec_reader c.args.cursor.now) c.read_host_group_list.new.cursor
    c.in_ok-users.ensures.reads.1 c.in_ok-groups.ensures.reads.1 c.in_ok-groups.ensures.grown (search rules)

pub returns-clause-grown : goal.returns-clause-grown
returns-clause-grown c = table_growth_is_transitive _ _ _ c.in_ok-users.ensures.grown c.in_ok-groups.ensures.grown
