use Rattle.std.proofs.Common.{List, rules}
use Rattle.sudoers_grammar.specs.Node.{CmdSpec, HostGroup, Member}
use Rattle.sudoers_line_reader.specs.Descent.{host_group_reader}
use Rattle.sudoers_line_rows.specs.Tables.{members_of_range_in_tables, commands_of_range_in_tables}
use Rattle.sudoers_line_rows.proofs.Growth.{table_growth_is_transitive}
use Rattle.sudoers_line_reader.proofs.TokenRows.{two_lasting_rows_are_read_for_good}
use Rattle.sudoers_line_reader.proofs.specs_of_users.HostGroupReaderRowReader.read.Goals as goal

pub returns-in_err-commands-clause-grown : goal.returns-in_err-commands-clause-grown
returns-in_err-commands-clause-grown c = table_growth_is_transitive _ _ _ c.in_ok-hosts.ensures.grown c.in_err-commands.ensures.grown

pub returns-clause-reads : goal.returns-clause-reads
unfolding host_group_reader
returns-clause-reads c =
    let made : List Member → List CmdSpec → HostGroup = λ hs cs. record { hosts = hs; commands = cs } in
    two_lasting_rows_are_read_for_good members_of_range_in_tables commands_of_range_in_tables made c.read_member_list.new.tables c.read_cmd_spec_list.new.tables c.in_ok-hosts.hosts c.in_ok-commands.commands (host_group_reader c.args.cursor.now) c.read_cmd_spec_list.new.cursor
    c.in_ok-hosts.ensures.reads.1 c.in_ok-commands.ensures.reads.1 c.in_ok-commands.ensures.grown (search rules)

pub returns-clause-grown : goal.returns-clause-grown
returns-clause-grown c = table_growth_is_transitive _ _ _ c.in_ok-hosts.ensures.grown c.in_ok-commands.ensures.grown
