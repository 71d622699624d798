use Rattle.std.proofs.Common.{List, Some, rules}
use Rattle.sudoers_grammar.specs.Node.{Node, Defaults, Param, Scope}
use Rattle.sudoers_line_reader.specs.Descent.{defaults_parameters_node_reader, scoped_defaults_reader}
use Rattle.sudoers_line_rows.specs.Tables.{parameters_of_range_in_tables, scope_in_tables}
use Rattle.sudoers_line_rows.proofs.Growth.{table_growth_is_transitive}
use Rattle.sudoers_line_reader.proofs.TokenRows.{two_lasting_rows_are_read_for_good}
use Rattle.sudoers_line_reader.proofs.defaults.read_scoped_parameters.Goals as goal

pub returns-in_err-params-clause-grown : goal.returns-in_err-params-clause-grown
returns-in_err-params-clause-grown c = table_growth_is_transitive _ _ _ c.in_ok-scope.ensures.grown c.in_err-params.ensures.grown

pub returns-clause-reads : goal.returns-clause-reads
unfolding scoped_defaults_reader defaults_parameters_node_reader
returns-clause-reads c =
    let made : Scope → List Param → Node = λ s ps. Defaults (Some s) ps in
    two_lasting_rows_are_read_for_good scope_in_tables parameters_of_range_in_tables made c.read_defaults_scope.new.tables c.read_parameter_list.new.tables c.in_ok-scope.scope c.in_ok-params.params (scoped_defaults_reader c.args.stop c.args.cursor.now) c.read_parameter_list.new.cursor
    c.in_ok-scope.ensures.reads.1 c.in_ok-params.ensures.reads.1 c.in_ok-params.ensures.grown (search rules)

pub returns-clause-grown : goal.returns-clause-grown
returns-clause-grown c = table_growth_is_transitive _ _ _ c.in_ok-scope.ensures.grown c.in_ok-params.ensures.grown
