use Rattle.sudoers_line_rows.proofs.Growth.{tables_have_grown_from_themselves, table_growth_is_transitive}
use Rattle.sudoers_line_rows.proofs.laws.growth_goes_on.Goals as goal

pub returns-clause-same : goal.returns-clause-same
returns-clause-same c = tables_have_grown_from_themselves

pub returns-clause-on : goal.returns-clause-on
returns-clause-on c = table_growth_is_transitive
