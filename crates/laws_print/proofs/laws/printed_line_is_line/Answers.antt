use Rattle.laws_print.proofs.AllLines.{printed_writable_node_is_logical_line}
use Rattle.laws_print.proofs.WholeLines.{printed_line_is_logical_line}
use Rattle.laws_print.proofs.laws.printed_line_is_line.Goals as goal

pub returns-clause-within : goal.returns-clause-within
returns-clause-within c says rest is = (printed_writable_node_is_logical_line says is).line rest

pub returns-clause-alone : goal.returns-clause-alone
returns-clause-alone c = printed_line_is_logical_line c.inner_line_ends.ensures
