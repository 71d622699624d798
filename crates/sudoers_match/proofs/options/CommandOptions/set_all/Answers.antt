use Rattle.sudoers_match.proofs.Common.{option_values_of_view}
use Rattle.sudoers_match.proofs.Valued.{next_row_sets_its_final_option}
use Rattle.sudoers_match.proofs.options.CommandOptions.set_all.Goals as goal

pub loop-row-preserved : goal.loop-row-preserved
loop-row-preserved c before e =
    next_row_sets_its_final_option c.args.options.now.tables.now c.args.options.now.rows.now c.loop-row.row-index _ c.loop-row-test.true (option_values_of_view c.loop-row.self) (option_values_of_view c.set.new.self)
    c.bytes_of_text_row.result.now c.bytes_of_text_row.ensures c.set.ensures before (c.loop-row.invariant before e)
