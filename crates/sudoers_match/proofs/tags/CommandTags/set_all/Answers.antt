use Rattle.sudoers_match.proofs.Tagged.{next_row_sets_its_final_tag}
use Rattle.sudoers_match.proofs.tags.CommandTags.set_all.Goals as goal

pub loop-row-preserved : goal.loop-row-preserved
loop-row-preserved c before e =
    next_row_sets_its_final_tag c.args.tags.now.tables.now c.args.tags.now.rows.now c.loop-row.row-index _ c.loop-row-test.true c.loop-row.self c.set.new.self c.set.ensures before (c.loop-row.invariant before e)
