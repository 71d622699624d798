use Rattle.std.proofs.Common.{map}
use Rattle.sudoers_compare.specs.FlatSpecs.{placed_rows_of_flat_command}
use Rattle.sudoers_compare.specs.RowLists.{lists_of_kept}
use Rattle.sudoers_compare.proofs.KeptLists.{lists_of_one_more}
use Rattle.sudoers_compare.proofs.row_lists.append_lists_of_host_group.Goals as goal

pub loop-command-preserved : goal.loop-command-preserved
loop-command-preserved c = λ all line users hosts is.
    lists_of_one_more (placed_rows_of_flat_command c.args.tables.now line users hosts) c.as_slice-command-items.result.now c.loop-command.command-index c.command-item.result
    (map (lists_of_kept all) c.loop-command.out.items) (map (lists_of_kept all) c.append_lists_of_command.new.out.items) _ c.loop-command-test.true c.command-item.is
    (c.in_ok-append_lists_of_command.ensures all c.args.tables.now line users hosts is) (c.loop-command.invariant all line users hosts is)
