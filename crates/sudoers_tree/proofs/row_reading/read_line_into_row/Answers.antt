use Rattle.sudoers_tree.proofs.Common.{ap, bits_said, table_growth_is_transitive, ◌∙◌}
use Rattle.sudoers_tree.proofs.TreeLines.{row_of_read_line_is_lasting}
use Rattle.sudoers_tree.proofs.row_reading.read_line_into_row.Goals as goal

pub returns-clause-gives : goal.returns-clause-gives
returns-clause-gives c = (
  row_of_read_line_is_lasting table_growth_is_transitive c.store_text.new.tables c.read_line.new.tables c.in_ok-node.node c.in_ok-text.text c.alias_name_bits_of_node-bits.result c.in_ok-lfs.lfs c.args.line.now
      c.in_ok-text.ensures.keeps c.in_ok-node.ensures.grown c.in_ok-node.ensures.gives.0 c.in_ok-node.ensures.gives.1
      (c.alias_name_bits_of_node-bits.ensures ∙ ap bits_said c.node_of_row.ensures) (c.in_ok-lfs.ensures ∙ c.lf_count.ensures.count),
  c.in_ok-text.ensures.keeps _ c.in_ok-node.ensures.grown,
)

pub returns-in_err-node-clause-grown : goal.returns-in_err-node-clause-grown
returns-in_err-node-clause-grown c = table_growth_is_transitive _ _ _ c.in_ok-text.ensures.grown c.in_err-node.ensures.grown
