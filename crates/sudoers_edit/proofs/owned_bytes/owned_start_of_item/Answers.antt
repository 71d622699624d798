use Rattle.sudoers_edit.proofs.SeamLemmas.{behind_one}
use Rattle.sudoers_edit.proofs.owned_bytes.owned_start_of_item.Goals as goal

pub returns-in_ok-get : goal.returns-in_ok-get
returns-in_ok-get g c =
    behind_one g.T.HasByteExtent.extent (g.T.HasByteExtent.said c.args.items.now.tables.now) c.args.items.now.rows.now c.args.at c.in_ok-get.field-0.now c.byte_extent_of_row-else-at-eq0.result c.if-at-eq0.false
    c.in_ok-get.ensures.lookup.3.0 (c.in_ok-get.ensures.lookup.3.1 c.in_ok-get.field-0.now) c.byte_extent_of_row-else-at-eq0.ensures
