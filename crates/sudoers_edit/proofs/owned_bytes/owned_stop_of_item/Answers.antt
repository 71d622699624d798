use Rattle.sudoers_edit.proofs.SeamLemmas.{at_next, at_end}
use Rattle.sudoers_edit.proofs.owned_bytes.owned_stop_of_item.Goals as goal

pub returns-in_ok-get : goal.returns-in_ok-get
returns-in_ok-get g c =
    at_next g.T.HasByteExtent.extent (g.T.HasByteExtent.said c.args.items.now.tables.now) c.args.items.now.rows.now c.args.at c.in_ok-get.field-0.now c.byte_extent_of_row.result c.if-at-eq0.true
    c.in_ok-get.ensures.lookup.3.0 (c.in_ok-get.ensures.lookup.3.1 c.in_ok-get.field-0.now) c.byte_extent_of_row.ensures

pub returns-in_ok-get-2 : goal.returns-in_ok-get-2
returns-in_ok-get-2 g c =
    at_end g.T.HasByteExtent.extent (g.T.HasByteExtent.said c.args.items.now.tables.now) c.args.items.now.rows.now c.args.at c.in_ok-get-2.field-0.now c.byte_extent_of_row-else-at-eq0.result c.if-at-eq0.false
    c.in_ok-get-2.ensures.lookup.3.0 (c.in_ok-get-2.ensures.lookup.3.1 c.in_ok-get-2.field-0.now) c.byte_extent_of_row-else-at-eq0.ensures
