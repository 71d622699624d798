use Rattle.std.proofs.Common.{◌∙◌, Option, arith, length, map, subst, sym, true≢false, ℕ}
use Rattle.std.proofs.lemmas.Bool.{lt-ltb, ltb-true}
use Rattle.sudoers_compare.specs.FlatRow.{flat_row_of_view}
use Rattle.sudoers_compare.specs.FlatSpecs.{row_of_placed_view}
use Rattle.sudoers_compare.proofs.Chains.{IsOnChain, chain_ends, chain_is_left, chain_leads_on, item_of_mapped_list, mapped_item_stands_below_length, no_row_is_missing_on_chain, row_on_chain_covers}
use Rattle.sudoers_compare.proofs.overruled.find_on_chain.Goals as goal

pub returns-then-left-eq0 : goal.returns-then-left-eq0
returns-then-left-eq0 c = λ all kept own right.
    let rows = map row_of_placed_view c.args.rows.rows.now in
    let row = flat_row_of_view c.args.row.now in
    let so_far = c.loop-reached.invariant all kept own right in (
      so_far.0,
      λ passes n are start. chain_is_left passes rows row c.args.most n c.in-Some.number c.loop-reached.left
          (subst (λ (reached : Option ℕ). IsOnChain passes rows row c.args.most n reached c.loop-reached.left) c.in-Some.is (so_far.1 passes n are start)) c.if-left-eq0.true,
    )

pub returns-in_default-get : goal.returns-in_default-get
returns-in_default-get c = λ all kept own right.
    let rows = map row_of_placed_view c.args.rows.rows.now in
    let row = flat_row_of_view c.args.row.now in
    let so_far = c.loop-reached.invariant all kept own right in (
      so_far.0,
      λ passes n are start.
          let later = no_row_is_missing_on_chain passes rows row c.args.most n c.in-Some.number c.loop-reached.left
          (subst (λ (reached : Option ℕ). IsOnChain passes rows row c.args.most n reached c.loop-reached.left) c.in-Some.is (so_far.1 passes n are start)) in
          let below = mapped_item_stands_below_length row_of_placed_view c.args.rows.rows.now c.in-Some.number later.0 later.1 in
          absurd (true≢false (sym (lt-ltb c.in-Some.number (length c.args.rows.rows.now) below) ∙ sym c.in_default-get.ensures.lookup.0)),
    )

pub returns-then-covers_row_by_lists : goal.returns-then-covers_row_by_lists
returns-then-covers_row_by_lists c = λ all kept own right.
    let rows = map row_of_placed_view c.args.rows.rows.now in
    let row = flat_row_of_view c.args.row.now in
    let later = row_of_placed_view c.in-Some-get.later.now in
    let so_far = c.loop-reached.invariant all kept own right in
    let stands = item_of_mapped_list row_of_placed_view c.args.rows.rows.now c.in-Some.number c.in-Some-get.later.now (ltb-true c.in-Some.number (length c.args.rows.rows.now) (sym c.in-Some-get.ensures.lookup.0)) c.in-Some-get.ensures.lookup.1 in
    let covers = c.covers_row_by_lists.ensures all so_far.0 (c.find_lists_of_row.ensures all rows later kept stands) own in (
      covers.0,
      λ passes n are start. row_on_chain_covers passes row later rows c.args.most n c.in-Some.number c.loop-reached.left
          (subst (λ (reached : Option ℕ). IsOnChain passes rows row c.args.most n reached c.loop-reached.left) c.in-Some.is (so_far.1 passes n are start))
          (omega (arith, c.if-left-eq0.false)) stands (sym covers.1 ∙ c.if-covers_row_by_lists.true),
    )

pub loop-reached-preserved : goal.loop-reached-preserved
loop-reached-preserved c = λ all kept own right.
    let rows = map row_of_placed_view c.args.rows.rows.now in
    let row = flat_row_of_view c.args.row.now in
    let later = row_of_placed_view c.in-Some-get.later.now in
    let so_far = c.loop-reached.invariant all kept own right in
    let stands = item_of_mapped_list row_of_placed_view c.args.rows.rows.now c.in-Some.number c.in-Some-get.later.now (ltb-true c.in-Some.number (length c.args.rows.rows.now) (sym c.in-Some-get.ensures.lookup.0)) c.in-Some-get.ensures.lookup.1 in
    let covers = c.covers_row_by_lists.ensures all so_far.0 (c.find_lists_of_row.ensures all rows later kept stands) own in (
      covers.0,
      λ passes n are start. chain_leads_on passes row later rows c.args.next.now c.args.most n c.in-Some.number c.loop-reached.left c.find_next_row-reached.result
          (subst (λ (reached : Option ℕ). IsOnChain passes rows row c.args.most n reached c.loop-reached.left) c.in-Some.is (so_far.1 passes n are start))
          (omega (arith, c.if-left-eq0.false)) are stands (sym covers.1 ∙ c.if-covers_row_by_lists.false) c.find_next_row-reached.ensures,
    )

pub returns : goal.returns
returns c = λ all kept own right.
    let rows = map row_of_placed_view c.args.rows.rows.now in
    let row = flat_row_of_view c.args.row.now in
    let so_far = c.loop-reached.invariant all kept own right in
    (so_far.0, λ passes n are start. chain_ends passes rows row c.args.most n c.loop-reached.left c.loop-reached.reached (so_far.1 passes n are start) c.in_default.is)
