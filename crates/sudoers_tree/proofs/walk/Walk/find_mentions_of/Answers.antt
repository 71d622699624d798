use Rattle.sudoers_tree.proofs.Common.{All-get_or, IsLastingLineRow, Line, LineRow, List, Tables, ap, get_or, mentions_in_line, node_in_tables, sym, ℕ, ◌++◌, ◌∙◌, ◌≡◌}
use Rattle.sudoers_line_rows.specs.declared.rows.NodeRow.TheVariants as node_row
use Rattle.sudoers_tree.specs.declared.place.Span.{Span}
use Rattle.sudoers_tree.proofs.AbsentBits.{mentions_go_on_after_row, row_without_name_bits_adds_no_mentions}
use Rattle.sudoers_tree.proofs.walk.Walk.find_mentions_of.Goals.{then-may_have_alias_with_bits+in_ok-append_mentions_in_line, else-may_have_alias_with_bits}
use Rattle.sudoers_tree.proofs.walk.Walk.find_mentions_of.Goals as goal

pub loop-number-preserved : goal.loop-number-preserved
loop-number-preserved c =
    let t : Tables = c.walk_line_rows-lines.result.tables.now in
    let rows : List LineRow = c.walk_line_rows-lines.result.rows.now in
    let n : ℕ = c.loop-number.number in
    let none : LineRow = record { text = record { from = 0; to = 0 }; node = node_row.Blank; bits = 0; lfs = 0 } in
    let row : LineRow = get_or rows n none in
    let before : List Span = c.loop-number.spans.items in
    let adds : c.if-may_have_alias_with_bits.spans.items ≡ before ++ mentions_in_line c.args.kind c.args.name.now n (node_in_tables t row.node) =
    elim c.if-may_have_alias_with_bits.branch [
      | then-may_have_alias_with_bits+in_ok-append_mentions_in_line w ↦
          ap (λ spans. spans.items) w.spans-is
          ∙ w.in_ok-append_mentions_in_line.ensures
          ∙ ap (λ (line : Line). before ++ mentions_in_line c.args.kind c.args.name.now n line.node) w.from_line_row-line.ensures
      | else-may_have_alias_with_bits w ↦
          ap (λ spans. spans.items) w.spans-is
          ∙ row_without_name_bits_adds_no_mentions c.args.kind c.args.name.now n t row c.from_alias_name-bits.result.set before
          (All-get_or (IsLastingLineRow t) rows n none c.loop-number-test.true c.walk_line_rows-lines.ensures.stand) c.from_alias_name-bits.ensures
          (sym c.may_have_alias_with_bits.ensures ∙ w.if-may_have_alias_with_bits.false)
    ] in
    mentions_go_on_after_row c.args.kind c.args.name.now n t rows none before c.if-may_have_alias_with_bits.spans.items _ c.loop-number-test.true adds c.loop-number.invariant
