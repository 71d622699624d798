use Rattle.std.proofs.Common.{◌≡◌, ◌+◌, List, length, sym, ap, subst, ◌∙◌, arith}
use Rattle.sudoers_compare.specs.FlatSpecs.{PlacedRow}
use Rattle.sudoers_review.specs.declared.overruled.UndecidedRows.{UndecidedRows}
use Rattle.sudoers_review.specs.Undecided.{AreCountedRows}
use Rattle.sudoers_review.proofs.OverruledRows.{decided_row_is_not_counted, first_undecided_row_is_counted, next_undecided_row_is_counted, undecided_before}
use Rattle.sudoers_review.proofs.overruled.count_undecided_rows.Goals.{then-found-number, then-undecided-eq0, else-undecided-eq0, else-found-number}
use Rattle.sudoers_review.proofs.overruled.count_undecided_rows.Goals as goal

pub loop-number-preserved : goal.loop-number-preserved
loop-number-preserved c =
    let found = c.args.found.now in
    let number = c.loop-number.number in
    let counted = c.loop-number.undecided in
    let next = c.if-found-number.undecided in
    elim c.if-found-number.branch [
      | then-found-number w ↦ elim w.if-undecided-eq0.branch [
        | then-undecided-eq0 w' ↦
            let first : next.first ≡ number = ap (λ (u : UndecidedRows). u.first) w.undecided-is ∙ ap (λ (u : UndecidedRows). u.first) w'.undecided-is in
            let more : next.count ≡ counted.count + 1 = ap (λ (u : UndecidedRows). u.count) w.undecided-is ∙ ap (λ (u : UndecidedRows). u.count + 1) w'.undecided-is in (
              omega (arith, more, c.loop-number.invariant.0),
              λ (rows : List PlacedRow) (same : length rows ≡ length found).
                  first_undecided_row_is_counted rows found number _ counted next same c.loop-number-test.true w.if-found-number.true w'.if-undecided-eq0.true first more (c.loop-number.invariant.1 rows same),
            )
        | else-undecided-eq0 w' ↦
            let first : next.first ≡ counted.first = ap (λ (u : UndecidedRows). u.first) w.undecided-is ∙ ap (λ (u : UndecidedRows). u.first) w'.undecided-is in
            let more : next.count ≡ counted.count + 1 = ap (λ (u : UndecidedRows). u.count) w.undecided-is ∙ ap (λ (u : UndecidedRows). u.count + 1) w'.undecided-is in (
              omega (arith, more, c.loop-number.invariant.0),
              λ (rows : List PlacedRow) (same : length rows ≡ length found).
                  next_undecided_row_is_counted rows found number _ counted next same c.loop-number-test.true w.if-found-number.true w'.if-undecided-eq0.false first more (c.loop-number.invariant.1 rows same),
            )
      ]
      | else-found-number w ↦
          let same_count : next.count ≡ counted.count = ap (λ (u : UndecidedRows). u.count) w.undecided-is in (
            omega (arith, same_count, c.loop-number.invariant.0),
            λ (rows : List PlacedRow) (same : length rows ≡ length found).
                subst (λ (u : UndecidedRows). AreCountedRows rows u (undecided_before rows found (number + 1))) (sym w.undecided-is)
                (decided_row_is_not_counted rows found number _ counted same c.loop-number-test.true w.if-found-number.false (c.loop-number.invariant.1 rows same)),
          )
    ]
