use Rattle.std.proofs.Common.{ℕ, Option, map, slice_get, sym, ap, ◌∙◌}
use Rattle.std.specs.Prelude.{option_and_then}
use Rattle.sudoers_compare.specs.FlatSpecs.{placed_row_of_view}
use Rattle.sudoers_review.proofs.OverruledRows.{row_read_stands}
use Rattle.sudoers_review.proofs.overruled.find_row.Goals as goal

pub returns-in-Some : goal.returns-in-Some
returns-in-Some c =
    row_read_stands placed_row_of_view c.args.rows.now c.in-Some.number c.get.result c.get.ensures.lookup
    ∙ ap (λ (number : Option ℕ). option_and_then (slice_get (map placed_row_of_view c.args.rows.now)) number) (sym c.in-Some.is)
