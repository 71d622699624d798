use Rattle.std.proofs.Common.{◌<◌, get_or, length, ap, sym, ◌∙◌, ◌&&◌, Bool, false, arith}
use Rattle.laws_compare.specs.Effective.{is_flat_row_for_user_on_host}
use Rattle.sudoers_compare.specs.FlatSpecs.{row_of_placed_view}
use Rattle.sudoers_review_users.proofs.UntouchedUser.{marked_row_is_found, marked_row_is_further, no_marked_row_is_found}
use Rattle.sudoers_review_users.proofs.changed_rules.has_marked_row_of_user.Goals as goal

pub loop-number-preserved : goal.loop-number-preserved
loop-number-preserved c =
    let who = c.args.who.now in
    let within : c.loop-number.number < length c.args.rows.now = omega (arith, c.loop-number-test.true, c.min-number-end.ensures) in
    let within_too : c.loop-number.number < length c.args.marks.now = omega (arith, c.loop-number-test.true, c.min-number-end.ensures) in
    marked_row_is_further who row_of_placed_view c.args.marks.now c.args.rows.now c.loop-number.number false c.index-rows-number.result within within_too
    (ap (λ (mark : Bool). mark && is_flat_row_for_user_on_host who (row_of_placed_view (get_or c.args.rows.now c.loop-number.number c.index-rows-number.result))) (sym c.is_marked.ensures)
    ∙ sym c.is_marked_row_of_user.ensures ∙ c.if-is_marked_row_of_user.false) c.loop-number.invariant

pub returns-then-is_marked_row_of_user : goal.returns-then-is_marked_row_of_user
returns-then-is_marked_row_of_user c =
    let who = c.args.who.now in
    let within : c.loop-number.number < length c.args.rows.now = omega (arith, c.loop-number-test.true, c.min-number-end.ensures) in
    let within_too : c.loop-number.number < length c.args.marks.now = omega (arith, c.loop-number-test.true, c.min-number-end.ensures) in
    marked_row_is_found who row_of_placed_view c.args.marks.now c.args.rows.now c.loop-number.number false c.index-rows-number.result within within_too
    (ap (λ (mark : Bool). mark && is_flat_row_for_user_on_host who (row_of_placed_view (get_or c.args.rows.now c.loop-number.number c.index-rows-number.result))) (sym c.is_marked.ensures)
    ∙ sym c.is_marked_row_of_user.ensures ∙ c.if-is_marked_row_of_user.true) c.loop-number.invariant

pub returns : goal.returns
returns c =
    no_marked_row_is_found c.args.who.now row_of_placed_view c.args.marks.now c.args.rows.now c.loop-number.number (omega (arith, c.loop-number-test.false, c.min-number-end.ensures)) c.loop-number.invariant
