use Rattle.std.proofs.Common.{◌≡◌, ◌++◌, Bool, List, codes, length, map, sym, ap, ap₂, subst, ◌∙◌}
use Rattle.std.proofs.lemmas.Result.{on_ok_weaker}
use Rattle.std.proofs.Math.Path.{subst₂}
use Rattle.sudoers_match_member.specs.declared.people_and_commands.Who.{Who}
use Rattle.sudoers_compare.specs.declared.flat_rows.PlacedFlatRow.{PlacedFlatRow}
use Rattle.sudoers_compare.specs.declared.flat_specs.FlatSpec.{FlatSpec}
use Rattle.sudoers_compare.specs.declared.same_row.CountedChanges.TheVariants as counted
use Rattle.sudoers_compare.specs.FlatSpecs.{PlacedRow, placed_row_of_view, placed_rows_of_flat_specs, placed_rows_of_policy, row_of_placed_view}
use Rattle.sudoers_compare.specs.Marked.{unmarked_items, AreUnchangedRows}
use Rattle.sudoers_review.specs.ChangedText.{marked_rows, rows_with_marks}
use Rattle.sudoers_review.proofs.ChangesTexts.{AreMarksOfViews}
use Rattle.sudoers_review_users.specs.Ready.{new_policy, old_policy}
use Rattle.sudoers_review_users.specs.Reviewed.{IsRowLineOfReview}
use Rattle.sudoers_review_users.specs.UserChanges.{default_lines, AreLinesOfItems}
use Rattle.sudoers_review_users.specs.UserRows.{deciding_rows_of_user}
use Rattle.sudoers_review_users.proofs.ChangesOfUser.{changes_of_user_have_their_parts, three_texts_are_appended}
use Rattle.sudoers_review_users.proofs.UntouchedUser.{untouched_user_has_only_default_lines}
use Rattle.sudoers_review_users.proofs.user_changes.append_changes_of_review.Goals as goal

pub returns-then-not-has_row_of_user-clause-text : goal.returns-then-not-has_row_of_user-clause-text
returns-then-not-has_row_of_user-clause-text c =
    let review = c.args.review.now in
    let none = c.if-not-has_row_of_user.true in (
      default_lines review.name.now review.old_default.now review.new_default.now,
      c.in_ok-append_default_lines.ensures,
      untouched_user_has_only_default_lines review.compared.now review.moment review.name.now c.args.request.now.who c.args.rules.now c.requires.rules
          (c.has_row_of_user.ensures.old none) (c.has_row_of_user.ensures.new none) review.old_default.now review.new_default.now c.requires.review.old_default c.requires.review.new_default,
    )

pub returns-clause-text : goal.returns-clause-text
returns-clause-text c =
    let review = c.args.review.now in
    let compared = review.compared.now in
    let who = c.args.request.now.who in
    let olds = c.in_ok-olds.olds.items in
    let news = c.in_ok-news.news.items in
    let gone = c.in_ok-marks.marks.gone.items in
    let came = c.in_ok-marks.marks.came.items in
    let marks = c.in_ok-marks.ensures in
    let value = c.as_slice-olds.ensures.value in
    let value_too = c.as_slice-news.ensures.value in
    let e : map placed_row_of_view olds ≡ deciding_rows_of_user who (placed_rows_of_policy (old_policy compared).walk.lines) =
    c.in_ok-olds.ensures ∙ ap (λ (specs : List FlatSpec). deciding_rows_of_user who (placed_rows_of_flat_specs compared.old.tables.now specs)) c.as_slice.ensures.value
    ∙ ap (deciding_rows_of_user who) c.requires.review.policies.old_rows in
    let e_too : map placed_row_of_view news ≡ deciding_rows_of_user who (placed_rows_of_policy (new_policy compared).walk.lines) =
    c.in_ok-news.ensures ∙ ap (λ (specs : List FlatSpec). deciding_rows_of_user who (placed_rows_of_flat_specs compared.new.tables.now specs)) c.as_slice-2.ensures.value
    ∙ ap (deciding_rows_of_user who) c.requires.review.policies.new_rows in
    let are : AreMarksOfViews counted.All olds news gone came = record {
      each_old = marks.each.0 ∙ ap length value;
      each_new = marks.each.1 ∙ ap length value_too;
      same = subst₂ (AreUnchangedRows counted.All) (ap (λ (held : List PlacedFlatRow). unmarked_items gone (map row_of_placed_view held)) value)
          (ap (λ (held : List PlacedFlatRow). unmarked_items came (map row_of_placed_view held)) value_too) marks.same;
      quiet = λ equal. marks.silent (ap (map row_of_placed_view) value ∙ equal ∙ sym (ap (map row_of_placed_view) value_too));
    } in
    let rows : List Bool → List PlacedFlatRow → List PlacedRow = λ (ms : List Bool) (held : List PlacedFlatRow). marked_rows (rows_with_marks ms (map placed_row_of_view held)) in
    let went_is : map placed_row_of_view c.as_slice-5.result.now ≡ rows gone olds =
    ap (map placed_row_of_view) c.as_slice-5.ensures.value ∙ c.in_ok-went.ensures ∙ ap₂ rows c.as_slice-3.ensures.value value in
    let came_is : map placed_row_of_view c.as_slice-6.result.now ≡ rows came news =
    ap (map placed_row_of_view) c.as_slice-6.ensures.value ∙ c.in_ok-came.ensures ∙ ap₂ rows c.as_slice-4.ensures.value value_too in
    let first = c.in_ok-append_user_row_lines.ensures.lines in
    let first_are : AreLinesOfItems (IsRowLineOfReview review who (codes "- ") (old_policy compared)) (rows gone olds) first.0 =
    subst (λ (held : List PlacedRow). AreLinesOfItems (IsRowLineOfReview review who (codes "- ") (old_policy compared)) held first.0) went_is first.2 in
    let defaults = default_lines review.name.now review.old_default.now review.new_default.now in
    on_ok_weaker c.append_user_row_lines-2.result (λ got. (
      defaults ++ first.0 ++ got.0,
      three_texts_are_appended c.args.out.now.text.items defaults first.0 got.0 c.append_default_lines.new.out.text.items c.append_user_row_lines.new.out.text.items c.append_user_row_lines-2.new.out.text.items
          c.in_ok-append_default_lines.ensures first.1 got.1,
      changes_of_user_have_their_parts (old_policy compared) (new_policy compared) review.moment review.name.now who olds news gone came
          review.old_default.now review.new_default.now first.0 got.0 c.requires.review.old_default c.requires.review.new_default e e_too are first_are
          (subst (λ (held : List PlacedRow). AreLinesOfItems (IsRowLineOfReview review who (codes "+ ") (new_policy compared)) held got.0) came_is
          (subst (λ (w : Who). AreLinesOfItems (IsRowLineOfReview review w (codes "+ ") (new_policy compared)) (map placed_row_of_view c.as_slice-6.result.now) got.0) c.in_ok-append_user_row_lines.ensures.user got.2)),
    )) c.append_user_row_lines-2.ensures.lines
