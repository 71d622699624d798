use Rattle.std.proofs.Common.{◌≡◌, ◌++◌, List, ℕ, codes, ap, ap₂, ◌∙◌}
use Rattle.sudoers_compare.specs.FlatSpecs.{PlacedRow, placed_row_of_view}
use Rattle.sudoers_compare.specs.SameRow.{have_same_effect}
use Rattle.sudoers_review.specs.OverruledText.{command_text_of_row, place_text_of_row, useless_or_overruled_words}
use Rattle.sudoers_review.proofs.OverruledRows.{six_parts_are_grouped}
use Rattle.sudoers_review.proofs.overruled.append_overruled_row_line.Goals as goal

pub returns : goal.returns
returns c =
    let o = c.args.out.now.text.items in
    let policy = c.args.policy.now in
    let placed : PlacedRow = placed_row_of_view c.args.placed.now in
    let later : PlacedRow = placed_row_of_view c.args.later.now in
    let place : List ℕ = place_text_of_row policy placed in
    let words : List ℕ = useless_or_overruled_words (have_same_effect placed.row.grant later.row.grant) in
    let command : List ℕ = command_text_of_row placed in
    let other : List ℕ = place_text_of_row policy later in
    let first : c.append_place_of_row.new.out.items ≡ o ++ place = c.in_ok-append_place_of_row.ensures in
    let second : c.extend_from_slice.new.self.items ≡ (o ++ place) ++ words =
    c.in_ok-extend_from_slice.ensures.items ∙ ap₂ (λ (x y : List ℕ). x ++ y) first (c.choose_words.ensures ∙ ap useless_or_overruled_words c.has_same_effect-is_useless.ensures) in
    let third : c.append_command_text.new.out.items ≡ ((o ++ place) ++ words) ++ command = c.in_ok-append_command_text.ensures ∙ ap (λ (x : List ℕ). x ++ command) second in
    let fourth : c.extend_from_slice-2.new.self.items ≡ (((o ++ place) ++ words) ++ command) ++ codes ": " = c.in_ok-extend_from_slice-2.ensures.items ∙ ap (λ (x : List ℕ). x ++ codes ": ") third in
    let fifth : c.append_place_of_row-2.new.out.items ≡ ((((o ++ place) ++ words) ++ command) ++ codes ": ") ++ other = c.in_ok-append_place_of_row-2.ensures ∙ ap (λ (x : List ℕ). x ++ other) fourth in
    c.in_ok-extend_from_slice-3.ensures.items ∙ ap (λ (x : List ℕ). x ++ codes " decides\n") fifth ∙ six_parts_are_grouped o place words command (codes ": ") other (codes " decides\n")
