use Rattle.std.proofs.Common.{◌≡◌, ◌++◌, ℕ, List, Some, codes, ap, ap₂, refl, ◌∙◌}
use Rattle.sudoers_cvt_spell.specs.Commands.{printed_runas_options_tags_and_command}
use Rattle.sudoers_compare.specs.FlatRow.{grant_of_view}
use Rattle.sudoers_compare.specs.FlatSpecs.{PlacedRow, placed_row_of_view}
use Rattle.sudoers_review.specs.ChangedText.{sign_of_change}
use Rattle.sudoers_list.specs.Reason.{place_text_on_walk_line}
use Rattle.sudoers_review.specs.LineEnd.{line_end}
use Rattle.sudoers_review.specs.OverruledText.{place_text_of_row}
use Rattle.sudoers_review.specs.RowText.{command_of_grant}
use Rattle.sudoers_review_users.specs.UserChanges.{user_row_line}
use Rattle.sudoers_review_users.proofs.UserLines.{nine_parts_are_grouped}
use Rattle.sudoers_review_users.proofs.user_lines.append_user_row_line.Goals as goal

pub returns-clause-line : goal.returns-clause-line
returns-clause-line c =
    let o = c.args.out.now.text.items in
    let sign : List ℕ = sign_of_change c.args.change in
    let name = c.args.review.now.name.now in
    let policy = c.args.policy.now in
    let placed : PlacedRow = placed_row_of_view c.args.placed.now in
    let command : List ℕ = printed_runas_options_tags_and_command (command_of_grant (grant_of_view c.args.placed.now.row)) in
    let example = c.in_ok-example.ensures.text in
    let end : List ℕ = codes "  " ++ place_text_of_row policy placed ++ codes "\n" in
    let end_is : line_end policy (Some c.place_of_row.result) ≡ end =
    ap₂ (λ (line start : ℕ). codes "  " ++ place_text_on_walk_line policy line start ++ codes "\n") c.place_of_row.ensures.line c.place_of_row.ensures.start in
    let first : c.extend_from_slice.new.self.items ≡ o ++ sign = c.in_ok-extend_from_slice.ensures.items ∙ ap (λ (x : List ℕ). o ++ x) c.sign_of.ensures in
    let second : c.append_part.new.out.items ≡ (o ++ sign) ++ name = c.in_ok-user.ensures ∙ ap (λ (x : List ℕ). x ++ name) first in
    let third : c.extend_from_slice-2.new.self.items ≡ ((o ++ sign) ++ name) ++ codes " " = c.in_ok-extend_from_slice-2.ensures.items ∙ ap (λ (x : List ℕ). x ++ codes " ") second in
    let fourth : c.append_command_of_row.new.out.items ≡ (((o ++ sign) ++ name) ++ codes " ") ++ command = c.in_ok-append_command_of_row.ensures ∙ ap (λ (x : List ℕ). x ++ command) third in
    let fifth : c.extend_from_slice-3.new.self.items ≡ ((((o ++ sign) ++ name) ++ codes " ") ++ command) ++ codes "  " =
    c.in_ok-extend_from_slice-3.ensures.items ∙ ap (λ (x : List ℕ). x ++ codes "  ") fourth in
    let sixth : c.append_example.new.out.items ≡ (((((o ++ sign) ++ name) ++ codes " ") ++ command) ++ codes "  ") ++ example.0 = example.1 ∙ ap (λ (x : List ℕ). x ++ example.0) fifth in
    let seventh : c.append_line_end.new.out.text.items ≡ ((((((o ++ sign) ++ name) ++ codes " ") ++ command) ++ codes "  ") ++ example.0) ++ end =
    c.in_ok-append_line_end.ensures ∙ ap₂ (λ (x y : List ℕ). x ++ y) sixth end_is in (
      user_row_line sign name policy placed example.0,
      seventh ∙ nine_parts_are_grouped o sign name (codes " ") command (codes "  ") example.0 (codes "  ") (place_text_of_row policy placed) (codes "\n"),
      (example.0, example.2, refl),
    )
