use Rattle.std.proofs.Common.{◌≡◌, ◌++◌, List, ℕ, codes, ap, ap₂, ◌∙◌}
use Rattle.std.proofs.lemmas.Result.{on_ok_weaker}
use Rattle.sudoers_list.specs.Reason.{place_text_on_walk_line}
use Rattle.sudoers_list.proofs.Passing.{value_on_ok_is_first_choice}
use Rattle.sudoers_lint.specs.Rules.{rule_name, words_of_rule}
use Rattle.sudoers_lint.proofs.LintLines.{eight_parts_are_grouped}
use Rattle.sudoers_lint.proofs.lint_text.append_finding_line.Goals as goal

pub returns-clause-line : goal.returns-clause-line
returns-clause-line c =
    let o = c.args.out.now.items in
    let f = c.args.finding.now in
    let place : List ℕ = place_text_on_walk_line c.args.cursor.now.policy.now f.line f.start in
    let name : List ℕ = rule_name f.rule in
    let subject : List ℕ = f.subject.items in
    let words : List ℕ = words_of_rule f.rule in
    let first : c.append_place_at_cursor.new.out.items ≡ o ++ place = c.in_ok-append_place_at_cursor.ensures.text in
    let second : c.extend_from_slice.new.self.items ≡ (o ++ place) ++ codes ": warning: " = c.in_ok-extend_from_slice.ensures.items ∙ ap (λ (x : List ℕ). x ++ codes ": warning: ") first in
    let third : c.extend_from_slice-2.new.self.items ≡ ((o ++ place) ++ codes ": warning: ") ++ name = c.in_ok-extend_from_slice-2.ensures.items ∙ ap₂ (λ (x y : List ℕ). x ++ y) second c.name.ensures in
    let fourth : c.extend_from_slice-3.new.self.items ≡ (((o ++ place) ++ codes ": warning: ") ++ name) ++ codes ": " = c.in_ok-extend_from_slice-3.ensures.items ∙ ap (λ (x : List ℕ). x ++ codes ": ") third in
    let fifth : c.extend_from_slice-4.new.self.items ≡ ((((o ++ place) ++ codes ": warning: ") ++ name) ++ codes ": ") ++ subject =
    c.in_ok-extend_from_slice-4.ensures.items ∙ ap₂ (λ (x y : List ℕ). x ++ y) fourth c.as_slice.ensures.value in
    let sixth : c.extend_from_slice-5.new.self.items ≡ (((((o ++ place) ++ codes ": warning: ") ++ name) ++ codes ": ") ++ subject) ++ codes ": " =
    c.in_ok-extend_from_slice-5.ensures.items ∙ ap (λ (x : List ℕ). x ++ codes ": ") fifth in
    let seventh : c.extend_from_slice-6.new.self.items ≡ ((((((o ++ place) ++ codes ": warning: ") ++ name) ++ codes ": ") ++ subject) ++ codes ": ") ++ words =
    c.in_ok-extend_from_slice-6.ensures.items ∙ ap₂ (λ (x y : List ℕ). x ++ y) sixth c.words.ensures in
    let said = c.extend_from_slice-6.new.self.items in
    on_ok_weaker c.extend_from_slice-7.result (λ e.
    e ∙ ap (λ (x : List ℕ). x ++ codes "\n") seventh ∙ eight_parts_are_grouped o place (codes ": warning: ") name (codes ": ") subject (codes ": ") words (codes "\n"))
    (value_on_ok_is_first_choice c.extend_from_slice-7.result c.extend_from_slice-7.new.self.items (said ++ codes "\n") said c.extend_from_slice-7.ensures.items)
