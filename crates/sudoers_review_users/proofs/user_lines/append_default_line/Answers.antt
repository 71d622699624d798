use Rattle.std.proofs.Common.{◌≡◌, ◌++◌, ℕ, List, codes, ap, ◌∙◌}
use Rattle.sudoers_review.specs.ChangedText.{sign_of_change}
use Rattle.sudoers_review_users.proofs.UserLines.{six_parts_are_grouped}
use Rattle.sudoers_review_users.proofs.user_lines.append_default_line.Goals as goal

pub returns : goal.returns
returns c =
    let o = c.args.out.now.text.items in
    let sign : List ℕ = sign_of_change c.args.change in
    let name = c.args.name.now in
    let default = c.args.default.now in
    let words : List ℕ = codes "Defaults runas_default=" in
    let first : c.extend_from_slice.new.self.items ≡ o ++ sign = c.in_ok-extend_from_slice.ensures.items ∙ ap (λ (x : List ℕ). o ++ x) c.sign_of.ensures in
    let second : c.append_part.new.out.items ≡ (o ++ sign) ++ name = c.in_ok-user.ensures ∙ ap (λ (x : List ℕ). x ++ name) first in
    let third : c.extend_from_slice-2.new.self.items ≡ ((o ++ sign) ++ name) ++ codes " " = c.in_ok-extend_from_slice-2.ensures.items ∙ ap (λ (x : List ℕ). x ++ codes " ") second in
    let fourth : c.extend_from_slice-3.new.self.items ≡ (((o ++ sign) ++ name) ++ codes " ") ++ words = c.in_ok-extend_from_slice-3.ensures.items ∙ ap (λ (x : List ℕ). x ++ words) third in
    let fifth : c.extend_from_slice-4.new.self.items ≡ ((((o ++ sign) ++ name) ++ codes " ") ++ words) ++ default = c.in_ok-extend_from_slice-4.ensures.items ∙ ap (λ (x : List ℕ). x ++ default) fourth in
    c.in_ok-extend_from_slice-5.ensures.items ∙ ap (λ (x : List ℕ). x ++ codes "\n") fifth ∙ six_parts_are_grouped o sign name (codes " ") words default (codes "\n")
