use Rattle.std.proofs.Common.{◌≡◌, ◌++◌, true, false, List, ℕ, codes, ap, ap₂, sym, ◌∙◌}
use Rattle.std.proofs.lemmas.Result.{on_ok_weaker}
use Rattle.sudoers_grammar.specs.declared.node.Kind.TheVariants.{User, Host}
use Rattle.sudoers_line_rows.specs.View.{members_of_view}
use Rattle.sudoers_cvt_spell.specs.Commands.{printed_runas_options_tags_and_command}
use Rattle.sudoers_cvt_spell.specs.Members.{printed_member_list}
use Rattle.sudoers_compare.specs.FlatRow.{grant_of_view}
use Rattle.sudoers_review.specs.RowText.{command_of_grant}
use Rattle.sudoers_review.proofs.RowTexts.{members_are_printed_alike, row_parts_are_grouped}
use Rattle.sudoers_review.proofs.row_text.append_row.Goals as goal

pub returns : goal.returns
returns c =
    let row = c.args.row.now in
    let o = c.args.out.now.items in
    let users : List ℕ = printed_member_list true User (members_of_view row.users) in
    let hosts : List ℕ = printed_member_list false Host (members_of_view row.hosts) in
    let command : List ℕ = printed_runas_options_tags_and_command (command_of_grant (grant_of_view row)) in
    let first : c.append_printed_member_list.new.out.items ≡ o ++ users = c.in_ok-append_printed_member_list.ensures.appended in
    let second : c.extend_from_slice.new.self.items ≡ (o ++ users) ++ codes " " = c.in_ok-extend_from_slice.ensures.items ∙ ap (λ (x : List ℕ). x ++ codes " ") first in
    let third : c.append_printed_member_list-2.new.out.items ≡ ((o ++ users) ++ codes " ") ++ hosts = c.in_ok-append_printed_member_list-2.ensures.appended ∙ ap (λ (x : List ℕ). x ++ hosts) second in
    let fourth : c.extend_from_slice-2.new.self.items ≡ (((o ++ users) ++ codes " ") ++ hosts) ++ codes " = " = c.in_ok-extend_from_slice-2.ensures.items ∙ ap (λ (x : List ℕ). x ++ codes " = ") third in
    on_ok_weaker c.append_command_of_row.result (λ e.
    e ∙ ap (λ (x : List ℕ). x ++ command) fourth ∙ row_parts_are_grouped o users (codes " ") hosts (codes " = ") command
    ∙ ap₂ (λ (a b : List ℕ). o ++ (a ++ codes " " ++ b ++ codes " = " ++ command)) (sym (members_are_printed_alike true User (members_of_view row.users)))
    (sym (members_are_printed_alike false Host (members_of_view row.hosts)))) c.append_command_of_row.ensures
