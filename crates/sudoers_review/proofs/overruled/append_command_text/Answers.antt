use Rattle.std.proofs.Common.{◌++◌, false, ℕ, List, sym, ap, ◌∙◌}
use Rattle.std.proofs.lemmas.Result.{on_ok_weaker}
use Rattle.sudoers_grammar.specs.declared.node.Kind.TheVariants.{Cmnd}
use Rattle.sudoers_line_rows.specs.View.{member_of_view}
use Rattle.sudoers_review.proofs.RowTexts.{member_is_printed_alike}
use Rattle.sudoers_review.proofs.overruled.append_command_text.Goals as goal

pub returns : goal.returns
returns c =
    let o = c.args.out.now.items in
    on_ok_weaker c.append_member.result (λ e. e ∙ ap (λ (text : List ℕ). o ++ text) (sym (member_is_printed_alike false Cmnd (member_of_view c.args.placed.now.row.member)))) c.append_member.ensures.appended
