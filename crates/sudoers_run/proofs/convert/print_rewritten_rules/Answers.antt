use Rattle.std.proofs.Common.{◌≡◌, ◌∙◌, ◌≤◌, true, List, sym, ap, subst}
use Rattle.sudoers_tree.specs.Line.{Line}
use Rattle.sudoers_cvt_rewrite.specs.Changed.{changes_of_view}
use Rattle.sudoers_match_list.specs.Flattened.{expanded_member_limit}
use Rattle.sudoers_cvt_rewrite.specs.Rewrite.{PolicyChanges, member_count_of_rules, rewritten_lines_of_policy, rules_with_used_definitions}
use Rattle.sudoers_run.specs.Convert.{rules_text_in_form, rewritten_rules_text}
use Rattle.sudoers_run.proofs.RewriteLemmas.{are_rules, equal_outputs_have_same_rewrite_result}
use Rattle.sudoers_run.proofs.convert.print_rewritten_rules.Goals as goal

pub returns : goal.returns
returns c =
    let f = c.args.form in
    let changes : PolicyChanges = changes_of_view c.args.changes.now in
    let lines : List Line = c.args.policy.now.walk.lines in
    let new : List Line = rewritten_lines_of_policy changes lines in
    let are : c.in_ok-rules.rules ≡ rules_with_used_definitions new = c.in_ok-rules.ensures.rules ∙ ap rules_with_used_definitions c.in_ok-rewritten.ensures.lines in
    let within : changes.expand ≡ true → member_count_of_rules new ≤ expanded_member_limit =
    subst (λ ls. changes.expand ≡ true → member_count_of_rules ls ≤ expanded_member_limit) c.in_ok-rewritten.ensures.lines c.in_ok-rewritten.ensures.fits in
    equal_outputs_have_same_rewrite_result f changes.expand c.print_rules_in_form.result (rules_text_in_form f c.in_ok-rules.rules) (rewritten_rules_text f changes lines)
    (ap (rules_text_in_form f) are ∙ sym (are_rules f changes lines c.in_ok-rewritten.ensures.straight within)) c.print_rules_in_form.ensures
