use Rattle.std.proofs.Common.{◌≡◌, List, ℕ, ◌++◌, false, Result, Ok, Err, OnOk, ap, ◌∙◌, append_assoc}
use Rattle.sudoers_grammar.specs.declared.node.Kind.TheVariants.{Cmnd}
use Rattle.sudoers_line_rows.specs.View.{member_of_view}
use Rattle.sudoers_match.specs.Heads.{given_options_in_order, final_value_of_option, final_value_of_tag}
use Rattle.sudoers_match.specs.Values.{option_values_of_view}
use Rattle.sudoers_cvt_spell.specs.Members.{printed_member}
use Rattle.sudoers_cvt_spell.specs.Commands.{printed_runas_prefix, printed_options, printed_tags}
use Rattle.sudoers_cvt_rules.specs.Effective.{given_tags_in_order}
use Rattle.sudoers_cvt_rules.specs.internal.Said.{printed_given_options, printed_given_tags}
use Rattle.sudoers_cvt_rules.proofs.SaidWhole.{printed_final_values_are_printed_options, printed_final_tags_are_printed_tags}
use Rattle.sudoers_cvt_rules.proofs.printed_commands.append_effective_command.Goals as goal

parts : (o a b c d : List ℕ) → (((o ++ a) ++ b) ++ c) ++ d ≡ o ++ (((a ++ b) ++ c) ++ d)
parts o a b c d = simp append_assoc

on_ok : {T E : Type 0} (r : Result T E) (P Q : Type 0) → (P → Q) → OnOk r P → OnOk r Q
on_ok (Ok v) P Q then h = then h
on_ok (Err e) P Q then h = tt

pub returns : goal.returns
returns c =
    let o = c.args.out.now.items in
    let m = printed_member false Cmnd (member_of_view c.args.member.now) in
    on_ok c.append_member.result _ _ (λ e h is.
    let a = printed_runas_prefix h.runas in
    let b = printed_options (given_options_in_order (final_value_of_option h.options)) in
    let d = printed_tags (given_tags_in_order (final_value_of_tag h.tags)) in
    let first : c.append_runas_prefix.new.out.items ≡ o ++ a = c.in_ok-append_runas_prefix.ensures ∙ ap (λ r. o ++ printed_runas_prefix r) is.runas in
    let second : c.append_options.new.out.items ≡ (o ++ a) ++ b =
    c.in_ok-append_options.ensures ∙ ap (λ x. x ++ printed_given_options (option_values_of_view c.args.head.now.options)) first ∙ ap (λ v. (o ++ a) ++ printed_given_options v) is.options ∙ ap (λ t. (o ++ a) ++ t) (printed_final_values_are_printed_options h.options) in
    let third : c.append_tags.new.out.items ≡ ((o ++ a) ++ b) ++ d =
    c.in_ok-append_tags.ensures ∙ ap (λ x. x ++ printed_given_tags c.args.head.now.tags) second ∙ ap (λ v. ((o ++ a) ++ b) ++ printed_given_tags v) is.tags ∙ ap (λ t. ((o ++ a) ++ b) ++ t) (printed_final_tags_are_printed_tags h.tags) in
    e ∙ ap (λ x. x ++ m) third ∙ parts o a b d m) c.append_member.ensures.appended
