use Rattle.std.proofs.Common.{◌≡◌, List, ℕ, ◌++◌, false, codes, Option, None, refl, ap, ◌∙◌}
use Rattle.sudoers_grammar.specs.declared.node.Kind.TheVariants.{Cmnd}
use Rattle.sudoers_grammar.specs.Node.{RunasSpec}
use Rattle.sudoers_line_rows.specs.View.{member_of_view}
use Rattle.sudoers_match.specs.Heads.{AccumulatedCommandSettings, given_options_in_order, final_value_of_option, final_value_of_tag}
use Rattle.sudoers_cvt_spell.specs.Members.{printed_member}
use Rattle.sudoers_cvt_spell.specs.Commands.{printed_options, printed_runas, printed_tags}
use Rattle.sudoers_cvt_rules.specs.Effective.{given_tags_in_order}
use Rattle.sudoers_list.specs.Listing.{runas_spec_with_users_filled_in}
use Rattle.sudoers_list.proofs.Passing.{consequence_on_ok_is_weakened, command_text_parts_reassociate, value_on_ok_is_first_choice}
use Rattle.sudoers_list.proofs.listed_commands.append_listed_command.Goals as goal

pub returns : goal.returns
returns c =
    let o = c.args.out.now.items in
    let user = c.args.names.now.user.now in
    let d = c.args.names.now.default.now in
    let member = member_of_view c.args.member.now in
    consequence_on_ok_is_weakened c.extend_from_slice-2.result _ _ (λ e h is.
    let bare : AccumulatedCommandSettings = record { runas = None; options = h.options; tags = h.tags } in
    let r = printed_runas (runas_spec_with_users_filled_in user d h.runas) in
    let x = printed_options (given_options_in_order (final_value_of_option h.options)) in
    let y = printed_tags (given_tags_in_order (final_value_of_tag h.tags)) in
    let m = printed_member false Cmnd member in
    let said : c.in_ok-command.command.items ≡ (x ++ y) ++ m =
    c.in_ok-command.ensures.text bare (record { runas = refl; options = is.options; tags = is.tags }) in
    let first : c.append_listed_runas_spec.new.out.items ≡ o ++ r =
    c.in_ok-append_listed_runas_spec.ensures ∙ ap (λ (s : Option RunasSpec). o ++ printed_runas (runas_spec_with_users_filled_in user d s)) is.runas in
    e
    ∙ ap (λ (t : List ℕ). t ++ c.as_slice.result.now) (c.in_ok-extend_from_slice.ensures.items ∙ ap (λ (t : List ℕ). t ++ codes " ") first)
    ∙ ap (λ (t : List ℕ). ((o ++ r) ++ codes " ") ++ t) (c.as_slice.ensures.value ∙ said)
    ∙ command_text_parts_reassociate o r (codes " ") x y m) (value_on_ok_is_first_choice c.extend_from_slice-2.result _ _ _ c.extend_from_slice-2.ensures.items)
