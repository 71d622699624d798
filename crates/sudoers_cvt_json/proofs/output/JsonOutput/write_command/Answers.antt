use Rattle.std.proofs.Common.{rules, ◌≡◌, false, Err, IfErr, sym, subst}
use Rattle.std.specs.Option.{option_map}
use Rattle.serde_json.specs.Data.{string}
use Rattle.sudoers_grammar.specs.declared.node.Kind.TheVariants.{Cmnd}
use Rattle.sudoers_line_rows.specs.View.{member_of_view, runas_of_view}
use Rattle.sudoers_cvt_rules.specs.declared.fault.CvtFault.{CvtFault}
use Rattle.sudoers_cvt_spell.specs.Members.{printed_member}
use Rattle.sudoers_cvt_json.specs.Value.{runas_object_or_null, string_array_value}
use Rattle.sudoers_cvt_json.specs.Unicode.{are_texts_of_value_unicode}
use Rattle.sudoers_cvt_json.specs.internal.Built.{IsJsonFault, are_member_and_options_unicode, are_runas_and_tags_unicode, command_value_of_view, printed_option_texts, printed_tag_texts}
use Rattle.sudoers_cvt_json.proofs.Parts.{false_first_half_makes_all_false, false_second_half_makes_all_false, fault_of_part_is_fault_of_whole, true_halves_are_true}
use Rattle.sudoers_cvt_json.proofs.output.JsonOutput.write_command.Goals as goal

pub returns-in_err-write_member_and_options-clause-fault : goal.returns-in_err-write_member_and_options-clause-fault
returns-in_err-write_member_and_options-clause-fault c =
    let head = c.args.head.now in
    let member = c.args.member.now in
    let whole = are_texts_of_value_unicode (command_value_of_view head member) in
    let fault : CvtFault = c.in_err-write_member_and_options.field-0.0 in
    let same : c.from_residual.result ≡ Err fault = search rules in
    subst (λ r. IfErr r (IsJsonFault whole)) (sym same)
    (fault_of_part_is_fault_of_whole (are_member_and_options_unicode head member) whole fault
    (false_first_half_makes_all_false (are_texts_of_value_unicode (string (printed_member false Cmnd (member_of_view member)))) (are_texts_of_value_unicode (string_array_value (printed_option_texts head.options)))
    (are_texts_of_value_unicode (runas_object_or_null (option_map runas_of_view head.runas))) (are_texts_of_value_unicode (string_array_value (printed_tag_texts head.tags))))
    c.in_err-write_member_and_options.ensures.fault)

pub returns-in_err-write_runas_and_tags-clause-fault : goal.returns-in_err-write_runas_and_tags-clause-fault
returns-in_err-write_runas_and_tags-clause-fault c =
    let head = c.args.head.now in
    let member = c.args.member.now in
    let whole = are_texts_of_value_unicode (command_value_of_view head member) in
    let fault : CvtFault = c.in_err-write_runas_and_tags.field-0.0 in
    let same : c.from_residual-in_err-write_runas_and_tags.result ≡ Err fault = search rules in
    subst (λ r. IfErr r (IsJsonFault whole)) (sym same)
    (fault_of_part_is_fault_of_whole (are_runas_and_tags_unicode head) whole fault
    (false_second_half_makes_all_false (are_texts_of_value_unicode (string (printed_member false Cmnd (member_of_view member)))) (are_texts_of_value_unicode (string_array_value (printed_option_texts head.options)))
    (are_texts_of_value_unicode (runas_object_or_null (option_map runas_of_view head.runas))) (are_texts_of_value_unicode (string_array_value (printed_tag_texts head.tags))))
    c.in_err-write_runas_and_tags.ensures.fault)

pub returns-clause-unicode : goal.returns-clause-unicode
returns-clause-unicode c =
    let head = c.args.head.now in
    true_halves_are_true (are_texts_of_value_unicode (string (printed_member false Cmnd (member_of_view c.args.member.now)))) (are_texts_of_value_unicode (string_array_value (printed_option_texts head.options)))
    (are_texts_of_value_unicode (runas_object_or_null (option_map runas_of_view head.runas))) (are_texts_of_value_unicode (string_array_value (printed_tag_texts head.tags)))
    c.in_ok-write_member_and_options.ensures.unicode c.in_ok-write_runas_and_tags.ensures.unicode
