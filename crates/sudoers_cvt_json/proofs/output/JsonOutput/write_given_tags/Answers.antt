use Rattle.std.proofs.Common.{rules, ◌≡◌, ◌+◌, Bool, None, Option, drop, get_or, map, Err, IfErr, sym, ap, subst, ◌∙◌}
use Rattle.std.specs.List.{cons_option, filter_map}
use Rattle.std.specs.Option.{option_map}
use Rattle.std.proofs.lemmas.List.{drop_more}
use Rattle.serde_json.specs.Data.{string}
use Rattle.sudoers_cvt_rules.specs.declared.fault.CvtFault.{CvtFault}
use Rattle.sudoers_grammar.specs.declared.node.Tag.TheVariants as tag
use Rattle.sudoers_cvt_spell.specs.Commands.{tag_keyword_or_negated}
use Rattle.sudoers_cvt_json.specs.internal.Built.{IsJsonFault, are_values_unicode, printed_tag_text_if_given}
use Rattle.sudoers_cvt_json.proofs.Parts.{fault_of_first_value_left_is_of_all}
use Rattle.sudoers_cvt_json.proofs.output.JsonOutput.write_given_tags.Goals as goal

pub returns-in_err-write_tag-clause-fault : goal.returns-in_err-write_tag-clause-fault
returns-in_err-write_tag-clause-fault c =
    let pairs = c.args.pairs.now in
    let i = c.loop-tag.tag-index in
    let all = are_values_unicode (map string (filter_map printed_tag_text_if_given pairs)) in
    let fault : CvtFault = c.in_err-write_tag.field-0.0 in
    let same : c.from_residual-in_err-write_tag.result ≡ Err fault = search rules in
    subst (λ r. IfErr r (IsJsonFault all)) (sym same)
    (fault_of_first_value_left_is_of_all _ _ _ all fault
    (ap (λ ps. map string (filter_map printed_tag_text_if_given ps)) (drop_more pairs i (tag.Exec, None) c.loop-tag-test.true)
    ∙ ap (λ (on : Option Bool). map string (cons_option (option_map (tag_keyword_or_negated (get_or pairs i (tag.Exec, None)).0) on) (filter_map printed_tag_text_if_given (drop (i + 1) pairs)))) c.in-Some.is)
    c.loop-tag.invariant.unicode c.in_err-write_tag.ensures.fault)
