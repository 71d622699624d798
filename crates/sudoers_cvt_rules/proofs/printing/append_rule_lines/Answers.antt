use Rattle.std.proofs.Common.{rules, ◌≡◌, map, slice_get, Some, Err, IfErr, sym, ap, subst, ◌∙◌}
use Rattle.std.proofs.lemmas.Option.{slice_get-get_or, slice_get-map}
use Rattle.std.specs.Option.{option_map}
use Rattle.sudoers_cvt_rules.specs.declared.fault.CvtFault.{CvtFault}
use Rattle.sudoers_cvt_rules.specs.Rule.{node_of_rule_view}
use Rattle.sudoers_cvt_rules.specs.internal.Long.{IsFaultOfAppendingLines}
use Rattle.sudoers_cvt_rules.proofs.Limits.{line_over_limit_is_limit_fault}
use Rattle.sudoers_cvt_rules.proofs.printing.append_rule_lines.Goals as goal

pub returns-in_err-line-clause-fault : goal.returns-in_err-line-clause-fault
returns-in_err-line-clause-fault c =
    let rows = c.args.rules.now in
    let i = c.loop-rule.rule-index in
    let rule = c.rule-item.result in
    let fault : CvtFault = c.in_err-line.field-0.0 in
    let same : c.from_residual.result ≡ Err fault = search rules in
    let here : slice_get rows i ≡ Some rule = slice_get-get_or rows i rule c.loop-rule-test.true ∙ ap Some (sym c.rule-item.is) in
    let at : slice_get (map node_of_rule_view rows) i ≡ Some (node_of_rule_view rule) = slice_get-map node_of_rule_view rows i ∙ ap (option_map node_of_rule_view) here in
    subst (λ r. IfErr r (IsFaultOfAppendingLines c.args.text.now.items (map node_of_rule_view rows))) (sym same)
    (line_over_limit_is_limit_fault c.args.text.now.items (map node_of_rule_view rows) i (node_of_rule_view rule) fault at c.in_err-line.ensures.long)
