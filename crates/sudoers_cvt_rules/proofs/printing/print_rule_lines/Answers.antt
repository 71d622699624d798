use Rattle.std.proofs.Common.{rules, ◌≡◌, [], ◌++◌, map, Err, IfErr, sym, ap, subst, ◌∙◌, append_assoc, append-nil}
use Rattle.std.proofs.lemmas.Grind.{flat_map-append}
use Rattle.sudoers_cvt_spell.specs.Lines.{printed_line, printed_lines}
use Rattle.sudoers_cvt_rules.specs.declared.fault.CvtFault.{CvtFault}
use Rattle.sudoers_cvt_rules.specs.Rule.{node_of_rule_view}
use Rattle.sudoers_cvt_rules.specs.internal.Long.{IsPrintFault, IsFaultOfAppendingLines}
use Rattle.sudoers_cvt_rules.proofs.Limits.{limit_fault_of_lines_is_print_fault}
use Rattle.sudoers_cvt_rules.proofs.printing.print_rule_lines.Goals as goal

pub returns-in_err-append_rule_lines-clause-fault : goal.returns-in_err-append_rule_lines-clause-fault
returns-in_err-append_rule_lines-clause-fault c =
    let r = c.args.rules.now in
    let fault : CvtFault = c.in_err-append_rule_lines.field-0.0 in
    let same : c.from_residual.result ≡ Err fault = search rules in
    let are : map node_of_rule_view c.defaults.result.now ≡ r.defaults = search rules in
    let passes : IsFaultOfAppendingLines [] r.defaults fault =
    subst (λ t. IsFaultOfAppendingLines t r.defaults fault) c.new-text.ensures.items (subst (λ ns. IsFaultOfAppendingLines c.new-text.result.items ns fault) are c.in_err-append_rule_lines.ensures.fault) in
    subst (λ x. IfErr x (IsPrintFault r)) (sym same) (limit_fault_of_lines_is_print_fault r [] r.defaults (r.defs ++ r.specs) fault (append_assoc r.defaults r.defs r.specs) passes)

pub returns-in_err-append_rule_lines-2-clause-fault : goal.returns-in_err-append_rule_lines-2-clause-fault
returns-in_err-append_rule_lines-2-clause-fault c =
    let r = c.args.rules.now in
    let fault : CvtFault = c.in_err-append_rule_lines-2.field-0.0 in
    let same : c.from_residual-in_err-append_rule_lines-2.result ≡ Err fault = search rules in
    let first : map node_of_rule_view c.defaults.result.now ≡ r.defaults = search rules in
    let second : map node_of_rule_view c.alias_definitions.result.now ≡ r.defs = search rules in
    let text : c.append_rule_lines.new.text.items ≡ printed_lines r.defaults =
    c.in_ok-append_rule_lines.ensures.appended ∙ ap (λ t. t ++ printed_lines (map node_of_rule_view c.defaults.result.now)) c.new-text.ensures.items ∙ ap printed_lines first in
    let passes : IsFaultOfAppendingLines (printed_lines r.defaults) r.defs fault =
    subst (λ t. IsFaultOfAppendingLines t r.defs fault) text (subst (λ ns. IsFaultOfAppendingLines c.append_rule_lines.new.text.items ns fault) second c.in_err-append_rule_lines-2.ensures.fault) in
    subst (λ x. IfErr x (IsPrintFault r)) (sym same) (limit_fault_of_lines_is_print_fault r r.defaults r.defs r.specs fault (append_assoc r.defaults r.defs r.specs) passes)

pub returns-in_err-append_rule_lines-3-clause-fault : goal.returns-in_err-append_rule_lines-3-clause-fault
returns-in_err-append_rule_lines-3-clause-fault c =
    let r = c.args.rules.now in
    let fault : CvtFault = c.in_err-append_rule_lines-3.field-0.0 in
    let same : c.from_residual-in_err-append_rule_lines-3.result ≡ Err fault = search rules in
    let first : map node_of_rule_view c.defaults.result.now ≡ r.defaults = search rules in
    let second : map node_of_rule_view c.alias_definitions.result.now ≡ r.defs = search rules in
    let third : map node_of_rule_view c.user_specs.result.now ≡ r.specs = search rules in
    let text : c.append_rule_lines.new.text.items ≡ printed_lines r.defaults =
    c.in_ok-append_rule_lines.ensures.appended ∙ ap (λ t. t ++ printed_lines (map node_of_rule_view c.defaults.result.now)) c.new-text.ensures.items ∙ ap printed_lines first in
    let both : c.append_rule_lines-2.new.text.items ≡ printed_lines (r.defaults ++ r.defs) =
    c.in_ok-append_rule_lines-2.ensures.appended ∙ ap (λ t. t ++ printed_lines (map node_of_rule_view c.alias_definitions.result.now)) text ∙ ap (λ ns. printed_lines r.defaults ++ printed_lines ns) second
    ∙ sym (flat_map-append printed_line r.defaults r.defs) in
    let passes : IsFaultOfAppendingLines (printed_lines (r.defaults ++ r.defs)) r.specs fault =
    subst (λ t. IsFaultOfAppendingLines t r.specs fault) both (subst (λ ns. IsFaultOfAppendingLines c.append_rule_lines-2.new.text.items ns fault) third c.in_err-append_rule_lines-3.ensures.fault) in
    subst (λ x. IfErr x (IsPrintFault r)) (sym same)
    (limit_fault_of_lines_is_print_fault r (r.defaults ++ r.defs) r.specs [] fault (ap (λ ns. (r.defaults ++ r.defs) ++ ns) (sym (append-nil r.specs))) passes)
