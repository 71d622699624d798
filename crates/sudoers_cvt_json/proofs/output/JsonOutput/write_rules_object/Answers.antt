use Rattle.std.proofs.Common.{rules, ◌≡◌, ◌∷◌, ◌++◌, List, [], codes, map, Err, IfErr, sym, ap, subst, ◌∙◌}
use Rattle.json.specs.Token.{Token, end_object, key}
use Rattle.serde_json.specs.Data.{Data}
use Rattle.std.specs.List.{flat_map}
use Rattle.sudoers_cvt_rules.specs.declared.fault.CvtFault.{CvtFault}
use Rattle.sudoers_cvt_rules.specs.Rule.{node_of_rule_view}
use Rattle.sudoers_cvt_json.specs.Value.{array_value_of, json_entries_of_node, rules_object_value}
use Rattle.sudoers_cvt_json.specs.Unicode.{are_texts_of_value_unicode}
use Rattle.sudoers_cvt_json.specs.internal.Built.{IsJsonFault, are_values_unicode, rule_object_value, tokens_of_value}
use Rattle.sudoers_cvt_json.proofs.Parts.{entries_of_rule_views_are_rule_objects, false_first_value_makes_all_false, false_second_value_makes_all_false, false_third_value_makes_all_false, fault_of_part_is_fault_of_whole, object_of_rules_is_of_rule_views, object_of_three_members_is_written, three_true_values_are_all_true}
use Rattle.sudoers_cvt_json.proofs.output.JsonOutput.write_rules_object.Goals as goal

pub returns-in_err-write_rules-clause-fault : goal.returns-in_err-write_rules-clause-fault
returns-in_err-write_rules-clause-fault c =
    let r = c.args.rules.now in
    let found = c.alias_definitions.result.now in
    let are : map node_of_rule_view found ≡ r.defs = search rules in
    let fault : CvtFault = c.in_err-write_rules.field-0.0 in
    let same : c.from_residual-in_err-write_rules.result ≡ Err fault = search rules in
    let good = are_values_unicode (map rule_object_value found) in
    let is : are_values_unicode (flat_map json_entries_of_node r.defs) ≡ good = ap (λ ns. are_values_unicode (flat_map json_entries_of_node ns)) (sym are) ∙ ap are_values_unicode (entries_of_rule_views_are_rule_objects found) in
    subst (λ x. IfErr x (IsJsonFault (are_texts_of_value_unicode (rules_object_value r)))) (sym same)
    (fault_of_part_is_fault_of_whole good (are_texts_of_value_unicode (rules_object_value r)) fault
    (λ bad. false_first_value_makes_all_false (are_values_unicode (flat_map json_entries_of_node r.defs)) (are_values_unicode (flat_map json_entries_of_node r.defaults)) (are_values_unicode (flat_map json_entries_of_node r.specs)) (is ∙ bad))
    c.in_err-write_rules.ensures.fault)

pub returns-in_err-write_rules-2-clause-fault : goal.returns-in_err-write_rules-2-clause-fault
returns-in_err-write_rules-2-clause-fault c =
    let r = c.args.rules.now in
    let found = c.defaults.result.now in
    let are : map node_of_rule_view found ≡ r.defaults = search rules in
    let fault : CvtFault = c.in_err-write_rules-2.field-0.0 in
    let same : c.from_residual-in_err-write_rules-2.result ≡ Err fault = search rules in
    let good = are_values_unicode (map rule_object_value found) in
    let is : are_values_unicode (flat_map json_entries_of_node r.defaults) ≡ good = ap (λ ns. are_values_unicode (flat_map json_entries_of_node ns)) (sym are) ∙ ap are_values_unicode (entries_of_rule_views_are_rule_objects found) in
    subst (λ x. IfErr x (IsJsonFault (are_texts_of_value_unicode (rules_object_value r)))) (sym same)
    (fault_of_part_is_fault_of_whole good (are_texts_of_value_unicode (rules_object_value r)) fault
    (λ bad. false_second_value_makes_all_false (are_values_unicode (flat_map json_entries_of_node r.defs)) (are_values_unicode (flat_map json_entries_of_node r.defaults)) (are_values_unicode (flat_map json_entries_of_node r.specs)) (is ∙ bad))
    c.in_err-write_rules-2.ensures.fault)

pub returns-in_err-write_rules-3-clause-fault : goal.returns-in_err-write_rules-3-clause-fault
returns-in_err-write_rules-3-clause-fault c =
    let r = c.args.rules.now in
    let found = c.user_specs.result.now in
    let are : map node_of_rule_view found ≡ r.specs = search rules in
    let fault : CvtFault = c.in_err-write_rules-3.field-0.0 in
    let same : c.from_residual-in_err-write_rules-3.result ≡ Err fault = search rules in
    let good = are_values_unicode (map rule_object_value found) in
    let is : are_values_unicode (flat_map json_entries_of_node r.specs) ≡ good = ap (λ ns. are_values_unicode (flat_map json_entries_of_node ns)) (sym are) ∙ ap are_values_unicode (entries_of_rule_views_are_rule_objects found) in
    subst (λ x. IfErr x (IsJsonFault (are_texts_of_value_unicode (rules_object_value r)))) (sym same)
    (fault_of_part_is_fault_of_whole good (are_texts_of_value_unicode (rules_object_value r)) fault
    (λ bad. false_third_value_makes_all_false (are_values_unicode (flat_map json_entries_of_node r.defs)) (are_values_unicode (flat_map json_entries_of_node r.defaults)) (are_values_unicode (flat_map json_entries_of_node r.specs)) (is ∙ bad))
    c.in_err-write_rules-3.ensures.fault)

pub returns-clause-written : goal.returns-clause-written
returns-clause-written c =
    let r = c.args.rules.now in
    let first : map node_of_rule_view c.alias_definitions.result.now ≡ r.defs = search rules in
    let second : map node_of_rule_view c.defaults.result.now ≡ r.defaults = search rules in
    let third : map node_of_rule_view c.user_specs.result.now ≡ r.specs = search rules in
    let a : Data = array_value_of (map rule_object_value c.alias_definitions.result.now) in
    let d : Data = array_value_of (map rule_object_value c.defaults.result.now) in
    let s : Data = array_value_of (map rule_object_value c.user_specs.result.now) in
    let o = c.args.self.now.writer.tokens in (
      c.in_ok-end_object.ensures.room.0 ∙ c.in_ok-write_rules-3.ensures.written.0 ∙ c.in_ok-key-3.ensures.room.0 ∙ c.in_ok-write_rules-2.ensures.written.0 ∙ c.in_ok-key-2.ensures.room.0 ∙ c.in_ok-write_rules.ensures.written.0 ∙ c.in_ok-key.ensures.room.0 ∙ c.in_ok-begin_object.ensures.room.0,
      c.in_ok-end_object.ensures.ok ∙ ap (λ (out : List Token). out ++ end_object ∷ [])
          (c.in_ok-write_rules-3.ensures.written.1 ∙ ap (λ (out : List Token). out ++ tokens_of_value s)
          (c.in_ok-key-3.ensures.ok ∙ ap (λ (out : List Token). out ++ key (codes "specs") ∷ [])
          (c.in_ok-write_rules-2.ensures.written.1 ∙ ap (λ (out : List Token). out ++ tokens_of_value d)
          (c.in_ok-key-2.ensures.ok ∙ ap (λ (out : List Token). out ++ key (codes "defaults") ∷ [])
          (c.in_ok-write_rules.ensures.written.1 ∙ ap (λ (out : List Token). out ++ tokens_of_value a)
          (c.in_ok-key.ensures.ok ∙ ap (λ (out : List Token). out ++ key (codes "aliases") ∷ [])
          (c.in_ok-begin_object.ensures.ok)))))))
          ∙ object_of_three_members_is_written o (codes "aliases") (codes "defaults") (codes "specs") a d s
          ∙ ap (λ (v : Data). o ++ tokens_of_value v) (sym (object_of_rules_is_of_rule_views r c.alias_definitions.result.now c.defaults.result.now c.user_specs.result.now first second third)),
    )

pub returns-clause-unicode : goal.returns-clause-unicode
returns-clause-unicode c =
    let r = c.args.rules.now in
    let first : map node_of_rule_view c.alias_definitions.result.now ≡ r.defs = search rules in
    let second : map node_of_rule_view c.defaults.result.now ≡ r.defaults = search rules in
    let third : map node_of_rule_view c.user_specs.result.now ≡ r.specs = search rules in
    ap are_texts_of_value_unicode (object_of_rules_is_of_rule_views r c.alias_definitions.result.now c.defaults.result.now c.user_specs.result.now first second third)
    ∙ three_true_values_are_all_true (are_values_unicode (map rule_object_value c.alias_definitions.result.now)) (are_values_unicode (map rule_object_value c.defaults.result.now)) (are_values_unicode (map rule_object_value c.user_specs.result.now))
    c.in_ok-write_rules.ensures.unicode c.in_ok-write_rules-2.ensures.unicode c.in_ok-write_rules-3.ensures.unicode
