-- The rules of what is read of printed expanded rules are printed as these.
use Rattle.laws_program.proofs.Common.{◌≡◌, true, List, Ok, sym, ap, subst, ◌∙◌, Line, AreWalkLinesWithoutNul, policy_lines_of_text, AreItemsPairwiseRelated, NodeIsReadBackAs, Rules, rules_of_policy_lines, rule_nodes_in_print_order, printed_rules}
use Rattle.laws_program.proofs.Common.{is_printed_within_limits, nodes_of_lines, rules_with_used_definitions, lines_with_aliases_replaced}
use Rattle.laws_program.proofs.Printed.{PrintedExpandedRulesAreRead}
use Rattle.laws_program.proofs.Second.{rules_read_of_print_are_printed_same, second_print_fits_if_first_does}
use Rattle.laws_program.proofs.Kept.{lines_of_used_rules, rules_of_used_lines_are_used_rules}

-- what is read says what the kept lines say
lines_read_of_expansion_are_used_rules : PrintedExpandedRulesAreRead → (lines read : List Line) → AreWalkLinesWithoutNul lines → is_printed_within_limits (rules_with_used_definitions (lines_with_aliases_replaced lines)) ≡ true
    → policy_lines_of_text (printed_rules (rules_with_used_definitions (lines_with_aliases_replaced lines))) ≡ Ok read → AreItemsPairwiseRelated NodeIsReadBackAs (rule_nodes_in_print_order (rules_of_policy_lines (lines_of_used_rules (lines_with_aliases_replaced lines)))) (nodes_of_lines read)
lines_read_of_expansion_are_used_rules law lines read is size e =
    let there = law lines is size in
    let one : there.read ≡ read = let both = sym there.is ∙ e in cc in
    subst (λ (r : Rules). AreItemsPairwiseRelated NodeIsReadBackAs (rule_nodes_in_print_order r) (nodes_of_lines read)) (sym (rules_of_used_lines_are_used_rules (lines_with_aliases_replaced lines)))
    (subst (λ (ls : List Line). AreItemsPairwiseRelated NodeIsReadBackAs (rule_nodes_in_print_order (rules_with_used_definitions (lines_with_aliases_replaced lines))) (nodes_of_lines ls)) one there.same)

-- A second printing gives the same text.
pub second_printing_of_expansion_is_first : PrintedExpandedRulesAreRead → (lines read : List Line) → AreWalkLinesWithoutNul lines → is_printed_within_limits (rules_with_used_definitions (lines_with_aliases_replaced lines)) ≡ true
    → policy_lines_of_text (printed_rules (rules_with_used_definitions (lines_with_aliases_replaced lines))) ≡ Ok read → printed_rules (rules_of_policy_lines read) ≡ printed_rules (rules_with_used_definitions (lines_with_aliases_replaced lines))
second_printing_of_expansion_is_first law lines read is size e =
    rules_read_of_print_are_printed_same (lines_of_used_rules (lines_with_aliases_replaced lines)) read (lines_read_of_expansion_are_used_rules law lines read is size e) ∙ ap printed_rules (rules_of_used_lines_are_used_rules (lines_with_aliases_replaced lines))

-- It is within the limits.
pub second_printing_of_expansion_fits : PrintedExpandedRulesAreRead → (lines read : List Line) → AreWalkLinesWithoutNul lines → is_printed_within_limits (rules_with_used_definitions (lines_with_aliases_replaced lines)) ≡ true
    → policy_lines_of_text (printed_rules (rules_with_used_definitions (lines_with_aliases_replaced lines))) ≡ Ok read → is_printed_within_limits (rules_of_policy_lines read) ≡ true
second_printing_of_expansion_fits law lines read is size e =
    second_print_fits_if_first_does (lines_of_used_rules (lines_with_aliases_replaced lines)) read (lines_read_of_expansion_are_used_rules law lines read is size e) ∙ ap is_printed_within_limits (rules_of_used_lines_are_used_rules (lines_with_aliases_replaced lines)) ∙ size
