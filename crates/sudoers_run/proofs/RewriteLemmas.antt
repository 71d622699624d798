-- What comes of a policy that is filtered or expanded.
use Rattle.std.proofs.Common.{◌≡◌, ◌<◌, ◌≤◌, ◌&&◌, ℕ, Bool, true, false, nat_lt, List, Result, Ok, Err, Vec, Global, MatchResult, ◌⊎◌, inl, inr, refl, sym, ap, ◌∙◌}
use Rattle.std.specs.Prelude.{if◌then◌else◌}
use Rattle.std.proofs.lemmas.Bool.{lt-ltb, le-ltb}
use Rattle.sudoers_tree.specs.Line.{Line}
use Rattle.sudoers_cvt_rules.specs.declared.fault.CvtFault.TheVariants.{Cycle, TooLarge}
use Rattle.sudoers_match_list.specs.Flattened.{expanded_member_limit}
use Rattle.sudoers_cvt_rewrite.specs.Rewrite.{PolicyChanges, has_reachable_alias_cycle, member_count_of_rules, rewritten_lines_of_policy, rules_with_used_definitions}
use Rattle.sudoers_run.specs.declared.output_form.OutputForm.{OutputForm}
use Rattle.sudoers_run.specs.declared.fault.LayerFault.{LayerFault}
use Rattle.sudoers_run.specs.declared.fault.LayerFault.TheVariants as layer
use Rattle.sudoers_run.specs.Convert.{rules_text_in_form, fault_of_output_form, rewritten_rules_text, IsRewriteFault}

-- by whether an alias is cyclic, and whether there are too many members
abbrev rules_or_cycle_or_too_large : Bool → Bool → Result (List ℕ) LayerFault → Result (List ℕ) LayerFault
rules_or_cycle_or_too_large round many rules = if round then Err (layer.Convert Cycle) else if many then Err (layer.Convert TooLarge) else rules

module _ (f : OutputForm) (c : PolicyChanges) (lines : List Line) where
  pub is_cycle : has_reachable_alias_cycle lines ≡ true → rewritten_rules_text f c lines ≡ Err (layer.Convert Cycle)
  is_cycle e = ap (λ b. rules_or_cycle_or_too_large b (c.expand && nat_lt expanded_member_limit (member_count_of_rules (rewritten_lines_of_policy c lines))) (rules_text_in_form f (rules_with_used_definitions (rewritten_lines_of_policy c lines)))) e

  pub is_too_large : has_reachable_alias_cycle lines ≡ false → c.expand ≡ true → expanded_member_limit < member_count_of_rules (rewritten_lines_of_policy c lines) → rewritten_rules_text f c lines ≡ Err (layer.Convert TooLarge)
  is_too_large e expand h =
      ap (λ b. rules_or_cycle_or_too_large b (c.expand && nat_lt expanded_member_limit (member_count_of_rules (rewritten_lines_of_policy c lines))) (rules_text_in_form f (rules_with_used_definitions (rewritten_lines_of_policy c lines)))) e
      ∙ ap (λ b. rules_or_cycle_or_too_large false b (rules_text_in_form f (rules_with_used_definitions (rewritten_lines_of_policy c lines))))
      (ap (λ b. b && nat_lt expanded_member_limit (member_count_of_rules (rewritten_lines_of_policy c lines))) expand ∙ lt-ltb expanded_member_limit (member_count_of_rules (rewritten_lines_of_policy c lines)) h)

  few : (expand : Bool) → c.expand ≡ expand → (c.expand ≡ true → member_count_of_rules (rewritten_lines_of_policy c lines) ≤ expanded_member_limit) → (expand && nat_lt expanded_member_limit (member_count_of_rules (rewritten_lines_of_policy c lines))) ≡ false
  few true e within = le-ltb expanded_member_limit (member_count_of_rules (rewritten_lines_of_policy c lines)) (within e)
  few false e within = refl

  pub are_rules : has_reachable_alias_cycle lines ≡ false → (c.expand ≡ true → member_count_of_rules (rewritten_lines_of_policy c lines) ≤ expanded_member_limit)
      → rewritten_rules_text f c lines ≡ rules_text_in_form f (rules_with_used_definitions (rewritten_lines_of_policy c lines))
  are_rules e within =
      ap (λ b. rules_or_cycle_or_too_large b (c.expand && nat_lt expanded_member_limit (member_count_of_rules (rewritten_lines_of_policy c lines))) (rules_text_in_form f (rules_with_used_definitions (rewritten_lines_of_policy c lines)))) e
      ∙ ap (λ b. rules_or_cycle_or_too_large false b (rules_text_in_form f (rules_with_used_definitions (rewritten_lines_of_policy c lines)))) (few c.expand refl within)

-- What is told of rules is told of what is equal.
pub equal_outputs_have_same_rewrite_result : (f : OutputForm) (expand : Bool) (result : Result (Vec ℕ Global) LayerFault) (a b : Result (List ℕ) LayerFault) → a ≡ b
    → MatchResult result (λ (out : Vec ℕ Global). a ≡ Ok out.items) (λ fault. (fault ≡ layer.NoMemory) ⊎ ((a ≡ Err fault) × (fault ≡ layer.Convert (fault_of_output_form f))))
    → MatchResult result (λ (out : Vec ℕ Global). b ≡ Ok out.items) (λ fault. (fault ≡ layer.NoMemory) ⊎ ((b ≡ Err fault) × IsRewriteFault f expand fault))
equal_outputs_have_same_rewrite_result f expand (Ok out) a b same is = sym same ∙ is
equal_outputs_have_same_rewrite_result f expand (Err fault) a b same (inl none) = inl none
equal_outputs_have_same_rewrite_result f expand (Err fault) a b same (inr is) = inr (sym same ∙ is.0, inl is.1)
