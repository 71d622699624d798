use Rattle.sudoers_edit.proofs.Common.{Bool, None, IsRemovalBelowLimitsOnAliasLine, LeavesLinesBelowLimitsUnchanged, IsRemovalOutcome, IsResultOfChanges, LoadedPolicy, PruneRemoval, reverse, subst, sym, ℕ}
use Rattle.sudoers_edit.specs.internal.LineCuts.{IsLastCutLineKnown}
use Rattle.sudoers_edit.proofs.LastCutLines.{holds_if_ok, no_line_is_known}
use Rattle.sudoers_edit.proofs.prune_plan.add_changes_of_removal_and_get_inverse.Goals as goal

pub returns-in-Line-clause-made : goal.returns-in-Line-clause-made
returns-in-Line-clause-made c =
    subst (λ (r : PruneRemoval). (now : LoadedPolicy) (below : ℕ → ℕ) (cut : ℕ → ℕ → Bool) → IsResultOfChanges c.args.policy.now (reverse c.args.changes.now.items) now
    → LeavesLinesBelowLimitsUnchanged c.args.policy.now below cut (reverse c.args.changes.now.items) → IsRemovalBelowLimitsOnAliasLine c.args.policy.now r below cut
    → IsRemovalOutcome c.args.policy.now r below now (reverse c.add_line_removal_and_get_inverse.new.changes.items) c.add_line_removal_and_get_inverse.result) (sym c.in-Line.is) c.add_line_removal_and_get_inverse.ensures

pub returns-in-Def-clause-made : goal.returns-in-Def-clause-made
returns-in-Def-clause-made c =
    subst (λ (r : PruneRemoval). (now : LoadedPolicy) (below : ℕ → ℕ) (cut : ℕ → ℕ → Bool) → IsResultOfChanges c.args.policy.now (reverse c.args.changes.now.items) now
    → LeavesLinesBelowLimitsUnchanged c.args.policy.now below cut (reverse c.args.changes.now.items) → IsRemovalBelowLimitsOnAliasLine c.args.policy.now r below cut
    → IsRemovalOutcome c.args.policy.now r below now (reverse c.add_definition_removal_and_get_inverse.new.changes.items) c.add_definition_removal_and_get_inverse.result) (sym c.in-Def.is) c.add_definition_removal_and_get_inverse.ensures.made

pub returns-in-Line-clause-known : goal.returns-in-Line-clause-known
returns-in-Line-clause-known c =
    holds_if_ok c.add_line_removal_and_get_inverse.result (IsLastCutLineKnown (reverse c.add_line_removal_and_get_inverse.new.changes.items) None) (no_line_is_known (reverse c.add_line_removal_and_get_inverse.new.changes.items))
