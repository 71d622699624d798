use Rattle.std.proofs.Common.{◌≡◌, [], ◌∷◌, ap, Ok}
use Rattle.sudoers_tree.specs.Load.{LoadedPolicy, named_files_of_policy, policy_or_load_fault}
use Rattle.sudoers_edit_script.specs.declared.edit.Edit.TheVariants.{Prune}
use Rattle.sudoers_edit.specs.Editing.{policy_or_first_refusal, step, next_or_placed_refusal}
use Rattle.sudoers_match.specs.Beside.{HasSameLinesAndReachableAliases}
use Rattle.laws_edit.proofs.LeftDefinitions.{definitions_left_keep_reachable_aliases}
use Rattle.laws_edit.proofs.PrunedLines.{pruned_left}
use Rattle.laws_edit.proofs.laws.prune_changes_no_answer.Goals as goal

-- what a prune leaves
keeps : (c : goal.After-unreachable_definitions_change_no_answer) → (policy new : LoadedPolicy) → policy_or_load_fault (named_files_of_policy policy) ≡ Ok policy → step Prune policy ≡ Ok new
    → HasSameLinesAndReachableAliases policy.walk.lines new.walk.lines
keeps c policy new loaded is =
    definitions_left_keep_reachable_aliases policy.walk.lines new.walk.lines
    (pruned_left policy.walk.lines c.chains_are.ensures.unused c.chains_are.ensures.used new.walk.lines (c.prune_leaves_the_used.ensures policy new loaded is)).left

pub returns-clause-answer : goal.returns-clause-answer
returns-clause-answer c policy new loaded is =
    c.unreachable_definitions_change_no_answer.ensures.answer policy.walk.lines new.walk.lines (keeps c policy new loaded is)

pub returns-clause-default : goal.returns-clause-default
returns-clause-default c policy new loaded is =
    c.unreachable_definitions_change_no_answer.ensures.default policy.walk.lines new.walk.lines (keeps c policy new loaded is)

pub returns-clause-groups : goal.returns-clause-groups
returns-clause-groups c policy new loaded is =
    c.unreachable_definitions_change_no_answer.ensures.groups policy.walk.lines new.walk.lines (keeps c policy new loaded is)

pub returns-clause-cycle : goal.returns-clause-cycle
returns-clause-cycle c policy new loaded is =
    c.unreachable_definitions_change_no_answer.ensures.cycle policy.walk.lines new.walk.lines (keeps c policy new loaded is)
    (c.loaded_is_walk.ensures (named_files_of_policy policy) policy loaded)
    (c.loaded_is_walk.ensures (named_files_of_policy new) new (c.inverse_leads_back.ensures.back (Prune ∷ []) policy new loaded (ap (next_or_placed_refusal (policy_or_first_refusal 1 []) 0) is)).loaded)
