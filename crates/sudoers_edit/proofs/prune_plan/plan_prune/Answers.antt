use Rattle.sudoers_edit.proofs.Common.{AreChangesOfEdit, Edit, EditFault, IsFileOrderOfChanges, IsPartialPrune, IsRefusalOrNoMemory, IsRemovalMade, LineChange, List, LoadedPolicy, Prune, PruneRemoval, Result, [], ap}
use Rattle.sudoers_edit.proofs.Common.{drop, drop_all, drop_more, policy_after_removals, prune_removals_of_walk, reverse, reverse-append, slice_index_or, step, subst, sym, ℕ, ◌+◌, ◌∙◌, ◌∷◌, ◌≡◌}
use Rattle.std.proofs.lemmas.Result.{err_from_is_err_and}
use Rattle.sudoers_edit.specs.declared.prune_removals.PruneRemoval.TheVariants as removal
use Rattle.sudoers_edit.proofs.PruneDone.{removal_made_continues_partial_prune, refusal_of_first_removal_refuses_all}
use Rattle.sudoers_edit.proofs.LawsApplied.{completed_prune_has_changes_of_edit, prune_without_removals_is_partial_prune}
use Rattle.sudoers_edit.proofs.LastCutLines.{no_line_is_known}
use Rattle.sudoers_edit.proofs.prune_plan.plan_prune.Goals as goal

pub loop-removal-init : goal.loop-removal-init
loop-removal-init c =
    let all : List PruneRemoval = c.as_slice-removal-items.result.now in
    let told : all ≡ prune_removals_of_walk c.args.policy.now.walk = c.as_slice-removal-items.ensures.value ∙ c.in_ok-removals.ensures in (
      subst (λ (cs : List LineChange). IsPartialPrune c.args.policy.now all all (reverse cs) (reverse c.new-inverse.result.items)) (sym c.new-changes.ensures.items)
          (subst (λ (es : List Edit). IsPartialPrune c.args.policy.now all all [] (reverse es)) (sym c.new-inverse.ensures.items) (prune_without_removals_is_partial_prune c.args.policy.now all c.allocator_of-alloc.ensures told)),
      no_line_is_known (reverse c.new-changes.result.items),
    )

pub loop-removal-preserved : goal.loop-removal-preserved
loop-removal-preserved c =
    let policy : LoadedPolicy = c.args.policy.now in
    let all : List PruneRemoval = c.as_slice-removal-items.result.now in
    let i : ℕ = c.loop-removal.removal-index in
    let one : PruneRemoval = slice_index_or all i (removal.Line 0 0) in
    let more : List PruneRemoval = drop (i + 1) all in
    let changes : List LineChange = reverse c.loop-removal.changes.items in
    let later : List LineChange = reverse c.add_changes_of_removal_and_get_inverse.new.changes.items in
    let inverse : List Edit = reverse c.loop-removal.inverse.items in
    let edit : Edit = c.in_ok-edit.edit in
    let next : drop i all ≡ one ∷ more = drop_more all i (removal.Line 0 0) c.loop-removal-test.true in
    let p : IsPartialPrune policy (one ∷ more) all changes inverse = subst (λ (left : List PruneRemoval). IsPartialPrune policy left all changes inverse) next c.loop-removal.invariant.0 in
    let out : IsRemovalMade policy one p.below p.now later edit = c.in_ok-edit.ensures.made p.now p.below p.cut p.draft p.ready p.falls.0 in (
      subst (λ (es : List Edit). IsPartialPrune policy more all later es) (sym (ap reverse c.in_ok-push.ensures.items ∙ reverse-append c.loop-removal.inverse.items (edit ∷ [])))
          (removal_made_continues_partial_prune policy one more all changes later inverse edit p out),
      c.in_ok-edit.ensures.known,
    )

pub returns-in_err-edit : goal.returns-in_err-edit
returns-in_err-edit c =
    let policy : LoadedPolicy = c.args.policy.now in
    let all : List PruneRemoval = c.as_slice-removal-items.result.now in
    let i : ℕ = c.loop-removal.removal-index in
    let one : PruneRemoval = slice_index_or all i (removal.Line 0 0) in
    let more : List PruneRemoval = drop (i + 1) all in
    let changes : List LineChange = reverse c.loop-removal.changes.items in
    let inverse : List Edit = reverse c.loop-removal.inverse.items in
    let fault : EditFault = c.in_err-edit.field-0.0 in
    let told : all ≡ prune_removals_of_walk policy.walk = c.as_slice-removal-items.ensures.value ∙ c.in_ok-removals.ensures in
    let next : drop i all ≡ one ∷ more = drop_more all i (removal.Line 0 0) c.loop-removal-test.true in
    let p : IsPartialPrune policy (one ∷ more) all changes inverse = subst (λ (left : List PruneRemoval). IsPartialPrune policy left all changes inverse) next c.loop-removal.invariant.0 in
    let same : policy_after_removals (one ∷ more) p.now ≡ step Prune policy = p.forth ∙ ap (λ rs. policy_after_removals rs policy) told in
    let q = err_from_is_err_and c.from_residual-in_err-edit.result c.from_residual-in_err-edit.ensures.1 in
    rw (q.1, q.2) (subst (λ (r : Result LoadedPolicy EditFault). IsRefusalOrNoMemory fault r) same
    (refusal_of_first_removal_refuses_all fault one more p.now (c.in_err-edit.ensures.made p.now p.below p.cut p.draft p.ready p.falls.0)))

pub returns : goal.returns
returns c =
    let policy : LoadedPolicy = c.args.policy.now in
    let all : List PruneRemoval = c.as_slice-removal-items.result.now in
    let changes : List LineChange = reverse c.loop-removal.changes.items in
    let inverse : List Edit = reverse c.loop-removal.inverse.items in
    let told : all ≡ prune_removals_of_walk policy.walk = c.as_slice-removal-items.ensures.value ∙ c.in_ok-removals.ensures in
    let none : drop c.loop-removal.removal-index all ≡ [] = drop_all c.loop-removal.removal-index all c.loop-removal-test.false in
    let p : IsPartialPrune policy [] all changes inverse = subst (λ (left : List PruneRemoval). IsPartialPrune policy left all changes inverse) none c.loop-removal.invariant.0 in
    let by : IsFileOrderOfChanges changes c.sort_changes_by_file.new.changes.items =
    subst (λ (cs : List LineChange). IsFileOrderOfChanges cs c.sort_changes_by_file.new.changes.items) c.reverse.ensures.items c.in_ok-sort_changes_by_file.ensures in
    subst (λ (es : List Edit). AreChangesOfEdit Prune es policy c.sort_changes_by_file.new.changes.items) (sym (c.from_vec.ensures ∙ c.reverse-2.ensures.items))
    (completed_prune_has_changes_of_edit policy all changes c.sort_changes_by_file.new.changes.items inverse told p by)
