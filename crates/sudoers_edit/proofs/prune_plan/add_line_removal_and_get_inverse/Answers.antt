use Rattle.sudoers_edit.proofs.Common.{Insert, IsRemovalMade, LineChange, List, LoadedPolicy, Some, Take, [], ap, lines_of_numbered_file, no_changes_leave_lines_unchanged, reverse, reverse-append, slice_get, subst, sym, texts_of_lines, ℕ}
use Rattle.sudoers_edit.proofs.Common.{◌∙◌, ◌∷◌, ◌≡◌}
use Rattle.sudoers_edit.specs.declared.prune_removals.PruneRemoval.TheVariants as removal
use Rattle.sudoers_edit.proofs.PruneOut.{removable_alias_line_is_present, allowed_line_removal_is_made}
use Rattle.sudoers_edit.proofs.FilesBelow.{first_change_law_holds}
use Rattle.sudoers_edit.proofs.LawsBelow.{prune_edit_laws_hold}
use Rattle.sudoers_edit.proofs.PruneGoes.{leadless_line_can_be_removed, loaded_line_reads_as_its_node}
use Rattle.sudoers_edit.proofs.prune_plan.add_line_removal_and_get_inverse.Goals as goal

pub returns-in_default : goal.returns-in_default
returns-in_default c = λ now below cut draft ready may.
    absurd (removable_alias_line_is_present c.args.policy.now c.args.file c.args.at may.1 (sym c.in_default.ensures))

pub returns : goal.returns
returns c = λ now below cut draft ready may.
    let policy : LoadedPolicy = c.args.policy.now in
    let f : ℕ = c.args.file in
    let at : ℕ = c.args.at in
    let old : List LineChange = c.args.changes.now.items in
    let line : List ℕ = c.in-Some.line.now in
    let here : slice_get (texts_of_lines (lines_of_numbered_file policy.files f)) at ≡ Some line = sym c.in-Some.ensures in
    let out : IsRemovalMade policy (removal.Line f at) below now (Take f at ∷ reverse old) (Insert f at line) =
    allowed_line_removal_is_made no_changes_leave_lines_unchanged first_change_law_holds (leadless_line_can_be_removed prune_edit_laws_hold) (loaded_line_reads_as_its_node prune_edit_laws_hold) policy now (reverse old) f at
    below cut line c.allocator_of-alloc.ensures draft ready may.0 may.1 here in
    let new : reverse c.push.new.self.items ≡ Take f at ∷ reverse old = ap reverse c.in_ok-push.ensures.items ∙ reverse-append old (Take f at ∷ []) in
    subst (λ cs. IsRemovalMade policy (removal.Line f at) below now cs (Insert f at c.in_ok-text.text)) (sym new)
    (subst (λ t. IsRemovalMade policy (removal.Line f at) below now (Take f at ∷ reverse old) (Insert f at t)) (sym c.in_ok-text.ensures) out)
