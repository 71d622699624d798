use Rattle.sudoers_edit.proofs.Common.{AddDef, IsRemovalMade, LineChange, List, LoadedPolicy, ap, lines_of_numbered_file, no_changes_leave_lines_unchanged, option_or, replacement_text_by_first_change, reverse, slice_get, subst, sym}
use Rattle.sudoers_edit.proofs.Common.{texts_of_lines, ℕ, ◌∙◌}
use Rattle.sudoers_edit.specs.declared.prune_removals.PruneRemoval.TheVariants as removal
use Rattle.sudoers_edit.proofs.PruneOut.{HasTextInDraft, line_with_removable_definition_is_present, refused_lines_refuse_drop_def, allowed_definition_removal_is_made, removable_line_has_text_in_draft}
use Rattle.sudoers_edit.proofs.FilesBelow.{first_change_law_holds}
use Rattle.sudoers_edit.proofs.LawsBelow.{prune_edit_laws_hold}
use Rattle.sudoers_edit.proofs.PruneGoes.{cut_definition_can_be_removed, loaded_line_reads_as_its_node}
use Rattle.sudoers_edit.proofs.LastCutLines.{last_line_text_is_known, replaced_line_is_known}
use Rattle.sudoers_edit.proofs.prune_plan.add_definition_removal_and_get_inverse.Goals as goal

pub returns-in_default-clause-made : goal.returns-in_default-clause-made
returns-in_default-clause-made c = λ now below cut draft ready may.
    let policy : LoadedPolicy = c.args.policy.now in
    let f : ℕ = c.args.file in
    let n : ℕ = c.args.line in
    absurd (line_with_removable_definition_is_present policy (reverse c.args.changes.now.items) f n may.1
    (ap (λ cs. option_or (replacement_text_by_first_change f n (reverse cs)) (slice_get (texts_of_lines (lines_of_numbered_file policy.files f)) n)) (sym c.as_slice.ensures.value) ∙ sym c.in_default.ensures))

pub returns-in-Err-clause-made : goal.returns-in-Err-clause-made
returns-in-Err-clause-made c = λ now below cut draft ready may.
    let policy : LoadedPolicy = c.args.policy.now in
    let f : ℕ = c.args.file in
    let n : ℕ = c.args.line in
    let changes : List LineChange = reverse c.args.changes.now.items in
    let d : HasTextInDraft policy now changes f n c.in-Some.old.now =
    removable_line_has_text_in_draft no_changes_leave_lines_unchanged first_change_law_holds policy now changes f n below cut c.in-Some.old.now draft ready may.0
    (ap (λ cs. option_or (replacement_text_by_first_change f n (reverse cs)) (slice_get (texts_of_lines (lines_of_numbered_file policy.files f)) n)) (sym c.as_slice.ensures.value) ∙ sym c.in-Some.ensures) in
    refused_lines_refuse_drop_def now f n c.args.at d.line c.in-Err.fault d.here
    (c.in-Err.ensures n c.args.at (lines_of_numbered_file now.files f) d.line (loaded_line_reads_as_its_node prune_edit_laws_hold now f n d.line draft.loaded d.here) d.here d.says)

pub returns-in-Err-cut_definition-clause-made : goal.returns-in-Err-cut_definition-clause-made
returns-in-Err-cut_definition-clause-made c = λ now below cut draft ready may.
    let policy : LoadedPolicy = c.args.policy.now in
    let f : ℕ = c.args.file in
    let n : ℕ = c.args.line in
    let changes : List LineChange = reverse c.args.changes.now.items in
    let d : HasTextInDraft policy now changes f n c.in-Some.old.now =
    removable_line_has_text_in_draft no_changes_leave_lines_unchanged first_change_law_holds policy now changes f n below cut c.in-Some.old.now draft ready may.0
    (ap (λ cs. option_or (replacement_text_by_first_change f n (reverse cs)) (slice_get (texts_of_lines (lines_of_numbered_file policy.files f)) n)) (sym c.as_slice.ensures.value) ∙ sym c.in-Some.ensures) in
    refused_lines_refuse_drop_def now f n c.args.at d.line c.in-Err-cut_definition.fault d.here
    (c.in-Err-cut_definition.ensures.outcome n (lines_of_numbered_file now.files f) d.line (loaded_line_reads_as_its_node prune_edit_laws_hold now f n d.line draft.loaded d.here) d.here d.says)

pub returns-clause-made : goal.returns-clause-made
returns-clause-made c = λ now below cut draft ready may.
    let policy : LoadedPolicy = c.args.policy.now in
    let f : ℕ = c.args.file in
    let n : ℕ = c.args.line in
    let changes : List LineChange = reverse c.args.changes.now.items in
    let d : HasTextInDraft policy now changes f n c.in-Some.old.now =
    removable_line_has_text_in_draft no_changes_leave_lines_unchanged first_change_law_holds policy now changes f n below cut c.in-Some.old.now draft ready may.0
    (ap (λ cs. option_or (replacement_text_by_first_change f n (reverse cs)) (slice_get (texts_of_lines (lines_of_numbered_file policy.files f)) n)) (sym c.as_slice.ensures.value) ∙ sym c.in-Some.ensures) in
    let out = allowed_definition_removal_is_made (cut_definition_can_be_removed prune_edit_laws_hold) policy now changes f n c.args.at below cut c.in-Some.old.now c.in-Ok-cut_definition.cut.0 c.in-Ok-cut_definition.cut.1 draft ready may.1 d
    (c.in-Ok-cut_definition.ensures.outcome n (lines_of_numbered_file now.files f) d.line (loaded_line_reads_as_its_node prune_edit_laws_hold now f n d.line draft.loaded d.here) d.here d.says) in
    subst (λ cs. IsRemovalMade policy (removal.Def f n c.args.at) below now cs (AddDef f n c.args.at c.in-Ok-cut_definition.cut.1)) (sym c.in_ok-add_line_replacement.ensures) out

pub returns-clause-known : goal.returns-clause-known
returns-clause-known c =
    replaced_line_is_known (reverse c.add_line_replacement.new.changes.items) _ c.args.file c.args.line c.in-Ok-cut_definition.cut.0 c.cut_definition.new.self c.in_ok-add_line_replacement.ensures
    c.in-Ok-cut_definition.ensures.known

pub take_known_line-requires : goal.take_known_line-requires
take_known_line-requires c =
    last_line_text_is_known (reverse c.args.changes.now.items) c.args.last.now c.args.file c.args.line c.in-Some.old.now
    (slice_get (texts_of_lines (lines_of_numbered_file c.args.policy.now.files c.args.file)) c.args.line) c.requires
    (c.in-Some.ensures ∙ ap (λ cs. option_or (replacement_text_by_first_change c.args.file c.args.line (reverse cs)) (slice_get (texts_of_lines (lines_of_numbered_file c.args.policy.now.files c.args.file)) c.args.line))
    c.as_slice.ensures.value)
