use Rattle.std.proofs.Common.{◌≡◌, ◌∙◌, ◌<◌, ◌≤◌, length, true, Some, Ok, Err, refl, sym, ap, subst, rules}
use Rattle.std.specs.BTreeSet.{contains_by}
use Rattle.std.proofs.lemmas.List.{drop_all}
use Rattle.sudoers_files.specs.declared.fault.GatherFault.{GatherFault}
use Rattle.sudoers_files.specs.Folder.{sorted_file_names_in_folder}
use Rattle.sudoers_files.specs.Shelf.{FileDeviceState, included_base_names_in}
use Rattle.sudoers_files.specs.Gather.{gathered_with_file_and_includes, gathered_after_file_visit, gathered_after_file_visits}
use Rattle.sudoers_files.specs.Included.{file_names_included_by_lines}
use Rattle.sudoers_files.specs.internal.Gathering.{AreFoundOrMissing, AreFilesOfFoldersFoundOrMissing, IsGatherStepOutcome, name_byte_order}
use Rattle.sudoers_files.proofs.Settling.{visits_settle_their_names, visits_of_settled_names_change_nothing, inserting_settled_folder_keeps_settled, appending_file_keeps_folders_settled}
use Rattle.sudoers_files.proofs.Visited.{fault_at_numbered_line_is_step_outcome, outcome_goes_on_after_numbered_line}
use Rattle.sudoers_files.proofs.gathering.+gather.Goals as goal

pub gather_included_folder-returns-then-contains-clause-comes : goal.gather_included_folder-returns-then-contains-clause-comes
gather_included_folder-returns-then-contains-clause-comes g c = λ d. λ known is settled.
    let folder = d.in_ok-folder.folder in
    let found = d.args.gathered.now.found.items in
    let has : contains_by (name_byte_order folder) d.args.gathered.now.folders ≡ true = search rules in
    subst (λ dir. gathered_after_file_visits (gathered_after_file_visit d.args.left known) found (sorted_file_names_in_folder dir (included_base_names_in dir known)) ≡ Ok found) d.in_ok-folder.ensures.items
    (visits_of_settled_names_change_nothing known found d.args.left (sorted_file_names_in_folder folder.items (included_base_names_in folder.items known)) (settled folder has))

pub gather_included_folder-returns-clause-settles : goal.gather_included_folder-returns-clause-settles
gather_included_folder-returns-clause-settles g c = λ d. λ known is settled.
    let folder = d.in_ok-folder.folder in
    let dir = d.args.dir.now in
    let now = d.loop-name.gathered.found.items in
    let invariant = d.loop-name.invariant.1 known is settled in
    let items = d.as_slice-name-items.result.now in
    let past : length items ≤ d.loop-name.name-index = search rules in
    let done = drop_all d.loop-name.name-index items past in
    let visits : gathered_after_file_visits (gathered_after_file_visit d.args.left known) d.args.gathered.now.found.items (sorted_file_names_in_folder dir (included_base_names_in dir known)) ≡ Ok now =
    sym invariant.0 ∙ ap (gathered_after_file_visits (gathered_after_file_visit d.args.left known) now) done in
    inserting_settled_folder_keeps_settled known now d.loop-name.gathered.folders d.insert.new.self folder d.in_ok-insert.ensures.keys invariant.1
    (subst (λ name. AreFoundOrMissing known now (sorted_file_names_in_folder name (included_base_names_in name known))) (sym d.in_ok-folder.ensures.items)
    (visits_settle_their_names known d.args.gathered.now.found.items now d.args.left (sorted_file_names_in_folder dir (included_base_names_in dir known)) visits))

pub gather_file_and_includes-loop-line-init : goal.gather_file_and_includes-loop-line-init
gather_file_and_includes-loop-line-init g c = λ d. (
  refl,
  λ known is settled.
      let old = d.args.gathered.now.found.items in
      let first : gathered_after_file_visits (gathered_after_file_visit d.args.left known) d.push.new.self.items (file_names_included_by_lines known d.args.name.now d.as_slice-line-items.result.now)
      ≡ gathered_with_file_and_includes (gathered_after_file_visit d.args.left known) known old (record { name = d.args.name.now; bytes = d.args.bytes }) = search rules in (
        first,
        subst (λ fs. AreFilesOfFoldersFoundOrMissing known fs d.args.gathered.now.folders) (sym d.in_ok-push.ensures.items)
            (appending_file_keeps_folders_settled known old (record { name = d.in_ok-from_slice.field-0; bytes = d.args.bytes }) d.args.gathered.now.folders settled),
      ),
)

pub gather_file_and_includes-returns-in_err-gather_includes_of_line-clause-comes : goal.gather_file_and_includes-returns-in_err-gather_includes_of_line-clause-comes
gather_file_and_includes-returns-in_err-gather_includes_of_line-clause-comes g c = λ d. λ known is settled.
    let fault : GatherFault = d.in_err-gather_includes_of_line.field-0.0 in
    let told : d.from_residual-in_err-gather_includes_of_line.result ≡ Err fault = search rules in
    let less : d.loop-line.line-index < length d.as_slice-line-items.result.now = search rules in
    let outcome = gathered_with_file_and_includes (gathered_after_file_visit d.args.left known) known d.args.gathered.now.found.items (record { name = d.args.name.now; bytes = d.args.bytes }) in
    let same : (g.F.Files.shelf d.loop-line.files).files ≡ Some known = ap (λ (s : FileDeviceState). s.files) d.loop-line.invariant.0 ∙ is in
    let invariant = d.loop-line.invariant.1 known is settled in
    subst (λ r. IsGatherStepOutcome r d.gather_includes_of_line.new.gathered.found.items outcome) (sym told)
    (fault_at_numbered_line_is_step_outcome (gathered_after_file_visit d.args.left known) known d.loop-line.gathered.found.items d.gather_includes_of_line.new.gathered.found.items fault d.args.name.now d.as_slice-in-loop-line.result.now d.line-item.result
    d.as_slice-line-items.result.now d.loop-line.line-index outcome less d.line-item.is d.as_slice-in-loop-line.ensures invariant.0
    (d.in_err-gather_includes_of_line.ensures.comes known same invariant.1))

pub gather_file_and_includes-loop-line-preserved : goal.gather_file_and_includes-loop-line-preserved
gather_file_and_includes-loop-line-preserved g c = λ d. (
  d.in_ok-gather_includes_of_line.ensures.asks ∙ d.loop-line.invariant.0,
  λ known is settled.
      let less : d.loop-line.line-index < length d.as_slice-line-items.result.now = search rules in
      let outcome = gathered_with_file_and_includes (gathered_after_file_visit d.args.left known) known d.args.gathered.now.found.items (record { name = d.args.name.now; bytes = d.args.bytes }) in
      let same : (g.F.Files.shelf d.loop-line.files).files ≡ Some known = ap (λ (s : FileDeviceState). s.files) d.loop-line.invariant.0 ∙ is in
      let invariant = d.loop-line.invariant.1 known is settled in (
        outcome_goes_on_after_numbered_line (gathered_after_file_visit d.args.left known) known d.loop-line.gathered.found.items d.gather_includes_of_line.new.gathered.found.items d.args.name.now d.as_slice-in-loop-line.result.now d.line-item.result
            d.as_slice-line-items.result.now d.loop-line.line-index outcome less d.line-item.is d.as_slice-in-loop-line.ensures invariant.0
            (d.in_ok-gather_includes_of_line.ensures.comes known same invariant.1),
        d.in_ok-gather_includes_of_line.ensures.settles known same invariant.1,
      ),
)
