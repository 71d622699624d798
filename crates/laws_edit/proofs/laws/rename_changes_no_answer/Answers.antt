use Rattle.sudoers_match_list.specs.Alike.{unchanged_atom}
use Rattle.sudoers_match.proofs.Alike.{unchanged_atoms_keep_atom_matches}
use Rattle.sudoers_match.proofs.CounterpartsAnswer.{same_answer, same_runas_default, same_host_groups, same_cycle}
use Rattle.sudoers_edit.specs.Renamed.{lines_after_rename}
use Rattle.laws_edit.proofs.RenamedAnswers.{keeps_renamed, lines_do_not_name_free_alias, lines_renamed_to_free_name_are_valid}
use Rattle.laws_edit.proofs.RenamedMembers.{IsAtomAfterRename, lines_stand}
use Rattle.laws_edit.proofs.laws.rename_changes_no_answer.Goals as goal

pub returns : goal.returns
returns c = record {
  answer = λ k name fresh lines some free.
      let without = lines_do_not_name_free_alias k fresh lines free in
      same_answer (IsAtomAfterRename k name fresh) unchanged_atom lines (lines_after_rename k name fresh lines) (keeps_renamed k name fresh lines some without)
      (lines_stand k name fresh lines without) c.alike_lists_say_same.ensures unchanged_atoms_keep_atom_matches;
  default = λ k name fresh lines some free.
      let without = lines_do_not_name_free_alias k fresh lines free in
      same_runas_default (IsAtomAfterRename k name fresh) unchanged_atom lines (lines_after_rename k name fresh lines) (keeps_renamed k name fresh lines some without)
      (lines_stand k name fresh lines without) c.alike_lists_say_same.ensures unchanged_atoms_keep_atom_matches;
  groups = λ k name fresh lines some free.
      let without = lines_do_not_name_free_alias k fresh lines free in
      same_host_groups (IsAtomAfterRename k name fresh) unchanged_atom lines (lines_after_rename k name fresh lines) (keeps_renamed k name fresh lines some without)
      (lines_stand k name fresh lines without) c.alike_lists_say_same.ensures unchanged_atoms_keep_atom_matches;
  cycle = λ k name fresh lines some free walk new.
      let without = lines_do_not_name_free_alias k fresh lines free in
      same_cycle (IsAtomAfterRename k name fresh) unchanged_atom lines (lines_after_rename k name fresh lines) (keeps_renamed k name fresh lines some without)
      (lines_stand k name fresh lines without) c.alike_lists_lead_to_cycle.ensures walk (lines_renamed_to_free_name_are_valid c.renamed_line.ensures.same k name fresh lines some free walk new);
}
