use Rattle.sudoers_match.proofs.Common.{unchanged_atom}
use Rattle.sudoers_match.proofs.Alike.{unchanged_atoms_keep_atom_matches}
use Rattle.sudoers_match.proofs.CounterpartsAnswer.{same_answer, same_runas_default, same_host_groups, same_cycle}
use Rattle.sudoers_match.proofs.Unreachable.{IsReachableAtomItself, keeps_reachable, lines_stand}
use Rattle.sudoers_match.proofs.laws.unreachable_definitions_change_no_answer.Goals as goal

pub returns : goal.returns
returns c = record {
  answer = λ lines others keep.
      same_answer (IsReachableAtomItself lines) unchanged_atom lines others (keeps_reachable lines others keep) (lines_stand lines others keep)
      c.alike_lists_say_same.ensures unchanged_atoms_keep_atom_matches;
  default = λ lines others keep.
      same_runas_default (IsReachableAtomItself lines) unchanged_atom lines others (keeps_reachable lines others keep) (lines_stand lines others keep)
      c.alike_lists_say_same.ensures unchanged_atoms_keep_atom_matches;
  groups = λ lines others keep.
      same_host_groups (IsReachableAtomItself lines) unchanged_atom lines others (keeps_reachable lines others keep) (lines_stand lines others keep)
      c.alike_lists_say_same.ensures unchanged_atoms_keep_atom_matches;
  cycle = λ lines others keep.
      same_cycle (IsReachableAtomItself lines) unchanged_atom lines others (keeps_reachable lines others keep) (lines_stand lines others keep)
      c.alike_lists_lead_to_cycle.ensures;
}
