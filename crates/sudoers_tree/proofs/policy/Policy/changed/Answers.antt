use Rattle.sudoers_tree.proofs.Common.{Err, LineChange, List, LoadFault, LoadedPolicy, MatchResult, NoMemory, Ok, OnErr, OnOk, Result, [], ap, files_after_changes, inl, inr, load_result_and_then}
use Rattle.sudoers_tree.proofs.Common.{named_files_of_policy, parsed_files_or_cut_fault, policy_of_parsed_files, policy_of_walked_files, policy_or_load_fault, subst, sym, ◌∙◌, ◌≡◌, ◌⊎◌}
use Rattle.sudoers_tree.proofs.ChangedLoads.{changed_files_load_by_their_parsed_files}
use Rattle.sudoers_tree.proofs.Known.{loaded_policy_keeps_names_and_bytes, equal_policy_of_walked_files_is_loaded}
use Rattle.sudoers_tree.proofs.policy.Policy.changed.Goals as goal

-- the outcome of reading the changed files and of the walk over them, as the files are kept
abbrev Made : List LineChange → LoadedPolicy → LoadedPolicy → Result (Unit {0}) LoadFault → Type 0
Made changes old new r =
    MatchResult r (λ _. load_result_and_then (parsed_files_or_cut_fault [] (files_after_changes changes old.files)) policy_of_parsed_files ≡ Ok new)
    (λ fault. (fault ≡ NoMemory) ⊎ (load_result_and_then (parsed_files_or_cut_fault [] (files_after_changes changes old.files)) policy_of_parsed_files ≡ Err fault))

-- It is the outcome of loading them.
abbrev Loads : List LineChange → LoadedPolicy → LoadedPolicy → Result (Unit {0}) LoadFault → Type 0
Loads changes old new r =
    MatchResult r (λ _. policy_or_load_fault (files_after_changes changes old.files) ≡ Ok new) (λ fault. (fault ≡ NoMemory) ⊎ (policy_or_load_fault (files_after_changes changes old.files) ≡ Err fault))

loads : (changes : List LineChange) (old new : LoadedPolicy) (r : Result (Unit {0}) LoadFault) → policy_or_load_fault (named_files_of_policy old) ≡ Ok old → Made changes old new r → Loads changes old new r
loads changes old new (Ok u) is made = changed_files_load_by_their_parsed_files changes old is ∙ made
loads changes old new (Err fault) is (inl memory) = inl memory
loads changes old new (Err fault) is (inr made) = inr (changed_files_load_by_their_parsed_files changes old is ∙ made)

have_bytes : (changes : List LineChange) (old new : LoadedPolicy) (r : Result (Unit {0}) LoadFault) → Loads changes old new r → OnOk r (named_files_of_policy new ≡ files_after_changes changes old.files)
have_bytes changes old new (Ok u) is = loaded_policy_keeps_names_and_bytes (files_after_changes changes old.files) new is
have_bytes changes old new (Err fault) is = tt

are_loaded : (changes : List LineChange) (old new : LoadedPolicy) (r : Result (Unit {0}) LoadFault) → policy_or_load_fault (named_files_of_policy old) ≡ Ok old → Loads changes old new r
    → OnErr r (new ≡ old) → policy_or_load_fault (named_files_of_policy new) ≡ Ok new
are_loaded changes old new (Ok u) is load same = ap policy_or_load_fault (loaded_policy_keeps_names_and_bytes (files_after_changes changes old.files) new load) ∙ load
are_loaded changes old new (Err fault) is load same = subst (λ (p : LoadedPolicy). policy_or_load_fault (named_files_of_policy p) ≡ Ok p) (sym same) is

-- the policy before, as it is kept
before : (c : goal.After-self-1) → policy_of_walked_files c.deref_mut.result.now ≡ c.args.self.now
before c = ap policy_of_walked_files c.deref_mut.ensures.value ∙ c.self.view_is ∙ c.in_ok-renew_overgrown_tables.ensures

loaded_before : (c : goal.After-self-1) → policy_or_load_fault (named_files_of_policy c.args.self.now) ≡ Ok c.args.self.now
loaded_before c = equal_policy_of_walked_files_is_loaded c.self.inside.walked.value c.args.self.now (c.self.view_is ∙ c.in_ok-renew_overgrown_tables.ensures) c.self.invariant.1

made : (c : goal.After-self-1) → Loads c.args.changes.now c.args.self.now (policy_of_walked_files c.change_lines.new.self) c.change_lines.result
made c =
    loads c.args.changes.now c.args.self.now (policy_of_walked_files c.change_lines.new.self) c.change_lines.result (loaded_before c)
    (subst (λ old. Made c.args.changes.now old (policy_of_walked_files c.change_lines.new.self) c.change_lines.result) (before c) c.change_lines.ensures.outcome)

pub returns-clause-outcome : goal.returns-clause-outcome
returns-clause-outcome c = made c

pub returns-clause-files : goal.returns-clause-files
returns-clause-files c =
    have_bytes c.args.changes.now c.args.self.now (policy_of_walked_files c.change_lines.new.self) c.change_lines.result (made c)

same : (r : Result (Unit {0}) LoadFault) (old kept new : LoadedPolicy) → kept ≡ old → OnErr r (new ≡ kept) → OnErr r (new ≡ old)
same (Ok u) old kept new is unchanged = tt
same (Err fault) old kept new is unchanged = unchanged ∙ is

pub invariant_of-self : goal.invariant_of-self
invariant_of-self c = (
  c.change_lines.ensures.walked,
  are_loaded c.args.changes.now c.args.self.now (policy_of_walked_files c.change_lines.new.self) c.change_lines.result (loaded_before c) (made c)
      (same c.change_lines.result c.args.self.now (policy_of_walked_files c.deref_mut.result.now) (policy_of_walked_files c.change_lines.new.self) (before c) c.change_lines.ensures.unchanged),
)
