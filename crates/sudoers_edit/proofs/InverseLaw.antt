-- Edits that are accepted lead to a policy, and what takes them back leads back.
use Rattle.sudoers_edit.proofs.Common.{AddDef, AddMember, AllByRecursion, Delete, DropDef, DropMember, Edit, EditFault, EndLine, Err, HasRestoringInverse, HaveFittingNumbers, Insert, Kind, List, LoadedPolicy, Move}
use Rattle.sudoers_edit.proofs.Common.{Ok, OpenEnd, Prune, PruneRemoval, Rename, Result, Some, [], ap, arith, edit_of_removal, edit_undoing_removal, edits_of_prune, edits_undoing_removals, inv, inv_run, length}
use Rattle.sudoers_edit.proofs.Common.{length-append, map, named_files_of_policy, next_or_placed_refusal, option_and_then, policy_after_edit_if_accepted, policy_after_removal, policy_or_first_refusal}
use Rattle.sudoers_edit.proofs.Common.{policy_or_load_fault, prune_removals_of_walk, refl, result_unwrap_or, run, run_result_without_place, step, subst, sym, ℕ, ◌++◌, ◌+◌, ◌∙◌, ◌∷◌, ◌≡◌}
use Rattle.sudoers_edit.specs.declared.prune_removals.PruneRemoval.TheVariants as removal
use Rattle.sudoers_edit.proofs.AcceptedLines.{AcceptedEditLaws, IsReversibleStep, IsReversibleWhereAccepted, accepted_insert_is_reversible, accepted_delete_is_reversible, accepted_move_is_reversible, accepted_end_line_is_reversible, accepted_open_end_is_reversible, accepted_rename_makes_files_that_load}
use Rattle.sudoers_edit.proofs.AcceptedSplices.{accepted_add_def_is_reversible, accepted_drop_def_is_reversible, accepted_add_member_is_reversible, accepted_drop_member_is_reversible}
use Rattle.sudoers_edit.proofs.HistoryLemmas.{run_of_joined_edits_is_sequenced, run_without_refusal_is_accepted}
use Rattle.sudoers_edit.proofs.LandLemmas.{accepted_edit_is_accepted_run}
use Rattle.sudoers_edit.proofs.PruneList.{prune_step_is_run_of_its_edits, prune_inverse_is_inverse_of_its_edits}
use Rattle.sudoers_edit.proofs.PrunePlaces.{file_number_of_spot_fits_u32, line_number_of_spot_fits_u32}
use Rattle.sudoers_edit.proofs.RemovalNumbers.{joined_edits_have_fitting_numbers, prune_removals_have_fitting_numbers}

-- RUNS

-- The edits lead from a policy to another, and what takes them back leads back.
pub record IsReversibleRun (edits : List Edit) (policy new : LoadedPolicy) : Type 0 where
  pub loaded : policy_or_load_fault (named_files_of_policy new) ≡ Ok new
  pub back : run (inv_run edits policy) new ≡ Some policy
  pub numbered : HaveFittingNumbers edits → HaveFittingNumbers (inv_run edits policy)

-- a step that a run begins with
pub accepted_run_begins_with_accepted_step : (next : LoadedPolicy → Result LoadedPolicy (ℕ × EditFault)) (place : ℕ) (r : Result LoadedPolicy EditFault) (new : LoadedPolicy) → next_or_placed_refusal next place r ≡ Ok new
    → (mid : LoadedPolicy) × (r ≡ Ok mid) × (next mid ≡ Ok new)
accepted_run_begins_with_accepted_step next place (Ok mid) new e = (mid, refl, e)
accepted_run_begins_with_accepted_step next place (Err f) new e = absurd cc

run_of_reversible_edits_is_reversible : (edits : List Edit) → AllByRecursion IsReversibleWhereAccepted edits → (place : ℕ) (policy new : LoadedPolicy) → policy_or_load_fault (named_files_of_policy policy) ≡ Ok policy
    → policy_or_first_refusal place edits policy ≡ Ok new → IsReversibleRun edits policy new
run_of_reversible_edits_is_reversible [] all place policy new loaded is =
    let same : policy ≡ new = cc in
    record { loaded = subst (λ (p : LoadedPolicy). policy_or_load_fault (named_files_of_policy p) ≡ Ok p) same loaded; back = ap (λ z. Some z) (sym same); numbered = λ n. tt }
run_of_reversible_edits_is_reversible (edit ∷ edits) all place policy new loaded is =
    let first = accepted_run_begins_with_accepted_step (policy_or_first_refusal (place + 1) edits) place (step edit policy) new is in
    let one : IsReversibleStep edit policy first.0 = all.0 policy first.0 loaded first.1 in
    let more : IsReversibleRun edits first.0 new = run_of_reversible_edits_is_reversible edits all.1 (place + 1) first.0 new one.loaded first.2 in
    let to : policy_after_edit_if_accepted edit policy ≡ first.0 = ap (λ (r : Result LoadedPolicy EditFault). result_unwrap_or r policy) first.1 in
    record {
      loaded = more.loaded;
      back = run_of_joined_edits_is_sequenced (inv_run edits (policy_after_edit_if_accepted edit policy)) (inv edit policy) new
          ∙ ap (λ (z : LoadedPolicy). option_and_then (run (inv edit policy)) (run (inv_run edits z) new)) to
          ∙ ap (option_and_then (run (inv edit policy))) more.back ∙ one.back;
      numbered = λ n. joined_edits_have_fitting_numbers (inv_run edits (policy_after_edit_if_accepted edit policy)) (inv edit policy)
          (subst (λ (z : LoadedPolicy). HaveFittingNumbers (inv_run edits z)) (sym to) (more.numbered n.1)) (one.numbered n.0);
    }

-- PRUNE

accepted_without_place_is_accepted : (r : Result LoadedPolicy (ℕ × EditFault)) (new : LoadedPolicy) → run_result_without_place r ≡ Ok new → r ≡ Ok new
accepted_without_place_is_accepted (Ok policy) new e = let same : policy ≡ new = cc in ap (λ z. Ok z) same
accepted_without_place_is_accepted (Err refused) new e = absurd cc

accepted_removals_are_reversible : AcceptedEditLaws → (all : List PruneRemoval) → AllByRecursion IsReversibleWhereAccepted (map edit_of_removal all)
accepted_removals_are_reversible l [] = tt
accepted_removals_are_reversible l (removal.Line f at ∷ all) = (accepted_delete_is_reversible l f at, accepted_removals_are_reversible l all)
accepted_removals_are_reversible l (removal.Def f line at ∷ all) = (accepted_drop_def_is_reversible l f line at, accepted_removals_are_reversible l all)

accepted_prune_is_reversible : AcceptedEditLaws → IsReversibleWhereAccepted Prune
accepted_prune_is_reversible l policy new loaded is =
    let told : IsReversibleRun (edits_of_prune policy) policy new =
    run_of_reversible_edits_is_reversible (edits_of_prune policy) (accepted_removals_are_reversible l (prune_removals_of_walk policy.walk)) 0 policy new loaded
    (accepted_without_place_is_accepted (policy_or_first_refusal 0 (edits_of_prune policy) policy) new (sym (prune_step_is_run_of_its_edits policy) ∙ is)) in
    let fit : HaveFittingNumbers (edits_of_prune policy) =
    prune_removals_have_fitting_numbers policy.walk (l.walk (named_files_of_policy policy) policy loaded)
    (λ n. (file_number_of_spot_fits_u32 policy n loaded l.walks.stand, line_number_of_spot_fits_u32 policy n loaded l.walks.stand l.land.cut l.land.alone l.ends.size)) in
    record {
      loaded = told.loaded;
      back = ap (λ (es : List Edit). run es new) (prune_inverse_is_inverse_of_its_edits policy) ∙ told.back;
      numbered = λ n. subst HaveFittingNumbers (sym (prune_inverse_is_inverse_of_its_edits policy)) (told.numbered fit);
    }

-- RENAMES

accepted_rename_is_reversible : AcceptedEditLaws → (k : Kind) (name fresh : List ℕ) → IsReversibleWhereAccepted (Rename k name fresh)
accepted_rename_is_reversible l k name fresh policy new loaded is = record {
  loaded = accepted_rename_makes_files_that_load l k name fresh policy new is;
  back = accepted_edit_is_accepted_run (Rename k fresh name) new policy (l.renames k name fresh policy new loaded is);
  numbered = λ n. (tt, tt);
}

-- EDITS

every_accepted_edit_is_reversible : AcceptedEditLaws → (edit : Edit) → IsReversibleWhereAccepted edit
every_accepted_edit_is_reversible l (Insert f at text) = accepted_insert_is_reversible l f at text
every_accepted_edit_is_reversible l (Delete f at) = accepted_delete_is_reversible l f at
every_accepted_edit_is_reversible l (Move f from to) = accepted_move_is_reversible l f from to
every_accepted_edit_is_reversible l (AddMember kind name at splice) = accepted_add_member_is_reversible l kind name at splice
every_accepted_edit_is_reversible l (DropMember kind name at) = accepted_drop_member_is_reversible l kind name at
every_accepted_edit_is_reversible l (AddDef f line at splice) = accepted_add_def_is_reversible l f line at splice
every_accepted_edit_is_reversible l (DropDef f line at) = accepted_drop_def_is_reversible l f line at
every_accepted_edit_is_reversible l (Rename kind name fresh) = accepted_rename_is_reversible l kind name fresh
every_accepted_edit_is_reversible l (EndLine f) = accepted_end_line_is_reversible l f
every_accepted_edit_is_reversible l (OpenEnd f) = accepted_open_end_is_reversible l f
every_accepted_edit_is_reversible l Prune = accepted_prune_is_reversible l

all_accepted_edits_are_reversible : AcceptedEditLaws → (edits : List Edit) → AllByRecursion IsReversibleWhereAccepted edits
all_accepted_edits_are_reversible l [] = tt
all_accepted_edits_are_reversible l (edit ∷ edits) = (every_accepted_edit_is_reversible l edit, all_accepted_edits_are_reversible l edits)

-- HOW MANY

-- One edit takes it back, wherever it was made.
abbrev HasInverseOfOneEdit : Edit → Type 0
HasInverseOfOneEdit edit = (policy : LoadedPolicy) → length (inv edit policy) ≡ 1

joined_edits_have_single_edit_inverses : (edits others : List Edit) → AllByRecursion HasInverseOfOneEdit edits → AllByRecursion HasInverseOfOneEdit others → AllByRecursion HasInverseOfOneEdit (edits ++ others)
joined_edits_have_single_edit_inverses [] others a b = b
joined_edits_have_single_edit_inverses (edit ∷ edits) others a b = (a.0, joined_edits_have_single_edit_inverses edits others a.1 b)

undoing_removal_has_single_edit_inverse : (one : PruneRemoval) (policy : LoadedPolicy) → HasInverseOfOneEdit (edit_undoing_removal one policy)
undoing_removal_has_single_edit_inverse (removal.Line f at) policy = λ other. refl
undoing_removal_has_single_edit_inverse (removal.Def f line at) policy = λ other. refl

undoing_removals_have_single_edit_inverses : (all : List PruneRemoval) (policy : LoadedPolicy) → AllByRecursion HasInverseOfOneEdit (edits_undoing_removals all policy)
undoing_removals_have_single_edit_inverses [] policy = tt
undoing_removals_have_single_edit_inverses (one ∷ more) policy =
    let next : LoadedPolicy = result_unwrap_or (policy_after_removal one policy) policy in
    joined_edits_have_single_edit_inverses (edits_undoing_removals more next) (edit_undoing_removal one policy ∷ []) (undoing_removals_have_single_edit_inverses more next) (undoing_removal_has_single_edit_inverse one policy, tt)

inverse_edits_have_single_edit_inverses : (edit : Edit) (policy : LoadedPolicy) → AllByRecursion HasInverseOfOneEdit (inv edit policy)
inverse_edits_have_single_edit_inverses (Insert f at text) policy = (λ other. refl, tt)
inverse_edits_have_single_edit_inverses (Delete f at) policy = (λ other. refl, tt)
inverse_edits_have_single_edit_inverses (Move f from to) policy = (λ other. refl, tt)
inverse_edits_have_single_edit_inverses (AddMember kind name at splice) policy = (λ other. refl, tt)
inverse_edits_have_single_edit_inverses (DropMember kind name at) policy = (λ other. refl, tt)
inverse_edits_have_single_edit_inverses (AddDef f line at splice) policy = (λ other. refl, tt)
inverse_edits_have_single_edit_inverses (DropDef f line at) policy = (λ other. refl, tt)
inverse_edits_have_single_edit_inverses (Rename kind name fresh) policy = (λ other. refl, tt)
inverse_edits_have_single_edit_inverses (EndLine f) policy = (λ other. refl, tt)
inverse_edits_have_single_edit_inverses (OpenEnd f) policy = (λ other. refl, tt)
inverse_edits_have_single_edit_inverses Prune policy = undoing_removals_have_single_edit_inverses (prune_removals_of_walk policy.walk) policy

run_inverses_have_single_edit_inverses : (edits : List Edit) (policy : LoadedPolicy) → AllByRecursion HasInverseOfOneEdit (inv_run edits policy)
run_inverses_have_single_edit_inverses [] policy = tt
run_inverses_have_single_edit_inverses (edit ∷ edits) policy =
    joined_edits_have_single_edit_inverses (inv_run edits (policy_after_edit_if_accepted edit policy)) (inv edit policy) (run_inverses_have_single_edit_inverses edits (policy_after_edit_if_accepted edit policy)) (inverse_edits_have_single_edit_inverses edit policy)

inverse_of_single_edit_inverses_is_as_long : (edits : List Edit) → AllByRecursion HasInverseOfOneEdit edits → (policy : LoadedPolicy) → length (inv_run edits policy) ≡ length edits
inverse_of_single_edit_inverses_is_as_long [] once policy = refl
inverse_of_single_edit_inverses_is_as_long (edit ∷ edits) once policy =
    omega (arith, length-append (inv_run edits (policy_after_edit_if_accepted edit policy)) (inv edit policy), inverse_of_single_edit_inverses_is_as_long edits once.1 (policy_after_edit_if_accepted edit policy), once.0 policy)

-- THE LAWS
pub accepted_edits_have_restoring_inverse : AcceptedEditLaws → (edits : List Edit) (policy new : LoadedPolicy) → policy_or_load_fault (named_files_of_policy policy) ≡ Ok policy → policy_or_first_refusal 0 edits policy ≡ Ok new
    → HasRestoringInverse edits policy new
accepted_edits_have_restoring_inverse l edits policy new loaded is =
    let told : IsReversibleRun edits policy new = run_of_reversible_edits_is_reversible edits (all_accepted_edits_are_reversible l edits) 0 policy new loaded is in
    record { loaded = told.loaded; back = run_without_refusal_is_accepted 0 (inv_run edits policy) new policy told.back; numbered = told.numbered }

pub inverse_of_inverse_run_is_as_long : (edits : List Edit) (policy other : LoadedPolicy) → length (inv_run (inv_run edits policy) other) ≡ length (inv_run edits policy)
inverse_of_inverse_run_is_as_long edits policy other = inverse_of_single_edit_inverses_is_as_long (inv_run edits policy) (run_inverses_have_single_edit_inverses edits policy) other
