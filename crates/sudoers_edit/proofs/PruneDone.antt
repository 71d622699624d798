-- A prune of several files, removal by removal: what its changes make so far, and where all of them lead.
use Rattle.sudoers_edit.proofs.Common.{AreRemovalsBelowLimitsInTurn, AreChangesInOrder, AreChangesOfEdit, AreLinesAtSpots, Edit, EditFault, Err, IsFileOrderOfChanges, IsPartialPrune, IsRefusalOrNoMemory, IsRemovalMade}
use Rattle.sudoers_edit.proofs.Common.{LineChange, List, LoadFault, LoadedPolicy, NamedFile, NoChangesLaw, Ok, ParsedFile, Prune, PruneRemoval, Result, Some, [], ap, append-nil, append_assoc, ap₂, arith}
use Rattle.sudoers_edit.proofs.Common.{changed_files_from_number, changes_of_file, edit_of_removal, edits_undoing_removals, false, file_names, files_after_changes, has_inner_line_without_lf, inl, inr, inv}
use Rattle.sudoers_edit.proofs.Common.{is_line_cut_by_removal, join, length, lines_after_changes, lines_of_numbered_file, map, named_file_of_parsed, named_files_of_policy, option_and_then, policy_after_removals}
use Rattle.sudoers_edit.proofs.Common.{policy_of_files_or_refusal, policy_or_edit_fault, policy_or_load_fault, prune_removals_of_walk, refl, removal_limits_after, result_ok, run, step, subst, suc, sym}
use Rattle.sudoers_edit.proofs.Common.{texts_of_lines, walk_or_fault_of_files, ℕ, ◌++◌, ◌+◌, ◌∙◌, ◌∷◌, ◌≡◌}
use Rattle.sudoers_edit.specs.declared.prune_removals.PruneRemoval.TheVariants as removal
use Rattle.sudoers_edit.proofs.DraftLemmas.{order_of_changes_holds_from_lower_number}
use Rattle.sudoers_edit.proofs.PruneFalls.{prune_removals_of_walk_are_allowed}

-- ---- one after another

-- the policy after one of them, and the rest
removals_after_accepted_step_are_rest : (one : PruneRemoval) (more : List PruneRemoval) (now next : LoadedPolicy) → step (edit_of_removal one) now ≡ Ok next → policy_after_removals (one ∷ more) now ≡ policy_after_removals more next
removals_after_accepted_step_are_rest (removal.Line f at) more now next is = rw is refl
removals_after_accepted_step_are_rest (removal.Def f line at) more now next is = rw is refl

pub refusal_of_first_removal_refuses_all : (fault : EditFault) (one : PruneRemoval) (more : List PruneRemoval) (now : LoadedPolicy) → IsRefusalOrNoMemory fault (step (edit_of_removal one) now)
    → IsRefusalOrNoMemory fault (policy_after_removals (one ∷ more) now)
refusal_of_first_removal_refuses_all fault one more now (inl none) = inl none
refusal_of_first_removal_refuses_all fault (removal.Line f at) more now (inr is) = inr (rw is refl)
refusal_of_first_removal_refuses_all fault (removal.Def f line at) more now (inr is) = inr (rw is refl)

undoing_removals_undo_first_last : (one : PruneRemoval) (more : List PruneRemoval) (now next : LoadedPolicy) → step (edit_of_removal one) now ≡ Ok next
    → edits_undoing_removals (one ∷ more) now ≡ edits_undoing_removals more next ++ inv (edit_of_removal one) now
undoing_removals_undo_first_last (removal.Line f at) more now next is = rw is refl
undoing_removals_undo_first_last (removal.Def f line at) more now next is = rw is refl

undoing_edit_before_undoing_run_leads_back : (edit : Edit) (back : List Edit) (next now old : LoadedPolicy) → run (edit ∷ []) next ≡ Some now → run back now ≡ Some old
    → run (edit ∷ back) next ≡ Some old
undoing_edit_before_undoing_run_leads_back edit back next now old one more = by (step edit next) one
  where
    by : (r : Result LoadedPolicy EditFault) → option_and_then (run []) (result_ok r) ≡ Some now → option_and_then (run back) (result_ok r) ≡ Some old
    by (Ok policy) is = let same : policy ≡ now = cc in ap (run back) same ∙ more
    by (Err fault) is = absurd cc

-- ---- removals

-- before the first removal
pub unstarted_prune_is_partial_prune : NoChangesLaw → (policy : LoadedPolicy) (all : List PruneRemoval) → policy_or_load_fault (named_files_of_policy policy) ≡ Ok policy
    → AreLinesAtSpots policy.files policy.walk.spots policy.walk.lines → walk_or_fault_of_files policy.files ≡ Ok policy.walk → all ≡ prune_removals_of_walk policy.walk
    → IsPartialPrune policy all all [] []
unstarted_prune_is_partial_prune none policy all loaded stand walk are = record {
  now = policy;
  below = λ f. length (lines_of_numbered_file policy.files f);
  cut = λ f n. false;
  draft = record { loaded = loaded; names = refl; made = λ f. sym (none 0 (texts_of_lines (lines_of_numbered_file policy.files f))); on = refl; inside = tt; whole = tt };
  ready = record { order = λ f. omega arith; last = λ f n is. absurd (cc) };
  falls = subst (AreRemovalsBelowLimitsInTurn policy (λ f. length (lines_of_numbered_file policy.files f)) (λ f n. false)) (sym are) (prune_removals_of_walk_are_allowed policy stand walk);
  forth = refl;
  back = append-nil (edits_undoing_removals all policy);
  again = refl;
}

-- after one removal more
pub removal_made_continues_partial_prune : (policy : LoadedPolicy) (one : PruneRemoval) (more all : List PruneRemoval) (changes later : List LineChange) (inverse : List Edit) (back : Edit)
    → (p : IsPartialPrune policy (one ∷ more) all changes inverse) → IsRemovalMade policy one p.below p.now later back → IsPartialPrune policy more all later (back ∷ inverse)
removal_made_continues_partial_prune policy one more all changes later inverse back p out = record {
  now = out.next;
  below = removal_limits_after one p.below;
  cut = is_line_cut_by_removal one;
  draft = out.draft;
  ready = out.ready;
  falls = p.falls.1;
  forth = sym (removals_after_accepted_step_are_rest one more p.now out.next out.made.forth) ∙ p.forth;
  back = ap (λ (es : List Edit). edits_undoing_removals more out.next ++ (es ++ inverse)) out.made.inverse_is
      ∙ sym (append_assoc (edits_undoing_removals more out.next) (inv (edit_of_removal one) p.now) inverse)
      ∙ ap (λ (es : List Edit). es ++ inverse) (sym (undoing_removals_undo_first_last one more p.now out.next out.made.forth)) ∙ p.back;
  again = undoing_edit_before_undoing_run_leads_back back inverse out.next p.now policy out.made.back p.again;
}

-- ---- the files

-- files with these names and lines are the changed files
files_of_changed_lines_are_changed_files : (changes : List LineChange) (n : ℕ) (olds news : List ParsedFile) → file_names news ≡ file_names olds
    → ((i : ℕ) → texts_of_lines (lines_of_numbered_file news i) ≡ lines_after_changes (changes_of_file (n + i) changes) (texts_of_lines (lines_of_numbered_file olds i))) → changed_files_from_number n changes olds ≡ map named_file_of_parsed news
files_of_changed_lines_are_changed_files changes n [] [] names lines = refl
files_of_changed_lines_are_changed_files changes n [] (new ∷ news) names lines = absurd (cc)
files_of_changed_lines_are_changed_files changes n (old ∷ olds) [] names lines = absurd (cc)
files_of_changed_lines_are_changed_files changes n (old ∷ olds) (new ∷ news) names lines =
    let first : new.name ≡ old.name = cc in
    let more : file_names news ≡ file_names olds = cc in
    let here : texts_of_lines new.lines ≡ lines_after_changes (changes_of_file n changes) (texts_of_lines old.lines) =
    lines 0 ∙ ap (λ m. lines_after_changes (changes_of_file m changes) (texts_of_lines old.lines)) (let e : n + 0 ≡ n = omega arith in e) in
    let later : (i : ℕ) → texts_of_lines (lines_of_numbered_file news i) ≡ lines_after_changes (changes_of_file (n + 1 + i) changes) (texts_of_lines (lines_of_numbered_file olds i)) =
    λ i. lines (suc i) ∙ ap (λ m. lines_after_changes (changes_of_file m changes) (texts_of_lines (lines_of_numbered_file olds i))) (let e : n + suc i ≡ n + 1 + i = omega arith in e) in
    let named : (let file : NamedFile = record { name = old.name; bytes = join (lines_after_changes (changes_of_file n changes) (texts_of_lines old.lines)) } in file) ≡ named_file_of_parsed new =
    ap₂ (λ name text. let file : NamedFile = record { name = name; bytes = text } in file) (sym first) (ap join (sym here)) in
    ap₂ (λ (f : NamedFile) fs. f ∷ fs) named (files_of_changed_lines_are_changed_files changes (n + 1) olds news more later)

reordered_changes_make_same_lines_of_file : (changes sorted : List LineChange) (f : ℕ) (files : List ParsedFile) → ((f : ℕ) → changes_of_file f sorted ≡ changes_of_file f changes)
    → lines_after_changes (changes_of_file f sorted) (texts_of_lines (lines_of_numbered_file files f)) ≡ lines_after_changes (changes_of_file f changes) (texts_of_lines (lines_of_numbered_file files f))
reordered_changes_make_same_lines_of_file changes sorted f files same = ap (λ cs. lines_after_changes cs (texts_of_lines (lines_of_numbered_file files f))) (same f)

-- after the last removal
pub finished_prune_has_changes_of_edit : ((policy : LoadedPolicy) (f : ℕ) → policy_or_load_fault (named_files_of_policy policy) ≡ Ok policy → has_inner_line_without_lf (texts_of_lines (lines_of_numbered_file policy.files f)) ≡ false)
    → (policy : LoadedPolicy) (all : List PruneRemoval) (changes sorted : List LineChange) (inverse : List Edit) → all ≡ prune_removals_of_walk policy.walk
    → IsPartialPrune policy [] all changes inverse → IsFileOrderOfChanges changes sorted → AreChangesOfEdit Prune inverse policy sorted
finished_prune_has_changes_of_edit ended policy all changes sorted inverse are p by = record {
  fits =
      record {
        by_files = by.goes (length policy.files) p.draft.inside;
        order = λ f.
            subst (λ cs. AreChangesInOrder 0 cs (length (lines_of_numbered_file policy.files f))) (sym (by.same f))
            (order_of_changes_holds_from_lower_number 0 (p.below f) (changes_of_file f changes) (length (lines_of_numbered_file policy.files f)) (omega arith) (p.ready.order f));
        lines = by.whole p.draft.whole;
        ended = λ f. ap has_inner_line_without_lf (reordered_changes_make_same_lines_of_file changes sorted f policy.files by.same ∙ sym (p.draft.made f)) ∙ ended p.now f p.draft.loaded;
      };
  forth = ap (λ rs. policy_after_removals rs policy) (sym are) ∙ sym p.forth ∙ sym (ap policy_of_files_or_refusal files ∙ ap policy_or_edit_fault p.draft.loaded);
  inverse_is = p.back ∙ ap (λ rs. edits_undoing_removals rs policy) are;
  back = λ new loaded.
      let both : (let r : Result LoadedPolicy LoadFault = Ok new in r) ≡ Ok p.now = sym loaded ∙ ap policy_or_load_fault files ∙ p.draft.loaded in
      let same : new ≡ p.now = one_policy new p.now both in
      ap (run inverse) same ∙ p.again;
}
  where
    files : files_after_changes sorted policy.files ≡ named_files_of_policy p.now
    files =
        files_of_changed_lines_are_changed_files sorted 0 policy.files p.now.files p.draft.names
        (λ i. p.draft.made i ∙ sym (reordered_changes_make_same_lines_of_file changes sorted i policy.files by.same)
        ∙ ap (λ m. lines_after_changes (changes_of_file m sorted) (texts_of_lines (lines_of_numbered_file policy.files i))) (let e : i ≡ 0 + i = omega arith in e))

    one_policy : (a b : LoadedPolicy) → (let r : Result LoadedPolicy LoadFault = Ok a in r) ≡ Ok b → a ≡ b
    one_policy a b is = cc
