-- What a journal's entries say of the whole run.
use Rattle.sudoers_edit.proofs.Common.{Edit, EditFault, EditorState, Err, IsSomeAnd, IsUndoableJournal, AppliedEditWithInverse, List, LoadedPolicy, None, Ok, Option, Result, Some, [], ap, append-nil, append_assoc, drop}
use Rattle.sudoers_edit.proofs.Common.{drop_more, edits_of_entries, initial_policy_of_editor, inv, inv_run, length, map-append, next_or_placed_refusal, option_and_then, policy_after_edit_if_accepted}
use Rattle.sudoers_edit.proofs.Common.{policy_before_entries, policy_or_first_refusal, refl, result_ok, result_unwrap_or, reverse, reverse-append, reverse-reverse, run, slice_index_or, step, subst, sym, take}
use Rattle.sudoers_edit.proofs.Common.{take_more, unwrap_or, ℕ, ◌++◌, ◌+◌, ◌<◌, ◌∙◌, ◌∷◌, ◌≡◌}
use Rattle.std.specs.List.{flat_map}

property_of_some_has_value : {A : Type 0} (P : A → Type 0) (o : Option A) → IsSomeAnd o P → (x : A) × (o ≡ Some x) × P x
property_of_some_has_value P None h = absurd h
property_of_some_has_value P (Some x) h = (x, refl, h)

-- a step that a run begins with
run_of_edits_begins_with_accepted_step : (r : Result LoadedPolicy EditFault) (es : List Edit) (m : LoadedPolicy) → option_and_then (run es) (result_ok r) ≡ Some m → (n : LoadedPolicy) × (r ≡ Ok n) × (run es n ≡ Some m)
run_of_edits_begins_with_accepted_step (Ok n) es m h = (n, refl, h)
run_of_edits_begins_with_accepted_step (Err f) es m h = cc

run_of_joined_edits_after_step : (r : Result LoadedPolicy EditFault) (es fs : List Edit) → ((n : LoadedPolicy) → run (es ++ fs) n ≡ option_and_then (run fs) (run es n)) → option_and_then (run (es ++ fs)) (result_ok r) ≡ option_and_then (run fs) (option_and_then (run es) (result_ok r))
run_of_joined_edits_after_step (Ok n) es fs same = same n
run_of_joined_edits_after_step (Err f) es fs same = refl

pub run_of_joined_edits_is_sequenced : (es fs : List Edit) (ls : LoadedPolicy) → run (es ++ fs) ls ≡ option_and_then (run fs) (run es ls)
run_of_joined_edits_is_sequenced [] fs ls = refl
run_of_joined_edits_is_sequenced (e ∷ es) fs ls = run_of_joined_edits_after_step (step e ls) es fs (run_of_joined_edits_is_sequenced es fs)

pub inverse_of_joined_runs_is_reversed_inverses : (es fs : List Edit) (ls m : LoadedPolicy) → run es ls ≡ Some m → inv_run (es ++ fs) ls ≡ inv_run fs m ++ inv_run es ls
inverse_of_joined_runs_is_reversed_inverses [] fs ls m h = let e : ls ≡ m = cc in rw e (sym (append-nil (inv_run fs m)))
inverse_of_joined_runs_is_reversed_inverses (e ∷ es) fs ls m h =
    let w = run_of_edits_begins_with_accepted_step (step e ls) es m h in
    let to : policy_after_edit_if_accepted e ls ≡ w.0 = ap (λ (r : Result LoadedPolicy EditFault). result_unwrap_or r ls) w.1 in
    rw to (ap (λ z. z ++ inv e ls) (inverse_of_joined_runs_is_reversed_inverses es fs w.0 m w.2) ∙ append_assoc (inv_run fs m) (inv_run es w.0) (inv e ls))

-- The entries, the newest first: the edits lead from the first lines to the present ones, what takes them back is the list
-- of their inverses, and that leads back.
pub record IsHistoryOfEntries (first : LoadedPolicy) (entries : List AppliedEditWithInverse) (now : LoadedPolicy) : Type 0 where
  pub forth : run (edits_of_entries (reverse entries)) first ≡ Some now
  pub inverses : inv_run (edits_of_entries (reverse entries)) first ≡ flat_map (λ (e : AppliedEditWithInverse). e.inverse) entries
  pub back : run (flat_map (λ (e : AppliedEditWithInverse). e.inverse) entries) now ≡ Some first

edits_of_newest_entry_are_last : (e : AppliedEditWithInverse) (es : List AppliedEditWithInverse) → edits_of_entries (reverse (e ∷ es)) ≡ edits_of_entries (reverse es) ++ e.edit ∷ []
edits_of_newest_entry_are_last e es = ap edits_of_entries (reverse-append (e ∷ []) es) ∙ map-append (λ (x : AppliedEditWithInverse). x.edit) (reverse es) (e ∷ [])

pub undoable_journal_has_history : (entries : List AppliedEditWithInverse) (now : LoadedPolicy) → IsUndoableJournal entries now → IsHistoryOfEntries (policy_before_entries entries now) entries now
undoable_journal_has_history [] now h = record { forth = refl; inverses = refl; back = refl }
undoable_journal_has_history (e ∷ es) now h =
    let w = property_of_some_has_value (λ (before : LoadedPolicy). (step e.edit before ≡ Ok now) × (e.inverse ≡ inv e.edit before) × IsUndoableJournal es before) (run e.inverse now) h in
    let before : LoadedPolicy = w.0 in
    let first : LoadedPolicy = policy_before_entries es before in
    let rest : IsHistoryOfEntries first es before = undoable_journal_has_history es before w.2.2 in
    let begin : policy_before_entries (e ∷ es) now ≡ first = ap (λ (o : Option LoadedPolicy). policy_before_entries es (unwrap_or o now)) w.1 in
    let one : run (e.edit ∷ []) before ≡ Some now = ap (λ (r : Result LoadedPolicy EditFault). option_and_then (run []) (result_ok r)) w.2.0 in
    let edits : edits_of_entries (reverse (e ∷ es)) ≡ edits_of_entries (reverse es) ++ e.edit ∷ [] = edits_of_newest_entry_are_last e es in
    let forth : run (edits_of_entries (reverse (e ∷ es))) first ≡ Some now = ap (λ z. run z first) edits ∙ run_of_joined_edits_is_sequenced (edits_of_entries (reverse es)) (e.edit ∷ []) first ∙ ap (option_and_then (run (e.edit ∷ []))) rest.forth ∙ one in
    let inverses : inv_run (edits_of_entries (reverse (e ∷ es))) first ≡ e.inverse ++ flat_map (λ (x : AppliedEditWithInverse). x.inverse) es = ap (λ z. inv_run z first) edits ∙ inverse_of_joined_runs_is_reversed_inverses (edits_of_entries (reverse es)) (e.edit ∷ []) first before rest.forth ∙ ap (λ z. inv e.edit before ++ z) rest.inverses ∙ ap (λ z. z ++ flat_map (λ (x : AppliedEditWithInverse). x.inverse) es) (sym w.2.1) in
    let back : run (e.inverse ++ flat_map (λ (x : AppliedEditWithInverse). x.inverse) es) now ≡ Some first = run_of_joined_edits_is_sequenced e.inverse (flat_map (λ (x : AppliedEditWithInverse). x.inverse) es) now ∙ ap (option_and_then (run (flat_map (λ (x : AppliedEditWithInverse). x.inverse) es))) w.1 ∙ rest.back in
    subst (λ (f : LoadedPolicy). IsHistoryOfEntries f (e ∷ es) now) (sym begin) (record { forth = forth; inverses = inverses; back = back })

-- a run that nothing refuses is accepted edit by edit
accepted_run_has_no_refusal_after_step : (k : ℕ) (es : List Edit) (r : Result LoadedPolicy EditFault) (m : LoadedPolicy) → ((n : LoadedPolicy) → run es n ≡ Some m → policy_or_first_refusal (k + 1) es n ≡ Ok m) → option_and_then (run es) (result_ok r) ≡ Some m → next_or_placed_refusal (policy_or_first_refusal (k + 1) es) k r ≡ Ok m
accepted_run_has_no_refusal_after_step k es (Ok n) m later h = later n h
accepted_run_has_no_refusal_after_step k es (Err f) m later h = absurd (cc)

pub run_without_refusal_is_accepted : (k : ℕ) (es : List Edit) (ls m : LoadedPolicy) → run es ls ≡ Some m → policy_or_first_refusal k es ls ≡ Ok m
run_without_refusal_is_accepted k [] ls m h = let e : ls ≡ m = cc in ap (λ z. Ok z) e
run_without_refusal_is_accepted k (e ∷ es) ls m h = accepted_run_has_no_refusal_after_step k es (step e ls) m (λ n. run_without_refusal_is_accepted (k + 1) es n m) h

-- one edit more of a list
pub run_of_next_edit_extends_run : (es : List Edit) (k : ℕ) (d : Edit) (ls m n : LoadedPolicy) → k < length es → run (take k es) ls ≡ Some m → step (slice_index_or es k d) m ≡ Ok n → run (take (k + 1) es) ls ≡ Some n
run_of_next_edit_extends_run es k d ls m n l before one =
    let last : run (slice_index_or es k d ∷ []) m ≡ Some n = ap (λ (r : Result LoadedPolicy EditFault). option_and_then (run []) (result_ok r)) one in
    ap (λ z. run z ls) (take_more es k d l) ∙ run_of_joined_edits_is_sequenced (take k es) (slice_index_or es k d ∷ []) ls ∙ ap (option_and_then (run (slice_index_or es k d ∷ []))) before ∙ last

pub refusal_of_rest_after_accepted_edit : (es : List Edit) (k : ℕ) (d : Edit) (m n : LoadedPolicy) → k < length es → step (slice_index_or es k d) m ≡ Ok n → policy_or_first_refusal k (drop k es) m ≡ policy_or_first_refusal (k + 1) (drop (k + 1) es) n
refusal_of_rest_after_accepted_edit es k d m n l one =
    ap (λ z. policy_or_first_refusal k z m) (drop_more es k d l) ∙ ap (next_or_placed_refusal (policy_or_first_refusal (k + 1) (drop (k + 1) es)) k) one

pub edits_of_appended_entry_are_appended : (journal : List AppliedEditWithInverse) (e : AppliedEditWithInverse) → edits_of_entries (journal ++ e ∷ []) ≡ edits_of_entries journal ++ e.edit ∷ []
edits_of_appended_entry_are_appended journal e = map-append (λ (x : AppliedEditWithInverse). x.edit) journal (e ∷ [])

-- an editor's list of inverses
pub undoable_editor_has_history : (d : EditorState) → IsUndoableJournal (reverse d.journal) d.policy → IsHistoryOfEntries (initial_policy_of_editor d) (reverse d.journal) d.policy
undoable_editor_has_history d h = undoable_journal_has_history (reverse d.journal) d.policy h

-- what is told of a list of edits that takes back all that stand
pub record UndoesWholeJournal (d : EditorState) (edits : List Edit) : Type 0 where
  pub exact : edits ≡ inv_run (edits_of_entries d.journal) (initial_policy_of_editor d)
  pub restores : run edits d.policy ≡ Some (initial_policy_of_editor d)
  pub accepted : policy_or_first_refusal 0 edits d.policy ≡ Ok (initial_policy_of_editor d)

pub inverses_of_journal_undo_editor : (d : EditorState) → IsUndoableJournal (reverse d.journal) d.policy → (edits : List Edit) → edits ≡ flat_map (λ (e : AppliedEditWithInverse). e.inverse) (reverse d.journal) → UndoesWholeJournal d edits
inverses_of_journal_undo_editor d h edits is =
    let whole = undoable_editor_has_history d h in
    let back : run edits d.policy ≡ Some (initial_policy_of_editor d) = ap (λ z. run z d.policy) is ∙ whole.back in
    record {
      exact = is ∙ sym whole.inverses ∙ ap (λ z. inv_run (edits_of_entries z) (initial_policy_of_editor d)) (reverse-reverse d.journal);
      restores = back;
      accepted = run_without_refusal_is_accepted 0 edits d.policy (initial_policy_of_editor d) back;
    }

pub edits_of_journal_lead_to_present_policy : (d : EditorState) → IsUndoableJournal (reverse d.journal) d.policy → run (edits_of_entries d.journal) (initial_policy_of_editor d) ≡ Some d.policy
edits_of_journal_lead_to_present_policy d h = ap (λ z. run (edits_of_entries z) (initial_policy_of_editor d)) (sym (reverse-reverse d.journal)) ∙ (undoable_editor_has_history d h).forth
