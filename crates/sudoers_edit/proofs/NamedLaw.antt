-- What takes named edits back is named, and named edits are written.
use Rattle.sudoers_edit.proofs.Common.{AddDef, AddMember, AreSpellable, Delete, DropDef, DropMember, Edit, EndLine, Insert, List, LoadedPolicy, Move, OpenEnd, Prune, PruneRemoval, Rename, [], and_right, arith}
use Rattle.sudoers_edit.proofs.Common.{cases_Bool, edit_limit, edit_undoing_removal, edits_undoing_removals, false, false≢true, has_word_names, inl, inr, inv, inv_run, is_spellable_word, le-ltb, length, nat_lt}
use Rattle.sudoers_edit.proofs.Common.{policy_after_edit_if_accepted, policy_after_removal, prefix_len, prune_removals_of_walk, refl, result_unwrap_or, script_or_first_fault, spelling_of_edits, true, ℕ, ◌++◌, ◌∷◌}
use Rattle.sudoers_edit.proofs.Common.{◌≡◌, ◌≤◌}
use Rattle.std.specs.Prelude.{◌&&◌, Ok}
use Rattle.sudoers_edit.specs.Named.{HaveSpellableNames, spelling_or_too_many}
use Rattle.sudoers_edit_script.specs.ScriptReading.{edits_spelled_by_text}
use Rattle.sudoers_edit.specs.declared.prune_removals.PruneRemoval.TheVariants as removal

-- of two lists that are named the whole is
joined_edits_have_spellable_names : (edits others : List Edit) → HaveSpellableNames edits → HaveSpellableNames others → HaveSpellableNames (edits ++ others)
joined_edits_have_spellable_names [] others n m = m
joined_edits_have_spellable_names (edit ∷ edits) others n m = (n.0, joined_edits_have_spellable_names edits others n.1 m)

-- what is put in again has no names of its own
edit_undoing_removal_has_word_names : (one : PruneRemoval) (policy : LoadedPolicy) → has_word_names (edit_undoing_removal one policy) ≡ true
edit_undoing_removal_has_word_names (removal.Line file at) policy = refl
edit_undoing_removal_has_word_names (removal.Def file line at) policy = refl

edits_undoing_removals_have_spellable_names : (all : List PruneRemoval) (policy : LoadedPolicy) → HaveSpellableNames (edits_undoing_removals all policy)
edits_undoing_removals_have_spellable_names [] policy = tt
edits_undoing_removals_have_spellable_names (one ∷ more) policy =
    let next : LoadedPolicy = result_unwrap_or (policy_after_removal one policy) policy in
    joined_edits_have_spellable_names (edits_undoing_removals more next) (edit_undoing_removal one policy ∷ []) (edits_undoing_removals_have_spellable_names more next) (edit_undoing_removal_has_word_names one policy, tt)

-- both words of a renaming, the other way round
spellable_words_are_so_in_either_order : (name fresh : List ℕ) → (is_spellable_word name && is_spellable_word fresh) ≡ true → (is_spellable_word fresh && is_spellable_word name) ≡ true
spellable_words_are_so_in_either_order name fresh h =
    elim (cases_Bool (is_spellable_word name)) [
      | inl t ↦ let more = rw t at h in rw (t, more) refl
      | inr f ↦ let none = rw f at h in absurd (false≢true none)
    ]

-- what takes a named edit back is named
inverse_of_named_edit_has_spellable_names : (edit : Edit) (policy : LoadedPolicy) → has_word_names edit ≡ true → HaveSpellableNames (inv edit policy)
inverse_of_named_edit_has_spellable_names (Insert file at text) policy n = (refl, tt)
inverse_of_named_edit_has_spellable_names (Delete file at) policy n = (refl, tt)
inverse_of_named_edit_has_spellable_names (Move file from to) policy n = (refl, tt)
inverse_of_named_edit_has_spellable_names (AddMember kind name at splice) policy n = (n, tt)
inverse_of_named_edit_has_spellable_names (DropMember kind name at) policy n = (n, tt)
inverse_of_named_edit_has_spellable_names (AddDef file line at splice) policy n = (refl, tt)
inverse_of_named_edit_has_spellable_names (DropDef file line at) policy n = (refl, tt)
inverse_of_named_edit_has_spellable_names (Rename kind name fresh) policy n = (spellable_words_are_so_in_either_order name fresh n, tt)
inverse_of_named_edit_has_spellable_names (EndLine file) policy n = (refl, tt)
inverse_of_named_edit_has_spellable_names (OpenEnd file) policy n = (refl, tt)
inverse_of_named_edit_has_spellable_names Prune policy n = edits_undoing_removals_have_spellable_names (prune_removals_of_walk policy.walk) policy

-- THE LAWS
pub inverse_of_run_has_spellable_names : (edits : List Edit) (policy : LoadedPolicy) → HaveSpellableNames edits → HaveSpellableNames (inv_run edits policy)
inverse_of_run_has_spellable_names [] policy n = tt
inverse_of_run_has_spellable_names (edit ∷ edits) policy n =
    joined_edits_have_spellable_names (inv_run edits (policy_after_edit_if_accepted edit policy)) (inv edit policy) (inverse_of_run_has_spellable_names edits (policy_after_edit_if_accepted edit policy) n.1) (inverse_of_named_edit_has_spellable_names edit policy n.0)

spellable_edits_have_spellable_names : (edits : List Edit) → AreSpellable edits → HaveSpellableNames edits
spellable_edits_have_spellable_names [] s = tt
spellable_edits_have_spellable_names (edit ∷ edits) s = (s.0.1, spellable_edits_have_spellable_names edits s.1)

-- where what is read is spellable, it is named
pub edits_read_from_text_have_spellable_names : ((text : List ℕ) (edits : List Edit) → edits_spelled_by_text text ≡ Ok edits → (text ≡ spelling_of_edits edits) × (length edits ≤ edit_limit) × AreSpellable edits)
    → (text : List ℕ) (edits : List Edit) → edits_spelled_by_text text ≡ Ok edits → HaveSpellableNames edits
edits_read_from_text_have_spellable_names law text edits e = spellable_edits_have_spellable_names edits (law text edits e).2

-- of named edits none has a name that is no word
spellable_edits_are_all_in_named_prefix : (edits : List Edit) → HaveSpellableNames edits → prefix_len has_word_names edits ≡ length edits
spellable_edits_are_all_in_named_prefix [] n = refl
spellable_edits_are_all_in_named_prefix (edit ∷ edits) n = let more = spellable_edits_are_all_in_named_prefix edits n.1 in rw n.0 (omega (arith, more))

pub script_of_named_edits_is_spelling : (edits : List Edit) → HaveSpellableNames edits → script_or_first_fault edits ≡ spelling_or_too_many edits
script_of_named_edits_is_spelling edits n =
    let whole : prefix_len has_word_names edits ≡ length edits = spellable_edits_are_all_in_named_prefix edits n in
    let none : nat_lt (prefix_len has_word_names edits) (length edits) ≡ false = le-ltb (prefix_len has_word_names edits) (length edits) (omega (arith, whole)) in
    let front : (nat_lt (prefix_len has_word_names edits) 65536 && nat_lt (prefix_len has_word_names edits) (length edits)) ≡ false = and_right (nat_lt (prefix_len has_word_names edits) 65536) (nat_lt (prefix_len has_word_names edits) (length edits)) none in
    rw front refl
