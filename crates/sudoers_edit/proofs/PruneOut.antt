-- A line or a definition taken out of a draft of several files.
use Rattle.sudoers_edit.proofs.Common.{AddDef, AllByRecursion, AreChangesInOrder, Bool, CanRemoveDefinition, CanRemoveLine, Delete, DropDef, EditFault, FirstChangeLaw, Insert, IsAliasLineOnWalk, IsDefinitionCut}
use Rattle.sudoers_edit.proofs.Common.{IsLogicalLine, LeavesLinesBelowLimitsUnchanged, IsRefusalOrNoMemory, IsRemovalMade, IsResultOfChanges, Line, LineChange, LineTexts, List, LoadedPolicy, NoChangesLaw, None, Ok, Option, Put}
use Rattle.sudoers_edit.proofs.Common.{BeginsWithReplacementOfLine, Some, Swap, Take, [], and_parts, ap, arith, changes_of_file, changes_without_first_if_it_replaces_line, edit_result_and_then, eq-eqb, eqb-false, eqb-true, false}
use Rattle.sudoers_edit.proofs.Common.{file_number_of_change, if◌then◌else◌, inl, inr, is_file_on_walk, lead_of_parsed_line, length, limits_with_limit_of_file_set, line_text_in_file, lines_after_changes}
use Rattle.sudoers_edit.proofs.Common.{lines_of_numbered_file, lines_with_definition_dropped, lines_with_one_replaced, list_any, named_files_of_policy, nat_eq, ne_eqb, option_or, policy_or_load_fault}
use Rattle.sudoers_edit.proofs.Common.{policy_with_file_lines, reading_of_single_line, refl, remove, replacement_text_by_first_change, slice_get, slice_get_within, step, subst, suc, sym, texts_of_changes, texts_of_lines}
use Rattle.sudoers_edit.proofs.Common.{true, zero, ℕ, ◌&&◌, ◌+◌, ◌<◌, ◌==◌, ◌∙◌, ◌∷◌, ◌≡◌, ◌⊎◌}
use Rattle.sudoers_grammar.specs.Node as node
use Rattle.sudoers_edit.specs.declared.prune_removals.PruneRemoval.TheVariants as removal
use Rattle.sudoers_edit.specs.internal.Made.{IsEditMade}
use Rattle.sudoers_edit.proofs.DraftLemmas.{second_swap_replaces_swapped_line, swap_before_changes_replaces_line, take_before_changes_removes_line, line_before_changes_is_unchanged, order_of_changes_holds_from_lower_number, swapped_line_is_its_new_text}
use Rattle.sudoers_edit.proofs.PolicyLemmas.{found_line_is_line_at_index, texts_are_as_many_as_lines}
use Rattle.sudoers_edit.proofs.PruneGoes.{edit_of_found_file_edits_its_lines}
use Rattle.sudoers_edit.proofs.PruneLists.{line_of_file_implies_present_file}
use Rattle.sudoers_edit.proofs.PrunePlaces.{file_with_line_is_below_count}
use Rattle.sudoers_edit.proofs.UndoneLemmas.{ordered_changes_start_by_count}

abbrev pub LeadlessLineCanBeRemoved : Type 0
LeadlessLineCanBeRemoved = (policy : LoadedPolicy) (f n : ℕ) (line : Line) → policy_or_load_fault (named_files_of_policy policy) ≡ Ok policy
    → is_file_on_walk policy.walk f ≡ true → slice_get (lines_of_numbered_file policy.files f) n ≡ Some line → ((name : List ℕ) → lead_of_parsed_line name line.node ≡ None)
    → CanRemoveLine f n policy

abbrev pub CutDefinitionCanBeRemoved : Type 0
CutDefinitionCanBeRemoved = (policy : LoadedPolicy) (f n at : ℕ) (line : Line) (text splice : List ℕ) → policy_or_load_fault (named_files_of_policy policy) ≡ Ok policy
    → is_file_on_walk policy.walk f ≡ true → slice_get (lines_of_numbered_file policy.files f) n ≡ Some line → IsDefinitionCut n at (lines_of_numbered_file policy.files f) line text splice
    → CanRemoveDefinition f n at policy text splice

abbrev pub LoadedLineReadsAsItsNode : Type 0
LoadedLineReadsAsItsNode = (policy : LoadedPolicy) (f n : ℕ) (line : Line) → policy_or_load_fault (named_files_of_policy policy) ≡ Ok policy → slice_get (lines_of_numbered_file policy.files f) n ≡ Some line
    → reading_of_single_line line.text ≡ Some line.node

-- ---- the changes of a file

changes_of_file_begin_with_own_change : (f : ℕ) (change : LineChange) (changes : List LineChange) → file_number_of_change change ≡ f → changes_of_file f (change ∷ changes) ≡ change ∷ changes_of_file f changes
changes_of_file_begin_with_own_change f change changes is = rw (eq-eqb (file_number_of_change change) f is) refl

changes_of_file_skip_other_change : (e : ℕ) (change : LineChange) (changes : List LineChange) → (file_number_of_change change ≡ e → ⊥) → changes_of_file e (change ∷ changes) ≡ changes_of_file e changes
changes_of_file_skip_other_change e change changes other = rw (ne_eqb (file_number_of_change change) e (λ same. absurd (other same))) refl

lowered_limit_of_file_is_its_number : (f n : ℕ) (below : ℕ → ℕ) → limits_with_limit_of_file_set f n below f ≡ n
lowered_limit_of_file_is_its_number f n below = rw (eq-eqb f f refl) refl

lowered_limit_of_other_file_is_kept : (f n e : ℕ) (below : ℕ → ℕ) → (e ≡ f → ⊥) → limits_with_limit_of_file_set f n below e ≡ below e
lowered_limit_of_other_file_is_kept f n e below other = rw (ne_eqb e f (λ same. absurd (other same))) refl

-- one change more is in order
added_change_keeps_order_in_each_file : (policy : LoadedPolicy) (f n : ℕ) (below : ℕ → ℕ) (change : LineChange) (rest changes : List LineChange) → file_number_of_change change ≡ f
    → AreChangesInOrder n (change ∷ changes_of_file f rest) (length (lines_of_numbered_file policy.files f))
    → ((e : ℕ) → (e ≡ f → ⊥) → changes_of_file e rest ≡ changes_of_file e changes)
    → ((e : ℕ) → AreChangesInOrder (below e) (changes_of_file e changes) (length (lines_of_numbered_file policy.files e)))
    → (e : ℕ) → AreChangesInOrder (limits_with_limit_of_file_set f n below e) (changes_of_file e (change ∷ rest)) (length (lines_of_numbered_file policy.files e))
added_change_keeps_order_in_each_file policy f n below change rest changes own here others order e = by (e == f) refl
  where
    by : (b : Bool) → (e == f) ≡ b → AreChangesInOrder (limits_with_limit_of_file_set f n below e) (changes_of_file e (change ∷ rest)) (length (lines_of_numbered_file policy.files e))
    by true is =
        let same : f ≡ e = sym (eqb-true e f is) in
        subst (λ e. AreChangesInOrder (limits_with_limit_of_file_set f n below e) (changes_of_file e (change ∷ rest)) (length (lines_of_numbered_file policy.files e))) same
        (subst (λ m. AreChangesInOrder m (changes_of_file f (change ∷ rest)) (length (lines_of_numbered_file policy.files f))) (sym (lowered_limit_of_file_is_its_number f n below))
        (subst (λ cs. AreChangesInOrder n cs (length (lines_of_numbered_file policy.files f))) (sym (changes_of_file_begin_with_own_change f change rest own)) here))
    by false is =
        let other : e ≡ f → ⊥ = eqb-false e f is in
        subst (λ m. AreChangesInOrder m (changes_of_file e (change ∷ rest)) (length (lines_of_numbered_file policy.files e))) (sym (lowered_limit_of_other_file_is_kept f n e below other))
        (subst (λ cs. AreChangesInOrder (below e) cs (length (lines_of_numbered_file policy.files e)))
        (sym (changes_of_file_skip_other_change e change rest (λ same. other (sym same ∙ own)) ∙ others e other)) (order e))

-- what one change more makes of the files
added_change_makes_lines_of_each_file : (policy now next : LoadedPolicy) (f : ℕ) (change : LineChange) (rest changes : List LineChange) → file_number_of_change change ≡ f
    → texts_of_lines (lines_of_numbered_file next.files f) ≡ lines_after_changes (change ∷ changes_of_file f rest) (texts_of_lines (lines_of_numbered_file policy.files f))
    → ((e : ℕ) → (e ≡ f → ⊥) → lines_of_numbered_file next.files e ≡ lines_of_numbered_file now.files e)
    → ((e : ℕ) → (e ≡ f → ⊥) → changes_of_file e rest ≡ changes_of_file e changes)
    → ((e : ℕ) → texts_of_lines (lines_of_numbered_file now.files e) ≡ lines_after_changes (changes_of_file e changes) (texts_of_lines (lines_of_numbered_file policy.files e)))
    → (e : ℕ) → texts_of_lines (lines_of_numbered_file next.files e) ≡ lines_after_changes (changes_of_file e (change ∷ rest)) (texts_of_lines (lines_of_numbered_file policy.files e))
added_change_makes_lines_of_each_file policy now next f change rest changes own here there others made e = by (e == f) refl
  where
    by : (b : Bool) → (e == f) ≡ b → texts_of_lines (lines_of_numbered_file next.files e) ≡ lines_after_changes (changes_of_file e (change ∷ rest)) (texts_of_lines (lines_of_numbered_file policy.files e))
    by true is =
        let same : f ≡ e = sym (eqb-true e f is) in
        subst (λ e. texts_of_lines (lines_of_numbered_file next.files e) ≡ lines_after_changes (changes_of_file e (change ∷ rest)) (texts_of_lines (lines_of_numbered_file policy.files e))) same
        (here ∙ ap (λ cs. lines_after_changes cs (texts_of_lines (lines_of_numbered_file policy.files f))) (sym (changes_of_file_begin_with_own_change f change rest own)))
    by false is =
        let other : e ≡ f → ⊥ = eqb-false e f is in
        ap texts_of_lines (there e other) ∙ made e
        ∙ ap (λ cs. lines_after_changes cs (texts_of_lines (lines_of_numbered_file policy.files e))) (sym (changes_of_file_skip_other_change e change rest (λ same. other (sym same ∙ own)) ∙ others e other))

-- ---- lines

order_of_changes_holds_for_text_count : (n : ℕ) (changes : List LineChange) (lines : List Line) → AreChangesInOrder n changes (length lines) → AreChangesInOrder n changes (length (texts_of_lines lines))
order_of_changes_holds_for_text_count n changes lines order = subst (AreChangesInOrder n changes) (sym (texts_are_as_many_as_lines lines)) order

text_of_lines_has_its_line : (lines : List Line) (n : ℕ) (text : List ℕ) → slice_get (texts_of_lines lines) n ≡ Some text → (line : Line) × (slice_get lines n ≡ Some line) × (line.text ≡ text)
text_of_lines_has_its_line [] n text is = absurd (cc)
text_of_lines_has_its_line (line ∷ lines) zero text is = (line, refl, cc)
text_of_lines_has_its_line (line ∷ lines) (suc n) text is = text_of_lines_has_its_line lines n text is

numbered_line_has_its_text : (lines : List Line) (n : ℕ) (line : Line) → slice_get lines n ≡ Some line → slice_get (texts_of_lines lines) n ≡ Some line.text
numbered_line_has_its_text [] n line is = absurd (cc)
numbered_line_has_its_text (first ∷ lines) zero line is = let same : first ≡ line = cc in ap (λ (l : Line). Some l.text) same
numbered_line_has_its_text (first ∷ lines) (suc n) line is = numbered_line_has_its_text lines n line is

pub file_on_walk_is_on_equal_walk : (policy now : LoadedPolicy) (f : ℕ) → now.walk.on ≡ policy.walk.on → is_file_on_walk policy.walk f ≡ true → is_file_on_walk now.walk f ≡ true
file_on_walk_is_on_equal_walk policy now f same on = ap (list_any (nat_eq f)) same ∙ on

-- ---- a line

pub allowed_line_removal_is_made : NoChangesLaw → FirstChangeLaw → LeadlessLineCanBeRemoved → LoadedLineReadsAsItsNode → (policy now : LoadedPolicy) (changes : List LineChange) (f at : ℕ) (below : ℕ → ℕ) (cut : ℕ → ℕ → Bool)
    (text : List ℕ) → policy_or_load_fault (named_files_of_policy policy) ≡ Ok policy → IsResultOfChanges policy changes now → LeavesLinesBelowLimitsUnchanged policy below cut changes → at < below f → IsAliasLineOnWalk policy f at
    → slice_get (texts_of_lines (lines_of_numbered_file policy.files f)) at ≡ Some text → IsRemovalMade policy (removal.Line f at) below now (Take f at ∷ changes) (Insert f at text)
allowed_line_removal_is_made none first line_law said_law policy now changes f at below cut text loaded draft ready may alias here = record {
  next = goes.next;
  draft =
      record {
        loaded = goes.left.loaded;
        names = goes.left.names ∙ draft.names;
        made = added_change_makes_lines_of_each_file policy now goes.next f (Take f at) changes changes refl
            (goes.left.here ∙ ap (λ (ls : LineTexts). remove ls at) (draft.made f) ∙ sym (take_before_changes_removes_line none first f at own lines order)) goes.left.there (λ e other. refl) draft.made;
        on = goes.left.on ∙ draft.on;
        inside = (file_with_line_is_below_count policy.files f at alias.line alias.here, draft.inside);
        whole = draft.whole;
      };
  ready =
      record {
        order = added_change_keeps_order_in_each_file policy f at below (Take f at) changes changes refl (omega arith, later) (λ e other. refl) ready.order;
        last = λ e m is. absurd (cc);
      };
  made = subst (λ (t : List ℕ). IsEditMade (Delete f at) (Insert f at t ∷ []) now goes.next) same goes.made;
}
  where
    lines : LineTexts
    lines = texts_of_lines (lines_of_numbered_file policy.files f)

    own : List LineChange
    own = changes_of_file f changes

    later : AreChangesInOrder (at + 1) own (length (lines_of_numbered_file policy.files f))
    later = order_of_changes_holds_from_lower_number (at + 1) (below f) own (length (lines_of_numbered_file policy.files f)) (omega (arith, may)) (ready.order f)

    order : AreChangesInOrder (at + 1) own (length lines)
    order = order_of_changes_holds_for_text_count (at + 1) own (lines_of_numbered_file policy.files f) later

    there : slice_get (texts_of_lines (lines_of_numbered_file now.files f)) at ≡ Some text
    there = ap (λ (ls : LineTexts). slice_get ls at) (draft.made f) ∙ line_before_changes_is_unchanged none first at own lines order ∙ here

    line : (line : Line) × (slice_get (lines_of_numbered_file now.files f) at ≡ Some line) × (line.text ≡ text)
    line = text_of_lines_has_its_line (lines_of_numbered_file now.files f) at text there

    text_is : alias.line.text ≡ line.0.text
    text_is =
        let both : Some alias.line.text ≡ Some text = sym (numbered_line_has_its_text (lines_of_numbered_file policy.files f) at alias.line alias.here) ∙ here in
        let one : alias.line.text ≡ text = cc in
        one ∙ sym line.2

    makes : line.0.node ≡ node.Alias alias.kind alias.defs
    makes =
        let both : Some line.0.node ≡ Some alias.line.node =
        sym (said_law now f at line.0 draft.loaded line.1) ∙ ap reading_of_single_line (sym text_is) ∙ said_law policy f at alias.line loaded alias.here in
        let one : line.0.node ≡ alias.line.node = cc in
        one ∙ alias.makes

    goes : CanRemoveLine f at now
    goes = line_law now f at line.0 draft.loaded (file_on_walk_is_on_equal_walk policy now f draft.on alias.on) line.1 (λ name. ap (lead_of_parsed_line name) makes)

    same : line_text_in_file f at now ≡ text
    same = found_line_is_line_at_index (texts_of_lines (lines_of_numbered_file now.files f)) at text [] there

-- a line that may go is there
pub removable_alias_line_is_present : (policy : LoadedPolicy) (f at : ℕ) → IsAliasLineOnWalk policy f at → slice_get (texts_of_lines (lines_of_numbered_file policy.files f)) at ≡ None → ⊥
removable_alias_line_is_present policy f at alias is =
    let both : Some alias.line.text ≡ None = sym (numbered_line_has_its_text (lines_of_numbered_file policy.files f) at alias.line alias.here) ∙ is in
    cc

-- ---- a definition

-- The line with this number of the file has this text in the draft. What replaces it makes the lines of the draft with that line replaced.
pub record HasTextInDraft (policy now : LoadedPolicy) (changes : List LineChange) (f n : ℕ) (text : List ℕ) : Type 0 where
  pub order : AreChangesInOrder (n + 1) (changes_of_file f (changes_without_first_if_it_replaces_line f n changes)) (length (lines_of_numbered_file policy.files f))
  pub others : (e : ℕ) → (e ≡ f → ⊥) → changes_of_file e (changes_without_first_if_it_replaces_line f n changes) ≡ changes_of_file e changes
  pub inside : AllByRecursion (λ (change : LineChange). file_number_of_change change < length policy.files) (changes_without_first_if_it_replaces_line f n changes)
  pub whole : AllByRecursion IsLogicalLine (texts_of_changes (changes_without_first_if_it_replaces_line f n changes))
  pub line : Line
  pub here : slice_get (lines_of_numbered_file now.files f) n ≡ Some line
  pub says : line.text ≡ text
  pub made : (other : List ℕ) → lines_after_changes (Swap f n other ∷ changes_of_file f (changes_without_first_if_it_replaces_line f n changes)) (texts_of_lines (lines_of_numbered_file policy.files f))
      ≡ lines_with_one_replaced n other (texts_of_lines (lines_of_numbered_file now.files f))

-- a line that no change replaces
unchanged_line_has_text_in_draft : NoChangesLaw → FirstChangeLaw → (policy now : LoadedPolicy) (changes : List LineChange) (f n : ℕ) (below : ℕ → ℕ) (cut : ℕ → ℕ → Bool) (text : List ℕ)
    → IsResultOfChanges policy changes now → LeavesLinesBelowLimitsUnchanged policy below cut changes → n < below f → slice_get (texts_of_lines (lines_of_numbered_file policy.files f)) n ≡ Some text
    → changes_without_first_if_it_replaces_line f n changes ≡ changes → HasTextInDraft policy now changes f n text
unchanged_line_has_text_in_draft none first policy now changes f n below cut text draft ready under here all =
    let lines : LineTexts = texts_of_lines (lines_of_numbered_file policy.files f) in
    let own : List LineChange = changes_of_file f changes in
    let later : AreChangesInOrder (n + 1) own (length (lines_of_numbered_file policy.files f)) =
    order_of_changes_holds_from_lower_number (n + 1) (below f) own (length (lines_of_numbered_file policy.files f)) (omega (arith, under)) (ready.order f) in
    let order : AreChangesInOrder (n + 1) own (length lines) = order_of_changes_holds_for_text_count (n + 1) own (lines_of_numbered_file policy.files f) later in
    let line = text_of_lines_has_its_line (lines_of_numbered_file now.files f) n text (ap (λ (ls : LineTexts). slice_get ls n) (draft.made f) ∙ line_before_changes_is_unchanged none first n own lines order ∙ here) in
    record {
      order = subst (λ cs. AreChangesInOrder (n + 1) (changes_of_file f cs) (length (lines_of_numbered_file policy.files f))) (sym all) later;
      others = λ e other. ap (changes_of_file e) all;
      inside = subst (AllByRecursion (λ (change : LineChange). file_number_of_change change < length policy.files)) (sym all) draft.inside;
      whole = subst (λ cs. AllByRecursion IsLogicalLine (texts_of_changes cs)) (sym all) draft.whole;
      line = line.0;
      here = line.1;
      says = line.2;
      made = λ other.
          ap (λ cs. lines_after_changes (Swap f n other ∷ changes_of_file f cs) lines) all ∙ swap_before_changes_replaces_line none first f n other own lines order
          ∙ ap (lines_with_one_replaced n other) (sym (draft.made f));
    }

equal_line_number_is_below_other_count : (ls ms : LineTexts) (n : ℕ) → n < length ls → slice_get ls n ≡ slice_get ms n → n < length ms
equal_line_number_is_below_other_count ls ms n less same = by (slice_get ls n) refl
  where
    there : (ls : LineTexts) (n : ℕ) → n < length ls → slice_get ls n ≡ None → ⊥
    there [] n less is = omega (arith, less)
    there (l ∷ ls) zero less is = cc
    there (l ∷ ls) (suc n) less is = there ls n (omega (arith, less)) is

    by : (o : Option (List ℕ)) → slice_get ls n ≡ o → n < length ms
    by None is = absurd (there ls n less is)
    by (Some text) is = slice_get_within ms n text (sym same ∙ is)

-- one that the first change replaces
swapped_line_has_text_in_draft : NoChangesLaw → FirstChangeLaw → (policy now : LoadedPolicy) (rest : List LineChange) (f n : ℕ) (below : ℕ → ℕ) (cut : ℕ → ℕ → Bool) (text : List ℕ)
    → IsResultOfChanges policy (Swap f n text ∷ rest) now → LeavesLinesBelowLimitsUnchanged policy below cut (Swap f n text ∷ rest) → changes_without_first_if_it_replaces_line f n (Swap f n text ∷ rest) ≡ rest
    → HasTextInDraft policy now (Swap f n text ∷ rest) f n text
swapped_line_has_text_in_draft none first policy now rest f n below cut text draft ready less =
    let lines : LineTexts = texts_of_lines (lines_of_numbered_file policy.files f) in
    let own : List LineChange = changes_of_file f rest in
    let both : changes_of_file f (Swap f n text ∷ rest) ≡ Swap f n text ∷ own = changes_of_file_begin_with_own_change f (Swap f n text) rest refl in
    let whole : AreChangesInOrder (below f) (Swap f n text ∷ own) (length (lines_of_numbered_file policy.files f)) =
    subst (λ cs. AreChangesInOrder (below f) cs (length (lines_of_numbered_file policy.files f))) both (ready.order f) in
    let order : AreChangesInOrder (n + 1) own (length lines) = order_of_changes_holds_for_text_count (n + 1) own (lines_of_numbered_file policy.files f) whole.1 in
    let inside : n < length lines = omega (arith, ordered_changes_start_by_count (n + 1) own (length lines) order) in
    let there = swapped_line_is_its_new_text none first f n text own lines order (equal_line_number_is_below_other_count lines (lines_after_changes own lines) n inside (sym (line_before_changes_is_unchanged none first n own lines order))) in
    let made : texts_of_lines (lines_of_numbered_file now.files f) ≡ lines_after_changes (Swap f n text ∷ own) lines = draft.made f ∙ ap (λ cs. lines_after_changes cs lines) both in
    let line = text_of_lines_has_its_line (lines_of_numbered_file now.files f) n text (ap (λ (ls : LineTexts). slice_get ls n) made ∙ there) in
    record {
      order = subst (λ cs. AreChangesInOrder (n + 1) (changes_of_file f cs) (length (lines_of_numbered_file policy.files f))) (sym less) whole.1;
      others = λ e other. ap (changes_of_file e) less ∙ sym (changes_of_file_skip_other_change e (Swap f n text) rest (λ same. other (sym same)));
      inside = subst (AllByRecursion (λ (change : LineChange). file_number_of_change change < length policy.files)) (sym less) draft.inside.1;
      whole = subst (λ cs. AllByRecursion IsLogicalLine (texts_of_changes cs)) (sym less) draft.whole.1;
      line = line.0;
      here = line.1;
      says = line.2;
      made = λ other.
          ap (λ cs. lines_after_changes (Swap f n other ∷ changes_of_file f cs) lines) less ∙ second_swap_replaces_swapped_line none first f n f other text own lines order
          ∙ ap (lines_with_one_replaced n other) (sym made);
    }

-- the line so far, whatever the first change is
pub removable_line_has_text_in_draft : NoChangesLaw → FirstChangeLaw → (policy now : LoadedPolicy) (changes : List LineChange) (f n : ℕ) (below : ℕ → ℕ) (cut : ℕ → ℕ → Bool) (text : List ℕ)
    → IsResultOfChanges policy changes now → LeavesLinesBelowLimitsUnchanged policy below cut changes → (n < below f) ⊎ (cut f n ≡ true)
    → option_or (replacement_text_by_first_change f n changes) (slice_get (texts_of_lines (lines_of_numbered_file policy.files f)) n) ≡ Some text → HasTextInDraft policy now changes f n text
removable_line_has_text_in_draft none first policy now changes f n below cut text draft ready may is = by_may may
  where
    by_first : (cs : List LineChange) → IsResultOfChanges policy cs now → LeavesLinesBelowLimitsUnchanged policy below cut cs → (n < below f) ⊎ BeginsWithReplacementOfLine f n cs
        → option_or (replacement_text_by_first_change f n cs) (slice_get (texts_of_lines (lines_of_numbered_file policy.files f)) n) ≡ Some text → HasTextInDraft policy now cs f n text
    by_first [] d r (inl under) told = unchanged_line_has_text_in_draft none first policy now [] f n below cut text d r under told refl
    by_first [] d r (inr same) told = absurd same
    by_first (Put file at other ∷ cs) d r (inl under) told = unchanged_line_has_text_in_draft none first policy now (Put file at other ∷ cs) f n below cut text d r under told refl
    by_first (Put file at other ∷ cs) d r (inr same) told = absurd same
    by_first (Take file at ∷ cs) d r (inl under) told = unchanged_line_has_text_in_draft none first policy now (Take file at ∷ cs) f n below cut text d r under told refl
    by_first (Take file at ∷ cs) d r (inr same) told = absurd same
    by_first (Swap file at other ∷ cs) d r which told = by ((file == f) && (at == n)) refl told
      where
        last : LineChange → Type 0
        last change = IsResultOfChanges policy (change ∷ cs) now × LeavesLinesBelowLimitsUnchanged policy below cut (change ∷ cs)

        by_same : file ≡ f → at ≡ n → other ≡ text → HasTextInDraft policy now (Swap file at other ∷ cs) f n text
        by_same here there says =
            let one : Swap file at other ≡ Swap f n text =
            ap (λ g. Swap g at other) here ∙ ap (λ m. Swap f m other) there ∙ ap (λ t. Swap f n t) says in
            let both = subst last one (d, r) in
            subst (λ change. HasTextInDraft policy now (change ∷ cs) f n text) (sym one)
            (swapped_line_has_text_in_draft none first policy now cs f n below cut text both.0 both.1 (rw (eq-eqb f f refl, eq-eqb n n refl) refl))

        by : (b : Bool) → ((file == f) && (at == n)) ≡ b
            → option_or (if b then Some other else None) (slice_get (texts_of_lines (lines_of_numbered_file policy.files f)) n) ≡ Some text → HasTextInDraft policy now (Swap file at other ∷ cs) f n text
        by true same told =
            let parts = and_parts (file == f) (at == n) same in
            let says : other ≡ text = cc in
            by_same (eqb-true file f parts.0) (eqb-true at n parts.1) says
        by false differ told = by_which which
          where
            by_which : (n < below f) ⊎ ((file ≡ f) × (at ≡ n)) → HasTextInDraft policy now (Swap file at other ∷ cs) f n text
            by_which (inl under) = unchanged_line_has_text_in_draft none first policy now (Swap file at other ∷ cs) f n below cut text d r under told (rw differ refl)
            by_which (inr same) =
                let test : ((file == f) && (at == n)) ≡ true = rw (eq-eqb file f same.0, eq-eqb at n same.1) refl in
                let both : true ≡ false = sym test ∙ differ in
                absurd cc

    by_may : (n < below f) ⊎ (cut f n ≡ true) → HasTextInDraft policy now changes f n text
    by_may (inl under) = by_first changes draft ready (inl under) is
    by_may (inr last) = by_first changes draft ready (inr (ready.last f n last)) is

pub allowed_definition_removal_is_made : CutDefinitionCanBeRemoved → (policy now : LoadedPolicy) (changes : List LineChange) (f n at : ℕ) (below : ℕ → ℕ) (cut : ℕ → ℕ → Bool) (old text splice : List ℕ)
    → IsResultOfChanges policy changes now → LeavesLinesBelowLimitsUnchanged policy below cut changes → IsAliasLineOnWalk policy f n → (d : HasTextInDraft policy now changes f n old)
    → IsDefinitionCut n at (lines_of_numbered_file now.files f) d.line text splice
    → IsRemovalMade policy (removal.Def f n at) below now (Swap f n text ∷ changes_without_first_if_it_replaces_line f n changes) (AddDef f n at splice)
allowed_definition_removal_is_made def_law policy now changes f n at below cut old text splice draft ready alias d gone =
    let goes : CanRemoveDefinition f n at now text splice =
    def_law now f n at d.line text splice draft.loaded (file_on_walk_is_on_equal_walk policy now f draft.on alias.on) d.here gone in
    record {
      next = goes.next;
      draft =
          record {
            loaded = goes.left.loaded;
            names = goes.left.names ∙ draft.names;
            made = added_change_makes_lines_of_each_file policy now goes.next f (Swap f n text) (changes_without_first_if_it_replaces_line f n changes) changes refl (goes.left.here ∙ sym (d.made text)) goes.left.there
                d.others draft.made;
            on = goes.left.on ∙ draft.on;
            inside = (file_with_line_is_below_count policy.files f n alias.line alias.here, d.inside);
            whole = (goes.whole, d.whole);
          };
      ready =
          record {
            order = added_change_keeps_order_in_each_file policy f n below (Swap f n text) (changes_without_first_if_it_replaces_line f n changes) changes refl (omega arith, d.order) d.others ready.order;
            last = λ e m is.
                let both = and_parts (e == f) (m == n) is in
                (sym (eqb-true e f both.0), sym (eqb-true m n both.1));
          };
      made = goes.made;
    }

-- a definition that cannot be taken out
pub refused_lines_refuse_drop_def : (now : LoadedPolicy) (f n at : ℕ) (line : Line) (fault : EditFault) → slice_get (lines_of_numbered_file now.files f) n ≡ Some line
    → IsRefusalOrNoMemory fault (lines_with_definition_dropped n at (lines_of_numbered_file now.files f)) → IsRefusalOrNoMemory fault (step (DropDef f n at) now)
refused_lines_refuse_drop_def now f n at line fault here (inl none) = inl none
refused_lines_refuse_drop_def now f n at line fault here (inr is) =
    let file = line_of_file_implies_present_file now.files f n line here in
    inr (edit_of_found_file_edits_its_lines f now file.0 (lines_with_definition_dropped n at) file.1 ∙ ap (λ r. edit_result_and_then r (policy_with_file_lines now f)) is)

-- a line of which a definition may go is there
pub line_with_removable_definition_is_present : (policy : LoadedPolicy) (changes : List LineChange) (f n : ℕ) → IsAliasLineOnWalk policy f n
    → option_or (replacement_text_by_first_change f n changes) (slice_get (texts_of_lines (lines_of_numbered_file policy.files f)) n) ≡ None → ⊥
line_with_removable_definition_is_present policy changes f n alias is =
    removable_alias_line_is_present policy f n alias (no_line (replacement_text_by_first_change f n changes) (slice_get (texts_of_lines (lines_of_numbered_file policy.files f)) n) is)
  where
    no_line : (o p : Option (List ℕ)) → option_or o p ≡ None → p ≡ None
    no_line None p is = is
    no_line (Some x) p is = absurd (cc)

-- the first change alone decides
pub first_change_decides_replacement_text : (f n : ℕ) (change : LineChange) (changes : List LineChange) → replacement_text_by_first_change f n (change ∷ changes) ≡ replacement_text_by_first_change f n (change ∷ [])
first_change_decides_replacement_text f n (Put file at text) changes = refl
first_change_decides_replacement_text f n (Swap file at text) changes = refl
first_change_decides_replacement_text f n (Take file at) changes = refl
