-- What takes changes of the files of a policy back leads to the files before them.
use Rattle.sudoers_edit.proofs.Common.{AllByRecursion, AreApplicableChanges, AreFileNumbersOfChangesInOrder, AreChangesInOrder, Bool, EachIsOneLineWhenCut, FirstChangeLaw, IsLogicalLine, LineChange, LawsBehindLineEdits, LineTexts}
use Rattle.sudoers_edit.proofs.Common.{List, LoadedPolicy, NamedFile, NoChangesLaw, Ok, ParsedFile, Put, RestoreOldPolicy, Swap, Take, [], ap, append_assoc, ap₂, arith, changed_files_from_number, changes_of_file}
use Rattle.sudoers_edit.proofs.Common.{cut_outcome_of_text, drop, eq-eqb, eqb-true, false, file_names, file_number_of_change, files_after_changes, has_inner_line_without_lf, if◌then◌else◌, inl, inr}
use Rattle.sudoers_edit.proofs.Common.{inverse_of_changes_after_counts, inverse_of_changes, inverse_of_changes_in_file, inverse_of_one_change, join, length, length-append, length-map, line_limit, line_number_of_change}
use Rattle.sudoers_edit.proofs.Common.{line_texts_of_file, lines_after_changes, lines_of_numbered_file, lines_put_count_of_change, lines_taken_count_of_change, map, min_line_number_after_change}
use Rattle.sudoers_edit.proofs.Common.{named_files_of_policy, named_of, ne_eqb, policy_or_load_fault, refl, slice_index_or, subst, suc, sym, texts_of_changes, texts_of_lines, true, zero, ℕ, ◌++◌, ◌+◌, ◌<◌, ◌==◌, ◌∙◌}
use Rattle.sudoers_edit.proofs.Common.{◌∷◌, ◌≡◌, ◌≤◌, ◌⊎◌}
use Rattle.sudoers_edit.proofs.PolicyLemmas.{texts_are_as_many_as_lines}
use Rattle.sudoers_edit.proofs.LandLemmas.{lines_of_loaded_file_are_sound}
use Rattle.sudoers_edit.proofs.UndoneLemmas.{AreInverseChangesFrom, inverse_changes_undo_changes_of_lines, changed_line_is_at_most_next_line, inverse_changes_bring_logical_lines, ordered_changes_start_by_count}

-- ONE CHANGE

-- what takes a change back is of its file
inverse_change_is_of_same_file : (put taken : ℕ) (lines : LineTexts) (change : LineChange) → file_number_of_change (inverse_of_one_change put taken lines change) ≡ file_number_of_change change
inverse_change_is_of_same_file put taken lines (Put file at text) = refl
inverse_change_is_of_same_file put taken lines (Swap file at text) = refl
inverse_change_is_of_same_file put taken lines (Take file at) = refl

-- the changes of a file, of which the first is one, or is none
changes_of_file_begin_with_its_change : (f : ℕ) (change : LineChange) (changes : List LineChange) → (file_number_of_change change == f) ≡ true → changes_of_file f (change ∷ changes) ≡ change ∷ changes_of_file f changes
changes_of_file_begin_with_its_change f change changes is = ap (λ b. if b then change ∷ changes_of_file f changes else changes_of_file f changes) is

changes_of_file_skip_other_files_change : (f : ℕ) (change : LineChange) (changes : List LineChange) → (file_number_of_change change == f) ≡ false → changes_of_file f (change ∷ changes) ≡ changes_of_file f changes
changes_of_file_skip_other_files_change f change changes is = ap (λ b. if b then change ∷ changes_of_file f changes else changes_of_file f changes) is

-- what takes changes back whose first is of the last file, or of a later one
pub inverse_of_next_change_in_same_file : (files : List ParsedFile) (last put taken : ℕ) (change : LineChange) (changes : List LineChange) → (file_number_of_change change == last) ≡ true
    → inverse_of_changes_after_counts files last put taken (change ∷ changes)
    ≡ inverse_of_one_change put taken (texts_of_lines (lines_of_numbered_file files last)) change ∷ inverse_of_changes_after_counts files last (put + lines_put_count_of_change change) (taken + lines_taken_count_of_change change) changes
inverse_of_next_change_in_same_file files last put taken change changes is =
    ap (λ b. if b then inverse_of_one_change put taken (texts_of_lines (lines_of_numbered_file files last)) change ∷ inverse_of_changes_after_counts files last (put + lines_put_count_of_change change) (taken + lines_taken_count_of_change change) changes
    else inverse_of_one_change 0 0 (texts_of_lines (lines_of_numbered_file files (file_number_of_change change))) change ∷ inverse_of_changes_after_counts files (file_number_of_change change) (lines_put_count_of_change change) (lines_taken_count_of_change change) changes) is

pub inverse_of_next_change_in_later_file : (files : List ParsedFile) (last put taken : ℕ) (change : LineChange) (changes : List LineChange) → (file_number_of_change change == last) ≡ false
    → inverse_of_changes_after_counts files last put taken (change ∷ changes)
    ≡ inverse_of_one_change 0 0 (texts_of_lines (lines_of_numbered_file files (file_number_of_change change))) change ∷ inverse_of_changes_after_counts files (file_number_of_change change) (lines_put_count_of_change change) (lines_taken_count_of_change change) changes
inverse_of_next_change_in_later_file files last put taken change changes is =
    ap (λ b. if b then inverse_of_one_change put taken (texts_of_lines (lines_of_numbered_file files last)) change ∷ inverse_of_changes_after_counts files last (put + lines_put_count_of_change change) (taken + lines_taken_count_of_change change) changes
    else inverse_of_one_change 0 0 (texts_of_lines (lines_of_numbered_file files (file_number_of_change change))) change ∷ inverse_of_changes_after_counts files (file_number_of_change change) (lines_put_count_of_change change) (lines_taken_count_of_change change) changes) is

-- THE CHANGES OF EACH FILE

-- So many lines were put into the file f and taken out of it, if so many were of the last file, and no later file was changed.
record AreLineCountsOfFile (f last put taken p t : ℕ) : Type 0 where
  here : f ≡ last → (p ≡ put) × (t ≡ taken)
  later : last < f → (p ≡ 0) × (t ≡ 0)

unequal_numbers_are_distinct : (m n : ℕ) → (m == n) ≡ false → m ≡ n → ⊥
unequal_numbers_are_distinct m n is same = let t : (m == n) ≡ true = eq-eqb m n same in absurd cc

-- the changes of a file, of what takes changes back, where the first is taken back by `head`
inverse_of_file_changes_extends_rest : (files : List ParsedFile) (f p t : ℕ) (change head : LineChange) (changes rest : List LineChange)
    → file_number_of_change head ≡ file_number_of_change change → ((file_number_of_change change == f) ≡ true → head ≡ inverse_of_one_change p t (texts_of_lines (lines_of_numbered_file files f)) change)
    → ((file_number_of_change change == f) ≡ true → changes_of_file f rest ≡ inverse_of_changes_in_file (p + lines_put_count_of_change change) (t + lines_taken_count_of_change change) (texts_of_lines (lines_of_numbered_file files f)) (changes_of_file f changes))
    → ((file_number_of_change change == f) ≡ false → changes_of_file f rest ≡ inverse_of_changes_in_file p t (texts_of_lines (lines_of_numbered_file files f)) (changes_of_file f changes))
    → changes_of_file f (head ∷ rest) ≡ inverse_of_changes_in_file p t (texts_of_lines (lines_of_numbered_file files f)) (changes_of_file f (change ∷ changes))
inverse_of_file_changes_extends_rest files f p t change head changes rest same is here elsewhere = by (file_number_of_change change == f) refl
  where
    by : (b : Bool) → (file_number_of_change change == f) ≡ b
        → changes_of_file f (head ∷ rest) ≡ inverse_of_changes_in_file p t (texts_of_lines (lines_of_numbered_file files f)) (changes_of_file f (change ∷ changes))
    by true it =
        changes_of_file_begin_with_its_change f head rest (ap (λ n. n == f) same ∙ it)
        ∙ ap₂ (λ (c : LineChange) (cs : List LineChange). c ∷ cs) (is it) (here it)
        ∙ sym (ap (inverse_of_changes_in_file p t (texts_of_lines (lines_of_numbered_file files f))) (changes_of_file_begin_with_its_change f change changes it))
    by false it =
        changes_of_file_skip_other_files_change f head rest (ap (λ n. n == f) same ∙ it)
        ∙ elsewhere it
        ∙ sym (ap (inverse_of_changes_in_file p t (texts_of_lines (lines_of_numbered_file files f))) (changes_of_file_skip_other_files_change f change changes it))

inverse_since_file_restricts_to_each_file : (files : List ParsedFile) (f last put taken p t count : ℕ) (changes : List LineChange) → AreFileNumbersOfChangesInOrder last changes count → AreLineCountsOfFile f last put taken p t
    → changes_of_file f (inverse_of_changes_after_counts files last put taken changes) ≡ inverse_of_changes_in_file p t (texts_of_lines (lines_of_numbered_file files f)) (changes_of_file f changes)
inverse_since_file_restricts_to_each_file files f last put taken p t count [] go counts = refl
inverse_since_file_restricts_to_each_file files f last put taken p t count (change ∷ changes) go counts =
    by (λ last put taken p t go counts. inverse_since_file_restricts_to_each_file files f last put taken p t count changes go counts) (file_number_of_change change == last) refl
  where
    g : ℕ
    g = file_number_of_change change

    behind : (g == last) ≡ false → g ≡ f → last < f
    behind it f_is = omega (arith, unequal_numbers_are_distinct g last it, go.0, f_is)

    by : ((last put taken p t : ℕ) → AreFileNumbersOfChangesInOrder last changes count → AreLineCountsOfFile f last put taken p t
        → changes_of_file f (inverse_of_changes_after_counts files last put taken changes) ≡ inverse_of_changes_in_file p t (texts_of_lines (lines_of_numbered_file files f)) (changes_of_file f changes))
        → (b : Bool) → (g == last) ≡ b
        → changes_of_file f (inverse_of_changes_after_counts files last put taken (change ∷ changes)) ≡ inverse_of_changes_in_file p t (texts_of_lines (lines_of_numbered_file files f)) (changes_of_file f (change ∷ changes))
    by more true it =
        let same : g ≡ last = eqb-true g last it in
        let go_on : AreFileNumbersOfChangesInOrder last changes count = subst (λ n. AreFileNumbersOfChangesInOrder n changes count) same go.2 in
        ap (changes_of_file f) (inverse_of_next_change_in_same_file files last put taken change changes it)
        ∙ inverse_of_file_changes_extends_rest files f p t change (inverse_of_one_change put taken (texts_of_lines (lines_of_numbered_file files last)) change) changes
        (inverse_of_changes_after_counts files last (put + lines_put_count_of_change change) (taken + lines_taken_count_of_change change) changes)
        (inverse_change_is_of_same_file put taken (texts_of_lines (lines_of_numbered_file files last)) change)
        (λ is. let f_is : f ≡ last = sym (eqb-true g f is) ∙ same in let are = counts.here f_is in
        ap₂ (λ (i j : ℕ). inverse_of_one_change i j (texts_of_lines (lines_of_numbered_file files last)) change) (sym are.0) (sym are.1)
        ∙ ap (λ n. inverse_of_one_change p t (texts_of_lines (lines_of_numbered_file files n)) change) (sym f_is))
        (λ is. let f_is : f ≡ last = sym (eqb-true g f is) ∙ same in let are = counts.here f_is in
        more last (put + lines_put_count_of_change change) (taken + lines_taken_count_of_change change) (p + lines_put_count_of_change change) (t + lines_taken_count_of_change change) go_on
        (record { here = λ at. (ap (λ n. n + lines_put_count_of_change change) are.0, ap (λ n. n + lines_taken_count_of_change change) are.1); later = λ less. absurd (omega (arith, less, f_is)) }))
        (λ is. more last (put + lines_put_count_of_change change) (taken + lines_taken_count_of_change change) p t go_on
        (record { here = λ at. absurd (unequal_numbers_are_distinct g f is (same ∙ sym at)); later = counts.later }))
    by more false it =
        ap (changes_of_file f) (inverse_of_next_change_in_later_file files last put taken change changes it)
        ∙ inverse_of_file_changes_extends_rest files f p t change (inverse_of_one_change 0 0 (texts_of_lines (lines_of_numbered_file files g)) change) changes
        (inverse_of_changes_after_counts files g (lines_put_count_of_change change) (lines_taken_count_of_change change) changes)
        (inverse_change_is_of_same_file 0 0 (texts_of_lines (lines_of_numbered_file files g)) change)
        (λ is. let f_is : g ≡ f = eqb-true g f is in let are = counts.later (behind it f_is) in
        ap₂ (λ (i j : ℕ). inverse_of_one_change i j (texts_of_lines (lines_of_numbered_file files g)) change) (sym are.0) (sym are.1)
        ∙ ap (λ n. inverse_of_one_change p t (texts_of_lines (lines_of_numbered_file files n)) change) f_is)
        (λ is. let f_is : g ≡ f = eqb-true g f is in let are = counts.later (behind it f_is) in
        more g (lines_put_count_of_change change) (lines_taken_count_of_change change) (p + lines_put_count_of_change change) (t + lines_taken_count_of_change change) go.2
        (record { here = λ at. (omega (arith, are.0), omega (arith, are.1)); later = λ less. absurd (omega (arith, less, f_is)) }))
        (λ is. more g (lines_put_count_of_change change) (lines_taken_count_of_change change) p t go.2
        (record { here = λ at. absurd (unequal_numbers_are_distinct g f is (sym at)); later = λ less. counts.later (omega (arith, less, go.0)) }))

-- What takes changes back takes those of each file back.
pub inverse_of_changes_restricts_to_each_file : (files : List ParsedFile) (f : ℕ) (changes : List LineChange) → AreFileNumbersOfChangesInOrder 0 changes (length files)
    → changes_of_file f (inverse_of_changes files changes) ≡ inverse_of_changes_in_file 0 0 (texts_of_lines (lines_of_numbered_file files f)) (changes_of_file f changes)
inverse_of_changes_restricts_to_each_file files f changes go = inverse_since_file_restricts_to_each_file files f 0 0 0 0 0 (length files) changes go (record { here = λ at. (refl, refl); later = λ less. (refl, refl) })

-- it goes by the files as they do
inverse_changes_keep_file_order : (files : List ParsedFile) (n last put taken count : ℕ) (changes : List LineChange) → AreFileNumbersOfChangesInOrder n changes count
    → AreFileNumbersOfChangesInOrder n (inverse_of_changes_after_counts files last put taken changes) count
inverse_changes_keep_file_order files n last put taken count [] go = tt
inverse_changes_keep_file_order files n last put taken count (change ∷ changes) go =
    by (λ last put taken. inverse_changes_keep_file_order files (file_number_of_change change) last put taken count changes go.2) (file_number_of_change change == last) refl
  where
    g : ℕ
    g = file_number_of_change change

    goes : (head : LineChange) (rest : List LineChange) → file_number_of_change head ≡ g → AreFileNumbersOfChangesInOrder g rest count → AreFileNumbersOfChangesInOrder n (head ∷ rest) count
    goes head rest same more = (omega (arith, same, go.0), omega (arith, same, go.1), subst (λ m. AreFileNumbersOfChangesInOrder m rest count) (sym same) more)

    by : ((last put taken : ℕ) → AreFileNumbersOfChangesInOrder g (inverse_of_changes_after_counts files last put taken changes) count) → (b : Bool) → (g == last) ≡ b → AreFileNumbersOfChangesInOrder n (inverse_of_changes_after_counts files last put taken (change ∷ changes)) count
    by more true it =
        subst (λ cs. AreFileNumbersOfChangesInOrder n cs count) (sym (inverse_of_next_change_in_same_file files last put taken change changes it))
        (goes (inverse_of_one_change put taken (texts_of_lines (lines_of_numbered_file files last)) change) (inverse_of_changes_after_counts files last (put + lines_put_count_of_change change) (taken + lines_taken_count_of_change change) changes)
        (inverse_change_is_of_same_file put taken (texts_of_lines (lines_of_numbered_file files last)) change)
        (more last (put + lines_put_count_of_change change) (taken + lines_taken_count_of_change change)))
    by more false it =
        subst (λ cs. AreFileNumbersOfChangesInOrder n cs count) (sym (inverse_of_next_change_in_later_file files last put taken change changes it))
        (goes (inverse_of_one_change 0 0 (texts_of_lines (lines_of_numbered_file files g)) change) (inverse_of_changes_after_counts files g (lines_put_count_of_change change) (lines_taken_count_of_change change) changes)
        (inverse_change_is_of_same_file 0 0 (texts_of_lines (lines_of_numbered_file files g)) change)
        (more g (lines_put_count_of_change change) (lines_taken_count_of_change change)))

-- THE TEXTS

abbrev BringLogicalLines : List LineChange → Type 0
BringLogicalLines changes = AllByRecursion IsLogicalLine (texts_of_changes changes)

logical_lines_of_changes_are_joined : (change : LineChange) (changes others : List LineChange) → BringLogicalLines (change ∷ others) → BringLogicalLines changes → BringLogicalLines (change ∷ changes)
logical_lines_of_changes_are_joined (Put file at text) changes others whole more = (whole.0, more)
logical_lines_of_changes_are_joined (Swap file at text) changes others whole more = (whole.0, more)
logical_lines_of_changes_are_joined (Take file at) changes others whole more = more

logical_lines_of_changes_imply_rest : (change : LineChange) (changes : List LineChange) → BringLogicalLines (change ∷ changes) → BringLogicalLines changes
logical_lines_of_changes_imply_rest (Put file at text) changes whole = whole.1
logical_lines_of_changes_imply_rest (Swap file at text) changes whole = whole.1
logical_lines_of_changes_imply_rest (Take file at) changes whole = whole

-- if those of each file bring logical lines, all do
logical_lines_in_each_file_imply_all : (changes : List LineChange) → ((f : ℕ) → BringLogicalLines (changes_of_file f changes)) → BringLogicalLines changes
logical_lines_in_each_file_imply_all [] each = tt
logical_lines_in_each_file_imply_all (change ∷ changes) each =
    let g = file_number_of_change change in
    logical_lines_of_changes_are_joined change changes (changes_of_file g changes) (subst BringLogicalLines (changes_of_file_begin_with_its_change g change changes (eq-eqb g g refl)) (each g)) (logical_lines_in_each_file_imply_all changes behind)
  where
    behind : (f : ℕ) → BringLogicalLines (changes_of_file f changes)
    behind f = by (file_number_of_change change == f) refl
      where
        by : (b : Bool) → (file_number_of_change change == f) ≡ b → BringLogicalLines (changes_of_file f changes)
        by true is = logical_lines_of_changes_imply_rest change (changes_of_file f changes) (subst BringLogicalLines (changes_of_file_begin_with_its_change f change changes is) (each f))
        by false is = subst BringLogicalLines (changes_of_file_skip_other_files_change f change changes is) (each f)

-- THE FILES THAT THEY MAKE

-- the files of these names and lines
changed_files_have_given_names_and_lines : (g : ℕ) (changes : List LineChange) (news olds : List ParsedFile) → file_names news ≡ file_names olds
    → ((i : ℕ) → lines_after_changes (changes_of_file (g + i) changes) (texts_of_lines (lines_of_numbered_file news i)) ≡ texts_of_lines (lines_of_numbered_file olds i))
    → changed_files_from_number g changes news ≡ map named_of olds
changed_files_have_given_names_and_lines g changes [] [] names lines = refl
changed_files_have_given_names_and_lines g changes [] (old ∷ olds) names lines = absurd cc
changed_files_have_given_names_and_lines g changes (new ∷ news) [] names lines = absurd cc
changed_files_have_given_names_and_lines g changes (new ∷ news) (old ∷ olds) names lines =
    let name : new.name ≡ old.name = cc in
    let more : file_names news ≡ file_names olds = cc in
    ap₂ (λ (file : NamedFile) (files : List NamedFile). file ∷ files)
    (ap₂ (λ (name bytes : List ℕ). record { name = name; bytes = bytes }) name
    (ap join (ap (λ n. lines_after_changes (changes_of_file n changes) (texts_of_lines new.lines)) (omega arith) ∙ lines 0)))
    (changed_files_have_given_names_and_lines (g + 1) changes news olds more
    (λ i. ap (λ n. lines_after_changes (changes_of_file n changes) (texts_of_lines (lines_of_numbered_file news i))) (omega arith) ∙ lines (suc i)))

files_of_equal_names_are_as_many : (news olds : List ParsedFile) → file_names news ≡ file_names olds → length news ≡ length olds
files_of_equal_names_are_as_many news olds names = sym (length-map news (λ (file : ParsedFile). file.name)) ∙ ap length names ∙ length-map olds (λ (file : ParsedFile). file.name)

-- what the laws say of changed files, and of changes one after another
pub record ChangeReversalLaws : Type 0 where
  pub land : LawsBehindLineEdits
  pub names : (changes : List LineChange) (old new : LoadedPolicy) → policy_or_load_fault (files_after_changes changes old.files) ≡ Ok new → file_names new.files ≡ file_names old.files
  pub none : NoChangesLaw
  pub first : FirstChangeLaw

-- What takes changes of the files of a policy back leads from the files that they make to those of the policy.
pub inverse_of_changes_restores_old_policy : ChangeReversalLaws → (policy new : LoadedPolicy) (changes : List LineChange) → policy_or_load_fault (named_files_of_policy policy) ≡ Ok policy → AreApplicableChanges changes policy.files
    → policy_or_load_fault (files_after_changes changes policy.files) ≡ Ok new → RestoreOldPolicy (inverse_of_changes policy.files changes) new policy
inverse_of_changes_restores_old_policy laws policy new changes loaded can is = record {
  can = record {
    by_files = subst (AreFileNumbersOfChangesInOrder 0 back) (sym (files_of_equal_names_are_as_many new.files policy.files names)) (inverse_changes_keep_file_order policy.files 0 0 0 0 (length policy.files) changes can.by_files);
    order = λ f. subst (λ cs. AreChangesInOrder 0 cs (length (lines_of_numbered_file new.files f))) (sym (of f)) (subst (AreChangesInOrder 0 (back_of f)) (count f) (there f).order);
    lines = logical_lines_in_each_file_imply_all back (λ f. subst BringLogicalLines (sym (of f))
        (inverse_changes_bring_logical_lines 0 0 0 (line_texts_of_file policy f) (lines_of_loaded_file_are_sound laws.land policy loaded f).whole (changes_of_file f changes) (in_order f)));
    ended = λ f. ap has_inner_line_without_lf (made f) ∙ (lines_of_loaded_file_are_sound laws.land policy loaded f).ended;
  };
  made = changed_files_have_given_names_and_lines 0 back new.files policy.files names
      (λ i. ap (λ n. lines_after_changes (changes_of_file n back) (texts_of_lines (lines_of_numbered_file new.files i))) (omega arith) ∙ made i);
  loaded = loaded;
}
  where
    back : List LineChange
    back = inverse_of_changes policy.files changes

    back_of : ℕ → List LineChange
    back_of f = inverse_of_changes_in_file 0 0 (line_texts_of_file policy f) (changes_of_file f changes)

    names : file_names new.files ≡ file_names policy.files
    names = laws.names changes policy new is

    lines : (f : ℕ) → texts_of_lines (lines_of_numbered_file new.files f) ≡ lines_after_changes (changes_of_file f changes) (line_texts_of_file policy f)
    lines = laws.land.lines changes policy new loaded can is

    in_order : (f : ℕ) → AreChangesInOrder 0 (changes_of_file f changes) (length (line_texts_of_file policy f))
    in_order f = subst (AreChangesInOrder 0 (changes_of_file f changes)) (sym (texts_are_as_many_as_lines (lines_of_numbered_file policy.files f))) (can.order f)

    there : (f : ℕ) → AreInverseChangesFrom 0 0 (line_texts_of_file policy f) (changes_of_file f changes) (back_of f)
    there f = inverse_changes_undo_changes_of_lines laws.none laws.first (line_texts_of_file policy f) (changes_of_file f changes) (in_order f)

    of : (f : ℕ) → changes_of_file f back ≡ back_of f
    of f = inverse_of_changes_restricts_to_each_file policy.files f changes can.by_files

    count : (f : ℕ) → 0 + length (lines_after_changes (changes_of_file f changes) (line_texts_of_file policy f)) ≡ length (lines_of_numbered_file new.files f)
    count f = omega (arith, ap length (lines f), texts_are_as_many_as_lines (lines_of_numbered_file new.files f))

    made : (f : ℕ) → lines_after_changes (changes_of_file f back) (texts_of_lines (lines_of_numbered_file new.files f)) ≡ line_texts_of_file policy f
    made f = ap₂ (λ (cs : List LineChange) (ls : LineTexts). lines_after_changes cs ls) (of f) (lines f) ∙ (there f).made

-- PLACES

-- the place of a change is at most the end of the lines of its file
pub line_number_of_change_is_within_file : (changes : List LineChange) (k : ℕ) (d : LineChange) (n count : ℕ) → k < length changes
    → AreChangesInOrder n (changes_of_file (file_number_of_change (slice_index_or changes k d)) changes) count → line_number_of_change (slice_index_or changes k d) ≤ count
line_number_of_change_is_within_file [] k d n count inside order = absurd (omega (arith, inside))
line_number_of_change_is_within_file (change ∷ changes) zero d n count inside order =
    let its : AreChangesInOrder n (change ∷ changes_of_file (file_number_of_change change) changes) count =
    subst (λ cs. AreChangesInOrder n cs count) (changes_of_file_begin_with_its_change (file_number_of_change change) change changes (eq-eqb (file_number_of_change change) (file_number_of_change change) refl)) order in
    omega (arith, changed_line_is_at_most_next_line change, ordered_changes_start_by_count (min_line_number_after_change change) (changes_of_file (file_number_of_change change) changes) count its.1)
line_number_of_change_is_within_file (change ∷ changes) (suc k) d n count inside order =
    by (λ n. line_number_of_change_is_within_file changes k d n count (omega (arith, inside))) (file_number_of_change change == file_number_of_change (slice_index_or changes k d)) refl
  where
    f : ℕ
    f = file_number_of_change (slice_index_or changes k d)

    by : ((n : ℕ) → AreChangesInOrder n (changes_of_file f changes) count → line_number_of_change (slice_index_or changes k d) ≤ count)
        → (b : Bool) → (file_number_of_change change == f) ≡ b → line_number_of_change (slice_index_or changes k d) ≤ count
    by more true is = more (min_line_number_after_change change) (subst (λ cs. AreChangesInOrder n cs count) (changes_of_file_begin_with_its_change f change changes is) order).1
    by more false is = more n (subst (λ cs. AreChangesInOrder n cs count) (changes_of_file_skip_other_files_change f change changes is) order)

-- lines that are one line each are at most as many as their bytes
pub line_count_is_at_most_byte_count : ((line : List ℕ) → cut_outcome_of_text line ≡ Ok (line ∷ []) → (0 < length line) × (length line ≤ line_limit))
    → (lines : LineTexts) → EachIsOneLineWhenCut lines → length lines ≤ length (join lines)
line_count_is_at_most_byte_count size [] alone = omega arith
line_count_is_at_most_byte_count size (line ∷ lines) alone =
    omega (arith, (size line alone.0).0, line_count_is_at_most_byte_count size lines alone.1, length-append line (join lines))

-- ONE CHANGE AFTER ANOTHER

-- a change and those behind it
rest_of_changes_begins_with_numbered_change : (k : ℕ) (changes : List LineChange) (d : LineChange) → k < length changes → drop k changes ≡ slice_index_or changes k d ∷ drop (suc k) changes
rest_of_changes_begins_with_numbered_change k [] d inside = absurd (omega (arith, inside))
rest_of_changes_begins_with_numbered_change zero (change ∷ changes) d inside = refl
rest_of_changes_begins_with_numbered_change (suc k) (change ∷ changes) d inside = rest_of_changes_begins_with_numbered_change k changes d (omega (arith, inside))

-- it puts in one line at most, and takes out one at most
pub change_moves_at_most_one_line : (change : LineChange) → (lines_put_count_of_change change ≤ 1) × (lines_taken_count_of_change change ≤ 1)
change_moves_at_most_one_line (Put file at text) = (omega arith, omega arith)
change_moves_at_most_one_line (Swap file at text) = (omega arith, omega arith)
change_moves_at_most_one_line (Take file at) = (omega arith, omega arith)

-- The counts at a change of the file g: those so far if it is of the last file, and none otherwise.
abbrev pub AreLineCountsAtChange : (g last put taken here put_here taken_here : ℕ) → Type 0
AreLineCountsAtChange g last put taken here put_here taken_here =
    ((g ≡ last → ⊥) × (here ≡ g) × (put_here ≡ 0) × (taken_here ≡ 0)) ⊎ ((g ≡ last) × (here ≡ last) × (put_here ≡ put) × (taken_here ≡ taken))

inverse_since_file_has_counts_at_change : (files : List ParsedFile) (last put taken here put_here taken_here : ℕ) (change : LineChange) (changes : List LineChange)
    → AreLineCountsAtChange (file_number_of_change change) last put taken here put_here taken_here
    → inverse_of_changes_after_counts files last put taken (change ∷ changes)
    ≡ inverse_of_one_change put_here taken_here (texts_of_lines (lines_of_numbered_file files (file_number_of_change change))) change
    ∷ inverse_of_changes_after_counts files here (put_here + lines_put_count_of_change change) (taken_here + lines_taken_count_of_change change) changes
inverse_since_file_has_counts_at_change files last put taken here put_here taken_here change changes counts = elim counts [
  | inl other ↦
      inverse_of_next_change_in_later_file files last put taken change changes (ne_eqb (file_number_of_change change) last other.0)
      ∙ ap₂ (λ (c : LineChange) (cs : List LineChange). c ∷ cs)
      (ap₂ (λ (i j : ℕ). inverse_of_one_change i j (texts_of_lines (lines_of_numbered_file files (file_number_of_change change))) change) (sym other.2) (sym other.3))
      (from (file_number_of_change change) here (lines_put_count_of_change change) (put_here + lines_put_count_of_change change) (lines_taken_count_of_change change) (taken_here + lines_taken_count_of_change change)
      (sym other.1) (omega (arith, other.2)) (omega (arith, other.3)))
  | inr same ↦
      inverse_of_next_change_in_same_file files last put taken change changes (eq-eqb (file_number_of_change change) last same.0)
      ∙ ap₂ (λ (c : LineChange) (cs : List LineChange). c ∷ cs)
      (ap₂ (λ (i j : ℕ). inverse_of_one_change i j (texts_of_lines (lines_of_numbered_file files last)) change) (sym same.2) (sym same.3)
      ∙ ap (λ n. inverse_of_one_change put_here taken_here (texts_of_lines (lines_of_numbered_file files n)) change) (sym same.0))
      (from last here (put + lines_put_count_of_change change) (put_here + lines_put_count_of_change change) (taken + lines_taken_count_of_change change) (taken_here + lines_taken_count_of_change change)
      (sym same.1) (omega (arith, same.2)) (omega (arith, same.3)))
]
  where
    from : (f g i j m n : ℕ) → f ≡ g → i ≡ j → m ≡ n → inverse_of_changes_after_counts files f i m changes ≡ inverse_of_changes_after_counts files g j n changes
    from f g i j m n a b c = ap (λ x. inverse_of_changes_after_counts files x i m changes) a ∙ ap₂ (λ (x y : ℕ). inverse_of_changes_after_counts files g x y changes) b c

-- what takes the changes up to the next one back, and then the others
pub inverse_of_next_change_continues_inverse : (files : List ParsedFile) (changes done now : List LineChange) (last put taken here put_here taken_here put_next taken_next k : ℕ)
    (change back d : LineChange) → done ++ inverse_of_changes_after_counts files last put taken (drop k changes) ≡ inverse_of_changes files changes
    → k < length changes → change ≡ slice_index_or changes k d → AreLineCountsAtChange (file_number_of_change change) last put taken here put_here taken_here
    → back ≡ inverse_of_one_change put_here taken_here (texts_of_lines (lines_of_numbered_file files (file_number_of_change change))) change
    → put_next ≡ put_here + lines_put_count_of_change change → taken_next ≡ taken_here + lines_taken_count_of_change change → now ≡ done ++ back ∷ []
    → now ++ inverse_of_changes_after_counts files here put_next taken_next (drop (k + 1) changes) ≡ inverse_of_changes files changes
inverse_of_next_change_continues_inverse files changes done now last put taken here put_here taken_here put_next taken_next k change back d so_far inside is counts back_is puts takes now_is =
    let later : List LineChange = drop (suc k) changes in
    let next : k + 1 ≡ suc k = omega arith in
    ap (λ j. now ++ inverse_of_changes_after_counts files here put_next taken_next (drop j changes)) next
    ∙ ap (λ (cs : List LineChange). cs ++ inverse_of_changes_after_counts files here put_next taken_next later) now_is
    ∙ append_assoc done (back ∷ []) (inverse_of_changes_after_counts files here put_next taken_next later)
    ∙ ap (λ (cs : List LineChange). done ++ cs)
    (ap₂ (λ (c : LineChange) (cs : List LineChange). c ∷ cs) back_is (ap₂ (λ (x y : ℕ). inverse_of_changes_after_counts files here x y later) puts takes)
    ∙ sym (inverse_since_file_has_counts_at_change files last put taken here put_here taken_here change later counts)
    ∙ ap (inverse_of_changes_after_counts files last put taken) (ap (λ (c : LineChange). c ∷ later) is ∙ sym (rest_of_changes_begins_with_numbered_change k changes d inside)))
    ∙ so_far
