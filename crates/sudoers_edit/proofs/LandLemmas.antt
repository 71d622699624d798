-- Changes of the lines of one file: the files that they make, and the way back.
use Rattle.sudoers_edit.proofs.Common.{AllByRecursion, AreApplicableChanges, AreFileNumbersOfChangesInOrder, AreChangesInOrder, AreChangesOfEdit, AreApplicableChangesOfFile, AreLogicalLinesOfFileWithinTextLimit, Bool, EachIsOneLineWhenCut, Edit}
use Rattle.sudoers_edit.proofs.Common.{EditFault, EditSetsFileLines, LineChange, LawsBehindLineEdits, LineTexts, List, LoadedPolicy, NamedFile, Ok, OpenLine, ParsedFile, Result, Some, [], ap, ap₂, arith}
use Rattle.sudoers_edit.proofs.Common.{changed_files_from_number, changes_of_file, cut_outcome_of_text, eq-eqb, eqb-true, false, file_number_of_change, files_after_changes, files_with_bytes_replaced}
use Rattle.sudoers_edit.proofs.Common.{has_inner_line_without_lf, if◌then◌else◌, inl, inr, join, length, length-map, line_texts_of_file, lines_after_changes, lines_changed_from_number, lines_of_numbered_file, map}
use Rattle.sudoers_edit.proofs.Common.{named_files_of_policy, named_of, ne_eqb, policy_of_files_or_refusal, policy_or_edit_fault, policy_or_load_fault, policy_with_file_lines, refl, result_ok, result_unless_refused}
use Rattle.sudoers_edit.proofs.Common.{run, slice_index_or, slice_set, step, subst, suc, sym, texts_of_lines, true, lines_cut_as_themselves_are_logical, zero, ℕ, ◌+◌, ◌<◌, ◌==◌, ◌∙◌, ◌∷◌, ◌≡◌, ◌≤◌, ◌⊎◌}
use Rattle.std.specs.Prelude.{option_and_then}
use Rattle.sudoers_edit.proofs.PolicyLemmas.{texts_are_as_many_as_lines}

-- what the lines of each file of a policy are
pub lines_of_loaded_file_are_sound : LawsBehindLineEdits → (policy : LoadedPolicy) → policy_or_load_fault (named_files_of_policy policy) ≡ Ok policy → (f : ℕ) → AreLogicalLinesOfFileWithinTextLimit (line_texts_of_file policy f)
lines_of_loaded_file_are_sound laws policy loaded f =
    let is = laws.cut (named_files_of_policy policy) policy loaded f in
    let all = laws.alone (join (line_texts_of_file policy f)) (line_texts_of_file policy f) is in
    record { each = all.0; whole = lines_cut_as_themselves_are_logical laws.logical laws.tells (line_texts_of_file policy f) all.0; ended = all.1; fits = all.3 }

-- THE CHANGES OF ONE FILE

abbrev pub AreChangesOfFileNumber : ℕ → List LineChange → Type 0
AreChangesOfFileNumber f changes = AllByRecursion (λ (change : LineChange). file_number_of_change change ≡ f) changes

-- they are those of the file
pub changes_of_own_file_are_all : (f : ℕ) (changes : List LineChange) → AreChangesOfFileNumber f changes → changes_of_file f changes ≡ changes
changes_of_own_file_are_all f [] are = refl
changes_of_own_file_are_all f (change ∷ changes) are =
    let same : (file_number_of_change change == f) ≡ true = eq-eqb (file_number_of_change change) f are.0 in
    ap (λ t. if t then change ∷ changes_of_file f changes else changes_of_file f changes) same ∙ ap (λ (cs : List LineChange). change ∷ cs) (changes_of_own_file_are_all f changes are.1)

-- none is of another
pub changes_of_other_file_are_none : (f g : ℕ) (changes : List LineChange) → AreChangesOfFileNumber f changes → (f ≡ g → ⊥) → changes_of_file g changes ≡ []
changes_of_other_file_are_none f g [] are other = refl
changes_of_other_file_are_none f g (change ∷ changes) are other =
    let elsewhere : (file_number_of_change change == g) ≡ false = ne_eqb (file_number_of_change change) g (λ is. other (sym are.0 ∙ is)) in
    ap (λ t. if t then change ∷ changes_of_file g changes else changes_of_file g changes) elsewhere ∙ changes_of_other_file_are_none f g changes are.1 other

one_file_changes_are_in_file_order : (f n count : ℕ) (changes : List LineChange) → AreChangesOfFileNumber f changes → n ≤ f → f < count → AreFileNumbersOfChangesInOrder n changes count
one_file_changes_are_in_file_order f n count [] are less within = tt
one_file_changes_are_in_file_order f n count (change ∷ changes) are less within =
    (omega (arith, are.0, less), omega (arith, are.0, within), one_file_changes_are_in_file_order f (file_number_of_change change) count changes are.1 (omega (arith, are.0)) within)

-- without changes lines stay
pub no_changes_keep_lines : (n : ℕ) (lines : LineTexts) → lines_changed_from_number n [] lines ≡ lines
no_changes_keep_lines n [] = refl
no_changes_keep_lines n (line ∷ lines) = ap (λ (z : LineTexts). line ∷ z) (no_changes_keep_lines (n + 1) lines)

-- it is this number, or it is not
file_numbers_are_equal_or_not : (f g : ℕ) → (f ≡ g) ⊎ (f ≡ g → ⊥)
file_numbers_are_equal_or_not f g = by (f == g) refl
  where
    by : (t : Bool) → (f == g) ≡ t → (f ≡ g) ⊎ (f ≡ g → ⊥)
    by true e = inl (eqb-true f g e)
    by false e = inr (λ is. absurd (let t : (f == g) ≡ true = eq-eqb f g is in cc))

-- they can be made, if the lines before and after are no open ones
pub changes_of_one_file_are_applicable : (f : ℕ) (changes : List LineChange) (policy : LoadedPolicy) → f < length policy.files → AreApplicableChangesOfFile f changes (line_texts_of_file policy f)
    → has_inner_line_without_lf (lines_after_changes changes (line_texts_of_file policy f)) ≡ false → ((g : ℕ) → has_inner_line_without_lf (line_texts_of_file policy g) ≡ false)
    → AreApplicableChanges changes policy.files
changes_of_one_file_are_applicable f changes policy here fits ended before = record {
  by_files = one_file_changes_are_in_file_order f 0 (length policy.files) changes fits.of_file (omega arith) here;
  order = order;
  lines = fits.whole;
  ended = ended_in;
}
  where
    order : (g : ℕ) → AreChangesInOrder 0 (changes_of_file g changes) (length (lines_of_numbered_file policy.files g))
    order g = elim (file_numbers_are_equal_or_not f g) [
      | inl same ↦ subst (λ n. AreChangesInOrder 0 (changes_of_file n changes) (length (lines_of_numbered_file policy.files n))) same
          (subst (λ cs. AreChangesInOrder 0 cs (length (lines_of_numbered_file policy.files f))) (sym (changes_of_own_file_are_all f changes fits.of_file))
          (subst (AreChangesInOrder 0 changes) (texts_are_as_many_as_lines (lines_of_numbered_file policy.files f)) fits.order))
      | inr other ↦ subst (λ cs. AreChangesInOrder 0 cs (length (lines_of_numbered_file policy.files g))) (sym (changes_of_other_file_are_none f g changes fits.of_file other)) (omega arith)
    ]

    ended_in : (g : ℕ) → has_inner_line_without_lf (lines_after_changes (changes_of_file g changes) (texts_of_lines (lines_of_numbered_file policy.files g))) ≡ false
    ended_in g = elim (file_numbers_are_equal_or_not f g) [
      | inl same ↦ subst (λ n. has_inner_line_without_lf (lines_after_changes (changes_of_file n changes) (texts_of_lines (lines_of_numbered_file policy.files n))) ≡ false) same
          (ap (λ cs. has_inner_line_without_lf (lines_after_changes cs (line_texts_of_file policy f))) (changes_of_own_file_are_all f changes fits.of_file) ∙ ended)
      | inr other ↦ ap (λ cs. has_inner_line_without_lf (lines_after_changes cs (line_texts_of_file policy g))) (changes_of_other_file_are_none f g changes fits.of_file other)
          ∙ ap has_inner_line_without_lf (no_changes_keep_lines 0 (line_texts_of_file policy g)) ∙ before g
    ]

-- THE FILES THAT THEY MAKE

file_without_changes_keeps_bytes : (g : ℕ) (changes : List LineChange) (file : ParsedFile) → changes_of_file g changes ≡ []
    → join (lines_after_changes (changes_of_file g changes) (texts_of_lines file.lines)) ≡ join (texts_of_lines file.lines)
file_without_changes_keeps_bytes g changes file none = ap (λ cs. join (lines_after_changes cs (texts_of_lines file.lines))) none ∙ ap join (no_changes_keep_lines 0 (texts_of_lines file.lines))

files_behind_changed_file_are_kept : (f g : ℕ) (changes : List LineChange) (files : List ParsedFile) → AreChangesOfFileNumber f changes → f < g → changed_files_from_number g changes files ≡ map named_of files
files_behind_changed_file_are_kept f g changes [] are less = refl
files_behind_changed_file_are_kept f g changes (file ∷ files) are less =
    ap₂ (λ (bytes : List ℕ) (more : List NamedFile). record { name = file.name; bytes = bytes } ∷ more)
    (file_without_changes_keeps_bytes g changes file (changes_of_other_file_are_none f g changes are (λ is. omega (arith, is, less))))
    (files_behind_changed_file_are_kept f (g + 1) changes files are (omega (arith, less)))

changed_files_replace_bytes_from_number : (f g k : ℕ) (changes : List LineChange) (files : List ParsedFile) → AreChangesOfFileNumber f changes → f ≡ g + k
    → changed_files_from_number g changes files ≡ files_with_bytes_replaced k (join (lines_after_changes changes (texts_of_lines (lines_of_numbered_file files k)))) (map named_of files)
changed_files_replace_bytes_from_number f g zero changes [] are is = refl
changed_files_replace_bytes_from_number f g (suc k) changes [] are is = refl
changed_files_replace_bytes_from_number f g zero changes (file ∷ files) are is =
    let same : g ≡ f = omega (arith, is) in
    ap₂ (λ (bytes : List ℕ) (more : List NamedFile). record { name = file.name; bytes = bytes } ∷ more)
    (ap (λ cs. join (lines_after_changes cs (texts_of_lines file.lines))) (ap (λ n. changes_of_file n changes) same ∙ changes_of_own_file_are_all f changes are))
    (files_behind_changed_file_are_kept f (g + 1) changes files are (omega (arith, is)))
changed_files_replace_bytes_from_number f g (suc k) changes (file ∷ files) are is =
    ap₂ (λ (bytes : List ℕ) (more : List NamedFile). record { name = file.name; bytes = bytes } ∷ more)
    (file_without_changes_keeps_bytes g changes file (changes_of_other_file_are_none f g changes are (λ same. omega (arith, is, same))))
    (changed_files_replace_bytes_from_number f (g + 1) k changes files are (omega (arith, is)))

-- changes of one file make the files with other bytes of that one
pub changes_of_one_file_replace_its_bytes : (f : ℕ) (changes : List LineChange) (policy : LoadedPolicy) → AreChangesOfFileNumber f changes
    → files_after_changes changes policy.files ≡ files_with_bytes_replaced f (join (lines_after_changes changes (line_texts_of_file policy f))) (named_files_of_policy policy)
changes_of_one_file_replace_its_bytes f changes policy are = changed_files_replace_bytes_from_number f 0 f changes policy.files are (omega arith)

-- other bytes of one file, and then others
pub second_replacement_of_bytes_overrides_first : (f : ℕ) (first last : List ℕ) (files : List NamedFile) → files_with_bytes_replaced f last (files_with_bytes_replaced f first files) ≡ files_with_bytes_replaced f last files
second_replacement_of_bytes_overrides_first zero first last [] = refl
second_replacement_of_bytes_overrides_first (suc f) first last [] = refl
second_replacement_of_bytes_overrides_first zero first last (file ∷ files) = refl
second_replacement_of_bytes_overrides_first (suc f) first last (file ∷ files) = ap (λ (more : List NamedFile). file ∷ more) (second_replacement_of_bytes_overrides_first f first last files)

-- the bytes that it has
replacement_by_own_bytes_keeps_files : (f : ℕ) (files : List ParsedFile) → files_with_bytes_replaced f (join (texts_of_lines (lines_of_numbered_file files f))) (map named_of files) ≡ map named_of files
replacement_by_own_bytes_keeps_files zero [] = refl
replacement_by_own_bytes_keeps_files (suc f) [] = refl
replacement_by_own_bytes_keeps_files zero (file ∷ files) = refl
replacement_by_own_bytes_keeps_files (suc f) (file ∷ files) = ap (λ (more : List NamedFile). named_of file ∷ more) (replacement_by_own_bytes_keeps_files f files)

replacement_of_bytes_keeps_file_count : (f : ℕ) (bytes : List ℕ) (files : List NamedFile) → length (files_with_bytes_replaced f bytes files) ≡ length files
replacement_of_bytes_keeps_file_count zero bytes [] = refl
replacement_of_bytes_keeps_file_count (suc f) bytes [] = refl
replacement_of_bytes_keeps_file_count zero bytes (file ∷ files) = refl
replacement_of_bytes_keeps_file_count (suc f) bytes (file ∷ files) = ap suc (replacement_of_bytes_keeps_file_count f bytes files)

-- the bytes set in a list of files
pub setting_file_bytes_is_replacing_them : (f : ℕ) (bytes : List ℕ) (named : NamedFile) (files : List NamedFile) → f < length files → named ≡ slice_index_or files f named
    → slice_set files f (record { name = named.name; bytes = bytes }) ≡ files_with_bytes_replaced f bytes files
setting_file_bytes_is_replacing_them f bytes named [] within is = absurd (omega (arith, within))
setting_file_bytes_is_replacing_them zero bytes named (file ∷ files) within is = ap (λ (n : NamedFile). record { name = n.name; bytes = bytes } ∷ files) is
setting_file_bytes_is_replacing_them (suc f) bytes named (file ∷ files) within is = ap (λ (more : List NamedFile). file ∷ more) (setting_file_bytes_is_replacing_them f bytes named files (omega (arith, within)) is)

-- no file has the number
pub replacement_past_last_file_keeps_files : (f : ℕ) (bytes : List ℕ) (files : List NamedFile) → length files ≤ f → files_with_bytes_replaced f bytes files ≡ files
replacement_past_last_file_keeps_files zero bytes [] past = refl
replacement_past_last_file_keeps_files (suc f) bytes [] past = refl
replacement_past_last_file_keeps_files zero bytes (file ∷ files) past = absurd (omega (arith, past))
replacement_past_last_file_keeps_files (suc f) bytes (file ∷ files) past = ap (λ (more : List NamedFile). file ∷ more) (replacement_past_last_file_keeps_files f bytes files (omega (arith, past)))

-- WHERE THEY LAND

-- lines of which none is open land where their files are loaded
pub ended_lines_give_policy_of_loaded_files : (policy : LoadedPolicy) (f : ℕ) (new : LineTexts) → has_inner_line_without_lf new ≡ false → policy_with_file_lines policy f new ≡ policy_of_files_or_refusal (files_with_bytes_replaced f (join new) (named_files_of_policy policy))
ended_lines_give_policy_of_loaded_files policy f new ended = ap (λ open_. result_unless_refused open_ OpenLine (policy_of_files_or_refusal (files_with_bytes_replaced f (join new) (named_files_of_policy policy)))) ended

-- what changes of one file make of its lines lands where the files with the changes are loaded
pub changed_lines_give_policy_of_changed_files : (policy : LoadedPolicy) (f : ℕ) (changes : List LineChange) → AreChangesOfFileNumber f changes → has_inner_line_without_lf (lines_after_changes changes (line_texts_of_file policy f)) ≡ false
    → policy_with_file_lines policy f (lines_after_changes changes (line_texts_of_file policy f)) ≡ policy_of_files_or_refusal (files_after_changes changes policy.files)
changed_lines_give_policy_of_changed_files policy f changes are ended = ended_lines_give_policy_of_loaded_files policy f (lines_after_changes changes (line_texts_of_file policy f)) ended ∙ ap policy_of_files_or_refusal (sym (changes_of_one_file_replace_its_bytes f changes policy are))

-- one step as a run
pub accepted_edit_is_accepted_run : (edit : Edit) (policy new : LoadedPolicy) → step edit policy ≡ Ok new → run (edit ∷ []) policy ≡ Some new
accepted_edit_is_accepted_run edit policy new is = ap (λ (r : Result LoadedPolicy EditFault). option_and_then (run []) (result_ok r)) is

-- the policy with other lines of a file, and back
pub former_lines_of_file_give_former_policy : LawsBehindLineEdits → (policy new : LoadedPolicy) (f : ℕ) (bytes : List ℕ) → policy_or_load_fault (named_files_of_policy policy) ≡ Ok policy
    → policy_or_load_fault (files_with_bytes_replaced f bytes (named_files_of_policy policy)) ≡ Ok new → policy_with_file_lines new f (line_texts_of_file policy f) ≡ Ok policy
former_lines_of_file_give_former_policy laws policy new f bytes loaded is =
    let old : List ℕ = join (line_texts_of_file policy f) in
    let same : files_with_bytes_replaced f old (named_files_of_policy new) ≡ named_files_of_policy policy =
    ap (files_with_bytes_replaced f old) (laws.bytes (files_with_bytes_replaced f bytes (named_files_of_policy policy)) new is) ∙ second_replacement_of_bytes_overrides_first f bytes old (named_files_of_policy policy) ∙ replacement_by_own_bytes_keeps_files f policy.files in
    ended_lines_give_policy_of_loaded_files new f (line_texts_of_file policy f) (lines_of_loaded_file_are_sound laws policy loaded f).ended ∙ ap policy_of_files_or_refusal same ∙ ap policy_or_edit_fault loaded

-- the file has the lines that the changes make, where the files with the changes are loaded
pub loaded_file_has_changed_lines : LawsBehindLineEdits → (policy new : LoadedPolicy) (f : ℕ) (changes : List LineChange) → policy_or_load_fault (named_files_of_policy policy) ≡ Ok policy → AreApplicableChanges changes policy.files
    → AreChangesOfFileNumber f changes → policy_or_load_fault (files_after_changes changes policy.files) ≡ Ok new → line_texts_of_file new f ≡ lines_after_changes changes (line_texts_of_file policy f)
loaded_file_has_changed_lines laws policy new f changes loaded can are is =
    laws.lines changes policy new loaded can is f ∙ ap (λ cs. lines_after_changes cs (line_texts_of_file policy f)) (changes_of_own_file_are_all f changes are)

-- the policy with other bytes of a file has as many files
pub replacement_of_bytes_keeps_loaded_file_count : LawsBehindLineEdits → (policy new : LoadedPolicy) (f : ℕ) (bytes : List ℕ) → policy_or_load_fault (files_with_bytes_replaced f bytes (named_files_of_policy policy)) ≡ Ok new
    → length new.files ≡ length policy.files
replacement_of_bytes_keeps_loaded_file_count laws policy new f bytes is =
    sym (length-map new.files named_of) ∙ ap length (laws.bytes (files_with_bytes_replaced f bytes (named_files_of_policy policy)) new is)
    ∙ replacement_of_bytes_keeps_file_count f bytes (named_files_of_policy policy) ∙ length-map policy.files named_of

file_with_replaced_bytes_has_them : (f : ℕ) (bytes : List ℕ) (news olds : List ParsedFile) → map named_of news ≡ files_with_bytes_replaced f bytes (map named_of olds) → f < length olds
    → join (texts_of_lines (lines_of_numbered_file news f)) ≡ bytes
file_with_replaced_bytes_has_them f bytes news [] same here = absurd (omega (arith, here))
file_with_replaced_bytes_has_them zero bytes [] (old ∷ olds) same here = absurd cc
file_with_replaced_bytes_has_them (suc f) bytes [] (old ∷ olds) same here = absurd cc
file_with_replaced_bytes_has_them zero bytes (new ∷ news) (old ∷ olds) same here =
    let is : named_of new ≡ record { name = old.name; bytes = bytes } = cc in
    ap (λ (file : NamedFile). file.bytes) is
file_with_replaced_bytes_has_them (suc f) bytes (new ∷ news) (old ∷ olds) same here =
    let rest : map named_of news ≡ files_with_bytes_replaced f bytes (map named_of olds) = cc in
    file_with_replaced_bytes_has_them f bytes news olds rest (omega (arith, here))

-- the lines of a file that is loaded with other bytes are those of the bytes
pub loaded_lines_are_cut_of_replaced_bytes : LawsBehindLineEdits → (policy new : LoadedPolicy) (f : ℕ) (bytes : List ℕ) → f < length policy.files → policy_or_load_fault (files_with_bytes_replaced f bytes (named_files_of_policy policy)) ≡ Ok new
    → (cut_outcome_of_text bytes ≡ Ok (line_texts_of_file new f)) × EachIsOneLineWhenCut (line_texts_of_file new f)
loaded_lines_are_cut_of_replaced_bytes laws policy new f bytes here is =
    let files : List NamedFile = files_with_bytes_replaced f bytes (named_files_of_policy policy) in
    let cut : cut_outcome_of_text (join (line_texts_of_file new f)) ≡ Ok (line_texts_of_file new f) = laws.cut files new is f in
    let whole : join (line_texts_of_file new f) ≡ bytes = file_with_replaced_bytes_has_them f bytes new.files policy.files (laws.bytes files new is) here in
    (ap cut_outcome_of_text (sym whole) ∙ cut, (laws.alone (join (line_texts_of_file new f)) (line_texts_of_file new f) cut).0)

-- an edit of one file whose inverse is one edit
pub one_file_changes_are_those_of_edit : LawsBehindLineEdits → (edit back : Edit) (inverse : List Edit) (policy : LoadedPolicy) (f : ℕ) (changes : List LineChange) → policy_or_load_fault (named_files_of_policy policy) ≡ Ok policy
    → AreApplicableChangesOfFile f changes (line_texts_of_file policy f) → EditSetsFileLines edit back inverse policy f (lines_after_changes changes (line_texts_of_file policy f)) → AreChangesOfEdit edit inverse policy changes
one_file_changes_are_those_of_edit laws edit back inverse policy f changes loaded fits to = record {
  fits = can;
  forth = to.forth ∙ changed_lines_give_policy_of_changed_files policy f changes fits.of_file to.ended;
  inverse_is = to.inverse_is;
  back = λ after is.
      let now : policy_or_load_fault (files_with_bytes_replaced f (join new) (named_files_of_policy policy)) ≡ Ok after = ap policy_or_load_fault (sym files) ∙ is in
      let lines : line_texts_of_file after f ≡ new = loaded_file_has_changed_lines laws policy after f changes loaded can fits.of_file is in
      let here : f < length after.files = omega (arith, to.here, replacement_of_bytes_keeps_loaded_file_count laws policy after f (join new) now) in
      ap (λ edits. run edits after) to.back_is ∙ accepted_edit_is_accepted_run back after policy (to.back after now here lines ∙ former_lines_of_file_give_former_policy laws policy after f (join new) loaded now);
}
  where
    new : LineTexts
    new = lines_after_changes changes (line_texts_of_file policy f)

    can : AreApplicableChanges changes policy.files
    can = changes_of_one_file_are_applicable f changes policy to.here fits to.ended (λ g. (lines_of_loaded_file_are_sound laws policy loaded g).ended)

    files : files_after_changes changes policy.files ≡ files_with_bytes_replaced f (join new) (named_files_of_policy policy)
    files = changes_of_one_file_replace_its_bytes f changes policy fits.of_file
