-- Changes of the lines of several files.
use Rattle.sudoers_tree.proofs.Common.{All, AllByRecursion, AreApplicableChanges, AreFileNumbersOfChangesInOrder, AreChangesInOrder, Bool, Err, HasSoundFileRows, IsLogicalLine, Line, LineChange, List, LoadFault, NoMemory, Ok}
use Rattle.sudoers_tree.proofs.Common.{ParsedFile, ParsedFileRows, Put, Result, Some, Swap, Tables, TablesHaveGrown, Take, [], ap, ap₂, arith, changed_files_from_number, changes_of_file, cut_outcome_of_text, drop}
use Rattle.sudoers_tree.proofs.Common.{false, file_number_of_change, has_inner_line_without_lf, if◌then◌else◌, inl, inr, join, leading_change_count_of_file, length, length-map, line_of_row, lines_after_changes}
use Rattle.sudoers_tree.proofs.Common.{lines_of_changed_file, lines_of_numbered_file, lines_of_optional_file, load_result_and_then, map, nat_tests, parsed_file_of_rows, parsed_file_of_cut_or_fault}
use Rattle.sudoers_tree.proofs.Common.{parsed_files_or_cut_fault, refl, slice_get, subst, suc, sym, take, texts_of_changes, texts_of_lines, true, ℕ, ◌++◌, ◌+◌, ◌<◌, ◌==◌, ◌∙◌, ◌∷◌, ◌≡◌, ◌⊎◌}
use Rattle.sudoers_tree.proofs.FileRows.{numbered_file_has_sound_rows, grown_tables_keep_file_rows_sound, numbered_file_of_rows_is_parsed_file}
use Rattle.sudoers_tree.proofs.Numbered.{first_of_drop_is_numbered_item}
use Rattle.sudoers_tree.proofs.TreeLines.{TableGrowthIsTransitive, grown_tables_keep_lines_of_rows}

-- ---- the changes of one file after another

-- Changes of later files are none of this one.
changes_of_later_files_are_none_of_earlier : (f g : ℕ) (changes : List LineChange) (count : ℕ) → AreFileNumbersOfChangesInOrder g changes count → f < g → changes_of_file f changes ≡ []
changes_of_later_files_are_none_of_earlier f g [] count by_files less = refl
changes_of_later_files_are_none_of_earlier f g (change ∷ changes) count by_files less =
    by (file_number_of_change change == f) refl (changes_of_later_files_are_none_of_earlier f (file_number_of_change change) changes count by_files.2 (omega (arith, by_files.0, less)))
  where
    by : (t : Bool) → (file_number_of_change change == f) ≡ t → changes_of_file f changes ≡ [] → changes_of_file f (change ∷ changes) ≡ []
    by true e none =
        let same : file_number_of_change change ≡ f = grind (arith, nat_tests) in
        absurd (omega (arith, same, by_files.0, less))
    by false e none = ap (λ t. if t then change ∷ changes_of_file f changes else changes_of_file f changes) e ∙ none

-- The first changes are those of the file, and behind them stand those of the files after it.
pub record AreLeadingChangesOfFile (f : ℕ) (changes : List LineChange) (count : ℕ) : Type 0 where
  pub here : take (leading_change_count_of_file f changes) changes ≡ changes_of_file f changes
  pub behind : (g : ℕ) → f < g → changes_of_file g (drop (leading_change_count_of_file f changes) changes) ≡ changes_of_file g changes
  pub by_files : AreFileNumbersOfChangesInOrder (f + 1) (drop (leading_change_count_of_file f changes) changes) count

pub leading_changes_are_those_of_first_file : (f : ℕ) (changes : List LineChange) (count : ℕ) → AreFileNumbersOfChangesInOrder f changes count → AreLeadingChangesOfFile f changes count
leading_changes_are_those_of_first_file f [] count by_files = record { here = refl; behind = λ g less. refl; by_files = tt }
leading_changes_are_those_of_first_file f (change ∷ changes) count by_files = by (file_number_of_change change == f) refl (λ same. leading_changes_are_those_of_first_file f changes count (subst (λ n. AreFileNumbersOfChangesInOrder n changes count) same by_files.2))
  where
    by : (t : Bool) → (file_number_of_change change == f) ≡ t → (file_number_of_change change ≡ f → AreLeadingChangesOfFile f changes count) → AreLeadingChangesOfFile f (change ∷ changes) count
    by true e later =
        let same : file_number_of_change change ≡ f = grind (arith, nat_tests) in
        let rest : AreLeadingChangesOfFile f changes count = later same in
        let one : 1 + leading_change_count_of_file f changes ≡ suc (leading_change_count_of_file f changes) = omega arith in
        let size : leading_change_count_of_file f (change ∷ changes) ≡ suc (leading_change_count_of_file f changes) = ap (λ t. if t then 1 + leading_change_count_of_file f changes else 0) e ∙ one in
        let first : changes_of_file f (change ∷ changes) ≡ change ∷ changes_of_file f changes = ap (λ t. if t then change ∷ changes_of_file f changes else changes_of_file f changes) e in
        record {
          here = ap (λ n. take n (change ∷ changes)) size ∙ ap (λ cs. change ∷ cs) rest.here ∙ sym first;
          behind = λ g less.
              let other : (file_number_of_change change == g) ≡ false = grind (arith, nat_tests, same, less) in
              ap (λ n. changes_of_file g (drop n (change ∷ changes))) size ∙ rest.behind g less
              ∙ sym (ap (λ t. if t then change ∷ changes_of_file g changes else changes_of_file g changes) other);
          by_files = subst (λ n. AreFileNumbersOfChangesInOrder (f + 1) (drop n (change ∷ changes)) count) (sym size) rest.by_files;
        }
    by false e later =
        let size : leading_change_count_of_file f (change ∷ changes) ≡ 0 = ap (λ t. if t then 1 + leading_change_count_of_file f changes else 0) e in
        let other : file_number_of_change change ≡ f → ⊥ = λ same. grind (arith, nat_tests, e, same) in
        let less : f < file_number_of_change change = omega (arith, by_files.0, other) in
        let none : changes_of_file f (change ∷ changes) ≡ [] =
        ap (λ t. if t then change ∷ changes_of_file f changes else changes_of_file f changes) e ∙ changes_of_later_files_are_none_of_earlier f (file_number_of_change change) changes count by_files.2 less in
        record {
          here = ap (λ n. take n (change ∷ changes)) size ∙ sym none;
          behind = λ g later_file. ap (λ n. changes_of_file g (drop n (change ∷ changes))) size;
          by_files = subst (λ n. AreFileNumbersOfChangesInOrder (f + 1) (drop n (change ∷ changes)) count) (sym size) (omega (arith, less), by_files.1, by_files.2);
        }

lines_of_later_changes_stay_logical : (f : ℕ) (change : LineChange) (changes : List LineChange)
    → (AllByRecursion IsLogicalLine (texts_of_changes (changes_of_file f changes)) → AllByRecursion IsLogicalLine (texts_of_changes (change ∷ changes_of_file f changes)))
    → AllByRecursion IsLogicalLine (texts_of_changes (changes_of_file f changes)) → AllByRecursion IsLogicalLine (texts_of_changes (changes_of_file f (change ∷ changes)))
lines_of_later_changes_stay_logical f change changes more rest = by (file_number_of_change change == f) refl
  where
    Brings : Bool → Type 0
    Brings t = AllByRecursion IsLogicalLine (texts_of_changes (if t then change ∷ changes_of_file f changes else changes_of_file f changes))

    by : (t : Bool) → (file_number_of_change change == f) ≡ t → Brings (file_number_of_change change == f)
    by true e = subst Brings (sym e) (more rest)
    by false e = subst Brings (sym e) rest

-- What the changes of a file bring are lines.
pub changes_of_file_bring_logical_lines : (f : ℕ) (changes : List LineChange) → AllByRecursion IsLogicalLine (texts_of_changes changes) → AllByRecursion IsLogicalLine (texts_of_changes (changes_of_file f changes))
changes_of_file_bring_logical_lines f [] all = tt
changes_of_file_bring_logical_lines f (Put file at text ∷ changes) all = lines_of_later_changes_stay_logical f (Put file at text) changes (λ rest. (all.0, rest)) (changes_of_file_bring_logical_lines f changes all.1)
changes_of_file_bring_logical_lines f (Swap file at text ∷ changes) all = lines_of_later_changes_stay_logical f (Swap file at text) changes (λ rest. (all.0, rest)) (changes_of_file_bring_logical_lines f changes all.1)
changes_of_file_bring_logical_lines f (Take file at ∷ changes) all = lines_of_later_changes_stay_logical f (Take file at) changes (λ rest. rest) (changes_of_file_bring_logical_lines f changes all)

-- ---- the turn of one file

module _ (on : TableGrowthIsTransitive) (t u : Tables) (g : TablesHaveGrown t u) (files : List ParsedFileRows) (changes : List LineChange) (are : All (HasSoundFileRows t) files)
    (can : AreApplicableChanges changes (map (parsed_file_of_rows t) files)) (i : ℕ) (file : ParsedFileRows) (rest : List ParsedFileRows) (first : drop i files ≡ file ∷ rest)
    (here : List LineChange) (here_is : here ≡ changes_of_file i changes) where
  there : slice_get files i ≡ Some file
  there = first_of_drop_is_numbered_item rest files i file (sym first)

  file_is : HasSoundFileRows t file
  file_is = numbered_file_has_sound_rows t files i file are there

  pub file_stays : HasSoundFileRows u file
  file_stays = grown_tables_keep_file_rows_sound on t u g file file_is

  lines_here : lines_of_numbered_file (map (parsed_file_of_rows t) files) i ≡ map (line_of_row t) file.rows.items
  lines_here = ap lines_of_optional_file (numbered_file_of_rows_is_parsed_file t files i (Some file) there)

  pub in_order : AreChangesInOrder 0 here (length file.rows.items)
  in_order =
      let count : length (lines_of_numbered_file (map (parsed_file_of_rows t) files) i) ≡ length file.rows.items = ap length lines_here ∙ length-map file.rows.items (line_of_row t) in
      subst (λ cs. AreChangesInOrder 0 cs (length file.rows.items)) (sym here_is) (subst (AreChangesInOrder 0 (changes_of_file i changes)) count (can.order i))

  pub bring_lines : AllByRecursion IsLogicalLine (texts_of_changes here)
  bring_lines = subst (λ cs. AllByRecursion IsLogicalLine (texts_of_changes cs)) (sym here_is) (changes_of_file_bring_logical_lines i changes can.lines)

  -- the lines of the file after its changes
  after_is : lines_after_changes here (texts_of_lines (map (line_of_row u) file.rows.items)) ≡ lines_of_changed_file i changes (parsed_file_of_rows t file)
  after_is = ap₂ (λ cs (ls : List Line). lines_after_changes cs (texts_of_lines ls)) here_is (grown_tables_keep_lines_of_rows t u g file.rows.items file_is.stand)

  pub are_ended : has_inner_line_without_lf (lines_after_changes here (texts_of_lines (map (line_of_row u) file.rows.items))) ≡ false
  are_ended = ap has_inner_line_without_lf (after_is ∙ ap (λ (ls : List Line). lines_after_changes (changes_of_file i changes) (texts_of_lines ls)) (sym lines_here)) ∙ can.ended i

  -- the outcome of this file and those behind it, after those that are read
  turn : (read : List ParsedFile) → parsed_files_or_cut_fault read (changed_files_from_number i changes (map (parsed_file_of_rows t) (drop i files)))
      ≡ load_result_and_then (parsed_file_of_cut_or_fault file.name (cut_outcome_of_text (join (lines_after_changes here (texts_of_lines (map (line_of_row u) file.rows.items))))))
      (λ reading. parsed_files_or_cut_fault (read ++ reading ∷ []) (changed_files_from_number (i + 1) changes (map (parsed_file_of_rows t) rest)))
  turn read =
      ap (λ fs. parsed_files_or_cut_fault read (changed_files_from_number i changes (map (parsed_file_of_rows t) fs))) first
      ∙ ap (λ ls. load_result_and_then (parsed_file_of_cut_or_fault file.name (cut_outcome_of_text (join ls))) (λ reading. parsed_files_or_cut_fault (read ++ reading ∷ []) (changed_files_from_number (i + 1) changes (map (parsed_file_of_rows t) rest)))) (sym after_is)

  pub turn_stops : (read : List ParsedFile) (whole : Result (List ParsedFile) LoadFault) (fault : LoadFault)
      → parsed_files_or_cut_fault read (changed_files_from_number i changes (map (parsed_file_of_rows t) (drop i files))) ≡ whole
      → (fault ≡ NoMemory) ⊎ (parsed_file_of_cut_or_fault file.name (cut_outcome_of_text (join (lines_after_changes here (texts_of_lines (map (line_of_row u) file.rows.items))))) ≡ Err fault)
      → (fault ≡ NoMemory) ⊎ (whole ≡ Err fault)
  turn_stops read whole fault begun (inl memory) = inl memory
  turn_stops read whole fault begun (inr is) =
      inr (sym begun ∙ turn read ∙ ap (λ o. load_result_and_then o (λ reading. parsed_files_or_cut_fault (read ++ reading ∷ []) (changed_files_from_number (i + 1) changes (map (parsed_file_of_rows t) rest)))) is)

  pub turn_goes_on : (read more : List ParsedFile) (new : ParsedFile) (whole : Result (List ParsedFile) LoadFault)
      → parsed_files_or_cut_fault read (changed_files_from_number i changes (map (parsed_file_of_rows t) (drop i files))) ≡ whole
      → parsed_file_of_cut_or_fault file.name (cut_outcome_of_text (join (lines_after_changes here (texts_of_lines (map (line_of_row u) file.rows.items))))) ≡ Ok new → more ≡ read ++ new ∷ []
      → parsed_files_or_cut_fault more (changed_files_from_number (i + 1) changes (map (parsed_file_of_rows t) rest)) ≡ whole
  turn_goes_on read more new whole begun is with_new =
      ap (λ rs. parsed_files_or_cut_fault rs (changed_files_from_number (i + 1) changes (map (parsed_file_of_rows t) rest))) with_new
      ∙ ap (λ o. load_result_and_then o (λ reading. parsed_files_or_cut_fault (read ++ reading ∷ []) (changed_files_from_number (i + 1) changes (map (parsed_file_of_rows t) rest)))) (sym is)
      ∙ sym (turn read)
      ∙ begun
