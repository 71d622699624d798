-- The walk before lines change.
use Rattle.sudoers_tree.proofs.Common.{All, AreSoundWalkedFiles, Err, HasSoundFileRows, IsIndexOfDefinitions, IsLastingLineRow, IsSoundWalkBeforeChange, Line, LineChange, List, LoadedPolicy, NamedFile, Ok}
use Rattle.sudoers_tree.proofs.Common.{ParsedFile, Result, Tables, TablesHaveGrown, TextFault, WalkLineSpot, WalkedFiles, [], ap, append-nil, append_assoc, ap₂, changed_files_from_number, cut_outcome_of_text}
use Rattle.sudoers_tree.proofs.Common.{definitions_of_lines, entries_of_definitions, file_names, files_after_changes, first_definition_fault, index_entries_of_kind, length, length-map, line_of_row}
use Rattle.sudoers_tree.proofs.Common.{lines_of_kept_walk, load_result_and_then, map, map-append, named_files_of_policy, parsed_file_of_rows, parsed_file_of_texts, parsed_file_of_cut_or_fault, parsed_files_or_cut_fault}
use Rattle.sudoers_tree.proofs.Common.{policy_of_walked_files, policy_or_load_fault, refl, subst, sym, walk_lines_before_change, walk_or_fault_of_files, ℕ, ◌++◌, ◌+◌, ◌∙◌, ◌∷◌, ◌≡◌}
use Rattle.std.specs.Result.{IsErr}
use Rattle.sudoers_tree.proofs.Common.{Bool, false, true, true≢false}
use Rattle.sudoers_tree.specs.declared.in_place_update.WalkBeforeChange.{WalkBeforeChange}
use Rattle.sudoers_tree.specs.internal.InPlace.{IsChangeInPlaceUnlessNoMemory}
use Rattle.sudoers_tree.proofs.FileRows.{grown_tables_keep_all_file_rows_sound, grown_tables_keep_parsed_files}
use Rattle.sudoers_tree.proofs.Outcomes.{ComputedLineOutcomesAreLineOutcomes}
use Rattle.sudoers_tree.proofs.Placed.{lines_at_spots_have_count_of_spots}
use Rattle.sudoers_tree.proofs.TreeLines.{TableGrowthIsTransitive, grown_tables_keep_rows_lasting, grown_tables_keep_lines_of_rows}
use Rattle.sudoers_tree.proofs.WalkSound.{loaded_policy_is_load_of_files, loaded_walk_is_valid}

-- The walk of loaded files stands.
pub loaded_walk_is_sound_before_change : ComputedLineOutcomesAreLineOutcomes → (w : WalkedFiles) (b : WalkBeforeChange) → b.files.now ≡ w.files.items → b.lines.now ≡ w.lines.items
    → b.spots.now ≡ w.spots.items → b.on.now ≡ w.on.items → b.index.now ≡ w.index → AreSoundWalkedFiles w
    → policy_or_load_fault (named_files_of_policy (policy_of_walked_files w)) ≡ Ok (policy_of_walked_files w) → IsSoundWalkBeforeChange w.tables b
loaded_walk_is_sound_before_change are w b files lines spots on index walked loaded =
    let t : Tables = w.tables in
    let sound = loaded_walk_is_valid are (named_files_of_policy (policy_of_walked_files w)) (policy_of_walked_files w) loaded in
    let of_lines : map (line_of_row t) w.lines.items ≡ walk_lines_before_change t b = ap (map (line_of_row t)) (sym lines) in
    record {
      walk =
          ap (λ fs. walk_or_fault_of_files (map (parsed_file_of_rows t) fs)) files
          ∙ (loaded_policy_is_load_of_files (named_files_of_policy (policy_of_walked_files w)) (policy_of_walked_files w) loaded).walks
          ∙ ap₂ (λ ls ss. Ok (record { lines = ls; spots = ss; on = w.on.items })) of_lines (sym spots)
          ∙ ap (λ os. Ok (record { lines = walk_lines_before_change t b; spots = b.spots.now; on = os })) (sym on);
      paired = ap length spots ∙ lines_at_spots_have_count_of_spots (policy_of_walked_files w).files w.spots.items (map (line_of_row t) w.lines.items) sound.stand
          ∙ length-map w.lines.items (line_of_row t) ∙ ap length (sym lines);
      sound = ap (λ ls. first_definition_fault [] (definitions_of_lines ls)) (sym of_lines) ∙ sound.none;
      stand = subst (All (IsLastingLineRow t)) (sym lines) walked.stand;
      named = λ k. ap (index_entries_of_kind k) index ∙ walked.named k ∙ ap (λ ls. entries_of_definitions k (definitions_of_lines ls)) of_lines;
    }

-- So it does in grown tables.
pub grown_tables_keep_walk_before_change : TableGrowthIsTransitive → (t u : Tables) → TablesHaveGrown t u → (b : WalkBeforeChange) → All (HasSoundFileRows t) b.files.now → IsSoundWalkBeforeChange t b → IsSoundWalkBeforeChange u b
grown_tables_keep_walk_before_change on t u g b are before =
    let same : walk_lines_before_change t b ≡ walk_lines_before_change u b = sym (grown_tables_keep_lines_of_rows t u g b.lines.now before.stand) in
    record {
      walk =
          ap walk_or_fault_of_files (grown_tables_keep_parsed_files t u g b.files.now are) ∙ before.walk
          ∙ ap (λ ls. Ok (record { lines = ls; spots = b.spots.now; on = b.on.now })) same;
      paired = before.paired;
      sound = ap (λ ls. first_definition_fault [] (definitions_of_lines ls)) (sym same) ∙ before.sound;
      stand = grown_tables_keep_rows_lasting on t u g b.lines.now before.stand;
      named = subst (λ ls. IsIndexOfDefinitions b.index.now (definitions_of_lines ls)) same before.named;
    }

-- ---- the names of the files

changed_named_files_keep_their_names : (f : ℕ) (changes : List LineChange) (files : List ParsedFile)
    → map (λ (file : NamedFile). file.name) (changed_files_from_number f changes files) ≡ file_names files
changed_named_files_keep_their_names f changes [] = refl
changed_named_files_keep_their_names f changes (file ∷ files) = ap (λ names. file.name ∷ names) (changed_named_files_keep_their_names (f + 1) changes files)

parsed_file_has_given_name : (name : List ℕ) (lines : List (List ℕ)) → (parsed_file_of_texts name lines).name ≡ name
unfolding parsed_file_of_texts
parsed_file_has_given_name name lines = refl

parsed_files_have_names_of_files : (before : List ParsedFile) (files : List NamedFile) (read : List ParsedFile) → parsed_files_or_cut_fault before files ≡ Ok read
    → file_names read ≡ file_names before ++ map (λ (file : NamedFile). file.name) files
parsed_files_have_names_of_files before [] read is =
    let same : before ≡ read = cc in
    ap file_names (sym same) ∙ sym (append-nil (file_names before))
parsed_files_have_names_of_files before (file ∷ files) read is =
    by (cut_outcome_of_text file.bytes) is (λ reading rest. parsed_files_have_names_of_files (before ++ reading ∷ []) files read rest)
  where
    Later : Type 0
    Later = (reading : ParsedFile) → parsed_files_or_cut_fault (before ++ reading ∷ []) files ≡ Ok read
        → file_names read ≡ file_names (before ++ reading ∷ []) ++ map (λ (f : NamedFile). f.name) files

    by : (r : Result (List (List ℕ)) TextFault) → load_result_and_then (parsed_file_of_cut_or_fault file.name r) (λ reading. parsed_files_or_cut_fault (before ++ reading ∷ []) files) ≡ Ok read → Later
        → file_names read ≡ file_names before ++ file.name ∷ map (λ (f : NamedFile). f.name) files
    by (Ok lines) rest later =
        later (parsed_file_of_texts file.name lines) rest
        ∙ ap (λ names. names ++ map (λ (f : NamedFile). f.name) files) (map-append (λ (f : ParsedFile). f.name) before (parsed_file_of_texts file.name lines ∷ []))
        ∙ append_assoc (file_names before) ((parsed_file_of_texts file.name lines).name ∷ []) (map (λ (f : NamedFile). f.name) files)
        ∙ ap (λ name. file_names before ++ name ∷ map (λ (f : NamedFile). f.name) files) (parsed_file_has_given_name file.name lines)
    by (Err fault) rest later = absurd cc

-- Changed files have the names that they had.
pub parsed_changed_files_keep_names : (changes : List LineChange) (files read : List ParsedFile) → parsed_files_or_cut_fault [] (files_after_changes changes files) ≡ Ok read
    → file_names read ≡ file_names files
parsed_changed_files_keep_names changes files read is = parsed_files_have_names_of_files [] (files_after_changes changes files) read is ∙ changed_named_files_keep_their_names 0 changes files

-- ---- tables that were cut back

-- the files and the walk in other tables
abbrev pub walked_files_in_other_tables : Tables → WalkedFiles → WalkedFiles
walked_files_in_other_tables t w = record { tables = t; files = w.files; lines = w.lines; spots = w.spots; on = w.on; index = w.index; begun = w.begun }

-- the lines of the walk
kept_walk_has_same_lines_in_grown_tables : (w v : WalkedFiles) → v.lines ≡ w.lines → TablesHaveGrown w.tables v.tables → AreSoundWalkedFiles w → lines_of_kept_walk v ≡ lines_of_kept_walk w
kept_walk_has_same_lines_in_grown_tables w v lines back walked =
    ap (λ ls. map (line_of_row v.tables) ls.items) lines ∙ grown_tables_keep_lines_of_rows w.tables v.tables back w.lines.items walked.stand

-- The files are walked in the tables that they had.
pub walked_files_stay_sound_in_grown_tables : TableGrowthIsTransitive → (w v : WalkedFiles) → v.files ≡ w.files → v.lines ≡ w.lines → v.index ≡ w.index → TablesHaveGrown w.tables v.tables → AreSoundWalkedFiles w
    → AreSoundWalkedFiles v
walked_files_stay_sound_in_grown_tables on w v files lines index back walked = record {
  files = subst (λ fs. All (HasSoundFileRows v.tables) fs.items) (sym files) (grown_tables_keep_all_file_rows_sound on w.tables v.tables back w.files.items walked.files);
  stand = subst (λ ls. All (IsLastingLineRow v.tables) ls.items) (sym lines) (grown_tables_keep_rows_lasting on w.tables v.tables back w.lines.items walked.stand);
  named = λ k. ap (index_entries_of_kind k) index ∙ walked.named k ∙ ap (λ ls. entries_of_definitions k (definitions_of_lines ls)) (sym (kept_walk_has_same_lines_in_grown_tables w v lines back walked));
}

-- They are the policy that they were.
pub walked_files_have_same_policy_when_grown : (w v : WalkedFiles) → v.files ≡ w.files → v.lines ≡ w.lines → v.spots ≡ w.spots → v.on ≡ w.on → TablesHaveGrown w.tables v.tables
    → AreSoundWalkedFiles w → policy_of_walked_files v ≡ policy_of_walked_files w
walked_files_have_same_policy_when_grown w v files lines spots on back walked =
    let same : map (parsed_file_of_rows v.tables) v.files.items ≡ map (parsed_file_of_rows w.tables) w.files.items =
    ap (λ fs. map (parsed_file_of_rows v.tables) fs.items) files ∙ grown_tables_keep_parsed_files w.tables v.tables back w.files.items walked.files in
    let policy : List ParsedFile → List Line → List WalkLineSpot → List ℕ → LoadedPolicy =
    λ fs ls ss os. record { files = fs; walk = record { lines = ls; spots = ss; on = os } } in
    ap₂ (λ fs ls. policy fs ls v.spots.items v.on.items) same (kept_walk_has_same_lines_in_grown_tables w v lines back walked)
    ∙ ap₂ (λ ss os. policy (map (parsed_file_of_rows w.tables) w.files.items) (lines_of_kept_walk w) ss.items os.items) spots on

-- The files and the walk are as they were, though they are kept elsewhere.
pub kept_files_stay_sound : (w v : WalkedFiles) → v.tables ≡ w.tables → v.lines.items ≡ w.lines.items → v.index ≡ w.index → All (HasSoundFileRows w.tables) v.files.items → AreSoundWalkedFiles w → AreSoundWalkedFiles v
kept_files_stay_sound w v tables lines index files walked = record {
  files = subst (λ t. All (HasSoundFileRows t) v.files.items) (sym tables) files;
  stand = subst (λ t. All (IsLastingLineRow t) v.lines.items) (sym tables) (subst (All (IsLastingLineRow w.tables)) (sym lines) walked.stand);
  named = λ k. ap (index_entries_of_kind k) index ∙ walked.named k
      ∙ ap (λ ls. entries_of_definitions k (definitions_of_lines ls)) (sym (ap (λ t. map (line_of_row t) v.lines.items) tables ∙ ap (map (line_of_row w.tables)) lines));
}

-- They are the policy that they were.
pub kept_files_have_same_policy : (w v : WalkedFiles) → v.tables ≡ w.tables → v.lines.items ≡ w.lines.items → v.spots.items ≡ w.spots.items → v.on.items ≡ w.on.items
    → map (parsed_file_of_rows w.tables) v.files.items ≡ map (parsed_file_of_rows w.tables) w.files.items → policy_of_walked_files v ≡ policy_of_walked_files w
kept_files_have_same_policy w v tables lines spots on files =
    let policy : List ParsedFile → List Line → List WalkLineSpot → List ℕ → LoadedPolicy =
    λ fs ls ss os. record { files = fs; walk = record { lines = ls; spots = ss; on = os } } in
    ap₂ (λ fs ls. policy fs ls v.spots.items v.on.items) (ap (λ t. map (parsed_file_of_rows t) v.files.items) tables ∙ files) (ap (λ t. map (line_of_row t) v.lines.items) tables ∙ ap (map (line_of_row w.tables)) lines)
    ∙ ap₂ (λ ss os. policy (map (parsed_file_of_rows w.tables) w.files.items) (lines_of_kept_walk w) ss os) spots on

-- A change of files whose tables grew before is one of the files as they were.
pub change_in_grown_tables_is_change : {E : Type 0} (result : Result Bool E) (changes : List LineChange) (old mid new : WalkedFiles) → policy_of_walked_files mid ≡ policy_of_walked_files old
    → IsChangeInPlaceUnlessNoMemory result changes mid new → IsChangeInPlaceUnlessNoMemory result changes old new
change_in_grown_tables_is_change (Ok true) changes old mid new same made = ap (λ (p : LoadedPolicy). policy_or_load_fault (files_after_changes changes p.files)) (sym same) ∙ made
change_in_grown_tables_is_change (Ok false) changes old mid new same kept = kept ∙ same
change_in_grown_tables_is_change (Err error) changes old mid new same kept = kept ∙ same

-- Where memory ran out, the policy is as it was.
pub change_without_memory_keeps_policy : {E : Type 0} (result : Result Bool E) (changes : List LineChange) (old new : WalkedFiles) → IsErr result → policy_of_walked_files new ≡ policy_of_walked_files old
    → IsChangeInPlaceUnlessNoMemory result changes old new
change_without_memory_keeps_policy (Ok made) changes old new err same = absurd (true≢false (sym err))
change_without_memory_keeps_policy (Err error) changes old new err same = same
