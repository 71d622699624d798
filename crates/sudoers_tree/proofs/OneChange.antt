-- One change of the lines of one file that is made in its place: the files then have the changed lines, and load as they are kept.
use Rattle.sudoers_tree.proofs.Common.{All, AllByRecursion, AreApplicableChanges, AreSoundWalkedFiles, HasSoundFileRows, IsCorrectlyParsed, IsLastingLineRow}
use Rattle.sudoers_tree.proofs.Common.{Kind, Line, LineChange, LineRow, List, LoadedPolicy, None, Ok, Option, ParsedFile, ParsedFileRows, Some, Tables, WalkedFiles, [], All-head, All-tail, ap, ap₂, arith}
use Rattle.sudoers_tree.proofs.Common.{changed_files_from_number, changes_of_file, definitions_from_line_number, definitions_in_line, definitions_of_lines, eq-eqb, false, fault_of_numbered_file, file_names, file_number_of_change}
use Rattle.sudoers_tree.proofs.Common.{files_after_changes, has_inner_line_without_lf, if◌then◌else◌, index_entries_of_kind, join, keys_of_definitions, line_of_row, lines_after_changes, lines_of_kept_walk}
use Rattle.sudoers_tree.proofs.Common.{lines_of_numbered_file, lines_of_optional_file, list_any, map, named_file_of_parsed, named_files_of_policy, nat_eq, nat_tests, ne_eqb, outcome_of_line, parsed_file_of_rows, policy_of_walked_files}
use Rattle.sudoers_tree.proofs.Common.{policy_or_load_fault, refl, slice_get, subst, suc, sym, texts_of_lines, true, zero, ℕ, ◌+◌, ◌<◌, ◌==◌, ◌∙◌, ◌∷◌, ◌≡◌, ◌≤◌}
use Rattle.sudoers_text.proofs.Alone.{join_is_cut_into_its_lines}
use Rattle.sudoers_text.proofs.Found.{computed_outcome_is_outcome_of_cut}
use Rattle.sudoers_tree.proofs.ChangedLines.{no_changes_leave_lines_unchanged}
use Rattle.sudoers_tree.proofs.CutFiles.{AreLinesCutFromTheirJoin}
use Rattle.sudoers_tree.proofs.FileRows.{numbered_file_has_sound_rows, numbered_file_of_rows_is_parsed_file}
use Rattle.sudoers_tree.proofs.Common.{IsLineOutcome}
use Rattle.sudoers_tree.proofs.ParsedFiles.{loaded_files_are_parsed_without_fault}
use Rattle.sudoers_grammar.proofs.Lines.{line_read_as_node_has_no_fault, syntax_fault_of_line_is_unique}
use Rattle.sudoers_line_reader.proofs.Contract.{node_of_line_is_unique}
use Rattle.sudoers_text.proofs.TokenLists.{tokens_of_line_are_unique}
use Rattle.sudoers_tree.proofs.ReadsLines.{computed_lines_are_parsed_until_fault, lines_parsed_until_fault_are_unique}
use Rattle.sudoers_tree.proofs.InPlaceLoads.{HasOtherLinesInPlace, LeadsNowhere, parsed_files_have_no_fault_at_number, policy_with_other_lines_in_place_loads}
use Rattle.sudoers_tree.proofs.Known.{computed_line_outcome_is_line_outcome, logical_lines_are_each_cut_as_themselves}
use Rattle.sudoers_tree.proofs.MovedNames.{keys_move_around_place, moved_definitions_stay_faultless, moved_index_is_of_moved_definitions, moved_key}
use Rattle.sudoers_tree.proofs.SplicedWalk.{MovesLinesBehind}
use Rattle.sudoers_tree.proofs.WalkSound.{loaded_walk_is_valid}
use Rattle.sudoers_tree.specs.declared.moved_lines.LineMove.{LineMove}
use Rattle.sudoers_tree.specs.internal.InPlace.{IsOnlySpotOfLine, files_with_other_lines, moved_entry, moved_spot, with_items_in_place}
use Rattle.sudoers_tree.specs.internal.MovedSpots.{spots_from_line_number}

-- ---- files of which one has other lines

pub other_lines_keep_names : (f : ℕ) (h : List Line → List Line) (files : List ParsedFile) → file_names (files_with_other_lines f h files) ≡ file_names files
other_lines_keep_names f h [] = refl
other_lines_keep_names zero h (file ∷ files) = refl
other_lines_keep_names (suc f) h (file ∷ files) = ap (λ names. file.name ∷ names) (other_lines_keep_names f h files)

successors_differ_as_numbers : (g f : ℕ) → (suc g == suc f) ≡ false → (g == f) ≡ false
successors_differ_as_numbers g f other = ne_eqb g f (λ is. absurd (grind (arith, nat_tests, other, is)))

pub other_lines_keep_other_files : (f : ℕ) (h : List Line → List Line) (files : List ParsedFile) (g : ℕ) → (g == f) ≡ false → slice_get (files_with_other_lines f h files) g ≡ slice_get files g
other_lines_keep_other_files f h [] g other = refl
other_lines_keep_other_files zero h (file ∷ files) zero other = absurd cc
other_lines_keep_other_files zero h (file ∷ files) (suc g) other = refl
other_lines_keep_other_files (suc f) h (file ∷ files) zero other = refl
other_lines_keep_other_files (suc f) h (file ∷ files) (suc g) other = other_lines_keep_other_files f h files g (successors_differ_as_numbers g f other)

pub other_lines_are_in_file : (f : ℕ) (h : List Line → List Line) (files : List ParsedFile) (n : ℕ) (line : Line) → slice_get (lines_of_numbered_file files f) n ≡ Some line
    → (lines_of_numbered_file (files_with_other_lines f h files) f ≡ h (lines_of_numbered_file files f)) × (fault_of_numbered_file (files_with_other_lines f h files) f ≡ fault_of_numbered_file files f)
other_lines_are_in_file f h [] n line is = absurd cc
other_lines_are_in_file zero h (file ∷ files) n line is = (refl, refl)
other_lines_are_in_file (suc f) h (file ∷ files) n line is = other_lines_are_in_file f h files n line is

-- ---- the bytes of the files

files_behind_change_stay : (k : ℕ) (change : LineChange) (files : List ParsedFile) → file_number_of_change change < k → changed_files_from_number k (change ∷ []) files ≡ map named_file_of_parsed files
files_behind_change_stay k change [] less = refl
files_behind_change_stay k change (file ∷ files) less =
    let other : (file_number_of_change change == k) ≡ false = ne_eqb (file_number_of_change change) k (λ is. omega (arith, is, less)) in
    ap₂ (λ ls fs. record { name = file.name; bytes = join ls } ∷ fs)
    (ap (λ b. lines_after_changes (if b then change ∷ [] else []) (texts_of_lines file.lines)) other ∙ no_changes_leave_lines_unchanged 0 (texts_of_lines file.lines))
    (files_behind_change_stay (k + 1) change files (omega (arith, less)))

changed_file_has_other_lines : (k f : ℕ) (change : LineChange) (h : List Line → List Line) (files : List ParsedFile) → file_number_of_change change ≡ k + f
    → lines_after_changes (change ∷ []) (texts_of_lines (lines_of_numbered_file files f)) ≡ texts_of_lines (h (lines_of_numbered_file files f))
    → changed_files_from_number k (change ∷ []) files ≡ map named_file_of_parsed (files_with_other_lines f h files)
changed_file_has_other_lines k f change h [] at is = refl
changed_file_has_other_lines k zero change h (file ∷ files) at is =
    let here : (file_number_of_change change == k) ≡ true = eq-eqb (file_number_of_change change) k (omega (arith, at)) in
    ap₂ (λ ls fs. record { name = file.name; bytes = join ls } ∷ fs)
    (ap (λ b. lines_after_changes (if b then change ∷ [] else []) (texts_of_lines file.lines)) here ∙ is)
    (files_behind_change_stay (k + 1) change files (omega (arith, at)))
changed_file_has_other_lines k (suc f) change h (file ∷ files) at is =
    let other : (file_number_of_change change == k) ≡ false = ne_eqb (file_number_of_change change) k (λ same. omega (arith, same, at)) in
    ap₂ (λ ls fs. record { name = file.name; bytes = join ls } ∷ fs)
    (ap (λ b. lines_after_changes (if b then change ∷ [] else []) (texts_of_lines file.lines)) other ∙ no_changes_leave_lines_unchanged 0 (texts_of_lines file.lines))
    (changed_file_has_other_lines (k + 1) f change h files (omega (arith, at)) is)

-- ---- the lines of a sound file

line_of_outcome_is_correctly_parsed : (line : Line) → outcome_of_line line.text ≡ Ok line.node → IsCorrectlyParsed line
line_of_outcome_is_correctly_parsed line is = subst (IsLineOutcome line.text) is (computed_line_outcome_is_line_outcome line.text)

lasting_rows_are_correctly_parsed : (t : Tables) (rows : List LineRow) → All (IsLastingLineRow t) rows → AllByRecursion IsCorrectlyParsed (map (line_of_row t) rows)
lasting_rows_are_correctly_parsed t [] all = tt
lasting_rows_are_correctly_parsed t (row ∷ rows) all =
    let first : IsLastingLineRow t row = All-head (IsLastingLineRow t) row rows all in
    (line_of_outcome_is_correctly_parsed (line_of_row t row) first.says, lasting_rows_are_correctly_parsed t rows (All-tail (IsLastingLineRow t) row rows all))

-- A file of sound rows, whose lines have no inner line without LF.
pub record IsFileOfSoundLines (lines : List Line) : Type 0 where
  pub cut : has_inner_line_without_lf (texts_of_lines lines) ≡ false → AreLinesCutFromTheirJoin (texts_of_lines lines)
  pub says : AllByRecursion IsCorrectlyParsed lines

sound_rows_are_sound_lines : (t : Tables) (file : ParsedFileRows) → HasSoundFileRows t file → IsFileOfSoundLines (map (line_of_row t) file.rows.items)
sound_rows_are_sound_lines t file is = record {
  cut = λ ended. join_is_cut_into_its_lines (texts_of_lines (map (line_of_row t) file.rows.items)) (logical_lines_are_each_cut_as_themselves (texts_of_lines (map (line_of_row t) file.rows.items)) is.whole is.short) ended is.fits;
  says = lasting_rows_are_correctly_parsed t file.rows.items is.stand;
}

numbered_sound_file_has_sound_lines : (t : Tables) (files : List ParsedFileRows) (f : ℕ) → All (HasSoundFileRows t) files → IsFileOfSoundLines (lines_of_numbered_file (map (parsed_file_of_rows t) files) f)
numbered_sound_file_has_sound_lines t files f are = by (slice_get files f) refl
  where
    by : (o : Option ParsedFileRows) → slice_get files f ≡ o → IsFileOfSoundLines (lines_of_numbered_file (map (parsed_file_of_rows t) files) f)
    by None is =
        subst (λ (o : Option ParsedFile). IsFileOfSoundLines (lines_of_optional_file o)) (sym (numbered_file_of_rows_is_parsed_file t files f None is))
        (record { cut = λ ended. join_is_cut_into_its_lines [] tt refl (omega arith); says = tt })
    by (Some file) is =
        subst (λ (o : Option ParsedFile). IsFileOfSoundLines (lines_of_optional_file o)) (sym (numbered_file_of_rows_is_parsed_file t files f (Some file) is))
        (sound_rows_are_sound_lines t file (numbered_file_has_sound_rows t files f file are is))

-- ---- loaded files

loaded_file_has_no_fault : (p : LoadedPolicy) → policy_or_load_fault (named_files_of_policy p) ≡ Ok p → (f : ℕ) → fault_of_numbered_file p.files f ≡ None
loaded_file_has_no_fault p loaded = parsed_files_have_no_fault_at_number p.files (loaded_files_are_parsed_without_fault (named_files_of_policy p) p loaded)

policy_loads_with_other_lines_in_place : (old new : LoadedPolicy) (f n p : ℕ) (line : Line) (news : List Line) (from : ℕ) (move : LineMove) → policy_or_load_fault (named_files_of_policy old) ≡ Ok old
    → HasOtherLinesInPlace old new f n p line news from move → policy_or_load_fault (map named_file_of_parsed new.files) ≡ Ok new
policy_loads_with_other_lines_in_place =
    policy_with_other_lines_in_place_loads computed_outcome_is_outcome_of_cut (computed_lines_are_parsed_until_fault computed_line_outcome_is_line_outcome)
    (lines_parsed_until_fault_are_unique computed_line_outcome_is_line_outcome (node_of_line_is_unique tokens_of_line_are_unique) (line_read_as_node_has_no_fault tokens_of_line_are_unique) (syntax_fault_of_line_is_unique tokens_of_line_are_unique))
    join_is_cut_into_its_lines computed_line_outcome_is_line_outcome

-- ---- the change

-- The walked files `new` are `old`, but that the lines `news` stand in the place of the line with the number n of the file f, which has the
-- number p on the walk, as `change` says. The lines behind it, and the names that they define, moved.
pub record IsChangedInPlace (old new : WalkedFiles) (change : LineChange) (h : List Line → List Line) (f n p : ℕ) (line : Line) (news : List Line) (from there : ℕ) (move : LineMove) : Type 0 where
  pub number : file_number_of_change change ≡ f
  pub files : map (parsed_file_of_rows new.tables) new.files.items ≡ files_with_other_lines f h (policy_of_walked_files old).files
  pub changed : h (lines_of_numbered_file (policy_of_walked_files old).files f) ≡ with_items_in_place n news (lines_of_numbered_file (policy_of_walked_files old).files f)
  pub texts : lines_after_changes (change ∷ []) (texts_of_lines (lines_of_numbered_file (policy_of_walked_files old).files f)) ≡ texts_of_lines (h (lines_of_numbered_file (policy_of_walked_files old).files f))
  pub at_place : slice_get (lines_of_numbered_file (policy_of_walked_files old).files f) n ≡ Some line
  pub on_walk : list_any (nat_eq f) old.on.items ≡ true
  pub only : IsOnlySpotOfLine old.spots.items f n p
  pub nowhere_before : LeadsNowhere line
  pub nowhere_then : AllByRecursion LeadsNowhere news
  pub moves : MovesLinesBehind news line n from move
  pub low : p ≤ there
  pub high : there ≤ p + 1
  pub walk_line : slice_get (lines_of_kept_walk old) p ≡ Some line
  pub lines : lines_of_kept_walk new ≡ with_items_in_place p news (lines_of_kept_walk old)
  pub spots : new.spots.items ≡ with_items_in_place p (spots_from_line_number (policy_of_walked_files new).files f n news) (map (moved_spot f from move) old.spots.items)
  pub on : new.on.items ≡ old.on.items
  pub keys : keys_of_definitions (definitions_from_line_number p news) ≡ map (moved_key there move) (keys_of_definitions (definitions_in_line p line.node))
  pub index : (k : Kind) → index_entries_of_kind k new.index ≡ map (moved_entry there move) (index_entries_of_kind k old.index)
  pub sound : All (HasSoundFileRows new.tables) new.files.items
  pub stand : All (IsLastingLineRow new.tables) new.lines.items

module _ (old new : WalkedFiles) (change : LineChange) (h : List Line → List Line) (f n p : ℕ) (line : Line) (news : List Line) (from there : ℕ) (move : LineMove)
    (walked : AreSoundWalkedFiles old) (loaded : policy_or_load_fault (named_files_of_policy (policy_of_walked_files old)) ≡ Ok (policy_of_walked_files old))
    (can : AreApplicableChanges (change ∷ []) (policy_of_walked_files old).files)
    (is : IsChangedInPlace old new change h f n p line news from there move) where
  moved_keys : keys_of_definitions (definitions_of_lines (lines_of_kept_walk new)) ≡ map (moved_key there move) (keys_of_definitions (definitions_of_lines (lines_of_kept_walk old)))
  moved_keys =
      ap (λ ls. keys_of_definitions (definitions_of_lines ls)) is.lines
      ∙ keys_move_around_place there move p (lines_of_kept_walk old) news line is.walk_line is.low is.high is.moves.count is.keys

  pub walked_files_changed_in_place_are_sound : AreSoundWalkedFiles new
  walked_files_changed_in_place_are_sound = record {
    files = is.sound;
    stand = is.stand;
    named = moved_index_is_of_moved_definitions there move old.index new.index (definitions_of_lines (lines_of_kept_walk old)) (definitions_of_lines (lines_of_kept_walk new)) moved_keys walked.named is.index;
  }

  abbrev olds : LoadedPolicy
  olds = policy_of_walked_files old

  there_are : (lines_of_numbered_file (files_with_other_lines f h olds.files) f ≡ h (lines_of_numbered_file olds.files f))
      × (fault_of_numbered_file (files_with_other_lines f h olds.files) f ≡ fault_of_numbered_file olds.files f)
  there_are = other_lines_are_in_file f h olds.files n line is.at_place

  changed_lines : lines_of_numbered_file (policy_of_walked_files new).files f ≡ h (lines_of_numbered_file olds.files f)
  changed_lines = ap (λ fs. lines_of_numbered_file fs f) is.files ∙ there_are.0

  changes_are : changes_of_file f (change ∷ []) ≡ change ∷ []
  changes_are = ap (λ b. if b then change ∷ [] else []) (eq-eqb (file_number_of_change change) f is.number)

  ended : has_inner_line_without_lf (texts_of_lines (lines_of_numbered_file (policy_of_walked_files new).files f)) ≡ false
  ended =
      ap (λ ls. has_inner_line_without_lf (texts_of_lines ls)) changed_lines
      ∙ ap has_inner_line_without_lf (sym is.texts ∙ ap (λ cs. lines_after_changes cs (texts_of_lines (lines_of_numbered_file olds.files f))) (sym changes_are))
      ∙ can.ended f

  lines_are : IsFileOfSoundLines (lines_of_numbered_file (policy_of_walked_files new).files f)
  lines_are = numbered_sound_file_has_sound_lines new.tables new.files.items f is.sound

  in_place : HasOtherLinesInPlace olds (policy_of_walked_files new) f n p line news from move
  in_place = record {
    at_place = is.at_place;
    changed = changed_lines ∙ is.changed;
    same = λ g other. ap (λ fs. slice_get fs g) is.files ∙ other_lines_keep_other_files f h olds.files g other;
    names = ap file_names is.files ∙ other_lines_keep_names f h olds.files;
    parses = ap (λ fs. fault_of_numbered_file fs f) is.files ∙ there_are.1 ∙ loaded_file_has_no_fault olds loaded f;
    on_walk = is.on_walk;
    only = is.only;
    nowhere_before = is.nowhere_before;
    nowhere_then = is.nowhere_then;
    moves = is.moves;
    lines = is.lines;
    spots = is.spots;
    on = is.on;
    sound = moved_definitions_stay_faultless there move (definitions_of_lines (lines_of_kept_walk old)) (definitions_of_lines (lines_of_kept_walk new)) moved_keys
        (loaded_walk_is_valid computed_line_outcome_is_line_outcome (named_files_of_policy olds) olds loaded).none;
    cut = lines_are.cut ended;
    says = lines_are.says;
  }

  pub files_changed_in_place_load : policy_or_load_fault (files_after_changes (change ∷ []) olds.files) ≡ Ok (policy_of_walked_files new)
  files_changed_in_place_load =
      ap policy_or_load_fault (changed_file_has_other_lines 0 f change h olds.files (omega (arith, is.number)) is.texts ∙ ap (map named_file_of_parsed) (sym is.files))
      ∙ policy_loads_with_other_lines_in_place olds (policy_of_walked_files new) f n p line news from move loaded in_place
