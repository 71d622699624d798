-- The laws of loaded files of the crates below, on which edits rest.
use Rattle.sudoers_edit.proofs.Common.{AllByRecursion, AreApplicableChanges, AreDefinedNamesValid, AreFilesMapped, CanReplaceFiles, FirstChangeLaw, IsCorrectlyParsed, IsMappedWalk, Line, LineChange, LineToLinesMapping}
use Rattle.sudoers_edit.proofs.Common.{List, LoadedPolicy, MakeMappedLines, NamedFile, None, Ok, ParsedFile, WalkState, line_cut_as_itself_is_logical_line, loaded_policy_keeps_names_and_bytes, changes_of_file, cut_outcome_of_text, file_names}
use Rattle.sudoers_edit.proofs.Common.{files_after_changes, first_change_splits_changed_lines, computed_logical_line_is_logical_line, join, length, lines_after_changes, join_is_cut_into_its_lines, lines_of_numbered_file, lines_of_cut_text_are_cut_alone, map, mapped_lines_at_spots}
use Rattle.sudoers_edit.proofs.Common.{named_file_of_parsed, named_files_of_policy, computed_line_outcome_is_line_outcome, policy_or_load_fault, refl, texts_of_lines, walk_or_fault_of_files, lines_cut_as_themselves_are_logical, ℕ, ◌+◌, ◌≡◌}
use Rattle.sudoers_tree.proofs.SaidLines.{parsed_lines_of_equal_texts_are_equal as equal_lines_by_readings}
use Rattle.sudoers_text.proofs.Found.{computed_outcome_is_outcome_of_cut}
use Rattle.sudoers_text.proofs.Unique.{lines_of_text_are_unique}
use Rattle.sudoers_tree.proofs.ChangedFileLines.{lines_of_changed_file_are_changed_lines, changed_files_keep_file_names}
use Rattle.sudoers_tree.proofs.ChangedWalk.{changed_files_are_mapped_files}
use Rattle.sudoers_tree.proofs.CutFiles.{loaded_lines_are_cut_from_their_join}
use Rattle.sudoers_tree.proofs.MappedLoad.{mapped_files_load_as_mapped_policy}
use Rattle.sudoers_tree.proofs.MappedWalk.{walk_found_of_mapped_files_is_mapped_walk}
use Rattle.sudoers_tree.proofs.ParsedFiles.{loaded_files_are_parsed_without_fault}
use Rattle.sudoers_tree.proofs.ReadsLines.{lines_parsed_until_fault_are_unique, computed_lines_are_parsed_until_fault}
use Rattle.sudoers_tree.proofs.WalkSound.{numbered_file_has_correct_lines, loaded_policy_is_load_of_files, loaded_files_have_correct_lines}
use Rattle.sudoers_edit.proofs.LinesBelow.{syntax_fault_of_line_is_unique, line_with_reading_has_no_syntax_fault, reading_of_line_is_unique, logical_lines_are_lines_of_their_join}

-- CHANGES OF LINES

pub first_change_law_holds : FirstChangeLaw
first_change_law_holds n change changes lines order = first_change_splits_changed_lines n change changes (n + length lines) lines refl order

-- LOADED FILES

pub loaded_files_have_no_fault : (files : List NamedFile) (policy : LoadedPolicy) → policy_or_load_fault files ≡ Ok policy
    → AllByRecursion (λ (file : ParsedFile). file.fault ≡ None) policy.files
loaded_files_have_no_fault = loaded_files_are_parsed_without_fault

pub loaded_lines_are_cut_of_their_text : (files : List NamedFile) (policy : LoadedPolicy) → policy_or_load_fault files ≡ Ok policy → (f : ℕ)
    → cut_outcome_of_text (join (texts_of_lines (lines_of_numbered_file policy.files f))) ≡ Ok (texts_of_lines (lines_of_numbered_file policy.files f))
loaded_lines_are_cut_of_their_text = loaded_lines_are_cut_from_their_join computed_outcome_is_outcome_of_cut (computed_lines_are_parsed_until_fault computed_line_outcome_is_line_outcome) join_is_cut_into_its_lines

pub loaded_file_lines_are_correctly_parsed : (files : List NamedFile) (policy : LoadedPolicy) → policy_or_load_fault files ≡ Ok policy → (f : ℕ) → AllByRecursion IsCorrectlyParsed (lines_of_numbered_file policy.files f)
loaded_file_lines_are_correctly_parsed files policy is f = numbered_file_has_correct_lines policy.files f (loaded_files_have_correct_lines computed_line_outcome_is_line_outcome files policy is)

pub loaded_walk_is_walk_of_files : (files : List NamedFile) (policy : LoadedPolicy) → policy_or_load_fault files ≡ Ok policy → walk_or_fault_of_files policy.files ≡ Ok policy.walk
loaded_walk_is_walk_of_files files policy is = (loaded_policy_is_load_of_files files policy is).walks

pub parsed_lines_of_equal_texts_are_equal : (lines others : List Line) → AllByRecursion IsCorrectlyParsed lines → AllByRecursion IsCorrectlyParsed others → texts_of_lines lines ≡ texts_of_lines others → lines ≡ others
parsed_lines_of_equal_texts_are_equal = equal_lines_by_readings reading_of_line_is_unique

-- FILES OF WHICH LINES WERE CHANGED

pub changed_files_keep_names : (changes : List LineChange) (old new : LoadedPolicy) → policy_or_load_fault (files_after_changes changes old.files) ≡ Ok new
    → file_names new.files ≡ file_names old.files
changed_files_keep_names changes old new is = changed_files_keep_file_names 0 changes new.files old.files (loaded_policy_keeps_names_and_bytes (files_after_changes changes old.files) new is)

pub changed_files_have_changed_lines : (changes : List LineChange) (old new : LoadedPolicy) → policy_or_load_fault (named_files_of_policy old) ≡ Ok old → AreApplicableChanges changes old.files
    → policy_or_load_fault (files_after_changes changes old.files) ≡ Ok new → (f : ℕ)
    → texts_of_lines (lines_of_numbered_file new.files f) ≡ lines_after_changes (changes_of_file f changes) (texts_of_lines (lines_of_numbered_file old.files f))
changed_files_have_changed_lines changes old new loaded can is =
    lines_of_changed_file_are_changed_lines computed_outcome_is_outcome_of_cut lines_of_text_are_unique logical_lines_are_lines_of_their_join changes new.files old.files can (loaded_policy_keeps_names_and_bytes (files_after_changes changes old.files) new is)
    (loaded_lines_are_cut_of_their_text (files_after_changes changes old.files) new is)
    (λ f. lines_cut_as_themselves_are_logical line_cut_as_itself_is_logical_line computed_logical_line_is_logical_line (texts_of_lines (lines_of_numbered_file old.files f))
    (lines_of_cut_text_are_cut_alone (join (texts_of_lines (lines_of_numbered_file old.files f))) (texts_of_lines (lines_of_numbered_file old.files f)) (loaded_lines_are_cut_of_their_text (named_files_of_policy old) old loaded f)).0)

pub changed_files_have_mapped_walk : (g : LineToLinesMapping) (changes : List LineChange) (old new : LoadedPolicy) → policy_or_load_fault (named_files_of_policy old) ≡ Ok old → AreApplicableChanges changes old.files
    → policy_or_load_fault (files_after_changes changes old.files) ≡ Ok new → MakeMappedLines g changes old.files old.walk → IsMappedWalk g old.walk new.walk
changed_files_have_mapped_walk g changes old new loaded can is made =
    let files : List NamedFile = files_after_changes changes old.files in
    let are : AreFilesMapped g old.files new.files old.walk =
    changed_files_are_mapped_files parsed_lines_of_equal_texts_are_equal g changes old.files new.files old.walk (changed_files_keep_names changes old new is) (changed_files_have_changed_lines changes old new loaded can is)
    (loaded_file_lines_are_correctly_parsed files new is) (loaded_files_have_no_fault files new is) made in
    walk_found_of_mapped_files_is_mapped_walk g old.files new.files old.walk new.walk (loaded_walk_is_walk_of_files (named_files_of_policy old) old loaded) are (loaded_walk_is_walk_of_files files new is)

pub mapped_files_load_with_mapped_walk : (g : LineToLinesMapping) (policy : LoadedPolicy) (others : List ParsedFile) → policy_or_load_fault (named_files_of_policy policy) ≡ Ok policy
    → AreFilesMapped g policy.files others policy.walk → CanReplaceFiles policy.files others policy.walk
    → AreDefinedNamesValid (mapped_lines_at_spots g policy.walk.spots policy.walk.lines)
    → (other : WalkState) × (policy_or_load_fault (map named_file_of_parsed others) ≡ Ok (record { files = others; walk = other })) × (walk_or_fault_of_files others ≡ Ok other)
    × IsMappedWalk g policy.walk other
mapped_files_load_with_mapped_walk =
    mapped_files_load_as_mapped_policy computed_outcome_is_outcome_of_cut (computed_lines_are_parsed_until_fault computed_line_outcome_is_line_outcome) (lines_parsed_until_fault_are_unique computed_line_outcome_is_line_outcome reading_of_line_is_unique line_with_reading_has_no_syntax_fault syntax_fault_of_line_is_unique) join_is_cut_into_its_lines computed_line_outcome_is_line_outcome
