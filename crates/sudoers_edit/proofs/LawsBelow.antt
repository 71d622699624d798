-- The laws of the crates below, gathered for each kind of edit.
use Rattle.sudoers_edit.proofs.Common.{AreSoundParsedLines, LawsBehindFinalLfEdits, LawsBehindLineEdits, List, LoadedPolicy, LawsBehindMemberEdits, NamedFile, Ok, LawsBehindPrunes, TextSizeLawsBehindRenames, line_cut_as_itself_is_logical_line, loaded_policy_keeps_names_and_bytes, logical_line_is_computed_logical_line, computed_logical_line_is_logical_line}
use Rattle.sudoers_edit.proofs.Common.{loaded_walk_lines_are_valid, join, logical_line_within_limit_is_cut_as_itself, join_is_cut_into_its_lines, lines_of_numbered_file, lines_of_cut_text_are_cut_alone, no_changes_leave_lines_unchanged, computed_line_outcome_is_line_outcome, policy_or_load_fault, loaded_walk_lines_are_at_their_spots, texts_of_lines, ℕ, ◌≡◌}
use Rattle.sudoers_text.proofs.LastLine.{line_cut_to_itself_is_within_limit, adding_last_lf_keeps_cut_lines, removing_last_lf_keeps_cut_lines}
use Rattle.sudoers_tree.proofs.WalkOutcomes.{computed_walk_is_walk_of_files}
use Rattle.sudoers_edit.proofs.FilesBelow.{changed_files_have_mapped_walk, changed_files_keep_names, changed_files_have_changed_lines, loaded_lines_are_cut_of_their_text, loaded_files_have_no_fault, loaded_file_lines_are_correctly_parsed, loaded_walk_is_walk_of_files, first_change_law_holds, mapped_files_load_with_mapped_walk, parsed_lines_of_equal_texts_are_equal}
use Rattle.sudoers_edit.proofs.KnownLemmas.{parsed_lines_cut_alone_are_sound}
use Rattle.sudoers_edit.proofs.LandLemmas.{loaded_lines_are_cut_of_replaced_bytes}
use Rattle.sudoers_edit.proofs.LinesBelow.{definitions_of_alias_line_are_ordered, line_with_reading_has_no_syntax_fault, alias_offsets_of_line_are_ordered, reading_of_line_is_unique, renamed_line_keeps_final_lf, renamed_line_reads_as_renamed_node, reverse_rename_restores_line, renamed_logical_line_is_logical}

-- EDITS OF LINES

pub line_edit_laws_hold : LawsBehindLineEdits
line_edit_laws_hold = record {
  bytes = loaded_policy_keeps_names_and_bytes;
  cut = loaded_lines_are_cut_of_their_text;
  alone = lines_of_cut_text_are_cut_alone;
  logical = line_cut_as_itself_is_logical_line;
  tells = computed_logical_line_is_logical_line;
  lines = changed_files_have_changed_lines;
}

pub final_lf_laws_hold : LawsBehindFinalLfEdits
final_lf_laws_hold = record {
  size = line_cut_to_itself_is_within_limit;
  cut = loaded_lines_are_cut_of_replaced_bytes line_edit_laws_hold;
  behind = adding_last_lf_keeps_cut_lines;
  from = removing_last_lf_keeps_cut_lines;
}

-- EDITS OF MEMBERS AND DEFINITIONS

-- the lines of a file are known from what they say
pub lines_of_loaded_file_are_sound_parsed : (files : List NamedFile) (policy : LoadedPolicy) → policy_or_load_fault files ≡ Ok policy → (f : ℕ) → AreSoundParsedLines (lines_of_numbered_file policy.files f)
lines_of_loaded_file_are_sound_parsed files policy loaded f =
    parsed_lines_cut_alone_are_sound line_cut_as_itself_is_logical_line computed_line_outcome_is_line_outcome reading_of_line_is_unique line_with_reading_has_no_syntax_fault definitions_of_alias_line_are_ordered line_cut_to_itself_is_within_limit (lines_of_numbered_file policy.files f)
    (lines_of_cut_text_are_cut_alone (join (texts_of_lines (lines_of_numbered_file policy.files f))) (texts_of_lines (lines_of_numbered_file policy.files f)) (loaded_lines_are_cut_of_their_text files policy loaded f)).0
    (loaded_file_lines_are_correctly_parsed files policy loaded f)

pub member_edit_laws_hold : LawsBehindMemberEdits
member_edit_laws_hold = record {
  bytes = loaded_policy_keeps_names_and_bytes;
  cut = loaded_lines_are_cut_of_their_text;
  known = lines_of_loaded_file_are_sound_parsed;
  walk = loaded_walk_is_walk_of_files;
  stand = loaded_walk_lines_are_at_their_spots;
}

-- RENAMES

pub rename_size_laws_hold : TextSizeLawsBehindRenames
rename_size_laws_hold = record {
  base =
      record {
        lines =
            record {
              alone = lines_of_cut_text_are_cut_alone;
              size = line_cut_to_itself_is_within_limit;
              logical = line_cut_as_itself_is_logical_line;
              tells = computed_logical_line_is_logical_line;
              ascend = alias_offsets_of_line_are_ordered;
              same = renamed_line_reads_as_renamed_node;
              line = renamed_logical_line_is_logical;
              ends = renamed_line_keeps_final_lf;
              undone = reverse_rename_restores_line;
            };
        walk = loaded_walk_lines_are_valid;
        stand = loaded_walk_lines_are_at_their_spots;
        cut = loaded_lines_are_cut_of_their_text;
        said = loaded_file_lines_are_correctly_parsed;
        walked = loaded_walk_is_walk_of_files;
        goes = computed_walk_is_walk_of_files;
        tell = parsed_lines_of_equal_texts_are_equal;
        names = changed_files_keep_names;
        after = changed_files_have_changed_lines;
        mapped = changed_files_have_mapped_walk;
        none = no_changes_leave_lines_unchanged;
        first = first_change_law_holds;
      };
  told = logical_line_is_computed_logical_line;
  whole = logical_line_within_limit_is_cut_as_itself;
  joined = join_is_cut_into_its_lines;
  parse = loaded_files_have_no_fault;
  loads = mapped_files_load_with_mapped_walk;
}

-- PRUNES

pub prune_edit_laws_hold : LawsBehindPrunes
prune_edit_laws_hold = record {
  loads = mapped_files_load_with_mapped_walk;
  walk = loaded_walk_lines_are_valid;
  stand = loaded_walk_lines_are_at_their_spots;
  parse = loaded_files_have_no_fault;
  cut = loaded_lines_are_cut_of_their_text;
  said = loaded_file_lines_are_correctly_parsed;
  joined = join_is_cut_into_its_lines;
  alone = lines_of_cut_text_are_cut_alone;
  size = line_cut_to_itself_is_within_limit;
  single = logical_line_within_limit_is_cut_as_itself;
  whole = line_cut_as_itself_is_logical_line;
  tells = computed_logical_line_is_logical_line;
  outcome = computed_line_outcome_is_line_outcome;
  reading = reading_of_line_is_unique;
  faultless = line_with_reading_has_no_syntax_fault;
  ascend = definitions_of_alias_line_are_ordered;
}
