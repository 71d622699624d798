-- A device of the proofs, which no public contract cites: the laws on which renames rest.
use Rattle.std.specs.List.{AllByRecursion}
use Rattle.std.specs.Prelude.{◌≡◌, ℕ, ◌<◌, ◌≤◌, true, false, List, [], ◌∷◌, length, map, None, Ok}
use Rattle.sudoers_text.specs.Cut.{EachIsOneLineWhenCut, cut_outcome_of_text}
use Rattle.sudoers_text.specs.Ended.{ends_in_lf, has_inner_line_without_lf}
use Rattle.sudoers_text.specs.Fault.{line_limit, text_limit}
use Rattle.sudoers_text.specs.Line.{join}
use Rattle.sudoers_text.specs.Renamed.{IsDefinableName}
use Rattle.sudoers_text.specs.Whole.{IsLogicalLine, is_logical_line}
use Rattle.sudoers_grammar.specs.Ascend.{AreOrderedNameOffsets}
use Rattle.sudoers_grammar.specs.Line.{LineReadsAsNode}
use Rattle.sudoers_grammar.specs.Node.{Node}
use Rattle.sudoers_grammar.specs.Renamed.{NamedAlias, alias_offsets_in_node, renamed_alias, node_with_alias_renamed, line_text_after_rename, renaming_of_alias_in_node}
use Rattle.sudoers_tree.specs.Changed.{lines_after_changes}
use Rattle.sudoers_tree.specs.ChangedFiles.{AreApplicableChanges, changes_of_file, files_after_changes}
use Rattle.sudoers_tree.specs.Files.{ParsedFile, lines_of_numbered_file}
use Rattle.sudoers_tree.specs.Goes.{IsWalkOfFiles}
use Rattle.sudoers_tree.specs.Line.{Line}
use Rattle.sudoers_tree.specs.Load.{LoadedPolicy, AreLinesAtSpots, named_file_of_parsed, named_files_of_policy, policy_or_load_fault}
use Rattle.sudoers_tree.specs.Mapped.{AreFilesMapped, CanReplaceFiles, IsMappedWalk, MakeMappedLines, LineToLinesMapping, AreDefinedNamesValid, file_names, mapped_lines_at_spots}
use Rattle.sudoers_tree.specs.Policy.{AreValidWalkLines, IsCorrectlyParsed, texts_of_lines}
use Rattle.sudoers_tree.specs.Walk.{WalkState, walk_or_fault_of_files}
use Rattle.sudoers_tree.specs.declared.line_change.LineChange.{LineChange}
use Rattle.sudoers_tree.specs.declared.named_files.NamedFile.{NamedFile}
use Rattle.sudoers_edit.specs.internal.ChangeLaws.{NoChangesLaw, FirstChangeLaw}

-- The laws of one line, and those of a line with another name.
pub record RenamedLineLaws : Type 0 where
  pub alone : (text : List ℕ) (lines : List (List ℕ)) → cut_outcome_of_text text ≡ Ok lines
      → EachIsOneLineWhenCut lines × (has_inner_line_without_lf lines ≡ false) × (join lines ≡ text) × (length text ≤ text_limit)
  pub size : (line : List ℕ) → cut_outcome_of_text line ≡ Ok (line ∷ []) → (0 < length line) × (length line ≤ line_limit)
  pub logical : (line : List ℕ) → cut_outcome_of_text line ≡ Ok (line ∷ []) → is_logical_line line ≡ true
  pub tells : (text : List ℕ) → is_logical_line text ≡ true → IsLogicalLine text
  pub ascend : (alias : NamedAlias) (line : List ℕ) (says : Node) → LineReadsAsNode line says
      → AreOrderedNameOffsets (length alias.name) 0 (length line) (alias_offsets_in_node alias says)
  pub same : (alias : NamedAlias) (fresh line : List ℕ) (says : Node) → IsDefinableName alias.name → IsDefinableName fresh → LineReadsAsNode line says
      → LineReadsAsNode (line_text_after_rename alias fresh says line) (node_with_alias_renamed (renaming_of_alias_in_node alias fresh says) says)
  pub line : (alias : NamedAlias) (fresh line : List ℕ) (says : Node) → IsDefinableName alias.name → IsDefinableName fresh → LineReadsAsNode line says
      → IsLogicalLine line → IsLogicalLine (line_text_after_rename alias fresh says line)
  pub ends : (alias : NamedAlias) (fresh line : List ℕ) (says : Node) → IsDefinableName alias.name → IsDefinableName fresh → LineReadsAsNode line says
      → ends_in_lf line ≡ ends_in_lf (line_text_after_rename alias fresh says line)
  pub undone : (alias : NamedAlias) (fresh line : List ℕ) (says : Node) → LineReadsAsNode line says → alias_offsets_in_node (renamed_alias alias fresh) says ≡ []
      → line_text_after_rename (renamed_alias alias fresh) alias.name (node_with_alias_renamed (renaming_of_alias_in_node alias fresh says) says)
      (line_text_after_rename alias fresh says line) ≡ line

-- The laws of loaded files, and of loaded files with changed lines.
pub record LoadedFileLawsBehindRenames : Type 0 where
  pub lines : RenamedLineLaws
  pub walk : (files : List NamedFile) (policy : LoadedPolicy) → policy_or_load_fault files ≡ Ok policy → AreValidWalkLines policy.walk.lines
  pub stand : (files : List NamedFile) (policy : LoadedPolicy) → policy_or_load_fault files ≡ Ok policy → AreLinesAtSpots policy.files policy.walk.spots policy.walk.lines
  pub cut : (files : List NamedFile) (policy : LoadedPolicy) → policy_or_load_fault files ≡ Ok policy → (f : ℕ)
      → cut_outcome_of_text (join (texts_of_lines (lines_of_numbered_file policy.files f))) ≡ Ok (texts_of_lines (lines_of_numbered_file policy.files f))
  pub said : (files : List NamedFile) (policy : LoadedPolicy) → policy_or_load_fault files ≡ Ok policy → (f : ℕ) → AllByRecursion IsCorrectlyParsed (lines_of_numbered_file policy.files f)
  pub walked : (files : List NamedFile) (policy : LoadedPolicy) → policy_or_load_fault files ≡ Ok policy → walk_or_fault_of_files policy.files ≡ Ok policy.walk
  pub goes : (files : List ParsedFile) → IsWalkOfFiles files (walk_or_fault_of_files files)
  pub tell : (lines others : List Line) → AllByRecursion IsCorrectlyParsed lines → AllByRecursion IsCorrectlyParsed others → texts_of_lines lines ≡ texts_of_lines others → lines ≡ others
  pub names : (changes : List LineChange) (old new : LoadedPolicy) → policy_or_load_fault (files_after_changes changes old.files) ≡ Ok new
      → file_names new.files ≡ file_names old.files
  pub after : (changes : List LineChange) (old new : LoadedPolicy) → policy_or_load_fault (named_files_of_policy old) ≡ Ok old → AreApplicableChanges changes old.files
      → policy_or_load_fault (files_after_changes changes old.files) ≡ Ok new → (f : ℕ)
      → texts_of_lines (lines_of_numbered_file new.files f) ≡ lines_after_changes (changes_of_file f changes) (texts_of_lines (lines_of_numbered_file old.files f))
  pub mapped : (g : LineToLinesMapping) (changes : List LineChange) (old new : LoadedPolicy) → policy_or_load_fault (named_files_of_policy old) ≡ Ok old → AreApplicableChanges changes old.files
      → policy_or_load_fault (files_after_changes changes old.files) ≡ Ok new → MakeMappedLines g changes old.files old.walk → IsMappedWalk g old.walk new.walk
  pub none : NoChangesLaw
  pub first : FirstChangeLaw

-- The laws of texts and their sizes, and that of loading files of which lines were changed.
pub record TextSizeLawsBehindRenames : Type 0 where
  pub base : LoadedFileLawsBehindRenames
  pub told : (text : List ℕ) → IsLogicalLine text → is_logical_line text ≡ true
  pub whole : (line : List ℕ) → is_logical_line line ≡ true → length line ≤ line_limit → cut_outcome_of_text line ≡ Ok (line ∷ [])
  pub joined : (lines : List (List ℕ)) → EachIsOneLineWhenCut lines → has_inner_line_without_lf lines ≡ false → length (join lines) ≤ text_limit
      → cut_outcome_of_text (join lines) ≡ Ok lines
  pub parse : (files : List NamedFile) (policy : LoadedPolicy) → policy_or_load_fault files ≡ Ok policy → AllByRecursion (λ (file : ParsedFile). file.fault ≡ None) policy.files
  pub loads : (g : LineToLinesMapping) (policy : LoadedPolicy) (others : List ParsedFile) → policy_or_load_fault (named_files_of_policy policy) ≡ Ok policy
      → AreFilesMapped g policy.files others policy.walk → CanReplaceFiles policy.files others policy.walk
      → AreDefinedNamesValid (mapped_lines_at_spots g policy.walk.spots policy.walk.lines)
      → (other : WalkState) × (policy_or_load_fault (map named_file_of_parsed others) ≡ Ok (record { files = others; walk = other })) × (walk_or_fault_of_files others ≡ Ok other)
      × IsMappedWalk g policy.walk other
