-- A device of the proofs, which no public contract cites: the laws on which prunes rest.
use Rattle.std.specs.List.{AllByRecursion}
use Rattle.std.specs.Prelude.{◌≡◌, ℕ, ◌<◌, ◌≤◌, true, false, List, [], ◌∷◌, length, map, None, Ok}
use Rattle.sudoers_text.specs.Cut.{EachIsOneLineWhenCut, cut_outcome_of_text}
use Rattle.sudoers_text.specs.Ended.{has_inner_line_without_lf}
use Rattle.sudoers_text.specs.Fault.{line_limit, text_limit}
use Rattle.sudoers_text.specs.Line.{join}
use Rattle.sudoers_text.specs.Whole.{IsLogicalLine, is_logical_line}
use Rattle.sudoers_grammar.specs.Ascend.{AreOrderedAliasDefinitions}
use Rattle.sudoers_grammar.specs.Line.{IsLineSyntaxFault, LineReadsAsNode}
use Rattle.sudoers_grammar.specs.Node.{Def, Node}
use Rattle.sudoers_grammar.specs.Node as node
use Rattle.sudoers_grammar.specs.declared.fault.Why.{Why}
use Rattle.sudoers_grammar.specs.declared.node.Kind.{Kind}
use Rattle.sudoers_line_reader.specs.Outcome.{IsOutcomeOfLine as IsLineOutcome, outcome_of_line}
use Rattle.sudoers_tree.specs.Files.{ParsedFile, lines_of_numbered_file}
use Rattle.sudoers_tree.specs.Load.{LoadedPolicy, AreLinesAtSpots, named_file_of_parsed, named_files_of_policy, policy_or_load_fault}
use Rattle.sudoers_tree.specs.Mapped.{AreFilesMapped, CanReplaceFiles, IsMappedWalk, LineToLinesMapping, AreDefinedNamesValid, mapped_lines_at_spots}
use Rattle.sudoers_tree.specs.Policy.{AreValidWalkLines, IsCorrectlyParsed, texts_of_lines}
use Rattle.sudoers_tree.specs.Walk.{WalkState, walk_or_fault_of_files}
use Rattle.sudoers_tree.specs.declared.named_files.NamedFile.{NamedFile}

-- The laws of lines and of loaded files.
pub record LawsBehindPrunes : Type 0 where
  pub loads : (g : LineToLinesMapping) (policy : LoadedPolicy) (others : List ParsedFile) → policy_or_load_fault (named_files_of_policy policy) ≡ Ok policy
      → AreFilesMapped g policy.files others policy.walk → CanReplaceFiles policy.files others policy.walk
      → AreDefinedNamesValid (mapped_lines_at_spots g policy.walk.spots policy.walk.lines)
      → (other : WalkState) × (policy_or_load_fault (map named_file_of_parsed others) ≡ Ok (record { files = others; walk = other })) × (walk_or_fault_of_files others ≡ Ok other)
      × IsMappedWalk g policy.walk other
  pub walk : (files : List NamedFile) (policy : LoadedPolicy) → policy_or_load_fault files ≡ Ok policy → AreValidWalkLines policy.walk.lines
  pub stand : (files : List NamedFile) (policy : LoadedPolicy) → policy_or_load_fault files ≡ Ok policy → AreLinesAtSpots policy.files policy.walk.spots policy.walk.lines
  pub parse : (files : List NamedFile) (policy : LoadedPolicy) → policy_or_load_fault files ≡ Ok policy
      → AllByRecursion (λ (file : ParsedFile). file.fault ≡ None) policy.files
  pub cut : (files : List NamedFile) (policy : LoadedPolicy) → policy_or_load_fault files ≡ Ok policy → (f : ℕ)
      → cut_outcome_of_text (join (texts_of_lines (lines_of_numbered_file policy.files f))) ≡ Ok (texts_of_lines (lines_of_numbered_file policy.files f))
  pub said : (files : List NamedFile) (policy : LoadedPolicy) → policy_or_load_fault files ≡ Ok policy → (f : ℕ) → AllByRecursion IsCorrectlyParsed (lines_of_numbered_file policy.files f)
  pub joined : (lines : List (List ℕ)) → EachIsOneLineWhenCut lines → has_inner_line_without_lf lines ≡ false → length (join lines) ≤ text_limit
      → cut_outcome_of_text (join lines) ≡ Ok lines
  pub alone : (text : List ℕ) (lines : List (List ℕ)) → cut_outcome_of_text text ≡ Ok lines
      → EachIsOneLineWhenCut lines × (has_inner_line_without_lf lines ≡ false) × (join lines ≡ text) × (length text ≤ text_limit)
  pub size : (line : List ℕ) → cut_outcome_of_text line ≡ Ok (line ∷ []) → (0 < length line) × (length line ≤ line_limit)
  pub single : (line : List ℕ) → is_logical_line line ≡ true → length line ≤ line_limit → cut_outcome_of_text line ≡ Ok (line ∷ [])
  pub whole : (line : List ℕ) → cut_outcome_of_text line ≡ Ok (line ∷ []) → is_logical_line line ≡ true
  pub tells : (text : List ℕ) → is_logical_line text ≡ true → IsLogicalLine text
  pub outcome : (line : List ℕ) → IsLineOutcome line (outcome_of_line line)
  pub reading : (line : List ℕ) (node other : Node) → LineReadsAsNode line node → LineReadsAsNode line other → node ≡ other
  pub faultless : (line : List ℕ) (node : Node) (at : ℕ) (why : Why) → LineReadsAsNode line node → IsLineSyntaxFault line at why → ⊥
  pub ascend : (line : List ℕ) (kind : Kind) (defs : List Def) → LineReadsAsNode line (node.Alias kind defs) → AreOrderedAliasDefinitions 0 (length line) defs
