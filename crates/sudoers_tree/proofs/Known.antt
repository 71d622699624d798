-- What is known of lines, of loaded files and of policies, by what the crates below prove of lines.
use Rattle.sudoers_tree.proofs.Common.{AllByRecursion, AreLinesAtSpots, AreSoundWalkedFiles, AreValidWalkLines, AreWithinLineLimit, EachIsOneLineWhenCut, IsDistinct, IsLogicalLine, List, LoadedPolicy, NamedFile, Ok}
use Rattle.sudoers_tree.proofs.Common.{WalkedFiles, [], cut_outcome_of_text, file_limit, is_logical_line, join, length, line_limit, lines_of_numbered_file, named_files_of_policy, nat_eq, policy_of_walked_files}
use Rattle.sudoers_tree.proofs.Common.{policy_or_load_fault, subst, text_limit, texts_of_lines, true, ℕ, ◌*◌, ◌∷◌, ◌≡◌, ◌≤◌}
use Rattle.sudoers_text.proofs.Alone.{text_cut_into_lines_has_faultless_cut, lines_of_cut_text_are_cut_alone}
use Rattle.sudoers_text.proofs.Found.{outcome_of_cut_is_computed_outcome, computed_outcome_is_outcome_of_cut}
use Rattle.sudoers_text.proofs.LastLine.{line_cut_to_itself_is_within_limit}
use Rattle.sudoers_text.proofs.LogicalLine.{logical_line_test_decides_logical_line}
use Rattle.sudoers_text.proofs.TokenLists.{computed_tokens_are_tokens_of_line}
use Rattle.sudoers_text.proofs.WholeAlone as whole_alone
use Rattle.sudoers_line_reader.proofs.Contract as contract
use Rattle.sudoers_tree.proofs.FileRows.{AreLogicalLinesWithinLimits, lines_of_cut_text_are_within_limits, lines_of_numbered_file_fit_text_limit}
use Rattle.sudoers_tree.proofs.KeptFiles.{loaded_policy_keeps_its_named_files}
use Rattle.sudoers_tree.proofs.Outcomes.{ComputedLineOutcomesAreLineOutcomes}
use Rattle.sudoers_tree.proofs.ReadPieces.{short_logical_lines_are_cut_as_themselves}
use Rattle.sudoers_tree.proofs.ReadsLines.{computed_lines_are_parsed_until_fault}
use Rattle.sudoers_tree.proofs.WalkSize.{loaded_walk_is_distinct_and_within_size}
use Rattle.sudoers_tree.proofs.WalkSound.{loaded_walk_has_valid_lines, loaded_walk_is_valid}

-- LINES

-- What a line says, or its first fault, is what is computed.
pub computed_line_outcome_is_line_outcome : ComputedLineOutcomesAreLineOutcomes
computed_line_outcome_is_line_outcome = contract.computed_outcome_is_outcome_of_line computed_tokens_are_tokens_of_line

-- What is computed tells whether a text is one logical line.
pub computed_logical_line_is_logical_line : (line : List ℕ) → is_logical_line line ≡ true → IsLogicalLine line
computed_logical_line_is_logical_line line = (logical_line_test_decides_logical_line line).0

pub logical_line_is_computed_logical_line : (line : List ℕ) → IsLogicalLine line → is_logical_line line ≡ true
logical_line_is_computed_logical_line line = (logical_line_test_decides_logical_line line).1

-- A line is the one line of a text exactly where it is one logical line, and within the limit.
pub line_cut_as_itself_is_logical_line : (line : List ℕ) → cut_outcome_of_text line ≡ Ok (line ∷ []) → is_logical_line line ≡ true
line_cut_as_itself_is_logical_line line is = logical_line_is_computed_logical_line line (whole_alone.faultless_cut_into_itself_is_logical_line line (text_cut_into_lines_has_faultless_cut line (line ∷ []) is))

pub logical_line_within_limit_is_cut_as_itself : (line : List ℕ) → is_logical_line line ≡ true → length line ≤ line_limit → cut_outcome_of_text line ≡ Ok (line ∷ [])
logical_line_within_limit_is_cut_as_itself line is fits = outcome_of_cut_is_computed_outcome line (Ok (line ∷ [])) (whole_alone.short_logical_line_has_faultless_cut line (computed_logical_line_is_logical_line line is) fits)

-- Logical lines within the limit stand alone.
pub logical_lines_are_each_cut_as_themselves : (lines : List (List ℕ)) → AllByRecursion IsLogicalLine lines → AreWithinLineLimit lines → EachIsOneLineWhenCut lines
logical_lines_are_each_cut_as_themselves = short_logical_lines_are_cut_as_themselves logical_line_is_computed_logical_line logical_line_within_limit_is_cut_as_itself

-- The lines of a text are cut from it.
pub lines_cut_from_text_are_within_limits : (text : List ℕ) (lines : List (List ℕ)) → cut_outcome_of_text text ≡ Ok lines → AreLogicalLinesWithinLimits lines
lines_cut_from_text_are_within_limits text lines is = lines_of_cut_text_are_within_limits line_cut_as_itself_is_logical_line computed_logical_line_is_logical_line line_cut_to_itself_is_within_limit text lines (lines_of_cut_text_are_cut_alone text lines is)

-- LOADED FILES

-- They keep their names and their bytes.
pub loaded_policy_keeps_names_and_bytes : (files : List NamedFile) (policy : LoadedPolicy) → policy_or_load_fault files ≡ Ok policy → named_files_of_policy policy ≡ files
loaded_policy_keeps_names_and_bytes = loaded_policy_keeps_its_named_files computed_outcome_is_outcome_of_cut (computed_lines_are_parsed_until_fault computed_line_outcome_is_line_outcome)

-- The lines of their walk are a walk.
pub loaded_walk_lines_are_valid : (files : List NamedFile) (policy : LoadedPolicy) → policy_or_load_fault files ≡ Ok policy → AreValidWalkLines policy.walk.lines
loaded_walk_lines_are_valid = loaded_walk_has_valid_lines computed_line_outcome_is_line_outcome

-- Each of these lines stands at its spot.
pub loaded_walk_lines_are_at_their_spots : (files : List NamedFile) (policy : LoadedPolicy) → policy_or_load_fault files ≡ Ok policy → AreLinesAtSpots policy.files policy.walk.spots policy.walk.lines
loaded_walk_lines_are_at_their_spots files policy is = (loaded_walk_is_valid computed_line_outcome_is_line_outcome files policy is).stand

-- Each file is at most once on the walk, and the lines of the walk are within their limit.
pub loaded_walk_is_distinct_and_within_limit : (files : List NamedFile) (policy : LoadedPolicy) → policy_or_load_fault files ≡ Ok policy
    → IsDistinct nat_eq policy.walk.on × (length (join (texts_of_lines policy.walk.lines)) ≤ file_limit * text_limit)
loaded_walk_is_distinct_and_within_limit = loaded_walk_is_distinct_and_within_size computed_outcome_is_outcome_of_cut

-- POLICIES, as their files and their walk are kept

-- A policy is that of its own files.
pub equal_policy_of_walked_files_is_loaded : (w : WalkedFiles) (policy : LoadedPolicy) → policy_of_walked_files w ≡ policy → policy_or_load_fault (named_files_of_policy (policy_of_walked_files w)) ≡ Ok (policy_of_walked_files w)
    → policy_or_load_fault (named_files_of_policy policy) ≡ Ok policy
equal_policy_of_walked_files_is_loaded w policy same is = subst (λ (p : LoadedPolicy). policy_or_load_fault (named_files_of_policy p) ≡ Ok p) same is

-- The lines of each file are within the limit of a text.
pub lines_of_policy_files_fit_text_limit : (w : WalkedFiles) (policy : LoadedPolicy) → policy_of_walked_files w ≡ policy → AreSoundWalkedFiles w
    → (file : ℕ) → length (join (texts_of_lines (lines_of_numbered_file policy.files file))) ≤ text_limit
lines_of_policy_files_fit_text_limit w policy same walked file =
    subst (λ (p : LoadedPolicy). length (join (texts_of_lines (lines_of_numbered_file p.files file))) ≤ text_limit) same (lines_of_numbered_file_fit_text_limit w.tables w.files.items file walked.files)
