-- Some texts, and what is computed of them.
use Rattle.std.proofs.Common.{◌≡◌, ℕ, List, [], ◌∷◌, ◌++◌, refl, Ok, Err}
use Rattle.std.specs.Prelude.{codes}
use Rattle.sudoers_text.specs.declared.fault.TextFault.TheVariants.{Nul, OpenContinuation}
use Rattle.sudoers_text.specs.Cut.{reversed_units_from_place, units_of_first_line, size_of_first_line_units, first_line_size, first_lines_up_to_count, logical_lines_of_text, is_unfinished_line, fault_of_logical_line, first_fault_of_lines, cut_outcome_of_text}

-- a backslash and LF; LF
abbrev backslash_and_lf : List ℕ
backslash_and_lf = 92 ∷ 10 ∷ []

abbrev single_lf_text : List ℕ
single_lf_text = 10 ∷ []

empty_text_is_cut_into_no_lines : cut_outcome_of_text [] ≡ Ok []
unfolding cut_outcome_of_text first_fault_of_lines logical_lines_of_text first_lines_up_to_count
empty_text_is_cut_into_no_lines = refl

-- A comment goes up to the line end, also behind a backslash.
backslash_in_comment_does_not_continue_line : cut_outcome_of_text (codes "# a " ++ backslash_and_lf ++ codes "bob ALL=ALL" ++ single_lf_text) ≡ Ok ((codes "# a " ++ backslash_and_lf) ∷ (codes "bob ALL=ALL" ++ single_lf_text) ∷ [])
unfolding cut_outcome_of_text first_fault_of_lines fault_of_logical_line logical_lines_of_text first_lines_up_to_count first_line_size size_of_first_line_units units_of_first_line reversed_units_from_place is_unfinished_line
backslash_in_comment_does_not_continue_line = refl

backslash_before_lf_continues_line : cut_outcome_of_text (codes "bob " ++ backslash_and_lf ++ codes "ALL=ALL" ++ single_lf_text) ≡ Ok ((codes "bob " ++ backslash_and_lf ++ codes "ALL=ALL" ++ single_lf_text) ∷ [])
unfolding cut_outcome_of_text first_fault_of_lines fault_of_logical_line logical_lines_of_text first_lines_up_to_count first_line_size size_of_first_line_units units_of_first_line reversed_units_from_place is_unfinished_line
backslash_before_lf_continues_line = refl

text_ending_in_continuation_is_refused : cut_outcome_of_text (codes "bob " ++ backslash_and_lf) ≡ Err OpenContinuation
unfolding cut_outcome_of_text first_fault_of_lines fault_of_logical_line logical_lines_of_text first_lines_up_to_count first_line_size size_of_first_line_units units_of_first_line reversed_units_from_place is_unfinished_line
text_ending_in_continuation_is_refused = refl

text_with_nul_is_refused : cut_outcome_of_text (codes "a" ++ 0 ∷ []) ≡ Err (Nul 1)
unfolding cut_outcome_of_text first_fault_of_lines fault_of_logical_line logical_lines_of_text first_lines_up_to_count first_line_size size_of_first_line_units units_of_first_line reversed_units_from_place is_unfinished_line
text_with_nul_is_refused = refl

-- An include is no comment.
include_ending_in_continuation_is_refused : cut_outcome_of_text (codes "#include " ++ backslash_and_lf) ≡ Err OpenContinuation
unfolding cut_outcome_of_text first_fault_of_lines fault_of_logical_line logical_lines_of_text first_lines_up_to_count first_line_size size_of_first_line_units units_of_first_line reversed_units_from_place is_unfinished_line
include_ending_in_continuation_is_refused = refl

-- A quoted part ends with its line.
unclosed_quote_ends_with_its_line : cut_outcome_of_text (34 ∷ codes "a" ++ single_lf_text ++ codes "b" ++ 34 ∷ single_lf_text) ≡ Ok ((34 ∷ codes "a" ++ single_lf_text) ∷ (codes "b" ++ 34 ∷ single_lf_text) ∷ [])
unfolding cut_outcome_of_text first_fault_of_lines fault_of_logical_line logical_lines_of_text first_lines_up_to_count first_line_size size_of_first_line_units units_of_first_line reversed_units_from_place is_unfinished_line
unclosed_quote_ends_with_its_line = refl
