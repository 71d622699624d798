-- The text of rules, spelled for sudo, where another spelling says the same.
use Rattle.std.specs.Prelude.{ℕ, Bool, true, false, ◌&&◌, if◌then◌else◌, List, [], ◌∷◌, map, Option, Some, None, Result, Ok, Err}
use Rattle.std.specs.Str.{bytes_eq}
use Rattle.sudoers_text.specs.declared.fault.TextFault.{TextFault}
use Rattle.sudoers_text.specs.Line.{join}
use Rattle.sudoers_text.specs.Cut.{cut_outcome_of_text}
use Rattle.sudoers_tree.specs.declared.load_fault.LoadFault.{LoadFault}
use Rattle.sudoers_tree.specs.Load.{LoadedPolicy, policy_or_load_fault, single_file_named_policy}
use Rattle.sudoers_cvt_rules.specs.Rules.{Rules, rules_of_policy_lines, is_printed_within_limits, printed_rules}
use Rattle.sudoers_forms.specs.declared.refused_form.RefusedForm.{RefusedForm}
use Rattle.sudoers_cvt_sudo.specs.Quotes.{line_with_bare_quotes}
use Rattle.sudoers_cvt_sudo.specs.Names.{line_with_spelled_names, refused_forms_of_text}
use Rattle.sudoers_cvt_sudo.specs.declared.name_spelling.NameSpelling.TheVariants as spelling

-- ---- what says the same

-- the text as which rules are printed, if it is within the limits
abbrev pub printed_rules_within_limits : Rules → Option (List ℕ)
printed_rules_within_limits rules = if is_printed_within_limits rules then Some (printed_rules rules) else None

abbrev pub printed_rules_of_loading : Result LoadedPolicy LoadFault → Option (List ℕ)
printed_rules_of_loading (Ok policy) = printed_rules_within_limits (rules_of_policy_lines policy.walk.lines)
printed_rules_of_loading (Err fault) = None

-- the text as which the rules of a text are printed, which is the only file of its policy
abbrev pub printed_rules_of_text : List ℕ → Option (List ℕ)
printed_rules_of_text text = printed_rules_of_loading (policy_or_load_fault (single_file_named_policy text))

abbrev pub is_same_text : List ℕ → Option (List ℕ) → Bool
is_same_text text None = false
is_same_text text (Some other) = bytes_eq other text

-- The rules of the other text are printed as this one.
abbrev pub is_text_of_rules_of : List ℕ → List ℕ → Bool
is_text_of_rules_of text other = is_same_text text (printed_rules_of_text other)

-- ---- what is chosen

abbrev pub are_no_forms : List RefusedForm → Bool
are_no_forms [] = true
are_no_forms (r ∷ rs) = false

-- No form of the text is refused by sudo.
abbrev pub is_read_by_sudo : List ℕ → Bool
is_read_by_sudo text = are_no_forms (refused_forms_of_text text)

-- sudo reads the spelling, and its rules are printed as the line.
abbrev pub is_spelling_for_sudo : List ℕ → List ℕ → Bool
is_spelling_for_sudo line spelled = is_read_by_sudo spelled && is_text_of_rules_of line spelled

-- the first of these spellings that sudo reads, or the line
abbrev pub first_spelling_for_sudo : List ℕ → List (List ℕ) → List ℕ
first_spelling_for_sudo line [] = line
first_spelling_for_sudo line (s ∷ ss) = if is_spelling_for_sudo line s then s else first_spelling_for_sudo line ss

-- Without backslashes before quotes in arguments, then with names in quotes, then with backslashes in names.
abbrev pub spellings_of_line : List ℕ → List (List ℕ)
spellings_of_line bare = bare ∷ line_with_spelled_names spelling.Quoted bare ∷ line_with_spelled_names spelling.Escaped bare ∷ []

-- A line that is printed of some rule: as it is, if sudo reads it; else the first of its spellings that sudo reads.
abbrev pub line_for_sudo : List ℕ → List ℕ
line_for_sudo line = if is_read_by_sudo line then line else first_spelling_for_sudo line (spellings_of_line (line_with_bare_quotes line))

abbrev pub join_of_lines_for_sudo : List ℕ → Result (List (List ℕ)) TextFault → List ℕ
join_of_lines_for_sudo text (Ok lines) = join (map line_for_sudo lines)
join_of_lines_for_sudo text (Err fault) = text

abbrev pub lines_for_sudo : List ℕ → List ℕ
lines_for_sudo text = join_of_lines_for_sudo text (cut_outcome_of_text text)

-- The text with these lines, if its rules are printed as the text; else the text itself.
unfoldable pub text_for_sudo : List ℕ → List ℕ
text_for_sudo text = if is_text_of_rules_of text (lines_for_sudo text) then lines_for_sudo text else text
