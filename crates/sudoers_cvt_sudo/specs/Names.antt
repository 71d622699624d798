-- A line in which the names that sudo refuses as they are spelled stand in quotes, or have backslashes.
use Rattle.std.specs.Prelude.{ℕ, Bool, true, false, not, ◌&&◌, ◌||◌, ◌==◌, if◌then◌else◌, List, [], ◌∷◌, ◌++◌, drop, slice_range, Result, Ok, Err}
use Rattle.sudoers_grammar.specs.Piece.{has_first_byte}
use Rattle.sudoers_tree.specs.declared.load_fault.LoadFault.{LoadFault}
use Rattle.sudoers_tree.specs.Load.{LoadedPolicy, policy_or_load_fault, single_file_named_policy}
use Rattle.sudoers_forms.specs.Forms.{forms_of_lines}
use Rattle.sudoers_forms.specs.declared.form.Form.{Form}
use Rattle.sudoers_forms.specs.declared.form.Form.TheVariants as form
use Rattle.sudoers_forms.specs.declared.refused_form.RefusedForm.{RefusedForm}
use Rattle.sudoers_cvt_sudo.specs.Quotes.{backslash_if}
use Rattle.sudoers_cvt_sudo.specs.declared.name_spelling.NameSpelling.{NameSpelling}
use Rattle.sudoers_cvt_sudo.specs.declared.name_spelling.NameSpelling.TheVariants as spelling

-- ---- a name

-- What stands in quotes for a byte: nothing for a backslash that begins a pair, and `\"` for a quote. escaped: such a backslash stands
-- directly left.
abbrev pub bytes_in_quotes : Bool → ℕ → List ℕ
bytes_in_quotes true b = if b == 34 then 92 ∷ b ∷ [] else b ∷ []
bytes_in_quotes false b = if b == 92 then [] else b ∷ []

-- What stands for it without quotes: `>` has a backslash.
abbrev pub bytes_without_quotes : Bool → ℕ → List ℕ
bytes_without_quotes true b = b ∷ []
bytes_without_quotes false b = if b == 62 then 92 ∷ b ∷ [] else b ∷ []

abbrev pub bytes_of_spelling : NameSpelling → Bool → ℕ → List ℕ
bytes_of_spelling spelling.Quoted escaped b = bytes_in_quotes escaped b
bytes_of_spelling spelling.Escaped escaped b = bytes_without_quotes escaped b

abbrev pub text_of_spelling : NameSpelling → Bool → List ℕ → List ℕ
text_of_spelling s escaped [] = []
text_of_spelling s escaped (b ∷ rest) = bytes_of_spelling s escaped b ++ text_of_spelling s (not escaped && b == 92) rest

-- The name, without its backslashes, in quotes.
abbrev pub quoted_name : List ℕ → List ℕ
quoted_name text = 34 ∷ (text_of_spelling spelling.Quoted false text ++ 34 ∷ [])

-- The name, with a backslash before its first byte and before each `>`.
abbrev pub escaped_name : List ℕ → List ℕ
escaped_name text = backslash_if (not (has_first_byte 92 text || has_first_byte 62 text)) ++ text_of_spelling spelling.Escaped false text

-- ---- the names of a line

-- sudo refuses the text for how it is spelled.
abbrev pub is_form_of_spelling : Form → Bool
is_form_of_spelling form.SlashName = true
is_form_of_spelling form.WordByte = true
is_form_of_spelling form.RegexName = true
is_form_of_spelling form.ReservedName = true
is_form_of_spelling form.OptionName = true
is_form_of_spelling form.AddressName = true
is_form_of_spelling form.ValueWord = true
is_form_of_spelling form.FolderValue = true
is_form_of_spelling form.LineWord = true
is_form_of_spelling form.BlankContinuation = true
is_form_of_spelling f = false

-- In quotes sudo refuses it too: a folder, and a value that begins with `%` or `+`.
abbrev pub is_refused_in_quotes : Form → List ℕ → Bool
is_refused_in_quotes form.FolderValue text = true
is_refused_in_quotes form.ValueWord text = has_first_byte 37 text || has_first_byte 43 text
is_refused_in_quotes f text = false

abbrev pub spelled_name : NameSpelling → Form → List ℕ → List ℕ
spelled_name spelling.Quoted f text = if is_refused_in_quotes f text then escaped_name text else quoted_name text
spelled_name spelling.Escaped f text = escaped_name text

-- A text that sudo refuses for this form, spelled so; one that stands in quotes stays.
abbrev pub spelled_text : NameSpelling → Form → List ℕ → List ℕ
spelled_text s f text = if is_form_of_spelling f && not (has_first_byte 34 text) then spelled_name s f text else text

-- the line from this place on, where these forms stand
abbrev pub rest_with_spelled_names : NameSpelling → List ℕ → ℕ → List RefusedForm → List ℕ
rest_with_spelled_names s line at [] = drop at line
rest_with_spelled_names s line at (r ∷ rs) =
    slice_range line at r.at.start ++ (spelled_text s r.form (slice_range line r.at.start r.at.stop) ++ rest_with_spelled_names s line r.at.stop rs)

-- the forms that sudo refuses in a text, which is the only file of its policy
abbrev pub refused_forms_of_loading : Result LoadedPolicy LoadFault → List RefusedForm
refused_forms_of_loading (Ok policy) = forms_of_lines 0 policy.walk.lines
refused_forms_of_loading (Err fault) = []

abbrev pub refused_forms_of_text : List ℕ → List RefusedForm
refused_forms_of_text text = refused_forms_of_loading (policy_or_load_fault (single_file_named_policy text))

-- The line, with each name so that sudo refuses for its spelling.
abbrev pub line_with_spelled_names : NameSpelling → List ℕ → List ℕ
line_with_spelled_names s line = rest_with_spelled_names s line 0 (refused_forms_of_text line)
