-- Edits of whole lines, and of the end of the last: the lines that they make of those of a file, or why they are refused.
use Rattle.std.specs.Prelude.{ℕ, Bool, false, ◌&&◌, ◌==◌, nat_lt, if◌then◌else◌, List, [], ◌∷◌, ◌++◌, length, insert, remove, slice_index_or, Option, Some, None, Result, Err, Ok}
use Rattle.std.specs.Option.{option_map}
use Rattle.sudoers_text.specs.Ended.{ends_in_lf}
use Rattle.sudoers_edit.specs.OneLine.{is_one_logical_line}
use Rattle.sudoers_edit.specs.Landing.{is_line_too_long, LineTexts}
use Rattle.sudoers_edit.specs.declared.fault.EditFault.{EditFault}
use Rattle.sudoers_edit.specs.declared.fault.EditFault.TheVariants.{NoLine, NotOneLine, EndAsIs, TooLarge}

-- the lines with the line `from` taken out and put where it stands at `to`
abbrev pub lines_with_one_moved : ℕ → ℕ → List (List ℕ) → List (List ℕ)
lines_with_one_moved from to lines = insert (remove lines from) to (slice_index_or lines from [])

-- the lines with another last line, where there is one and it can be changed
abbrev pub lines_with_last_changed : (List ℕ → Option (List ℕ)) → List (List ℕ) → Option (List (List ℕ))
lines_with_last_changed change [] = None
lines_with_last_changed change (line ∷ []) = option_map (λ new. new ∷ []) (change line)
lines_with_last_changed change (line ∷ next ∷ lines) = option_map (λ new. line ∷ new) (lines_with_last_changed change (next ∷ lines))

-- the line with LF behind it, where it does not end in LF
abbrev pub line_with_lf_added : List ℕ → Option (List ℕ)
line_with_lf_added line = if ends_in_lf line then None else Some (line ++ 10 ∷ [])

-- the line without the LF that it ends in, where something stands before that
abbrev pub line_with_lf_removed : List ℕ → Option (List ℕ)
line_with_lf_removed [] = None
line_with_lf_removed (b ∷ []) = None
line_with_lf_removed (b ∷ c ∷ []) = if c == 10 then Some (b ∷ []) else None
line_with_lf_removed (b ∷ c ∷ d ∷ line) = option_map (λ new. b ∷ new) (line_with_lf_removed (c ∷ d ∷ line))

-- the last line is past the limit
abbrev pub is_last_line_too_long : List (List ℕ) → Bool
is_last_line_too_long [] = false
is_last_line_too_long (line ∷ []) = is_line_too_long line
is_last_line_too_long (line ∷ next ∷ lines) = is_last_line_too_long (next ∷ lines)

-- the lines with a text of one line before the line at a place
abbrev pub lines_after_insert : ℕ → List ℕ → LineTexts → Result LineTexts EditFault
lines_after_insert at text lines =
    if nat_lt (length lines) at then Err NoLine
    else (if is_one_logical_line text then Ok (insert lines at text) else Err NotOneLine)

-- the lines without the one at a place
abbrev pub lines_after_delete : ℕ → LineTexts → Result LineTexts EditFault
lines_after_delete at lines = if nat_lt at (length lines) then Ok (remove lines at) else Err NoLine

-- the lines with the line `from` taken out and put where it stands at `to`
abbrev pub lines_after_move : ℕ → ℕ → LineTexts → Result LineTexts EditFault
lines_after_move from to lines = if nat_lt from (length lines) && nat_lt to (length lines) then Ok (lines_with_one_moved from to lines) else Err NoLine

-- these lines, of which the last was changed, unless that is past the limit; if there are none, the end is as it should be
abbrev pub changed_lines_unless_last_too_long : Option LineTexts → Result LineTexts EditFault
changed_lines_unless_last_too_long None = Err EndAsIs
changed_lines_unless_last_too_long (Some lines) = if is_last_line_too_long lines then Err TooLarge else Ok lines
