-- Members and definitions put in and taken out: the lines that these edits make of those of a file, or why they are refused. The lines
-- come with what they say.
use Rattle.std.specs.Prelude.{ℕ, ◌+◌, Bool, not, ◌==◌, nat_lt, nat_le, List, [], length, Option, Some, None, Result, option_and_then, slice_get, unwrap_or, Ok}
use Rattle.std.specs.Option.{option_map}
use Rattle.sudoers_grammar.specs.Node.{Def, Node}
use Rattle.sudoers_tree.specs.Line.{Line}
use Rattle.sudoers_tree.specs.declared.place.Place.{Place}
use Rattle.sudoers_tree.specs.Policy.{texts_of_lines}
use Rattle.sudoers_tree.specs.Single.{reading_of_single_line}
use Rattle.sudoers_edit.specs.Landing.{result_unless_refused, result_or_refusal_if_none, is_line_too_long, LineTexts}
use Rattle.sudoers_edit.specs.Splice.{ByteExtent, extents_of_members, extents_of_definitions, owned_bytes_start, owned_bytes_stop, bytes_between, line_without_bytes, line_with_splice, has_one_member_more, has_one_definition_more}
use Rattle.sudoers_edit.specs.declared.extra_item.ItemListKind.{ItemListKind}
use Rattle.sudoers_edit.specs.declared.fault.EditFault.{EditFault}
use Rattle.sudoers_edit.specs.declared.fault.EditFault.TheVariants.{NoLine, NoAlias, NoPlace, OnlyOne, BadSplice, TooLarge}
use Rattle.sudoers_tree.specs.Changed.{lines_with_one_replaced}
use Rattle.sudoers_grammar.specs.Node as node
use Rattle.sudoers_edit.specs.declared.extra_item.ItemListKind.TheVariants as among

-- where one more may be put in, among these: at which byte
abbrev pub result_with_offset_to_add_item : ℕ → List ByteExtent → (ℕ → Result LineTexts EditFault) → Result LineTexts EditFault
result_with_offset_to_add_item at extents next = result_unless_refused (nat_lt (length extents) at) NoPlace (result_or_refusal_if_none (owned_bytes_start at extents) BadSplice next)

-- which bytes go with one that may be taken out, of these
abbrev pub result_with_bytes_to_drop_item : ℕ → List ByteExtent → (ℕ → ℕ → Result LineTexts EditFault) → Result LineTexts EditFault
result_with_bytes_to_drop_item at extents next =
    result_unless_refused (nat_le (length extents) at) NoPlace (result_unless_refused (length extents == 1) OnlyOne (
    result_or_refusal_if_none (owned_bytes_start at extents) BadSplice (λ from. result_or_refusal_if_none (owned_bytes_stop at extents) BadSplice (λ to. next from to))))

-- Of two lines the first reads as the second but for one definition, or one member of a definition, more.
abbrev pub has_one_item_more : ItemListKind → ℕ → ℕ → ℕ → Option Node → Option Node → Bool
has_one_item_more among.Definitions at from to more less = has_one_definition_more at from to more less
has_one_item_more (among.Members def) at from to more less = has_one_member_more def at from to more less

-- DEFINITIONS

-- the definitions of a line that makes them
abbrev pub definitions_of_alias_line : Node → Option (List Def)
definitions_of_alias_line (node.Alias k defs) = Some defs
definitions_of_alias_line node.Blank = None
definitions_of_alias_line node.Comment = None
definitions_of_alias_line (node.Include dir path) = None
definitions_of_alias_line (node.Defaults scope params) = None
definitions_of_alias_line (node.Spec users groups) = None

-- the line of this number and its definitions
abbrev pub result_with_line_definitions : ℕ → List Line → (Line → List Def → Result LineTexts EditFault) → Result LineTexts EditFault
result_with_line_definitions n policy next = result_or_refusal_if_none (slice_get policy n) NoLine (λ line. result_or_refusal_if_none (definitions_of_alias_line line.node) NoAlias (next line))

-- MEMBERS

-- the line and the definition at a place
abbrev pub result_with_definition_at : Option Place → List Line → (Place → Line → Def → Result LineTexts EditFault) → Result LineTexts EditFault
result_with_definition_at place policy next =
    result_or_refusal_if_none place NoAlias (λ at. result_or_refusal_if_none (slice_get policy at.line) NoAlias (λ line.
    result_or_refusal_if_none (definitions_of_alias_line line.node) NoAlias (λ defs. result_or_refusal_if_none (slice_get defs at.def) NoAlias (λ d. next at line d))))

-- WHAT IS TAKEN OUT

-- the bytes that the one at a place owns
abbrev pub text_owned_by_item_at_place : ℕ → List ByteExtent → List ℕ → List ℕ
text_owned_by_item_at_place at extents line = bytes_between (unwrap_or (owned_bytes_start at extents) 0) (unwrap_or (owned_bytes_stop at extents) 0) line

unfoldable pub text_owned_by_definition : ℕ → ℕ → List Line → List ℕ
text_owned_by_definition n at policy =
    unwrap_or (option_and_then (λ (line : Line). option_map (λ defs. text_owned_by_item_at_place at (extents_of_definitions defs) line.text) (definitions_of_alias_line line.node)) (slice_get policy n)) []

-- the lines with another at this place, unless that is past the limit
abbrev pub replaced_lines_unless_too_long : ℕ → List ℕ → LineTexts → Result LineTexts EditFault
replaced_lines_unless_too_long at line lines = result_unless_refused (is_line_too_long line) TooLarge (Ok (lines_with_one_replaced at line lines))

-- the lines with another at this place, if that reads as it should
abbrev pub replaced_lines_unless_bad_splice_or_too_long : Bool → ℕ → List ℕ → List Line → Result LineTexts EditFault
replaced_lines_unless_bad_splice_or_too_long reads at line lines = result_unless_refused (not reads) BadSplice (replaced_lines_unless_too_long at line (texts_of_lines lines))

-- one more put into the line `n`, at a byte
abbrev pub lines_with_item_put_in : ItemListKind → ℕ → ℕ → ℕ → List ℕ → Line → List Line → Result LineTexts EditFault
lines_with_item_put_in among at from n splice line lines =
    replaced_lines_unless_bad_splice_or_too_long (has_one_item_more among at from (from + length splice) (reading_of_single_line (line_with_splice from splice line.text)) (Some line.node))
    n (line_with_splice from splice line.text) lines

-- one taken out of the line `n`, with these bytes
abbrev pub lines_with_item_cut_out : ItemListKind → ℕ → ℕ → ℕ → ℕ → Line → List Line → Result LineTexts EditFault
lines_with_item_cut_out among at from to n line lines =
    replaced_lines_unless_bad_splice_or_too_long (has_one_item_more among at from to (Some line.node) (reading_of_single_line (line_without_bytes from to line.text)))
    n (line_without_bytes from to line.text) lines

-- DEFINITIONS

-- the lines with a definition more in the line `n`
unfoldable pub lines_with_definition_added : ℕ → ℕ → List ℕ → List Line → Result LineTexts EditFault
lines_with_definition_added n at splice lines =
    result_with_line_definitions n lines (λ line defs. result_with_offset_to_add_item at (extents_of_definitions defs) (λ from. lines_with_item_put_in among.Definitions at from n splice line lines))

-- the lines without a definition of the line `n`
unfoldable pub lines_with_definition_dropped : ℕ → ℕ → List Line → Result LineTexts EditFault
lines_with_definition_dropped n at lines =
    result_with_line_definitions n lines (λ line defs. result_with_bytes_to_drop_item at (extents_of_definitions defs) (λ from to. lines_with_item_cut_out among.Definitions at from to n line lines))

-- MEMBERS

-- the lines with a member more in the list of the alias that is defined at a place
unfoldable pub lines_with_member_added : Place → ℕ → List ℕ → List Line → Result LineTexts EditFault
lines_with_member_added place at splice lines =
    result_with_definition_at (Some place) lines (λ place line d.
    result_with_offset_to_add_item at (extents_of_members d.members) (λ from. lines_with_item_put_in (among.Members place.def) at from place.line splice line lines))

-- the lines without a member of the list of the alias that is defined at a place
unfoldable pub lines_with_member_dropped : Place → ℕ → List Line → Result LineTexts EditFault
lines_with_member_dropped place at lines =
    result_with_definition_at (Some place) lines (λ place line d.
    result_with_bytes_to_drop_item at (extents_of_members d.members) (λ from to. lines_with_item_cut_out (among.Members place.def) at from to place.line line lines))

-- the bytes that a member of the list of the alias at a place owns
unfoldable pub text_owned_by_member : Place → ℕ → List Line → List ℕ
text_owned_by_member place at lines =
    unwrap_or (option_and_then (λ (line : Line). option_and_then (λ defs.
    option_map (λ (d : Def). text_owned_by_item_at_place at (extents_of_members d.members) line.text) (slice_get defs place.def)) (definitions_of_alias_line line.node))
    (slice_get lines place.line)) []
