-- Which bytes of its line a member or a definition owns.
use Rattle.std.specs.Prelude.{ℕ, zero, suc, ◌-◌, Bool, false, ◌&&◌, ◌==◌, if◌then◌else◌, List, [], ◌∷◌, ◌++◌, take, drop, remove, map, Option, Some, None, slice_get}
use Rattle.std.specs.Option.{option_map}
use Rattle.sudoers_grammar.specs.Node.{Def, Member, Node}
use Rattle.sudoers_grammar.specs.Node as node
use Rattle.sudoers_tree.specs.Definition.{is_equal_kind}
use Rattle.sudoers_line_rows.specs.Alike.{are_lists_alike, is_same_def}

-- where something stands in its line: its first byte, and the byte behind its last
abbrev pub ByteExtent : Type 0
ByteExtent = ℕ × ℕ

abbrev pub extents_of_members : List Member → List ByteExtent
extents_of_members members = map (λ (m : Member). (m.start, m.stop)) members

abbrev pub extents_of_definitions : List Def → List ByteExtent
extents_of_definitions defs = map (λ (d : Def). (d.start, d.stop)) defs

-- OWNED BYTES

-- where the bytes begin that the one at a place owns: at the end of the one before it; of the first, at its start
abbrev pub owned_bytes_start : ℕ → List ByteExtent → Option ℕ
owned_bytes_start at extents =
    if at == 0 then option_map (λ (x : ByteExtent). x.0) (slice_get extents 0)
    else option_map (λ (x : ByteExtent). x.1) (slice_get extents (at - 1))

-- where they stop: at its own end; of the first, at the start of the next
abbrev pub owned_bytes_stop : ℕ → List ByteExtent → Option ℕ
owned_bytes_stop at extents =
    if at == 0 then option_map (λ (x : ByteExtent). x.0) (slice_get extents 1)
    else option_map (λ (x : ByteExtent). x.1) (slice_get extents at)

-- the bytes from one place of a line to another
abbrev pub bytes_between : ℕ → ℕ → List ℕ → List ℕ
bytes_between from to line = take (to - from) (drop from line)

-- the line without them
abbrev pub line_without_bytes : ℕ → ℕ → List ℕ → List ℕ
line_without_bytes from to line = take from line ++ drop to line

-- the line with a splice at a place
abbrev pub line_with_splice : ℕ → List ℕ → List ℕ → List ℕ
line_with_splice at splice line = take at line ++ splice ++ drop at line

-- ONE MORE

abbrev pub is_option_equal_to : ℕ → Option ℕ → Bool
is_option_equal_to n None = false
is_option_equal_to n (Some m) = n == m

-- with one more at a place these bytes are what that one owns, and without it they would go in there
abbrev pub are_owned_byte_offsets_in_both_lists : ℕ → ℕ → ℕ → List ByteExtent → List ByteExtent → Bool
are_owned_byte_offsets_in_both_lists at from to more less = is_option_equal_to from (owned_bytes_start at more) && is_option_equal_to to (owned_bytes_stop at more) && is_option_equal_to from (owned_bytes_start at less)

abbrev pub definition_without_member : ℕ → Def → Def
definition_without_member at d = record { name = d.name; start = d.start; stop = d.stop; members = remove d.members at }

-- the definitions, of which the one at a place is changed
abbrev pub definitions_with_one_changed : ℕ → (Def → Def) → List Def → List Def
definitions_with_one_changed at change [] = []
definitions_with_one_changed zero change (d ∷ defs) = change d ∷ defs
definitions_with_one_changed (suc at) change (d ∷ defs) = d ∷ definitions_with_one_changed at change defs

-- where the members of the definition at a place stand
abbrev pub extents_of_definition_members : Option Def → List ByteExtent
extents_of_definition_members None = []
extents_of_definition_members (Some d) = extents_of_members d.members

-- Of two lines of definitions the first reads as the second but for one member more, which stands in the definition `def` at the
-- place `at` and owns the bytes from `from` to `to`.
abbrev pub has_one_member_more : ℕ → ℕ → ℕ → ℕ → Option Node → Option Node → Bool
has_one_member_more def at from to (Some (node.Alias k more)) (Some (node.Alias j less)) =
    is_equal_kind k j && are_lists_alike is_same_def (definitions_with_one_changed def (definition_without_member at) more) less
    && are_owned_byte_offsets_in_both_lists at from to (extents_of_definition_members (slice_get more def)) (extents_of_definition_members (slice_get less def))
has_one_member_more def at from to more less = false

-- Of two lines of definitions the first reads as the second but for one definition more, which stands at the place `at` and owns the
-- bytes from `from` to `to`.
abbrev pub has_one_definition_more : ℕ → ℕ → ℕ → Option Node → Option Node → Bool
has_one_definition_more at from to (Some (node.Alias k more)) (Some (node.Alias j less)) =
    is_equal_kind k j && are_lists_alike is_same_def (remove more at) less
    && are_owned_byte_offsets_in_both_lists at from to (extents_of_definitions more) (extents_of_definitions less)
has_one_definition_more at from to more less = false
