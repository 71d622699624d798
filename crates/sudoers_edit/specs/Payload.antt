-- How many bytes edits carry into the text of a policy.
use Rattle.std.specs.Prelude.{ℕ, ◌+◌, Bool, true, false, List, [], ◌∷◌, length}
use Rattle.sudoers_edit_script.specs.declared.edit.Edit.{Edit}
use Rattle.sudoers_edit_script.specs.declared.edit.Edit.TheVariants.{Insert, Delete, Move, AddMember, DropMember, AddDef, DropDef, Rename, EndLine, OpenEnd, Prune}

-- how many bytes an edit carries: those of its line or its splice
abbrev pub inserted_byte_count_of_edit : Edit → ℕ
inserted_byte_count_of_edit (Insert file at text) = length text
inserted_byte_count_of_edit (Delete file at) = 0
inserted_byte_count_of_edit (Move file from to) = 0
inserted_byte_count_of_edit (AddMember kind name at splice) = length splice
inserted_byte_count_of_edit (DropMember kind name at) = 0
inserted_byte_count_of_edit (AddDef file line at splice) = length splice
inserted_byte_count_of_edit (DropDef file line at) = 0
inserted_byte_count_of_edit (Rename kind name fresh) = 0
inserted_byte_count_of_edit (EndLine file) = 0
inserted_byte_count_of_edit (OpenEnd file) = 0
inserted_byte_count_of_edit Prune = 0

-- how many all of them carry
abbrev pub inserted_byte_count_of_edits : List Edit → ℕ
inserted_byte_count_of_edits [] = 0
inserted_byte_count_of_edits (edit ∷ edits) = inserted_byte_count_of_edit edit + inserted_byte_count_of_edits edits

-- The edit takes out lines, members or definitions.
abbrev pub is_removing_edit : Edit → Bool
is_removing_edit (Insert file at text) = false
is_removing_edit (Delete file at) = true
is_removing_edit (Move file from to) = false
is_removing_edit (AddMember kind name at splice) = false
is_removing_edit (DropMember kind name at) = true
is_removing_edit (AddDef file line at splice) = false
is_removing_edit (DropDef file line at) = true
is_removing_edit (Rename kind name fresh) = false
is_removing_edit (EndLine file) = false
is_removing_edit (OpenEnd file) = false
is_removing_edit Prune = true
