-- Which files an edit may change.
use Rattle.std.specs.Option.{option_map}
use Rattle.std.specs.Prelude.{◌≡◌, ℕ, true, Some}
use Rattle.sudoers_tree.specs.FilePlaces.{file_place_of_definition}
use Rattle.sudoers_tree.specs.Load.{LoadedPolicy}
use Rattle.sudoers_tree.specs.Walk.{is_file_on_walk}
use Rattle.sudoers_tree.specs.declared.place.DefinitionFilePlace.{DefinitionFilePlace}
use Rattle.sudoers_edit_script.specs.declared.edit.Edit.{Edit}
use Rattle.sudoers_edit_script.specs.declared.edit.Edit.TheVariants.{Insert, Delete, Move, AddMember, DropMember, AddDef, DropDef, Rename, EndLine, OpenEnd, Prune}

-- The edit may change the file with this number: the file that it names, the file that defines its alias, or for a rename and a prune a file
-- on the walk.
abbrev pub MayChangeFile : Edit → LoadedPolicy → ℕ → Type 0
MayChangeFile (Insert g at text) policy f = f ≡ g
MayChangeFile (Delete g at) policy f = f ≡ g
MayChangeFile (Move g from to) policy f = f ≡ g
MayChangeFile (AddMember kind name at splice) policy f = option_map (λ (at : DefinitionFilePlace). at.file) (file_place_of_definition kind name policy.walk) ≡ Some f
MayChangeFile (DropMember kind name at) policy f = option_map (λ (at : DefinitionFilePlace). at.file) (file_place_of_definition kind name policy.walk) ≡ Some f
MayChangeFile (AddDef g line at splice) policy f = f ≡ g
MayChangeFile (DropDef g line at) policy f = f ≡ g
MayChangeFile (Rename kind name fresh) policy f = is_file_on_walk policy.walk f ≡ true
MayChangeFile (EndLine g) policy f = f ≡ g
MayChangeFile (OpenEnd g) policy f = f ≡ g
MayChangeFile Prune policy f = is_file_on_walk policy.walk f ≡ true
