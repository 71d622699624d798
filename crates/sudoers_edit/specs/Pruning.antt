-- What Prune takes out of the files on the walk.
use Rattle.std.specs.Prelude.{ℕ, ◌+◌, ◌==◌, if◌then◌else◌, List, [], ◌∷◌, ◌++◌, length, map, reverse}
use Rattle.std.specs.List.{filter}
use Rattle.sudoers_tree.specs.Line.{Line}
use Rattle.sudoers_tree.specs.Definition.{PlacedDefinition, definitions_in_line}
use Rattle.sudoers_tree.specs.Walk.{WalkState, spot_of_walk_line}
use Rattle.sudoers_tree.specs.declared.place.WalkLineSpot.{WalkLineSpot}
use Rattle.sudoers_check.specs.Led.{is_unused}
use Rattle.sudoers_edit.specs.declared.prune_removals.PruneRemoval.{PruneRemoval}
use Rattle.sudoers_edit.specs.declared.prune_removals.PruneRemoval.TheVariants as removal
use Rattle.sudoers_edit_script.specs.declared.edit.Edit.{Edit}
use Rattle.sudoers_edit_script.specs.declared.edit.Edit.TheVariants.{Delete, DropDef}

abbrev pub edit_of_removal : PruneRemoval → Edit
edit_of_removal (removal.Line file at) = Delete file at
edit_of_removal (removal.Def file line at) = DropDef file line at

-- a line with so many definitions, of which these are unused, goes whole if they are all, and else without them, the last first
abbrev pub removals_of_line : WalkLineSpot → ℕ → List PlacedDefinition → List PruneRemoval
removals_of_line at count unused =
    if length unused == 0 then []
    else (if length unused == count then removal.Line at.file at.line ∷ []
    else map (λ (d : PlacedDefinition). removal.Def at.file at.line d.place.def) (reverse unused))

-- those of the lines of the walk that are numbered from this number on, the last line's first
abbrev pub removals_from_line_number : WalkState → ℕ → List Line → List PruneRemoval
removals_from_line_number w n [] = []
removals_from_line_number w n (line ∷ lines) =
    removals_from_line_number w (n + 1) lines
    ++ removals_of_line (spot_of_walk_line w n) (length (definitions_in_line n line.node)) (filter (is_unused w.lines) (definitions_in_line n line.node))

-- what Prune takes out of a policy, in its order
unfoldable pub prune_removals_of_walk : WalkState → List PruneRemoval
prune_removals_of_walk w = removals_from_line_number w 0 w.lines
