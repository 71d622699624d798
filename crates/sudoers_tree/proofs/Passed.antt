-- Lines that are appended to the walk, one after another.
use Rattle.sudoers_tree.proofs.Common.{AliasNameIndex, Duplicate, Err, IsIndexEntryOutcome, Line, List, None, NotLoaded, PlacedDefinition, ReadFault, Reserved, Some, Syntax, Text, TooDeep, TooMany, Twice, []}
use Rattle.sudoers_tree.proofs.Common.{ap, definitions_in_line, definitions_of_lines, first_definition_fault, inl, inr, length, refl, ◌++◌, ◌∙◌, ◌∷◌, ◌≡◌, ◌⊎◌}
use Rattle.sudoers_tree.specs.declared.fault.ReadFault.TheVariants.{NoMemory}
use Rattle.sudoers_tree.proofs.Joined.{definitions_with_last_line_are_appended}
use Rattle.sudoers_tree.proofs.Sound.{faultless_parts_have_faultless_append}

pub faultless_line_keeps_walk_faultless : (walk : List Line) (line : Line) → first_definition_fault [] (definitions_of_lines walk) ≡ None
    → first_definition_fault (definitions_of_lines walk) (definitions_in_line (length walk) line.node) ≡ None → first_definition_fault [] (definitions_of_lines (walk ++ line ∷ [])) ≡ None
faultless_line_keeps_walk_faultless walk line none here =
    ap (first_definition_fault []) (definitions_with_last_line_are_appended walk line) ∙ faultless_parts_have_faultless_append (definitions_of_lines walk) (definitions_in_line (length walk) line.node) none here

-- a name that cannot be entered
pub refused_index_entry_is_definition_fault : (fault : ReadFault) (index : AliasNameIndex) (before ds : List PlacedDefinition) → IsIndexEntryOutcome (Err fault) index before ds
    → (fault ≡ NoMemory) ⊎ (first_definition_fault before ds ≡ Some fault)
refused_index_entry_is_definition_fault (Text fault) index before ds is = inr is
refused_index_entry_is_definition_fault (Syntax row col why) index before ds is = inr is
refused_index_entry_is_definition_fault (Reserved k name) index before ds is = inr is
refused_index_entry_is_definition_fault (Duplicate k name) index before ds is = inr is
refused_index_entry_is_definition_fault (TooMany k) index before ds is = inr is
refused_index_entry_is_definition_fault (NotLoaded row name) index before ds is = inr is
refused_index_entry_is_definition_fault (Twice row name) index before ds is = inr is
refused_index_entry_is_definition_fault (TooDeep row) index before ds is = inr is
refused_index_entry_is_definition_fault NoMemory index before ds is = inl refl
