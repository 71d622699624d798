-- A rename of a defined alias to a free name changes no answer.
use Rattle.std.proofs.Common.{◌≡◌, ℕ, Bool, true, false, ◌&&◌, List, [], ◌∷◌, length, Option, Some, None, refl, sym, ap, ap₂, subst, ◌∙◌, if◌then◌else◌}
use Rattle.std.proofs.lemmas.Bool.{and_parts, or_parts as or_false}
use Rattle.std.proofs.lemmas.Slice.Eq.{bytes_eq-Decides}
use Rattle.std.specs.List.{AllByRecursion}
use Rattle.std.specs.Option.{option_map}
use Rattle.std.specs.Prelude.{nat_lt}
use Rattle.std.specs.Str.{bytes_eq}
use Rattle.sudoers_text.specs.Renamed.{IsDefinableName}
use Rattle.sudoers_grammar.specs.declared.node.Kind.{Kind}
use Rattle.sudoers_grammar.specs.declared.node.Atom.{Atom}
use Rattle.sudoers_grammar.specs.declared.node.Atom.TheVariants as atom
use Rattle.sudoers_grammar.specs.Node.{Member}
use Rattle.sudoers_tree.specs.Line.{Line}
use Rattle.sudoers_tree.specs.Definition.{PlacedDefinition, is_equal_kind, is_definition_of_name, first_definition_of, definitions_of_lines, definition_place_of_name}
use Rattle.sudoers_tree.specs.Fault.{is_some}
use Rattle.sudoers_tree.specs.Mention.{mentions_in_lines}
use Rattle.sudoers_tree.specs.Policy.{AreValidWalkLines}
use Rattle.sudoers_edit.specs.Renaming.{is_alias_name_in_use}
use Rattle.sudoers_match_list.specs.Alike.{IsPointwiseRelated, IsMemberCounterpart, AreBothUndefinedOrCounterparts, unchanged_atom}
use Rattle.sudoers_match_list.proofs.Alike.{KeepsAliasCounterparts}
use Rattle.sudoers_match_list.specs.Flat.{alias_members_of_atom as members_named}
use Rattle.sudoers_edit.specs.Renamed.{lines_after_rename}
use Rattle.sudoers_edit.proofs.NameFree.{IsLineWithoutAlias, lines_not_naming_alias_are_without_it}
use Rattle.sudoers_edit.proofs.RenamedNames.{name_after_rename, kinds_told_equal_are_same, renamed_definition_defines_renamed_name}
use Rattle.laws_edit.proofs.RenamedMembers.{IsAtomAfterRename, IsRenamedDefinition, all_renamed}
use Rattle.sudoers_edit.proofs.RenamedOnce.{undefined_name_is_lacked_by_definitions}
use Rattle.sudoers_edit.proofs.RenamedPolicy.{RenamedLineReadsAsRenamedNode, renamed_lines_are_valid_walk_lines, name_defined_on_walk_is_definable}
use Rattle.sudoers_edit.proofs.RenameLines.{name_of_no_mentions_is_not_mentioned}

-- ---- the members of an alias

abbrev optional_members_of_definition : Option PlacedDefinition → Option (List Member)
optional_members_of_definition o = option_map (λ (d : PlacedDefinition). d.def.members) o

placed_definition_has_members : (o : Option PlacedDefinition) → is_some (option_map (λ (d : PlacedDefinition). d.place) o) ≡ true → optional_members_of_definition o ≡ None → ⊥
placed_definition_has_members None some none = absurd cc
placed_definition_has_members (Some d) some none = absurd cc

module _ (k : Kind) (name fresh : List ℕ) where
  abbrev Stands : Kind → Atom → Atom → Type 0
  Stands j a b = IsAtomAfterRename k name fresh j a b

  -- a name with its new name has the members that it had
  defined_stands : (j : Kind) (word : List ℕ) → (is_equal_kind k j && bytes_eq fresh word) ≡ false → (ds es : List PlacedDefinition)
      → IsPointwiseRelated (IsRenamedDefinition k name fresh) ds es
      → AreBothUndefinedOrCounterparts (Stands j) (optional_members_of_definition (first_definition_of j word ds)) (optional_members_of_definition (first_definition_of j (name_after_rename k name fresh j word) es))
  defined_stands j word free [] [] all = tt
  defined_stands j word free [] (e ∷ es) all = absurd all
  defined_stands j word free (d ∷ ds) [] all = absurd all
  defined_stands j word free (d ∷ ds) (e ∷ es) all =
      subst (λ (b : Bool). AreBothUndefinedOrCounterparts (Stands j) (optional_members_of_definition (first_definition_of j word (d ∷ ds)))
      (optional_members_of_definition (if b then Some e else first_definition_of j (name_after_rename k name fresh j word) es)))
      (sym (renamed_definition_defines_renamed_name k name fresh j word d e all.0.kind all.0.called free all.0.lacks))
      (by (is_definition_of_name j word d) refl (defined_stands j word free ds es all.1))
    where
      by : (b : Bool) → is_definition_of_name j word d ≡ b
          → AreBothUndefinedOrCounterparts (IsAtomAfterRename k name fresh j) (optional_members_of_definition (first_definition_of j word ds)) (optional_members_of_definition (first_definition_of j (name_after_rename k name fresh j word) es))
          → AreBothUndefinedOrCounterparts (IsAtomAfterRename k name fresh j) (optional_members_of_definition (if b then Some d else first_definition_of j word ds))
          (optional_members_of_definition (if b then Some e else first_definition_of j (name_after_rename k name fresh j word) es))
      by true is more =
          subst (λ (i : Kind). IsPointwiseRelated (IsMemberCounterpart (IsAtomAfterRename k name fresh i)) d.def.members e.def.members)
          (sym (kinds_told_equal_are_same j d.kind (and_parts (is_equal_kind j d.kind) (bytes_eq word d.def.name) is).0)) all.0.members
      by false is more = more

  module _ (lines : List Line) (some : is_some (definition_place_of_name k name lines) ≡ true) (without : AllByRecursion (IsLineWithoutAlias k fresh) lines) where
    abbrev others : List Line
    others = lines_after_rename k name fresh lines

    alias_stands : (j : Kind) (a b : Atom) → Stands j a b → AreBothUndefinedOrCounterparts (Stands j) (members_named j lines a) (members_named j others b)
    alias_stands j (atom.Alias word) b is =
        subst (λ (c : Atom). AreBothUndefinedOrCounterparts (Stands j) (members_named j lines (atom.Alias word)) (members_named j others c)) (sym is.0)
        (defined_stands j word is.1 (definitions_of_lines lines) (definitions_of_lines others) (all_renamed k name fresh lines without))
    alias_stands j a b is = subst (λ (c : Atom). AreBothUndefinedOrCounterparts (Stands j) (members_named j lines a) (members_named j others c)) (sym is) tt

    -- the name that gets another is defined
    undefined_stays : (j : Kind) (word : List ℕ) → members_named j lines (atom.Alias word) ≡ None → name_after_rename k name fresh j word ≡ word
    undefined_stays j word none = by (is_equal_kind k j && bytes_eq name word) refl
      where
        by : (b : Bool) → (is_equal_kind k j && bytes_eq name word) ≡ b → (if b then fresh else word) ≡ word
        by true is =
            let parts = and_parts (is_equal_kind k j) (bytes_eq name word) is in
            let same : optional_members_of_definition (first_definition_of k name (definitions_of_lines lines)) ≡ optional_members_of_definition (first_definition_of j word (definitions_of_lines lines)) =
            ap₂ (λ (i : Kind) (w : List ℕ). optional_members_of_definition (first_definition_of i w (definitions_of_lines lines))) (kinds_told_equal_are_same k j parts.0) ((bytes_eq-Decides name word).0 parts.1) in
            absurd (placed_definition_has_members (first_definition_of k name (definitions_of_lines lines)) some (same ∙ none))
        by false is = refl

    undefined_stands : (j : Kind) (a b : Atom) → Stands j a b → members_named j lines a ≡ None → b ≡ a
    undefined_stands j (atom.Alias word) b is none = is.0 ∙ ap atom.Alias (undefined_stays j word none)
    undefined_stands j a b is none = is

    -- Each alias keeps its members, under the name that it has now.
    pub keeps_renamed : (j : Kind) → KeepsAliasCounterparts (Stands j) unchanged_atom j lines others
    keeps_renamed j = record { defined = alias_stands j; written = undefined_stands j }

-- A name that is free in the kind stands in no line as an alias of the kind.
pub lines_do_not_name_free_alias : (k : Kind) (fresh : List ℕ) (lines : List Line) → is_alias_name_in_use k fresh lines ≡ false → AllByRecursion (IsLineWithoutAlias k fresh) lines
lines_do_not_name_free_alias k fresh lines free =
    let parts = or_false (is_some (definition_place_of_name k fresh lines)) (nat_lt 0 (length (mentions_in_lines k fresh lines))) free in
    lines_not_naming_alias_are_without_it k fresh 0 lines (name_of_no_mentions_is_not_mentioned k fresh lines parts.1) (undefined_name_is_lacked_by_definitions k fresh (definitions_of_lines lines) parts.0)

-- The lines with the new name are in the order of a walk.
pub lines_renamed_to_free_name_are_valid : RenamedLineReadsAsRenamedNode → (k : Kind) (name fresh : List ℕ) (lines : List Line) → is_some (definition_place_of_name k name lines) ≡ true → is_alias_name_in_use k fresh lines ≡ false
    → AreValidWalkLines lines → IsDefinableName fresh → AreValidWalkLines (lines_after_rename k name fresh lines)
lines_renamed_to_free_name_are_valid law k name fresh lines some free walk new =
    renamed_lines_are_valid_walk_lines law k name fresh lines walk (name_defined_on_walk_is_definable k name lines walk some) new
    (or_false (is_some (definition_place_of_name k fresh lines)) (nat_lt 0 (length (mentions_in_lines k fresh lines))) free).0
