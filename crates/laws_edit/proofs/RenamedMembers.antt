-- Lines with another name for an alias stand for the lines before: each member of theirs for the one that it was.
use Rattle.std.proofs.Common.{◌≡◌, ℕ, ◌+◌, Bool, true, false, ◌&&◌, ◌-◌, List, [], ◌∷◌, length, map, Option, Some, None, refl, flat_map, if◌then◌else◌}
use Rattle.std.specs.List.{AllByRecursion, cons_option}
use Rattle.std.specs.Str.{bytes_eq}
use Rattle.sudoers_grammar.specs.declared.node.Kind.{Kind}
use Rattle.sudoers_grammar.specs.declared.node.Kind.TheVariants.{User, Runas, Host, Cmnd}
use Rattle.sudoers_grammar.specs.declared.node.Atom.{Atom}
use Rattle.sudoers_grammar.specs.declared.node.Atom.TheVariants as atom
use Rattle.sudoers_grammar.specs.Node.{Member, Def, RunasSpec, CmdSpec, HostGroup, Scope, Node}
use Rattle.sudoers_grammar.specs.Node as node
use Rattle.sudoers_grammar.specs.Renamed.{AliasRenaming, alias_offsets_in_atom, alias_offsets_in_member, alias_offsets_in_members, alias_offsets_in_definition, alias_offsets_in_runas_option, alias_offsets_in_command, alias_offsets_in_host_group, alias_offsets_in_scope, alias_offsets_in_node, atom_with_alias_renamed, member_with_alias_renamed, members_with_alias_renamed, definition_with_alias_renamed, runas_option_with_alias_renamed, command_with_alias_renamed, host_group_with_alias_renamed, scope_with_alias_renamed, node_with_alias_renamed, renaming_of_alias_in_node}
use Rattle.sudoers_tree.specs.Line.{Line}
use Rattle.sudoers_tree.specs.Definition.{PlacedDefinition, is_equal_kind, definitions_of_lines, definitions_from_place, definitions_in_line, definitions_from_line_number}
use Rattle.sudoers_match_list.specs.Alike.{IsPointwiseRelated, IsMemberCounterpart}
use Rattle.sudoers_match.specs.Beside.{node_unless_alias_line, nodes_without_alias_lines}
use Rattle.sudoers_match.proofs.Alike.{appended_related_lists_are_related}
use Rattle.sudoers_match.proofs.Counterparts.{AtomCounterpartRelation, AreMemberListCounterparts, AreRunasCounterparts, IsCommandCounterpart, IsHostGroupCounterpart, AreScopeCounterparts, IsLineCounterpart}
use Rattle.sudoers_edit.specs.Renamed.{named_alias_of_kind_and_name, lines_after_rename}
use Rattle.sudoers_edit.proofs.NameFree.{IsLineWithoutAlias, empty_joined_list_has_empty_parts}
use Rattle.sudoers_edit.proofs.NameGone.{renaming_of_named_alias}
use Rattle.sudoers_edit.proofs.RenamedNames.{name_after_rename, IsNotDefinitionOfAlias}

-- In a list of each kind an alias stands for itself, with its new name where it has one. No alias had that name.
abbrev pub IsAtomAfterRename : Kind → List ℕ → List ℕ → AtomCounterpartRelation
IsAtomAfterRename k name fresh j (atom.Alias word) b = (b ≡ atom.Alias (name_after_rename k name fresh j word)) × ((is_equal_kind k j && bytes_eq fresh word) ≡ false)
IsAtomAfterRename k name fresh j a b = b ≡ a

-- a definition, and what it is with the new name
pub record IsRenamedDefinition (k : Kind) (name fresh : List ℕ) (d e : PlacedDefinition) : Type 0 where
  pub kind : e.kind ≡ d.kind
  pub called : e.def.name ≡ name_after_rename k name fresh d.kind d.def.name
  pub lacks : IsNotDefinitionOfAlias k fresh d
  pub members : AreMemberListCounterparts (IsAtomAfterRename k name fresh) d.kind d.def.members e.def.members

empty_choice_of_offset_is_false : (b : Bool) (at : ℕ) → (if b then at ∷ [] else []) ≡ [] → b ≡ false
empty_choice_of_offset_is_false true at h = absurd cc
empty_choice_of_offset_is_false false at h = refl

module _ (k : Kind) (name fresh : List ℕ) where
  abbrev Stands : AtomCounterpartRelation
  Stands j a b = IsAtomAfterRename k name fresh j a b

  module _ (at : ℕ → ℕ) where
    abbrev r : AliasRenaming
    r = renaming_of_named_alias k name fresh at

    -- ---- lists

    atom_stands : (j : Kind) (stop : ℕ) (a : Atom) → alias_offsets_in_atom (named_alias_of_kind_and_name k fresh) (is_equal_kind k j) stop a ≡ [] → Stands j a (atom_with_alias_renamed r (is_equal_kind k j) a)
    atom_stands j stop (atom.Alias word) h = (refl, empty_choice_of_offset_is_false (is_equal_kind k j && bytes_eq fresh word) (stop - length fresh) h)
    atom_stands j stop a h = refl

    member_stands : (j : Kind) (m : Member) → alias_offsets_in_member (named_alias_of_kind_and_name k fresh) j m ≡ [] → IsMemberCounterpart (Stands j) m (member_with_alias_renamed r j m)
    member_stands j m h = record { negated = refl; digests = refl; atom = atom_stands j m.stop m.atom h }

    list_stands : (j : Kind) (ms : List Member) → alias_offsets_in_members (named_alias_of_kind_and_name k fresh) j ms ≡ [] → AreMemberListCounterparts Stands j ms (members_with_alias_renamed r j ms)
    list_stands j [] h = tt
    list_stands j (m ∷ ms) h =
        let p = empty_joined_list_has_empty_parts (alias_offsets_in_member (named_alias_of_kind_and_name k fresh) j m) (alias_offsets_in_members (named_alias_of_kind_and_name k fresh) j ms) h in
        (member_stands j m p.0, list_stands j ms p.1)

    runas_stands : (o : Option RunasSpec) → alias_offsets_in_runas_option (named_alias_of_kind_and_name k fresh) o ≡ [] → AreRunasCounterparts Stands o (runas_option_with_alias_renamed r o)
    runas_stands None h = tt
    runas_stands (Some s) h =
        let p = empty_joined_list_has_empty_parts (alias_offsets_in_members (named_alias_of_kind_and_name k fresh) Runas s.users) (alias_offsets_in_members (named_alias_of_kind_and_name k fresh) Runas s.groups) h in
        (list_stands Runas s.users p.0, list_stands Runas s.groups p.1)

    command_stands : (c : CmdSpec) → alias_offsets_in_command (named_alias_of_kind_and_name k fresh) c ≡ [] → IsCommandCounterpart Stands c (command_with_alias_renamed r c)
    command_stands c h =
        let p = empty_joined_list_has_empty_parts (alias_offsets_in_runas_option (named_alias_of_kind_and_name k fresh) c.runas) (alias_offsets_in_member (named_alias_of_kind_and_name k fresh) Cmnd c.member) h in
        record { runas = runas_stands c.runas p.0; options = refl; tags = refl; member = member_stands Cmnd c.member p.1 }

    commands_stand : (cs : List CmdSpec) → flat_map (alias_offsets_in_command (named_alias_of_kind_and_name k fresh)) cs ≡ []
        → IsPointwiseRelated (IsCommandCounterpart Stands) cs (map (command_with_alias_renamed r) cs)
    commands_stand [] h = tt
    commands_stand (c ∷ cs) h =
        let p = empty_joined_list_has_empty_parts (alias_offsets_in_command (named_alias_of_kind_and_name k fresh) c) (flat_map (alias_offsets_in_command (named_alias_of_kind_and_name k fresh)) cs) h in
        (command_stands c p.0, commands_stand cs p.1)

    group_stands : (g : HostGroup) → alias_offsets_in_host_group (named_alias_of_kind_and_name k fresh) g ≡ [] → IsHostGroupCounterpart Stands g (host_group_with_alias_renamed r g)
    group_stands g h =
        let p = empty_joined_list_has_empty_parts (alias_offsets_in_members (named_alias_of_kind_and_name k fresh) Host g.hosts) (flat_map (alias_offsets_in_command (named_alias_of_kind_and_name k fresh)) g.commands) h in
        record { hosts = list_stands Host g.hosts p.0; commands = commands_stand g.commands p.1 }

    groups_stand : (gs : List HostGroup) → flat_map (alias_offsets_in_host_group (named_alias_of_kind_and_name k fresh)) gs ≡ []
        → IsPointwiseRelated (IsHostGroupCounterpart Stands) gs (map (host_group_with_alias_renamed r) gs)
    groups_stand [] h = tt
    groups_stand (g ∷ gs) h =
        let p = empty_joined_list_has_empty_parts (alias_offsets_in_host_group (named_alias_of_kind_and_name k fresh) g) (flat_map (alias_offsets_in_host_group (named_alias_of_kind_and_name k fresh)) gs) h in
        (group_stands g p.0, groups_stand gs p.1)

    scope_stands : (s : Option Scope) → alias_offsets_in_scope (named_alias_of_kind_and_name k fresh) s ≡ [] → AreScopeCounterparts Stands s (scope_with_alias_renamed r s)
    scope_stands None h = tt
    scope_stands (Some s) h = (refl, list_stands s.kind s.members h)

    -- ---- lines

    line_stands : (n : Node) → alias_offsets_in_node (named_alias_of_kind_and_name k fresh) n ≡ [] → IsLineCounterpart Stands n (node_with_alias_renamed r n)
    line_stands (node.Defaults scope params) h = (scope_stands scope h, refl)
    line_stands (node.Spec users groups) h =
        let p = empty_joined_list_has_empty_parts (alias_offsets_in_members (named_alias_of_kind_and_name k fresh) User users) (flat_map (alias_offsets_in_host_group (named_alias_of_kind_and_name k fresh)) groups) h in
        (list_stands User users p.0, groups_stand groups p.1)
    line_stands (node.Alias j defs) h = tt
    line_stands node.Blank h = tt
    line_stands node.Comment h = tt
    line_stands (node.Include dir path) h = tt

    first_stands : (n : Node) → IsLineCounterpart Stands n (node_with_alias_renamed r n) → (ns ms : List Node) → IsPointwiseRelated (IsLineCounterpart Stands) ns ms
        → IsPointwiseRelated (IsLineCounterpart Stands) (cons_option (node_unless_alias_line n) ns) (cons_option (node_unless_alias_line (node_with_alias_renamed r n)) ms)
    first_stands (node.Alias j defs) is ns ms all = all
    first_stands n is ns ms all = (is, all)

    -- ---- definitions

    defs_stand : (j : Kind) (line n : ℕ) (defs : List Def) → flat_map (alias_offsets_in_definition (named_alias_of_kind_and_name k fresh) j) defs ≡ []
        → IsPointwiseRelated (IsRenamedDefinition k name fresh) (definitions_from_place j line n defs) (definitions_from_place j line n (map (definition_with_alias_renamed r j) defs))
    defs_stand j line n [] h = tt
    defs_stand j line n (d ∷ defs) h =
        let p = empty_joined_list_has_empty_parts (alias_offsets_in_definition (named_alias_of_kind_and_name k fresh) j d) (flat_map (alias_offsets_in_definition (named_alias_of_kind_and_name k fresh) j) defs) h in
        let q = empty_joined_list_has_empty_parts (if is_equal_kind k j && bytes_eq fresh d.name then d.start ∷ [] else []) (alias_offsets_in_members (named_alias_of_kind_and_name k fresh) j d.members) p.0 in (
          record {
            kind = refl;
            called = refl;
            lacks = empty_choice_of_offset_is_false (is_equal_kind k j && bytes_eq fresh d.name) d.start q.0;
            members = list_stands j d.members q.1;
          },
          defs_stand j line (n + 1) defs p.1,
        )

    line_definitions : (line : ℕ) (n : Node) → alias_offsets_in_node (named_alias_of_kind_and_name k fresh) n ≡ []
        → IsPointwiseRelated (IsRenamedDefinition k name fresh) (definitions_in_line line n) (definitions_in_line line (node_with_alias_renamed r n))
    line_definitions line (node.Alias j defs) h = defs_stand j line 0 defs h
    line_definitions line node.Blank h = tt
    line_definitions line node.Comment h = tt
    line_definitions line (node.Include dir path) h = tt
    line_definitions line (node.Defaults scope params) h = tt
    line_definitions line (node.Spec users groups) h = tt

  -- ---- all lines

  -- Each line stands for the line before, definitions aside.
  pub lines_stand : (lines : List Line) → AllByRecursion (IsLineWithoutAlias k fresh) lines
      → IsPointwiseRelated (IsLineCounterpart Stands) (nodes_without_alias_lines lines) (nodes_without_alias_lines (lines_after_rename k name fresh lines))
  lines_stand [] without = tt
  lines_stand (line ∷ lines) without =
      let at = (renaming_of_alias_in_node (named_alias_of_kind_and_name k name) fresh line.node).at in
      first_stands at line.node (line_stands at line.node without.0) (nodes_without_alias_lines lines) (nodes_without_alias_lines (lines_after_rename k name fresh lines))
      (lines_stand lines without.1)

  definitions_stand : (n : ℕ) (lines : List Line) → AllByRecursion (IsLineWithoutAlias k fresh) lines
      → IsPointwiseRelated (IsRenamedDefinition k name fresh) (definitions_from_line_number n lines) (definitions_from_line_number n (lines_after_rename k name fresh lines))
  definitions_stand n [] without = tt
  definitions_stand n (line ∷ lines) without =
      let r : AliasRenaming = renaming_of_alias_in_node (named_alias_of_kind_and_name k name) fresh line.node in
      appended_related_lists_are_related (IsRenamedDefinition k name fresh) (definitions_in_line n line.node) (definitions_in_line n (node_with_alias_renamed r line.node))
      (definitions_from_line_number (n + 1) lines) (definitions_from_line_number (n + 1) (lines_after_rename k name fresh lines))
      (line_definitions r.at n line.node without.0) (definitions_stand (n + 1) lines without.1)

  -- Each definition stands for the definition before.
  pub all_renamed : (lines : List Line) → AllByRecursion (IsLineWithoutAlias k fresh) lines
      → IsPointwiseRelated (IsRenamedDefinition k name fresh) (definitions_of_lines lines) (definitions_of_lines (lines_after_rename k name fresh lines))
  all_renamed lines without = definitions_stand 0 lines without
