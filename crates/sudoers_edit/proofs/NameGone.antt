-- Lines with another name for an alias do not mention the old one in its kind.
use Rattle.sudoers_edit.proofs.Common.{AliasRenaming, Atom, Bool, CmdSpec, Cmnd, Def, Host, HostGroup, Kind, Line, List, Member, Node, None, Runas, RunasSpec, Some, Span, User, [], ap, ap₂, atom_with_alias_renamed}
use Rattle.sudoers_edit.proofs.Common.{bytes_eq, command_with_alias_renamed, definition_with_alias_renamed, false, flat_map, flat_map-append, host_group_with_alias_renamed, if◌then◌else◌, is_equal_kind, length}
use Rattle.sudoers_edit.proofs.Common.{lines_after_rename, map, member_with_alias_renamed, members_in_host_group, members_of_runas, members_with_alias_renamed, mention_span_of_member, mention_spans_among_members}
use Rattle.sudoers_edit.proofs.Common.{mentions_from_line_number, mentions_in_line, named_alias_of_kind_and_name, node_with_alias_renamed, refl, renaming_of_alias_in_node, runas_option_with_alias_renamed, true, ℕ, ◌++◌, ◌+◌}
use Rattle.sudoers_edit.proofs.Common.{◌-◌, ◌∙◌, ◌∷◌, ◌≡◌}
use Rattle.std.specs.Prelude.{Option}
use Rattle.sudoers_grammar.specs.declared.node.Atom.TheVariants as atom
use Rattle.sudoers_grammar.specs.Node as node
use Rattle.sudoers_edit.proofs.NameStarts.{flat_map_of_empty_is_empty, flat_map_of_map_composes, flat_map_of_flat_map_composes}

-- another name for an alias of this kind
abbrev pub renaming_of_named_alias : Kind → List ℕ → List ℕ → (ℕ → ℕ) → AliasRenaming
renaming_of_named_alias k name fresh at = record { old = named_alias_of_kind_and_name k name; fresh = fresh; at = at }

-- the mentions of the name in a member
abbrev mention_spans_of_whole_member : ℕ → List ℕ → Member → List Span
mention_spans_of_whole_member n name m = mention_span_of_member n name m m.atom

renamed_word_is_not_old_name : (name fresh word : List ℕ) → bytes_eq name fresh ≡ false → bytes_eq name (if bytes_eq name word then fresh else word) ≡ false
renamed_word_is_not_old_name name fresh word differ = by (bytes_eq name word) refl
  where
    by : (b : Bool) → bytes_eq name word ≡ b → bytes_eq name (if b then fresh else word) ≡ false
    by true is = differ
    by false is = is

-- ---- members

renamed_atom_lacks_old_name : (k : Kind) (name fresh : List ℕ) (at : ℕ → ℕ) → bytes_eq name fresh ≡ false → (n : ℕ) (m : Member) (a : Atom)
    → mention_span_of_member n name m (atom_with_alias_renamed (renaming_of_named_alias k name fresh at) true a) ≡ []
renamed_atom_lacks_old_name k name fresh at differ n m (atom.Alias word) =
    ap (λ (b : Bool). if b then record { line = n; start = m.stop - length name; stop = m.stop } ∷ [] else []) (renamed_word_is_not_old_name name fresh word differ)
renamed_atom_lacks_old_name k name fresh at differ n m a = refl

renamed_member_lacks_old_name : (k j : Kind) (name fresh : List ℕ) (at : ℕ → ℕ) → bytes_eq name fresh ≡ false → is_equal_kind k j ≡ true → (n : ℕ) (m : Member)
    → mention_spans_of_whole_member n name (member_with_alias_renamed (renaming_of_named_alias k name fresh at) j m) ≡ []
renamed_member_lacks_old_name k j name fresh at differ is n m =
    let r : AliasRenaming = renaming_of_named_alias k name fresh at in
    ap (λ (b : Bool). mention_span_of_member n name (member_with_alias_renamed r j m) (atom_with_alias_renamed r b m.atom)) is
    ∙ renamed_atom_lacks_old_name k name fresh at differ n (member_with_alias_renamed r j m) m.atom

renamed_members_lack_old_name : (k j : Kind) (name fresh : List ℕ) (at : ℕ → ℕ) → bytes_eq name fresh ≡ false → is_equal_kind k j ≡ true → (n : ℕ) (ms : List Member)
    → mention_spans_among_members n name (members_with_alias_renamed (renaming_of_named_alias k name fresh at) j ms) ≡ []
renamed_members_lack_old_name k j name fresh at differ is n ms =
    let r : AliasRenaming = renaming_of_named_alias k name fresh at in
    flat_map_of_map_composes (mention_spans_of_whole_member n name) (member_with_alias_renamed r j) ms
    ∙ flat_map_of_empty_is_empty (λ (m : Member). mention_spans_of_whole_member n name (member_with_alias_renamed r j m)) ms (renamed_member_lacks_old_name k j name fresh at differ is n)

-- lists of lists, each of which has come from another
mapped_lists_lack_old_name : {X Y : Type 0} (n : ℕ) (name : List ℕ) (members : Y → List Member) (other : X → Y) (xs : List X)
    → ((x : X) → mention_spans_among_members n name (members (other x)) ≡ []) → mention_spans_among_members n name (flat_map members (map other xs)) ≡ []
mapped_lists_lack_old_name {X} {Y} n name members other xs gone =
    flat_map_of_flat_map_composes (mention_spans_of_whole_member n name) members (map other xs)
    ∙ flat_map_of_map_composes (λ (y : Y). mention_spans_among_members n name (members y)) other xs
    ∙ flat_map_of_empty_is_empty (λ (x : X). mention_spans_among_members n name (members (other x))) xs gone

-- ---- commands, and the hosts for them

renamed_runas_lacks_old_name : (name fresh : List ℕ) (at : ℕ → ℕ) → bytes_eq name fresh ≡ false → (n : ℕ) (o : Option RunasSpec)
    → mention_spans_among_members n name (members_of_runas (runas_option_with_alias_renamed (renaming_of_named_alias Runas name fresh at) o)) ≡ []
renamed_runas_lacks_old_name name fresh at differ n None = refl
renamed_runas_lacks_old_name name fresh at differ n (Some s) =
    let r : AliasRenaming = renaming_of_named_alias Runas name fresh at in
    flat_map-append (mention_spans_of_whole_member n name) (members_with_alias_renamed r Runas s.users) (members_with_alias_renamed r Runas s.groups)
    ∙ ap₂ (λ (us vs : List Span). us ++ vs) (renamed_members_lack_old_name Runas Runas name fresh at differ refl n s.users)
    (renamed_members_lack_old_name Runas Runas name fresh at differ refl n s.groups)

renamed_host_group_lacks_old_name : (k : Kind) (name fresh : List ℕ) (at : ℕ → ℕ) → bytes_eq name fresh ≡ false → (n : ℕ) (g : HostGroup)
    → mention_spans_among_members n name (members_in_host_group k (host_group_with_alias_renamed (renaming_of_named_alias k name fresh at) g)) ≡ []
renamed_host_group_lacks_old_name User name fresh at differ n g = refl
renamed_host_group_lacks_old_name Runas name fresh at differ n g =
    mapped_lists_lack_old_name n name (λ (c : CmdSpec). members_of_runas c.runas) (command_with_alias_renamed (renaming_of_named_alias Runas name fresh at)) g.commands
    (λ c. renamed_runas_lacks_old_name name fresh at differ n c.runas)
renamed_host_group_lacks_old_name Host name fresh at differ n g = renamed_members_lack_old_name Host Host name fresh at differ refl n g.hosts
renamed_host_group_lacks_old_name Cmnd name fresh at differ n g =
    let r : AliasRenaming = renaming_of_named_alias Cmnd name fresh at in
    flat_map_of_map_composes (mention_spans_of_whole_member n name) (λ (c : CmdSpec). c.member) (map (command_with_alias_renamed r) g.commands)
    ∙ flat_map_of_map_composes (λ (c : CmdSpec). mention_spans_of_whole_member n name c.member) (command_with_alias_renamed r) g.commands
    ∙ flat_map_of_empty_is_empty (λ (c : CmdSpec). mention_spans_of_whole_member n name (member_with_alias_renamed r Cmnd c.member)) g.commands
    (λ c. renamed_member_lacks_old_name Cmnd Cmnd name fresh at differ refl n c.member)

-- ---- lines

members_of_kind_lack_old_name : (k j : Kind) (n : ℕ) (name : List ℕ) (ms : List Member) → (is_equal_kind k j ≡ true → mention_spans_among_members n name ms ≡ [])
    → mention_spans_among_members n name (if is_equal_kind k j then ms else []) ≡ []
members_of_kind_lack_old_name k j n name ms gone = by (is_equal_kind k j) refl
  where
    by : (b : Bool) → is_equal_kind k j ≡ b → mention_spans_among_members n name (if b then ms else []) ≡ []
    by true is = gone is
    by false is = refl

renamed_spec_lacks_old_name : (k : Kind) (name fresh : List ℕ) (at : ℕ → ℕ) → bytes_eq name fresh ≡ false → (n : ℕ) (users : List Member) (groups : List HostGroup)
    → mentions_in_line k name n (node_with_alias_renamed (renaming_of_named_alias k name fresh at) (node.Spec users groups)) ≡ []
renamed_spec_lacks_old_name User name fresh at differ n users groups = renamed_members_lack_old_name User User name fresh at differ refl n users
renamed_spec_lacks_old_name Runas name fresh at differ n users groups =
    mapped_lists_lack_old_name n name (members_in_host_group Runas) (host_group_with_alias_renamed (renaming_of_named_alias Runas name fresh at)) groups (renamed_host_group_lacks_old_name Runas name fresh at differ n)
renamed_spec_lacks_old_name Host name fresh at differ n users groups =
    mapped_lists_lack_old_name n name (members_in_host_group Host) (host_group_with_alias_renamed (renaming_of_named_alias Host name fresh at)) groups (renamed_host_group_lacks_old_name Host name fresh at differ n)
renamed_spec_lacks_old_name Cmnd name fresh at differ n users groups =
    mapped_lists_lack_old_name n name (members_in_host_group Cmnd) (host_group_with_alias_renamed (renaming_of_named_alias Cmnd name fresh at)) groups (renamed_host_group_lacks_old_name Cmnd name fresh at differ n)

renamed_line_lacks_old_name : (k : Kind) (name fresh : List ℕ) (at : ℕ → ℕ) → bytes_eq name fresh ≡ false → (n : ℕ) (says : Node)
    → mentions_in_line k name n (node_with_alias_renamed (renaming_of_named_alias k name fresh at) says) ≡ []
renamed_line_lacks_old_name k name fresh at differ n (node.Alias j defs) =
    let r : AliasRenaming = renaming_of_named_alias k name fresh at in
    members_of_kind_lack_old_name k j n name (flat_map (λ (d : Def). d.members) (map (definition_with_alias_renamed r j) defs))
    (λ is. mapped_lists_lack_old_name n name (λ (d : Def). d.members) (definition_with_alias_renamed r j) defs (λ d. renamed_members_lack_old_name k j name fresh at differ is n d.members))
renamed_line_lacks_old_name k name fresh at differ n node.Blank = refl
renamed_line_lacks_old_name k name fresh at differ n node.Comment = refl
renamed_line_lacks_old_name k name fresh at differ n (node.Include dir path) = refl
renamed_line_lacks_old_name k name fresh at differ n (node.Defaults None params) = refl
renamed_line_lacks_old_name k name fresh at differ n (node.Defaults (Some s) params) =
    members_of_kind_lack_old_name k s.kind n name (members_with_alias_renamed (renaming_of_named_alias k name fresh at) s.kind s.members)
    (λ is. renamed_members_lack_old_name k s.kind name fresh at differ is n s.members)
renamed_line_lacks_old_name k name fresh at differ n (node.Spec users groups) = renamed_spec_lacks_old_name k name fresh at differ n users groups

pub renamed_lines_lack_old_name : (k : Kind) (name fresh : List ℕ) → bytes_eq name fresh ≡ false → (n : ℕ) (lines : List Line)
    → mentions_from_line_number k name n (lines_after_rename k name fresh lines) ≡ []
renamed_lines_lack_old_name k name fresh differ n [] = refl
renamed_lines_lack_old_name k name fresh differ n (line ∷ lines) =
    ap₂ (λ (us vs : List Span). us ++ vs)
    (renamed_line_lacks_old_name k name fresh (renaming_of_alias_in_node (named_alias_of_kind_and_name k name) fresh line.node).at differ n line.node)
    (renamed_lines_lack_old_name k name fresh differ (n + 1) lines)
