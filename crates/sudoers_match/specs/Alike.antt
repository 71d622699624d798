-- Rows and settings of two policies that say the same, though their atoms may be written otherwise there.
use Rattle.std.specs.Prelude.{◌≡◌, ℕ, List, [], ◌∷◌, Option, Some, None}
use Rattle.sudoers_grammar.specs.declared.node.Kind.{Kind}
use Rattle.sudoers_grammar.specs.declared.node.Kind.TheVariants.{User, Runas, Host, Cmnd}
use Rattle.sudoers_grammar.specs.declared.node.Atom.{Atom}
use Rattle.sudoers_grammar.specs.Node.{HostGroup, Member, RunasSpec, Scope}
use Rattle.sudoers_tree.specs.Line.{Line}
use Rattle.sudoers_match_member.specs.declared.people_and_commands.CommandLine.{CommandLine}
use Rattle.sudoers_match_member.specs.declared.people_and_commands.Group.{Group}
use Rattle.sudoers_match_member.specs.declared.people_and_commands.Person.{Person}
use Rattle.sudoers_match_member.specs.declared.people_and_commands.Who.{Who}
use Rattle.sudoers_match_member.specs.Hits.{is_user_atom_match, is_runas_group_atom_match, is_host_atom_match, is_command_atom_match}
use Rattle.sudoers_match_list.specs.Flat.{is_all_atom}
use Rattle.sudoers_match_list.specs.Alike.{IsPointwiseRelated, HaveSameFlatListAfterRewrite, signed_atom_with_atom_mapped}
use Rattle.sudoers_match.specs.Answer.{Answer}
use Rattle.sudoers_match.specs.Default.{runas_defaults_of_lines}
use Rattle.sudoers_match.specs.Heads.{AccumulatedCommandSettings, empty_command_settings, commands_with_settings, final_tags_of}
use Rattle.sudoers_match.specs.Rows.{PrivilegeRow}
use Rattle.sudoers_match.specs.Specs.{UserSpec}
use Rattle.sudoers_match.specs.Values.{final_values_of_options}

-- However an atom is written in the second policy, it matches the same there.
pub record KeepsAtomMatches (write : Atom → Atom) : Type 0 where
  pub all : (a : Atom) → is_all_atom (write a) ≡ is_all_atom a
  pub user : (person : Person) (a : Atom) → is_user_atom_match person (write a) ≡ is_user_atom_match person a
  pub group : (group : Group) (a : Atom) → is_runas_group_atom_match group (write a) ≡ is_runas_group_atom_match group a
  pub host : (who : Who) (a : Atom) → is_host_atom_match who (write a) ≡ is_host_atom_match who a
  pub command : (asked : CommandLine) (a : Atom) → is_command_atom_match asked (write a) ≡ is_command_atom_match asked a

-- ---- settings

-- The lists of a scope say the same, if it is one of users or of hosts. Scopes of runas users and of commands never count.
abbrev pub AreScopeListsAlike : (Atom → Atom) → List Line → List Line → Kind → List Member → List Member → Type 0
AreScopeListsAlike write lines others User ms ns = HaveSameFlatListAfterRewrite write User lines others ms ns
AreScopeListsAlike write lines others Host ms ns = HaveSameFlatListAfterRewrite write Host lines others ms ns
AreScopeListsAlike write lines others Runas ms ns = Unit {0}
AreScopeListsAlike write lines others Cmnd ms ns = Unit {0}

abbrev pub AreDefaultsScopesAlike : (Atom → Atom) → List Line → List Line → Option Scope → Option Scope → Type 0
AreDefaultsScopesAlike write lines others None None = Unit {0}
AreDefaultsScopesAlike write lines others None (Some t) = ⊥
AreDefaultsScopesAlike write lines others (Some s) None = ⊥
AreDefaultsScopesAlike write lines others (Some s) (Some t) = (t.kind ≡ s.kind) × AreScopeListsAlike write lines others s.kind s.members t.members

-- The settings have the same value, and their scopes say the same.
pub record AreRunasDefaultsAlike (write : Atom → Atom) (lines others : List Line) (s t : Option Scope × List ℕ) : Type 0 where
  pub scope : AreDefaultsScopesAlike write lines others s.0 t.0
  pub value : t.1 ≡ s.1

-- The policies have the same settings of runas_default.
abbrev pub AreAllRunasDefaultsAlike : (Atom → Atom) → List Line → List Line → Type 0
AreAllRunasDefaultsAlike write lines others = IsPointwiseRelated (AreRunasDefaultsAlike write lines others) (runas_defaults_of_lines lines) (runas_defaults_of_lines others)

-- ---- user specifications

-- The host groups are for the same hosts.
abbrev pub AreHostListsAlike : (Atom → Atom) → List Line → List Line → HostGroup → HostGroup → Type 0
AreHostListsAlike write lines others g h = HaveSameFlatListAfterRewrite write Host lines others g.hosts h.hosts

-- The user specifications are for the same users, and their host groups for the same hosts.
pub record AreSpecUsersAndHostsAlike (write : Atom → Atom) (lines others : List Line) (s t : UserSpec) : Type 0 where
  pub users : HaveSameFlatListAfterRewrite write User lines others s.users t.users
  pub groups : IsPointwiseRelated (AreHostListsAlike write lines others) s.groups t.groups

-- ---- commands

-- The lists of a Runas_Spec say the same, or both are empty.
abbrev pub AreRunasMemberListsAlike : (Atom → Atom) → List Line → List Line → List Member → List Member → Type 0
AreRunasMemberListsAlike write lines others [] [] = Unit {0}
AreRunasMemberListsAlike write lines others [] (n ∷ ns) = ⊥
AreRunasMemberListsAlike write lines others (m ∷ ms) [] = ⊥
AreRunasMemberListsAlike write lines others (m ∷ ms) (n ∷ ns) = HaveSameFlatListAfterRewrite write Runas lines others (m ∷ ms) (n ∷ ns)

abbrev pub AreRunasSpecsAlike : (Atom → Atom) → List Line → List Line → Option RunasSpec → Option RunasSpec → Type 0
AreRunasSpecsAlike write lines others None None = Unit {0}
AreRunasSpecsAlike write lines others None (Some s) = ⊥
AreRunasSpecsAlike write lines others (Some r) None = ⊥
AreRunasSpecsAlike write lines others (Some r) (Some s) =
    AreRunasMemberListsAlike write lines others r.users s.users × AreRunasMemberListsAlike write lines others r.groups s.groups

-- What holds of the commands says the same.
pub record AreCommandSettingsAlike (write : Atom → Atom) (lines others : List Line) (h g : AccumulatedCommandSettings) : Type 0 where
  pub runas : AreRunasSpecsAlike write lines others h.runas g.runas
  pub options : final_values_of_options g.options ≡ final_values_of_options h.options
  pub tags : final_tags_of g.tags ≡ final_tags_of h.tags

-- The commands say the same, and so does what holds of them.
pub record AreCommandsWithSettingsAlike (write : Atom → Atom) (lines others : List Line) (c d : AccumulatedCommandSettings × Member) : Type 0 where
  pub head : AreCommandSettingsAlike write lines others c.0 d.0
  pub member : HaveSameFlatListAfterRewrite write Cmnd lines others (c.1 ∷ []) (d.1 ∷ [])

-- The host groups are for the same hosts, and say the same of them, command by command.
pub record AreHostGroupsAlike (write : Atom → Atom) (lines others : List Line) (g h : HostGroup) : Type 0 where
  pub hosts : HaveSameFlatListAfterRewrite write Host lines others g.hosts h.hosts
  pub commands : IsPointwiseRelated (AreCommandsWithSettingsAlike write lines others) (commands_with_settings empty_command_settings g.commands) (commands_with_settings empty_command_settings h.commands)

-- The user specifications are for the same users, and say the same of them, host group by host group.
pub record AreUserSpecsAlike (write : Atom → Atom) (lines others : List Line) (s t : UserSpec) : Type 0 where
  pub users : HaveSameFlatListAfterRewrite write User lines others s.users t.users
  pub groups : IsPointwiseRelated (AreHostGroupsAlike write lines others) s.groups t.groups

-- ---- rows

-- The rows say the same. They may have other numbers.
pub record AreTwoRowsAlikeButSpecNumbers (write : Atom → Atom) (lines others : List Line) (r s : PrivilegeRow) : Type 0 where
  pub users : HaveSameFlatListAfterRewrite write User lines others r.users s.users
  pub hosts : HaveSameFlatListAfterRewrite write Host lines others r.hosts s.hosts
  pub runas : AreRunasSpecsAlike write lines others r.head.runas s.head.runas
  pub options : final_values_of_options s.head.options ≡ final_values_of_options r.head.options
  pub tags : final_tags_of s.head.tags ≡ final_tags_of r.head.tags
  pub atom : s.atom ≡ signed_atom_with_atom_mapped write r.atom

-- They have the same numbers too.
pub record AreTwoRowsAlikeWithSpecNumbers (write : Atom → Atom) (lines others : List Line) (r s : PrivilegeRow) : Type 0 where
  pub alike : AreTwoRowsAlikeButSpecNumbers write lines others r s
  pub spec : s.spec ≡ r.spec
  pub host_group : s.host_group ≡ r.host_group
  pub command : s.command ≡ r.command

-- Both answers say the same of the command, its numbers aside; or there is none.
abbrev pub AreAnswersSameButNumbers : Option Answer → Option Answer → Type 0
AreAnswersSameButNumbers None None = Unit {0}
AreAnswersSameButNumbers None (Some b) = ⊥
AreAnswersSameButNumbers (Some a) None = ⊥
AreAnswersSameButNumbers (Some a) (Some b) = (b.allow ≡ a.allow) × (b.tags ≡ a.tags) × (b.options ≡ a.options)
