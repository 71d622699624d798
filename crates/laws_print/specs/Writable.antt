-- What can be written: what the grammar can read, with no NUL in it.
use Rattle.std.specs.Prelude.{◌≡◌, ◌≢◌, ℕ, ◌≤◌, ◌<◌, ◌==◌, ◌&&◌, ◌||◌, not, Bool, true, false, List, [], ◌∷◌, codes, Option, Some, None, if◌then◌else◌}
use Rattle.std.specs.Str.{bytes_eq}
use Rattle.std.specs.List.{AllByRecursion, list_all}
use Rattle.sudoers_text.specs.Part.{is_word_byte, is_digest_byte, is_byte_of_parameter_name}
use Rattle.sudoers_text.specs.Word.{is_name, is_reserved}
use Rattle.sudoers_grammar.specs.declared.node.Kind.{Kind}
use Rattle.sudoers_grammar.specs.declared.node.Kind.TheVariants.{User, Runas, Host, Cmnd}
use Rattle.sudoers_grammar.specs.declared.node.Args.{Args}
use Rattle.sudoers_grammar.specs.declared.node.Args.TheVariants.{Any, Nothing, Pattern}
use Rattle.sudoers_grammar.specs.declared.node.Mask.{Mask}
use Rattle.sudoers_grammar.specs.declared.node.Mask.TheVariants as mask
use Rattle.sudoers_grammar.specs.declared.node.Atom.{Atom}
use Rattle.sudoers_grammar.specs.declared.node.Atom.TheVariants as atom
use Rattle.sudoers_grammar.specs.Node.{Digest, Member, Def, RunasSpec, CmdSpec, HostGroup, Scope, Setting, Param, Node}
use Rattle.sudoers_grammar.specs.declared.node.OptionName.{OptionName}
use Rattle.sudoers_grammar.specs.Node as node
use Rattle.sudoers_grammar.specs.declared.pattern.PatternSpelling.{PatternSpelling}
use Rattle.sudoers_grammar.specs.declared.pattern.PatternSpelling.TheVariants.{Command, Host as HostName}
use Rattle.sudoers_grammar.specs.Pattern.{is_dropped_backslash_before}
use Rattle.sudoers_grammar.specs.Piece.{has_first_byte, has_last_byte}
use Rattle.sudoers_grammar.specs.Number.{id_limit}
use Rattle.sudoers_grammar.specs.Atom.{is_option_value_allowed}
use Rattle.sudoers_grammar.specs.Grammar.{MayHaveDigests}

-- ---- patterns

-- a byte of a pattern that is no backslash
abbrev pub is_pattern_byte_but_backslash : ℕ → Bool
is_pattern_byte_but_backslash b = not (b == 0 || b == 10 || b == 13 || b == 92)

-- a byte that keeps the backslash before it
abbrev pub is_backslash_kept_before : PatternSpelling → ℕ → Bool
is_backslash_kept_before s c = not (c == 0 || c == 10 || c == 13 || is_dropped_backslash_before s c)

-- A pattern: such bytes, and backslashes that each stand before a byte that keeps it.
abbrev pub is_writable_pattern : PatternSpelling → List ℕ → Bool
is_writable_pattern s [] = true
is_writable_pattern s (b ∷ []) = is_pattern_byte_but_backslash b
is_writable_pattern s (b ∷ c ∷ rest) = if b == 92 then is_backslash_kept_before s c && is_writable_pattern s rest else is_pattern_byte_but_backslash b && is_writable_pattern s (c ∷ rest)

-- ---- members

-- the name of an alias, but for `ALL`
abbrev pub IsAliasName : List ℕ → Type 0
IsAliasName name = (is_name name ≡ true) × (bytes_eq name (codes "ALL") ≡ false)

-- A list of users or runas users can hold it.
abbrev pub IsWritableUserAtom : Atom → Type 0
IsWritableUserAtom atom.All = Unit {0}
IsWritableUserAtom (atom.Alias name) = IsAliasName name
IsWritableUserAtom (atom.Name name) = name ≢ []
IsWritableUserAtom (atom.Id n) = n ≤ id_limit
IsWritableUserAtom (atom.Group name) = name ≢ []
IsWritableUserAtom (atom.GroupId n) = n ≤ id_limit
IsWritableUserAtom (atom.NonUnix name) = name ≢ []
IsWritableUserAtom (atom.Netgroup name) = name ≢ []
IsWritableUserAtom a = ⊥

-- the number of an address
abbrev pub IsIpv4AddressNumber : ℕ → Type 0
IsIpv4AddressNumber n = n < 4294967296

abbrev pub IsWritableMask : Mask → Type 0
IsWritableMask (mask.Bits bits) = bits ≤ 32
IsWritableMask (mask.Dotted a) = IsIpv4AddressNumber a.number

-- A list of hosts can hold it.
abbrev pub IsWritableHostAtom : Atom → Type 0
IsWritableHostAtom atom.All = Unit {0}
IsWritableHostAtom (atom.Alias name) = IsAliasName name
IsWritableHostAtom (atom.Netgroup name) = (name ≢ []) × (list_all is_word_byte name ≡ true)
IsWritableHostAtom (atom.Host pattern) = (pattern ≢ []) × (is_writable_pattern HostName pattern ≡ true)
IsWritableHostAtom (atom.Address a) = IsIpv4AddressNumber a.number
IsWritableHostAtom (atom.Network a m) = IsIpv4AddressNumber a.number × IsWritableMask m
IsWritableHostAtom a = ⊥

-- Arguments are no regular expression.
abbrev pub IsWritableArgs : Args → Type 0
IsWritableArgs Any = Unit {0}
IsWritableArgs Nothing = Unit {0}
IsWritableArgs (Pattern p) = (is_writable_pattern Command p ≡ true) × (p ≢ []) × (has_first_byte 94 p ≡ false)

-- A command with these arguments may be no directory.
abbrev pub PathMayHaveArgs : List ℕ → Args → Type 0
PathMayHaveArgs path Any = Unit {0}
PathMayHaveArgs path args = has_last_byte 47 path ≡ false

-- A list of commands can hold it.
abbrev pub IsWritableCommandAtom : Atom → Type 0
IsWritableCommandAtom atom.All = Unit {0}
IsWritableCommandAtom (atom.Alias name) = (is_name name ≡ true) × (is_reserved name ≡ false)
IsWritableCommandAtom atom.Listing = Unit {0}
IsWritableCommandAtom (atom.Path path args) = (is_writable_pattern Command path ≡ true) × (has_first_byte 47 path ≡ true) × IsWritableArgs args × PathMayHaveArgs path args
IsWritableCommandAtom (atom.Sudoedit args) = IsWritableArgs args
IsWritableCommandAtom a = ⊥

abbrev pub IsWritableDigestText : Digest → Type 0
IsWritableDigestText d = (d.text ≢ []) × (list_all is_digest_byte d.text ≡ true)

-- Such a member, without digests.
pub record IsMemberWithoutDigests (P : Atom → Type 0) (m : Member) : Type 0 where
  pub is : P m.atom
  pub no_digests : m.digests ≡ []

abbrev pub IsWritableUserMember : Member → Type 0
IsWritableUserMember = IsMemberWithoutDigests IsWritableUserAtom

abbrev pub IsWritableHostMember : Member → Type 0
IsWritableHostMember = IsMemberWithoutDigests IsWritableHostAtom

pub record IsWritableCommandMember (m : Member) : Type 0 where
  pub is_command : IsWritableCommandAtom m.atom
  pub digests : AllByRecursion IsWritableDigestText m.digests
  pub suits : MayHaveDigests m.digests m

-- A list of this kind can hold the member.
abbrev pub IsWritableMemberOfKind : Kind → Member → Type 0
IsWritableMemberOfKind User = IsWritableUserMember
IsWritableMemberOfKind Runas = IsWritableUserMember
IsWritableMemberOfKind Host = IsWritableHostMember
IsWritableMemberOfKind Cmnd = IsWritableCommandMember

-- one or more, each so
abbrev pub IsNonEmptyListOf : {X : Type 0} → (X → Type 0) → List X → Type 0
IsNonEmptyListOf P [] = ⊥
IsNonEmptyListOf P (x ∷ xs) = AllByRecursion P (x ∷ xs)

-- ---- definitions of aliases

pub record IsWritableDefinition (k : Kind) (d : Def) : Type 0 where
  pub name : is_name d.name ≡ true
  pub members : IsNonEmptyListOf (IsWritableMemberOfKind k) d.members

-- ---- user specifications

abbrev pub IsWritableRunasSpec : Option RunasSpec → Type 0
IsWritableRunasSpec None = Unit {0}
IsWritableRunasSpec (Some r) = AllByRecursion IsWritableUserMember r.users × AllByRecursion IsWritableUserMember r.groups

-- The option may have the value.
abbrev pub IsWritableOption : OptionName × List ℕ → Type 0
IsWritableOption o = is_option_value_allowed o.0 o.1 ≡ true

pub record IsWritableCommand (c : CmdSpec) : Type 0 where
  pub runas : IsWritableRunasSpec c.runas
  pub options : AllByRecursion IsWritableOption c.options
  pub member : IsWritableCommandMember c.member

pub record IsWritableHostGroup (g : HostGroup) : Type 0 where
  pub hosts : IsNonEmptyListOf IsWritableHostMember g.hosts
  pub commands : IsNonEmptyListOf IsWritableCommand g.commands

-- ---- Defaults lines

-- A list of commands of a scope can hold it: commands have no arguments and no digests there.
abbrev pub IsScopeCommandAtom : Atom → Type 0
IsScopeCommandAtom (atom.Path path args) = IsWritableCommandAtom (atom.Path path args) × (args ≡ Any)
IsScopeCommandAtom (atom.Sudoedit args) = args ≡ Any
IsScopeCommandAtom atom.All = Unit {0}
IsScopeCommandAtom (atom.Alias name) = IsWritableCommandAtom (atom.Alias name)
IsScopeCommandAtom atom.Listing = Unit {0}
IsScopeCommandAtom a = ⊥

abbrev pub IsScopeCommandMember : Member → Type 0
IsScopeCommandMember = IsMemberWithoutDigests IsScopeCommandAtom

abbrev pub IsWritableScopeMember : Kind → Member → Type 0
IsWritableScopeMember User = IsWritableUserMember
IsWritableScopeMember Runas = IsWritableUserMember
IsWritableScopeMember Host = IsWritableHostMember
IsWritableScopeMember Cmnd = IsScopeCommandMember

abbrev pub IsWritableScope : Option Scope → Type 0
IsWritableScope None = Unit {0}
IsWritableScope (Some s) = IsNonEmptyListOf (IsWritableScopeMember s.kind) s.members

-- A parameter with a value is not negated.
abbrev pub IsSettingAllowedIfNegated : Bool → Option Setting → Type 0
IsSettingAllowedIfNegated negated None = Unit {0}
IsSettingAllowedIfNegated negated (Some s) = negated ≡ false

pub record IsWritableParam (p : Param) : Type 0 where
  pub some : p.name ≢ []
  pub name : list_all is_byte_of_parameter_name p.name ≡ true
  pub setting : IsSettingAllowedIfNegated p.negated p.setting

-- ---- lines

-- The line can be written, of aliases a line of one definition.
abbrev pub IsWritableNode : Node → Type 0
IsWritableNode (node.Defaults scope params) = IsWritableScope scope × IsNonEmptyListOf IsWritableParam params
IsWritableNode (node.Alias k (d ∷ [])) = IsWritableDefinition k d
IsWritableNode (node.Alias k defs) = ⊥
IsWritableNode (node.Spec users groups) = IsNonEmptyListOf IsWritableUserMember users × IsNonEmptyListOf IsWritableHostGroup groups
IsWritableNode node.Blank = ⊥
IsWritableNode node.Comment = ⊥
IsWritableNode (node.Include dir path) = ⊥
