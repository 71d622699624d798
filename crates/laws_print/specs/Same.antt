-- What says the same, places aside.
use Rattle.std.specs.Prelude.{◌≡◌, ℕ, List, [], ◌∷◌, Option, Some, None, if◌then◌else◌}
use Rattle.sudoers_grammar.specs.declared.node.Atom.{Atom}
use Rattle.sudoers_grammar.specs.declared.node.Atom.TheVariants as atom
use Rattle.sudoers_grammar.specs.Node.{Member, Def, RunasSpec, CmdSpec, HostGroup, Scope, Node}
use Rattle.sudoers_grammar.specs.Node as node
use Rattle.sudoers_grammar.specs.declared.pattern.PatternSpelling.TheVariants.{Host as HostName}
use Rattle.sudoers_grammar.specs.Line.{LineReadsAsNode}
use Rattle.sudoers_cvt_spell.specs.Spelling.{escaped_pattern}
use Rattle.sudoers_cvt_spell.specs.Hosts.{is_read_as_host_name}

-- As what a printed member is read: a host that would be read as something else has got a backslash before its first byte.
abbrev pub atom_read_back : Atom → Atom
atom_read_back (atom.Host pattern) = if is_read_as_host_name (escaped_pattern HostName pattern) then atom.Host pattern else atom.Host (92 ∷ pattern)
atom_read_back a = a

pub record MemberIsReadBackAs (m n : Member) : Type 0 where
  pub negated : m.negated ≡ n.negated
  pub digests : m.digests ≡ n.digests
  pub atom : atom_read_back m.atom ≡ n.atom

-- each is related to the one at its place, and there are as many
abbrev pub AreItemsPairwiseRelated : {X : Type 0} → (X → X → Type 0) → List X → List X → Type 0
AreItemsPairwiseRelated R [] [] = Unit {0}
AreItemsPairwiseRelated R [] (y ∷ ys) = ⊥
AreItemsPairwiseRelated R (x ∷ xs) [] = ⊥
AreItemsPairwiseRelated R (x ∷ xs) (y ∷ ys) = R x y × AreItemsPairwiseRelated R xs ys

pub record DefinitionIsReadBackAs (d e : Def) : Type 0 where
  pub name : d.name ≡ e.name
  pub members : AreItemsPairwiseRelated MemberIsReadBackAs d.members e.members

abbrev pub RunasIsReadBackAs : Option RunasSpec → Option RunasSpec → Type 0
RunasIsReadBackAs None None = Unit {0}
RunasIsReadBackAs None (Some s) = ⊥
RunasIsReadBackAs (Some r) None = ⊥
RunasIsReadBackAs (Some r) (Some s) = AreItemsPairwiseRelated MemberIsReadBackAs r.users s.users × AreItemsPairwiseRelated MemberIsReadBackAs r.groups s.groups

pub record CommandIsReadBackAs (c d : CmdSpec) : Type 0 where
  pub runas : RunasIsReadBackAs c.runas d.runas
  pub options : c.options ≡ d.options
  pub tags : c.tags ≡ d.tags
  pub member : MemberIsReadBackAs c.member d.member

pub record HostGroupIsReadBackAs (g h : HostGroup) : Type 0 where
  pub hosts : AreItemsPairwiseRelated MemberIsReadBackAs g.hosts h.hosts
  pub commands : AreItemsPairwiseRelated CommandIsReadBackAs g.commands h.commands

abbrev pub ScopeIsReadBackAs : Option Scope → Option Scope → Type 0
ScopeIsReadBackAs None None = Unit {0}
ScopeIsReadBackAs None (Some t) = ⊥
ScopeIsReadBackAs (Some s) None = ⊥
ScopeIsReadBackAs (Some s) (Some t) = (s.kind ≡ t.kind) × AreItemsPairwiseRelated MemberIsReadBackAs s.members t.members

-- The lines say the same, places aside, and the backslash before the first byte of a host.
abbrev pub NodeIsReadBackAs : Node → Node → Type 0
NodeIsReadBackAs (node.Defaults scope params) (node.Defaults other settings) = ScopeIsReadBackAs scope other × (params ≡ settings)
NodeIsReadBackAs (node.Alias k defs) (node.Alias j others) = (k ≡ j) × AreItemsPairwiseRelated DefinitionIsReadBackAs defs others
NodeIsReadBackAs (node.Spec users groups) (node.Spec others places) = AreItemsPairwiseRelated MemberIsReadBackAs users others × AreItemsPairwiseRelated HostGroupIsReadBackAs groups places
NodeIsReadBackAs n m = ⊥

-- The line is read as saying the same.
pub record LineReadsBackAs (line : List ℕ) (n : Node) : Type 0 where
  pub read : Node
  pub reads : LineReadsAsNode line read
  pub same : NodeIsReadBackAs n read
