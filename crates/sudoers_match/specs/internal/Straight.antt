-- Lists that lead to no cyclic alias. No public contract cites them.
use Rattle.std.specs.Prelude.{List, [], ◌∷◌, Option, Some, None}
use Rattle.sudoers_grammar.specs.declared.node.Kind.{Kind}
use Rattle.sudoers_grammar.specs.declared.node.Kind.TheVariants.{Runas, Host, Cmnd}
use Rattle.sudoers_grammar.specs.Node.{Member, RunasSpec, CmdSpec, HostGroup, Scope}
use Rattle.sudoers_tree.specs.Line.{Line}
use Rattle.sudoers_check.specs.Chain.{ListHasElement}
use Rattle.sudoers_match_list.specs.Cycle.{ListLeadsToCyclicAlias}

abbrev pub LeadsToNoCyclicAlias : Kind → List Line → List Member → Type 0
LeadsToNoCyclicAlias k lines ms = ListLeadsToCyclicAlias k lines ms → ⊥

abbrev pub ScopeLeadsToNoCycle : List Line → Option Scope → Type 0
ScopeLeadsToNoCycle lines None = Unit {0}
ScopeLeadsToNoCycle lines (Some s) = LeadsToNoCyclicAlias s.kind lines s.members

abbrev pub RunasSpecLeadsToNoCycle : List Line → Option RunasSpec → Type 0
RunasSpecLeadsToNoCycle lines None = Unit {0}
RunasSpecLeadsToNoCycle lines (Some s) = LeadsToNoCyclicAlias Runas lines s.users × LeadsToNoCyclicAlias Runas lines s.groups

pub record CommandLeadsToNoCycle (lines : List Line) (c : CmdSpec) : Type 0 where
  pub runas : RunasSpecLeadsToNoCycle lines c.runas
  pub member : LeadsToNoCyclicAlias Cmnd lines (c.member ∷ [])

pub record HostGroupLeadsToNoCycle (lines : List Line) (g : HostGroup) : Type 0 where
  pub hosts : LeadsToNoCyclicAlias Host lines g.hosts
  pub commands : (c : CmdSpec) → ListHasElement g.commands c → CommandLeadsToNoCycle lines c

abbrev pub HostGroupsLeadToNoCycle : List Line → List HostGroup → Type 0
HostGroupsLeadToNoCycle lines groups = (g : HostGroup) → ListHasElement groups g → HostGroupLeadsToNoCycle lines g
