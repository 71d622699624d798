-- A device of the proof, which no public contract cites: rows that fit the request of no user.
use Rattle.std.specs.Prelude.{◌≡◌, Bool, true, false, List, [], ◌∷◌, Option, Some, None}
use Rattle.sudoers_grammar.specs.declared.node.Atom.{Atom}
use Rattle.sudoers_grammar.specs.declared.node.Kind.TheVariants.{Host, Runas}
use Rattle.sudoers_grammar.specs.Node.{Member, RunasSpec}
use Rattle.sudoers_tree.specs.Line.{Line}
use Rattle.sudoers_match_member.specs.declared.people_and_commands.Person.{Person}
use Rattle.sudoers_match_member.specs.declared.request.Request.{Request}
use Rattle.sudoers_match_member.specs.Hits.{is_host_atom_match, is_user_atom_match}
use Rattle.sudoers_match.specs.Allows.{ListAllows}
use Rattle.sudoers_match.specs.Answer.{is_command_hit_by_test}
use Rattle.sudoers_match.specs.Moment.{is_in_option_time_bounds}
use Rattle.sudoers_match.specs.Rows.{PrivilegeRow}
use Rattle.sudoers_match.specs.Values.{final_values_of_options}

-- The list of runas users allows the target. An empty one may: that depends on who asks.
abbrev pub RunasUsersMayAllow : List Line → Person → List Member → Type 0
RunasUsersMayAllow lines target [] = Unit {0}
RunasUsersMayAllow lines target (u ∷ us) = ListAllows Runas lines (is_user_atom_match target) (u ∷ us)

abbrev pub RunasSpecMayAllow : List Line → Person → Option RunasSpec → Type 0
RunasSpecMayAllow lines target None = Unit {0}
RunasSpecMayAllow lines target (Some s) = RunasUsersMayAllow lines target s.users

-- The Runas_Spec may allow the target, where all users ask for it.
abbrev pub MayRunAsTarget : List Line → Bool → Person → Option RunasSpec → Type 0
MayRunAsTarget lines of_target target runas = of_target ≡ true → RunasSpecMayAllow lines target runas

-- Whoever asks, the row may fit: it is for the host, for the moment, for the target and for the command.
pub record IsRowForSomeUser (lines : List Line) (test : Atom → Bool) (of_target : Bool) (r : Request) (row : PrivilegeRow) : Type 0 where
  pub host : ListAllows Host lines (is_host_atom_match r.who) row.hosts
  pub moment : is_in_option_time_bounds r.moment (final_values_of_options row.head.options) ≡ true
  pub target : MayRunAsTarget lines of_target r.target row.head.runas
  pub command : is_command_hit_by_test test row.atom ≡ true

abbrev pub IsRowForNoUser : List Line → (Atom → Bool) → Bool → Request → PrivilegeRow → Type 0
IsRowForNoUser lines test of_target r row = IsRowForSomeUser lines test of_target r row → ⊥
