-- Which member decides where a rule names an alias of commands (sudoers(5), Aliases).
use Rattle.std.specs.Prelude.{◌≡◌, ℕ, Bool, List, [], ◌∷◌, Option, Some, None}
use Rattle.sudoers_grammar.specs.declared.node.Atom.{Atom}
use Rattle.sudoers_grammar.specs.declared.node.Atom.TheVariants.{Alias}
use Rattle.sudoers_grammar.specs.declared.node.Kind.TheVariants.{Cmnd}
use Rattle.sudoers_grammar.specs.Node.{Member}
use Rattle.sudoers_tree.specs.Line.{Line}
use Rattle.sudoers_tree.specs.Definition.{members_of_alias_definition}
use Rattle.sudoers_check.specs.Chain.{IsReachedByChainOfSteps}
use Rattle.sudoers_match_list.specs.declared.verdict.MemberHit.{MemberHit}
use Rattle.sudoers_match_list.specs.Flat.{IsLastHitOfList, alias_members_of_atom}
use Rattle.sudoers_match.specs.Last.{IsLastItemWith}

-- The list says something of the command: with its aliases replaced, it has a member that matches.
abbrev pub ListMatchesCommand : List Line → (Atom → Bool) → List Member → Type 0
ListMatchesCommand lines test ms = (hit : MemberHit) × IsLastHitOfList Cmnd lines test ms (Some hit)

-- The member alone does so.
abbrev pub MemberMatchesCommand : List Line → (Atom → Bool) → Member → Type 0
MemberMatchesCommand lines test m = ListMatchesCommand lines test (m ∷ [])

-- Of the members of the alias with this name, this is the last that speaks.
pub record IsDecidingMemberOfAlias (lines : List Line) (test : Atom → Bool) (name : List ℕ) (m : Member) : Type 0 where
  pub members : List Member
  pub are_members : members_of_alias_definition Cmnd name lines ≡ Some members
  pub is_last : IsLastItemWith (MemberMatchesCommand lines test) members (Some m)

-- The member that decides in an alias names another.
abbrev pub DecidingMemberOfAliasNamesOtherAlias : List Line → (Atom → Bool) → List ℕ → List ℕ → Type 0
DecidingMemberOfAliasNamesOtherAlias lines test name other = (m : Member) × IsDecidingMemberOfAlias lines test name m × (m.atom ≡ Alias other)

-- a member of an alias
pub record InnerAliasMember : Type 0 where
  pub name : List ℕ
  pub member : Member

-- The member decides, where a rule names the alias `outer`: deciding members lead to its alias, and it names none.
pub record IsInnermostDecidingMember (lines : List Line) (test : Atom → Bool) (outer : List ℕ) (inner : InnerAliasMember) : Type 0 where
  pub reached : IsReachedByChainOfSteps (DecidingMemberOfAliasNamesOtherAlias lines test) (λ name. outer ≡ name) inner.name
  pub decides : IsDecidingMemberOfAlias lines test inner.name inner.member
  pub no_alias : alias_members_of_atom Cmnd lines inner.member.atom ≡ None

-- The member that decides stands in an alias just where the member of the rule names one.
abbrev pub IsDecidingAliasMember : List Line → (Atom → Bool) → Member → Option InnerAliasMember → Type 0
IsDecidingAliasMember lines test m None = alias_members_of_atom Cmnd lines m.atom ≡ None
IsDecidingAliasMember lines test m (Some inner) = (outer : List ℕ) × (m.atom ≡ Alias outer) × IsInnermostDecidingMember lines test outer inner
