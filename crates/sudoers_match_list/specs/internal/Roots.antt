-- A device of the proof, which no public contract cites: the aliases that lines mention, and whether they lead to a cyclic one.
use Rattle.std.specs.Prelude.{ℕ, Bool, true, false, List, [], ◌∷◌}
use Rattle.sudoers_grammar.specs.declared.node.Kind.{Kind}
use Rattle.sudoers_grammar.specs.declared.node.Kind.TheVariants.{User, Runas, Host, Cmnd}
use Rattle.sudoers_grammar.specs.declared.node.Atom.TheVariants as atom
use Rattle.sudoers_grammar.specs.Node.{Member, Node}
use Rattle.sudoers_grammar.specs.Node as node
use Rattle.sudoers_grammar.specs.Listed.{AliasMember, aliases_in_node}
use Rattle.sudoers_tree.specs.Line.{Line}
use Rattle.sudoers_check.specs.Chain.{ListHasElement}
use Rattle.sudoers_match_list.specs.declared.alias_cycles.CycleSearchByKind.{CycleSearchByKind}
use Rattle.sudoers_match_list.specs.declared.alias_verdicts.AliasVerdictCache.{AliasVerdictCache}
use Rattle.sudoers_match_list.specs.Cycle.{ListLeadsToCyclicAlias}
use Rattle.sudoers_match_list.specs.Search.{IsValidVerdictCache}

-- the member that is the alias of this name
abbrev pub alias_member_named : List ℕ → Member
alias_member_named name = record { start = 0; stop = 0; negated = false; digests = []; atom = atom.Alias name }

-- the list of that member alone
abbrev pub single_member_list_naming_alias : List ℕ → List Member
single_member_list_naming_alias name = alias_member_named name ∷ []

-- the aliases in the lists of a user specification or a Defaults line
abbrev pub aliases_in_spec_or_defaults : Node → List AliasMember
aliases_in_spec_or_defaults (node.Spec users groups) = aliases_in_node (node.Spec users groups)
aliases_in_spec_or_defaults (node.Defaults scope params) = aliases_in_node (node.Defaults scope params)
aliases_in_spec_or_defaults (node.Alias k defs) = []
aliases_in_spec_or_defaults node.Blank = []
aliases_in_spec_or_defaults node.Comment = []
aliases_in_spec_or_defaults (node.Include dir path) = []

-- One of the aliases leads to a cyclic one.
pub record SomeAliasLeadsToCycle (lines : List Line) (aliases : List AliasMember) : Type 0 where
  pub alias : AliasMember
  pub among : ListHasElement aliases alias
  pub leads : ListLeadsToCyclicAlias alias.kind lines (single_member_list_naming_alias alias.name)

-- No alias of any kind is open, and no atom is hit.
pub record AreCachesOfAllKindsValid (lines : List Line) (known : CycleSearchByKind) : Type 0 where
  pub users : IsValidVerdictCache User lines (λ _. false) known.users
  pub runas : IsValidVerdictCache Runas lines (λ _. false) known.runas
  pub hosts : IsValidVerdictCache Host lines (λ _. false) known.hosts
  pub commands : IsValidVerdictCache Cmnd lines (λ _. false) known.commands

-- whether the alias of a name leads to a cyclic one
abbrev pub DecidesWhetherAliasLeadsToCycle : Kind → List Line → List ℕ → AliasVerdictCache → Bool → Type 0
DecidesWhetherAliasLeadsToCycle k lines name verdicts true = ListLeadsToCyclicAlias k lines (single_member_list_naming_alias name)
DecidesWhetherAliasLeadsToCycle k lines name verdicts false = IsValidVerdictCache k lines (λ _. false) verdicts × (ListLeadsToCyclicAlias k lines (single_member_list_naming_alias name) → ⊥)

-- whether what is asked holds; where it does not, the verdicts serve on
abbrev pub DecidesConditionAndKeepsCaches : List Line → Type 0 → CycleSearchByKind → Bool → Type 0
DecidesConditionAndKeepsCaches lines Asked known true = Asked
DecidesConditionAndKeepsCaches lines Asked known false = AreCachesOfAllKindsValid lines known × (Asked → ⊥)
