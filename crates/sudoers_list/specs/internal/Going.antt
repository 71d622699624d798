-- A device of the proof, which no public contract cites: a walk from alias to alias that ends.
use Rattle.std.specs.Prelude.{◌≡◌, ℕ, List, None}
use Rattle.std.specs.List.{AllByRecursion}
use Rattle.sudoers_grammar.specs.declared.node.Atom.TheVariants.{Alias}
use Rattle.sudoers_grammar.specs.declared.node.Kind.TheVariants.{Cmnd}
use Rattle.sudoers_grammar.specs.Node.{Member}
use Rattle.sudoers_tree.specs.Line.{Line}
use Rattle.sudoers_check.specs.Chain.{ListHasElement}
use Rattle.sudoers_match_list.specs.Flat.{SignedAtom, IsFlatListOf, alias_members_of_atom}
use Rattle.sudoers_match_list.specs.Flattened.{list_expanded_n_times}

abbrev pub IsFlattenableCommandList : List Line → List Member → Type 0
IsFlattenableCommandList lines ms = (fs : List SignedAtom) × IsFlatListOf Cmnd lines ms fs

-- A member names the alias.
abbrev pub ListNamesAlias : List Member → List ℕ → Type 0
ListNamesAlias ms name = (m : Member) × ListHasElement ms m × (m.atom ≡ Alias name)

abbrev pub ListNamesNoDefinedAlias : List Line → List Member → Type 0
ListNamesNoDefinedAlias lines ms = AllByRecursion (λ (m : Member). alias_members_of_atom Cmnd lines m.atom ≡ None) ms

-- The alias stands in a list in which none is left once aliases are replaced so many times.
pub record IsAliasGoneAfterExpansions (lines : List Line) (times : ℕ) (name : List ℕ) : Type 0 where
  pub list : List Member
  pub names : ListNamesAlias list name
  pub straight : ListNamesNoDefinedAlias lines (list_expanded_n_times times Cmnd lines list)
