-- Flat lists whose atoms tell where they are written.
use Rattle.std.specs.Prelude.{◌≡◌, Bool, List, [], ◌∷◌, ◌++◌, map, Option, Some, None, ℕ}
use Rattle.sudoers_grammar.specs.declared.node.Kind.{Kind}
use Rattle.sudoers_grammar.specs.declared.node.Atom.{Atom}
use Rattle.sudoers_grammar.specs.declared.node.Atom.TheVariants as atom
use Rattle.sudoers_grammar.specs.Node.{Member}
use Rattle.sudoers_tree.specs.Line.{Line}
use Rattle.sudoers_match_list.specs.Flat.{SignedAtom, signed_atom_of_member, signed_atom_under_negation, alias_members_of_atom}

abbrev pub alias_name_of_atom : Atom → Option (List ℕ)
alias_name_of_atom (atom.Alias name) = Some name
alias_name_of_atom other = None

-- A signed atom, the member that it is, and the alias in whose definition that stands; none: it stands in the list itself.
pub record PlacedAtom : Type 0 where
  pub within : Option (List ℕ)
  pub member : Member
  pub says : SignedAtom

abbrev pub placed_atom_of_member : Option (List ℕ) → Member → PlacedAtom
placed_atom_of_member within m = record { within = within; member = m; says = signed_atom_of_member m }

abbrev pub placed_atom_under_negation : Bool → PlacedAtom → PlacedAtom
placed_atom_under_negation negated p = record { within = p.within; member = p.member; says = signed_atom_under_negation negated p.says }

abbrev pub signed_atom_of_placed : PlacedAtom → SignedAtom
signed_atom_of_placed p = p.says

-- The flat list of a list that stands in the definition of this alias, or in none.
pub data IsFlatListWithPlaces (k : Kind) (lines : List Line) : Option (List ℕ) → List Member → List PlacedAtom → Type 0 where
  none : (within : Option (List ℕ)) → IsFlatListWithPlaces k lines within [] []
  one : (within : Option (List ℕ)) (m : Member) (ms : List Member) (ps : List PlacedAtom)
      → alias_members_of_atom k lines m.atom ≡ None → IsFlatListWithPlaces k lines within ms ps → IsFlatListWithPlaces k lines within (m ∷ ms) (placed_atom_of_member within m ∷ ps)
  many : (within : Option (List ℕ)) (m : Member) (ms members : List Member) (inner ps : List PlacedAtom)
      → alias_members_of_atom k lines m.atom ≡ Some members → IsFlatListWithPlaces k lines (alias_name_of_atom m.atom) members inner → IsFlatListWithPlaces k lines within ms ps
      → IsFlatListWithPlaces k lines within (m ∷ ms) (map (placed_atom_under_negation m.negated) inner ++ ps)
