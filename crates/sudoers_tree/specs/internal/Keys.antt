-- A device of the proof, which no public contract cites: definitions that define the same names at the same places, but for one.
use Rattle.std.specs.Prelude.{◌≡◌, ℕ, zero, suc, List, [], ◌∷◌, ◌++◌, map}
use Rattle.sudoers_grammar.specs.declared.node.Kind.{Kind}
use Rattle.sudoers_line_rows.specs.declared.rows.Tables.{Tables}
use Rattle.sudoers_line_rows.specs.declared.rows.ByteRange.{ByteRange}
use Rattle.sudoers_line_rows.specs.Tables.{text_in_tables}
use Rattle.sudoers_tree.specs.declared.place.Place.{Place}
use Rattle.sudoers_tree.specs.declared.defined_names_change.DefinedNamesChange.{DefinedNamesChange}
use Rattle.sudoers_tree.specs.declared.defined_names_change.DefinedNamesChange.TheVariants.{Nothing, One, Other}
use Rattle.sudoers_tree.specs.Definition.{PlacedDefinition}

-- what of a definition is told by the names: its kind, its name and its place
abbrev pub DefinitionKey : Type 0
DefinitionKey = Kind × (List ℕ × Place)

abbrev pub key_of_definition : PlacedDefinition → DefinitionKey
key_of_definition d = (d.kind, (d.def.name, d.place))

abbrev pub keys_of_definitions : List PlacedDefinition → List DefinitionKey
keys_of_definitions ds = map key_of_definition ds

-- The definitions `es` have the keys of `ds`, but for the name of one.
pub record RenamesOneDefinition (ds es : List PlacedDefinition) : Type 0 where
  pub before : List PlacedDefinition
  pub old : PlacedDefinition
  pub after : List PlacedDefinition
  pub front : List PlacedDefinition
  pub new : PlacedDefinition
  pub behind : List PlacedDefinition
  pub olds : ds ≡ before ++ old ∷ after
  pub news : es ≡ front ++ new ∷ behind
  pub same_before : keys_of_definitions front ≡ keys_of_definitions before
  pub same_after : keys_of_definitions behind ≡ keys_of_definitions after
  pub kind : new.kind ≡ old.kind
  pub place : new.place ≡ old.place

-- these names, of which the one with the number n is another
abbrev pub entries_with_one_renamed : ℕ → List ℕ → List (List ℕ × Place) → List (List ℕ × Place)
entries_with_one_renamed n name [] = []
entries_with_one_renamed zero name (e ∷ es) = (name, e.1) ∷ es
entries_with_one_renamed (suc n) name (e ∷ es) = e ∷ entries_with_one_renamed n name es

-- One definition has another name: where it stands, its kind, its name and the new name, both in tables.
pub record IsDefinitionRenamed (t : Tables) (place : Place) (kind : Kind) (name fresh : ByteRange) (ds es : List PlacedDefinition) : Type 0 where
  pub one : RenamesOneDefinition ds es
  pub place_is : one.old.place ≡ place
  pub kind_is : one.old.kind ≡ kind
  pub name_is : one.old.def.name ≡ text_in_tables t name
  pub fresh_is : one.new.def.name ≡ text_in_tables t fresh

-- The names that the first definitions define become those of the others by this change.
abbrev pub ChangesDefinedNames : Tables → DefinedNamesChange → List PlacedDefinition → List PlacedDefinition → Type 0
ChangesDefinedNames t Nothing ds es = keys_of_definitions es ≡ keys_of_definitions ds
ChangesDefinedNames t (One place kind name fresh) ds es = IsDefinitionRenamed t place kind name fresh ds es
ChangesDefinedNames t Other ds es = Unit {0}
