-- The definition that an atom names.
use Rattle.sudoers_match_list.proofs.Common.{AllByRecursion, Atom, Bool, Kind, Line, List, ListHasElement, Member, None, Option, PlacedDefinition, Some, [], alias_members_of_atom, ap, definitions_of_lines, false}
use Rattle.sudoers_match_list.proofs.Common.{first_definition_of, if◌then◌else◌, inl, inr, is_definition_of_name, option_map, refl, subst, sym, true, ℕ, ◌∙◌, ◌∷◌, ◌≡◌}
use Rattle.sudoers_grammar.specs.declared.node.Atom.TheVariants as atom
use Rattle.sudoers_match_list.proofs.Numbered.{definition_of_name_has_kind_and_name}

pub list_element_has_property_of_all : {X : Type 0} (P : X → Type 0) (xs : List X) → AllByRecursion P xs → (x : X) → ListHasElement xs x → P x
list_element_has_property_of_all P [] all x h = absurd h
list_element_has_property_of_all P (y ∷ xs) all x (inl e) = subst P e all.0
list_element_has_property_of_all P (y ∷ xs) all x (inr h) = list_element_has_property_of_all P xs all.1 x h

first_definition_is_in_list_by_name : (k : Kind) (name : List ℕ) (ds : List PlacedDefinition) (d : PlacedDefinition) → first_definition_of k name ds ≡ Some d → ListHasElement ds d × (is_definition_of_name k name d ≡ true)
first_definition_is_in_list_by_name k name [] d e = absurd cc
first_definition_is_in_list_by_name k name (x ∷ ds) d e = by (is_definition_of_name k name x) refl (first_definition_is_in_list_by_name k name ds d)
  where
    by : (t : Bool) → is_definition_of_name k name x ≡ t → (first_definition_of k name ds ≡ Some d → ListHasElement ds d × (is_definition_of_name k name d ≡ true)) → ListHasElement (x ∷ ds) d × (is_definition_of_name k name d ≡ true)
    by true f later =
        let found : Some x ≡ Some d = sym (ap (λ t. if t then Some x else first_definition_of k name ds) f) ∙ e in
        let same : x ≡ d = cc in
        (inl same, ap (is_definition_of_name k name) (sym same) ∙ f)
    by false f later = let more = later (sym (ap (λ t. if t then Some x else first_definition_of k name ds) f) ∙ e) in (inr more.0, more.1)

-- The atom names an alias of this kind, and a definition of the lines has these members of it.
pub record IsAtomOfDefinedAlias (k : Kind) (lines : List Line) (a : Atom) (ms : List Member) : Type 0 where
  pub name : List ℕ
  pub is : a ≡ atom.Alias name
  pub by : PlacedDefinition
  pub stands : ListHasElement (definitions_of_lines lines) by
  pub of_kind : by.kind ≡ k
  pub of_name : by.def.name ≡ name
  pub members : by.def.members ≡ ms

alias_with_members_is_of_a_definition : (k : Kind) (lines : List Line) (name : List ℕ) (ms : List Member) → alias_members_of_atom k lines (atom.Alias name) ≡ Some ms → IsAtomOfDefinedAlias k lines (atom.Alias name) ms
alias_with_members_is_of_a_definition k lines name ms e = from (first_definition_of k name (definitions_of_lines lines)) refl
  where
    from : (o : Option PlacedDefinition) → first_definition_of k name (definitions_of_lines lines) ≡ o → IsAtomOfDefinedAlias k lines (atom.Alias name) ms
    from None is = let no : None ≡ Some ms = sym (ap (option_map (λ (d : PlacedDefinition). d.def.members)) is) ∙ e in absurd cc
    from (Some d) is =
        let two : Some d.def.members ≡ Some ms = sym (ap (option_map (λ (d : PlacedDefinition). d.def.members)) is) ∙ e in
        let has = first_definition_is_in_list_by_name k name (definitions_of_lines lines) d is in
        let same = definition_of_name_has_kind_and_name k name d has.1 in
        record { name = name; is = refl; by = d; stands = has.0; of_kind = same.0; of_name = same.1; members = cc }

pub atom_with_alias_members_is_of_definition : (k : Kind) (lines : List Line) (a : Atom) (ms : List Member) → alias_members_of_atom k lines a ≡ Some ms → IsAtomOfDefinedAlias k lines a ms
atom_with_alias_members_is_of_definition k lines (atom.Alias name) ms e = alias_with_members_is_of_a_definition k lines name ms e
atom_with_alias_members_is_of_definition k lines a ms e = absurd cc
