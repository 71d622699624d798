-- A walk from alias to alias ends.
use Rattle.std.proofs.Common.{◌≡◌, inl, inr, Bool, ℕ, zero, suc, List, [], ◌∷◌, ◌++◌, map, Some, None, refl, sym, ap, subst, ◌∙◌}
use Rattle.std.specs.List.{AllByRecursion}
use Rattle.sudoers_grammar.specs.declared.node.Atom.TheVariants.{Alias}
use Rattle.sudoers_grammar.specs.declared.node.Kind.TheVariants.{Cmnd}
use Rattle.sudoers_grammar.specs.Node.{Member}
use Rattle.sudoers_tree.specs.Line.{Line}
use Rattle.sudoers_tree.specs.Definition.{members_of_alias_definition}
use Rattle.sudoers_check.specs.Chain.{ListHasElement}
use Rattle.sudoers_match_list.specs.Flat.{SignedAtom, IsFlatListOf, alias_members_of_atom, signed_atom_of_member, signed_atom_under_negation}
use Rattle.sudoers_match_list.specs.Flat as flat
use Rattle.sudoers_match_list.specs.Flattened.{member_or_alias_members, list_with_aliases_expanded_once, list_expanded_n_times, member_under_negation}
use Rattle.sudoers_list.specs.internal.Going.{IsAliasGoneAfterExpansions, ListNamesNoDefinedAlias}

element_of_front_is_in_appended : {Y : Type 0} (xs ys : List Y) (y : Y) → ListHasElement xs y → ListHasElement (xs ++ ys) y
element_of_front_is_in_appended [] ys y h = absurd h
element_of_front_is_in_appended (x ∷ xs) ys y (inl e) = inl e
element_of_front_is_in_appended (x ∷ xs) ys y (inr h) = inr (element_of_front_is_in_appended xs ys y h)

element_of_rest_is_in_appended : {Y : Type 0} (xs ys : List Y) (y : Y) → ListHasElement ys y → ListHasElement (xs ++ ys) y
element_of_rest_is_in_appended [] ys y h = h
element_of_rest_is_in_appended (x ∷ xs) ys y h = inr (element_of_rest_is_in_appended xs ys y h)

negated_member_is_in_negated_list : (b : Bool) (ms : List Member) (m : Member) → ListHasElement ms m → ListHasElement (map (member_under_negation b) ms) (member_under_negation b m)
negated_member_is_in_negated_list b [] m h = absurd h
negated_member_is_in_negated_list b (n ∷ ms) m (inl e) = inl (ap (member_under_negation b) e)
negated_member_is_in_negated_list b (n ∷ ms) m (inr h) = inr (negated_member_is_in_negated_list b ms m h)

module _ (lines : List Line) where
  -- An alias that is replaced leaves its members.
  left_by : (list : List Member) (m : Member) (members : List Member) (d : Member) → ListHasElement list m → alias_members_of_atom Cmnd lines m.atom ≡ Some members → ListHasElement members d
      → ListHasElement (list_with_aliases_expanded_once Cmnd lines list) (member_under_negation m.negated d)
  left_by [] m members d has is there = absurd has
  left_by (n ∷ list) m members d (inl e) is there =
      let o : alias_members_of_atom Cmnd lines n.atom ≡ Some members = ap (λ (x : Member). alias_members_of_atom Cmnd lines x.atom) e ∙ is in
      subst (λ p. ListHasElement (member_or_alias_members n p ++ list_with_aliases_expanded_once Cmnd lines list) (member_under_negation m.negated d)) (sym o)
      (element_of_front_is_in_appended (map (member_under_negation n.negated) members) (list_with_aliases_expanded_once Cmnd lines list) (member_under_negation m.negated d)
      (subst (λ (x : Member). ListHasElement (map (member_under_negation x.negated) members) (member_under_negation m.negated d)) (sym e) (negated_member_is_in_negated_list m.negated members d there)))
  left_by (n ∷ list) m members d (inr has) is there =
      element_of_rest_is_in_appended (member_or_alias_members n (alias_members_of_atom Cmnd lines n.atom)) (list_with_aliases_expanded_once Cmnd lines list) (member_under_negation m.negated d) (left_by list m members d has is there)

  -- A member of the alias that names another stands in the list with aliases replaced once more.
  pub one_in : (times : ℕ) (name other : List ℕ) (members : List Member) (d : Member) → members_of_alias_definition Cmnd name lines ≡ Some members → ListHasElement members d
      → d.atom ≡ Alias other → IsAliasGoneAfterExpansions lines (suc times) name → IsAliasGoneAfterExpansions lines times other
  one_in times name other members d is there names within =
      let m = within.names.0 in
      let alias : alias_members_of_atom Cmnd lines m.atom ≡ Some members = ap (alias_members_of_atom Cmnd lines) within.names.2 ∙ is in
      record {
        list = list_with_aliases_expanded_once Cmnd lines within.list;
        names = (member_under_negation m.negated d, left_by within.list m members d within.names.1 alias there, names);
        straight = within.straight;
      }

  has_none : (ms : List Member) (m : Member) → ListNamesNoDefinedAlias lines ms → ListHasElement ms m → alias_members_of_atom Cmnd lines m.atom ≡ None
  has_none [] m none has = absurd has
  has_none (n ∷ ms) m none (inl e) = ap (λ (x : Member). alias_members_of_atom Cmnd lines x.atom) (sym e) ∙ none.0
  has_none (n ∷ ms) m none (inr has) = has_none ms m none.1 has

  -- No alias is left at the end.
  pub at_end : (name : List ℕ) (members : List Member) → members_of_alias_definition Cmnd name lines ≡ Some members → IsAliasGoneAfterExpansions lines zero name → ⊥
  at_end name members is within =
      let m = within.names.0 in
      let some : alias_members_of_atom Cmnd lines m.atom ≡ Some members = ap (alias_members_of_atom Cmnd lines) within.names.2 ∙ is in
      let none : alias_members_of_atom Cmnd lines m.atom ≡ None = has_none within.list m within.straight within.names.1 in
      let clash : Some members ≡ None = sym some ∙ none in
      cc

  -- ---- flat lists name none

  none_append : (ms ns : List SignedAtom) → AllByRecursion (λ (s : SignedAtom). alias_members_of_atom Cmnd lines s.atom ≡ None) ms → AllByRecursion (λ (s : SignedAtom). alias_members_of_atom Cmnd lines s.atom ≡ None) ns
      → AllByRecursion (λ (s : SignedAtom). alias_members_of_atom Cmnd lines s.atom ≡ None) (ms ++ ns)
  none_append [] ns a b = b
  none_append (m ∷ ms) ns a b = (a.0, none_append ms ns a.1 b)

  none_turned : (b : Bool) (ms : List SignedAtom) → AllByRecursion (λ (s : SignedAtom). alias_members_of_atom Cmnd lines s.atom ≡ None) ms
      → AllByRecursion (λ (s : SignedAtom). alias_members_of_atom Cmnd lines s.atom ≡ None) (map (signed_atom_under_negation b) ms)
  none_turned b [] a = tt
  none_turned b (m ∷ ms) a = (a.0, none_turned b ms a.1)

  flat_none : (ms : List Member) (fs : List SignedAtom) → IsFlatListOf Cmnd lines ms fs → AllByRecursion (λ (s : SignedAtom). alias_members_of_atom Cmnd lines s.atom ≡ None) fs
  flat_none ms fs flat.none = tt
  flat_none ms fs (flat.one m rest gs e f) = (e, flat_none rest gs f)
  flat_none ms fs (flat.many m rest members inner gs e i f) =
      none_append (map (signed_atom_under_negation m.negated) inner) gs (none_turned m.negated inner (flat_none members inner i)) (flat_none rest gs f)

  none_signed : (ms : List Member) → AllByRecursion (λ (s : SignedAtom). alias_members_of_atom Cmnd lines s.atom ≡ None) (map signed_atom_of_member ms) → ListNamesNoDefinedAlias lines ms
  none_signed [] a = tt
  none_signed (m ∷ ms) a = (a.0, none_signed ms a.1)

  -- the alias that a member names, whose flat list is what replacing so many times comes to
  pub begins : (times : ℕ) (m : Member) (name : List ℕ) (fs : List SignedAtom) → m.atom ≡ Alias name → IsFlatListOf Cmnd lines (m ∷ []) fs
      → fs ≡ map signed_atom_of_member (list_expanded_n_times times Cmnd lines (m ∷ [])) → IsAliasGoneAfterExpansions lines times name
  begins times m name fs names made same = record {
    list = m ∷ [];
    names = (m, inl refl, names);
    straight =
        none_signed (list_expanded_n_times times Cmnd lines (m ∷ []))
        (subst (AllByRecursion (λ (s : SignedAtom). alias_members_of_atom Cmnd lines s.atom ≡ None)) same (flat_none (m ∷ []) fs made));
  }
