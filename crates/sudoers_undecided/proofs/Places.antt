-- Flat lists with places are flat lists.
use Rattle.std.proofs.Common.{◌≡◌, ℕ, Bool, List, [], ◌∷◌, ◌++◌, map, Option, refl, sym, ap, ap₂, subst, ◌∙◌}
use Rattle.sudoers_grammar.specs.declared.node.Kind.{Kind}
use Rattle.sudoers_grammar.specs.Node.{Member}
use Rattle.sudoers_tree.specs.Line.{Line}
use Rattle.sudoers_match_list.specs.Flat.{SignedAtom, signed_atom_of_member, signed_atom_under_negation, alias_members_of_atom, IsFlatListOf}
use Rattle.sudoers_match_list.specs.Flat as flat
use Rattle.sudoers_undecided.specs.PlacedAtoms.{PlacedAtom, placed_atom_of_member, placed_atom_under_negation, signed_atom_of_placed, alias_name_of_atom, IsFlatListWithPlaces, none, one, many}

turned : (b : Bool) (ps : List PlacedAtom) → map signed_atom_of_placed (map (placed_atom_under_negation b) ps) ≡ map (signed_atom_under_negation b) (map signed_atom_of_placed ps)
turned b [] = refl
turned b (p ∷ ps) = ap (λ ss. signed_atom_under_negation b p.says ∷ ss) (turned b ps)

map_append : (ps qs : List PlacedAtom) → map signed_atom_of_placed (ps ++ qs) ≡ map signed_atom_of_placed ps ++ map signed_atom_of_placed qs
map_append [] qs = refl
map_append (p ∷ ps) qs = ap (λ ss. p.says ∷ ss) (map_append ps qs)

both : (b : Bool) (inner ps : List PlacedAtom) → map signed_atom_of_placed (map (placed_atom_under_negation b) inner ++ ps) ≡ map (signed_atom_under_negation b) (map signed_atom_of_placed inner) ++ map signed_atom_of_placed ps
both b inner ps = map_append (map (placed_atom_under_negation b) inner) ps ∙ ap (λ ss. ss ++ map signed_atom_of_placed ps) (turned b inner)

module _ (k : Kind) (lines : List Line) where
  pub flat_list_of_places : (within : Option (List ℕ)) (ms : List Member) (ps : List PlacedAtom) → IsFlatListWithPlaces k lines within ms ps → IsFlatListOf k lines ms (map signed_atom_of_placed ps)
  flat_list_of_places within ms ps (none w) = flat.none
  flat_list_of_places within ms ps (one w m rest qs e f) = flat.one m rest (map signed_atom_of_placed qs) e (flat_list_of_places w rest qs f)
  flat_list_of_places within ms ps (many w m rest members inner qs e i f) =
      subst (IsFlatListOf k lines (m ∷ rest)) (sym (both m.negated inner qs))
      (flat.many m rest members (map signed_atom_of_placed inner) (map signed_atom_of_placed qs) e (flat_list_of_places (alias_name_of_atom m.atom) members inner i) (flat_list_of_places w rest qs f))

  pub places_of_flat_list : (ms : List Member) (fs : List SignedAtom) → IsFlatListOf k lines ms fs → (within : Option (List ℕ)) → (ps : List PlacedAtom) × IsFlatListWithPlaces k lines within ms ps × (fs ≡ map signed_atom_of_placed ps)
  places_of_flat_list ms fs flat.none within = ([], none within, refl)
  places_of_flat_list ms fs (flat.one m rest gs e f) within =
      let more = places_of_flat_list rest gs f within in
      (placed_atom_of_member within m ∷ more.0, one within m rest more.0 e more.1, ap (λ ss. signed_atom_of_member m ∷ ss) more.2)
  places_of_flat_list ms fs (flat.many m rest members inner gs e i f) within =
      let first = places_of_flat_list members inner i (alias_name_of_atom m.atom) in
      let more = places_of_flat_list rest gs f within in (
        map (placed_atom_under_negation m.negated) first.0 ++ more.0,
        many within m rest members first.0 more.0 e first.1 more.1,
        ap₂ (λ x y. map (signed_atom_under_negation m.negated) x ++ y) first.2 more.2 ∙ sym (both m.negated first.0 more.0),
      )
