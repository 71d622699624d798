-- A list has one flat list.
use Rattle.sudoers_match_list.proofs.Common.{Atom, Bool, IsFlatListOf, IsLastHitOfList, Kind, Line, List, Member, MemberHit, None, Option, SignedAtom, Some, [], alias_members_of_atom, ap, inl, inr, last_hit_of_list}
use Rattle.sudoers_match_list.proofs.Common.{many, map, none, one, refl, signed_atom_of_member, signed_atom_under_negation, subst, sym, ◌++◌, ◌∙◌, ◌∷◌, ◌≡◌, ◌⊎◌}

module _ (kd : Kind) (lines : List Line) where
  -- how a flat list came about
  abbrev Made : List Member → List SignedAtom → Type 0
  Made [] fs = fs ≡ []
  Made (m ∷ ms) fs =
      ((gs : List SignedAtom) × (alias_members_of_atom kd lines m.atom ≡ None) × IsFlatListOf kd lines ms gs × (fs ≡ signed_atom_of_member m ∷ gs))
      ⊎ ((members : List Member) × (inner gs : List SignedAtom) × (alias_members_of_atom kd lines m.atom ≡ Some members) × IsFlatListOf kd lines members inner × IsFlatListOf kd lines ms gs × (fs ≡ map (signed_atom_under_negation m.negated) inner ++ gs))

  made : (ms : List Member) (fs : List SignedAtom) → IsFlatListOf kd lines ms fs → Made ms fs
  made ms fs none = refl
  made ms fs (one m rest gs e f) = inl (gs, e, f, refl)
  made ms fs (many m rest members inner gs e i f) = inr (members, inner, gs, e, i, f, refl)

  pub one_flat : (ms : List Member) (fs others : List SignedAtom) → IsFlatListOf kd lines ms fs → IsFlatListOf kd lines ms others → fs ≡ others
  one_flat ms fs others none g = sym (made [] others g)
  one_flat ms fs others (one m rest gs e f) g = elim (made (m ∷ rest) others g) [
    | inl w ↦ ap (λ xs. signed_atom_of_member m ∷ xs) (one_flat rest gs w.0 f w.2) ∙ sym w.3
    | inr w ↦ let clash : Some w.0 ≡ None = sym w.3 ∙ e in absurd cc
  ]
  one_flat ms fs others (many m rest members inner gs e i f) g = elim (made (m ∷ rest) others g) [
    | inl w ↦ let clash : Some members ≡ None = sym e ∙ w.1 in absurd cc
    | inr w ↦
        let same : members ≡ w.0 = let two : Some members ≡ Some w.0 = sym e ∙ w.3 in cc in
        let first : inner ≡ w.1 = one_flat members inner w.1 i (subst (λ xs. IsFlatListOf kd lines xs w.1) (sym same) w.4) in
        ap (λ xs. map (signed_atom_under_negation m.negated) xs ++ gs) first ∙ ap (λ xs. map (signed_atom_under_negation m.negated) w.1 ++ xs) (one_flat rest gs w.2 f w.5) ∙ sym w.6
  ]

  pub one_latest : (test : Atom → Bool) (ms : List Member) (a b : Option MemberHit) → IsLastHitOfList kd lines test ms a → IsLastHitOfList kd lines test ms b → a ≡ b
  one_latest test ms a b p q = sym p.is_last ∙ ap (last_hit_of_list test) (one_flat ms p.flat q.flat p.is_flat q.is_flat) ∙ q.is_last
