-- Flat lists by how deep their aliases are, and what replacing aliases again and again comes to.
use Rattle.sudoers_match_list.proofs.Common.{Bool, IsFlatListOf, Kind, Line, List, Member, None, SignedAtom, Some, [], alias_members_of_atom, ap, append_assoc, false, flipped_if_negated, map, not, refl}
use Rattle.sudoers_match_list.proofs.Common.{signed_atom_of_member, signed_atom_under_negation, subst, suc, sym, true, zero, ℕ, ◌++◌, ◌∙◌, ◌∷◌, ◌≡◌}
use Rattle.sudoers_match_list.specs.Flat as flat
use Rattle.sudoers_match_list.specs.Flattened.{member_under_negation, member_or_alias_members, list_with_aliases_expanded_once, list_expanded_n_times}

-- a flat list whose aliases are no deeper than this
pub data IsFlatListOfDepth (k : Kind) (lines : List Line) : ℕ → List Member → List SignedAtom → Type 0 where
  none : (n : ℕ) → IsFlatListOfDepth k lines n [] []
  one : (n : ℕ) (m : Member) (ms : List Member) (fs : List SignedAtom) → alias_members_of_atom k lines m.atom ≡ None → IsFlatListOfDepth k lines n ms fs → IsFlatListOfDepth k lines n (m ∷ ms) (signed_atom_of_member m ∷ fs)
  many : (n : ℕ) (m : Member) (ms members : List Member) (inner fs : List SignedAtom)
      → alias_members_of_atom k lines m.atom ≡ Some members → IsFlatListOfDepth k lines n members inner → IsFlatListOfDepth k lines (suc n) ms fs
      → IsFlatListOfDepth k lines (suc n) (m ∷ ms) (map (signed_atom_under_negation m.negated) inner ++ fs)

flipping_twice_is_flipping_in_turn : (a b : Bool) (c : Bool) → flipped_if_negated (flipped_if_negated a b) c ≡ flipped_if_negated a (flipped_if_negated b c)
flipping_twice_is_flipping_in_turn true true true = refl
flipping_twice_is_flipping_in_turn true true false = refl
flipping_twice_is_flipping_in_turn true false true = refl
flipping_twice_is_flipping_in_turn true false false = refl
flipping_twice_is_flipping_in_turn false b c = refl

negated_flip_is_flip_of_negated : (a b : Bool) → not (flipped_if_negated a b) ≡ flipped_if_negated a (not b)
negated_flip_is_flip_of_negated true b = refl
negated_flip_is_flip_of_negated false b = refl

negating_atoms_twice_is_in_turn : (a b : Bool) (fs : List SignedAtom) → map (signed_atom_under_negation (flipped_if_negated a b)) fs ≡ map (signed_atom_under_negation a) (map (signed_atom_under_negation b) fs)
negating_atoms_twice_is_in_turn a b [] = refl
negating_atoms_twice_is_in_turn a b (s ∷ fs) =
    ap (λ allow. record { allow = allow; digests = s.digests; atom = s.atom } ∷ map (signed_atom_under_negation (flipped_if_negated a b)) fs) (flipping_twice_is_flipping_in_turn a b s.allow)
    ∙ ap (λ gs. signed_atom_under_negation a (signed_atom_under_negation b s) ∷ gs) (negating_atoms_twice_is_in_turn a b fs)

negated_appended_atoms_are_appended : (a : Bool) (fs gs : List SignedAtom) → map (signed_atom_under_negation a) (fs ++ gs) ≡ map (signed_atom_under_negation a) fs ++ map (signed_atom_under_negation a) gs
negated_appended_atoms_are_appended a [] gs = refl
negated_appended_atoms_are_appended a (s ∷ fs) gs = ap (λ hs. signed_atom_under_negation a s ∷ hs) (negated_appended_atoms_are_appended a fs gs)

module _ (k : Kind) (lines : List Line) where
  pub is_flat : (n : ℕ) (ms : List Member) (fs : List SignedAtom) → IsFlatListOfDepth k lines n ms fs → IsFlatListOf k lines ms fs
  is_flat n ms fs (none j) = flat.none
  is_flat n ms fs (one j m rest gs e f) = flat.one m rest gs e (is_flat j rest gs f)
  is_flat n ms fs (many j m rest members inner gs e i f) = flat.many m rest members inner gs e (is_flat j members inner i) (is_flat (suc j) rest gs f)

  in_append : (n : ℕ) (ms ns : List Member) (fs gs : List SignedAtom) → IsFlatListOfDepth k lines n ms fs → IsFlatListOfDepth k lines n ns gs → IsFlatListOfDepth k lines n (ms ++ ns) (fs ++ gs)
  in_append n ms ns fs gs (none j) g = g
  in_append n ms ns fs gs (one j m rest more e f) g = one j m (rest ++ ns) (more ++ gs) e (in_append j rest ns more gs f g)
  in_append n ms ns fs gs (many j m rest members inner more e i f) g =
      subst (IsFlatListOfDepth k lines (suc j) (m ∷ rest ++ ns)) (sym (append_assoc (map (signed_atom_under_negation m.negated) inner) more gs))
      (many j m (rest ++ ns) members inner (more ++ gs) e i (in_append (suc j) rest ns more gs f g))

  in_turned : (n : ℕ) (a : Bool) (ms : List Member) (fs : List SignedAtom) → IsFlatListOfDepth k lines n ms fs → IsFlatListOfDepth k lines n (map (member_under_negation a) ms) (map (signed_atom_under_negation a) fs)
  in_turned n a ms fs (none j) = none j
  in_turned n a ms fs (one j m rest gs e f) =
      subst (λ allow. IsFlatListOfDepth k lines j (map (member_under_negation a) (m ∷ rest)) (record { allow = allow; digests = m.digests; atom = m.atom } ∷ map (signed_atom_under_negation a) gs)) (negated_flip_is_flip_of_negated a m.negated)
      (one j (member_under_negation a m) (map (member_under_negation a) rest) (map (signed_atom_under_negation a) gs) e (in_turned j a rest gs f))
  in_turned n a ms fs (many j m rest members inner gs e i f) =
      subst (IsFlatListOfDepth k lines (suc j) (map (member_under_negation a) (m ∷ rest)))
      (ap (λ hs. hs ++ map (signed_atom_under_negation a) gs) (negating_atoms_twice_is_in_turn a m.negated inner) ∙ sym (negated_appended_atoms_are_appended a (map (signed_atom_under_negation m.negated) inner) gs))
      (many j (member_under_negation a m) (map (member_under_negation a) rest) members inner (map (signed_atom_under_negation a) gs) e i (in_turned (suc j) a rest gs f))

  -- aliases are one less deep once they are replaced
  descended : (n : ℕ) (ms : List Member) (fs : List SignedAtom) → IsFlatListOfDepth k lines (suc n) ms fs → IsFlatListOfDepth k lines n (list_with_aliases_expanded_once k lines ms) fs
  descended n ms fs (none j) = none n
  descended n ms fs (one j m rest gs e f) =
      subst (λ o. IsFlatListOfDepth k lines n (member_or_alias_members m o ++ list_with_aliases_expanded_once k lines rest) (signed_atom_of_member m ∷ gs)) (sym e)
      (one n m (list_with_aliases_expanded_once k lines rest) gs e (descended n rest gs f))
  descended n ms fs (many j m rest members inner gs e i f) =
      subst (λ o. IsFlatListOfDepth k lines n (member_or_alias_members m o ++ list_with_aliases_expanded_once k lines rest) (map (signed_atom_under_negation m.negated) inner ++ gs)) (sym e)
      (in_append n (map (member_under_negation m.negated) members) (list_with_aliases_expanded_once k lines rest) (map (signed_atom_under_negation m.negated) inner) gs
      (in_turned n m.negated members inner i) (descended n rest gs f))

  straight : (ms : List Member) (fs : List SignedAtom) → IsFlatListOfDepth k lines zero ms fs → fs ≡ map signed_atom_of_member ms
  straight ms fs (none j) = refl
  straight ms fs (one j m rest gs e f) = ap (λ hs. signed_atom_of_member m ∷ hs) (straight rest gs f)

  pub replaced : (n : ℕ) (ms : List Member) (fs : List SignedAtom) → IsFlatListOfDepth k lines n ms fs → fs ≡ map signed_atom_of_member (list_expanded_n_times n k lines ms)
  replaced zero ms fs f = straight ms fs f
  replaced (suc n) ms fs f = replaced n (list_with_aliases_expanded_once k lines ms) fs (descended n ms fs f)
