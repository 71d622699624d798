-- Lists of two policies that say the same, though their atoms may be written otherwise there.
use Rattle.std.specs.Prelude.{◌≡◌, List, [], ◌∷◌, map, Option, Some, None}
use Rattle.sudoers_grammar.specs.declared.node.Kind.{Kind}
use Rattle.sudoers_grammar.specs.declared.node.Atom.{Atom}
use Rattle.sudoers_grammar.specs.Node.{Member}
use Rattle.sudoers_tree.specs.Line.{Line}
use Rattle.sudoers_match_list.specs.Flat.{alias_members_of_atom, SignedAtom, IsFlatListOf}

-- each is related to the one at its place, and there are as many
abbrev pub IsPointwiseRelated : {X Y : Type 0} → (X → Y → Type 0) → List X → List Y → Type 0
IsPointwiseRelated R [] [] = Unit {0}
IsPointwiseRelated R [] (y ∷ ys) = ⊥
IsPointwiseRelated R (x ∷ xs) [] = ⊥
IsPointwiseRelated R (x ∷ xs) (y ∷ ys) = R x y × IsPointwiseRelated R xs ys

-- the signed atom, with its atom as it is written in the second policy
abbrev pub signed_atom_with_atom_mapped : (Atom → Atom) → SignedAtom → SignedAtom
signed_atom_with_atom_mapped write s = record { allow = s.allow; digests = s.digests; atom = write s.atom }

-- each atom is written in the second policy as in the first
abbrev pub unchanged_atom : Atom → Atom
unchanged_atom a = a

-- The second has the sign and the digests of the first, and its atom stands for that of the first. It may stand elsewhere.
pub record IsMemberCounterpart (Stands : Atom → Atom → Type 0) (m n : Member) : Type 0 where
  pub negated : n.negated ≡ m.negated
  pub digests : n.digests ≡ m.digests
  pub atom : Stands m.atom n.atom

-- Both are defined, and each member of the second is a counterpart of one of the first; or neither is defined.
abbrev pub AreBothUndefinedOrCounterparts : (Atom → Atom → Type 0) → Option (List Member) → Option (List Member) → Type 0
AreBothUndefinedOrCounterparts Stands None None = Unit {0}
AreBothUndefinedOrCounterparts Stands None (Some ns) = ⊥
AreBothUndefinedOrCounterparts Stands (Some ms) None = ⊥
AreBothUndefinedOrCounterparts Stands (Some ms) (Some ns) = IsPointwiseRelated (IsMemberCounterpart Stands) ms ns

-- The one atom is what is written for the other in the second policy.
abbrev pub IsAtomMappedTo : (Atom → Atom) → Atom → Atom → Type 0
IsAtomMappedTo write a b = b ≡ write a

-- The second is the first, with its atom as it is written in the second policy. It may stand elsewhere.
abbrev pub IsMemberWithAtomMapped : (Atom → Atom) → Member → Member → Type 0
IsMemberWithAtomMapped write m n = IsMemberCounterpart (IsAtomMappedTo write) m n

-- Both are defined and have the same members, which may stand elsewhere; or neither is defined.
abbrev pub AreBothUndefinedOrHaveSameMembers : Option (List Member) → Option (List Member) → Type 0
AreBothUndefinedOrHaveSameMembers o p = AreBothUndefinedOrCounterparts (IsAtomMappedTo unchanged_atom) o p

-- Each atom names in the one policy what it names in the other.
abbrev pub HaveMappedAliasesMappedMembers : (Atom → Atom) → Kind → List Line → List Line → Type 0
HaveMappedAliasesMappedMembers write k lines others = (a : Atom) → AreBothUndefinedOrCounterparts (IsAtomMappedTo write) (alias_members_of_atom k lines a) (alias_members_of_atom k others (write a))

-- The one list has in the one policy the flat list that the other has in the other, its atoms as they are written there.
pub record HaveSameFlatListAfterRewrite (write : Atom → Atom) (k : Kind) (lines others : List Line) (ms ns : List Member) : Type 0 where
  pub there : (fs : List SignedAtom) → IsFlatListOf k lines ms fs → IsFlatListOf k others ns (map (signed_atom_with_atom_mapped write) fs)
  pub back : (gs : List SignedAtom) → IsFlatListOf k others ns gs → (fs : List SignedAtom) × IsFlatListOf k lines ms fs × (gs ≡ map (signed_atom_with_atom_mapped write) fs)
