-- Flat lists and verdicts of two policies.
use Rattle.sudoers_match_list.proofs.Common.{AllByRecursion, Atom, Bool, Digest, IsFlatListOf, IsListVerdict, Kind, Line, List, ListLeadsToCyclicAlias, Member, None, Option, SignedAtom, Some, []}
use Rattle.sudoers_match_list.proofs.Common.{alias_members_of_atom, ap, ap₂, has_no_digests, hit_of_signed_atom, inl, inr, is_all_atom, last_hit_of_list, later_hit_if_any, many, map, map-append, none, not, one, refl}
use Rattle.sudoers_match_list.proofs.Common.{signed_atom_of_member, signed_atom_under_negation, subst, sym, ◌&&◌, ◌++◌, ◌↔◌, ◌∙◌, ◌∷◌, ◌≡◌, ◌⊎◌}
use Rattle.std.specs.Prelude.{if◌then◌else◌}
use Rattle.sudoers_match_list.specs.declared.verdict.Verdict.{Verdict}
use Rattle.sudoers_match_list.specs.Alike.{IsPointwiseRelated, signed_atom_with_atom_mapped, IsMemberCounterpart, AreBothUndefinedOrCounterparts, IsAtomMappedTo, IsMemberWithAtomMapped, HaveMappedAliasesMappedMembers, HaveSameFlatListAfterRewrite}
use Rattle.sudoers_match_list.proofs.Unique.{one_flat}

-- ---- flat lists

-- In a list without defined aliases each member stands for itself.
pub list_without_aliases_is_flat : (k : Kind) (lines : List Line) (ms : List Member) → AllByRecursion (λ (m : Member). alias_members_of_atom k lines m.atom ≡ None) ms → IsFlatListOf k lines ms (map signed_atom_of_member ms)
list_without_aliases_is_flat k lines [] all = none
list_without_aliases_is_flat k lines (m ∷ ms) all = one m ms (map signed_atom_of_member ms) all.0 (list_without_aliases_is_flat k lines ms all.1)

abbrev signed_atom_of_parts : Bool → List Digest → Atom → SignedAtom
signed_atom_of_parts allow digests atom = record { allow = allow; digests = digests; atom = atom }

-- Where an atom stands for another, both name defined aliases with counterparts as members. Or neither does, and it is what is written
-- for the other in the second policy.
pub record KeepsAliasCounterparts (Stands : Atom → Atom → Type 0) (write : Atom → Atom) (k : Kind) (lines others : List Line) : Type 0 where
  pub defined : (a b : Atom) → Stands a b → AreBothUndefinedOrCounterparts Stands (alias_members_of_atom k lines a) (alias_members_of_atom k others b)
  pub written : (a b : Atom) → Stands a b → alias_members_of_atom k lines a ≡ None → b ≡ write a

module _ (Stands : Atom → Atom → Type 0) (write : Atom → Atom) where
  signed_alike : (m n : Member) → n.negated ≡ m.negated → n.digests ≡ m.digests → n.atom ≡ write m.atom → signed_atom_of_member n ≡ signed_atom_with_atom_mapped write (signed_atom_of_member m)
  signed_alike m n negated digests atom =
      ap (λ b. signed_atom_of_parts (not b) n.digests n.atom) negated ∙ ap₂ (λ ds a. signed_atom_of_parts (not m.negated) ds a) digests atom

  turned_alike : (b : Bool) (fs : List SignedAtom) → map (signed_atom_under_negation b) (map (signed_atom_with_atom_mapped write) fs) ≡ map (signed_atom_with_atom_mapped write) (map (signed_atom_under_negation b) fs)
  turned_alike b [] = refl
  turned_alike b (s ∷ fs) = ap (λ gs. signed_atom_with_atom_mapped write (signed_atom_under_negation b s) ∷ gs) (turned_alike b fs)

  many_alike : (b c : Bool) (inner fs : List SignedAtom) → c ≡ b
      → map (signed_atom_under_negation c) (map (signed_atom_with_atom_mapped write) inner) ++ map (signed_atom_with_atom_mapped write) fs ≡ map (signed_atom_with_atom_mapped write) (map (signed_atom_under_negation b) inner ++ fs)
  many_alike b c inner fs e =
      ap (λ (x : Bool). map (signed_atom_under_negation x) (map (signed_atom_with_atom_mapped write) inner) ++ map (signed_atom_with_atom_mapped write) fs) e
      ∙ ap (λ gs. gs ++ map (signed_atom_with_atom_mapped write) fs) (turned_alike b inner)
      ∙ sym (map-append (signed_atom_with_atom_mapped write) (map (signed_atom_under_negation b) inner) fs)

  none_there : (a b : Option (List Member)) → AreBothUndefinedOrCounterparts Stands a b → a ≡ None → b ≡ None
  none_there None None is e = refl
  none_there None (Some ns) is e = absurd is
  none_there (Some ms) b is e = absurd cc

  none_back : (a b : Option (List Member)) → AreBothUndefinedOrCounterparts Stands a b → b ≡ None → a ≡ None
  none_back None b is e = refl
  none_back (Some ms) None is e = absurd is
  none_back (Some ms) (Some ns) is e = absurd cc

  some_there : (a b : Option (List Member)) (ms : List Member) → AreBothUndefinedOrCounterparts Stands a b → a ≡ Some ms → (ns : List Member) × (b ≡ Some ns) × IsPointwiseRelated (IsMemberCounterpart Stands) ms ns
  some_there None b ms is e = absurd cc
  some_there (Some xs) None ms is e = absurd is
  some_there (Some xs) (Some ns) ms is e = let same : xs ≡ ms = cc in (ns, refl, subst (λ zs. IsPointwiseRelated (IsMemberCounterpart Stands) zs ns) same is)

  some_back : (a b : Option (List Member)) (ns : List Member) → AreBothUndefinedOrCounterparts Stands a b → b ≡ Some ns → (ms : List Member) × (a ≡ Some ms) × IsPointwiseRelated (IsMemberCounterpart Stands) ms ns
  some_back None None ns is e = absurd cc
  some_back None (Some ys) ns is e = absurd is
  some_back (Some ms) None ns is e = absurd is
  some_back (Some ms) (Some ys) ns is e = let same : ys ≡ ns = cc in (ms, refl, subst (λ zs. IsPointwiseRelated (IsMemberCounterpart Stands) ms zs) same is)

  module _ (k : Kind) (lines others : List Line) (keeps : KeepsAliasCounterparts Stands write k lines others) where
    alike_at : (m n : Member) → IsMemberCounterpart Stands m n → AreBothUndefinedOrCounterparts Stands (alias_members_of_atom k lines m.atom) (alias_members_of_atom k others n.atom)
    alike_at m n is = keeps.defined m.atom n.atom is.atom

    one_alike : (m n : Member) → IsMemberCounterpart Stands m n → alias_members_of_atom k lines m.atom ≡ None → signed_atom_of_member n ≡ signed_atom_with_atom_mapped write (signed_atom_of_member m)
    one_alike m n is e = signed_alike m n is.negated is.digests (keeps.written m.atom n.atom is.atom e)

    there : (ms ns : List Member) (fs : List SignedAtom) → IsPointwiseRelated (IsMemberCounterpart Stands) ms ns → IsFlatListOf k lines ms fs → IsFlatListOf k others ns (map (signed_atom_with_atom_mapped write) fs)
    there ms [] fs all none = none
    there ms (n ∷ ns) fs all none = absurd all
    there ms [] fs all (one m rest gs e f) = absurd all
    there ms [] fs all (many m rest members inner gs e i f) = absurd all
    there ms (n ∷ ns) fs all (one m rest gs e f) =
        subst (λ s. IsFlatListOf k others (n ∷ ns) (s ∷ map (signed_atom_with_atom_mapped write) gs)) (one_alike m n all.0 e)
        (one n ns (map (signed_atom_with_atom_mapped write) gs) (none_there (alias_members_of_atom k lines m.atom) (alias_members_of_atom k others n.atom) (alike_at m n all.0) e) (there rest ns gs all.1 f))
    there ms (n ∷ ns) fs all (many m rest members inner gs e i f) =
        let found = some_there (alias_members_of_atom k lines m.atom) (alias_members_of_atom k others n.atom) members (alike_at m n all.0) e in
        subst (IsFlatListOf k others (n ∷ ns)) (many_alike m.negated n.negated inner gs all.0.negated)
        (many n ns found.0 (map (signed_atom_with_atom_mapped write) inner) (map (signed_atom_with_atom_mapped write) gs) found.1 (there members found.0 inner found.2 i) (there rest ns gs all.1 f))

    back : (ms ns : List Member) (gs : List SignedAtom) → IsPointwiseRelated (IsMemberCounterpart Stands) ms ns → IsFlatListOf k others ns gs
        → (fs : List SignedAtom) × IsFlatListOf k lines ms fs × (gs ≡ map (signed_atom_with_atom_mapped write) fs)
    back [] ns gs all none = ([], none, refl)
    back (m ∷ ms) ns gs all none = absurd all
    back [] ns gs all (one n rest hs e g) = absurd all
    back [] ns gs all (many n rest members inner hs e i g) = absurd all
    back (m ∷ ms) ns gs all (one n rest hs e g) =
        let more = back ms rest hs all.1 g in
        let undefined = none_back (alias_members_of_atom k lines m.atom) (alias_members_of_atom k others n.atom) (alike_at m n all.0) e in (
          signed_atom_of_member m ∷ more.0,
          one m ms more.0 undefined more.1,
          ap₂ (λ (s : SignedAtom) (ss : List SignedAtom). s ∷ ss) (one_alike m n all.0 undefined) more.2,
        )
    back (m ∷ ms) ns gs all (many n rest members inner hs e i g) =
        let found = some_back (alias_members_of_atom k lines m.atom) (alias_members_of_atom k others n.atom) members (alike_at m n all.0) e in
        let first = back found.0 members inner found.2 i in
        let more = back ms rest hs all.1 g in (
          map (signed_atom_under_negation m.negated) first.0 ++ more.0,
          many m ms found.0 first.0 more.0 found.1 first.1 more.1,
          ap₂ (λ xs ys. map (signed_atom_under_negation n.negated) xs ++ ys) first.2 more.2 ∙ many_alike m.negated n.negated first.0 more.0 all.0.negated,
        )

    -- Lists of counterparts are alike.
    pub counterparts_alike : (ms ns : List Member) → IsPointwiseRelated (IsMemberCounterpart Stands) ms ns → HaveSameFlatListAfterRewrite write k lines others ms ns
    counterparts_alike ms ns all = record { there = λ fs f. there ms ns fs all f; back = λ gs g. back ms ns gs all g }

-- So are lists of which the second is the first, with its atoms as they are written in the second policy.
pub rewritten_lists_have_same_flat_list : (write : Atom → Atom) (k : Kind) (lines others : List Line) → HaveMappedAliasesMappedMembers write k lines others → (ms ns : List Member)
    → IsPointwiseRelated (IsMemberWithAtomMapped write) ms ns → HaveSameFlatListAfterRewrite write k lines others ms ns
rewritten_lists_have_same_flat_list write k lines others aliases = counterparts_alike (IsAtomMappedTo write) write k lines others (record {
  defined = λ a b is. subst (λ (c : Atom). AreBothUndefinedOrCounterparts (IsAtomMappedTo write) (alias_members_of_atom k lines a) (alias_members_of_atom k others c)) (sym is) (aliases a);
  written = λ a b is e. is;
})

-- Lists are alike of which each has a flat list, and that the other's.
pub lists_of_rewritten_flat_list_are_alike : (write : Atom → Atom) (k : Kind) (lines others : List Line) (ms ns : List Member) (fs : List SignedAtom) → IsFlatListOf k lines ms fs
    → IsFlatListOf k others ns (map (signed_atom_with_atom_mapped write) fs) → HaveSameFlatListAfterRewrite write k lines others ms ns
lists_of_rewritten_flat_list_are_alike write k lines others ms ns fs f g = record {
  there = λ xs x. subst (λ ys. IsFlatListOf k others ns (map (signed_atom_with_atom_mapped write) ys)) (one_flat k lines ms fs xs f x) g;
  back = λ ys y. (fs, f, one_flat k others ns ys (map (signed_atom_with_atom_mapped write) fs) y g);
}

-- ---- verdicts

module _ (write : Atom → Atom) (test : Atom → Bool) (kept : (a : Atom) → test (write a) ≡ test a) (alls : (a : Atom) → is_all_atom (write a) ≡ is_all_atom a) where
  hit_alike : (s : SignedAtom) → hit_of_signed_atom test (signed_atom_with_atom_mapped write s) ≡ hit_of_signed_atom test s
  hit_alike s =
      ap₂ (λ (t all : Bool). if t && has_no_digests s.digests then Some (record { allow = s.allow; by_all = all }) else None) (kept s.atom) (alls s.atom)

  last_alike : (fs : List SignedAtom) → last_hit_of_list test (map (signed_atom_with_atom_mapped write) fs) ≡ last_hit_of_list test fs
  last_alike [] = refl
  last_alike (s ∷ fs) = ap₂ later_hit_if_any (hit_alike s) (last_alike fs)

  pub verdicts_alike : (k : Kind) (lines others : List Line) (ms ns : List Member) → HaveSameFlatListAfterRewrite write k lines others ms ns → (verdict : Verdict)
      → IsListVerdict k lines test ms verdict ↔ IsListVerdict k others test ns verdict
  verdicts_alike k lines others ms ns alike verdict = (to, from)
    where
      to : IsListVerdict k lines test ms verdict → IsListVerdict k others test ns verdict
      to v =
          let old = v.is_latest in
          record {
            hit = v.hit;
            is_latest = record { flat = map (signed_atom_with_atom_mapped write) old.flat; is_flat = alike.there old.flat old.is_flat; is_last = last_alike old.flat ∙ old.is_last };
            says = v.says;
          }

      from : IsListVerdict k others test ns verdict → IsListVerdict k lines test ms verdict
      from v =
          let old = v.is_latest in
          let found = alike.back old.flat old.is_flat in
          record {
            hit = v.hit;
            is_latest = record { flat = found.0; is_flat = found.1; is_last = sym (last_alike found.0) ∙ sym (ap (last_hit_of_list test) found.2) ∙ old.is_last };
            says = v.says;
          }

-- ---- cycles

abbrev ListIsFlatOrLeadsToCycle : Type 0
ListIsFlatOrLeadsToCycle = (k : Kind) (lines : List Line) (ms : List Member) → ((fs : List SignedAtom) × IsFlatListOf k lines ms fs) ⊎ ListLeadsToCyclicAlias k lines ms

abbrev FlatListLeadsToNoCycle : Kind → List Line → Type 0
FlatListLeadsToNoCycle k lines = (ms : List Member) (fs : List SignedAtom) → IsFlatListOf k lines ms fs → ListLeadsToCyclicAlias k lines ms → ⊥

pub alike_lists_lead_to_same_cycle : ListIsFlatOrLeadsToCycle → (write : Atom → Atom) (k : Kind) (lines others : List Line) (ms ns : List Member) → FlatListLeadsToNoCycle k lines → FlatListLeadsToNoCycle k others
    → HaveSameFlatListAfterRewrite write k lines others ms ns → ListLeadsToCyclicAlias k lines ms ↔ ListLeadsToCyclicAlias k others ns
alike_lists_lead_to_same_cycle law write k lines others ms ns here there alike = (to, from)
  where
    to : ListLeadsToCyclicAlias k lines ms → ListLeadsToCyclicAlias k others ns
    to l = elim (law k others ns) [ inl f ↦ (let found = alike.back f.0 f.1 in absurd (here ms found.0 found.1 l)) | inr m ↦ m ]

    from : ListLeadsToCyclicAlias k others ns → ListLeadsToCyclicAlias k lines ms
    from l = elim (law k lines ms) [ inl f ↦ absurd (there ns (map (signed_atom_with_atom_mapped write) f.0) (alike.there f.0 f.1) l) | inr m ↦ m ]
