-- What flat lists say.
use Rattle.std.proofs.Common.{◌≡◌, ◌⊎◌, inl, inr, Bool, true, false, ◌&&◌, List, [], ◌∷◌, ◌++◌, Option, Some, None, refl, sym, ap, ap₂, subst, ◌∙◌, if◌then◌else◌}
use Rattle.sudoers_grammar.specs.declared.node.Atom.{Atom}
use Rattle.sudoers_grammar.specs.declared.node.Atom.TheVariants as atom
use Rattle.sudoers_check.specs.Chain.{ListHasElement}
use Rattle.sudoers_match_list.specs.declared.verdict.MemberHit.{MemberHit}
use Rattle.sudoers_match_list.specs.declared.verdict.Verdict.{Verdict}
use Rattle.sudoers_match_list.specs.declared.verdict.Verdict.TheVariants.{Allow, Deny, Unsaid}
use Rattle.sudoers_match_list.specs.Flat.{SignedAtom, is_all_atom, has_no_digests, hit_of_signed_atom, later_hit_if_any, last_hit_of_list, verdict_of_hit, later_verdict_unless_unsaid}
use Rattle.sudoers_match_list.proofs.Flats.{last_hit_of_appended_is_later_hit}
use Rattle.sudoers_match.specs.Runas.{is_allowed_by_verdict_or_own_group}
use Rattle.laws_compare.specs.Covers.{HasNoNegation, all_without_negation_and_digests, HasAllInForce, IsListWider, same_list, list_with_all_in_force, list_with_more_members}

-- what the flat list says
abbrev pub verdict_of_flat_list : (Atom → Bool) → List SignedAtom → Verdict
verdict_of_flat_list test fs = verdict_of_hit (last_hit_of_list test fs)

-- what the signed atom alone says
abbrev verdict_of_signed_atom : (Atom → Bool) → SignedAtom → Verdict
verdict_of_signed_atom test s = verdict_of_hit (hit_of_signed_atom test s)

verdict_of_later_hit_is_later_verdict : (a b : Option MemberHit)
    → verdict_of_hit (later_hit_if_any a b) ≡ later_verdict_unless_unsaid (verdict_of_hit a) (verdict_of_hit b)
verdict_of_later_hit_is_later_verdict a None = refl
verdict_of_later_hit_is_later_verdict a (Some hit) = by hit.allow hit.by_all
  where
    by : (allow all : Bool)
        → verdict_of_hit (later_hit_if_any a (Some (record { allow = allow; by_all = all })))
        ≡ later_verdict_unless_unsaid (verdict_of_hit a) (verdict_of_hit (Some (record { allow = allow; by_all = all })))
    by true all = refl
    by false all = refl

abbrev hit_if_matched : Bool → Bool → Bool → Option MemberHit
hit_if_matched test allow all = if test then Some (record { allow = allow; by_all = all }) else None

abbrev IsNotDeny : Verdict → Type 0
IsNotDeny v = (v ≡ Allow) ⊎ (v ≡ Unsaid)

later_verdict_is_not_deny : (a b : Verdict) → IsNotDeny a → IsNotDeny b → IsNotDeny (later_verdict_unless_unsaid a b)
later_verdict_is_not_deny a Allow p q = inl refl
later_verdict_is_not_deny a Unsaid p q = p
later_verdict_is_not_deny a Deny p (inl e) = absurd cc
later_verdict_is_not_deny a Deny p (inr e) = absurd cc

allow_stays_before_no_deny : (a b : Verdict) → a ≡ Allow → IsNotDeny b → later_verdict_unless_unsaid a b ≡ Allow
allow_stays_before_no_deny a Allow p q = refl
allow_stays_before_no_deny a Unsaid p q = p
allow_stays_before_no_deny a Deny p (inl e) = absurd cc
allow_stays_before_no_deny a Deny p (inr e) = absurd cc

module _ (test : Atom → Bool) where
  verdict_of_longer_list_is_later_verdict : (s : SignedAtom) (fs : List SignedAtom)
      → verdict_of_flat_list test (s ∷ fs) ≡ later_verdict_unless_unsaid (verdict_of_signed_atom test s) (verdict_of_flat_list test fs)
  verdict_of_longer_list_is_later_verdict s fs = verdict_of_later_hit_is_later_verdict (hit_of_signed_atom test s) (last_hit_of_list test fs)

  verdict_of_appended_lists_is_later_verdict : (xs ys : List SignedAtom)
      → verdict_of_flat_list test (xs ++ ys) ≡ later_verdict_unless_unsaid (verdict_of_flat_list test xs) (verdict_of_flat_list test ys)
  verdict_of_appended_lists_is_later_verdict xs ys =
      ap verdict_of_hit (last_hit_of_appended_is_later_hit test xs ys) ∙ verdict_of_later_hit_is_later_verdict (last_hit_of_list test xs) (last_hit_of_list test ys)

  unnegated_atom_does_not_deny : (s : SignedAtom) → s.allow ≡ true → IsNotDeny (verdict_of_signed_atom test s)
  unnegated_atom_does_not_deny s e =
      subst (λ (b : Bool). IsNotDeny (verdict_of_hit (hit_if_matched (test s.atom && has_no_digests s.digests) b (is_all_atom s.atom)))) (sym e)
      (by (test s.atom && has_no_digests s.digests))
    where
      by : (b : Bool) → IsNotDeny (verdict_of_hit (hit_if_matched b true (is_all_atom s.atom)))
      by true = inl refl
      by false = inr refl

  matching_unnegated_atom_allows : (s : SignedAtom) → s.allow ≡ true → (test s.atom && has_no_digests s.digests) ≡ true → verdict_of_signed_atom test s ≡ Allow
  matching_unnegated_atom_allows s e h = ap₂ (λ (hit allow : Bool). verdict_of_hit (hit_if_matched hit allow (is_all_atom s.atom))) h e

  list_without_negation_does_not_deny : (fs : List SignedAtom) → HasNoNegation fs → IsNotDeny (verdict_of_flat_list test fs)
  list_without_negation_does_not_deny [] all = inr refl
  list_without_negation_does_not_deny (s ∷ fs) all =
      subst IsNotDeny (sym (verdict_of_longer_list_is_later_verdict s fs))
      (later_verdict_is_not_deny (verdict_of_signed_atom test s) (verdict_of_flat_list test fs)
      (unnegated_atom_does_not_deny s all.0) (list_without_negation_does_not_deny fs all.1))

  -- A list without negated members allows what one of them matches.
  list_without_negation_allows_what_one_atom_matches : (fs : List SignedAtom) → HasNoNegation fs → (s : SignedAtom) → ListHasElement fs s
      → (test s.atom && has_no_digests s.digests) ≡ true → verdict_of_flat_list test fs ≡ Allow
  list_without_negation_allows_what_one_atom_matches [] all s has hit = absurd has
  list_without_negation_allows_what_one_atom_matches (t ∷ fs) all s (inl e) hit =
      verdict_of_longer_list_is_later_verdict t fs
      ∙ allow_stays_before_no_deny (verdict_of_signed_atom test t) (verdict_of_flat_list test fs)
      (matching_unnegated_atom_allows t all.0 (subst (λ (x : SignedAtom). (test x.atom && has_no_digests x.digests) ≡ true) (sym e) hit)) (list_without_negation_does_not_deny fs all.1)
  list_without_negation_allows_what_one_atom_matches (t ∷ fs) all s (inr has) hit =
      verdict_of_longer_list_is_later_verdict t fs ∙ ap (later_verdict_unless_unsaid (verdict_of_signed_atom test t)) (list_without_negation_allows_what_one_atom_matches fs all.1 s has hit)

  -- One of the members matches that are not negated.
  abbrev HasMatchingUnnegatedAtom : List SignedAtom → Type 0
  HasMatchingUnnegatedAtom gs = (t : SignedAtom) × ListHasElement gs t × (t.allow ≡ true) × ((test t.atom && has_no_digests t.digests) ≡ true)

  -- In a list that allows, one of the members matches that are not negated.
  allowing_list_has_matching_unnegated_atom : (fs : List SignedAtom) → verdict_of_flat_list test fs ≡ Allow
      → (s : SignedAtom) × ListHasElement fs s × (s.allow ≡ true) × ((test s.atom && has_no_digests s.digests) ≡ true)
  allowing_list_has_matching_unnegated_atom [] e = absurd cc
  allowing_list_has_matching_unnegated_atom (s ∷ fs) e =
      by (allowing_list_has_matching_unnegated_atom fs) (verdict_of_flat_list test fs) refl (sym (verdict_of_longer_list_is_later_verdict s fs) ∙ e)
    where
      here : (hit allow all : Bool) → verdict_of_hit (hit_if_matched hit allow all) ≡ Allow → (allow ≡ true) × (hit ≡ true)
      here true true all e = (refl, refl)
      here true false all e = absurd cc
      here false allow all e = absurd cc

      by : (verdict_of_flat_list test fs ≡ Allow → HasMatchingUnnegatedAtom fs) → (v : Verdict) → verdict_of_flat_list test fs ≡ v
          → later_verdict_unless_unsaid (verdict_of_signed_atom test s) v ≡ Allow → HasMatchingUnnegatedAtom (s ∷ fs)
      by further Allow is f = let found = further is in (found.0, inr found.1, found.2, found.3)
      by further Unsaid is f = let both = here (test s.atom && has_no_digests s.digests) s.allow (is_all_atom s.atom) f in (s, inl refl, both.0, both.1)
      by further Deny is f = absurd cc

  module _ (everything : test atom.All ≡ true) where
    pub list_with_all_in_force_allows : (fs : List SignedAtom) → HasAllInForce fs → verdict_of_flat_list test fs ≡ Allow
    list_with_all_in_force_allows fs (before, after, e, positive) =
        ap (verdict_of_flat_list test) e
        ∙ verdict_of_appended_lists_is_later_verdict before (all_without_negation_and_digests ∷ after)
        ∙ ap (later_verdict_unless_unsaid (verdict_of_flat_list test before))
        (verdict_of_longer_list_is_later_verdict all_without_negation_and_digests after
        ∙ allow_stays_before_no_deny (verdict_of_signed_atom test all_without_negation_and_digests) (verdict_of_flat_list test after)
        (matching_unnegated_atom_allows all_without_negation_and_digests refl (ap (λ (b : Bool). b && true) everything))
        (list_without_negation_does_not_deny after positive))

    pub wider_list_allows : (wide narrow : List SignedAtom) → IsListWider wide narrow → verdict_of_flat_list test narrow ≡ Allow → verdict_of_flat_list test wide ≡ Allow
    wider_list_allows wide narrow (same_list e) allows = ap (verdict_of_flat_list test) e ∙ allows
    wider_list_allows wide narrow (list_with_all_in_force o) allows = list_with_all_in_force_allows wide o
    wider_list_allows wide narrow (list_with_more_members positive has) allows =
        let found = allowing_list_has_matching_unnegated_atom narrow allows in
        list_without_negation_allows_what_one_atom_matches wide positive found.0 (has found.0 found.1 found.2) found.3

    verdict_that_is_not_deny_permits_own_group : (v : Verdict) (own : Bool) → IsNotDeny v → own ≡ true → is_allowed_by_verdict_or_own_group v own ≡ true
    verdict_that_is_not_deny_permits_own_group Allow own p e = refl
    verdict_that_is_not_deny_permits_own_group Unsaid own p e = e
    verdict_that_is_not_deny_permits_own_group Deny own (inl p) e = absurd cc
    verdict_that_is_not_deny_permits_own_group Deny own (inr p) e = absurd cc

    -- A list that negates nothing denies no group of the target's own.
    pub list_without_negation_permits_own_group : (fs : List SignedAtom) (own : Bool) → HasNoNegation fs → own ≡ true
        → is_allowed_by_verdict_or_own_group (verdict_of_flat_list test fs) own ≡ true
    list_without_negation_permits_own_group fs own positive e = verdict_that_is_not_deny_permits_own_group (verdict_of_flat_list test fs) own (list_without_negation_does_not_deny fs positive) e

    pub list_with_all_in_force_permits_group : (fs : List SignedAtom) (own : Bool) → HasAllInForce fs
        → is_allowed_by_verdict_or_own_group (verdict_of_flat_list test fs) own ≡ true
    list_with_all_in_force_permits_group fs own o = ap (λ (v : Verdict). is_allowed_by_verdict_or_own_group v own) (list_with_all_in_force_allows fs o)

    pub wider_list_permits_group : (wide narrow : List SignedAtom) (own : Bool) → IsListWider wide narrow
        → is_allowed_by_verdict_or_own_group (verdict_of_flat_list test narrow) own ≡ true
        → is_allowed_by_verdict_or_own_group (verdict_of_flat_list test wide) own ≡ true
    wider_list_permits_group wide narrow own (same_list e) may = ap (λ (fs : List SignedAtom). is_allowed_by_verdict_or_own_group (verdict_of_flat_list test fs) own) e ∙ may
    wider_list_permits_group wide narrow own (list_with_all_in_force o) may = list_with_all_in_force_permits_group wide own o
    wider_list_permits_group wide narrow own (list_with_more_members positive has) may = by (verdict_of_flat_list test narrow) refl may
      where
        by : (v : Verdict) → verdict_of_flat_list test narrow ≡ v → is_allowed_by_verdict_or_own_group v own ≡ true
            → is_allowed_by_verdict_or_own_group (verdict_of_flat_list test wide) own ≡ true
        by Allow is m = ap (λ (v : Verdict). is_allowed_by_verdict_or_own_group v own) (wider_list_allows wide narrow (list_with_more_members positive has) is)
        by Unsaid is m = list_without_negation_permits_own_group wide own positive m
        by Deny is m = absurd cc
