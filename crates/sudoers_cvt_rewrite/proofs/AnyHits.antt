-- What lists say of any of several things, and of each.
use Rattle.std.proofs.Common.{Bool, List, None, Option, Some, [], ap, ap₂, false, if◌then◌else◌, inl, inr, refl, sym, true, ◌&&◌, ◌||◌, ◌∙◌, ◌∷◌, ◌≡◌, ◌⊎◌}
use Rattle.std.proofs.lemmas.Bool.{and_parts, cases_Bool, false≢true, or_cases, or_left, or_right}
use Rattle.std.proofs.lemmas.Option.{cond_some, none-some}
use Rattle.std.specs.List.{list_any}
use Rattle.std.specs.Option.{is_some}
use Rattle.sudoers_grammar.specs.declared.node.Atom.{Atom}
use Rattle.sudoers_grammar.specs.declared.node.Atom.TheVariants as atom
use Rattle.sudoers_check.specs.Chain.{ListHasElement}
use Rattle.sudoers_match_list.specs.declared.verdict.MemberHit.{MemberHit}
use Rattle.sudoers_match_list.specs.Flat.{SignedAtom, has_no_digests, hit_of_signed_atom, is_all_atom, last_hit_of_list, later_hit_if_any}

-- ---- tests of lists

pub passing_element_is_any : {X : Type 0} (p : X → Bool) (xs : List X) (x : X) → ListHasElement xs x → p x ≡ true → list_any p xs ≡ true
passing_element_is_any p [] x has h = elim has [ ]
passing_element_is_any p (y ∷ xs) x (inl e) h = or_left (p y) (list_any p xs) (ap p e ∙ h)
passing_element_is_any p (y ∷ xs) x (inr has) h = or_right (p y) (list_any p xs) (passing_element_is_any p xs x has h)

pub record HasPassingElement {X : Type 0} (p : X → Bool) (xs : List X) : Type 0 where
  pub element : X
  pub stands : ListHasElement xs element
  pub passes : p element ≡ true

pub any_has_passing_element : {X : Type 0} (p : X → Bool) (xs : List X) → list_any p xs ≡ true → HasPassingElement p xs
any_has_passing_element p [] h = absurd (false≢true h)
any_has_passing_element p (x ∷ xs) h = elim (or_cases (p x) (list_any p xs) h) [
  | inl front ↦ record { element = x; stands = inl refl; passes = front }
  | inr back ↦ let r = any_has_passing_element p xs back in record { element = r.element; stands = inr r.stands; passes = r.passes }
]

pub tests_alike_on_elements_pass_alike : {X : Type 0} (p q : X → Bool) (xs : List X) → ((x : X) → ListHasElement xs x → p x ≡ q x) → list_any p xs ≡ list_any q xs
tests_alike_on_elements_pass_alike p q [] alike = refl
tests_alike_on_elements_pass_alike p q (x ∷ xs) alike = ap₂ (λ a b. a || b) (alike x (inl refl)) (tests_alike_on_elements_pass_alike p q xs (λ y has. alike y (inr has)))

pub no_element_passes_false_test : {X : Type 0} (p : X → Bool) (xs : List X) → ((x : X) → ListHasElement xs x → p x ≡ false) → list_any p xs ≡ false
no_element_passes_false_test p [] fails = refl
no_element_passes_false_test p (x ∷ xs) fails = ap₂ (λ a b. a || b) (fails x (inl refl)) (no_element_passes_false_test p xs (λ y has. fails y (inr has)))

-- ---- hits

abbrev pub hit_if_matching : Bool → SignedAtom → Option MemberHit
hit_if_matching b s = if b && has_no_digests s.digests then Some (record { allow = s.allow; by_all = is_all_atom s.atom }) else None

pub hit_is_of_matching_atom : (b : Bool) (s : SignedAtom) (hit : MemberHit) → hit_if_matching b s ≡ Some hit → (b ≡ true) × (record { allow = s.allow; by_all = is_all_atom s.atom } ≡ hit)
hit_is_of_matching_atom b s hit e =
    let said = cond_some (b && has_no_digests s.digests) (record { allow = s.allow; by_all = is_all_atom s.atom }) hit e in
    ((and_parts b (has_no_digests s.digests) said.0).0, said.1)

later_hit_is_none_of_none : (a b : Option MemberHit) → later_hit_if_any a b ≡ None → (a ≡ None) × (b ≡ None)
later_hit_is_none_of_none a None e = (e, refl)
later_hit_is_none_of_none a (Some h) e = absurd (none-some h (sym e))

later_hit_is_one_of_two : (a b : Option MemberHit) (hit : MemberHit) → later_hit_if_any a b ≡ Some hit → (b ≡ Some hit) ⊎ ((b ≡ None) × (a ≡ Some hit))
later_hit_is_one_of_two a None hit e = inr (refl, e)
later_hit_is_one_of_two a (Some h) hit e = inl e

all_atom_is_all : (a : Atom) → is_all_atom a ≡ true → a ≡ atom.All
all_atom_is_all atom.All e = refl
all_atom_is_all other e = absurd (false≢true e)

module _ {X : Type 0} (test : X → Atom → Bool) (names : List X) where
  abbrev pub any_test : Atom → Bool
  any_test a = list_any (λ name. test name a) names

  matching_atom_hits_alike : (s : SignedAtom) (name : X) (hit : MemberHit) → ListHasElement names name → test name s.atom ≡ true → hit_of_signed_atom any_test s ≡ Some hit → hit_of_signed_atom (test name) s ≡ Some hit
  matching_atom_hits_alike s name hit has matches e = ap (λ b. hit_if_matching b s) (matches ∙ sym (hit_is_of_matching_atom (any_test s.atom) s hit e).0) ∙ e

  atom_that_hits_none_hits_not_one : (s : SignedAtom) (name : X) → ListHasElement names name → hit_of_signed_atom any_test s ≡ None → hit_of_signed_atom (test name) s ≡ None
  atom_that_hits_none_hits_not_one s name has e = elim (cases_Bool (test name s.atom)) [
    | inl matches ↦ ap (λ b. hit_if_matching b s) (matches ∙ sym (passing_element_is_any (λ n. test n s.atom) names name has matches)) ∙ e
    | inr fails ↦ ap (λ b. hit_if_matching b s) fails
  ]

  -- A list that says nothing of any says nothing of each.
  pub list_that_hits_none_hits_not_one : (fs : List SignedAtom) (name : X) → ListHasElement names name → last_hit_of_list any_test fs ≡ None → last_hit_of_list (test name) fs ≡ None
  list_that_hits_none_hits_not_one [] name has e = refl
  list_that_hits_none_hits_not_one (s ∷ fs) name has e =
      let both = later_hit_is_none_of_none (hit_of_signed_atom any_test s) (last_hit_of_list any_test fs) e in
      ap₂ later_hit_if_any (atom_that_hits_none_hits_not_one s name has both.0) (list_that_hits_none_hits_not_one fs name has both.1)

  pub record HasNameWithLastHit (fs : List SignedAtom) (hit : MemberHit) : Type 0 where
    pub name : X
    pub stands : ListHasElement names name
    pub is : last_hit_of_list (test name) fs ≡ Some hit

  -- What a list says of any is what it says of one.
  pub last_hit_of_any_is_that_of_one : (fs : List SignedAtom) (hit : MemberHit) → last_hit_of_list any_test fs ≡ Some hit → HasNameWithLastHit fs hit
  last_hit_of_any_is_that_of_one [] hit e = absurd (none-some hit e)
  last_hit_of_any_is_that_of_one (s ∷ fs) hit e = elim (later_hit_is_one_of_two (hit_of_signed_atom any_test s) (last_hit_of_list any_test fs) hit e) [
    | inl back ↦
        let r = last_hit_of_any_is_that_of_one fs hit back in
        record { name = r.name; stands = r.stands; is = ap (later_hit_if_any (hit_of_signed_atom (test r.name) s)) r.is }
    | inr front ↦
        let r = any_has_passing_element (λ n. test n s.atom) names (hit_is_of_matching_atom (any_test s.atom) s hit front.1).0 in
        record {
          name = r.element;
          stands = r.stands;
          is = ap₂ later_hit_if_any (matching_atom_hits_alike s r.element hit r.stands r.passes front.1) (list_that_hits_none_hits_not_one fs r.element r.stands front.0);
        }
  ]

  -- What `ALL` says of any it says of each.
  pub last_hit_by_all_is_that_of_each : ((name : X) → test name atom.All ≡ true) → (fs : List SignedAtom) (name : X) (hit : MemberHit) → ListHasElement names name
      → last_hit_of_list any_test fs ≡ Some hit → hit.by_all ≡ true → last_hit_of_list (test name) fs ≡ Some hit
  last_hit_by_all_is_that_of_each all [] name hit has e by = absurd (none-some hit e)
  last_hit_by_all_is_that_of_each all (s ∷ fs) name hit has e by = elim (later_hit_is_one_of_two (hit_of_signed_atom any_test s) (last_hit_of_list any_test fs) hit e) [
    | inl back ↦ ap (later_hit_if_any (hit_of_signed_atom (test name) s)) (last_hit_by_all_is_that_of_each all fs name hit has back by)
    | inr front ↦
        let is_all = all_atom_is_all s.atom (ap (λ (h : MemberHit). h.by_all) (hit_is_of_matching_atom (any_test s.atom) s hit front.1).1 ∙ by) in
        ap₂ later_hit_if_any (matching_atom_hits_alike s name hit has (ap (test name) is_all ∙ all name) front.1) (list_that_hits_none_hits_not_one fs name has front.0)
  ]

  is_any_hit_if_some : (fs : List SignedAtom) (o : Option MemberHit) → last_hit_of_list any_test fs ≡ o → is_some o ≡ list_any (λ name. is_some (last_hit_of_list (test name) fs)) names
  is_any_hit_if_some fs None e = sym (no_element_passes_false_test (λ name. is_some (last_hit_of_list (test name) fs)) names (λ name has. ap is_some (list_that_hits_none_hits_not_one fs name has e)))
  is_any_hit_if_some fs (Some hit) e =
      let r = last_hit_of_any_is_that_of_one fs hit e in
      sym (passing_element_is_any (λ name. is_some (last_hit_of_list (test name) fs)) names r.name r.stands (ap is_some r.is))

  -- A list says something of any if it does of one.
  pub any_is_hit_if_one_is : (fs : List SignedAtom) → is_some (last_hit_of_list any_test fs) ≡ list_any (λ name. is_some (last_hit_of_list (test name) fs)) names
  any_is_hit_if_one_is fs = is_any_hit_if_some fs (last_hit_of_list any_test fs) refl
