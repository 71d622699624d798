-- Lists that say something, and their members.
use Rattle.std.proofs.Common.{◌≡◌, ◌≢◌, ◌&&◌, inl, inr, ℕ, zero, suc, ◌+◌, ◌<◌, Bool, true, false, List, [], ◌∷◌, ◌++◌, map, Option, Some, None, if◌then◌else◌, refl, sym, ap, subst, ◌∙◌, append-nil, arith, get_or, length, take}
use Rattle.std.specs.List.{AllByRecursion}
use Rattle.std.specs.Option.{is_some}
use Rattle.std.specs.Prelude.{◌↔◌, IsTrue}
use Rattle.sudoers_grammar.specs.declared.node.Atom.{Atom}
use Rattle.sudoers_grammar.specs.declared.node.Kind.TheVariants.{Cmnd}
use Rattle.sudoers_grammar.specs.Node.{Member}
use Rattle.sudoers_tree.specs.Line.{Line}
use Rattle.sudoers_check.specs.Chain.{ListHasElement}
use Rattle.sudoers_match_list.specs.declared.verdict.MemberHit.{MemberHit}
use Rattle.sudoers_match_list.specs.Flat.{SignedAtom, IsFlatListOf, IsLastHitOfList, alias_members_of_atom, has_no_digests, hit_of_signed_atom, is_all_atom, last_hit_of_list, later_hit_if_any, signed_atom_of_member, signed_atom_under_negation, hit_under_negation}
use Rattle.sudoers_match_list.specs.Flat as flat
use Rattle.sudoers_match_list.proofs.Flats.{last_hit_of_appended_is_later_hit, negated_list_has_negated_last_hit}
use Rattle.sudoers_match.specs.Last.{IsLastItemWith}
use Rattle.sudoers_match.proofs.Lasts.{last_then}
use Rattle.sudoers_list.specs.internal.Going.{IsFlattenableCommandList}
use Rattle.sudoers_list.specs.Inner.{ListMatchesCommand, MemberMatchesCommand}

-- ---- hits

no_later_hit_implies_neither_hit : (before after : Option MemberHit) → later_hit_if_any before after ≡ None → (before ≡ None) × (after ≡ None)
no_later_hit_implies_neither_hit before None e = (e, refl)
no_later_hit_implies_neither_hit before (Some hit) e = absurd cc

abbrev hit_if_test_passes : Bool → Bool → Bool → Option MemberHit
hit_if_test_passes t allow all = if t then Some (record { allow = allow; by_all = all }) else None

passing_test_gives_hit : (t allow all : Bool) → t ≡ true → hit_if_test_passes t allow all ≢ None
passing_test_gives_hit true allow all is none = cc
passing_test_gives_hit false allow all is none = cc

matching_atom_without_digests_gives_hit : (test : Atom → Bool) (s : SignedAtom) → (test s.atom && has_no_digests s.digests) ≡ true → hit_of_signed_atom test s ≢ None
matching_atom_without_digests_gives_hit test s is = passing_test_gives_hit (test s.atom && has_no_digests s.digests) s.allow (is_all_atom s.atom) is

atom_with_hit_gives_last_hit : (test : Atom → Bool) (fs : List SignedAtom) (s : SignedAtom) → ListHasElement fs s → hit_of_signed_atom test s ≢ None → last_hit_of_list test fs ≢ None
atom_with_hit_gives_last_hit test [] s has is none = absurd has
atom_with_hit_gives_last_hit test (f ∷ fs) s (inl e) is none = is (ap (hit_of_signed_atom test) (sym e) ∙ (no_later_hit_implies_neither_hit (hit_of_signed_atom test f) (last_hit_of_list test fs) none).0)
atom_with_hit_gives_last_hit test (f ∷ fs) s (inr h) is none = atom_with_hit_gives_last_hit test fs s h is (no_later_hit_implies_neither_hit (hit_of_signed_atom test f) (last_hit_of_list test fs) none).1

hit_under_negation_is_of_a_hit : (negated : Bool) (before : Option MemberHit) (hit : MemberHit) → hit_under_negation negated before ≡ Some hit → (other : MemberHit) × (before ≡ Some other)
hit_under_negation_is_of_a_hit negated None hit e = absurd cc
hit_under_negation_is_of_a_hit negated (Some other) hit e = (other, refl)

-- ---- what a list says

-- A list says something whose flat list has an atom that matches.
pub list_with_matching_flat_atom_matches_command : (lines : List Line) (test : Atom → Bool) (ms : List Member) (fs : List SignedAtom) (s : SignedAtom) → IsFlatListOf Cmnd lines ms fs → ListHasElement fs s
    → (test s.atom && has_no_digests s.digests) ≡ true → ListMatchesCommand lines test ms
list_with_matching_flat_atom_matches_command lines test ms fs s made has hits = by (last_hit_of_list test fs) refl
  where
    by : (o : Option MemberHit) → last_hit_of_list test fs ≡ o → ListMatchesCommand lines test ms
    by (Some hit) e = (hit, record { flat = fs; is_flat = made; is_last = e })
    by None e = absurd (atom_with_hit_gives_last_hit test fs s has (matching_atom_without_digests_gives_hit test s hits) e)

module _ (lines : List Line) where
  pub flat_each : (ms : List Member) (fs : List SignedAtom) → IsFlatListOf Cmnd lines ms fs → (m : Member) → ListHasElement ms m → IsFlattenableCommandList lines (m ∷ [])
  flat_each ms fs flat.none m has = absurd has
  flat_each ms fs (flat.one n rest gs e f) m (inl same) = subst (λ x. IsFlattenableCommandList lines (x ∷ [])) same (signed_atom_of_member n ∷ [], flat.one n [] [] e flat.none)
  flat_each ms fs (flat.one n rest gs e f) m (inr has) = flat_each rest gs f m has
  flat_each ms fs (flat.many n rest members inner gs e i f) m (inl same) =
      subst (λ x. IsFlattenableCommandList lines (x ∷ [])) same (map (signed_atom_under_negation n.negated) inner ++ [], flat.many n [] members inner [] e i flat.none)
  flat_each ms fs (flat.many n rest members inner gs e i f) m (inr has) = flat_each rest gs f m has

  none_flat : (ms : List Member) (fs : List SignedAtom) → IsFlatListOf Cmnd lines ms fs → ms ≡ [] → fs ≡ []
  none_flat ms fs flat.none e = refl
  none_flat ms fs (flat.one n rest gs x f) e = absurd cc
  none_flat ms fs (flat.many n rest members inner gs x i f) e = absurd cc

  -- the flat list of a member that names an alias
  of_alias : (ms : List Member) (fs : List SignedAtom) → IsFlatListOf Cmnd lines ms fs → (m : Member) (members : List Member) → ms ≡ m ∷ []
      → alias_members_of_atom Cmnd lines m.atom ≡ Some members → (inner : List SignedAtom) × IsFlatListOf Cmnd lines members inner × (fs ≡ map (signed_atom_under_negation m.negated) inner ++ [])
  of_alias ms fs flat.none m members e is = absurd cc
  of_alias ms fs (flat.one n rest gs x f) m members e is =
      let same : n ≡ m = cc in
      let clash : None ≡ Some members = sym x ∙ ap (λ (y : Member). alias_members_of_atom Cmnd lines y.atom) same ∙ is in
      absurd cc
  of_alias ms fs (flat.many n rest others inner gs x i f) m members e is =
      let same : n ≡ m = cc in
      let end : rest ≡ [] = cc in
      let two : Some others ≡ Some members = sym x ∙ ap (λ (y : Member). alias_members_of_atom Cmnd lines y.atom) same ∙ is in
      let all : others ≡ members = cc in (
        inner,
        subst (λ ys. IsFlatListOf Cmnd lines ys inner) all i,
        ap (λ hs. map (signed_atom_under_negation n.negated) inner ++ hs) (none_flat rest gs f end) ∙ ap (λ (y : Member). map (signed_atom_under_negation y.negated) inner ++ []) same,
      )

  module _ (test : Atom → Bool) where
    -- The members of an alias say something where it speaks.
    pub members_say : (m : Member) (members : List Member) → alias_members_of_atom Cmnd lines m.atom ≡ Some members → MemberMatchesCommand lines test m → ListMatchesCommand lines test members
    members_say m members is (hit, latest) =
        let w = of_alias (m ∷ []) latest.flat latest.is_flat m members refl is in
        let e : hit_under_negation m.negated (last_hit_of_list test w.0) ≡ Some hit =
        sym (negated_list_has_negated_last_hit test m.negated w.0) ∙ sym (ap (last_hit_of_list test) (append-nil (map (signed_atom_under_negation m.negated) w.0))) ∙ sym (ap (last_hit_of_list test) w.2) ∙ latest.is_last in
        let inner = hit_under_negation_is_of_a_hit m.negated (last_hit_of_list test w.0) hit e in
        (inner.0, record { flat = w.0; is_flat = w.1; is_last = inner.1 })

    silent : (m : Member) (fs : List SignedAtom) → IsFlatListOf Cmnd lines (m ∷ []) fs → (MemberMatchesCommand lines test m → ⊥) → last_hit_of_list test fs ≡ None
    silent m fs made quiet = by (last_hit_of_list test fs) refl
      where
        by : (o : Option MemberHit) → last_hit_of_list test fs ≡ o → last_hit_of_list test fs ≡ None
        by None e = e
        by (Some hit) e = absurd (quiet (hit, record { flat = fs; is_flat = made; is_last = e }))

    all_silent : (ms : List Member) (fs : List SignedAtom) → IsFlatListOf Cmnd lines ms fs → AllByRecursion (λ m. MemberMatchesCommand lines test m → ⊥) ms → last_hit_of_list test fs ≡ None
    all_silent ms fs flat.none quiet = refl
    all_silent ms fs (flat.one n rest gs e f) quiet =
        ap (later_hit_if_any (hit_of_signed_atom test (signed_atom_of_member n))) (all_silent rest gs f quiet.1) ∙ silent n (signed_atom_of_member n ∷ []) (flat.one n [] [] e flat.none) quiet.0
    all_silent ms fs (flat.many n rest members inner gs e i f) quiet =
        last_hit_of_appended_is_later_hit test (map (signed_atom_under_negation n.negated) inner) gs
        ∙ ap (later_hit_if_any (last_hit_of_list test (map (signed_atom_under_negation n.negated) inner))) (all_silent rest gs f quiet.1)
        ∙ sym (ap (last_hit_of_list test) (append-nil (map (signed_atom_under_negation n.negated) inner)))
        ∙ silent n (map (signed_atom_under_negation n.negated) inner ++ []) (flat.many n [] members inner [] e i flat.none) quiet.0

    -- A list that says something has a last member that does.
    pub some_last : (ms : List Member) → ListMatchesCommand lines test ms → IsLastItemWith (MemberMatchesCommand lines test) ms None → ⊥
    some_last ms (hit, latest) quiet =
        let e : Some hit ≡ None = sym latest.is_last ∙ all_silent ms latest.flat latest.is_flat quiet in
        cc

    -- A member speaks just where its flat list has a hit.
    pub speaks_if : ((fs gs : List SignedAtom) (ms : List Member) → IsFlatListOf Cmnd lines ms fs → IsFlatListOf Cmnd lines ms gs → fs ≡ gs)
        → (m : Member) (hit : Option MemberHit) (b : Bool) → b ≡ is_some hit → IsLastHitOfList Cmnd lines test (m ∷ []) hit → IsTrue b ↔ MemberMatchesCommand lines test m
    speaks_if one m None b e latest = (
      λ h. let clash : false ≡ true = sym e ∙ h in absurd cc,
      λ (hit, other).
          let clash : None ≡ Some hit = sym latest.is_last ∙ ap (last_hit_of_list test) (one latest.flat other.flat (m ∷ []) latest.is_flat other.is_flat) ∙ other.is_last in
          absurd cc,
    )
    speaks_if one m (Some hit) b e latest = (λ h. (hit, latest), λ s. e)

-- ---- rows of members

pub row_value_is_among_mapped_rows : {X Y : Type 0} (f : X → Y) (xs : List X) (i : ℕ) (d : X) → i < length xs → (y : Y) → y ≡ f (get_or xs i d) → ListHasElement (map f xs) y
row_value_is_among_mapped_rows f [] i d h y e = absurd (omega arith)
row_value_is_among_mapped_rows f (x ∷ xs) zero d h y e = inl (sym e)
row_value_is_among_mapped_rows f (x ∷ xs) (suc i) d h y e = inr (row_value_is_among_mapped_rows f xs i d (omega (arith, h)) y e)

pub mapped_rows_taken_end_with_next_row : {X Y : Type 0} (f : X → Y) (xs : List X) (i : ℕ) (d : X) → i < length xs → (y : Y) → y ≡ f (get_or xs i d)
    → map f (take (i + 1) xs) ≡ map f (take i xs) ++ y ∷ []
mapped_rows_taken_end_with_next_row f [] i d h y e = absurd (omega arith)
mapped_rows_taken_end_with_next_row f (x ∷ xs) zero d h y e = ap (λ z. z ∷ []) (sym e)
mapped_rows_taken_end_with_next_row f (x ∷ xs) (suc i) d h y e =
    let one : suc i + 1 ≡ suc (i + 1) = omega arith in
    ap (λ n. map f (take n (x ∷ xs))) one ∙ ap (λ ys. f x ∷ ys) (mapped_rows_taken_end_with_next_row f xs i d (omega (arith, h)) y e)

module _ {X : Type 0} (P : X → Type 0) where
  pub last_yes : (xs : List X) (x : X) (before : Option X) → IsLastItemWith P xs before → P x → IsLastItemWith P (xs ++ x ∷ []) (Some x)
  last_yes xs x before is p = (xs, [], refl, p, tt)

  pub last_no : (xs : List X) (x : X) (before : Option X) → IsLastItemWith P xs before → (P x → ⊥) → IsLastItemWith P (xs ++ x ∷ []) before
  last_no xs x before is quiet = last_then P xs (x ∷ []) before None is (quiet, tt)

  pub last_has : (xs : List X) (x : X) → IsLastItemWith P xs (Some x) → ListHasElement xs x
  last_has xs x is = subst (λ ys. ListHasElement ys x) (sym is.2) (middle is.0)
    where
      middle : (before : List X) → ListHasElement (before ++ x ∷ is.1) x
      middle [] = inl refl
      middle (y ∷ before) = inr (middle before)
