-- The computed members that could turn a list are those of the definition; and each alone turns it.
use Rattle.std.proofs.Common.{◌≡◌, inl, inr, Bool, true, false, not, ◌&&◌, ◌||◌, if◌then◌else◌, List, [], ◌∷◌, ◌++◌, Option, Some, None, refl, sym, ap, subst, ◌∙◌}
use Rattle.sudoers_grammar.specs.declared.node.Atom.{Atom}
use Rattle.sudoers_check.specs.Chain.{ListHasElement}
use Rattle.sudoers_match_list.specs.declared.verdict.MemberHit.{MemberHit}
use Rattle.sudoers_match_list.specs.Flat.{SignedAtom, is_all_atom, hit_of_signed_atom, has_no_digests, later_hit_if_any, last_hit_of_list}
use Rattle.sudoers_undecided.specs.TurningMembers.{is_allowed_by_hit_or_else, CouldTurnFlatList}
use Rattle.sudoers_undecided.specs.TurningAtoms.{are_contrary, is_no_hit, atoms_that_could_turn}

both : (a b : Bool) → (a && b) ≡ true → (a ≡ true) × (b ≡ true)
both true b e = (refl, e)
both false b e = absurd cc

silent : (h : Option MemberHit) → is_no_hit h ≡ true → h ≡ None
silent None e = refl
silent (Some h) e = absurd cc

differs : (a v : Bool) → are_contrary a v ≡ true → a ≡ not v
differs true true e = absurd cc
differs true false e = refl
differs false true e = refl
differs false false e = absurd cc

differing : (v : Bool) → are_contrary (not v) v ≡ true
differing true = refl
differing false = refl

module _ (undecided test : Atom → Bool) (v : Bool) where
  abbrev it : SignedAtom → List SignedAtom → Bool
  it s fs = undecided s.atom && (has_no_digests s.digests && (is_no_hit (last_hit_of_list test fs) && are_contrary s.allow v))

  abbrev Turner : List SignedAtom → SignedAtom → Type 0
  Turner fs t = CouldTurnFlatList undecided test v fs t

  more : (s : SignedAtom) (fs : List SignedAtom) (t : SignedAtom) → Turner fs t → Turner (s ∷ fs) t
  more s fs t w = record { before = s ∷ w.before; after = w.after; stands = ap (λ ts. s ∷ ts) w.stands; is_undecided = w.is_undecided; bare = w.bare; none_behind = w.none_behind; contrary = w.contrary }

  first : (s : SignedAtom) (fs : List SignedAtom) → it s fs ≡ true → Turner (s ∷ fs) s
  first s fs e =
      let a = both (undecided s.atom) (has_no_digests s.digests && (is_no_hit (last_hit_of_list test fs) && are_contrary s.allow v)) e in
      let b = both (has_no_digests s.digests) (is_no_hit (last_hit_of_list test fs) && are_contrary s.allow v) a.1 in
      let d = both (is_no_hit (last_hit_of_list test fs)) (are_contrary s.allow v) b.1 in
      record { before = []; after = fs; stands = refl; is_undecided = a.0; bare = b.0; none_behind = silent (last_hit_of_list test fs) d.0; contrary = differs s.allow v d.1 }

  chosen : (s : SignedAtom) (fs rest : List SignedAtom) (t : SignedAtom) → (b : Bool) → it s fs ≡ b → (ListHasElement rest t → Turner fs t)
      → ListHasElement (if b then s ∷ rest else rest) t → Turner (s ∷ fs) t
  chosen s fs rest t true e ih (inl same) = subst (Turner (s ∷ fs)) same (first s fs e)
  chosen s fs rest t true e ih (inr h) = more s fs t (ih h)
  chosen s fs rest t false e ih h = more s fs t (ih h)

  pub computed_atom_could_turn : (fs : List SignedAtom) (t : SignedAtom) → ListHasElement (atoms_that_could_turn undecided test v fs) t → Turner fs t
  computed_atom_could_turn [] t h = absurd h
  computed_atom_could_turn (s ∷ fs) t h = chosen s fs (atoms_that_could_turn undecided test v fs) t (it s fs) refl (computed_atom_could_turn fs t) h

  all_four : (a b d e : Bool) → a ≡ true → b ≡ true → d ≡ true → e ≡ true → (a && (b && (d && e))) ≡ true
  all_four true true true true p q r s = refl
  all_four true true true false p q r s = absurd cc
  all_four true true false e p q r s = absurd cc
  all_four true false d e p q r s = absurd cc
  all_four false b d e p q r s = absurd cc

  it_is : (s : SignedAtom) (fs : List SignedAtom) → undecided s.atom ≡ true → has_no_digests s.digests ≡ true → last_hit_of_list test fs ≡ None → s.allow ≡ not v → it s fs ≡ true
  it_is s fs o b n c = all_four (undecided s.atom) (has_no_digests s.digests) (is_no_hit (last_hit_of_list test fs)) (are_contrary s.allow v) o b (ap is_no_hit n) (ap (λ a. are_contrary a v) c ∙ differing v)

  taken : (s : SignedAtom) (rest : List SignedAtom) (b : Bool) → b ≡ true → ListHasElement (if b then s ∷ rest else rest) s
  taken s rest true e = inl refl
  taken s rest false e = absurd cc

  passed : (s t : SignedAtom) (rest : List SignedAtom) (b : Bool) → ListHasElement rest t → ListHasElement (if b then s ∷ rest else rest) t
  passed s t rest true h = inr h
  passed s t rest false h = h

  at_place : (before after : List SignedAtom) (t : SignedAtom) → undecided t.atom ≡ true → has_no_digests t.digests ≡ true → last_hit_of_list test after ≡ None → t.allow ≡ not v
      → ListHasElement (atoms_that_could_turn undecided test v (before ++ t ∷ after)) t
  at_place [] after t o b n c = taken t (atoms_that_could_turn undecided test v after) (it t after) (it_is t after o b n c)
  at_place (s ∷ before) after t o b n c = passed s t (atoms_that_could_turn undecided test v (before ++ t ∷ after)) (it s (before ++ t ∷ after)) (at_place before after t o b n c)

  pub turning_atom_is_computed : (fs : List SignedAtom) (t : SignedAtom) → Turner fs t → ListHasElement (atoms_that_could_turn undecided test v fs) t
  turning_atom_is_computed fs t w = subst (λ ts. ListHasElement (atoms_that_could_turn undecided test v ts) t) (sym w.stands) (at_place w.before w.after t w.is_undecided w.bare w.none_behind w.contrary)

-- ---- each alone turns it

value_append : (test : Atom → Bool) (own : Bool) (before : List SignedAtom) (fs : List SignedAtom) (h : MemberHit) → last_hit_of_list test fs ≡ Some h → is_allowed_by_hit_or_else own (last_hit_of_list test (before ++ fs)) ≡ h.allow
value_append test own [] fs h e = ap (is_allowed_by_hit_or_else own) e
value_append test own (s ∷ before) fs h e = by (last_hit_of_list test (before ++ fs)) (some before)
  where
    later_some : (b l : Option MemberHit) → l ≡ Some h → later_hit_if_any b l ≡ Some h
    later_some b l e = ap (later_hit_if_any b) e

    some : (ss : List SignedAtom) → last_hit_of_list test (ss ++ fs) ≡ Some h
    some [] = e
    some (t ∷ ss) = later_some (hit_of_signed_atom test t) (last_hit_of_list test (ss ++ fs)) (some ss)

    by : (l : Option MemberHit) → l ≡ Some h → is_allowed_by_hit_or_else own (later_hit_if_any (hit_of_signed_atom test s) l) ≡ h.allow
    by l f = ap (λ x. is_allowed_by_hit_or_else own (later_hit_if_any (hit_of_signed_atom test s) x)) f

module _ (undecided test also : Atom → Bool) where
  abbrev with_also : Atom → Bool
  with_also a = test a || also a

  abbrev NoneOf : List SignedAtom → Type 0
  NoneOf fs = (t : SignedAtom) → ListHasElement fs t → also t.atom ≡ false

  or_false : (a b : Bool) → b ≡ false → (a || b) ≡ a
  or_false true b e = refl
  or_false false b e = e

  hit_same : (s : SignedAtom) → also s.atom ≡ false → hit_of_signed_atom with_also s ≡ hit_of_signed_atom test s
  hit_same s e = ap (λ t. if t && has_no_digests s.digests then Some (record { allow = s.allow; by_all = is_all_atom s.atom }) else None) (or_false (test s.atom) (also s.atom) e)

  last_same : (fs : List SignedAtom) → NoneOf fs → last_hit_of_list with_also fs ≡ last_hit_of_list test fs
  last_same [] none = refl
  last_same (s ∷ fs) none = ap (λ h. later_hit_if_any h (last_hit_of_list with_also fs)) (hit_same s (none s (inl refl))) ∙ ap (later_hit_if_any (hit_of_signed_atom test s)) (last_same fs (λ t h. none t (inr h)))

  abbrev hit_in : SignedAtom → Bool → Bool → Option MemberHit
  hit_in s t n = if t && n then Some (record { allow = s.allow; by_all = is_all_atom s.atom }) else None

  hit_by : (s : SignedAtom) (t n : Bool) → t ≡ true → n ≡ true → hit_in s t n ≡ Some (record { allow = s.allow; by_all = is_all_atom s.atom })
  hit_by s true true p q = refl
  hit_by s true false p q = absurd cc
  hit_by s false n p q = absurd cc

  or_true : (a b : Bool) → b ≡ true → (a || b) ≡ true
  or_true true b e = refl
  or_true false b e = e

  later_none : (h l : Option MemberHit) → l ≡ None → later_hit_if_any h l ≡ h
  later_none h l e = ap (later_hit_if_any h) e

  -- An atom that could turn what a list says turns it, if it matches and no atom behind it does.
  pub matching_atom_turns_list : (own v : Bool) (fs : List SignedAtom) (t : SignedAtom) → (w : CouldTurnFlatList undecided test v fs t) → also t.atom ≡ true → NoneOf w.after
      → is_allowed_by_hit_or_else own (last_hit_of_list with_also fs) ≡ not v
  matching_atom_turns_list own v fs t w hits none =
      let mine : MemberHit = record { allow = t.allow; by_all = is_all_atom t.atom } in
      let at : last_hit_of_list with_also (t ∷ w.after) ≡ Some mine =
      later_none (hit_of_signed_atom with_also t) (last_hit_of_list with_also w.after) (last_same w.after none ∙ w.none_behind)
      ∙ hit_by t (with_also t.atom) (has_no_digests t.digests) (or_true (test t.atom) (also t.atom) hits) w.bare in
      ap (λ ts. is_allowed_by_hit_or_else own (last_hit_of_list with_also ts)) w.stands ∙ value_append with_also own w.before (t ∷ w.after) mine at ∙ w.contrary
