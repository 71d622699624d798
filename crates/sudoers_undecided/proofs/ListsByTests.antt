-- What a list says by two tests.
use Rattle.std.proofs.Common.{◌≡◌, ◌⊎◌, ◌↔◌, inl, inr, Bool, true, false, not, ◌&&◌, if◌then◌else◌, List, [], ◌∷◌, Option, Some, None, refl, sym, ap, ◌∙◌}
use Rattle.sudoers_grammar.specs.declared.node.Atom.{Atom}
use Rattle.sudoers_grammar.specs.declared.node.Kind.{Kind}
use Rattle.sudoers_grammar.specs.Node.{Member}
use Rattle.sudoers_tree.specs.Line.{Line}
use Rattle.sudoers_match_list.specs.declared.verdict.MemberHit.{MemberHit}
use Rattle.sudoers_match_list.specs.declared.verdict.Verdict.{Verdict}
use Rattle.sudoers_match_list.specs.declared.verdict.Verdict.TheVariants.{Allow, Deny}
use Rattle.sudoers_match_list.specs.Flat.{SignedAtom, IsFlatListOf, IsListVerdict, is_all_atom, hit_of_signed_atom, has_no_digests, later_hit_if_any, last_hit_of_list, verdict_of_hit}
use Rattle.sudoers_match.specs.Allows.{ListAllows}
use Rattle.sudoers_match.specs.Runas.{is_allowed_by_verdict_or_own_group}
use Rattle.sudoers_undecided.specs.TurningMembers.{is_allowed_by_hit_or_else, CouldTurnFlatList}

later_hit_decides : (own : Bool) (b l : Option MemberHit) → is_allowed_by_hit_or_else own (later_hit_if_any b l) ≡ is_allowed_by_hit_or_else (is_allowed_by_hit_or_else own b) l
later_hit_decides own b None = refl
later_hit_decides own b (Some h) = refl

is_same_or_contrary : (a v : Bool) → (a ≡ v) ⊎ (a ≡ not v)
is_same_or_contrary true true = inl refl
is_same_or_contrary true false = inr refl
is_same_or_contrary false true = inr refl
is_same_or_contrary false false = inl refl

is_true_or_false : (b : Bool) → (b ≡ true) ⊎ (b ≡ false)
is_true_or_false true = inl refl
is_true_or_false false = inr refl

is_no_hit_or_some : (h : Option MemberHit) → (h ≡ None) ⊎ ((x : MemberHit) × (h ≡ Some x))
is_no_hit_or_some None = inl refl
is_no_hit_or_some (Some x) = inr (x, refl)

-- what an atom with this test, these digests says
hit_of_tested_atom : Bool → Bool → SignedAtom → Option MemberHit
hit_of_tested_atom t n s = if t && n then Some (record { allow = s.allow; by_all = is_all_atom s.atom }) else None

module _ (undecided test other : Atom → Bool) (misses : (a : Atom) → undecided a ≡ true → test a ≡ false) (agrees : (a : Atom) → undecided a ≡ false → other a ≡ test a) where
  turns_behind_one_more : (v : Bool) (s : SignedAtom) (fs : List SignedAtom) → ((t : SignedAtom) × CouldTurnFlatList undecided test v fs t) → (t : SignedAtom) × CouldTurnFlatList undecided test v (s ∷ fs) t
  turns_behind_one_more v s fs (t, w) = (t, record { before = s ∷ w.before; after = w.after; stands = ap (λ ts. s ∷ ts) w.stands; is_undecided = w.is_undecided; bare = w.bare; none_behind = w.none_behind; contrary = w.contrary })

  one_undecided_atom_more : (own v : Bool) (s : SignedAtom) (fs : List SignedAtom) → last_hit_of_list test fs ≡ None → own ≡ v → undecided s.atom ≡ true → (t n : Bool) → has_no_digests s.digests ≡ n
      → ((u : SignedAtom) × CouldTurnFlatList undecided test v (s ∷ fs) u) ⊎ (is_allowed_by_hit_or_else own (if t && n then Some (record { allow = s.allow; by_all = is_all_atom s.atom }) else None) ≡ v)
  one_undecided_atom_more own v s fs none e o false n d = inr e
  one_undecided_atom_more own v s fs none e o true false d = inr e
  one_undecided_atom_more own v s fs none e o true true d = elim (is_same_or_contrary s.allow v) [
    | inl same ↦ inr same
    | inr contrary ↦ inl (s, record { before = []; after = fs; stands = refl; is_undecided = o; bare = d; none_behind = none; contrary = contrary })
  ]

  one_atom_more : (own v : Bool) (s : SignedAtom) (fs : List SignedAtom) → last_hit_of_list test fs ≡ None → is_allowed_by_hit_or_else own (hit_of_signed_atom test s) ≡ v
      → ((u : SignedAtom) × CouldTurnFlatList undecided test v (s ∷ fs) u) ⊎ (is_allowed_by_hit_or_else own (hit_of_signed_atom other s) ≡ v)
  one_atom_more own v s fs none e = elim (is_true_or_false (undecided s.atom)) [
    | inl o ↦
        let miss : is_allowed_by_hit_or_else own (hit_of_signed_atom test s) ≡ own = ap (λ (t : Bool). is_allowed_by_hit_or_else own (if t && has_no_digests s.digests then Some (record { allow = s.allow; by_all = is_all_atom s.atom }) else None)) (misses s.atom o) in
        one_undecided_atom_more own v s fs none (sym miss ∙ e) o (other s.atom) (has_no_digests s.digests) refl
    | inr c ↦ inr (ap (λ (t : Bool). is_allowed_by_hit_or_else own (if t && has_no_digests s.digests then Some (record { allow = s.allow; by_all = is_all_atom s.atom }) else None)) (agrees s.atom c) ∙ e)
  ]

  rest_of_list_says_same : (own v : Bool) (s : SignedAtom) (fs : List SignedAtom) → ((u : SignedAtom) × CouldTurnFlatList undecided test v fs u) ⊎ (is_allowed_by_hit_or_else (is_allowed_by_hit_or_else own (hit_of_signed_atom other s)) (last_hit_of_list other fs) ≡ v)
      → ((u : SignedAtom) × CouldTurnFlatList undecided test v (s ∷ fs) u) ⊎ (is_allowed_by_hit_or_else own (last_hit_of_list other (s ∷ fs)) ≡ v)
  rest_of_list_says_same own v s fs (inl t) = inl (turns_behind_one_more v s fs t)
  rest_of_list_says_same own v s fs (inr g) = inr (later_hit_decides own (hit_of_signed_atom other s) (last_hit_of_list other fs) ∙ g)

  first_atom_says_same : (own v : Bool) (s : SignedAtom) (fs : List SignedAtom) → is_allowed_by_hit_or_else own (last_hit_of_list test (s ∷ fs)) ≡ v
      → ((u : SignedAtom) × CouldTurnFlatList undecided test v (s ∷ fs) u) ⊎ (is_allowed_by_hit_or_else (is_allowed_by_hit_or_else own (hit_of_signed_atom other s)) (last_hit_of_list test fs) ≡ v)
  first_atom_says_same own v s fs e = elim (is_no_hit_or_some (last_hit_of_list test fs)) [
    | inl none ↦ elim (one_atom_more own v s fs none (sym (ap (is_allowed_by_hit_or_else (is_allowed_by_hit_or_else own (hit_of_signed_atom test s))) none) ∙ sym (later_hit_decides own (hit_of_signed_atom test s) (last_hit_of_list test fs)) ∙ e)) [
      | inl t ↦ inl t
      | inr same ↦ inr (ap (is_allowed_by_hit_or_else (is_allowed_by_hit_or_else own (hit_of_signed_atom other s))) none ∙ same)
    ]
    | inr x ↦ inr (ap (is_allowed_by_hit_or_else (is_allowed_by_hit_or_else own (hit_of_signed_atom other s))) x.1 ∙ sym (ap (is_allowed_by_hit_or_else (is_allowed_by_hit_or_else own (hit_of_signed_atom test s))) x.1) ∙ sym (later_hit_decides own (hit_of_signed_atom test s) (last_hit_of_list test fs)) ∙ e)
  ]

  -- The list says the same by the other test, or one of its atoms could turn it.
  pub list_says_same_or_could_turn : (own v : Bool) (fs : List SignedAtom) → is_allowed_by_hit_or_else own (last_hit_of_list test fs) ≡ v
      → ((u : SignedAtom) × CouldTurnFlatList undecided test v fs u) ⊎ (is_allowed_by_hit_or_else own (last_hit_of_list other fs) ≡ v)
  list_says_same_or_could_turn own v [] e = inr e
  list_says_same_or_could_turn own v (s ∷ fs) e = elim (first_atom_says_same own v s fs e) [
    | inl t ↦ inl t
    | inr f ↦ rest_of_list_says_same own v s fs (list_says_same_or_could_turn (is_allowed_by_hit_or_else own (hit_of_signed_atom other s)) v fs f)
  ]

-- ---- lists by their flat lists

-- what the list says, if nothing else is said where no member matches
abbrev pub ListSaysAllow : Bool → Kind → List Line → (Atom → Bool) → List Member → Type 0
ListSaysAllow own k lines test ms = (flat : List SignedAtom) × IsFlatListOf k lines ms flat × (is_allowed_by_hit_or_else own (last_hit_of_list test flat) ≡ true)

allow_verdict_is_allowing_hit : (h : Option MemberHit) → Allow ≡ verdict_of_hit h → is_allowed_by_hit_or_else false h ≡ true
allow_verdict_is_allowing_hit None e = absurd cc
allow_verdict_is_allowing_hit (Some h) e = by h.allow e
  where
    by : (b : Bool) → Allow ≡ (if b then Allow else Deny) → b ≡ true
    by true e = refl
    by false e = absurd cc

allowing_hit_is_allow_verdict : (h : Option MemberHit) → is_allowed_by_hit_or_else false h ≡ true → Allow ≡ verdict_of_hit h
allowing_hit_is_allow_verdict None e = absurd cc
allowing_hit_is_allow_verdict (Some h) e = by h.allow e
  where
    by : (b : Bool) → b ≡ true → Allow ≡ (if b then Allow else Deny)
    by true e = refl
    by false e = absurd cc

group_verdict_is_hit_or_else : (own : Bool) (h : Option MemberHit) → is_allowed_by_verdict_or_own_group (verdict_of_hit h) own ≡ is_allowed_by_hit_or_else own h
group_verdict_is_hit_or_else own None = refl
group_verdict_is_hit_or_else own (Some h) = by h.allow
  where
    by : (b : Bool) → is_allowed_by_verdict_or_own_group (if b then Allow else Deny) own ≡ b
    by true = refl
    by false = refl

module _ (k : Kind) (lines : List Line) (test : Atom → Bool) (ms : List Member) where
  pub list_allows_as_it_says : ListAllows k lines test ms ↔ ListSaysAllow false k lines test ms
  list_allows_as_it_says = (there, back)
    where
      there : ListAllows k lines test ms → ListSaysAllow false k lines test ms
      there v = (v.is_latest.flat, v.is_latest.is_flat, ap (is_allowed_by_hit_or_else false) v.is_latest.is_last ∙ allow_verdict_is_allowing_hit v.hit v.says)

      back : ListSaysAllow false k lines test ms → ListAllows k lines test ms
      back (flat, f, e) = record { hit = last_hit_of_list test flat; is_latest = record { flat = flat; is_flat = f; is_last = refl }; says = allowing_hit_is_allow_verdict (last_hit_of_list test flat) e }

  pub group_list_allows_as_it_says : (own : Bool) → ((verdict : Verdict) × IsListVerdict k lines test ms verdict × (is_allowed_by_verdict_or_own_group verdict own ≡ true)) ↔ ListSaysAllow own k lines test ms
  group_list_allows_as_it_says own = (there, back)
    where
      there : ((verdict : Verdict) × IsListVerdict k lines test ms verdict × (is_allowed_by_verdict_or_own_group verdict own ≡ true)) → ListSaysAllow own k lines test ms
      there (w, v, e) = (v.is_latest.flat, v.is_latest.is_flat, ap (is_allowed_by_hit_or_else own) v.is_latest.is_last ∙ sym (group_verdict_is_hit_or_else own v.hit) ∙ sym (ap (λ x. is_allowed_by_verdict_or_own_group x own) v.says) ∙ e)

      back : ListSaysAllow own k lines test ms → (verdict : Verdict) × IsListVerdict k lines test ms verdict × (is_allowed_by_verdict_or_own_group verdict own ≡ true)
      back (flat, f, e) = (verdict_of_hit (last_hit_of_list test flat), record { hit = last_hit_of_list test flat; is_latest = record { flat = flat; is_flat = f; is_last = refl }; says = refl }, group_verdict_is_hit_or_else own (last_hit_of_list test flat) ∙ e)
