-- What a collector asks for, step by step.
use Rattle.std.proofs.Common.{◌≡◌, ◌⊎◌, inl, inr, ℕ, zero, suc, ◌+◌, ◌-◌, ◌<◌, replicate, ◌||◌, ◌&&◌, Bool, true, false, not, if◌then◌else◌, List, [], ◌∷◌, ◌++◌, map, length, drop, Option, Some, None, is_some, slice_get, refl, sym, ap, subst, ◌∙◌, arith, length-append}
use Rattle.std.proofs.Math.ListN.{length-set, set}
use Rattle.std.proofs.lemmas.Bool.Decides.{eqb_tells}
use Rattle.std.proofs.lemmas.Option.{slice_get_within}
use Rattle.sudoers_grammar.specs.Node.{Member}
use Rattle.sudoers_line_rows.specs.View.{member_of_view}
use Rattle.sudoers_tree.specs.Line.{Line}
use Rattle.sudoers_check.specs.Chain.{ListHasElement}
use Rattle.sudoers_check.proofs.Lists.{get-set, get-set_same, get-set_other, Has_front, Has_push, Has_pushed}
use Rattle.sudoers_match_list.specs.declared.verdict.MemberHit.{MemberHit}
use Rattle.sudoers_match_list.specs.Flat.{IsFlatListOf, SignedAtom, none, one, many, signed_atom_of_member, signed_atom_under_negation, alias_members_of_atom, has_no_digests, is_all_atom, last_hit_of_list, later_hit_if_any, hit_of_signed_atom}
use Rattle.sudoers_match_list.specs.Search.{alias_number_of_atom, members_of_definition_number}
use Rattle.sudoers_match_list.proofs.Numbered.{alias_some, alias_none}
use Rattle.sudoers_match_list.proofs.Unique.{one_flat}
use Rattle.sudoers_undecided.specs.declared.alias_collector.AliasCollector.{AliasCollector}
use Rattle.sudoers_undecided.specs.declared.alias_collector.AliasMarks.{AliasMarks}
use Rattle.sudoers_undecided.specs.declared.alias_collector.PendingAlias.{PendingAlias}
use Rattle.sudoers_undecided.specs.declared.decided_aliases.DecidedAliases.{DecidedAliases}
use Rattle.sudoers_undecided.specs.declared.list_sway.ListSway.{ListSway}
use Rattle.sudoers_undecided.specs.declared.undecided_member.UndecidedMember.{UndecidedMember}
use Rattle.sudoers_undecided.specs.declared.wanted_members.WantedMembers.{WantedMembers}
use Rattle.sudoers_undecided.specs.declared.wanted_members.WantedMembers.TheVariants.{Allowing, Denying, All}
use Rattle.sudoers_undecided.specs.FoundMembers.{HasAtomInPart}
use Rattle.sudoers_undecided.specs.internal.Decided.{DecidesAllAliases, HoldsSwaysOfAliases, matched_by, undecided_by}
use Rattle.sudoers_undecided.specs.internal.Collected.{AreMembersHandled, AsksMore, CountsBefore, HasMark, IsAsked, IsClosedUpTo, IsCollector, IsMemberHandled, IsMemberUndecided, KeepsFound, NoneMatches, has_mark, includes_wanted, marks_left, marks_with_wanted, one_unless, pending_alias}
use Rattle.sudoers_undecided.specs.internal.Wanted.{IsWantedOfFlatList, is_sign_wanted, wanted_under_negation}
use Rattle.sudoers_undecided.proofs.Collecting.{handled_list_is_found, no_hit_in_alias, no_hit_in_parts}
use Rattle.sudoers_undecided.proofs.Sways.{sway_has_last_hit}

-- ---- marks

mark_stays : (m : AliasMarks) (w v : WantedMembers) → has_mark m v ≡ true → has_mark (marks_with_wanted m w) v ≡ true
mark_stays m All All e = refl
mark_stays m All Allowing e = e
mark_stays m All Denying e = e
mark_stays m Allowing All e = e
mark_stays m Allowing Allowing e = refl
mark_stays m Allowing Denying e = e
mark_stays m Denying All e = e
mark_stays m Denying Allowing e = e
mark_stays m Denying Denying e = refl

mark_is_new : (m : AliasMarks) (w v : WantedMembers) → has_mark (marks_with_wanted m w) v ≡ true → (has_mark m v ≡ true) ⊎ (w ≡ v)
mark_is_new m All All e = inr refl
mark_is_new m All Allowing e = inl e
mark_is_new m All Denying e = inl e
mark_is_new m Allowing All e = inl e
mark_is_new m Allowing Allowing e = inr refl
mark_is_new m Allowing Denying e = inl e
mark_is_new m Denying All e = inl e
mark_is_new m Denying Allowing e = inl e
mark_is_new m Denying Denying e = inr refl

or_with_true : (a : Bool) → (a || true) ≡ true
or_with_true true = refl
or_with_true false = refl

pub mark_includes : (m : AliasMarks) (w : WantedMembers) → includes_wanted (marks_with_wanted m w) w ≡ true
mark_includes m All = refl
mark_includes m Allowing = or_with_true m.all
mark_includes m Denying = or_with_true m.all

second_is_false : (a b : Bool) → (a || b) ≡ false → b ≡ false
second_is_false true b e = absurd cc
second_is_false false b e = e

no_mark : (m : AliasMarks) (w : WantedMembers) → includes_wanted m w ≡ false → has_mark m w ≡ false
no_mark m All e = e
no_mark m Allowing e = second_is_false m.all m.allowing e
no_mark m Denying e = second_is_false m.all m.denying e

abbrev unset : AliasMarks → ℕ
unset m = one_unless m.allowing + one_unless m.denying + one_unless m.all

one_mark_less : (m : AliasMarks) (w : WantedMembers) → has_mark m w ≡ false → unset (marks_with_wanted m w) + 1 ≡ unset m
one_mark_less m All e = let x : one_unless m.all ≡ 1 = ap one_unless e in omega arith
one_mark_less m Allowing e = let x : one_unless m.allowing ≡ 1 = ap one_unless e in omega arith
one_mark_less m Denying e = let x : one_unless m.denying ≡ 1 = ap one_unless e in omega arith

marks_less : (ms : List AliasMarks) (n : ℕ) (m : AliasMarks) (w : WantedMembers) → slice_get ms n ≡ Some m → has_mark m w ≡ false → marks_left (set ms n (marks_with_wanted m w)) + 1 ≡ marks_left ms
marks_less [] n m w at e = absurd cc
marks_less (x ∷ ms) zero m w at e =
    let same : x ≡ m = cc in
    let less = one_mark_less m w e in
    let here : unset x ≡ unset m = ap unset same in
    omega arith
marks_less (x ∷ ms) (suc n) m w at e = let ih = marks_less ms n m w at e in omega arith

-- ---- what stays

pub keeps_itself : (c : AliasCollector) → KeepsFound c c
keeps_itself c = record { part = refl; aliases = refl; found = λ u h. h; undecided = λ u h. inl h; marks = λ n w h. h; size = refl }

pub keeps_on : (c d e : AliasCollector) → KeepsFound c d → KeepsFound d e → KeepsFound c e
keeps_on c d e a b = record {
  part = b.part ∙ a.part;
  aliases = b.aliases ∙ a.aliases;
  found = λ u h. b.found u (a.found u h);
  undecided = λ u h. elim (b.undecided u h) as (λ _. ListHasElement c.found.items u ⊎ IsMemberUndecided c.aliases.now u) [ inl old ↦ a.undecided u old | inr new ↦ inr (subst (λ x. IsMemberUndecided x u) a.aliases new) ];
  marks = λ n w h. b.marks n w (a.marks n w h);
  size = b.size ∙ a.size;
}

pub asks_nothing : (c : AliasCollector) → AsksMore c c
asks_nothing c = record { keeps = keeps_itself c; pending = λ p h. h; new = λ n w h. inl h; left = omega arith }

pub asks_on : (c d e : AliasCollector) → AsksMore c d → AsksMore d e → AsksMore c e
asks_on c d e a b = record {
  keeps = keeps_on c d e a.keeps b.keeps;
  pending = λ p h. b.pending p (a.pending p h);
  new = λ n w h. elim (b.new n w h) as (λ _. HasMark c.marks.items n w ⊎ ListHasElement e.pending.items (pending_alias n w)) [
    | inl old ↦ elim (a.new n w old) as (λ _. HasMark c.marks.items n w ⊎ ListHasElement e.pending.items (pending_alias n w)) [ inl first ↦ inl first | inr p ↦ inr (b.pending (pending_alias n w) p) ]
    | inr p ↦ inr p
  ];
  left = omega (arith, a.left, b.left);
}

pub asks_one : (c e : AliasCollector) (n : ℕ) (w : WantedMembers) (m : AliasMarks) → slice_get c.marks.items n ≡ Some m → includes_wanted m w ≡ false
    → e.part ≡ c.part → e.aliases.now ≡ c.aliases.now → e.found.items ≡ c.found.items → e.marks.items ≡ set c.marks.items n (marks_with_wanted m w) → e.pending.items ≡ c.pending.items ++ pending_alias n w ∷ []
    → AsksMore c e
asks_one c e n w m at left part aliases found marks pending = record {
  keeps = record {
    part = part;
    aliases = aliases;
    found = λ u h. subst (λ us. ListHasElement us u) (sym found) h;
    undecided = λ u h. inl (subst (λ us. ListHasElement us u) found h);
    marks = λ k v h. subst (λ ms. HasMark ms k v) (sym marks) (stay k v h);
    size = ap length marks ∙ length-set c.marks.items n (marks_with_wanted m w);
  };
  pending = λ p h. subst (λ ps. ListHasElement ps p) (sym pending) (Has_front c.pending.items (pending_alias n w ∷ []) p h);
  new = λ k v h. subst (λ ps. HasMark c.marks.items k v ⊎ ListHasElement ps (pending_alias k v)) (sym pending) (come k v (subst (λ ms. HasMark ms k v) marks h));
  left = omega (arith, ap marks_left marks, marks_less c.marks.items n m w at (no_mark m w left), ap length pending, length-append c.pending.items (pending_alias n w ∷ []));
}
  where
    within : n < length c.marks.items
    within = slice_get_within c.marks.items n m at

    stay : (k : ℕ) (v : WantedMembers) → HasMark c.marks.items k v → HasMark (set c.marks.items n (marks_with_wanted m w)) k v
    stay k v h = elim (eqb_tells k n) as (λ _. HasMark (set c.marks.items n (marks_with_wanted m w)) k v) [
      | inl same ↦
          let it : h.of_alias ≡ m = let two : Some h.of_alias ≡ Some m = sym h.at ∙ ap (slice_get c.marks.items) same.1 ∙ at in cc in
          record {
            of_alias = marks_with_wanted m w;
            at = ap (slice_get (set c.marks.items n (marks_with_wanted m w))) same.1 ∙ get-set_same c.marks.items n (marks_with_wanted m w) within;
            has = mark_stays m w v (ap (λ x. has_mark x v) (sym it) ∙ h.has);
          }
      | inr other ↦ record { of_alias = h.of_alias; at = get-set_other c.marks.items n k (marks_with_wanted m w) other.1 ∙ h.at; has = h.has }
    ]

    come : (k : ℕ) (v : WantedMembers) → HasMark (set c.marks.items n (marks_with_wanted m w)) k v → HasMark c.marks.items k v ⊎ ListHasElement (c.pending.items ++ pending_alias n w ∷ []) (pending_alias k v)
    come k v h = elim (get-set c.marks.items n k (marks_with_wanted m w) h.of_alias h.at) as (λ _. HasMark c.marks.items k v ⊎ ListHasElement (c.pending.items ++ pending_alias n w ∷ []) (pending_alias k v)) [
      | inl new ↦ elim (mark_is_new m w v (ap (λ x. has_mark x v) new.1 ∙ h.has)) as (λ _. HasMark c.marks.items k v ⊎ ListHasElement (c.pending.items ++ pending_alias n w ∷ []) (pending_alias k v)) [
        | inl old ↦ inl (record { of_alias = m; at = ap (slice_get c.marks.items) new.0 ∙ at; has = old })
        | inr same ↦ inr (subst (ListHasElement (c.pending.items ++ pending_alias n w ∷ [])) (ap (λ x. pending_alias x w) (sym new.0) ∙ ap (pending_alias k) same) (Has_pushed c.pending.items (pending_alias n w)))
      ]
      | inr old ↦ inl (record { of_alias = h.of_alias; at = old.1; has = h.has })
    ]

pub asked_now : (ms : List AliasMarks) (n : ℕ) (w : WantedMembers) (m : AliasMarks) → slice_get ms n ≡ Some m → (new : List AliasMarks) → new ≡ set ms n (marks_with_wanted m w) → IsAsked new n w
asked_now ms n w m at new e = record {
  of_alias = marks_with_wanted m w;
  at = ap (λ x. slice_get x n) e ∙ get-set_same ms n (marks_with_wanted m w) (slice_get_within ms n m at);
  includes = mark_includes m w;
}

-- one member more is found
pub finds_one : (c e : AliasCollector) (u : UndecidedMember) → IsMemberUndecided c.aliases.now u → e.part ≡ c.part → e.aliases.now ≡ c.aliases.now → e.marks.items ≡ c.marks.items → e.pending.items ≡ c.pending.items → e.found.items ≡ c.found.items ++ u ∷ [] → AsksMore c e
finds_one c e u is_undecided part aliases marks pending found = record {
  keeps = record {
    part = part;
    aliases = aliases;
    found = λ v h. subst (λ us. ListHasElement us v) (sym found) (Has_front c.found.items (u ∷ []) v h);
    undecided = λ v h. elim (Has_push c.found.items u v (subst (λ us. ListHasElement us v) found h)) as (λ _. ListHasElement c.found.items v ⊎ IsMemberUndecided c.aliases.now v) [
      | inl old ↦ inl old
      | inr same ↦ inr (subst (IsMemberUndecided c.aliases.now) same is_undecided)
    ];
    marks = λ n w h. subst (λ ms. HasMark ms n w) (sym marks) h;
    size = ap length marks;
  };
  pending = λ p h. subst (λ ps. ListHasElement ps p) (sym pending) h;
  new = λ n w h. inl (subst (λ ms. HasMark ms n w) marks h);
  left = omega (arith, ap marks_left marks, ap length pending);
}

-- ---- what was looked at stays so

asked_stays : (c e : AliasCollector) → KeepsFound c e → (n : ℕ) (w : WantedMembers) → IsAsked c.marks.items n w → IsAsked e.marks.items n w
asked_stays c e k n w a = by w a.includes
  where
    mark : (v : WantedMembers) → has_mark a.of_alias v ≡ true → HasMark e.marks.items n v
    mark v h = k.marks n v (record { of_alias = a.of_alias; at = a.at; has = h })

    parts : (x y : Bool) → (x || y) ≡ true → (x ≡ true) ⊎ (y ≡ true)
    parts true y h = inl refl
    parts false y h = inr h

    left : (x y : Bool) → x ≡ true → (x || y) ≡ true
    left true y h = refl
    left false y h = absurd cc

    right : (x y : Bool) → y ≡ true → (x || y) ≡ true
    right true y h = refl
    right false y h = h

    by : (w : WantedMembers) → includes_wanted a.of_alias w ≡ true → IsAsked e.marks.items n w
    by All h = let m = mark All h in record { of_alias = m.of_alias; at = m.at; includes = m.has }
    by Allowing h = elim (parts a.of_alias.all a.of_alias.allowing h) as (λ _. IsAsked e.marks.items n Allowing) [
      | inl x ↦ let m = mark All x in record { of_alias = m.of_alias; at = m.at; includes = left m.of_alias.all m.of_alias.allowing m.has }
      | inr x ↦ let m = mark Allowing x in record { of_alias = m.of_alias; at = m.at; includes = right m.of_alias.all m.of_alias.allowing m.has }
    ]
    by Denying h = elim (parts a.of_alias.all a.of_alias.denying h) as (λ _. IsAsked e.marks.items n Denying) [
      | inl x ↦ let m = mark All x in record { of_alias = m.of_alias; at = m.at; includes = left m.of_alias.all m.of_alias.denying m.has }
      | inr x ↦ let m = mark Denying x in record { of_alias = m.of_alias; at = m.at; includes = right m.of_alias.all m.of_alias.denying m.has }
    ]

pub found_stays : (c e : AliasCollector) → KeepsFound c e → (s : SignedAtom) → HasAtomInPart c.found.items c.part s → HasAtomInPart e.found.items e.part s
found_stays c e k s h = record { member = h.member; stands = k.found h.member h.stands; is = record { part = h.is.part ∙ sym k.part; atom = h.is.atom; digests = h.is.digests } }

module _ (lines : List Line) (c e : AliasCollector) (k : KeepsFound c e) where
  pub member_stays_handled : (w : WantedMembers) (m : Member) → IsMemberHandled lines c w m → IsMemberHandled lines e w m
  member_stays_handled w m h = record {
    plain = λ x o s. found_stays c e k (signed_atom_of_member m)
        (h.plain (ap (λ (d : DecidedAliases). alias_number_of_atom d.kind lines m.atom) (sym k.aliases) ∙ x) (ap (λ (d : DecidedAliases). undecided_by d (signed_atom_of_member m)) (sym k.aliases) ∙ o) s);
    alias = λ n x. asked_stays c e k n (wanted_under_negation m.negated w) (h.alias n (ap (λ (d : DecidedAliases). alias_number_of_atom d.kind lines m.atom) (sym k.aliases) ∙ x));
  }

  pub members_stay_handled : (w : WantedMembers) (ms : List Member) → AreMembersHandled lines c w ms → AreMembersHandled lines e w ms
  members_stay_handled w [] h = tt
  members_stay_handled w (m ∷ ms) h = (
    (λ counts. member_stays_handled w m (h.0 (before counts))),
    members_stay_handled w ms h.1,
  )
    where
      before : CountsBefore lines e w ms → CountsBefore lines c w ms
      before (inl all) = inl all
      before (inr n) = inr (subst (λ (d : DecidedAliases). NoneMatches d.kind lines (matched_by d) ms) k.aliases n)

  pub stays_collector : IsCollector lines c → IsCollector lines e
  stays_collector h = record { decided = subst (λ d. DecidesAllAliases lines d) (sym k.aliases) h.decided; size = k.size ∙ h.size }

-- ---- members that match

module _ (lines : List Line) (d : DecidedAliases) where
  pub matching_alias : HoldsSwaysOfAliases lines d → (m : Member) (n : ℕ) → alias_number_of_atom d.kind lines m.atom ≡ Some n → (sway : ListSway) → slice_get d.sways.items n ≡ Some (Some sway) → is_some sway.hit ≡ true
      → (ms : List Member) → NoneMatches d.kind lines (matched_by d) (m ∷ ms) → ⊥
  matching_alias holds m n is sway at hit ms h = by (m ∷ ms) h.flat h.is_flat refl h.none
    where
      it : IsFlatListOf d.kind lines (members_of_definition_number lines n) (holds.right n sway at).flat
      it = (holds.right n sway at).is_flat

      by : (ns : List Member) (fs : List SignedAtom) → IsFlatListOf d.kind lines ns fs → ns ≡ m ∷ ms → last_hit_of_list (matched_by d) fs ≡ None → ⊥
      by ns fs none same e = let clash : [] ≡ m ∷ ms = same in cc
      by ns fs (one x rest gs a f) same e =
          let eq : x ≡ m = cc in
          let clash : None ≡ Some (members_of_definition_number lines n) = sym a ∙ ap (λ (y : Member). alias_members_of_atom d.kind lines y.atom) eq ∙ alias_some d.kind lines m.atom n is in cc
      by ns fs (many x rest members inner gs a i f) same e =
          let eq : x ≡ m = cc in
          let members_are : members ≡ members_of_definition_number lines n =
          let two : Some members ≡ Some (members_of_definition_number lines n) = sym a ∙ ap (λ (y : Member). alias_members_of_atom d.kind lines y.atom) eq ∙ alias_some d.kind lines m.atom n is in cc in
          let flat_is : inner ≡ (holds.right n sway at).flat = one_flat d.kind lines members inner (holds.right n sway at).flat i (subst (λ xs. IsFlatListOf d.kind lines xs (holds.right n sway at).flat) (sym members_are) it) in
          let no : last_hit_of_list (matched_by d) inner ≡ None = no_hit_in_alias (matched_by d) x.negated inner (no_hit_in_parts (matched_by d) (map (signed_atom_under_negation x.negated) inner) gs e).0 in
          let none_is : sway.hit ≡ None = ap (λ (s : ListSway). s.hit) (holds.right n sway at).says ∙ sway_has_last_hit (undecided_by d) (matched_by d) (holds.right n sway at).flat ∙ ap (last_hit_of_list (matched_by d)) (sym flat_is) ∙ no in
          let clash : true ≡ false = sym hit ∙ ap is_some none_is in cc

  pub matching_member : (m : Member) → alias_number_of_atom d.kind lines m.atom ≡ None → (matched_by d m.atom && has_no_digests m.digests) ≡ true → (ms : List Member) → NoneMatches d.kind lines (matched_by d) (m ∷ ms) → ⊥
  matching_member m is hit ms h = by (m ∷ ms) h.flat h.is_flat refl h.none
    where
      said : hit_of_signed_atom (matched_by d) (signed_atom_of_member m) ≡ Some (record { allow = not m.negated; by_all = is_all_atom m.atom })
      said = ap (λ (b : Bool). if b then Some (record { allow = not m.negated; by_all = is_all_atom m.atom }) else None) hit

      some_is_later : (a b : Option MemberHit) (x : MemberHit) → a ≡ Some x → later_hit_if_any a b ≡ None → ⊥
      some_is_later a None x e f = let clash : Some x ≡ None = sym e ∙ f in cc
      some_is_later a (Some y) x e f = cc

      by : (ns : List Member) (fs : List SignedAtom) → IsFlatListOf d.kind lines ns fs → ns ≡ m ∷ ms → last_hit_of_list (matched_by d) fs ≡ None → ⊥
      by ns fs none same e = let clash : [] ≡ m ∷ ms = same in cc
      by ns fs (one x rest gs a f) same e =
          let eq : x ≡ m = cc in
          some_is_later (hit_of_signed_atom (matched_by d) (signed_atom_of_member x)) (last_hit_of_list (matched_by d) gs) _ (ap (λ (y : Member). hit_of_signed_atom (matched_by d) (signed_atom_of_member y)) eq ∙ said) e
      by ns fs (many x rest members inner gs a i f) same e =
          let eq : x ≡ m = cc in
          let clash : Some members ≡ None = sym a ∙ ap (λ (y : Member). alias_members_of_atom d.kind lines y.atom) eq ∙ alias_none d.kind lines m.atom is in cc

-- ---- steps

pub pushed_atom : (found new : List UndecidedMember) (u : UndecidedMember) → new ≡ found ++ u ∷ [] → HasAtomInPart new u.part (signed_atom_of_member (member_of_view u.member))
pushed_atom found new u e = record { member = u; stands = subst (λ us. ListHasElement us u) (sym e) (Has_pushed found u); is = record { part = refl; atom = refl; digests = refl } }

pub plain_member_is_handled : (lines : List Line) (c e : AliasCollector) → KeepsFound c e → (w : WantedMembers) (m : Member) → alias_number_of_atom c.aliases.now.kind lines m.atom ≡ None
    → (undecided_by c.aliases.now (signed_atom_of_member m) ≡ true → is_sign_wanted w (not m.negated) ≡ true → HasAtomInPart e.found.items e.part (signed_atom_of_member m))
    → IsMemberHandled lines e w m
plain_member_is_handled lines c e k w m is found = record {
  plain = λ _ o s. found (ap (λ (d : DecidedAliases). undecided_by d (signed_atom_of_member m)) (sym k.aliases) ∙ o) s;
  alias = λ n x. let clash : None ≡ Some n = sym is ∙ ap (λ (d : DecidedAliases). alias_number_of_atom d.kind lines m.atom) (sym k.aliases) ∙ x in absurd cc;
}

pub asked_member_is_handled : (lines : List Line) (c e : AliasCollector) → KeepsFound c e → (w : WantedMembers) (m : Member) (n : ℕ) → alias_number_of_atom c.aliases.now.kind lines m.atom ≡ Some n
    → IsAsked e.marks.items n (wanted_under_negation m.negated w) → IsMemberHandled lines e w m
asked_member_is_handled lines c e k w m n is asked = record {
  plain = λ x _ _. let clash : Some n ≡ None = sym is ∙ ap (λ (d : DecidedAliases). alias_number_of_atom d.kind lines m.atom) (sym k.aliases) ∙ x in absurd cc;
  alias = λ j x.
      let same : n ≡ j = let two : Some n ≡ Some j = sym is ∙ ap (λ (d : DecidedAliases). alias_number_of_atom d.kind lines m.atom) (sym k.aliases) ∙ x in cc in
      subst (λ i. IsAsked e.marks.items i (wanted_under_negation m.negated w)) same asked;
}

pub dropped_one : {X : Type 0} (xs : List X) (i : ℕ) (x : X) → slice_get xs i ≡ Some x → drop i xs ≡ x ∷ drop (suc i) xs
dropped_one [] i x at = absurd cc
dropped_one (y ∷ xs) zero x at = let same : y ≡ x = cc in ap (λ z. z ∷ xs) same
dropped_one (y ∷ xs) (suc i) x at = dropped_one xs i x at

pub one_more_handled : (lines : List Line) (c : AliasCollector) (w : WantedMembers) (ms : List Member) (left : ℕ) (m : Member) → 0 < left → slice_get ms (left - 1) ≡ Some m
    → IsMemberHandled lines c w m → AreMembersHandled lines c w (drop left ms) → AreMembersHandled lines c w (drop (left - 1) ms)
one_more_handled lines c w ms left m some at h rest =
    let next : suc (left - 1) ≡ left = omega (arith, some) in
    subst (AreMembersHandled lines c w) (sym (dropped_one ms (left - 1) m at)) ((λ _. h), subst (λ i. AreMembersHandled lines c w (drop i ms)) (sym next) rest)

pub closed_on : (lines : List Line) (c e : AliasCollector) → AsksMore c e → IsClosedUpTo lines c [] → IsClosedUpTo lines e e.pending.items
closed_on lines c e more closed n w mark = elim (more.new n w mark) as (λ _. ListHasElement e.pending.items (pending_alias n w) ⊎ AreMembersHandled lines e w (members_of_definition_number lines n)) [
  | inl old ↦ elim (closed n w old) as (λ _. ListHasElement e.pending.items (pending_alias n w) ⊎ AreMembersHandled lines e w (members_of_definition_number lines n)) [
    | inl x ↦ absurd x
    | inr h ↦ inr (members_stay_handled lines c e more.keeps w (members_of_definition_number lines n) h)
  ]
  | inr p ↦ inl p
]

pub closed_after_pop : (lines : List Line) (c d e : AliasCollector) (p : PendingAlias) → KeepsFound c e → AsksMore d e → d.marks.items ≡ c.marks.items → c.pending.items ≡ d.pending.items ++ p ∷ []
    → AreMembersHandled lines e p.wanted (members_of_definition_number lines p.number) → IsClosedUpTo lines c c.pending.items → IsClosedUpTo lines e e.pending.items
closed_after_pop lines c d e p keeps more marks pending handled closed n w mark = elim (more.new n w mark) as (λ _. ListHasElement e.pending.items (pending_alias n w) ⊎ AreMembersHandled lines e w (members_of_definition_number lines n)) [
  | inl old ↦ elim (closed n w (subst (λ ms. HasMark ms n w) marks old)) as (λ _. ListHasElement e.pending.items (pending_alias n w) ⊎ AreMembersHandled lines e w (members_of_definition_number lines n)) [
    | inl x ↦ elim (Has_push d.pending.items p (pending_alias n w) (subst (λ ps. ListHasElement ps (pending_alias n w)) pending x)) as (λ _. ListHasElement e.pending.items (pending_alias n w) ⊎ AreMembersHandled lines e w (members_of_definition_number lines n)) [
      | inl left ↦ inl (more.pending (pending_alias n w) left)
      | inr same ↦ inr (subst (λ (q : PendingAlias). AreMembersHandled lines e q.wanted (members_of_definition_number lines q.number)) same handled)
    ]
    | inr h ↦ inr (members_stay_handled lines c e keeps w (members_of_definition_number lines n) h)
  ]
  | inr x ↦ inl x
]

pub settled_collector_has_found : (lines : List Line) (c : AliasCollector) → IsClosedUpTo lines c [] → (w : WantedMembers) (ms : List Member) → AreMembersHandled lines c w ms
    → (fs : List SignedAtom) (s : SignedAtom) → IsFlatListOf c.aliases.now.kind lines ms fs → IsWantedOfFlatList (undecided_by c.aliases.now) (matched_by c.aliases.now) w fs s → HasAtomInPart c.found.items c.part s
settled_collector_has_found lines c closed w ms h fs s f x =
    handled_list_is_found lines c (λ n v mark. elim (closed n v mark) as (λ _. AreMembersHandled lines c v (members_of_definition_number lines n)) [ inl y ↦ absurd y | inr y ↦ y ]) w ms fs s h f x

pub new_marks_are_unset : (n k : ℕ) (w : WantedMembers) (m : AliasMarks) → has_mark m w ≡ false → HasMark (replicate n m) k w → ⊥
new_marks_are_unset zero k w m e h = let clash : None ≡ Some h.of_alias = h.at in cc
new_marks_are_unset (suc n) zero w m e h =
    let same : m ≡ h.of_alias = let two : Some m ≡ Some h.of_alias = h.at in cc in
    let clash : true ≡ false = sym h.has ∙ ap (λ x. has_mark x w) (sym same) ∙ e in cc
new_marks_are_unset (suc n) (suc k) w m e h = new_marks_are_unset n k w m e (record { of_alias = h.of_alias; at = h.at; has = h.has })

pub pop_keeps : (c d : AliasCollector) → d.part ≡ c.part → d.aliases.now ≡ c.aliases.now → d.found.items ≡ c.found.items → d.marks.items ≡ c.marks.items → KeepsFound c d
pop_keeps c d part aliases found marks = record {
  part = part;
  aliases = aliases;
  found = λ u h. subst (λ us. ListHasElement us u) (sym found) h;
  undecided = λ u h. inl (subst (λ us. ListHasElement us u) found h);
  marks = λ n w h. subst (λ ms. HasMark ms n w) (sym marks) h;
  size = ap length marks;
}

pub closed_with_none_pending : (lines : List Line) (c d : AliasCollector) → KeepsFound c d → d.marks.items ≡ c.marks.items → c.pending.items ≡ [] → IsClosedUpTo lines c c.pending.items → IsClosedUpTo lines d []
closed_with_none_pending lines c d keeps marks empty closed n w mark =
    elim (subst (λ ps. IsClosedUpTo lines c ps) empty closed n w (subst (λ ms. HasMark ms n w) marks mark)) as (λ _. ListHasElement [] (pending_alias n w) ⊎ AreMembersHandled lines d w (members_of_definition_number lines n)) [
      | inl x ↦ inl x
      | inr h ↦ inr (members_stay_handled lines c d keeps w (members_of_definition_number lines n) h)
    ]
