-- What a collector has found of a list when nothing is pending.
use Rattle.std.proofs.Common.{◌≡◌, ◌⊎◌, inl, inr, ℕ, zero, suc, ◌||◌, Bool, true, false, List, [], ◌∷◌, ◌++◌, map, drop, Option, Some, None, slice_get, refl, sym, ap, subst, ◌∙◌}
use Rattle.sudoers_grammar.specs.declared.node.Atom.{Atom}
use Rattle.sudoers_grammar.specs.Node.{Member}
use Rattle.sudoers_tree.specs.Line.{Line}
use Rattle.sudoers_match_list.specs.declared.verdict.MemberHit.{MemberHit}
use Rattle.sudoers_match_list.specs.Flat.{IsFlatListOf, SignedAtom, none, one, many, signed_atom_of_member, signed_atom_under_negation, flipped_if_negated, last_hit_of_list, later_hit_if_any, hit_under_negation, hit_of_signed_atom}
use Rattle.sudoers_match_list.specs.Search.{alias_number_of_atom, members_of_definition_number}
use Rattle.sudoers_match_list.proofs.Flats.{last_hit_of_appended_is_later_hit, negated_list_has_negated_last_hit}
use Rattle.sudoers_match_list.proofs.Numbered.{some_number, none_number}
use Rattle.sudoers_undecided.specs.declared.alias_collector.AliasCollector.{AliasCollector}
use Rattle.sudoers_undecided.specs.declared.alias_collector.AliasMarks.{AliasMarks}
use Rattle.sudoers_undecided.specs.declared.wanted_members.WantedMembers.{WantedMembers}
use Rattle.sudoers_undecided.specs.declared.wanted_members.WantedMembers.TheVariants.{Allowing, Denying, All}
use Rattle.sudoers_undecided.specs.FoundMembers.{HasAtomInPart}
use Rattle.sudoers_undecided.specs.internal.Decided.{matched_by, undecided_by}
use Rattle.sudoers_undecided.specs.internal.Collected.{AreMembersHandled, CountsBefore, HasMark, IsAsked, IsMemberHandled, NoneMatches, includes_wanted}
use Rattle.sudoers_undecided.specs.internal.Wanted.{IsWantedOfFlatList, NoneMatchesUnlessAllWanted, is_all_wanted, is_sign_wanted, wanted_under_negation}
use Rattle.sudoers_undecided.proofs.Deciding.{undecided_under_negation}

is_true_or_false : (b : Bool) → (b ≡ true) ⊎ (b ≡ false)
is_true_or_false true = inl refl
is_true_or_false false = inr refl

-- ---- hits

earlier_says_nothing : (a b : Option MemberHit) → later_hit_if_any a b ≡ None → (a ≡ None) × (b ≡ None)
earlier_says_nothing a None e = (e, refl)
earlier_says_nothing a (Some h) e = absurd cc

pub no_hit_in_parts : (test : Atom → Bool) (fs gs : List SignedAtom) → last_hit_of_list test (fs ++ gs) ≡ None → (last_hit_of_list test fs ≡ None) × (last_hit_of_list test gs ≡ None)
no_hit_in_parts test fs gs e = earlier_says_nothing (last_hit_of_list test fs) (last_hit_of_list test gs) (sym (last_hit_of_appended_is_later_hit test fs gs) ∙ e)

no_hit_before_negation : (n : Bool) (h : Option MemberHit) → hit_under_negation n h ≡ None → h ≡ None
no_hit_before_negation n None e = refl
no_hit_before_negation n (Some h) e = absurd cc

pub no_hit_in_alias : (test : Atom → Bool) (n : Bool) (fs : List SignedAtom) → last_hit_of_list test (map (signed_atom_under_negation n) fs) ≡ None → last_hit_of_list test fs ≡ None
no_hit_in_alias test n fs e = no_hit_before_negation n (last_hit_of_list test fs) (sym (negated_list_has_negated_last_hit test n fs) ∙ e)

-- ---- wanted atoms, by the list

pub all_stay_wanted : (n : Bool) (w : WantedMembers) → is_all_wanted (wanted_under_negation n w) ≡ is_all_wanted w
all_stay_wanted n All = refl
all_stay_wanted true Allowing = refl
all_stay_wanted false Allowing = refl
all_stay_wanted true Denying = refl
all_stay_wanted false Denying = refl

sign_before_negation : (n : Bool) (w : WantedMembers) (a : Bool) → is_sign_wanted w (flipped_if_negated n a) ≡ true → is_sign_wanted (wanted_under_negation n w) a ≡ true
sign_before_negation n All a e = refl
sign_before_negation true Allowing a e = e
sign_before_negation false Allowing a e = e
sign_before_negation true Denying true e = refl
sign_before_negation true Denying false e = e
sign_before_negation false Denying a e = e

module _ (undecided : SignedAtom → Bool) (test : Atom → Bool) where
  abbrev IsWanted : WantedMembers → List SignedAtom → SignedAtom → Type 0
  IsWanted w [] s = ⊥
  IsWanted w (t ∷ fs) s = ((t ≡ s) × (undecided s ≡ true) × NoneMatchesUnlessAllWanted test w fs × (is_sign_wanted w s.allow ≡ true)) ⊎ IsWanted w fs s

  wanted_at : (w : WantedMembers) (before after : List SignedAtom) (s : SignedAtom) → undecided s ≡ true → NoneMatchesUnlessAllWanted test w after → is_sign_wanted w s.allow ≡ true → IsWanted w (before ++ s ∷ after) s
  wanted_at w [] after s o n e = inl (refl, o, n, e)
  wanted_at w (t ∷ before) after s o n e = inr (wanted_at w before after s o n e)

  pub wanted_is : (w : WantedMembers) (fs : List SignedAtom) (s : SignedAtom) → IsWantedOfFlatList undecided test w fs s → IsWanted w fs s
  wanted_is w fs s x = subst (λ ts. IsWanted w ts s) (sym x.stands) (wanted_at w x.before x.after s x.is_undecided x.none_behind x.sign)

  pub wanted_of_parts : (w : WantedMembers) (fs gs : List SignedAtom) (s : SignedAtom) → IsWanted w (fs ++ gs) s → (NoneMatchesUnlessAllWanted test w gs × IsWanted w fs s) ⊎ IsWanted w gs s
  wanted_of_parts w [] gs s x = inr x
  wanted_of_parts w (t ∷ fs) gs s (inl x) = inl ((λ e. (no_hit_in_parts test fs gs (x.2 e)).1), inl (x.0, x.1, (λ e. (no_hit_in_parts test fs gs (x.2 e)).0), x.3))
  wanted_of_parts w (t ∷ fs) gs s (inr x) = elim (wanted_of_parts w fs gs s x) as (λ _. (NoneMatchesUnlessAllWanted test w gs × IsWanted w (t ∷ fs) s) ⊎ IsWanted w gs s) [
    | inl y ↦ inl (y.0, inr y.1)
    | inr y ↦ inr y
  ]

  module _ (stays : (n : Bool) (s : SignedAtom) → undecided (signed_atom_under_negation n s) ≡ undecided s) where
    pub wanted_of_alias : (n : Bool) (w : WantedMembers) (fs : List SignedAtom) (s : SignedAtom) → IsWanted w (map (signed_atom_under_negation n) fs) s
        → (t : SignedAtom) × (signed_atom_under_negation n t ≡ s) × IsWanted (wanted_under_negation n w) fs t
    wanted_of_alias n w [] s x = absurd x
    wanted_of_alias n w (t ∷ fs) s (inl x) = (
      t,
      x.0,
      inl (
        refl,
        sym (stays n t) ∙ ap undecided x.0 ∙ x.1,
        (λ e. no_hit_in_alias test n fs (x.2 (sym (all_stay_wanted n w) ∙ e))),
        sign_before_negation n w t.allow (ap (λ (y : SignedAtom). is_sign_wanted w y.allow) x.0 ∙ x.3),
      ),
    )
    wanted_of_alias n w (t ∷ fs) s (inr x) = let y = wanted_of_alias n w fs s x in (y.0, y.1, inr y.2)

-- ---- members that were looked at

or_true : (a b : Bool) → a ≡ true → (a || b) ≡ true
or_true true b e = refl
or_true false b e = absurd cc

or_parts : (a b : Bool) → (a || b) ≡ true → (a ≡ true) ⊎ (b ≡ true)
or_parts true b e = inl refl
or_parts false b e = inr e

module _ (lines : List Line) (c : AliasCollector) where
  asked_all_asks : (m : AliasMarks) (w : WantedMembers) → m.all ≡ true → includes_wanted m w ≡ true
  asked_all_asks m All e = e
  asked_all_asks m Allowing e = or_true m.all m.allowing e
  asked_all_asks m Denying e = or_true m.all m.denying e

  turned_all : (n : Bool) → wanted_under_negation n All ≡ All
  turned_all n = refl

  pub all_handled_then_handled : (w : WantedMembers) (ms : List Member) → AreMembersHandled lines c All ms → AreMembersHandled lines c w ms
  all_handled_then_handled w [] h = tt
  all_handled_then_handled w (m ∷ ms) h = (
    (λ _.
        let x = h.0 (inl refl) in
        record {
          plain = λ e o _. x.plain e o refl;
          alias = λ n e. let a = x.alias n e in record { of_alias = a.of_alias; at = a.at; includes = asked_all_asks a.of_alias (wanted_under_negation m.negated w) a.includes };
        }),
    all_handled_then_handled w ms h.1,
  )

  module _ (closed : (n : ℕ) (w : WantedMembers) → HasMark c.marks.items n w → AreMembersHandled lines c w (members_of_definition_number lines n)) where
    asked_is_handled : (n : ℕ) (w : WantedMembers) → IsAsked c.marks.items n w → AreMembersHandled lines c w (members_of_definition_number lines n)
    asked_is_handled n All a = closed n All (record { of_alias = a.of_alias; at = a.at; has = a.includes })
    asked_is_handled n Allowing a = elim (or_parts a.of_alias.all a.of_alias.allowing a.includes) as (λ _. AreMembersHandled lines c Allowing (members_of_definition_number lines n)) [
      | inl e ↦ all_handled_then_handled Allowing (members_of_definition_number lines n) (closed n All (record { of_alias = a.of_alias; at = a.at; has = e }))
      | inr e ↦ closed n Allowing (record { of_alias = a.of_alias; at = a.at; has = e })
    ]
    asked_is_handled n Denying a = elim (or_parts a.of_alias.all a.of_alias.denying a.includes) as (λ _. AreMembersHandled lines c Denying (members_of_definition_number lines n)) [
      | inl e ↦ all_handled_then_handled Denying (members_of_definition_number lines n) (closed n All (record { of_alias = a.of_alias; at = a.at; has = e }))
      | inr e ↦ closed n Denying (record { of_alias = a.of_alias; at = a.at; has = e })
    ]

    counts : (w : WantedMembers) (ms : List Member) (fs : List SignedAtom) → IsFlatListOf c.aliases.now.kind lines ms fs → NoneMatchesUnlessAllWanted (matched_by c.aliases.now) w fs → CountsBefore lines c w ms
    counts w ms fs f n = elim (is_true_or_false (is_all_wanted w)) as (λ _. CountsBefore lines c w ms) [
      | inl e ↦ inl e
      | inr e ↦ inr (record { flat = fs; is_flat = f; none = n e })
    ]

    found_turned : (b : Bool) (t s : SignedAtom) → signed_atom_under_negation b t ≡ s → HasAtomInPart c.found.items c.part t → HasAtomInPart c.found.items c.part s
    found_turned b t s e h = record {
      member = h.member;
      stands = h.stands;
      is = record { part = h.is.part; atom = h.is.atom ∙ ap (λ (x : SignedAtom). x.atom) e; digests = h.is.digests ∙ ap (λ (x : SignedAtom). x.digests) e };
    }

    abbrev Wanted : WantedMembers → List SignedAtom → SignedAtom → Type 0
    Wanted = IsWanted (undecided_by c.aliases.now) (matched_by c.aliases.now)

    members_found : (ms : List Member) (fs : List SignedAtom) → IsFlatListOf c.aliases.now.kind lines ms fs → (w : WantedMembers) → AreMembersHandled lines c w ms → (s : SignedAtom) → Wanted w fs s → HasAtomInPart c.found.items c.part s
    members_found ms fs none w h s x = absurd x
    members_found ms fs (one m rest gs e f) w h s x = elim x as (λ _. HasAtomInPart c.found.items c.part s) [
      | inl y ↦
          let k : alias_number_of_atom c.aliases.now.kind lines m.atom ≡ None = none_number c.aliases.now.kind lines m.atom e in
          subst (HasAtomInPart c.found.items c.part) y.0
          ((h.0 (counts w rest gs f y.2)).plain k (ap (undecided_by c.aliases.now) y.0 ∙ y.1) (ap (λ (t : SignedAtom). is_sign_wanted w t.allow) y.0 ∙ y.3))
      | inr y ↦ members_found rest gs f w h.1 s y
    ]
    members_found ms fs (many m rest members inner gs e i f) w h s x =
        elim (wanted_of_parts (undecided_by c.aliases.now) (matched_by c.aliases.now) w (map (signed_atom_under_negation m.negated) inner) gs s x) as (λ _. HasAtomInPart c.found.items c.part s) [
          | inl y ↦
              let t = wanted_of_alias (undecided_by c.aliases.now) (matched_by c.aliases.now) (undecided_under_negation c.aliases.now.question) m.negated w inner s y.1 in
              let n = some_number c.aliases.now.kind lines m.atom members e in
              found_turned m.negated t.0 s t.1
              (members_found members inner i (wanted_under_negation m.negated w)
              (subst (AreMembersHandled lines c (wanted_under_negation m.negated w)) (sym n.2)
              (asked_is_handled n.0 (wanted_under_negation m.negated w) ((h.0 (counts w rest gs f y.0)).alias n.0 n.1))) t.0 t.2)
          | inr y ↦ members_found rest gs f w h.1 s y
        ]

    pub handled_list_is_found : (w : WantedMembers) (ms : List Member) (fs : List SignedAtom) (s : SignedAtom) → AreMembersHandled lines c w ms → IsFlatListOf c.aliases.now.kind lines ms fs
        → IsWantedOfFlatList (undecided_by c.aliases.now) (matched_by c.aliases.now) w fs s → HasAtomInPart c.found.items c.part s
    handled_list_is_found w ms fs s h f x = members_found ms fs f w h s (wanted_is (undecided_by c.aliases.now) (matched_by c.aliases.now) w fs s x)

-- ---- a member that matches ends a list

module _ (lines : List Line) (c : AliasCollector) where
  pub none_matches_behind : (m : Member) (ms : List Member) → NoneMatches c.aliases.now.kind lines (matched_by c.aliases.now) (m ∷ ms) → NoneMatches c.aliases.now.kind lines (matched_by c.aliases.now) ms
  none_matches_behind m ms h = by (m ∷ ms) h.flat h.is_flat refl h.none
    where
      by : (ns : List Member) (fs : List SignedAtom) → IsFlatListOf c.aliases.now.kind lines ns fs → ns ≡ m ∷ ms → last_hit_of_list (matched_by c.aliases.now) fs ≡ None → NoneMatches c.aliases.now.kind lines (matched_by c.aliases.now) ms
      by ns fs none same e = absurd cc
      by ns fs (one n rest gs a f) same e =
          let it : rest ≡ ms = cc in
          subst (NoneMatches c.aliases.now.kind lines (matched_by c.aliases.now)) it
          (record { flat = gs; is_flat = f; none = (earlier_says_nothing (hit_of_signed_atom (matched_by c.aliases.now) (signed_atom_of_member n)) (last_hit_of_list (matched_by c.aliases.now) gs) e).1 })
      by ns fs (many n rest members inner gs a i f) same e =
          let it : rest ≡ ms = cc in
          subst (NoneMatches c.aliases.now.kind lines (matched_by c.aliases.now)) it
          (record { flat = gs; is_flat = f; none = (no_hit_in_parts (matched_by c.aliases.now) (map (signed_atom_under_negation n.negated) inner) gs e).1 })

  abbrev Matches : Member → Type 0
  Matches m = (ms : List Member) → NoneMatches c.aliases.now.kind lines (matched_by c.aliases.now) (m ∷ ms) → ⊥

  matching_is_behind : (ms : List Member) (i : ℕ) (m : Member) → slice_get ms i ≡ Some m → Matches m → NoneMatches c.aliases.now.kind lines (matched_by c.aliases.now) ms → ⊥
  matching_is_behind [] i m at hit h = absurd cc
  matching_is_behind (n ∷ ms) zero m at hit h = let same : n ≡ m = cc in hit ms (subst (λ x. NoneMatches c.aliases.now.kind lines (matched_by c.aliases.now) (x ∷ ms)) same h)
  matching_is_behind (n ∷ ms) (suc i) m at hit h = matching_is_behind ms i m at hit (none_matches_behind n ms h)

  pub matching_member_ends_list : (w : WantedMembers) → is_all_wanted w ≡ false → (ms : List Member) (i : ℕ) (m : Member) → slice_get ms i ≡ Some m → Matches m → AreMembersHandled lines c w (drop i ms) → AreMembersHandled lines c w ms
  matching_member_ends_list w e [] i m at hit h = tt
  matching_member_ends_list w e (n ∷ ms) zero m at hit h = h
  matching_member_ends_list w e (n ∷ ms) (suc i) m at hit h = (
    (λ counts. elim counts as (λ _. IsMemberHandled lines c w n) [
      | inl all ↦ let clash : true ≡ false = sym all ∙ e in absurd cc
      | inr h ↦ absurd (matching_is_behind ms i m at hit h)
    ]),
    matching_member_ends_list w e ms i m at hit h,
  )
