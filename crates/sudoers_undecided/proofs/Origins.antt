-- Where that comes from which a collector finds and asks for.
use Rattle.std.proofs.Common.{◌≡◌, inl, inr, ℕ, zero, suc, ◌-◌, ◌<◌, ◌≤◌, ◌&&◌, Bool, true, false, not, if◌then◌else◌, List, [], ◌∷◌, ◌++◌, map, drop, length, get_or, Some, None, slice_get, refl, sym, ap, ap₂, subst, ◌∙◌, arith, append-nil, append_assoc}
use Rattle.std.proofs.lemmas.List.{drop_all, map-append}
use Rattle.std.proofs.lemmas.Option.{slice_get_read}
use Rattle.sudoers_grammar.specs.declared.node.Atom.{Atom}
use Rattle.sudoers_grammar.specs.declared.node.Kind.{Kind}
use Rattle.sudoers_grammar.specs.Node.{Member}
use Rattle.sudoers_line_rows.specs.View.{member_of_view, members_of_view}
use Rattle.sudoers_tree.specs.Line.{Line}
use Rattle.sudoers_check.specs.Chain.{ListHasElement}
use Rattle.sudoers_check.proofs.Lists.{Has_at, Has_front, Has_push}
use Rattle.sudoers_match_list.specs.Flat.{IsFlatListOf, SignedAtom, none, one, many, signed_atom_of_member, signed_atom_under_negation, alias_members_of_atom, flipped_if_negated, has_no_digests, hit_of_signed_atom, hit_under_negation, is_all_atom, last_hit_of_list, later_hit_if_any}
use Rattle.sudoers_match_list.specs.Search.{alias_number_of_atom, members_of_definition_number}
use Rattle.sudoers_match_list.proofs.Flats.{last_hit_of_appended_is_later_hit, negated_list_has_negated_last_hit}
use Rattle.sudoers_match_list.proofs.Numbered.{alias_some, alias_none}
use Rattle.sudoers_match_list.proofs.Unique.{one_flat}
use Rattle.sudoers_undecided.specs.declared.alias_collector.AliasCollector.{AliasCollector}
use Rattle.sudoers_undecided.specs.declared.alias_collector.PendingAlias.{PendingAlias}
use Rattle.sudoers_undecided.specs.declared.decided_aliases.DecidedAliases.{DecidedAliases}
use Rattle.sudoers_undecided.specs.declared.list_sway.ListSway.{ListSway}
use Rattle.sudoers_undecided.specs.declared.request_part.RequestPart.{RequestPart}
use Rattle.sudoers_undecided.specs.declared.undecided_member.UndecidedMember.{UndecidedMember}
use Rattle.sudoers_undecided.specs.declared.wanted_members.CountedList.{CountedList}
use Rattle.sudoers_undecided.specs.declared.wanted_members.WantedMembers.{WantedMembers}
use Rattle.sudoers_undecided.specs.declared.wanted_members.WantedMembers.TheVariants.{Allowing, Denying, All}
use Rattle.sudoers_undecided.specs.internal.Collected.{AreWantedOfLists, CollectsOnlyOf, HasWantedAtomLike, IsCollectorOfLists, IsMemberOfLists, IsMissedAlias, MatchesNothing, MatchesNothingUnlessAllWanted}
use Rattle.sudoers_undecided.specs.internal.Decided.{DecidesAllAliases, matched_by, undecided_by}
use Rattle.sudoers_undecided.specs.internal.Wanted.{AreFlat, HasFlatList, is_all_wanted, is_sign_wanted, wanted_under_negation}
use Rattle.sudoers_undecided.proofs.Asking.{dropped_one}
use Rattle.sudoers_undecided.proofs.Collecting.{all_stay_wanted}
use Rattle.sudoers_undecided.proofs.Deciding.{alias_member_has_sway, flat_list_has_none_to_decide, none_if_not_some, one_to_decide, undecided_under_negation}
use Rattle.sudoers_undecided.proofs.Sways.{sway_has_last_hit}

-- ---- a flat list in parts

-- the flat list is that of a member and that of those behind it
record HasFlatFirst (k : Kind) (lines : List Line) (m : Member) (rest : List Member) (fs : List SignedAtom) : Type 0 where
  first : List SignedAtom
  after : List SignedAtom
  stands : fs ≡ first ++ after
  of_member : IsFlatListOf k lines (m ∷ []) first
  of_rest : IsFlatListOf k lines rest after

-- a member stands in it, and those behind it
record HasFlatAt (k : Kind) (lines : List Line) (m : Member) (rest : List Member) (fs : List SignedAtom) : Type 0 where
  before : List SignedAtom
  first : List SignedAtom
  after : List SignedAtom
  stands : fs ≡ before ++ (first ++ after)
  of_member : IsFlatListOf k lines (m ∷ []) first
  of_rest : IsFlatListOf k lines rest after

module _ (k : Kind) (lines : List Line) where
  flat_first : (m : Member) (rest : List Member) (fs : List SignedAtom) → IsFlatListOf k lines (m ∷ rest) fs → HasFlatFirst k lines m rest fs
  flat_first m rest fs f = by (m ∷ rest) fs f refl
    where
      by : (ns : List Member) (fs : List SignedAtom) → IsFlatListOf k lines ns fs → ns ≡ m ∷ rest → HasFlatFirst k lines m rest fs
      by ns fs none same = let clash : [] ≡ m ∷ rest = same in absurd cc
      by ns fs (one n others gs a f) same =
          let it : n ≡ m = cc in
          let those : others ≡ rest = cc in
          subst (λ x. HasFlatFirst k lines x rest (signed_atom_of_member n ∷ gs)) it
          (subst (λ xs. HasFlatFirst k lines n xs (signed_atom_of_member n ∷ gs)) those
          (record { first = signed_atom_of_member n ∷ []; after = gs; stands = refl; of_member = one n [] [] a none; of_rest = f }))
      by ns fs (many n others members inner gs a i f) same =
          let it : n ≡ m = cc in
          let those : others ≡ rest = cc in
          subst (λ x. HasFlatFirst k lines x rest (map (signed_atom_under_negation n.negated) inner ++ gs)) it
          (subst (λ xs. HasFlatFirst k lines n xs (map (signed_atom_under_negation n.negated) inner ++ gs)) those
          (record {
            first = map (signed_atom_under_negation n.negated) inner ++ [];
            after = gs;
            stands = sym (ap (λ ts. ts ++ gs) (append-nil (map (signed_atom_under_negation n.negated) inner)));
            of_member = many n [] members inner [] a i none;
            of_rest = f;
          }))

  flat_at : (ms : List Member) (i : ℕ) (m : Member) → slice_get ms i ≡ Some m → (fs : List SignedAtom) → IsFlatListOf k lines ms fs → HasFlatAt k lines m (drop (suc i) ms) fs
  flat_at [] i m at fs f = absurd cc
  flat_at (n ∷ ms) zero m at fs f =
      let same : n ≡ m = cc in
      let x = flat_first n ms fs f in
      subst (λ y. HasFlatAt k lines y ms fs) same (record { before = []; first = x.first; after = x.after; stands = x.stands; of_member = x.of_member; of_rest = x.of_rest })
  flat_at (n ∷ ms) (suc i) m at fs f =
      let x = flat_first n ms fs f in
      let y = flat_at ms i m at x.after x.of_rest in
      record {
        before = x.first ++ y.before;
        first = y.first;
        after = y.after;
        stands = x.stands ∙ ap (λ ts. x.first ++ ts) y.stands ∙ sym (append_assoc x.first y.before (y.first ++ y.after));
        of_member = y.of_member;
        of_rest = y.of_rest;
      }

  -- the members of an alias that stands alone have a flat list
  inside_alias : (m : Member) (n : ℕ) → alias_number_of_atom k lines m.atom ≡ Some n → (fs : List SignedAtom) → IsFlatListOf k lines (m ∷ []) fs → (inner : List SignedAtom) × IsFlatListOf k lines (members_of_definition_number lines n) inner
  inside_alias m n is fs f = by (m ∷ []) fs f refl
    where
      by : (ns : List Member) (fs : List SignedAtom) → IsFlatListOf k lines ns fs → ns ≡ m ∷ [] → (inner : List SignedAtom) × IsFlatListOf k lines (members_of_definition_number lines n) inner
      by ns fs none same = let clash : [] ≡ m ∷ [] = same in absurd cc
      by ns fs (one x rest gs a f) same =
          let it : x ≡ m = cc in
          let clash : None ≡ Some (members_of_definition_number lines n) = sym a ∙ ap (λ (y : Member). alias_members_of_atom k lines y.atom) it ∙ alias_some k lines m.atom n is in absurd cc
      by ns fs (many x rest members inner gs a i f) same =
          let it : x ≡ m = cc in
          let members_are : members ≡ members_of_definition_number lines n =
          let two : Some members ≡ Some (members_of_definition_number lines n) = sym a ∙ ap (λ (y : Member). alias_members_of_atom k lines y.atom) it ∙ alias_some k lines m.atom n is in cc in
          (inner, subst (λ xs. IsFlatListOf k lines xs inner) members_are i)

-- ---- hits

no_hit_of_parts : (test : Atom → Bool) (fs gs : List SignedAtom) → last_hit_of_list test fs ≡ None → last_hit_of_list test gs ≡ None → last_hit_of_list test (fs ++ gs) ≡ None
no_hit_of_parts test fs gs e f = last_hit_of_appended_is_later_hit test fs gs ∙ ap₂ later_hit_if_any e f

sign_under_negation : (n : Bool) (w : WantedMembers) (a : Bool) → is_sign_wanted (wanted_under_negation n w) a ≡ true → is_sign_wanted w (flipped_if_negated n a) ≡ true
sign_under_negation n All a e = refl
sign_under_negation true Allowing a e = e
sign_under_negation false Allowing a e = e
sign_under_negation true Denying true e = refl
sign_under_negation true Denying false e = e
sign_under_negation false Denying a e = e

module _ (lines : List Line) (d : DecidedAliases) where
  -- ---- members that do not match

  pub plain_member_matches_nothing : (m : Member) → alias_number_of_atom d.kind lines m.atom ≡ None → (matched_by d m.atom && has_no_digests m.digests) ≡ false → MatchesNothing lines d (m ∷ [])
  plain_member_matches_nothing m is miss fs f =
      let same : fs ≡ signed_atom_of_member m ∷ [] = one_flat d.kind lines (m ∷ []) fs (signed_atom_of_member m ∷ []) f (one m [] [] (alias_none d.kind lines m.atom is) none) in
      let no : hit_of_signed_atom (matched_by d) (signed_atom_of_member m) ≡ None = ap (λ (b : Bool). if b then Some (record { allow = not m.negated; by_all = is_all_atom m.atom }) else None) miss in
      ap (last_hit_of_list (matched_by d)) same ∙ no

  pub missed_alias_matches_nothing : DecidesAllAliases lines d → (m : Member) (n : ℕ) → alias_number_of_atom d.kind lines m.atom ≡ Some n → IsMissedAlias d n → MatchesNothing lines d (m ∷ [])
  missed_alias_matches_nothing all m n is (inl at) fs f = absurd (flat_list_has_none_to_decide lines d all (m ∷ []) fs f (one_to_decide lines d m n is at))
  missed_alias_matches_nothing all m n is (inr x) fs f =
      let v = alias_member_has_sway lines d m n x.0 is (all.holds.right n x.0 x.1) in
      ap (last_hit_of_list (matched_by d)) (one_flat d.kind lines (m ∷ []) fs v.flat f v.is_flat) ∙ sym (sway_has_last_hit (undecided_by d) (matched_by d) v.flat) ∙ ap (λ (s : ListSway). s.hit) (sym v.says)
      ∙ ap (hit_under_negation m.negated) (none_if_not_some x.0.hit x.2)

  pub nothing_matches_at_end : (w : WantedMembers) (ms : List Member) (i : ℕ) → length ms ≤ i → MatchesNothingUnlessAllWanted lines d w (drop i ms)
  nothing_matches_at_end w ms i end fs f some = ap (last_hit_of_list (matched_by d)) (one_flat d.kind lines [] fs [] (subst (λ xs. IsFlatListOf d.kind lines xs fs) (drop_all i ms end) f) none)

  -- one member more that does not match
  pub nothing_matches_from : (w : WantedMembers) (ms : List Member) (left : ℕ) (m : Member) → 0 < left → slice_get ms (left - 1) ≡ Some m → (is_all_wanted w ≡ false → MatchesNothing lines d (m ∷ []))
      → MatchesNothingUnlessAllWanted lines d w (drop left ms) → MatchesNothingUnlessAllWanted lines d w (drop (left - 1) ms)
  nothing_matches_from w ms left m more at here rest fs f some =
      let next : suc (left - 1) ≡ left = omega (arith, more) in
      let x = flat_first d.kind lines m (drop (suc (left - 1)) ms) fs (subst (λ xs. IsFlatListOf d.kind lines xs fs) (dropped_one ms (left - 1) m at) f) in
      ap (last_hit_of_list (matched_by d)) x.stands
      ∙ no_hit_of_parts (matched_by d) x.first x.after (here some x.first x.of_member) (rest x.after (subst (λ j. IsFlatListOf d.kind lines (drop j ms) x.after) next x.of_rest) some)

  module _ (lists : List CountedList) where
    -- ---- wanted members of lists

    pub list_is_wanted : (l : CountedList) → ListHasElement lists l → HasFlatList d.kind lines l → AreWantedOfLists lines d lists (members_of_view l.members) l.wanted
    list_is_wanted l stands f = record {
      flat = f.flat;
      is_flat = f.is_flat;
      each = λ t w. record { atom = t; is_wanted = record { list = l; stands = stands; is_wanted = record { flat = f.flat; is_flat = f.is_flat; is_wanted = w } }; atom_is = refl; digests = refl };
    }

    pub member_is_wanted : (w : WantedMembers) (ms : List Member) (i : ℕ) (m : Member) → slice_get ms i ≡ Some m → MatchesNothingUnlessAllWanted lines d w (drop (suc i) ms) → AreWantedOfLists lines d lists ms w
        → AreWantedOfLists lines d lists (m ∷ []) w
    member_is_wanted w ms i m at rest a =
        let x = flat_at d.kind lines ms i m at a.flat a.is_flat in
        record {
          flat = x.first;
          is_flat = x.of_member;
          each = λ t h. a.each t (record {
            before = x.before ++ h.before;
            after = h.after ++ x.after;
            stands = x.stands ∙ ap (λ ts. x.before ++ (ts ++ x.after)) h.stands ∙ ap (λ ts. x.before ++ ts) (append_assoc h.before (t ∷ h.after) x.after)
                ∙ sym (append_assoc x.before h.before (t ∷ (h.after ++ x.after)));
            is_undecided = h.is_undecided;
            none_behind = λ some. no_hit_of_parts (matched_by d) h.after x.after (h.none_behind some) (rest x.after x.of_rest some);
            sign = h.sign;
          });
        }

    pub alias_is_wanted : (w : WantedMembers) (m : Member) (n : ℕ) → alias_number_of_atom d.kind lines m.atom ≡ Some n → AreWantedOfLists lines d lists (m ∷ []) w
        → AreWantedOfLists lines d lists (members_of_definition_number lines n) (wanted_under_negation m.negated w)
    alias_is_wanted w m n is a =
        let i = inside_alias d.kind lines m n is a.flat a.is_flat in
        let turned = map (signed_atom_under_negation m.negated) in
        let same : a.flat ≡ turned i.0 =
        one_flat d.kind lines (m ∷ []) a.flat (turned i.0 ++ []) a.is_flat (many m [] (members_of_definition_number lines n) i.0 [] (alias_some d.kind lines m.atom n is) i.1 none) ∙ append-nil (turned i.0) in
        record {
          flat = i.0;
          is_flat = i.1;
          each = λ t h.
              let x : HasWantedAtomLike lines d lists (signed_atom_under_negation m.negated t) = a.each (signed_atom_under_negation m.negated t) (record {
                before = turned h.before;
                after = turned h.after;
                stands = same ∙ ap turned h.stands ∙ map-append (signed_atom_under_negation m.negated) h.before (t ∷ h.after);
                is_undecided = undecided_under_negation d.question m.negated t ∙ h.is_undecided;
                none_behind = λ some. negated_list_has_negated_last_hit (matched_by d) m.negated h.after ∙ ap (hit_under_negation m.negated) (h.none_behind (all_stay_wanted m.negated w ∙ some));
                sign = sign_under_negation m.negated w t.allow h.sign;
              }) in
              record { atom = x.atom; is_wanted = x.is_wanted; atom_is = x.atom_is; digests = x.digests };
        }

    pub found_member_is_wanted : (w : WantedMembers) (p : RequestPart) (m : Member) → alias_number_of_atom d.kind lines m.atom ≡ None → AreWantedOfLists lines d lists (m ∷ []) w
        → undecided_by d (signed_atom_of_member m) ≡ true → is_sign_wanted w (not m.negated) ≡ true
        → (u : UndecidedMember) → u.part ≡ p → member_of_view u.member ≡ m → IsMemberOfLists lines d p lists u
    found_member_is_wanted w p m is a is_undecided sign u part same =
        let flat : a.flat ≡ signed_atom_of_member m ∷ [] = one_flat d.kind lines (m ∷ []) a.flat (signed_atom_of_member m ∷ []) a.is_flat (one m [] [] (alias_none d.kind lines m.atom is) none) in
        let x = a.each (signed_atom_of_member m) (record { before = []; after = []; stands = flat; is_undecided = is_undecided; none_behind = λ _. refl; sign = sign }) in
        record {
          atom = x.atom;
          is_wanted = x.is_wanted;
          is = record { part = part; atom = ap (λ (y : Member). y.atom) same ∙ x.atom_is; digests = ap (λ (y : Member). y.digests) same ∙ x.digests };
        }

-- ---- collectors

module _ (lines : List Line) (lists : List CountedList) (c e : AliasCollector) (part : e.part ≡ c.part) (aliases : e.aliases.now ≡ c.aliases.now) (h : IsCollectorOfLists lines lists c) where
  abbrev IsFound : UndecidedMember → Type 0
  IsFound = IsMemberOfLists lines c.aliases.now c.part lists

  abbrev IsPending : PendingAlias → Type 0
  IsPending p = AreWantedOfLists lines c.aliases.now lists (members_of_definition_number lines p.number) p.wanted

  collector_with : ((u : UndecidedMember) → ListHasElement e.found.items u → IsFound u) → ((p : PendingAlias) → ListHasElement e.pending.items p → IsPending p) → IsCollectorOfLists lines lists e
  collector_with found pending = record {
    found = λ u x. subst (λ (d : DecidedAliases). IsMemberOfLists lines d e.part lists u) (sym aliases) (subst (λ p. IsMemberOfLists lines c.aliases.now p lists u) (sym part) (found u x));
    pending = λ p x. subst (λ (d : DecidedAliases). AreWantedOfLists lines d lists (members_of_definition_number lines p.number) p.wanted) (sym aliases) (pending p x);
  }

  pub collector_with_found : (u : UndecidedMember) → e.pending.items ≡ c.pending.items → e.found.items ≡ c.found.items ++ u ∷ [] → IsFound u → IsCollectorOfLists lines lists e
  collector_with_found u pending found new = collector_with
      (λ v x. elim (Has_push c.found.items u v (subst (λ us. ListHasElement us v) found x)) as (λ _. IsFound v) [
        | inl old ↦ h.found v old
        | inr same ↦ subst IsFound same new
      ])
      (λ p x. h.pending p (subst (λ ps. ListHasElement ps p) pending x))

  pub collector_with_pending : (p : PendingAlias) → e.pending.items ≡ c.pending.items ++ p ∷ [] → e.found.items ≡ c.found.items → IsPending p → IsCollectorOfLists lines lists e
  collector_with_pending p pending found new = collector_with (λ u x. h.found u (subst (λ us. ListHasElement us u) found x))
      (λ q x. elim (Has_push c.pending.items p q (subst (λ ps. ListHasElement ps q) pending x)) as (λ _. IsPending q) [
        | inl old ↦ h.pending q old
        | inr same ↦ subst IsPending same new
      ])

  pub collector_after_pop : (last : List PendingAlias) → c.pending.items ≡ e.pending.items ++ last → e.found.items ≡ c.found.items → IsCollectorOfLists lines lists e
  collector_after_pop last pending found = collector_with (λ u x. h.found u (subst (λ us. ListHasElement us u) found x))
      (λ p x. h.pending p (subst (λ ps. ListHasElement ps p) (sym pending) (Has_front e.pending.items last p x)))

pub one_more_collected : (lines : List Line) (c d e : AliasCollector) → d.aliases.now ≡ c.aliases.now → (w : WantedMembers) (ms : List Member) (left : ℕ) (m : Member) → 0 < left → slice_get ms (left - 1) ≡ Some m
    → MatchesNothingUnlessAllWanted lines c.aliases.now w (drop left ms) → CollectsOnlyOf lines ms w c d → CollectsOnlyOf lines (m ∷ []) w d e → CollectsOnlyOf lines ms w c e
one_more_collected lines c d e aliases w ms left m more at rest before step lists wanted h =
    let next : suc (left - 1) ≡ left = omega (arith, more) in
    step lists
    (subst (λ (x : DecidedAliases). AreWantedOfLists lines x lists (m ∷ []) w) (sym aliases)
    (member_is_wanted lines c.aliases.now lists w ms (left - 1) m at (subst (λ j. MatchesNothingUnlessAllWanted lines c.aliases.now w (drop j ms)) (sym next) rest) wanted)) (before lists wanted h)

-- ---- list after list

pub new_collector_of_lists : (lines : List Line) (lists : List CountedList) (c : AliasCollector) → c.found.items ≡ [] → c.pending.items ≡ [] → IsCollectorOfLists lines lists c
new_collector_of_lists lines lists c found pending = record {
  found = λ u h. absurd (subst (λ us. ListHasElement us u) found h);
  pending = λ p h. absurd (subst (λ ps. ListHasElement ps p) pending h);
}

pub collected_on : (lines ls : List Line) (d : DecidedAliases) (c e : AliasCollector) → c.aliases.now ≡ d → ls ≡ lines → (lists : List CountedList) (i : ℕ) (l : CountedList) → i < length lists → l ≡ get_or lists i l
    → ((others : List CountedList) → ListHasElement others l → HasFlatList c.aliases.now.kind ls l → IsCollectorOfLists ls others c → IsCollectorOfLists ls others e) → AreFlat d.kind lines lists
    → IsCollectorOfLists lines lists c → IsCollectorOfLists lines lists e
collected_on lines ls d c e aliases walk lists i l within is step flat h =
    let stands : ListHasElement lists l = Has_at lists i l (slice_get_read lists (length lists) i l refl within is) in
    subst (λ xs. IsCollectorOfLists xs lists e) walk
    (step lists stands (subst (λ (x : DecidedAliases). HasFlatList x.kind ls l) (sym aliases) (subst (λ xs. HasFlatList d.kind xs l) (sym walk) (flat l stands))) (subst (λ xs. IsCollectorOfLists xs lists c) (sym walk) h))
