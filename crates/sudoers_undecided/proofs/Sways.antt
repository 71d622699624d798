-- What sways lists, put together.
use Rattle.std.proofs.Common.{◌≡◌, ◌⊎◌, inl, inr, Bool, true, false, not, ◌&&◌, ◌||◌, if◌then◌else◌, List, [], ◌∷◌, ◌++◌, map, Option, Some, None, refl, sym, ap, ap₂, subst, ◌∙◌}
use Rattle.sudoers_grammar.specs.declared.node.Atom.{Atom}
use Rattle.sudoers_match_list.specs.declared.verdict.MemberHit.{MemberHit}
use Rattle.sudoers_match_list.specs.Flat.{SignedAtom, hit_of_signed_atom, has_no_digests, later_hit_if_any, last_hit_of_list, signed_atom_under_negation, hit_under_negation, flipped_if_negated, is_all_atom}
use Rattle.sudoers_undecided.specs.TurningMembers.{CouldTurnFlatList}
use Rattle.sudoers_undecided.specs.declared.list_sway.ListSway.{ListSway}
use Rattle.sudoers_undecided.specs.ListSway.{sway_of_empty_list, sway_unless_later_hit, sway_of_joined_lists, sway_under_negation, sway_of_signed_atom, sway_of_flat_list, sway_of_one_atom, sway_of_atoms, is_bare_and_undecided, could_be_swayed_from}

or_assoc : (a b c : Bool) → ((a || b) || c) ≡ (a || (b || c))
or_assoc true b c = refl
or_assoc false b c = refl

or_nil : (a : Bool) → (a || false) ≡ a
or_nil true = refl
or_nil false = refl

abbrev make : Option MemberHit → Bool → Bool → ListSway
make h a d = record { hit = h; to_allow = a; to_deny = d }

swayed_is : (s t : ListSway) → s.hit ≡ t.hit → s.to_allow ≡ t.to_allow → s.to_deny ≡ t.to_deny → s ≡ t
swayed_is s t e f g = ap (λ h. make h s.to_allow s.to_deny) e ∙ ap₂ (λ a d. make t.hit a d) f g

later_assoc : (a b c : ListSway) → sway_of_joined_lists (sway_of_joined_lists a b) c ≡ sway_of_joined_lists a (sway_of_joined_lists b c)
later_assoc a b c = by c.hit b.hit refl refl
  where
    by : (h g : Option MemberHit) → c.hit ≡ h → b.hit ≡ g → sway_unless_later_hit h (sway_unless_later_hit g a b) c ≡ sway_unless_later_hit (sway_unless_later_hit h b c).hit a (sway_unless_later_hit h b c)
    by (Some h) g e f = ap (λ x. sway_unless_later_hit x a c) (sym e)
    by None (Some g) e f = ap (λ x. sway_unless_later_hit x a (sway_unless_later_hit None b c)) (sym f)
    by None None e f =
        swayed_is _ _ refl (or_assoc a.to_allow b.to_allow c.to_allow) (or_assoc a.to_deny b.to_deny c.to_deny) ∙ ap (λ x. sway_unless_later_hit x a (sway_unless_later_hit None b c)) (sym f)

module _ (undecided : SignedAtom → Bool) (test : Atom → Bool) where
  -- a list that goes on with another
  pub sway_of_appended : (fs gs : List SignedAtom) → sway_of_atoms undecided test (fs ++ gs) ≡ sway_of_joined_lists (sway_of_atoms undecided test fs) (sway_of_atoms undecided test gs)
  sway_of_appended [] gs = by (sway_of_atoms undecided test gs) (sway_of_atoms undecided test gs).hit refl
    where
      by : (s : ListSway) (h : Option MemberHit) → s.hit ≡ h → s ≡ sway_unless_later_hit h sway_of_empty_list s
      by s None e = swayed_is _ _ e refl refl
      by s (Some h) e = refl
  sway_of_appended (s ∷ fs) gs =
      ap (sway_of_joined_lists (sway_of_one_atom undecided test s)) (sway_of_appended fs gs) ∙ sym (later_assoc (sway_of_one_atom undecided test s) (sway_of_atoms undecided test fs) (sway_of_atoms undecided test gs))

  -- a list with one atom
  pub sway_of_single : (s : SignedAtom) → sway_of_atoms undecided test (s ∷ []) ≡ sway_of_one_atom undecided test s
  sway_of_single s = swayed_is _ _ refl (or_nil (sway_of_one_atom undecided test s).to_allow) (or_nil (sway_of_one_atom undecided test s).to_deny)

  -- its hit is that of the list
  hit_later : (a b : ListSway) → (sway_of_joined_lists a b).hit ≡ later_hit_if_any a.hit b.hit
  hit_later a b = by b.hit refl
    where
      by : (h : Option MemberHit) → b.hit ≡ h → (sway_unless_later_hit h a b).hit ≡ later_hit_if_any a.hit h
      by None e = refl
      by (Some h) e = e

  pub sway_has_last_hit : (fs : List SignedAtom) → (sway_of_atoms undecided test fs).hit ≡ last_hit_of_list test fs
  sway_has_last_hit [] = refl
  sway_has_last_hit (s ∷ fs) = hit_later (sway_of_one_atom undecided test s) (sway_of_atoms undecided test fs) ∙ ap (later_hit_if_any (hit_of_signed_atom test s)) (sway_has_last_hit fs)

  -- turned round
  turned_later : (n : Bool) (a b : ListSway) → sway_under_negation n (sway_of_joined_lists a b) ≡ sway_of_joined_lists (sway_under_negation n a) (sway_under_negation n b)
  turned_later n a b = by n b.hit refl
    where
      by : (n : Bool) (h : Option MemberHit) → b.hit ≡ h → sway_under_negation n (sway_unless_later_hit h a b) ≡ sway_unless_later_hit (hit_under_negation n h) (sway_under_negation n a) (sway_under_negation n b)
      by true None e = refl
      by false None e = refl
      by n (Some h) e = refl

  abbrev hit_in : Bool → Bool → Bool → Option MemberHit
  hit_in b allow all = if b then Some (record { allow = allow; by_all = all }) else None

  hit_turned : (n b allow all : Bool) → hit_in b (flipped_if_negated n allow) all ≡ hit_under_negation n (hit_in b allow all)
  hit_turned n true allow all = refl
  hit_turned n false allow all = refl

  not_not : (a b : Bool) → (a && not (not b)) ≡ (a && b)
  not_not a true = refl
  not_not a false = refl

  module _ (stays : (n : Bool) (s : SignedAtom) → undecided (signed_atom_under_negation n s) ≡ undecided s) where
    member_turned : (n : Bool) (s : SignedAtom) → sway_of_one_atom undecided test (signed_atom_under_negation n s) ≡ sway_under_negation n (sway_of_one_atom undecided test s)
    member_turned true s = swayed_is _ _ (hit_turned true (test s.atom && has_no_digests s.digests) s.allow (is_all_atom s.atom))
        (ap (λ u. u && not s.allow) (stays true s)) (ap (λ u. u && not (not s.allow)) (stays true s) ∙ not_not (undecided s) s.allow)
    member_turned false s = swayed_is _ _ (hit_turned false (test s.atom && has_no_digests s.digests) s.allow (is_all_atom s.atom))
        (ap (λ u. u && s.allow) (stays false s)) (ap (λ u. u && not s.allow) (stays false s))

    pub sway_of_negated : (n : Bool) (fs : List SignedAtom) → sway_of_atoms undecided test (map (signed_atom_under_negation n) fs) ≡ sway_under_negation n (sway_of_atoms undecided test fs)
    sway_of_negated true [] = refl
    sway_of_negated false [] = refl
    sway_of_negated n (s ∷ fs) =
        ap₂ sway_of_joined_lists (member_turned n s) (sway_of_negated n fs) ∙ sym (turned_later n (sway_of_one_atom undecided test s) (sway_of_atoms undecided test fs))

module _ (undecided test : Atom → Bool) where
  -- ---- it sways where a member could turn the list

  both : (a b : Bool) → (a && b) ≡ true → (a ≡ true) × (b ≡ true)
  both true b e = (refl, e)
  both false b e = absurd cc

  either : (a b : Bool) → (a || b) ≡ true → (a ≡ true) ⊎ (b ≡ true)
  either true b e = inl refl
  either false b e = inr e

  mine : (v : Bool) (s : SignedAtom) → could_be_swayed_from v (sway_of_signed_atom undecided test s) ≡ true → (undecided s.atom ≡ true) × (has_no_digests s.digests ≡ true) × (s.allow ≡ not v)
  mine true s e =
      let a = both (undecided s.atom && has_no_digests s.digests) (not s.allow) e in
      let b = both (undecided s.atom) (has_no_digests s.digests) a.0 in
      (b.0, b.1, is_false s.allow a.1)
    where
      is_false : (x : Bool) → not x ≡ true → x ≡ false
      is_false true e = absurd cc
      is_false false e = refl
  mine false s e =
      let a = both (undecided s.atom && has_no_digests s.digests) s.allow e in
      let b = both (undecided s.atom) (has_no_digests s.digests) a.0 in
      (b.0, b.1, a.1)

  more : (v : Bool) (s : SignedAtom) (fs : List SignedAtom) → ((t : SignedAtom) × CouldTurnFlatList undecided test v fs t) → (t : SignedAtom) × CouldTurnFlatList undecided test v (s ∷ fs) t
  more v s fs (t, w) = (t, record { before = s ∷ w.before; after = w.after; stands = ap (λ ts. s ∷ ts) w.stands; is_undecided = w.is_undecided; bare = w.bare; none_behind = w.none_behind; contrary = w.contrary })

  later_sways : (v : Bool) (a b : ListSway) → could_be_swayed_from v (sway_of_joined_lists a b) ≡ true → ((b.hit ≡ None) × (could_be_swayed_from v a ≡ true)) ⊎ (could_be_swayed_from v b ≡ true)
  later_sways v a b e = by b.hit refl e
    where
      by : (h : Option MemberHit) → b.hit ≡ h → could_be_swayed_from v (sway_unless_later_hit h a b) ≡ true → ((b.hit ≡ None) × (could_be_swayed_from v a ≡ true)) ⊎ (could_be_swayed_from v b ≡ true)
      by (Some h) f e = inr e
      by None f e = elim (or_by v e) as (λ _. ((b.hit ≡ None) × (could_be_swayed_from v a ≡ true)) ⊎ (could_be_swayed_from v b ≡ true)) [
        | inl x ↦ inl (f, x)
        | inr y ↦ inr y
      ]
        where
          or_by : (v : Bool) → could_be_swayed_from v (sway_unless_later_hit None a b) ≡ true → (could_be_swayed_from v a ≡ true) ⊎ (could_be_swayed_from v b ≡ true)
          or_by true e = either a.to_deny b.to_deny e
          or_by false e = either a.to_allow b.to_allow e

  pub sway_then_turning_atom : (v : Bool) (fs : List SignedAtom) → could_be_swayed_from v (sway_of_flat_list undecided test fs) ≡ true → (t : SignedAtom) × CouldTurnFlatList undecided test v fs t
  sway_then_turning_atom true [] e = absurd cc
  sway_then_turning_atom false [] e = absurd cc
  sway_then_turning_atom v (s ∷ fs) e = by (later_sways v (sway_of_signed_atom undecided test s) (sway_of_flat_list undecided test fs) e) (sway_then_turning_atom v fs)
    where
      by : (((sway_of_flat_list undecided test fs).hit ≡ None) × (could_be_swayed_from v (sway_of_signed_atom undecided test s) ≡ true)) ⊎ (could_be_swayed_from v (sway_of_flat_list undecided test fs) ≡ true)
          → (could_be_swayed_from v (sway_of_flat_list undecided test fs) ≡ true → (t : SignedAtom) × CouldTurnFlatList undecided test v fs t) → (t : SignedAtom) × CouldTurnFlatList undecided test v (s ∷ fs) t
      by (inl w) ih =
          let m = mine v s w.1 in
          (s, record { before = []; after = fs; stands = refl; is_undecided = m.0; bare = m.1; none_behind = sym (sway_has_last_hit (is_bare_and_undecided undecided) test fs) ∙ w.0; contrary = m.2 })
      by (inr f) ih = more v s fs (ih f)

  or_right : (a b : Bool) → b ≡ true → (a || b) ≡ true
  or_right true b e = refl
  or_right false b e = e

  or_left : (a b : Bool) → a ≡ true → (a || b) ≡ true
  or_left true b e = refl
  or_left false b e = absurd cc

  sways_later : (v : Bool) (a b : ListSway) → could_be_swayed_from v b ≡ true → could_be_swayed_from v (sway_of_joined_lists a b) ≡ true
  sways_later v a b e = by v b.hit e
    where
      by : (v : Bool) (h : Option MemberHit) → could_be_swayed_from v b ≡ true → could_be_swayed_from v (sway_unless_later_hit h a b) ≡ true
      by v (Some h) e = e
      by true None e = or_right a.to_deny b.to_deny e
      by false None e = or_right a.to_allow b.to_allow e

  sways_first : (v : Bool) (a b : ListSway) → b.hit ≡ None → could_be_swayed_from v a ≡ true → could_be_swayed_from v (sway_of_joined_lists a b) ≡ true
  sways_first v a b n e = subst (λ h. could_be_swayed_from v (sway_unless_later_hit h a b) ≡ true) (sym n) (by v e)
    where
      by : (v : Bool) → could_be_swayed_from v a ≡ true → could_be_swayed_from v (sway_unless_later_hit None a b) ≡ true
      by true e = or_left a.to_deny b.to_deny e
      by false e = or_left a.to_allow b.to_allow e

  two : (a b : Bool) → a ≡ true → b ≡ true → (a && b) ≡ true
  two true b p q = q
  two false b p q = absurd cc

  mine_sways : (v : Bool) (s : SignedAtom) → undecided s.atom ≡ true → has_no_digests s.digests ≡ true → s.allow ≡ not v → could_be_swayed_from v (sway_of_signed_atom undecided test s) ≡ true
  mine_sways true s o b c = two (undecided s.atom && has_no_digests s.digests) (not s.allow) (two (undecided s.atom) (has_no_digests s.digests) o b) (ap (λ x. not x) c)
  mine_sways false s o b c = two (undecided s.atom && has_no_digests s.digests) s.allow (two (undecided s.atom) (has_no_digests s.digests) o b) c

  at_place : (v : Bool) (before after : List SignedAtom) (t : SignedAtom) → undecided t.atom ≡ true → has_no_digests t.digests ≡ true → last_hit_of_list test after ≡ None → t.allow ≡ not v
      → could_be_swayed_from v (sway_of_flat_list undecided test (before ++ t ∷ after)) ≡ true
  at_place v [] after t o b n c = sways_first v (sway_of_signed_atom undecided test t) (sway_of_flat_list undecided test after) (sway_has_last_hit (is_bare_and_undecided undecided) test after ∙ n) (mine_sways v t o b c)
  at_place v (s ∷ before) after t o b n c = sways_later v (sway_of_signed_atom undecided test s) (sway_of_flat_list undecided test (before ++ t ∷ after)) (at_place v before after t o b n c)

  pub turning_atom_then_sway : (v : Bool) (fs : List SignedAtom) (t : SignedAtom) → CouldTurnFlatList undecided test v fs t → could_be_swayed_from v (sway_of_flat_list undecided test fs) ≡ true
  turning_atom_then_sway v fs t w = subst (λ ts. could_be_swayed_from v (sway_of_flat_list undecided test ts) ≡ true) (sym w.stands) (at_place v w.before w.after t w.is_undecided w.bare w.none_behind w.contrary)
