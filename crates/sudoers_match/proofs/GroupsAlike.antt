-- Where a user has rules, in two policies whose user specifications are for the same users and hosts.
use Rattle.sudoers_match.proofs.Common.{Allow, AreHostListsAlike, ArePlacesOfMatchingHostGroups, HoldsHostGroupPlaceIfHostsMatch, AreMatchingHostGroupPlacesOfSpec, AreSpecUsersAndHostsAlike, Atom, Host, HostGroup, HostGroupPlace}
use Rattle.sudoers_match.proofs.Common.{IsConcatenationOfParts, IsPointwiseRelated, KeepsAtomMatches, Line, List, ListAllows, User, UserSpec, Who, [], inl, inr, is_host_atom_match, is_user_atom_match, suc}
use Rattle.sudoers_match.proofs.Common.{user_specs_of_lines, ℕ, ◌↔◌, ◌∷◌}
use Rattle.sudoers_match.proofs.Alike.{AlikeListsHaveSameVerdict, pointwise_relation_is_weakened, pointwise_relation_is_reversed, equivalence_is_reversed}

related_items_have_same_concatenation : {X U Y : Type 0} (S : X → U → Type 0) (Part : ℕ → X → List Y → Type 0) (Other : ℕ → U → List Y → Type 0)
    → ((i : ℕ) (x : X) (u : U) (ys : List Y) → S x u → Part i x ys → Other i u ys)
    → (i : ℕ) (xs : List X) (us : List U) (ys : List Y) → IsPointwiseRelated S xs us → IsConcatenationOfParts Part i xs ys → IsConcatenationOfParts Other i us ys
related_items_have_same_concatenation S Part Other each i [] [] ys all joined = joined
related_items_have_same_concatenation S Part Other each i [] (u ∷ us) ys all joined = absurd all
related_items_have_same_concatenation S Part Other each i (x ∷ xs) [] ys all joined = absurd all
related_items_have_same_concatenation S Part Other each i (x ∷ xs) (u ∷ us) ys all joined = (
  joined.0,
  joined.1,
  joined.2,
  each i x u joined.0 all.0 joined.3,
  related_items_have_same_concatenation S Part Other each (suc i) xs us joined.1 all.1 joined.4,
)

module _ (lines others : List Line) (who : Who) where
  -- the hosts of both groups match, or neither's do
  abbrev SameHosts : HostGroup → HostGroup → Type 0
  SameHosts g h = ListAllows Host lines (is_host_atom_match who) g.hosts ↔ ListAllows Host others (is_host_atom_match who) h.hosts

  abbrev SameUsers : UserSpec → UserSpec → Type 0
  SameUsers s t = (ListAllows User lines (is_user_atom_match who.user) s.users ↔ ListAllows User others (is_user_atom_match who.user) t.users) × IsPointwiseRelated SameHosts s.groups t.groups

  group_same : (i j : ℕ) (g h : HostGroup) (places : List HostGroupPlace) → SameHosts g h → HoldsHostGroupPlaceIfHostsMatch lines who i j g places → HoldsHostGroupPlaceIfHostsMatch others who i j h places
  group_same i j g h places same (inl is) = inl (same.0 is.0, is.1)
  group_same i j g h places same (inr is) = inr (λ a. is.0 (same.1 a), is.1)

  spec_same : (i : ℕ) (s t : UserSpec) (places : List HostGroupPlace) → SameUsers s t → AreMatchingHostGroupPlacesOfSpec lines who i s places → AreMatchingHostGroupPlacesOfSpec others who i t places
  spec_same i s t places same (inl is) =
      inl (same.0.0 is.0, related_items_have_same_concatenation SameHosts (HoldsHostGroupPlaceIfHostsMatch lines who i) (HoldsHostGroupPlaceIfHostsMatch others who i) (group_same i) 0 s.groups t.groups places same.1 is.1)
  spec_same i s t places same (inr is) = inr (λ a. is.0 (same.0.1 a), is.1)

  pub places_same : IsPointwiseRelated SameUsers (user_specs_of_lines lines) (user_specs_of_lines others) → (places : List HostGroupPlace) → ArePlacesOfMatchingHostGroups lines who places → ArePlacesOfMatchingHostGroups others who places
  places_same all places are = related_items_have_same_concatenation SameUsers (AreMatchingHostGroupPlacesOfSpec lines who) (AreMatchingHostGroupPlacesOfSpec others who) spec_same 0 (user_specs_of_lines lines) (user_specs_of_lines others) places all are

same_users_of_specs_is_symmetric : (lines others : List Line) (who : Who) (t s : UserSpec) → SameUsers lines others who s t → SameUsers others lines who t s
same_users_of_specs_is_symmetric lines others who t s same = (
  equivalence_is_reversed same.0,
  pointwise_relation_is_weakened (λ h g. SameHosts lines others who g h) (SameHosts others lines who) (λ h g both. equivalence_is_reversed both) t.groups s.groups
      (pointwise_relation_is_reversed (SameHosts lines others who) s.groups t.groups same.1),
)

module _ (law : AlikeListsHaveSameVerdict) (write : Atom → Atom) (lines others : List Line) (hits : KeepsAtomMatches write) (who : Who) where
  group_alike : (g h : HostGroup) → AreHostListsAlike write lines others g h → SameHosts lines others who g h
  group_alike g h alike = law write (is_host_atom_match who) (hits.host who) hits.all Host lines others g.hosts h.hosts alike Allow

  spec_alike : (s t : UserSpec) → AreSpecUsersAndHostsAlike write lines others s t → SameUsers lines others who s t
  spec_alike s t alike = (
    law write (is_user_atom_match who.user) (hits.user who.user) hits.all User lines others s.users t.users alike.users Allow,
    pointwise_relation_is_weakened (AreHostListsAlike write lines others) (SameHosts lines others who) group_alike s.groups t.groups alike.groups,
  )

pub alike_specs_have_same_host_groups : AlikeListsHaveSameVerdict → (write : Atom → Atom) (lines others : List Line) → KeepsAtomMatches write → IsPointwiseRelated (AreSpecUsersAndHostsAlike write lines others) (user_specs_of_lines lines) (user_specs_of_lines others)
    → (who : Who) (places : List HostGroupPlace) → ArePlacesOfMatchingHostGroups lines who places ↔ ArePlacesOfMatchingHostGroups others who places
alike_specs_have_same_host_groups law write lines others hits all who places =
    let same = pointwise_relation_is_weakened (AreSpecUsersAndHostsAlike write lines others) (SameUsers lines others who) (spec_alike law write lines others hits who) (user_specs_of_lines lines) (user_specs_of_lines others) all in (
      places_same lines others who same places,
      places_same others lines who
          (pointwise_relation_is_weakened (λ t s. SameUsers lines others who s t) (SameUsers others lines who) (same_users_of_specs_is_symmetric lines others who) (user_specs_of_lines others) (user_specs_of_lines lines)
          (pointwise_relation_is_reversed (SameUsers lines others who) (user_specs_of_lines lines) (user_specs_of_lines others) same)) places,
    )
