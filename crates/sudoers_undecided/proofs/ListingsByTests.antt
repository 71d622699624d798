-- Listings by two tests.
use Rattle.std.proofs.Common.{◌⊎◌, ◌↔◌, inl, inr, ℕ, suc, false, List, [], ◌∷◌, refl}
use Rattle.sudoers_grammar.specs.declared.node.Kind.TheVariants.{User, Host}
use Rattle.sudoers_grammar.specs.Node.{HostGroup}
use Rattle.sudoers_tree.specs.Line.{Line}
use Rattle.sudoers_check.specs.Chain.{ListHasElement}
use Rattle.sudoers_match_list.specs.Flat.{SignedAtom}
use Rattle.sudoers_match.specs.declared.matching_host_groups.HostGroupPlace.{HostGroupPlace}
use Rattle.sudoers_match.specs.Allows.{ListAllows}
use Rattle.sudoers_match.specs.Specs.{UserSpec, user_specs_of_lines, IsConcatenationOfParts}
use Rattle.sudoers_undecided.specs.TurningMembers.{CouldTurnList}
use Rattle.sudoers_undecided.specs.MatchTests.{MatchTests, AgreesOnDecidedAtoms, MatchesNoUndecidedAtom}
use Rattle.sudoers_undecided.specs.UndecidedListing.{HoldsHostGroupPlaceIfHostsMatchByTests, AreMatchingHostGroupPlacesOfSpecByTests, ArePlacesOfMatchingHostGroupsByTests, CouldTurnUsersOrHosts, IsUndecidedInListing}
use Rattle.sudoers_undecided.proofs.ListsByTests.{list_allows_as_it_says}
use Rattle.sudoers_undecided.proofs.Decided.{alike_under_equivalence, list_alike_or_could_turn, HasFlatListOrNone, FlatListIsUnique}

parts_alike_then_joined_alike : {X Y : Type 0} (P Q : ℕ → X → List Y → Type 0) (i : ℕ) (xs : List X) → ((j : ℕ) (x : X) → ListHasElement xs x → (ys : List Y) → P j x ys → Q j x ys)
    → (ys : List Y) → IsConcatenationOfParts P i xs ys → IsConcatenationOfParts Q i xs ys
parts_alike_then_joined_alike P Q i [] each ys a = a
parts_alike_then_joined_alike P Q i (x ∷ xs) each ys a = (a.0, a.1, a.2, each i x (inl refl) a.0 a.3, parts_alike_then_joined_alike P Q (suc i) xs (λ j y h zs p. each j y (inr h) zs p) a.1 a.4)

module _ (one : FlatListIsUnique) (lines : List Line) (flats : HasFlatListOrNone lines) (undecided tests other : MatchTests) (misses : MatchesNoUndecidedAtom undecided tests) (agrees : AgreesOnDecidedAtoms undecided tests other) where
  group : (g : HostGroup) → ((s : SignedAtom) → CouldTurnList Host lines undecided.host tests.host false g.hosts s → ⊥) → (i j : ℕ) (places : List HostGroupPlace)
      → HoldsHostGroupPlaceIfHostsMatchByTests lines tests i j g places → HoldsHostGroupPlaceIfHostsMatchByTests lines other i j g places
  group g none i j places p =
      by (alike_under_equivalence (list_allows_as_it_says Host lines tests.host g.hosts) (list_allows_as_it_says Host lines other.host g.hosts)
      (list_alike_or_could_turn undecided.host tests.host other.host misses.host agrees.host one false Host lines g.hosts flats)).same p
    where
      by : ((s : SignedAtom) × CouldTurnList Host lines undecided.host tests.host false g.hosts s) ⊎ (ListAllows Host lines other.host g.hosts ↔ ListAllows Host lines tests.host g.hosts)
          → HoldsHostGroupPlaceIfHostsMatchByTests lines tests i j g places → HoldsHostGroupPlaceIfHostsMatchByTests lines other i j g places
      by (inl l) p = absurd (none l.0 l.1)
      by (inr f) (inl p) = inl (f.1 p.0, p.1)
      by (inr f) (inr p) = inr ((λ a. p.0 (f.0 a)), p.1)

  spec : (x : UserSpec) → ((s : SignedAtom) → CouldTurnUsersOrHosts lines undecided tests x s → ⊥) → (i : ℕ) (places : List HostGroupPlace) → AreMatchingHostGroupPlacesOfSpecByTests lines tests i x places → AreMatchingHostGroupPlacesOfSpecByTests lines other i x places
  spec x none i places p =
      by (alike_under_equivalence (list_allows_as_it_says User lines tests.user x.users) (list_allows_as_it_says User lines other.user x.users)
      (list_alike_or_could_turn undecided.user tests.user other.user misses.user agrees.user one false User lines x.users flats)).same p
    where
      by : ((s : SignedAtom) × CouldTurnList User lines undecided.user tests.user false x.users s) ⊎ (ListAllows User lines other.user x.users ↔ ListAllows User lines tests.user x.users)
          → AreMatchingHostGroupPlacesOfSpecByTests lines tests i x places → AreMatchingHostGroupPlacesOfSpecByTests lines other i x places
      by (inl l) p = absurd (none l.0 (inl l.1))
      by (inr f) (inl p) = inl (
        f.1 p.0,
        parts_alike_then_joined_alike (HoldsHostGroupPlaceIfHostsMatchByTests lines tests i) (HoldsHostGroupPlaceIfHostsMatchByTests lines other i) 0 x.groups
            (λ j g h ys q. group g (λ s l. none s (inr (p.0, (g, h, l)))) i j ys q) places p.1,
      )
      by (inr f) (inr p) = inr ((λ a. p.0 (f.0 a)), p.1)

  pub nothing_undecided_then_same_places : ((x : UserSpec) (s : SignedAtom) → IsUndecidedInListing lines undecided tests x s → ⊥) → (places : List HostGroupPlace) → ArePlacesOfMatchingHostGroupsByTests lines tests places → ArePlacesOfMatchingHostGroupsByTests lines other places
  nothing_undecided_then_same_places none places p = parts_alike_then_joined_alike (AreMatchingHostGroupPlacesOfSpecByTests lines tests) (AreMatchingHostGroupPlacesOfSpecByTests lines other) 0 (user_specs_of_lines lines)
      (λ i x h ys q. spec x (λ s l. none x s (record { stands = h; turns = l })) i ys q) places p
