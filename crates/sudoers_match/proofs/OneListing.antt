-- A user on a host has one list of host groups, and one runas_default.
use Rattle.sudoers_match.proofs.Common.{ArePlacesOfMatchingHostGroups, HoldsHostGroupPlaceIfHostsMatch, AreMatchingHostGroupPlacesOfSpec, HostGroup, HostGroupPlace, IsRunasDefault, IsScopeForUserOnHost, Line, List, Option, Scope, UserSpec, Who, ap}
use Rattle.sudoers_match.proofs.Common.{inl, inr, runas_defaults_of_lines, runas_name_or_root, sym, user_specs_of_lines, ℕ, ◌∙◌, ◌≡◌}
use Rattle.sudoers_match.proofs.Lasts.{last_one}
use Rattle.sudoers_match.proofs.OneAnswer.{concatenation_of_unique_parts_is_unique}

module _ (lines : List Line) (who : Who) where
  group_one : (i j : ℕ) (g : HostGroup) (ps qs : List HostGroupPlace) → HoldsHostGroupPlaceIfHostsMatch lines who i j g ps → HoldsHostGroupPlaceIfHostsMatch lines who i j g qs → ps ≡ qs
  group_one i j g ps qs (inl a) (inl b) = a.1 ∙ sym b.1
  group_one i j g ps qs (inl a) (inr b) = absurd (b.0 a.0)
  group_one i j g ps qs (inr a) (inl b) = absurd (a.0 b.0)
  group_one i j g ps qs (inr a) (inr b) = a.1 ∙ sym b.1

  spec_one : (i : ℕ) (s : UserSpec) (ps qs : List HostGroupPlace) → AreMatchingHostGroupPlacesOfSpec lines who i s ps → AreMatchingHostGroupPlacesOfSpec lines who i s qs → ps ≡ qs
  spec_one i s ps qs (inl a) (inl b) = concatenation_of_unique_parts_is_unique (HoldsHostGroupPlaceIfHostsMatch lines who i) (group_one i) 0 s.groups ps qs a.1 b.1
  spec_one i s ps qs (inl a) (inr b) = absurd (b.0 a.0)
  spec_one i s ps qs (inr a) (inl b) = absurd (a.0 b.0)
  spec_one i s ps qs (inr a) (inr b) = a.1 ∙ sym b.1

  pub places_one : (ps qs : List HostGroupPlace) → ArePlacesOfMatchingHostGroups lines who ps → ArePlacesOfMatchingHostGroups lines who qs → ps ≡ qs
  places_one ps qs a b = concatenation_of_unique_parts_is_unique (AreMatchingHostGroupPlacesOfSpec lines who) spec_one 0 (user_specs_of_lines lines) ps qs a b

  pub default_one : (name other : List ℕ) → IsRunasDefault lines who name → IsRunasDefault lines who other → name ≡ other
  default_one name other a b =
      a.says ∙ ap runas_name_or_root (last_one (λ (s : Option Scope × List ℕ). IsScopeForUserOnHost lines who s.0) (runas_defaults_of_lines lines) a.last b.last a.is_last b.is_last) ∙ sym b.says
