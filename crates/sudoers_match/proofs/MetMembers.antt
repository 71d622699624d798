-- Members to whose aliases chains of mentions lead from user specifications and Defaults lines.
use Rattle.sudoers_match.proofs.Common.{AllByRecursion, Atom, IsReachedFromSpecOrDefaults, Kind, Line, List, ListHasElement, Member, Some, [], alias_members_of_atom, alias_names_among_members, alias_names_of_atom, inl, inr, onward}
use Rattle.sudoers_match.proofs.Common.{refl, subst, ◌++◌, ◌∷◌, ◌≡◌}
use Rattle.sudoers_match_list.proofs.Defined.{atom_with_alias_members_is_of_definition}
use Rattle.sudoers_match.proofs.Lasts.{all_append}

-- ---- all of a list

module _ {X : Type 0} (P : X → Type 0) where
  pub left_of : (xs ys : List X) → AllByRecursion P (xs ++ ys) → AllByRecursion P xs
  left_of [] ys all = tt
  left_of (x ∷ xs) ys all = (all.0, left_of xs ys all.1)

  pub right_of : (xs ys : List X) → AllByRecursion P (xs ++ ys) → AllByRecursion P ys
  right_of [] ys all = all
  right_of (x ∷ xs) ys all = right_of xs ys all.1

  pub of_has : (xs : List X) → ((x : X) → ListHasElement xs x → P x) → AllByRecursion P xs
  of_has [] each = tt
  of_has (x ∷ xs) each = (each x (inl refl), of_has xs (λ y h. each y (inr h)))

module _ (lines : List Line) where
  -- Chains of mentions lead to the names of the member.
  abbrev pub IsMet : Kind → Member → Type 0
  IsMet k m = AllByRecursion (IsReachedFromSpecOrDefaults k lines) (alias_names_of_atom m.atom)

  abbrev pub AreMet : Kind → List Member → Type 0
  AreMet k ms = AllByRecursion (IsMet k) ms

  pub names_met : (k : Kind) (ms : List Member) → AreMet k ms → AllByRecursion (IsReachedFromSpecOrDefaults k lines) (alias_names_among_members ms)
  names_met k [] all = tt
  names_met k (m ∷ ms) all = all_append (IsReachedFromSpecOrDefaults k lines) (alias_names_of_atom m.atom) (alias_names_among_members ms) all.0 (names_met k ms all.1)

  pub met_names : (k : Kind) (ms : List Member) → AllByRecursion (IsReachedFromSpecOrDefaults k lines) (alias_names_among_members ms) → AreMet k ms
  met_names k [] all = tt
  met_names k (m ∷ ms) all =
      (left_of (IsReachedFromSpecOrDefaults k lines) (alias_names_of_atom m.atom) (alias_names_among_members ms) all, met_names k ms (right_of (IsReachedFromSpecOrDefaults k lines) (alias_names_of_atom m.atom) (alias_names_among_members ms) all))

  -- ---- members of aliases

  pub of_alias : (k : Kind) (a : Atom) → AllByRecursion (IsReachedFromSpecOrDefaults k lines) (alias_names_of_atom a) → (ms : List Member) → alias_members_of_atom k lines a ≡ Some ms → AreMet k ms
  of_alias k a met ms e =
      let d = atom_with_alias_members_is_of_definition k lines a ms e in
      let reached = subst (λ b. AllByRecursion (IsReachedFromSpecOrDefaults k lines) (alias_names_of_atom b)) d.is met in
      subst (AreMet k) d.members (met_names k d.by.def.members (of_has (IsReachedFromSpecOrDefaults k lines) (alias_names_among_members d.by.def.members) (λ x h.
      onward d.name x reached.0 (record { by = d.by; stands = d.stands; of_kind = d.of_kind; of_name = d.of_name; mentions = h }))))
