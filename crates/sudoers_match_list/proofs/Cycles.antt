-- Chains of aliases, and that there is no flat list of a list that leads to a cyclic one.
use Rattle.sudoers_match_list.proofs.Common.{Atom, HasAliasAsMember, IsAliasCyclic, IsFlatListOf, IsReachedByChainOfSteps, Kind, LeadsToAliasInAnySteps, Line, List, ListHasElement, ListLeadsToAliasCycle, Member, None}
use Rattle.sudoers_match_list.proofs.Common.{SignedAtom, Some, [], alias_names_among_members, alias_names_of_atom, alias_number_of_atom, alias_numbers_in_list, ap, cons_option, definitions_of_lines, here, inl, inr}
use Rattle.sudoers_match_list.proofs.Common.{many, none, numbers_of_defined_names, one, onward, refl, subst, sym, ℕ, ◌++◌, ◌∷◌, ◌≡◌, ◌⊎◌}
use Rattle.sudoers_grammar.specs.declared.node.Atom.TheVariants as atom
use Rattle.sudoers_match_list.proofs.Numbered.{none_number, some_number}

module _ (kd : Kind) (lines : List Line) where
  -- the aliases of a list with a member more at its front
  pub front_none : (m : Member) (ms : List Member) → alias_number_of_atom kd lines m.atom ≡ None → alias_numbers_in_list kd lines (m ∷ ms) ≡ alias_numbers_in_list kd lines ms
  front_none m ms e = by m.atom e
    where
      by : (a : Atom) → alias_number_of_atom kd lines a ≡ None → numbers_of_defined_names kd (alias_names_of_atom a ++ alias_names_among_members ms) (definitions_of_lines lines) ≡ alias_numbers_in_list kd lines ms
      by (atom.Alias name) e = ap (λ o. cons_option o (alias_numbers_in_list kd lines ms)) e
      by atom.All e = refl
      by (atom.Name name) e = refl
      by (atom.Id i) e = refl
      by (atom.Group name) e = refl
      by (atom.GroupId i) e = refl
      by (atom.NonUnix name) e = refl
      by (atom.Netgroup name) e = refl
      by (atom.Host name) e = refl
      by (atom.Address a) e = refl
      by (atom.Network a m) e = refl
      by atom.Listing e = refl
      by (atom.Path p a) e = refl
      by (atom.Sudoedit a) e = refl

  pub front_some : (m : Member) (ms : List Member) (k : ℕ) → alias_number_of_atom kd lines m.atom ≡ Some k → alias_numbers_in_list kd lines (m ∷ ms) ≡ k ∷ alias_numbers_in_list kd lines ms
  front_some m ms k e = by m.atom e
    where
      by : (a : Atom) → alias_number_of_atom kd lines a ≡ Some k → numbers_of_defined_names kd (alias_names_of_atom a ++ alias_names_among_members ms) (definitions_of_lines lines) ≡ k ∷ alias_numbers_in_list kd lines ms
      by (atom.Alias name) e = ap (λ o. cons_option o (alias_numbers_in_list kd lines ms)) e
      by atom.All e = absurd cc
      by (atom.Name name) e = absurd cc
      by (atom.Id i) e = absurd cc
      by (atom.Group name) e = absurd cc
      by (atom.GroupId i) e = absurd cc
      by (atom.NonUnix name) e = absurd cc
      by (atom.Netgroup name) e = absurd cc
      by (atom.Host name) e = absurd cc
      by (atom.Address a) e = absurd cc
      by (atom.Network a m) e = absurd cc
      by atom.Listing e = absurd cc
      by (atom.Path p a) e = absurd cc
      by (atom.Sudoedit a) e = absurd cc

  abbrev From : List ℕ → ℕ → Type 0
  From ks = IsReachedByChainOfSteps (HasAliasAsMember kd lines) (ListHasElement ks)

  -- a chain from several comes from the first or from the others
  first_or_others : (k : ℕ) (ks : List ℕ) (x : ℕ) → From (k ∷ ks) x → (k ≡ x) ⊎ (IsReachedByChainOfSteps (HasAliasAsMember kd lines) (HasAliasAsMember kd lines k) x ⊎ From ks x)
  first_or_others k ks x (here y (inl e)) = inl e
  first_or_others k ks x (here y (inr h)) = inr (inr (here y h))
  first_or_others k ks x (onward y z c s) = elim (first_or_others k ks y c) [
    | inl e ↦ inr (inl (here z (subst (λ u. HasAliasAsMember kd lines u z) (sym e) s)))
    | inr h ↦ elim h [ inl d ↦ inr (inl (onward y z d s)) | inr d ↦ inr (inr (onward y z d s)) ]
  ]

  no_chain : (x : ℕ) → From [] x → ⊥
  no_chain x (here y h) = elim h [ ]
  no_chain x (onward y z c s) = no_chain y c

  -- Nothing that a list with a flat list leads to is cyclic.
  pub none_cyclic : (ms : List Member) (fs : List SignedAtom) → IsFlatListOf kd lines ms fs → (x : ℕ) → From (alias_numbers_in_list kd lines ms) x → IsAliasCyclic kd lines x → ⊥
  none_cyclic ms fs none x c cyclic = no_chain x c
  none_cyclic ms fs (one m rest more e f) x c cyclic =
      none_cyclic rest more f x (subst (λ ks. From ks x) (front_none m rest (none_number kd lines m.atom e)) c) cyclic
  none_cyclic ms fs (many m rest members inner more e i f) x c cyclic =
      let number = some_number kd lines m.atom members e in
      let k = number.0 in
      elim (first_or_others k (alias_numbers_in_list kd lines rest) x (subst (λ ks. From ks x) (front_some m rest k number.1) c)) [
        | inl same ↦ none_cyclic members inner i x (subst (λ xs. From (alias_numbers_in_list kd lines xs) x) (sym number.2) (subst (λ u. IsReachedByChainOfSteps (HasAliasAsMember kd lines) (HasAliasAsMember kd lines u) x) (sym same) cyclic)) cyclic
        | inr h ↦ elim h [
          | inl d ↦ none_cyclic members inner i x (subst (λ xs. From (alias_numbers_in_list kd lines xs) x) (sym number.2) d) cyclic
          | inr d ↦ none_cyclic rest more f x d cyclic
        ]
      ]

  pub not_to_cycle : (ms : List Member) (fs : List SignedAtom) → IsFlatListOf kd lines ms fs → ListLeadsToAliasCycle kd lines ms → ⊥
  not_to_cycle ms fs f l = none_cyclic ms fs f l.alias l.reached l.cyclic

  -- ---- ways

  pub path_on : (P : ℕ → Type 0) (v w : ℕ) → IsReachedByChainOfSteps (HasAliasAsMember kd lines) P v → LeadsToAliasInAnySteps kd lines v w → IsReachedByChainOfSteps (HasAliasAsMember kd lines) P w
  path_on P v w c (here x e) = subst (IsReachedByChainOfSteps (HasAliasAsMember kd lines) P) e c
  path_on P v w c (onward x y p s) = onward x y (path_on P v x c p) s

  pub from_path : (P : ℕ → Type 0) (v w : ℕ) → P v → LeadsToAliasInAnySteps kd lines v w → IsReachedByChainOfSteps (HasAliasAsMember kd lines) P w
  from_path P v w p c = path_on P v w (here v p) c

  pub same_path : (v : ℕ) → LeadsToAliasInAnySteps kd lines v v
  same_path v = here v refl

  -- a way to an alias that leads back closes a cycle
  pub closes : (v w : ℕ) → LeadsToAliasInAnySteps kd lines v w → HasAliasAsMember kd lines w v → IsAliasCyclic kd lines w
  closes v w p s = from_path (HasAliasAsMember kd lines w) v w s p
