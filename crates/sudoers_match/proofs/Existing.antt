-- The rows of a policy none of whose reachable aliases is cyclic.
use Rattle.sudoers_match.proofs.Common.{AreRowsPerFlatAtomOfCommand, AreRowsPerFlatAtomOfHostGroup, AreRowsPerFlatAtomOfPolicy, AreRowsPerFlatAtomOfSpec, CmdSpec, Cmnd, CommandLeadsToNoCycle, HasCyclicAliasReachedFromSpecOrDefaults, IsConcatenationOfParts, IsFlatListOf, Kind, Line}
use Rattle.sudoers_match.proofs.Common.{List, ListHasElement, ListLeadsToCyclicAlias, Member, Node, None, Option, PrivilegeRow, AccumulatedCommandSettings, SignedAtom, Some, UserSpec, [], ap, commands_with_settings}
use Rattle.sudoers_match.proofs.Common.{cons_option, empty_command_settings, filter_map, inl, inr, map, privilege_row_of, refl, settings_after_command, suc, user_spec_in_node, user_specs_of_lines, ℕ, ◌++◌, ◌∙◌, ◌∷◌}
use Rattle.sudoers_match.proofs.Common.{◌≡◌, ◌⊎◌}
use Rattle.sudoers_grammar.specs.Node as node
use Rattle.sudoers_match.proofs.Reached.{groups_straight}

filter_map_element_is_of_some_element : {X Y : Type 0} (f : X → Option Y) (xs : List X) (y : Y) → ListHasElement (filter_map f xs) y → (x : X) × ListHasElement xs x × (f x ≡ Some y)
filter_map_element_is_of_some_element f [] y h = absurd h
filter_map_element_is_of_some_element {X} {Y} f (x ∷ xs) y h = by (filter_map_element_is_of_some_element f xs y) (f x) refl h
  where
    by : (ListHasElement (filter_map f xs) y → (z : X) × ListHasElement xs z × (f z ≡ Some y)) → (o : Option Y) → f x ≡ o → ListHasElement (cons_option o (filter_map f xs)) y → (z : X) × ListHasElement (x ∷ xs) z × (f z ≡ Some y)
    by more None e h = let w = more h in (w.0, inr w.1, w.2)
    by more (Some z) e (inl s) = (x, inl refl, e ∙ ap Some s)
    by more (Some z) e (inr h) = let w = more h in (w.0, inr w.1, w.2)

pub node_with_user_spec_is_spec_node : (n : Node) (s : UserSpec) → user_spec_in_node n ≡ Some s → n ≡ node.Spec s.users s.groups
node_with_user_spec_is_spec_node (node.Spec users groups) s e =
    let same : record { users = users; groups = groups } ≡ s = cc in
    ap (λ (x : UserSpec). node.Spec x.users x.groups) same
node_with_user_spec_is_spec_node (node.Defaults scope params) s e = absurd cc
node_with_user_spec_is_spec_node (node.Alias k defs) s e = absurd cc
node_with_user_spec_is_spec_node node.Blank s e = absurd cc
node_with_user_spec_is_spec_node node.Comment s e = absurd cc
node_with_user_spec_is_spec_node (node.Include dir path) s e = absurd cc

parts_of_all_have_a_concatenation : {X Y : Type 0} (Part : ℕ → X → List Y → Type 0) (xs : List X) → ((i : ℕ) (x : X) → ListHasElement xs x → (ys : List Y) × Part i x ys)
    → (i : ℕ) → (ys : List Y) × IsConcatenationOfParts Part i xs ys
parts_of_all_have_a_concatenation Part [] each i = ([], refl)
parts_of_all_have_a_concatenation Part (x ∷ xs) each i =
    let first = each i x (inl refl) in
    let rest = parts_of_all_have_a_concatenation Part xs (λ n z h. each n z (inr h)) (suc i) in
    (first.0 ++ rest.0, (first.0, rest.0, refl, first.1, rest.1))

module _ (flat_or_cycle : (k : Kind) (lines : List Line) (ms : List Member) → ((fs : List SignedAtom) × IsFlatListOf k lines ms fs) ⊎ ListLeadsToCyclicAlias k lines ms) (lines : List Line) where
  command_some : (i j : ℕ) (users hosts : List Member) (k : ℕ) (head : AccumulatedCommandSettings) (c : CmdSpec) → CommandLeadsToNoCycle lines c
      → (rows : List PrivilegeRow) × AreRowsPerFlatAtomOfCommand lines i j users hosts k (head, c.member) rows
  command_some i j users hosts k head c straight = elim (flat_or_cycle Cmnd lines (c.member ∷ [])) as (λ _. (rows : List PrivilegeRow) × AreRowsPerFlatAtomOfCommand lines i j users hosts k (head, c.member) rows) [
    | inl f ↦ (map (privilege_row_of i j users hosts k head) f.0, (f.0, f.1, refl))
    | inr l ↦ absurd (straight.member l)
  ]

  commands_some : (i j : ℕ) (users hosts : List Member) (cs : List CmdSpec) → ((c : CmdSpec) → ListHasElement cs c → CommandLeadsToNoCycle lines c)
      → (head : AccumulatedCommandSettings) (k : ℕ) → (rows : List PrivilegeRow) × IsConcatenationOfParts (AreRowsPerFlatAtomOfCommand lines i j users hosts) k (commands_with_settings head cs) rows
  commands_some i j users hosts [] straight head k = ([], refl)
  commands_some i j users hosts (c ∷ cs) straight head k =
      let first = command_some i j users hosts k (settings_after_command head c) c (straight c (inl refl)) in
      let rest = commands_some i j users hosts cs (λ d h. straight d (inr h)) (settings_after_command head c) (suc k) in
      (first.0 ++ rest.0, (first.0, rest.0, refl, first.1, rest.1))

  pub some_rows : (HasCyclicAliasReachedFromSpecOrDefaults lines → ⊥) → (rows : List PrivilegeRow) × AreRowsPerFlatAtomOfPolicy lines rows
  some_rows straight = parts_of_all_have_a_concatenation (AreRowsPerFlatAtomOfSpec lines) (user_specs_of_lines lines) (λ i s h.
      let w = filter_map_element_is_of_some_element (λ (line : Line). user_spec_in_node line.node) lines s h in
      parts_of_all_have_a_concatenation (AreRowsPerFlatAtomOfHostGroup lines i s.users) s.groups (λ j g there.
      commands_some i j s.users g.hosts g.commands (groups_straight lines straight w.0 w.1 s.users s.groups (node_with_user_spec_is_spec_node w.0.node s w.2) g there).commands empty_command_settings 0) 0) 0
