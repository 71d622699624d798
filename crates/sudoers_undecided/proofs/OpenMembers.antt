-- Lines none of whose members is open.
use Rattle.std.proofs.Common.{◌≡◌, inl, inr, ◌||◌, ◌+◌, ℕ, suc, Bool, true, false, List, [], ◌∷◌, map, Option, Some, None, refl, sym, ap, subst, ◌∙◌}
use Rattle.std.proofs.lemmas.List.Folds.{list_any-append}
use Rattle.std.specs.List.{AllByRecursion, cons_option, list_any}
use Rattle.std.specs.Option.{option_or}
use Rattle.sudoers_grammar.specs.declared.node.Kind.{Kind}
use Rattle.sudoers_grammar.specs.declared.node.Kind.TheVariants.{Cmnd}
use Rattle.sudoers_grammar.specs.Node.{CmdSpec, Def, HostGroup, Member, Node, RunasSpec, Scope}
use Rattle.sudoers_grammar.specs.Node as node
use Rattle.sudoers_tree.specs.Definition.{PlacedDefinition, definitions_from_line_number, definitions_from_place, definitions_in_line}
use Rattle.sudoers_tree.specs.Line.{Line}
use Rattle.sudoers_check.specs.Chain.{ListHasElement}
use Rattle.sudoers_check.proofs.Named.{element_of_appended_is_in_either}
use Rattle.sudoers_match_member.specs.declared.people_and_commands.CommandLine.{CommandLine}
use Rattle.sudoers_match_member.specs.declared.people_and_commands.Who.{Who}
use Rattle.sudoers_match_list.specs.Flat.{IsFlatListOf, SignedAtom, none, one, many, signed_atom_under_negation}
use Rattle.sudoers_match_list.proofs.Defined.{atom_with_alias_members_is_of_definition}
use Rattle.sudoers_match.specs.Default.{runas_defaults_in_node, runas_defaults_of_lines, setting_with_scope}
use Rattle.sudoers_match.specs.Heads.{AccumulatedCommandSettings, commands_with_settings, empty_command_settings, settings_after_command}
use Rattle.sudoers_match.specs.Rows.{AreRowsPerFlatAtomOfCommand, AreRowsPerFlatAtomOfHostGroup, AreRowsPerFlatAtomOfPolicy, AreRowsPerFlatAtomOfSpec, PrivilegeRow, privilege_row_of}
use Rattle.sudoers_match.specs.Specs.{IsConcatenationOfParts, UserSpec, user_spec_in_node, user_specs_of_lines}
use Rattle.sudoers_match.proofs.Lasts.{all_append}
use Rattle.sudoers_undecided.specs.internal.Open.{is_atom_open, is_command_open, is_definition_open, is_host_group_open, is_line_open, is_list_open, is_member_open, is_node_open, is_runas_open, is_scope_open, is_user_spec_open}

-- ---- tests that hold of nothing

pub both_are_false : (a b : Bool) → (a || b) ≡ false → (a ≡ false) × (b ≡ false)
both_are_false true b e = absurd cc
both_are_false false b e = (refl, e)

pub neither_is_true : (a b : Bool) → a ≡ false → b ≡ false → (a || b) ≡ false
neither_is_true a b e f = ap (λ x. x || b) e ∙ f

pub holds_of_no_element : {X : Type 0} (p : X → Bool) (xs : List X) → list_any p xs ≡ false → (x : X) → ListHasElement xs x → p x ≡ false
holds_of_no_element p [] fails x h = absurd h
holds_of_no_element p (y ∷ ys) fails x (inl e) = subst (λ z. p z ≡ false) e (both_are_false (p y) (list_any p ys) fails).0
holds_of_no_element p (y ∷ ys) fails x (inr h) = holds_of_no_element p ys (both_are_false (p y) (list_any p ys) fails).1 x h

-- what holds of the parts of all things of which a test does not hold
all_of_parts : {X : Type 0} (Part : ℕ → X → List PrivilegeRow → Type 0) (Q : PrivilegeRow → Type 0) (p : X → Bool)
    → ((i : ℕ) (x : X) (rows : List PrivilegeRow) → p x ≡ false → Part i x rows → AllByRecursion Q rows)
    → (i : ℕ) (xs : List X) (rows : List PrivilegeRow) → list_any p xs ≡ false → IsConcatenationOfParts Part i xs rows → AllByRecursion Q rows
all_of_parts Part Q p each i [] rows fails j = subst (AllByRecursion Q) (sym j) tt
all_of_parts Part Q p each i (x ∷ xs) rows fails j =
    let two = both_are_false (p x) (list_any p xs) fails in
    subst (AllByRecursion Q) (sym j.2) (all_append Q j.0 j.1 (each i x j.0 two.0 j.3) (all_of_parts Part Q p each (suc i) xs j.1 two.1 j.4))

-- the setting has this scope
scope_of_setting : (scope : Option Scope) (names : List (List ℕ)) (x : Option Scope × List ℕ) → ListHasElement (map (setting_with_scope scope) names) x → scope ≡ x.0
scope_of_setting scope [] x h = absurd h
scope_of_setting scope (name ∷ names) x (inl e) = ap (λ (y : Option Scope × List ℕ). y.0) e
scope_of_setting scope (name ∷ names) x (inr h) = scope_of_setting scope names x h

-- None of the members is open of which the row is made.
pub record IsRowClosed (who : Who) (c : CommandLine) (row : PrivilegeRow) : Type 0 where
  pub users : is_list_open who c row.users ≡ false
  pub hosts : is_list_open who c row.hosts ≡ false
  pub runas : is_runas_open who c row.head.runas ≡ false
  pub atom : is_atom_open who c row.atom ≡ false

module _ (who : Who) (c : CommandLine) where
  abbrev IsClosed : List Member → Type 0
  IsClosed ms = is_list_open who c ms ≡ false

  -- ---- definitions

  placed_definition_is_closed : (k : Kind) (line n : ℕ) (ds : List Def) → list_any (is_definition_open who c) ds ≡ false → (d : PlacedDefinition) → ListHasElement (definitions_from_place k line n ds) d → IsClosed d.def.members
  placed_definition_is_closed k line n [] not_open d h = absurd h
  placed_definition_is_closed k line n (x ∷ ds) not_open d (inl e) = subst (λ (y : PlacedDefinition). IsClosed y.def.members) e (both_are_false (is_definition_open who c x) (list_any (is_definition_open who c) ds) not_open).0
  placed_definition_is_closed k line n (x ∷ ds) not_open d (inr h) = placed_definition_is_closed k line (n + 1) ds (both_are_false (is_definition_open who c x) (list_any (is_definition_open who c) ds) not_open).1 d h

  definition_in_line_is_closed : (n : ℕ) (says : Node) → is_node_open who c says ≡ false → (d : PlacedDefinition) → ListHasElement (definitions_in_line n says) d → IsClosed d.def.members
  definition_in_line_is_closed n (node.Alias k defs) not_open d h = placed_definition_is_closed k n 0 defs not_open d h
  definition_in_line_is_closed n (node.Defaults scope params) not_open d h = absurd h
  definition_in_line_is_closed n (node.Spec users groups) not_open d h = absurd h
  definition_in_line_is_closed n node.Blank not_open d h = absurd h
  definition_in_line_is_closed n node.Comment not_open d h = absurd h
  definition_in_line_is_closed n (node.Include dir path) not_open d h = absurd h

  definition_is_closed : (n : ℕ) (lines : List Line) → list_any (is_line_open who c) lines ≡ false → (d : PlacedDefinition) → ListHasElement (definitions_from_line_number n lines) d → IsClosed d.def.members
  definition_is_closed n [] not_open d h = absurd h
  definition_is_closed n (line ∷ lines) not_open d h =
      let two = both_are_false (is_line_open who c line) (list_any (is_line_open who c) lines) not_open in
      elim (element_of_appended_is_in_either (definitions_in_line n line.node) (definitions_from_line_number (n + 1) lines) d h) as (λ _. IsClosed d.def.members) [
        | inl here ↦ definition_in_line_is_closed n line.node two.0 d here
        | inr there ↦ definition_is_closed (n + 1) lines two.1 d there
      ]

  -- ---- scopes of settings

  scope_in_line_is_closed : (says : Node) → is_node_open who c says ≡ false → (x : Option Scope × List ℕ) → ListHasElement (runas_defaults_in_node says) x → is_scope_open who c x.0 ≡ false
  scope_in_line_is_closed (node.Defaults scope params) not_open x h = subst (λ o. is_scope_open who c o ≡ false) (scope_of_setting scope _ x h) not_open
  scope_in_line_is_closed (node.Alias k defs) not_open x h = absurd h
  scope_in_line_is_closed (node.Spec users groups) not_open x h = absurd h
  scope_in_line_is_closed node.Blank not_open x h = absurd h
  scope_in_line_is_closed node.Comment not_open x h = absurd h
  scope_in_line_is_closed (node.Include dir path) not_open x h = absurd h

  pub scope_is_closed : (lines : List Line) → list_any (is_line_open who c) lines ≡ false → (x : Option Scope × List ℕ) → ListHasElement (runas_defaults_of_lines lines) x → is_scope_open who c x.0 ≡ false
  scope_is_closed [] not_open x h = absurd h
  scope_is_closed (line ∷ lines) not_open x h =
      let two = both_are_false (is_line_open who c line) (list_any (is_line_open who c) lines) not_open in
      elim (element_of_appended_is_in_either (runas_defaults_in_node line.node) (runas_defaults_of_lines lines) x h) as (λ _. is_scope_open who c x.0 ≡ false) [
        | inl here ↦ scope_in_line_is_closed line.node two.0 x here
        | inr there ↦ scope_is_closed lines two.1 x there
      ]

  -- ---- user specifications and their commands

  abbrev is_spec_open : UserSpec → Bool
  is_spec_open s = is_user_spec_open who c s.users s.groups

  specs_are_closed : (lines : List Line) → list_any (is_line_open who c) lines ≡ false → list_any is_spec_open (user_specs_of_lines lines) ≡ false
  specs_are_closed [] not_open = refl
  specs_are_closed (line ∷ lines) not_open =
      let two = both_are_false (is_line_open who c line) (list_any (is_line_open who c) lines) not_open in
      by line.node two.0 (user_specs_of_lines lines) (specs_are_closed lines two.1)
    where
      by : (says : Node) → is_node_open who c says ≡ false → (rest : List UserSpec) → list_any is_spec_open rest ≡ false → list_any is_spec_open (cons_option (user_spec_in_node says) rest) ≡ false
      by (node.Spec users groups) e rest f = neither_is_true (is_user_spec_open who c users groups) (list_any is_spec_open rest) e f
      by (node.Defaults scope params) e rest f = f
      by (node.Alias k defs) e rest f = f
      by node.Blank e rest f = f
      by node.Comment e rest f = f
      by (node.Include dir path) e rest f = f

  abbrev is_command_with_settings_open : AccumulatedCommandSettings × Member → Bool
  is_command_with_settings_open x = is_runas_open who c x.0.runas || is_member_open who c x.1

  inherited_runas_is_closed : (o h : Option RunasSpec) → is_runas_open who c o ≡ false → is_runas_open who c h ≡ false → is_runas_open who c (option_or o h) ≡ false
  inherited_runas_is_closed None h e f = f
  inherited_runas_is_closed (Some x) h e f = e

  commands_are_closed : (h : AccumulatedCommandSettings) (cs : List CmdSpec) → is_runas_open who c h.runas ≡ false → list_any (is_command_open who c) cs ≡ false
      → list_any is_command_with_settings_open (commands_with_settings h cs) ≡ false
  commands_are_closed h [] e not_open = refl
  commands_are_closed h (x ∷ cs) e not_open =
      let two = both_are_false (is_command_open who c x) (list_any (is_command_open who c) cs) not_open in
      let parts = both_are_false (is_runas_open who c x.runas) (is_member_open who c x.member) two.0 in
      let next = settings_after_command h x in
      let runas = inherited_runas_is_closed x.runas h.runas parts.0 e in
      neither_is_true (is_command_with_settings_open (next, x.member)) (list_any is_command_with_settings_open (commands_with_settings next cs))
      (neither_is_true (is_runas_open who c next.runas) (is_member_open who c x.member) runas parts.1) (commands_are_closed next cs runas two.1)

  -- ---- flat lists

  closed_under_negation : (n : Bool) (flat : List SignedAtom) → list_any (is_atom_open who c) flat ≡ false → list_any (is_atom_open who c) (map (signed_atom_under_negation n) flat) ≡ false
  closed_under_negation n [] not_open = refl
  closed_under_negation n (s ∷ flat) not_open =
      let two = both_are_false (is_atom_open who c s) (list_any (is_atom_open who c) flat) not_open in
      neither_is_true (is_atom_open who c s) (list_any (is_atom_open who c) (map (signed_atom_under_negation n) flat)) two.0 (closed_under_negation n flat two.1)

  module _ (lines : List Line) (closed : list_any (is_line_open who c) lines ≡ false) where
    pub flat_list_is_closed : (k : Kind) (ms : List Member) (flat : List SignedAtom) → IsFlatListOf k lines ms flat → IsClosed ms → list_any (is_atom_open who c) flat ≡ false
    flat_list_is_closed k ms flat none not_open = refl
    flat_list_is_closed k ms flat (one m rest fs a f) not_open =
        let two = both_are_false (is_member_open who c m) (is_list_open who c rest) not_open in
        neither_is_true (is_member_open who c m) (list_any (is_atom_open who c) fs) two.0 (flat_list_is_closed k rest fs f two.1)
    flat_list_is_closed k ms flat (many m rest members inner fs a i f) not_open =
        let two = both_are_false (is_member_open who c m) (is_list_open who c rest) not_open in
        let d = atom_with_alias_members_is_of_definition k lines m.atom members a in
        let inside = flat_list_is_closed k members inner i (subst IsClosed d.members (definition_is_closed 0 lines closed d.by d.stands)) in
        let turned = map (signed_atom_under_negation m.negated) inner in
        list_any-append (is_atom_open who c) turned fs
        ∙ neither_is_true (list_any (is_atom_open who c) turned) (list_any (is_atom_open who c) fs) (closed_under_negation m.negated inner inside) (flat_list_is_closed k rest fs f two.1)

    -- ---- rows

    rows_of_flat_list_are_closed : (i j : ℕ) (users hosts : List Member) (k : ℕ) (head : AccumulatedCommandSettings) → IsClosed users → IsClosed hosts → is_runas_open who c head.runas ≡ false
        → (flat : List SignedAtom) → list_any (is_atom_open who c) flat ≡ false → AllByRecursion (IsRowClosed who c) (map (privilege_row_of i j users hosts k head) flat)
    rows_of_flat_list_are_closed i j users hosts k head u h e [] not_open = tt
    rows_of_flat_list_are_closed i j users hosts k head u h e (s ∷ flat) not_open =
        let two = both_are_false (is_atom_open who c s) (list_any (is_atom_open who c) flat) not_open in
        (record { users = u; hosts = h; runas = e; atom = two.0 }, rows_of_flat_list_are_closed i j users hosts k head u h e flat two.1)

    rows_of_command_are_closed : (i j : ℕ) (users hosts : List Member) → IsClosed users → IsClosed hosts → (k : ℕ) (x : AccumulatedCommandSettings × Member) (rows : List PrivilegeRow)
        → is_command_with_settings_open x ≡ false → AreRowsPerFlatAtomOfCommand lines i j users hosts k x rows → AllByRecursion (IsRowClosed who c) rows
    rows_of_command_are_closed i j users hosts u h k x rows not_open p =
        let two = both_are_false (is_runas_open who c x.0.runas) (is_member_open who c x.1) not_open in
        let alone : IsClosed (x.1 ∷ []) = neither_is_true (is_member_open who c x.1) false two.1 refl in
        subst (AllByRecursion (IsRowClosed who c)) (sym p.2) (rows_of_flat_list_are_closed i j users hosts k x.0 u h two.0 p.0 (flat_list_is_closed Cmnd (x.1 ∷ []) p.0 p.1 alone))

    rows_of_host_group_are_closed : (i : ℕ) (users : List Member) → IsClosed users → (j : ℕ) (g : HostGroup) (rows : List PrivilegeRow)
        → is_host_group_open who c g ≡ false → AreRowsPerFlatAtomOfHostGroup lines i users j g rows → AllByRecursion (IsRowClosed who c) rows
    rows_of_host_group_are_closed i users u j g rows not_open p =
        let two = both_are_false (is_list_open who c g.hosts) (list_any (is_command_open who c) g.commands) not_open in
        all_of_parts (AreRowsPerFlatAtomOfCommand lines i j users g.hosts) (IsRowClosed who c) is_command_with_settings_open
        (rows_of_command_are_closed i j users g.hosts u two.0) 0 (commands_with_settings empty_command_settings g.commands) rows (commands_are_closed empty_command_settings g.commands refl two.1) p

    rows_of_spec_are_closed : (i : ℕ) (s : UserSpec) (rows : List PrivilegeRow) → is_spec_open s ≡ false → AreRowsPerFlatAtomOfSpec lines i s rows → AllByRecursion (IsRowClosed who c) rows
    rows_of_spec_are_closed i s rows not_open p =
        let two = both_are_false (is_list_open who c s.users) (list_any (is_host_group_open who c) s.groups) not_open in
        all_of_parts (AreRowsPerFlatAtomOfHostGroup lines i s.users) (IsRowClosed who c) (is_host_group_open who c)
        (rows_of_host_group_are_closed i s.users two.0) 0 s.groups rows two.1 p

    pub rows_of_policy_are_closed : (rows : List PrivilegeRow) → AreRowsPerFlatAtomOfPolicy lines rows → AllByRecursion (IsRowClosed who c) rows
    rows_of_policy_are_closed rows p =
        all_of_parts (AreRowsPerFlatAtomOfSpec lines) (IsRowClosed who c) is_spec_open rows_of_spec_are_closed 0 (user_specs_of_lines lines) rows (specs_are_closed lines closed) p
