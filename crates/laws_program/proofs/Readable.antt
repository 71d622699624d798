-- What is read can be written with its aliases replaced.
use Rattle.laws_program.proofs.Common.{◌≡◌, ℕ, zero, suc, ◌+◌, Bool, List, [], ◌∷◌, ◌++◌, length, map, Option, Some, None, refl, ap, subst, AllByRecursion}
use Rattle.laws_program.proofs.Common.{flat_map, Kind, User, Runas, Host, Cmnd, Atom, Member, Def, RunasSpec, CmdSpec, HostGroup, Scope, Node, Line, PlacedDefinition}
use Rattle.laws_program.proofs.Common.{definitions_from_place, definitions_in_line, definitions_from_line_number, definitions_of_lines, AreWalkLinesWithoutNul, alias_members_of_atom, member_under_negation, member_or_alias_members}
use Rattle.laws_program.proofs.Common.{list_with_aliases_expanded_once, list_expanded_n_times, fully_expanded_list, all_append, IsNonEmptyListOf, IsWritableMemberOfKind, IsWritableDefinition, IsWritableRunasSpec, IsWritableOption}
use Rattle.laws_program.proofs.Common.{IsWritableCommand, IsWritableHostGroup, IsReadableNode, expanded_runas_spec, command_with_runas_and_member, commands_of_expanded_command, expanded_host_group, expanded_scope_list, expanded_scope}
use Rattle.laws_program.proofs.Common.{expanded_node, lines_with_aliases_replaced}
use Rattle.std.specs.Option.{option_map}
use Rattle.sudoers_grammar.specs.Node as node
use Rattle.laws_print.specs.Writable.{IsWritableScopeMember, IsWritableScope}
use Rattle.laws_print.proofs.Kept.{nonempty_list_has_property_of_all}
use Rattle.sudoers_match_list.proofs.Defined.{list_element_has_property_of_all, atom_with_alias_members_is_of_definition}
use Rattle.laws_program.proofs.Flattened.{still_some, line_with_aliases_expanded}

-- what the law of what stays writable says of a sign
abbrev pub ChangedSignKeepsWritable : Type 0
ChangedSignKeepsWritable = (k : Kind) (m : Member) (negated : Bool) → IsWritableMemberOfKind k m → IsWritableMemberOfKind k (record { start = m.start; stop = m.stop; negated = negated; digests = m.digests; atom = m.atom })

abbrev pub AreReadableLines : List Line → Type 0
AreReadableLines lines = AllByRecursion (λ (line : Line). IsReadableNode line.node) lines

-- ---- definitions

-- Its alias can be written.
abbrev pub IsWritablePlacedDefinition : PlacedDefinition → Type 0
IsWritablePlacedDefinition d = IsWritableDefinition d.kind d.def

definitions_from_place_are_writable : (k : Kind) (number n : ℕ) (ds : List Def) → AllByRecursion (IsWritableDefinition k) ds → AllByRecursion IsWritablePlacedDefinition (definitions_from_place k number n ds)
definitions_from_place_are_writable k number n [] all = tt
definitions_from_place_are_writable k number n (d ∷ ds) all = (all.0, definitions_from_place_are_writable k number (n + 1) ds all.1)

definitions_in_readable_line_are_writable : (number : ℕ) (n : Node) → IsReadableNode n → AllByRecursion IsWritablePlacedDefinition (definitions_in_line number n)
definitions_in_readable_line_are_writable number (node.Alias k defs) is = definitions_from_place_are_writable k number 0 defs (nonempty_list_has_property_of_all (IsWritableDefinition k) defs is)
definitions_in_readable_line_are_writable number n is = tt

pub definitions_from_readable_lines_are_writable : (n : ℕ) (lines : List Line) → AreReadableLines lines → AllByRecursion IsWritablePlacedDefinition (definitions_from_line_number n lines)
definitions_from_readable_lines_are_writable n [] all = tt
definitions_from_readable_lines_are_writable n (line ∷ lines) all = all_append IsWritablePlacedDefinition (definitions_in_line n line.node) (definitions_from_line_number (n + 1) lines) (definitions_in_readable_line_are_writable n line.node all.0) (definitions_from_readable_lines_are_writable (n + 1) lines all.1)

alias_members_of_readable_are_writable : (k : Kind) (lines : List Line) → AreReadableLines lines → (a : Atom) (ms : List Member) → alias_members_of_atom k lines a ≡ Some ms → AllByRecursion (IsWritableMemberOfKind k) ms
alias_members_of_readable_are_writable k lines all a ms e =
    let d = atom_with_alias_members_is_of_definition k lines a ms e in
    let full = list_element_has_property_of_all IsWritablePlacedDefinition (definitions_of_lines lines) (definitions_from_readable_lines_are_writable 0 lines all) d.by d.stands in
    subst (AllByRecursion (IsWritableMemberOfKind k)) d.members
    (subst (λ j. AllByRecursion (IsWritableMemberOfKind j) d.by.def.members) d.of_kind (nonempty_list_has_property_of_all (IsWritableMemberOfKind d.by.kind) d.by.def.members full.members))

list_with_head_is_nonempty_list_of : {X : Type 0} (P : X → Type 0) (xs : List X) (x : X) (rest : List X) → xs ≡ x ∷ rest → AllByRecursion P xs → IsNonEmptyListOf P xs
list_with_head_is_nonempty_list_of P [] x rest e all = absurd cc
list_with_head_is_nonempty_list_of P (y ∷ ys) x rest e all = all

-- ---- lists

module _ (sign : ChangedSignKeepsWritable) (lines : List Line) (policy : AreWalkLinesWithoutNul lines) (readable : AreReadableLines lines) where
  turned_may : (k : Kind) (negated : Bool) (ms : List Member) → AllByRecursion (IsWritableMemberOfKind k) ms → AllByRecursion (IsWritableMemberOfKind k) (map (member_under_negation negated) ms)
  turned_may k negated [] all = tt
  turned_may k negated (m ∷ ms) all = (sign k m (member_under_negation negated m).negated all.0, turned_may k negated ms all.1)

  by_may : (k : Kind) (m : Member) → IsWritableMemberOfKind k m → (o : Option (List Member)) → alias_members_of_atom k lines m.atom ≡ o → AllByRecursion (IsWritableMemberOfKind k) (member_or_alias_members m o)
  by_may k m is None e = (is, tt)
  by_may k m is (Some ms) e = turned_may k m.negated ms (alias_members_of_readable_are_writable k lines readable m.atom ms e)

  once_may : (k : Kind) (ms : List Member) → AllByRecursion (IsWritableMemberOfKind k) ms → AllByRecursion (IsWritableMemberOfKind k) (list_with_aliases_expanded_once k lines ms)
  once_may k [] all = tt
  once_may k (m ∷ ms) all =
      all_append (IsWritableMemberOfKind k) (member_or_alias_members m (alias_members_of_atom k lines m.atom)) (list_with_aliases_expanded_once k lines ms) (by_may k m all.0 (alias_members_of_atom k lines m.atom) refl) (once_may k ms all.1)

  times_may : (n : ℕ) (k : Kind) (ms : List Member) → AllByRecursion (IsWritableMemberOfKind k) ms → AllByRecursion (IsWritableMemberOfKind k) (list_expanded_n_times n k lines ms)
  times_may zero k ms all = all
  times_may (suc n) k ms all = times_may n k (list_with_aliases_expanded_once k lines ms) (once_may k ms all)

  list_may : (k : Kind) (ms : List Member) → AllByRecursion (IsWritableMemberOfKind k) ms → AllByRecursion (IsWritableMemberOfKind k) (fully_expanded_list k lines ms)
  list_may k ms all = times_may (length (definitions_of_lines lines)) k ms all

  some_may : (k : Kind) (ms : List Member) → IsNonEmptyListOf (IsWritableMemberOfKind k) ms → IsNonEmptyListOf (IsWritableMemberOfKind k) (fully_expanded_list k lines ms)
  some_may k [] all = absurd all
  some_may k (m ∷ ms) all =
      let some = still_some lines policy k m ms in
      list_with_head_is_nonempty_list_of (IsWritableMemberOfKind k) (fully_expanded_list k lines (m ∷ ms)) some.0 some.1 some.2 (list_may k (m ∷ ms) all)

  -- ---- user specifications

  runas_may : (r : Option RunasSpec) → IsWritableRunasSpec r → IsWritableRunasSpec (option_map (expanded_runas_spec lines) r)
  runas_may None is = tt
  runas_may (Some r) is = (list_may Runas r.users is.0, list_may Runas r.groups is.1)

  members_may : (r : Option RunasSpec) (c : CmdSpec) (ms : List Member) → IsWritableRunasSpec r → AllByRecursion IsWritableOption c.options → AllByRecursion (IsWritableMemberOfKind Cmnd) ms
      → AllByRecursion IsWritableCommand (map (command_with_runas_and_member r c) ms)
  members_may r c [] runas options all = tt
  members_may r c (m ∷ ms) runas options all = (record { runas = runas; options = options; member = all.0 }, members_may r c ms runas options all.1)

  command_may : (c : CmdSpec) → IsWritableCommand c → AllByRecursion IsWritableCommand (commands_of_expanded_command lines c)
  command_may c is =
      members_may (option_map (expanded_runas_spec lines) c.runas) c (fully_expanded_list Cmnd lines (c.member ∷ [])) (runas_may c.runas is.runas) is.options
      (list_may Cmnd (c.member ∷ []) (is.member, tt))

  each_command : (cs : List CmdSpec) → AllByRecursion IsWritableCommand cs → AllByRecursion IsWritableCommand (flat_map (commands_of_expanded_command lines) cs)
  each_command [] all = tt
  each_command (c ∷ cs) all = all_append IsWritableCommand (commands_of_expanded_command lines c) (flat_map (commands_of_expanded_command lines) cs) (command_may c all.0) (each_command cs all.1)

  commands_may : (cs : List CmdSpec) → IsNonEmptyListOf IsWritableCommand cs → IsNonEmptyListOf IsWritableCommand (flat_map (commands_of_expanded_command lines) cs)
  commands_may [] all = absurd all
  commands_may (c ∷ cs) all =
      let some = still_some lines policy Cmnd c.member [] in
      let r = option_map (expanded_runas_spec lines) c.runas in
      list_with_head_is_nonempty_list_of IsWritableCommand (flat_map (commands_of_expanded_command lines) (c ∷ cs)) (command_with_runas_and_member r c some.0) (map (command_with_runas_and_member r c) some.1 ++ flat_map (commands_of_expanded_command lines) cs)
      (ap (λ ms. map (command_with_runas_and_member r c) ms ++ flat_map (commands_of_expanded_command lines) cs) some.2) (each_command (c ∷ cs) all)

  groups_each : (gs : List HostGroup) → AllByRecursion IsWritableHostGroup gs → AllByRecursion IsWritableHostGroup (map (expanded_host_group lines) gs)
  groups_each [] all = tt
  groups_each (g ∷ gs) all = (record { hosts = some_may Host g.hosts all.0.hosts; commands = commands_may g.commands all.0.commands }, groups_each gs all.1)

  groups_may : (gs : List HostGroup) → IsNonEmptyListOf IsWritableHostGroup gs → IsNonEmptyListOf IsWritableHostGroup (map (expanded_host_group lines) gs)
  groups_may [] all = absurd all
  groups_may (g ∷ gs) all = groups_each (g ∷ gs) all

  -- ---- Defaults lines

  scoped_may : (k : Kind) (ms : List Member) → IsNonEmptyListOf (IsWritableScopeMember k) ms → IsNonEmptyListOf (IsWritableScopeMember k) (expanded_scope_list lines k ms)
  scoped_may User ms all = some_may User ms all
  scoped_may Runas ms all = some_may Runas ms all
  scoped_may Host ms all = some_may Host ms all
  scoped_may Cmnd ms all = all

  scope_may : (s : Option Scope) → IsWritableScope s → IsWritableScope (option_map (expanded_scope lines) s)
  scope_may None is = tt
  scope_may (Some s) is = scoped_may s.kind s.members is

  -- ---- lines

  pub node_may : (n : Node) → IsReadableNode n → IsReadableNode (expanded_node lines n)
  node_may (node.Defaults scope params) is = (scope_may scope is.0, is.1)
  node_may (node.Spec users groups) is = (some_may User users is.0, groups_may groups is.1)
  node_may (node.Alias k defs) is = is
  node_may n is = tt

  each_line : (ls : List Line) → AreReadableLines ls → AreReadableLines (map (line_with_aliases_expanded lines) ls)
  each_line [] all = tt
  each_line (line ∷ ls) all = (node_may line.node all.0, each_line ls all.1)

  -- With its aliases replaced each line says what can be read.
  pub expanded_readable : AreReadableLines (lines_with_aliases_replaced lines)
  expanded_readable = each_line lines readable
