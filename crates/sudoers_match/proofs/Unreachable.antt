-- Definitions to which no chain of mentions leads change no answer.
use Rattle.sudoers_match.proofs.Common.{AllByRecursion, AreBothUndefinedOrCounterparts, Atom, CmdSpec, Cmnd, AreBothUndefinedOrHaveSameMembers, Host, HostGroup, IsMemberWithAtomMapped, IsPointwiseRelated, IsReachedFromSpecOrDefaults, KeepsAliasCounterparts}
use Rattle.sudoers_match.proofs.Common.{HasSameLinesAndReachableAliases, Kind, Line, List, ListHasElement, Member, Node, None, Option, Runas, RunasSpec, Scope, Some, User, [], alias_members_of_atom, alias_names_among_members}
use Rattle.sudoers_match.proofs.Common.{alias_names_of_atom, flat_map, here, if◌then◌else◌, kind_is_equal_to_itself, map, members_in_host_group, members_in_scope, members_of_runas, nodes_without_alias_lines, refl, subst, sym}
use Rattle.sudoers_match.proofs.Common.{unchanged_atom, ◌∷◌, ◌≡◌}
use Rattle.sudoers_grammar.specs.declared.node.Atom.TheVariants as atom
use Rattle.sudoers_grammar.specs.Node as node
use Rattle.sudoers_match.proofs.Counterparts.{AtomCounterpartRelation, AreMemberListCounterparts, AreRunasCounterparts, IsCommandCounterpart, IsHostGroupCounterpart, AreScopeCounterparts, IsLineCounterpart, root_members_in_node, root_members_of_lines, root_alias_names_are_of_root_members, root_members_are_those_beside_alias_lines}
use Rattle.sudoers_match.proofs.MetMembers.{left_of, right_of, of_has, IsMet, AreMet, met_names, of_alias}

-- An atom stands for itself, if chains of mentions lead to the alias that it names.
abbrev pub IsReachableAtomItself : List Line → AtomCounterpartRelation
IsReachableAtomItself lines k a b = (b ≡ a) × AllByRecursion (IsReachedFromSpecOrDefaults k lines) (alias_names_of_atom a)

module _ (lines : List Line) where
  abbrev Itself : AtomCounterpartRelation
  Itself k a b = IsReachableAtomItself lines k a b

  -- ---- lists whose members are met stand for themselves

  themselves : (k : Kind) (ms : List Member) → AreMet lines k ms → AreMemberListCounterparts Itself k ms ms
  themselves k [] met = tt
  themselves k (m ∷ ms) met = (record { negated = refl; digests = refl; atom = (refl, met.0) }, themselves k ms met.1)

  runas_itself : (r : Option RunasSpec) → AreMet lines Runas (members_of_runas r) → AreRunasCounterparts Itself r r
  runas_itself None met = tt
  runas_itself (Some r) met = (
    themselves Runas r.users (left_of (IsMet lines Runas) r.users r.groups met),
    themselves Runas r.groups (right_of (IsMet lines Runas) r.users r.groups met),
  )

  commands_themselves : (cs : List CmdSpec) → AreMet lines Runas (flat_map (λ (c : CmdSpec). members_of_runas c.runas) cs)
      → AreMet lines Cmnd (map (λ (c : CmdSpec). c.member) cs) → IsPointwiseRelated (IsCommandCounterpart Itself) cs cs
  commands_themselves [] runas commands = tt
  commands_themselves (c ∷ cs) runas commands =
      let rest = flat_map (λ (d : CmdSpec). members_of_runas d.runas) cs in (
        record {
          runas = runas_itself c.runas (left_of (IsMet lines Runas) (members_of_runas c.runas) rest runas);
          options = refl;
          tags = refl;
          member = (themselves Cmnd (c.member ∷ []) (commands.0, tt)).0;
        },
        commands_themselves cs (right_of (IsMet lines Runas) (members_of_runas c.runas) rest runas) commands.1,
      )

  groups_themselves : (gs : List HostGroup) → ((k : Kind) → AreMet lines k (flat_map (members_in_host_group k) gs)) → IsPointwiseRelated (IsHostGroupCounterpart Itself) gs gs
  groups_themselves [] met = tt
  groups_themselves (g ∷ gs) met =
      let first : (k : Kind) → AreMet lines k (members_in_host_group k g) = λ k. left_of (IsMet lines k) (members_in_host_group k g) (flat_map (members_in_host_group k) gs) (met k) in (
        record { hosts = themselves Host g.hosts (first Host); commands = commands_themselves g.commands (first Runas) (first Cmnd) },
        groups_themselves gs (λ k. right_of (IsMet lines k) (members_in_host_group k g) (flat_map (members_in_host_group k) gs) (met k)),
      )

  scope_itself : (s : Option Scope) → ((k : Kind) → AreMet lines k (members_in_scope k s)) → AreScopeCounterparts Itself s s
  scope_itself None met = tt
  scope_itself (Some s) met =
      (refl, themselves s.kind s.members (subst (λ b. AreMet lines s.kind (if b then s.members else [])) (kind_is_equal_to_itself s.kind) (met s.kind)))

  -- the members of the host groups of a user specification
  of_groups : (users : List Member) (groups : List HostGroup) → ((k : Kind) → AreMet lines k (root_members_in_node k (node.Spec users groups)))
      → (k : Kind) → AreMet lines k (flat_map (members_in_host_group k) groups)
  of_groups users groups met User = none_met groups
    where
      none_met : (gs : List HostGroup) → AreMet lines User (flat_map (members_in_host_group User) gs)
      none_met [] = tt
      none_met (g ∷ gs) = none_met gs
  of_groups users groups met Runas = met Runas
  of_groups users groups met Host = met Host
  of_groups users groups met Cmnd = met Cmnd

  line_itself : (n : Node) → ((k : Kind) → AreMet lines k (root_members_in_node k n)) → IsLineCounterpart Itself n n
  line_itself (node.Defaults scope params) met = (scope_itself scope met, refl)
  line_itself (node.Spec users groups) met = (themselves User users (met User), groups_themselves groups (of_groups users groups met))
  line_itself (node.Alias k defs) met = tt
  line_itself node.Blank met = tt
  line_itself node.Comment met = tt
  line_itself (node.Include dir path) met = tt

  each_line : (ns : List Node) → ((k : Kind) → AreMet lines k (flat_map (root_members_in_node k) ns)) → IsPointwiseRelated (IsLineCounterpart Itself) ns ns
  each_line [] met = tt
  each_line (n ∷ ns) met = (
    line_itself n (λ k. left_of (IsMet lines k) (root_members_in_node k n) (flat_map (root_members_in_node k) ns) (met k)),
    each_line ns (λ k. right_of (IsMet lines k) (root_members_in_node k n) (flat_map (root_members_in_node k) ns) (met k)),
  )

  roots_met : (k : Kind) → AreMet lines k (root_members_of_lines k lines)
  roots_met k =
      met_names lines k (root_members_of_lines k lines) (of_has (IsReachedFromSpecOrDefaults k lines) (alias_names_among_members (root_members_of_lines k lines))
      (λ name h. here name (subst (λ names. ListHasElement names name) (sym (root_alias_names_are_of_root_members k lines)) h)))

  -- Each line stands for itself, definitions aside.
  lines_themselves : IsPointwiseRelated (IsLineCounterpart Itself) (nodes_without_alias_lines lines) (nodes_without_alias_lines lines)
  lines_themselves = each_line (nodes_without_alias_lines lines) (λ k. subst (AreMet lines k) (root_members_are_those_beside_alias_lines k lines) (roots_met k))

-- ---- aliases to which chains of mentions lead

module _ (lines others : List Line) (keep : HasSameLinesAndReachableAliases lines others) where
  same_alias : (k : Kind) (a : Atom) → AllByRecursion (IsReachedFromSpecOrDefaults k lines) (alias_names_of_atom a) → AreBothUndefinedOrHaveSameMembers (alias_members_of_atom k lines a) (alias_members_of_atom k others a)
  same_alias k (atom.Alias name) met = keep.members k name met.0
  same_alias k a met = tt

  members_stand : (k : Kind) (ms ns : List Member) → IsPointwiseRelated (IsMemberWithAtomMapped unchanged_atom) ms ns → AreMet lines k ms → AreMemberListCounterparts (IsReachableAtomItself lines) k ms ns
  members_stand k [] [] same met = tt
  members_stand k [] (n ∷ ns) same met = absurd same
  members_stand k (m ∷ ms) [] same met = absurd same
  members_stand k (m ∷ ms) (n ∷ ns) same met =
      (record { negated = same.0.negated; digests = same.0.digests; atom = (same.0.atom, met.0) }, members_stand k ms ns same.1 met.1)

  alias_stands : (k : Kind) (a : Atom) → AllByRecursion (IsReachedFromSpecOrDefaults k lines) (alias_names_of_atom a)
      → AreBothUndefinedOrCounterparts (IsReachableAtomItself lines k) (alias_members_of_atom k lines a) (alias_members_of_atom k others a)
  alias_stands k a met = by (alias_members_of_atom k lines a) (alias_members_of_atom k others a) refl (same_alias k a met)
    where
      by : (o p : Option (List Member)) → alias_members_of_atom k lines a ≡ o → AreBothUndefinedOrHaveSameMembers o p → AreBothUndefinedOrCounterparts (IsReachableAtomItself lines k) o p
      by None None e same = tt
      by None (Some ns) e same = absurd same
      by (Some ms) None e same = absurd same
      by (Some ms) (Some ns) e same = members_stand k ms ns same (of_alias lines k a met ms e)

  -- Each alias to which chains of mentions lead keeps its members.
  pub keeps_reachable : (k : Kind) → KeepsAliasCounterparts (IsReachableAtomItself lines k) unchanged_atom k lines others
  keeps_reachable k = record {
    defined = λ a b is. subst (λ (c : Atom). AreBothUndefinedOrCounterparts (IsReachableAtomItself lines k) (alias_members_of_atom k lines a) (alias_members_of_atom k others c)) (sym is.0) (alias_stands k a is.1);
    written = λ a b is e. is.0;
  }

  -- Lines that are the same, definitions aside, stand for each other.
  pub lines_stand : IsPointwiseRelated (IsLineCounterpart (IsReachableAtomItself lines)) (nodes_without_alias_lines lines) (nodes_without_alias_lines others)
  lines_stand = subst (IsPointwiseRelated (IsLineCounterpart (IsReachableAtomItself lines)) (nodes_without_alias_lines lines)) (sym keep.beside) (lines_themselves lines)
