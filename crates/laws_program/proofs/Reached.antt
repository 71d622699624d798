-- What a policy mentions with its aliases replaced, chains of mentions lead to in the policy that was read.
use Rattle.laws_program.proofs.Common.{◌≡◌, ℕ, zero, suc, Bool, if◌then◌else◌, List, [], ◌∷◌, ◌++◌, length, map, Option, Some, None, refl}
use Rattle.laws_program.proofs.Common.{AllByRecursion, flat_map, Kind, User, Runas, Host, Cmnd, Member, RunasSpec, CmdSpec, HostGroup, Scope, Node, Line}
use Rattle.laws_program.proofs.Common.{definitions_of_lines, is_equal_kind, members_of_runas, members_in_host_group, members_in_scope, root_names_in_node, IsReachedFromSpecOrDefaults, alias_members_of_atom}
use Rattle.laws_program.proofs.Common.{member_under_negation, member_or_alias_members, list_with_aliases_expanded_once, list_expanded_n_times, fully_expanded_list, all_append, expanded_runas_spec, command_with_runas_and_member}
use Rattle.laws_program.proofs.Common.{commands_of_expanded_command, expanded_host_group, expanded_scope_list, expanded_scope, expanded_node}
use Rattle.std.specs.Option.{option_map}
use Rattle.sudoers_grammar.specs.Node as node
use Rattle.laws_program.proofs.RootsAlike.{runas_members_of_commands}
use Rattle.sudoers_match.proofs.MetMembers.{left_of, right_of, IsMet, AreMet, names_met, met_names, of_alias}

module _ (lines : List Line) where
  -- ---- lists with their aliases replaced

  turned_met : (k : Kind) (negated : Bool) (ms : List Member) → AreMet lines k ms → AreMet lines k (map (member_under_negation negated) ms)
  turned_met k negated [] all = tt
  turned_met k negated (m ∷ ms) all = (all.0, turned_met k negated ms all.1)

  by_met : (k : Kind) (m : Member) → IsMet lines k m → (o : Option (List Member)) → alias_members_of_atom k lines m.atom ≡ o → AreMet lines k (member_or_alias_members m o)
  by_met k m met None e = (met, tt)
  by_met k m met (Some ms) e = turned_met k m.negated ms (of_alias lines k m.atom met ms e)

  once_met : (k : Kind) (ms : List Member) → AreMet lines k ms → AreMet lines k (list_with_aliases_expanded_once k lines ms)
  once_met k [] all = tt
  once_met k (m ∷ ms) all =
      all_append (IsMet lines k) (member_or_alias_members m (alias_members_of_atom k lines m.atom)) (list_with_aliases_expanded_once k lines ms) (by_met k m all.0 (alias_members_of_atom k lines m.atom) refl) (once_met k ms all.1)

  times_met : (n : ℕ) (k : Kind) (ms : List Member) → AreMet lines k ms → AreMet lines k (list_expanded_n_times n k lines ms)
  times_met zero k ms all = all
  times_met (suc n) k ms all = times_met n k (list_with_aliases_expanded_once k lines ms) (once_met k ms all)

  list_met : (k : Kind) (ms : List Member) → AreMet lines k ms → AreMet lines k (fully_expanded_list k lines ms)
  list_met k ms all = times_met (length (definitions_of_lines lines)) k ms all

  -- ---- commands

  runas_met : (r : Option RunasSpec) → AreMet lines Runas (members_of_runas r) → AreMet lines Runas (members_of_runas (option_map (expanded_runas_spec lines) r))
  runas_met None all = tt
  runas_met (Some r) all =
      all_append (IsMet lines Runas) (fully_expanded_list Runas lines r.users) (fully_expanded_list Runas lines r.groups)
      (list_met Runas r.users (left_of (IsMet lines Runas) r.users r.groups all)) (list_met Runas r.groups (right_of (IsMet lines Runas) r.users r.groups all))

  abbrev commands_in : List CmdSpec → List Member
  commands_in cs = map (λ (c : CmdSpec). c.member) cs

  each_runas : (r : Option RunasSpec) (c : CmdSpec) (ms : List Member) (rest : List CmdSpec) → AreMet lines Runas (members_of_runas r) → AreMet lines Runas (runas_members_of_commands rest)
      → AreMet lines Runas (runas_members_of_commands (map (command_with_runas_and_member r c) ms ++ rest))
  each_runas r c [] rest own all = all
  each_runas r c (m ∷ ms) rest own all = all_append (IsMet lines Runas) (members_of_runas r) (runas_members_of_commands (map (command_with_runas_and_member r c) ms ++ rest)) own (each_runas r c ms rest own all)

  runas_each_met : (cs : List CmdSpec) → AreMet lines Runas (runas_members_of_commands cs) → AreMet lines Runas (runas_members_of_commands (flat_map (commands_of_expanded_command lines) cs))
  runas_each_met [] all = tt
  runas_each_met (c ∷ cs) all =
      each_runas (option_map (expanded_runas_spec lines) c.runas) c (fully_expanded_list Cmnd lines (c.member ∷ [])) (flat_map (commands_of_expanded_command lines) cs)
      (runas_met c.runas (left_of (IsMet lines Runas) (members_of_runas c.runas) (runas_members_of_commands cs) all)) (runas_each_met cs (right_of (IsMet lines Runas) (members_of_runas c.runas) (runas_members_of_commands cs) all))

  each_member : (r : Option RunasSpec) (c : CmdSpec) (ms : List Member) (rest : List CmdSpec) → AreMet lines Cmnd ms → AreMet lines Cmnd (commands_in rest)
      → AreMet lines Cmnd (commands_in (map (command_with_runas_and_member r c) ms ++ rest))
  each_member r c [] rest own all = all
  each_member r c (m ∷ ms) rest own all = (own.0, each_member r c ms rest own.1 all)

  all_members : (cs : List CmdSpec) → AreMet lines Cmnd (commands_in cs) → AreMet lines Cmnd (commands_in (flat_map (commands_of_expanded_command lines) cs))
  all_members [] all = tt
  all_members (c ∷ cs) all =
      each_member (option_map (expanded_runas_spec lines) c.runas) c (fully_expanded_list Cmnd lines (c.member ∷ [])) (flat_map (commands_of_expanded_command lines) cs)
      (list_met Cmnd (c.member ∷ []) (all.0, tt)) (all_members cs all.1)

  -- ---- lines

  group_met : (k : Kind) (g : HostGroup) → AreMet lines k (members_in_host_group k g) → AreMet lines k (members_in_host_group k (expanded_host_group lines g))
  group_met User g all = tt
  group_met Runas g all = runas_each_met g.commands all
  group_met Host g all = list_met Host g.hosts all
  group_met Cmnd g all = all_members g.commands all

  groups_met : (k : Kind) (gs : List HostGroup) → AreMet lines k (flat_map (members_in_host_group k) gs) → AreMet lines k (flat_map (members_in_host_group k) (map (expanded_host_group lines) gs))
  groups_met k [] all = tt
  groups_met k (g ∷ gs) all =
      all_append (IsMet lines k) (members_in_host_group k (expanded_host_group lines g)) (flat_map (members_in_host_group k) (map (expanded_host_group lines) gs))
      (group_met k g (left_of (IsMet lines k) (members_in_host_group k g) (flat_map (members_in_host_group k) gs) all))
      (groups_met k gs (right_of (IsMet lines k) (members_in_host_group k g) (flat_map (members_in_host_group k) gs) all))

  scoped_met : (k j : Kind) (ms : List Member) → AreMet lines k (if is_equal_kind k j then ms else []) → AreMet lines k (if is_equal_kind k j then expanded_scope_list lines j ms else [])
  scoped_met User User ms all = list_met User ms all
  scoped_met Runas Runas ms all = list_met Runas ms all
  scoped_met Host Host ms all = list_met Host ms all
  scoped_met Cmnd Cmnd ms all = all
  scoped_met User Runas ms all = tt
  scoped_met User Host ms all = tt
  scoped_met User Cmnd ms all = tt
  scoped_met Runas User ms all = tt
  scoped_met Runas Host ms all = tt
  scoped_met Runas Cmnd ms all = tt
  scoped_met Host User ms all = tt
  scoped_met Host Runas ms all = tt
  scoped_met Host Cmnd ms all = tt
  scoped_met Cmnd User ms all = tt
  scoped_met Cmnd Runas ms all = tt
  scoped_met Cmnd Host ms all = tt

  scope_met : (k : Kind) (s : Option Scope) → AreMet lines k (members_in_scope k s) → AreMet lines k (members_in_scope k (option_map (expanded_scope lines) s))
  scope_met k None all = tt
  scope_met k (Some s) all = scoped_met k s.kind s.members all

  spec_met : (k : Kind) (users : List Member) (groups : List HostGroup) → AllByRecursion (IsReachedFromSpecOrDefaults k lines) (root_names_in_node k (node.Spec users groups))
      → AllByRecursion (IsReachedFromSpecOrDefaults k lines) (root_names_in_node k (node.Spec (fully_expanded_list User lines users) (map (expanded_host_group lines) groups)))
  spec_met User users groups all = names_met lines User (fully_expanded_list User lines users) (list_met User users (met_names lines User users all))
  spec_met Runas users groups all = names_met lines Runas (flat_map (members_in_host_group Runas) (map (expanded_host_group lines) groups)) (groups_met Runas groups (met_names lines Runas (flat_map (members_in_host_group Runas) groups) all))
  spec_met Host users groups all = names_met lines Host (flat_map (members_in_host_group Host) (map (expanded_host_group lines) groups)) (groups_met Host groups (met_names lines Host (flat_map (members_in_host_group Host) groups) all))
  spec_met Cmnd users groups all = names_met lines Cmnd (flat_map (members_in_host_group Cmnd) (map (expanded_host_group lines) groups)) (groups_met Cmnd groups (met_names lines Cmnd (flat_map (members_in_host_group Cmnd) groups) all))

  -- What the line mentions with its aliases replaced.
  pub node_met : (k : Kind) (n : Node) → AllByRecursion (IsReachedFromSpecOrDefaults k lines) (root_names_in_node k n) → AllByRecursion (IsReachedFromSpecOrDefaults k lines) (root_names_in_node k (expanded_node lines n))
  node_met k (node.Defaults scope params) all =
      names_met lines k (members_in_scope k (option_map (expanded_scope lines) scope)) (scope_met k scope (met_names lines k (members_in_scope k scope) all))
  node_met k (node.Spec users groups) all = spec_met k users groups all
  node_met k n all = tt
