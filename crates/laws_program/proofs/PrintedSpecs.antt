-- What is read of printed rules has user specifications that say the same, command by command.
use Rattle.laws_program.proofs.Common.{◌≡◌, List, [], ◌∷◌, ◌++◌, Option, Some, None, map, refl, sym, ap, subst, ◌∙◌, flat_map, filter_map, cons_option, Kind}
use Rattle.laws_program.proofs.Common.{User, Runas, Host, Cmnd, HostGroup, Member, RunasSpec, Node, Line, atom_read_back, MemberIsReadBackAs, AreItemsPairwiseRelated, RunasIsReadBackAs}
use Rattle.laws_program.proofs.Common.{HostGroupIsReadBackAs, NodeIsReadBackAs, IsPointwiseRelated, HaveSameFlatListAfterRewrite, AreRunasMemberListsAlike, AreRunasSpecsAlike, AreCommandsWithSettingsAlike, AreHostGroupsAlike}
use Rattle.laws_program.proofs.Common.{AreSpecUsersAndHostsAlike, AreUserSpecsAlike, AccumulatedCommandSettings, empty_command_settings, UserSpec, user_spec_of_users_and_groups, user_spec_in_node, user_specs_of_lines, pointwise_relation_is_weakened, effective_host_group, effective_spec_nodes_of_line_node}
use Rattle.laws_program.proofs.Common.{rules_of_policy_lines, rule_nodes_in_print_order, nodes_of_lines}
use Rattle.sudoers_grammar.specs.Node as node
use Rattle.sudoers_match.specs.Heads.{commands_with_settings}
use Rattle.sudoers_match.proofs.SpecsEqual.{alike_specs_have_alike_users_and_hosts}
use Rattle.laws_program.proofs.HeadsAlike.{IsCommandReadBackSame, effective_commands_read_back_are_same, equal_final_options_give_equal_lists, equal_final_tags_give_equal_lists}
use Rattle.laws_program.proofs.Parts.{no_defaults, no_defs, made_of_specs, same_nodes_make_related_items, pairwise_related_items_are_pointwise_related, pointwise_relation_of_mapped_is_of_sources}

-- ---- the user specifications

-- the user specification that a line is, as a list
abbrev pub user_spec_list_of_node : Node → List UserSpec
user_spec_list_of_node (node.Spec users groups) = user_spec_of_users_and_groups users groups ∷ []
user_spec_list_of_node n = []

abbrev user_spec_with_effective_commands : UserSpec → UserSpec
user_spec_with_effective_commands s = user_spec_of_users_and_groups s.users (map effective_host_group s.groups)

abbrev effective_user_spec_list_of_node : Node → List UserSpec
effective_user_spec_list_of_node n = map user_spec_with_effective_commands (user_spec_list_of_node n)

user_spec_of_node_leads_list : (n : Node) (rest : List UserSpec) → cons_option (user_spec_in_node n) rest ≡ user_spec_list_of_node n ++ rest
user_spec_of_node_leads_list (node.Spec users groups) rest = refl
user_spec_of_node_leads_list n rest = refl

pub user_specs_of_lines_are_of_nodes : (lines : List Line) → user_specs_of_lines lines ≡ flat_map user_spec_list_of_node (nodes_of_lines lines)
user_specs_of_lines_are_of_nodes lines = by lines
  where
    by : (ls : List Line) → filter_map (λ (line : Line). user_spec_in_node line.node) ls ≡ flat_map user_spec_list_of_node (nodes_of_lines ls)
    by [] = refl
    by (line ∷ ls) = ap (cons_option (user_spec_in_node line.node)) (by ls) ∙ user_spec_of_node_leads_list line.node (flat_map user_spec_list_of_node (nodes_of_lines ls))

effective_specs_append_over_node : (n : Node) (rest : List UserSpec) → effective_user_spec_list_of_node n ++ map user_spec_with_effective_commands rest ≡ map user_spec_with_effective_commands (user_spec_list_of_node n ++ rest)
effective_specs_append_over_node (node.Spec users groups) rest = refl
effective_specs_append_over_node n rest = refl

effective_spec_lists_are_mapped_specs : (ns : List Node) → flat_map effective_user_spec_list_of_node ns ≡ map user_spec_with_effective_commands (flat_map user_spec_list_of_node ns)
effective_spec_lists_are_mapped_specs [] = refl
effective_spec_lists_are_mapped_specs (n ∷ ns) = ap (λ (t : List UserSpec). effective_user_spec_list_of_node n ++ t) (effective_spec_lists_are_mapped_specs ns) ∙ effective_specs_append_over_node n (flat_map user_spec_list_of_node ns)

effective_nodes_have_effective_specs : (n : Node) → flat_map user_spec_list_of_node (effective_spec_nodes_of_line_node n) ≡ effective_user_spec_list_of_node n
effective_nodes_have_effective_specs (node.Spec users groups) = refl
effective_nodes_have_effective_specs n = refl

record IsUserSpecSameButPlace (s t : UserSpec) : Type 0 where
  users : AreItemsPairwiseRelated MemberIsReadBackAs s.users t.users
  groups : AreItemsPairwiseRelated HostGroupIsReadBackAs s.groups t.groups

same_nodes_have_same_user_specs : (n m : Node) → NodeIsReadBackAs n m → IsPointwiseRelated IsUserSpecSameButPlace (user_spec_list_of_node n) (user_spec_list_of_node m)
same_nodes_have_same_user_specs (node.Spec users groups) (node.Spec others places) same = (record { users = same.0; groups = same.1 }, tt)
same_nodes_have_same_user_specs (node.Defaults scope params) (node.Defaults other settings) same = tt
same_nodes_have_same_user_specs (node.Alias k ds) (node.Alias j es) same = tt
same_nodes_have_same_user_specs n m same = absurd same

printed_rules_keep_effective_user_specs : (lines read : List Line) → AreItemsPairwiseRelated NodeIsReadBackAs (rule_nodes_in_print_order (rules_of_policy_lines lines)) (nodes_of_lines read)
    → IsPointwiseRelated (λ (s t : UserSpec). IsUserSpecSameButPlace (user_spec_with_effective_commands s) t) (user_specs_of_lines lines) (user_specs_of_lines read)
printed_rules_keep_effective_user_specs lines read same =
    let made : flat_map user_spec_list_of_node (rule_nodes_in_print_order (rules_of_policy_lines lines)) ≡ map user_spec_with_effective_commands (user_specs_of_lines lines) =
    made_of_specs user_spec_list_of_node effective_user_spec_list_of_node (no_defaults user_spec_list_of_node (λ scope params. refl)) (no_defs user_spec_list_of_node (λ k d. refl)) effective_nodes_have_effective_specs lines ∙ effective_spec_lists_are_mapped_specs (nodes_of_lines lines) ∙ sym (ap (map user_spec_with_effective_commands) (user_specs_of_lines_are_of_nodes lines)) in
    pointwise_relation_of_mapped_is_of_sources user_spec_with_effective_commands IsUserSpecSameButPlace (user_specs_of_lines lines) (user_specs_of_lines read)
    (subst (λ xs. IsPointwiseRelated IsUserSpecSameButPlace xs (user_specs_of_lines read)) made
    (subst (λ ys. IsPointwiseRelated IsUserSpecSameButPlace (flat_map user_spec_list_of_node (rule_nodes_in_print_order (rules_of_policy_lines lines))) ys) (sym (user_specs_of_lines_are_of_nodes read))
    (same_nodes_make_related_items IsUserSpecSameButPlace user_spec_list_of_node same_nodes_have_same_user_specs (rule_nodes_in_print_order (rules_of_policy_lines lines)) (nodes_of_lines read) same)))

-- ---- what they say

module _ (lines read : List Line) (lists : (k : Kind) (ms ns : List Member) → AreItemsPairwiseRelated MemberIsReadBackAs ms ns → HaveSameFlatListAfterRewrite atom_read_back k lines read ms ns) where
  runas_lists : (ms ns : List Member) → AreItemsPairwiseRelated MemberIsReadBackAs ms ns → AreRunasMemberListsAlike atom_read_back lines read ms ns
  runas_lists [] [] same = tt
  runas_lists (m ∷ ms) (n ∷ ns) same = lists Runas (m ∷ ms) (n ∷ ns) same
  runas_lists ms ns same = absurd same

  runas_alike : (r s : Option RunasSpec) → RunasIsReadBackAs r s → AreRunasSpecsAlike atom_read_back lines read r s
  runas_alike None None same = tt
  runas_alike (Some r) (Some s) same = (runas_lists r.users s.users same.0, runas_lists r.groups s.groups same.1)
  runas_alike r s same = absurd same

  command_alike : (c d : AccumulatedCommandSettings × Member) → IsCommandReadBackSame c d → AreCommandsWithSettingsAlike atom_read_back lines read c d
  command_alike c d same = record {
    head =
        record {
          runas = runas_alike c.0.runas d.0.runas same.head.runas;
          options = equal_final_options_give_equal_lists c.0.options d.0.options same.head.options;
          tags = equal_final_tags_give_equal_lists c.0.tags d.0.tags same.head.tags;
        };
    member = lists Cmnd (c.1 ∷ []) (d.1 ∷ []) (same.member, tt);
  }

  group_alike : (g h : HostGroup) → HostGroupIsReadBackAs (effective_host_group g) h → AreHostGroupsAlike atom_read_back lines read g h
  group_alike g h same = record {
    hosts = lists Host g.hosts h.hosts same.hosts;
    commands = pointwise_relation_is_weakened IsCommandReadBackSame (AreCommandsWithSettingsAlike atom_read_back lines read) command_alike (commands_with_settings empty_command_settings g.commands) (commands_with_settings empty_command_settings h.commands)
        (effective_commands_read_back_are_same g.commands h.commands same.commands);
  }

  spec_alike : (s t : UserSpec) → IsUserSpecSameButPlace (user_spec_with_effective_commands s) t → AreUserSpecsAlike atom_read_back lines read s t
  spec_alike s t same = record {
    users = lists User s.users t.users same.users;
    groups = pointwise_relation_is_weakened (λ g h. HostGroupIsReadBackAs (effective_host_group g) h) (AreHostGroupsAlike atom_read_back lines read) group_alike s.groups t.groups
        (pointwise_relation_of_mapped_is_of_sources effective_host_group HostGroupIsReadBackAs s.groups t.groups
        (pairwise_related_items_are_pointwise_related HostGroupIsReadBackAs HostGroupIsReadBackAs (λ g h is. is) (map effective_host_group s.groups) t.groups same.groups));
  }

  pub specs_equal : AreItemsPairwiseRelated NodeIsReadBackAs (rule_nodes_in_print_order (rules_of_policy_lines lines)) (nodes_of_lines read) → IsPointwiseRelated (AreUserSpecsAlike atom_read_back lines read) (user_specs_of_lines lines) (user_specs_of_lines read)
  specs_equal same =
      pointwise_relation_is_weakened (λ (s t : UserSpec). IsUserSpecSameButPlace (user_spec_with_effective_commands s) t) (AreUserSpecsAlike atom_read_back lines read) spec_alike (user_specs_of_lines lines) (user_specs_of_lines read)
      (printed_rules_keep_effective_user_specs lines read same)

  -- They are for the same users and hosts.
  pub specs_for_same : AreItemsPairwiseRelated NodeIsReadBackAs (rule_nodes_in_print_order (rules_of_policy_lines lines)) (nodes_of_lines read) → IsPointwiseRelated (AreSpecUsersAndHostsAlike atom_read_back lines read) (user_specs_of_lines lines) (user_specs_of_lines read)
  specs_for_same same =
      pointwise_relation_is_weakened (AreUserSpecsAlike atom_read_back lines read) (AreSpecUsersAndHostsAlike atom_read_back lines read) (alike_specs_have_alike_users_and_hosts atom_read_back lines read) (user_specs_of_lines lines) (user_specs_of_lines read)
      (specs_equal same)
