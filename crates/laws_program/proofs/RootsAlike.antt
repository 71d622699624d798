-- Printed rules mention the aliases that the policy mentions.
use Rattle.laws_program.proofs.Common.{◌≡◌, ◌⊎◌, inl, inr, ◌↔◌, ℕ, Bool, true, false, List, [], ◌∷◌, ◌++◌, Option, Some, None, map, refl, sym, ap, ap₂, subst}
use Rattle.laws_program.proofs.Common.{◌∙◌, if◌then◌else◌, flat_map, option_or, flat_map-append, Kind, User, Runas, Host, Cmnd, CmdSpec, HostGroup, Member}
use Rattle.laws_program.proofs.Common.{RunasSpec, Scope, Node, Line, is_equal_kind, members_of_runas, members_in_host_group, members_in_scope, ListHasElement, alias_names_of_atom, alias_names_among_members, root_names_in_node, root_alias_names}
use Rattle.laws_program.proofs.Common.{MemberIsReadBackAs, AreItemsPairwiseRelated, RunasIsReadBackAs, CommandIsReadBackAs, HostGroupIsReadBackAs, ScopeIsReadBackAs, NodeIsReadBackAs, AccumulatedCommandSettings, empty_command_settings, settings_after_command}
use Rattle.laws_program.proofs.Common.{effective_command, effective_host_group, effective_spec_nodes_of_line_node, one_definition_nodes_of_line_node, rules_of_policy_lines, rule_nodes_in_print_order, nodes_of_lines}
use Rattle.sudoers_grammar.specs.Node as node
use Rattle.sudoers_tree.specs.Mention.{members_in_user_spec}
use Rattle.sudoers_match.specs.Heads.{commands_with_settings}
use Rattle.sudoers_cvt_rules.specs.Rules.{defaults_nodes_of_line_node}
use Rattle.laws_program.proofs.Parts.{made_each, no_defs, nothing, three}
use Rattle.laws_program.proofs.ReadBack.{property_alike_for_hosts_survives_read_back}

abbrev pub AliasName : Type 0
AliasName = List ℕ

-- ---- one of two lists

left_list_element_is_in_appended : (xs ys : List AliasName) (x : AliasName) → ListHasElement xs x → ListHasElement (xs ++ ys) x
left_list_element_is_in_appended [] ys x h = absurd h
left_list_element_is_in_appended (y ∷ xs) ys x (inl e) = inl e
left_list_element_is_in_appended (y ∷ xs) ys x (inr h) = inr (left_list_element_is_in_appended xs ys x h)

right_list_element_is_in_appended : (xs ys : List AliasName) (x : AliasName) → ListHasElement ys x → ListHasElement (xs ++ ys) x
right_list_element_is_in_appended [] ys x h = h
right_list_element_is_in_appended (y ∷ xs) ys x h = inr (right_list_element_is_in_appended xs ys x h)

appended_element_is_in_either_list : (xs ys : List AliasName) (x : AliasName) → ListHasElement (xs ++ ys) x → ListHasElement xs x ⊎ ListHasElement ys x
appended_element_is_in_either_list [] ys x h = inr h
appended_element_is_in_either_list (y ∷ xs) ys x (inl e) = inl (inl e)
appended_element_is_in_either_list (y ∷ xs) ys x (inr h) = elim (appended_element_is_in_either_list xs ys x h) [ inl l ↦ inl (inr l) | inr r ↦ inr r ]

alias_names_of_appended_members_are_appended : (ms ns : List Member) → alias_names_among_members (ms ++ ns) ≡ alias_names_among_members ms ++ alias_names_among_members ns
alias_names_of_appended_members_are_appended ms ns = flat_map-append (λ (m : Member). alias_names_of_atom m.atom) ms ns

name_among_appended_members_is_in_either : (ms ns : List Member) (x : AliasName) → ListHasElement (alias_names_among_members (ms ++ ns)) x → ListHasElement (alias_names_among_members ms) x ⊎ ListHasElement (alias_names_among_members ns) x
name_among_appended_members_is_in_either ms ns x h = appended_element_is_in_either_list (alias_names_among_members ms) (alias_names_among_members ns) x (subst (λ xs. ListHasElement xs x) (alias_names_of_appended_members_are_appended ms ns) h)

name_among_left_members_is_in_appended : (ms ns : List Member) (x : AliasName) → ListHasElement (alias_names_among_members ms) x → ListHasElement (alias_names_among_members (ms ++ ns)) x
name_among_left_members_is_in_appended ms ns x h = subst (λ xs. ListHasElement xs x) (sym (alias_names_of_appended_members_are_appended ms ns)) (left_list_element_is_in_appended (alias_names_among_members ms) (alias_names_among_members ns) x h)

name_among_right_members_is_in_appended : (ms ns : List Member) (x : AliasName) → ListHasElement (alias_names_among_members ns) x → ListHasElement (alias_names_among_members (ms ++ ns)) x
name_among_right_members_is_in_appended ms ns x h = subst (λ xs. ListHasElement xs x) (sym (alias_names_of_appended_members_are_appended ms ns)) (right_list_element_is_in_appended (alias_names_among_members ms) (alias_names_among_members ns) x h)

-- ---- lists that are read as the same

pub same_members_have_same_alias_names : (ms ns : List Member) → AreItemsPairwiseRelated MemberIsReadBackAs ms ns → alias_names_among_members ns ≡ alias_names_among_members ms
same_members_have_same_alias_names [] [] same = refl
same_members_have_same_alias_names (m ∷ ms) (n ∷ ns) same =
    ap₂ (λ (x y : List AliasName). x ++ y) (sym (ap alias_names_of_atom same.0.atom) ∙ property_alike_for_hosts_survives_read_back alias_names_of_atom (λ p q. refl) m.atom) (same_members_have_same_alias_names ms ns same.1)
same_members_have_same_alias_names ms ns same = absurd same

same_members_appended_are_same : (ms ns : List Member) (more rest : List Member) → AreItemsPairwiseRelated MemberIsReadBackAs ms ns → AreItemsPairwiseRelated MemberIsReadBackAs more rest → AreItemsPairwiseRelated MemberIsReadBackAs (ms ++ more) (ns ++ rest)
same_members_appended_are_same [] [] more rest same also = also
same_members_appended_are_same (m ∷ ms) (n ∷ ns) more rest same also = (same.0, same_members_appended_are_same ms ns more rest same.1 also)
same_members_appended_are_same ms ns more rest same also = absurd same

same_runas_specs_have_same_members : (r s : Option RunasSpec) → RunasIsReadBackAs r s → AreItemsPairwiseRelated MemberIsReadBackAs (members_of_runas r) (members_of_runas s)
same_runas_specs_have_same_members None None same = tt
same_runas_specs_have_same_members (Some r) (Some s) same = same_members_appended_are_same r.users s.users r.groups s.groups same.0 same.1
same_runas_specs_have_same_members r s same = absurd same

same_commands_give_group_same_members : (k : Kind) (g h : HostGroup) → AreItemsPairwiseRelated MemberIsReadBackAs g.hosts h.hosts → (cs ds : List CmdSpec) → AreItemsPairwiseRelated CommandIsReadBackAs cs ds
    → AreItemsPairwiseRelated MemberIsReadBackAs (members_in_host_group k (record { hosts = g.hosts; commands = cs })) (members_in_host_group k (record { hosts = h.hosts; commands = ds }))
same_commands_give_group_same_members User g h hosts cs ds same = tt
same_commands_give_group_same_members Host g h hosts cs ds same = hosts
same_commands_give_group_same_members Runas g h hosts [] [] same = tt
same_commands_give_group_same_members Runas g h hosts (c ∷ cs) (d ∷ ds) same =
    same_members_appended_are_same (members_of_runas c.runas) (members_of_runas d.runas) (members_in_host_group Runas (record { hosts = g.hosts; commands = cs })) (members_in_host_group Runas (record { hosts = h.hosts; commands = ds }))
    (same_runas_specs_have_same_members c.runas d.runas same.0.runas) (same_commands_give_group_same_members Runas g h hosts cs ds same.1)
same_commands_give_group_same_members Cmnd g h hosts [] [] same = tt
same_commands_give_group_same_members Cmnd g h hosts (c ∷ cs) (d ∷ ds) same = (same.0.member, same_commands_give_group_same_members Cmnd g h hosts cs ds same.1)
same_commands_give_group_same_members k g h hosts cs ds same = absurd same

same_host_groups_have_same_members : (k : Kind) (gs hs : List HostGroup) → AreItemsPairwiseRelated HostGroupIsReadBackAs gs hs → AreItemsPairwiseRelated MemberIsReadBackAs (flat_map (members_in_host_group k) gs) (flat_map (members_in_host_group k) hs)
same_host_groups_have_same_members k [] [] same = tt
same_host_groups_have_same_members k (g ∷ gs) (h ∷ hs) same =
    same_members_appended_are_same (members_in_host_group k g) (members_in_host_group k h) (flat_map (members_in_host_group k) gs) (flat_map (members_in_host_group k) hs)
    (same_commands_give_group_same_members k g h same.0.hosts g.commands h.commands same.0.commands) (same_host_groups_have_same_members k gs hs same.1)
same_host_groups_have_same_members k gs hs same = absurd same

same_user_specs_have_same_members : (k : Kind) (users others : List Member) (gs hs : List HostGroup) → AreItemsPairwiseRelated MemberIsReadBackAs users others → AreItemsPairwiseRelated HostGroupIsReadBackAs gs hs
    → AreItemsPairwiseRelated MemberIsReadBackAs (members_in_user_spec k users gs) (members_in_user_spec k others hs)
same_user_specs_have_same_members User users others gs hs us same = us
same_user_specs_have_same_members Runas users others gs hs us same = same_host_groups_have_same_members Runas gs hs same
same_user_specs_have_same_members Host users others gs hs us same = same_host_groups_have_same_members Host gs hs same
same_user_specs_have_same_members Cmnd users others gs hs us same = same_host_groups_have_same_members Cmnd gs hs same

same_scopes_have_same_alias_names : (k : Kind) (s t : Option Scope) → ScopeIsReadBackAs s t → alias_names_among_members (members_in_scope k t) ≡ alias_names_among_members (members_in_scope k s)
same_scopes_have_same_alias_names k None None same = refl
same_scopes_have_same_alias_names k (Some s) (Some t) same =
    ap (λ (j : Kind). alias_names_among_members (if is_equal_kind k j then t.members else [])) (sym same.0) ∙ by (is_equal_kind k s.kind)
  where
    by : (b : Bool) → alias_names_among_members (if b then t.members else []) ≡ alias_names_among_members (if b then s.members else [])
    by true = same_members_have_same_alias_names s.members t.members same.1
    by false = refl
same_scopes_have_same_alias_names k s t same = absurd same

same_nodes_have_same_root_names : (k : Kind) (n m : Node) → NodeIsReadBackAs n m → root_names_in_node k m ≡ root_names_in_node k n
same_nodes_have_same_root_names k (node.Defaults s params) (node.Defaults t others) same = same_scopes_have_same_alias_names k s t same.0
same_nodes_have_same_root_names k (node.Alias j ds) (node.Alias i es) same = refl
same_nodes_have_same_root_names k (node.Spec users groups) (node.Spec others places) same =
    same_members_have_same_alias_names (members_in_user_spec k users groups) (members_in_user_spec k others places) (same_user_specs_have_same_members k users others groups places same.0 same.1)
same_nodes_have_same_root_names k n m same = absurd same

same_node_lists_have_same_root_names : (k : Kind) (ns ms : List Node) → AreItemsPairwiseRelated NodeIsReadBackAs ns ms → flat_map (root_names_in_node k) ms ≡ flat_map (root_names_in_node k) ns
same_node_lists_have_same_root_names k [] [] same = refl
same_node_lists_have_same_root_names k (n ∷ ns) (m ∷ ms) same = ap₂ (λ (x y : List AliasName). x ++ y) (same_nodes_have_same_root_names k n m same.0) (same_node_lists_have_same_root_names k ns ms same.1)
same_node_lists_have_same_root_names k ns ms same = absurd same

-- ---- commands that say all that holds of them

own_runas_names_are_in_inherited_runas : (own before : Option RunasSpec) (x : AliasName) → ListHasElement (alias_names_among_members (members_of_runas own)) x → ListHasElement (alias_names_among_members (members_of_runas (option_or own before))) x
own_runas_names_are_in_inherited_runas None before x h = absurd h
own_runas_names_are_in_inherited_runas (Some r) before x h = h

inherited_runas_names_are_own_or_before : (own before : Option RunasSpec) (x : AliasName) → ListHasElement (alias_names_among_members (members_of_runas (option_or own before))) x
    → ListHasElement (alias_names_among_members (members_of_runas before)) x ⊎ ListHasElement (alias_names_among_members (members_of_runas own)) x
inherited_runas_names_are_own_or_before None before x h = inl h
inherited_runas_names_are_own_or_before (Some r) before x h = inr h

abbrev pub runas_members_of_commands : List CmdSpec → List Member
runas_members_of_commands cs = flat_map (λ (c : CmdSpec). members_of_runas c.runas) cs

runas_names_stay_in_effective_commands : (h : AccumulatedCommandSettings) (cs : List CmdSpec) (x : AliasName) → ListHasElement (alias_names_among_members (runas_members_of_commands cs)) x → ListHasElement (alias_names_among_members (runas_members_of_commands (map effective_command (commands_with_settings h cs)))) x
runas_names_stay_in_effective_commands h [] x has = absurd has
runas_names_stay_in_effective_commands h (c ∷ cs) x has = elim (name_among_appended_members_is_in_either (members_of_runas c.runas) (runas_members_of_commands cs) x has) [
  | inl first ↦ name_among_left_members_is_in_appended (members_of_runas (option_or c.runas h.runas)) (runas_members_of_commands (map effective_command (commands_with_settings (settings_after_command h c) cs))) x (own_runas_names_are_in_inherited_runas c.runas h.runas x first)
  | inr rest ↦ name_among_right_members_is_in_appended (members_of_runas (option_or c.runas h.runas)) (runas_members_of_commands (map effective_command (commands_with_settings (settings_after_command h c) cs))) x (runas_names_stay_in_effective_commands (settings_after_command h c) cs x rest)
]

effective_runas_names_are_inherited_or_own : (h : AccumulatedCommandSettings) (cs : List CmdSpec) (x : AliasName) → ListHasElement (alias_names_among_members (runas_members_of_commands (map effective_command (commands_with_settings h cs)))) x
    → ListHasElement (alias_names_among_members (members_of_runas h.runas)) x ⊎ ListHasElement (alias_names_among_members (runas_members_of_commands cs)) x
effective_runas_names_are_inherited_or_own h [] x has = absurd has
effective_runas_names_are_inherited_or_own h (c ∷ cs) x has = elim (name_among_appended_members_is_in_either (members_of_runas (option_or c.runas h.runas)) (runas_members_of_commands (map effective_command (commands_with_settings (settings_after_command h c) cs))) x has) [
  | inl first ↦ first_of (inherited_runas_names_are_own_or_before c.runas h.runas x first)
  | inr rest ↦ elim (effective_runas_names_are_inherited_or_own (settings_after_command h c) cs x rest) [
    | inl before ↦ first_of (inherited_runas_names_are_own_or_before c.runas h.runas x before)
    | inr later ↦ inr (name_among_right_members_is_in_appended (members_of_runas c.runas) (runas_members_of_commands cs) x later)
  ]
]
  where
    first_of : ListHasElement (alias_names_among_members (members_of_runas h.runas)) x ⊎ ListHasElement (alias_names_among_members (members_of_runas c.runas)) x → ListHasElement (alias_names_among_members (members_of_runas h.runas)) x ⊎ ListHasElement (alias_names_among_members (runas_members_of_commands (c ∷ cs))) x
    first_of (inl before) = inl before
    first_of (inr own) = inr (name_among_left_members_is_in_appended (members_of_runas c.runas) (runas_members_of_commands cs) x own)

effective_commands_keep_members : (h : AccumulatedCommandSettings) (cs : List CmdSpec) → map (λ (c : CmdSpec). c.member) (map effective_command (commands_with_settings h cs)) ≡ map (λ (c : CmdSpec). c.member) cs
effective_commands_keep_members h [] = refl
effective_commands_keep_members h (c ∷ cs) = ap (λ ms. c.member ∷ ms) (effective_commands_keep_members (settings_after_command h c) cs)

effective_group_keeps_alias_names : (k : Kind) (g : HostGroup) (x : AliasName) → ListHasElement (alias_names_among_members (members_in_host_group k g)) x → ListHasElement (alias_names_among_members (members_in_host_group k (effective_host_group g))) x
effective_group_keeps_alias_names User g x h = h
effective_group_keeps_alias_names Host g x h = h
effective_group_keeps_alias_names Runas g x h = runas_names_stay_in_effective_commands empty_command_settings g.commands x h
effective_group_keeps_alias_names Cmnd g x h = subst (λ ms. ListHasElement (alias_names_among_members ms) x) (sym (effective_commands_keep_members empty_command_settings g.commands)) h

effective_group_names_are_of_group : (k : Kind) (g : HostGroup) (x : AliasName) → ListHasElement (alias_names_among_members (members_in_host_group k (effective_host_group g))) x → ListHasElement (alias_names_among_members (members_in_host_group k g)) x
effective_group_names_are_of_group User g x h = h
effective_group_names_are_of_group Host g x h = h
effective_group_names_are_of_group Runas g x h = elim (effective_runas_names_are_inherited_or_own empty_command_settings g.commands x h) [ inl none ↦ absurd none | inr is ↦ is ]
effective_group_names_are_of_group Cmnd g x h = subst (λ ms. ListHasElement (alias_names_among_members ms) x) (effective_commands_keep_members empty_command_settings g.commands) h

effective_groups_keep_alias_names : (k : Kind) (gs : List HostGroup) (x : AliasName) → ListHasElement (alias_names_among_members (flat_map (members_in_host_group k) gs)) x → ListHasElement (alias_names_among_members (flat_map (members_in_host_group k) (map effective_host_group gs))) x
effective_groups_keep_alias_names k [] x h = h
effective_groups_keep_alias_names k (g ∷ gs) x h = elim (name_among_appended_members_is_in_either (members_in_host_group k g) (flat_map (members_in_host_group k) gs) x h) [
  | inl first ↦ name_among_left_members_is_in_appended (members_in_host_group k (effective_host_group g)) (flat_map (members_in_host_group k) (map effective_host_group gs)) x (effective_group_keeps_alias_names k g x first)
  | inr rest ↦ name_among_right_members_is_in_appended (members_in_host_group k (effective_host_group g)) (flat_map (members_in_host_group k) (map effective_host_group gs)) x (effective_groups_keep_alias_names k gs x rest)
]

effective_groups_names_are_of_groups : (k : Kind) (gs : List HostGroup) (x : AliasName) → ListHasElement (alias_names_among_members (flat_map (members_in_host_group k) (map effective_host_group gs))) x → ListHasElement (alias_names_among_members (flat_map (members_in_host_group k) gs)) x
effective_groups_names_are_of_groups k [] x h = h
effective_groups_names_are_of_groups k (g ∷ gs) x h = elim (name_among_appended_members_is_in_either (members_in_host_group k (effective_host_group g)) (flat_map (members_in_host_group k) (map effective_host_group gs)) x h) [
  | inl first ↦ name_among_left_members_is_in_appended (members_in_host_group k g) (flat_map (members_in_host_group k) gs) x (effective_group_names_are_of_group k g x first)
  | inr rest ↦ name_among_right_members_is_in_appended (members_in_host_group k g) (flat_map (members_in_host_group k) gs) x (effective_groups_names_are_of_groups k gs x rest)
]

effective_spec_has_same_root_names : (k : Kind) (users : List Member) (gs : List HostGroup) (x : AliasName) → ListHasElement (root_names_in_node k (node.Spec users gs)) x ↔ ListHasElement (root_names_in_node k (node.Spec users (map effective_host_group gs))) x
effective_spec_has_same_root_names User users gs x = (λ h. h, λ h. h)
effective_spec_has_same_root_names Runas users gs x = (effective_groups_keep_alias_names Runas gs x, effective_groups_names_are_of_groups Runas gs x)
effective_spec_has_same_root_names Host users gs x = (effective_groups_keep_alias_names Host gs x, effective_groups_names_are_of_groups Host gs x)
effective_spec_has_same_root_names Cmnd users gs x = (effective_groups_keep_alias_names Cmnd gs x, effective_groups_names_are_of_groups Cmnd gs x)

-- ---- all lines

abbrev root_names_of_defaults_in_node : Kind → Node → List AliasName
root_names_of_defaults_in_node k n = flat_map (root_names_in_node k) (defaults_nodes_of_line_node n)

abbrev root_names_of_specs_in_node : Kind → Node → List AliasName
root_names_of_specs_in_node k n = flat_map (root_names_in_node k) (effective_spec_nodes_of_line_node n)

root_name_in_node_is_in_part : (k : Kind) (n : Node) (x : AliasName) → ListHasElement (root_names_in_node k n) x → ListHasElement (root_names_of_defaults_in_node k n) x ⊎ ListHasElement (root_names_of_specs_in_node k n) x
root_name_in_node_is_in_part k (node.Defaults scope params) x h = inl (left_list_element_is_in_appended (root_names_in_node k (node.Defaults scope params)) [] x h)
root_name_in_node_is_in_part k (node.Spec users groups) x h = inr (left_list_element_is_in_appended (root_names_in_node k (node.Spec users (map effective_host_group groups))) [] x ((effective_spec_has_same_root_names k users groups x).0 h))
root_name_in_node_is_in_part k n x h = absurd h

appended_empty_list_adds_no_element : (xs : List AliasName) (x : AliasName) → ListHasElement (xs ++ []) x → ListHasElement xs x
appended_empty_list_adds_no_element xs x h = elim (appended_element_is_in_either_list xs [] x h) [ inl is ↦ is | inr none ↦ absurd none ]

root_name_in_part_is_in_node : (k : Kind) (n : Node) (x : AliasName) → ListHasElement (root_names_of_defaults_in_node k n) x ⊎ ListHasElement (root_names_of_specs_in_node k n) x → ListHasElement (root_names_in_node k n) x
root_name_in_part_is_in_node k (node.Defaults scope params) x (inl h) = appended_empty_list_adds_no_element (root_names_in_node k (node.Defaults scope params)) x h
root_name_in_part_is_in_node k (node.Spec users groups) x (inr h) = (effective_spec_has_same_root_names k users groups x).1 (appended_empty_list_adds_no_element (root_names_in_node k (node.Spec users (map effective_host_group groups))) x h)
root_name_in_part_is_in_node k n x (inl h) = absurd h
root_name_in_part_is_in_node k n x (inr h) = absurd h

root_name_of_nodes_is_in_part : (k : Kind) (ns : List Node) (x : AliasName) → ListHasElement (flat_map (root_names_in_node k) ns) x → ListHasElement (flat_map (root_names_of_defaults_in_node k) ns) x ⊎ ListHasElement (flat_map (root_names_of_specs_in_node k) ns) x
root_name_of_nodes_is_in_part k [] x h = absurd h
root_name_of_nodes_is_in_part k (n ∷ ns) x h = elim (appended_element_is_in_either_list (root_names_in_node k n) (flat_map (root_names_in_node k) ns) x h) [
  | inl first ↦ elim (root_name_in_node_is_in_part k n x first) [
    | inl d ↦ inl (left_list_element_is_in_appended (root_names_of_defaults_in_node k n) (flat_map (root_names_of_defaults_in_node k) ns) x d)
    | inr s ↦ inr (left_list_element_is_in_appended (root_names_of_specs_in_node k n) (flat_map (root_names_of_specs_in_node k) ns) x s)
  ]
  | inr rest ↦ elim (root_name_of_nodes_is_in_part k ns x rest) [
    | inl d ↦ inl (right_list_element_is_in_appended (root_names_of_defaults_in_node k n) (flat_map (root_names_of_defaults_in_node k) ns) x d)
    | inr s ↦ inr (right_list_element_is_in_appended (root_names_of_specs_in_node k n) (flat_map (root_names_of_specs_in_node k) ns) x s)
  ]
]

root_names_of_made_nodes_are_roots : (k : Kind) (made : Node → List AliasName) (x : AliasName) → ((n : Node) → ListHasElement (made n) x → ListHasElement (root_names_in_node k n) x) → (ns : List Node) → ListHasElement (flat_map made ns) x → ListHasElement (flat_map (root_names_in_node k) ns) x
root_names_of_made_nodes_are_roots k made x each [] h = absurd h
root_names_of_made_nodes_are_roots k made x each (n ∷ ns) h = elim (appended_element_is_in_either_list (made n) (flat_map made ns) x h) [
  | inl first ↦ left_list_element_is_in_appended (root_names_in_node k n) (flat_map (root_names_in_node k) ns) x (each n first)
  | inr rest ↦ right_list_element_is_in_appended (root_names_in_node k n) (flat_map (root_names_in_node k) ns) x (root_names_of_made_nodes_are_roots k made x each ns rest)
]

root_names_of_rules_are_in_parts : (k : Kind) (lines : List Line) → flat_map (root_names_in_node k) (rule_nodes_in_print_order (rules_of_policy_lines lines))
    ≡ (flat_map (root_names_of_defaults_in_node k) (nodes_of_lines lines) ++ []) ++ flat_map (root_names_of_specs_in_node k) (nodes_of_lines lines)
root_names_of_rules_are_in_parts k lines =
    three (root_names_in_node k) lines
    ∙ ap₂ (λ (x y : List AliasName). (x ++ y) ++ flat_map (root_names_in_node k) (rules_of_policy_lines lines).specs) (made_each (root_names_in_node k) defaults_nodes_of_line_node (root_names_of_defaults_in_node k) (λ n. refl) lines) (nothing (root_names_in_node k) one_definition_nodes_of_line_node (no_defs (root_names_in_node k) (λ j d. refl)) lines)
    ∙ ap (λ (y : List AliasName). (flat_map (root_names_of_defaults_in_node k) (nodes_of_lines lines) ++ []) ++ y) (made_each (root_names_in_node k) effective_spec_nodes_of_line_node (root_names_of_specs_in_node k) (λ n. refl) lines)

rules_have_same_root_names_as_lines : (k : Kind) (lines : List Line) (x : AliasName) → ListHasElement (flat_map (root_names_in_node k) (nodes_of_lines lines)) x ↔ ListHasElement (flat_map (root_names_in_node k) (rule_nodes_in_print_order (rules_of_policy_lines lines))) x
rules_have_same_root_names_as_lines k lines x = (there, back)
  where
    there : ListHasElement (flat_map (root_names_in_node k) (nodes_of_lines lines)) x → ListHasElement (flat_map (root_names_in_node k) (rule_nodes_in_print_order (rules_of_policy_lines lines))) x
    there h = subst (λ xs. ListHasElement xs x) (sym (root_names_of_rules_are_in_parts k lines)) (elim (root_name_of_nodes_is_in_part k (nodes_of_lines lines) x h) [
      | inl is ↦ left_list_element_is_in_appended (flat_map (root_names_of_defaults_in_node k) (nodes_of_lines lines) ++ []) (flat_map (root_names_of_specs_in_node k) (nodes_of_lines lines)) x (left_list_element_is_in_appended (flat_map (root_names_of_defaults_in_node k) (nodes_of_lines lines)) [] x is)
      | inr is ↦ right_list_element_is_in_appended (flat_map (root_names_of_defaults_in_node k) (nodes_of_lines lines) ++ []) (flat_map (root_names_of_specs_in_node k) (nodes_of_lines lines)) x is
    ])

    back : ListHasElement (flat_map (root_names_in_node k) (rule_nodes_in_print_order (rules_of_policy_lines lines))) x → ListHasElement (flat_map (root_names_in_node k) (nodes_of_lines lines)) x
    back h = elim (appended_element_is_in_either_list (flat_map (root_names_of_defaults_in_node k) (nodes_of_lines lines) ++ []) (flat_map (root_names_of_specs_in_node k) (nodes_of_lines lines)) x (subst (λ xs. ListHasElement xs x) (root_names_of_rules_are_in_parts k lines) h)) [
      | inl is ↦ root_names_of_made_nodes_are_roots k (root_names_of_defaults_in_node k) x (λ n has. root_name_in_part_is_in_node k n x (inl has)) (nodes_of_lines lines) (appended_empty_list_adds_no_element (flat_map (root_names_of_defaults_in_node k) (nodes_of_lines lines)) x is)
      | inr is ↦ root_names_of_made_nodes_are_roots k (root_names_of_specs_in_node k) x (λ n has. root_name_in_part_is_in_node k n x (inr has)) (nodes_of_lines lines) is
    ]

root_alias_names_are_those_of_nodes : (k : Kind) (lines : List Line) → root_alias_names k lines ≡ flat_map (root_names_in_node k) (nodes_of_lines lines)
root_alias_names_are_those_of_nodes k lines = by lines
  where
    by : (ls : List Line) → flat_map (λ (line : Line). root_names_in_node k line.node) ls ≡ flat_map (root_names_in_node k) (nodes_of_lines ls)
    by [] = refl
    by (line ∷ ls) = ap (λ rest. root_names_in_node k line.node ++ rest) (by ls)

-- What is read mentions the names that the policy mentions.
pub printed_rules_keep_root_alias_names : (lines read : List Line) → AreItemsPairwiseRelated NodeIsReadBackAs (rule_nodes_in_print_order (rules_of_policy_lines lines)) (nodes_of_lines read) → (k : Kind) (x : AliasName) → ListHasElement (root_alias_names k lines) x ↔ ListHasElement (root_alias_names k read) x
printed_rules_keep_root_alias_names lines read same k x = (there, back)
  where
    names : flat_map (root_names_in_node k) (nodes_of_lines read) ≡ flat_map (root_names_in_node k) (rule_nodes_in_print_order (rules_of_policy_lines lines))
    names = same_node_lists_have_same_root_names k (rule_nodes_in_print_order (rules_of_policy_lines lines)) (nodes_of_lines read) same

    there : ListHasElement (root_alias_names k lines) x → ListHasElement (root_alias_names k read) x
    there h = subst (λ xs. ListHasElement xs x) (sym names ∙ sym (root_alias_names_are_those_of_nodes k read)) ((rules_have_same_root_names_as_lines k lines x).0 (subst (λ xs. ListHasElement xs x) (root_alias_names_are_those_of_nodes k lines) h))

    back : ListHasElement (root_alias_names k read) x → ListHasElement (root_alias_names k lines) x
    back h = subst (λ xs. ListHasElement xs x) (sym (root_alias_names_are_those_of_nodes k lines)) ((rules_have_same_root_names_as_lines k lines x).1 (subst (λ xs. ListHasElement xs x) (root_alias_names_are_those_of_nodes k read ∙ names) h))
