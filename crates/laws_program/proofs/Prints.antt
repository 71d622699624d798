-- Lines that say the same are printed alike, and so are their rules.
use Rattle.laws_program.proofs.Common.{◌≡◌, ℕ, Bool, true, false, List, [], ◌∷◌, ◌++◌, Option, Some, None, map, refl, sym, ap, ap₂, ◌∙◌, ◌&&◌, codes}
use Rattle.laws_program.proofs.Common.{if◌then◌else◌, option_or, flat_map, map-append, join, Kind, User, Runas, Host, Cmnd, Atom, Member, Def, RunasSpec}
use Rattle.laws_program.proofs.Common.{CmdSpec, HostGroup, Scope, Node, HostName, AccumulatedCommandSettings, empty_command_settings, settings_after_command, given_options_in_order, final_value_of_option, final_value_of_tag, escaped_pattern, is_read_as_host_name}
use Rattle.laws_program.proofs.Common.{printed_line, printed_lines, atom_read_back, MemberIsReadBackAs, AreItemsPairwiseRelated, DefinitionIsReadBackAs, RunasIsReadBackAs, CommandIsReadBackAs, HostGroupIsReadBackAs}
use Rattle.laws_program.proofs.Common.{ScopeIsReadBackAs, NodeIsReadBackAs, given_tags_in_order, effective_command, effective_host_group, effective_spec_nodes_of_line_node, alias_node_of_one_definition, one_definition_nodes_of_line_node}
use Rattle.std.specs.Prelude.{not}
use Rattle.std.specs.List.{join_by}
use Rattle.sudoers_grammar.specs.declared.node.Atom.TheVariants as atom
use Rattle.sudoers_grammar.specs.Node as node
use Rattle.sudoers_grammar.specs.Kind.{alias_line_keyword}
use Rattle.sudoers_match.specs.Heads.{commands_with_settings}
use Rattle.sudoers_cvt_spell.specs.Spelling.{text_with_backslash_if_misread}
use Rattle.sudoers_cvt_spell.specs.Hosts.{printed_host_name_pattern}
use Rattle.sudoers_cvt_spell.specs.Members.{printed_atom, printed_digests, negation_sign, printed_member, printed_member_list}
use Rattle.sudoers_cvt_spell.specs.Commands.{printed_runas_lists, printed_runas_prefix, printed_options, printed_tags, printed_runas_options_tags_and_command}
use Rattle.sudoers_cvt_spell.specs.Parameters.{defaults_scope_mark, printed_scope, printed_params}
use Rattle.sudoers_cvt_spell.specs.Lines.{printed_alias_definition, printed_host_group}
use Rattle.sudoers_cvt_rules.specs.Rules.{defaults_nodes_of_line_node}
use Rattle.laws_program.proofs.ReadBack.{backslash_text_is_read_as_host_name}

-- ---- members

host_read_back_is_printed_same : (first : Bool) (k : Kind) (p : List ℕ) → printed_atom first k (atom_read_back (atom.Host p)) ≡ printed_host_name_pattern p
host_read_back_is_printed_same first k p = by (is_read_as_host_name (escaped_pattern HostName p)) refl
  where
    by : (t : Bool) → is_read_as_host_name (escaped_pattern HostName p) ≡ t → printed_atom first k (if t then atom.Host p else atom.Host (92 ∷ p)) ≡ printed_host_name_pattern p
    by true e = refl
    by false e =
        ap (λ (u : Bool). text_with_backslash_if_misread (not u) (92 ∷ escaped_pattern HostName p)) (backslash_text_is_read_as_host_name (escaped_pattern HostName p))
        ∙ sym (ap (λ (u : Bool). text_with_backslash_if_misread (not u) (escaped_pattern HostName p)) e)

atom_read_back_is_printed_same : (first : Bool) (k : Kind) (a : Atom) → printed_atom first k (atom_read_back a) ≡ printed_atom first k a
atom_read_back_is_printed_same first k (atom.Host p) = host_read_back_is_printed_same first k p
atom_read_back_is_printed_same first k a = refl

same_members_are_printed_alike : (first : Bool) (k : Kind) (m n : Member) → MemberIsReadBackAs m n → printed_member first k m ≡ printed_member first k n
same_members_are_printed_alike first k m n same =
    ap (λ ds. printed_digests ds ++ negation_sign m.negated ++ printed_atom (first && not m.negated) k m.atom) same.digests
    ∙ ap (λ (b : Bool). printed_digests n.digests ++ negation_sign b ++ printed_atom (first && not b) k m.atom) same.negated
    ∙ ap (λ (t : List ℕ). printed_digests n.digests ++ negation_sign n.negated ++ t)
    (sym (atom_read_back_is_printed_same (first && not n.negated) k m.atom) ∙ ap (printed_atom (first && not n.negated) k) same.atom)

same_further_members_are_printed_alike : (k : Kind) (ms ns : List Member) → AreItemsPairwiseRelated MemberIsReadBackAs ms ns
    → flat_map (λ (n : Member). codes ", " ++ printed_member false k n) ms ≡ flat_map (λ (n : Member). codes ", " ++ printed_member false k n) ns
same_further_members_are_printed_alike k [] [] same = refl
same_further_members_are_printed_alike k (m ∷ ms) (n ∷ ns) same = ap₂ (λ (x y : List ℕ). codes ", " ++ x ++ y) (same_members_are_printed_alike false k m n same.0) (same_further_members_are_printed_alike k ms ns same.1)
same_further_members_are_printed_alike k ms ns same = absurd same

same_member_lists_are_printed_alike : (first : Bool) (k : Kind) (ms ns : List Member) → AreItemsPairwiseRelated MemberIsReadBackAs ms ns → printed_member_list first k ms ≡ printed_member_list first k ns
same_member_lists_are_printed_alike first k [] [] same = refl
same_member_lists_are_printed_alike first k (m ∷ ms) (n ∷ ns) same = ap₂ (λ (x y : List ℕ). x ++ y) (same_members_are_printed_alike first k m n same.0) (same_further_members_are_printed_alike k ms ns same.1)
same_member_lists_are_printed_alike first k ms ns same = absurd same

-- ---- things between separators

related_items_after_mark_are_printed_alike : {X : Type 0} → (R : X → X → Type 0) (print : X → List ℕ) (mark : List ℕ) → ((x y : X) → R x y → print x ≡ print y) → (xs ys : List X) → AreItemsPairwiseRelated R xs ys
    → flat_map (λ (x : X). mark ++ print x) xs ≡ flat_map (λ (x : X). mark ++ print x) ys
related_items_after_mark_are_printed_alike R print mark each [] [] same = refl
related_items_after_mark_are_printed_alike R print mark each (x ∷ xs) (y ∷ ys) same = ap₂ (λ (a b : List ℕ). (mark ++ a) ++ b) (each x y same.0) (related_items_after_mark_are_printed_alike R print mark each xs ys same.1)
related_items_after_mark_are_printed_alike R print mark each xs ys same = absurd same

related_items_joined_are_printed_alike : {X : Type 0} → (R : X → X → Type 0) (print : X → List ℕ) (mark : List ℕ) → ((x y : X) → R x y → print x ≡ print y) → (xs ys : List X) → AreItemsPairwiseRelated R xs ys
    → join_by print mark xs ≡ join_by print mark ys
related_items_joined_are_printed_alike R print mark each [] [] same = refl
related_items_joined_are_printed_alike R print mark each (x ∷ xs) (y ∷ ys) same = ap₂ (λ (a b : List ℕ). a ++ b) (each x y same.0) (related_items_after_mark_are_printed_alike R print mark each xs ys same.1)
related_items_joined_are_printed_alike R print mark each xs ys same = absurd same

-- ---- commands

same_runas_lists_are_printed_alike : (us gs vs hs : List Member) → AreItemsPairwiseRelated MemberIsReadBackAs us vs → AreItemsPairwiseRelated MemberIsReadBackAs gs hs → printed_runas_lists us gs ≡ printed_runas_lists vs hs
same_runas_lists_are_printed_alike [] [] [] [] users groups = refl
same_runas_lists_are_printed_alike [] (g ∷ gs) [] (h ∷ hs) users groups = ap (λ (t : List ℕ). codes ": " ++ t) (same_member_lists_are_printed_alike false Runas (g ∷ gs) (h ∷ hs) groups)
same_runas_lists_are_printed_alike (u ∷ us) [] (v ∷ vs) [] users groups = same_member_lists_are_printed_alike false Runas (u ∷ us) (v ∷ vs) users
same_runas_lists_are_printed_alike (u ∷ us) (g ∷ gs) (v ∷ vs) (h ∷ hs) users groups =
    ap₂ (λ (x y : List ℕ). x ++ codes " : " ++ y) (same_member_lists_are_printed_alike false Runas (u ∷ us) (v ∷ vs) users) (same_member_lists_are_printed_alike false Runas (g ∷ gs) (h ∷ hs) groups)
same_runas_lists_are_printed_alike [] gs (v ∷ vs) hs users groups = absurd users
same_runas_lists_are_printed_alike (u ∷ us) gs [] hs users groups = absurd users
same_runas_lists_are_printed_alike us [] vs (h ∷ hs) users groups = absurd groups
same_runas_lists_are_printed_alike us (g ∷ gs) vs [] users groups = absurd groups

same_runas_prefixes_are_printed_alike : (r s : Option RunasSpec) → RunasIsReadBackAs r s → printed_runas_prefix r ≡ printed_runas_prefix s
same_runas_prefixes_are_printed_alike None None same = refl
same_runas_prefixes_are_printed_alike (Some r) (Some s) same = ap (λ (t : List ℕ). codes "(" ++ t ++ codes ")" ++ codes " ") (same_runas_lists_are_printed_alike r.users r.groups s.users s.groups same.0 same.1)
same_runas_prefixes_are_printed_alike r s same = absurd same

same_commands_are_printed_alike : (c d : CmdSpec) → CommandIsReadBackAs c d → printed_runas_options_tags_and_command c ≡ printed_runas_options_tags_and_command d
same_commands_are_printed_alike c d same =
    ap (λ (t : List ℕ). t ++ printed_options c.options ++ printed_tags c.tags ++ printed_member false Cmnd c.member) (same_runas_prefixes_are_printed_alike c.runas d.runas same.runas)
    ∙ ap (λ os. printed_runas_prefix d.runas ++ printed_options os ++ printed_tags c.tags ++ printed_member false Cmnd c.member) same.options
    ∙ ap (λ ts. printed_runas_prefix d.runas ++ printed_options d.options ++ printed_tags ts ++ printed_member false Cmnd c.member) same.tags
    ∙ ap (λ (t : List ℕ). printed_runas_prefix d.runas ++ printed_options d.options ++ printed_tags d.tags ++ t) (same_members_are_printed_alike false Cmnd c.member d.member same.member)

same_host_groups_are_printed_alike : (g h : HostGroup) → HostGroupIsReadBackAs g h → printed_host_group g ≡ printed_host_group h
same_host_groups_are_printed_alike g h same =
    ap₂ (λ (x y : List ℕ). x ++ codes " = " ++ y) (same_member_lists_are_printed_alike false Host g.hosts h.hosts same.hosts)
    (related_items_joined_are_printed_alike CommandIsReadBackAs printed_runas_options_tags_and_command (codes ", ") same_commands_are_printed_alike g.commands h.commands same.commands)

same_runas_over_same_inherited_are_same : (r s p q : Option RunasSpec) → RunasIsReadBackAs r s → RunasIsReadBackAs p q → RunasIsReadBackAs (option_or r p) (option_or s q)
same_runas_over_same_inherited_are_same None None p q own before = before
same_runas_over_same_inherited_are_same (Some r) (Some s) p q own before = own
same_runas_over_same_inherited_are_same r s p q own before = absurd own

same_commands_have_same_effective_commands : (h g : AccumulatedCommandSettings) (cs ds : List CmdSpec) → RunasIsReadBackAs h.runas g.runas → h.options ≡ g.options → h.tags ≡ g.tags → AreItemsPairwiseRelated CommandIsReadBackAs cs ds
    → AreItemsPairwiseRelated CommandIsReadBackAs (map effective_command (commands_with_settings h cs)) (map effective_command (commands_with_settings g ds))
same_commands_have_same_effective_commands h g [] [] runas options tags same = tt
same_commands_have_same_effective_commands h g (c ∷ cs) (d ∷ ds) runas options tags same =
    let head = same_runas_over_same_inherited_are_same c.runas d.runas h.runas g.runas same.0.runas runas in
    let os = ap₂ (λ x y. x ++ y) options same.0.options in
    let ts = ap₂ (λ x y. x ++ y) tags same.0.tags in (
      record { runas = head; options = ap (λ all. given_options_in_order (final_value_of_option all)) os; tags = ap (λ all. given_tags_in_order (final_value_of_tag all)) ts; member = same.0.member },
      same_commands_have_same_effective_commands (settings_after_command h c) (settings_after_command g d) cs ds head os ts same.1,
    )
same_commands_have_same_effective_commands h g cs ds runas options tags same = absurd same

same_groups_have_same_effective_groups : (gs hs : List HostGroup) → AreItemsPairwiseRelated HostGroupIsReadBackAs gs hs → AreItemsPairwiseRelated HostGroupIsReadBackAs (map effective_host_group gs) (map effective_host_group hs)
same_groups_have_same_effective_groups [] [] same = tt
same_groups_have_same_effective_groups (g ∷ gs) (h ∷ hs) same =
    (record { hosts = same.0.hosts; commands = same_commands_have_same_effective_commands empty_command_settings empty_command_settings g.commands h.commands tt refl refl same.0.commands }, same_groups_have_same_effective_groups gs hs same.1)
same_groups_have_same_effective_groups gs hs same = absurd same

-- ---- lines

same_scopes_are_printed_alike : (s t : Option Scope) → ScopeIsReadBackAs s t → printed_scope s ≡ printed_scope t
same_scopes_are_printed_alike None None same = refl
same_scopes_are_printed_alike (Some s) (Some t) same =
    ap (λ (k : Kind). defaults_scope_mark k ++ printed_member_list false k s.members) same.0
    ∙ ap (λ (l : List ℕ). defaults_scope_mark t.kind ++ l) (same_member_lists_are_printed_alike false t.kind s.members t.members same.1)
same_scopes_are_printed_alike s t same = absurd same

same_definitions_are_printed_alike : (k : Kind) (d e : Def) → DefinitionIsReadBackAs d e → printed_alias_definition k d ≡ printed_alias_definition k e
same_definitions_are_printed_alike k d e same = ap₂ (λ (x y : List ℕ). x ++ codes " = " ++ y) same.name (same_member_lists_are_printed_alike false k d.members e.members same.members)

same_definition_lists_are_printed_alike : (k : Kind) (ds es : List Def) → AreItemsPairwiseRelated DefinitionIsReadBackAs ds es → map printed_line (map (alias_node_of_one_definition k) ds) ≡ map printed_line (map (alias_node_of_one_definition k) es)
same_definition_lists_are_printed_alike k [] [] same = refl
same_definition_lists_are_printed_alike k (d ∷ ds) (e ∷ es) same = ap₂ (λ (x : List ℕ) (y : List (List ℕ)). (alias_line_keyword k ++ codes " " ++ (x ++ []) ++ codes "\n") ∷ y) (same_definitions_are_printed_alike k d e same.0) (same_definition_lists_are_printed_alike k ds es same.1)
same_definition_lists_are_printed_alike k ds es same = absurd same

-- Lines that say the same give rules that are printed alike.
pub same_nodes_print_defaults_alike : (n m : Node) → NodeIsReadBackAs n m → map printed_line (defaults_nodes_of_line_node n) ≡ map printed_line (defaults_nodes_of_line_node m)
same_nodes_print_defaults_alike (node.Defaults scope params) (node.Defaults other settings) same =
    ap₂ (λ (x y : List ℕ). (let line : List ℕ = codes "Defaults" ++ x ++ codes " " ++ y ++ codes "\n" in line) ∷ []) (same_scopes_are_printed_alike scope other same.0) (ap printed_params same.1)
same_nodes_print_defaults_alike (node.Alias k ds) (node.Alias j es) same = refl
same_nodes_print_defaults_alike (node.Spec users groups) (node.Spec others places) same = refl
same_nodes_print_defaults_alike n m same = absurd same

pub same_nodes_print_definitions_alike : (n m : Node) → NodeIsReadBackAs n m → map printed_line (one_definition_nodes_of_line_node n) ≡ map printed_line (one_definition_nodes_of_line_node m)
same_nodes_print_definitions_alike (node.Defaults scope params) (node.Defaults other settings) same = refl
same_nodes_print_definitions_alike (node.Alias k ds) (node.Alias j es) same = same_definition_lists_are_printed_alike k ds es same.1 ∙ ap (λ (i : Kind). map printed_line (map (alias_node_of_one_definition i) es)) same.0
same_nodes_print_definitions_alike (node.Spec users groups) (node.Spec others places) same = refl
same_nodes_print_definitions_alike n m same = absurd same

pub same_nodes_print_user_specs_alike : (n m : Node) → NodeIsReadBackAs n m → map printed_line (effective_spec_nodes_of_line_node n) ≡ map printed_line (effective_spec_nodes_of_line_node m)
same_nodes_print_user_specs_alike (node.Defaults scope params) (node.Defaults other settings) same = refl
same_nodes_print_user_specs_alike (node.Alias k ds) (node.Alias j es) same = refl
same_nodes_print_user_specs_alike (node.Spec users groups) (node.Spec others places) same =
    ap₂ (λ (x y : List ℕ). (let line : List ℕ = x ++ codes " " ++ y ++ codes "\n" in line) ∷ []) (same_member_lists_are_printed_alike true User users others same.0)
    (related_items_joined_are_printed_alike HostGroupIsReadBackAs printed_host_group (codes " : ") same_host_groups_are_printed_alike (map effective_host_group groups) (map effective_host_group places) (same_groups_have_same_effective_groups groups places same.1))
same_nodes_print_user_specs_alike n m same = absurd same

-- Lines are printed alike where each of them is.
pub printed_lines_are_join_of_each : (ns : List Node) → printed_lines ns ≡ join (map printed_line ns)
printed_lines_are_join_of_each [] = refl
printed_lines_are_join_of_each (n ∷ ns) = ap (λ (t : List ℕ). printed_line n ++ t) (printed_lines_are_join_of_each ns)

pub nodes_of_same_nodes_are_printed_alike : (from : Node → List Node) → ((n m : Node) → NodeIsReadBackAs n m → map printed_line (from n) ≡ map printed_line (from m)) → (ns ms : List Node) → AreItemsPairwiseRelated NodeIsReadBackAs ns ms
    → map printed_line (flat_map from ns) ≡ map printed_line (flat_map from ms)
nodes_of_same_nodes_are_printed_alike from each [] [] same = refl
nodes_of_same_nodes_are_printed_alike from each (n ∷ ns) (m ∷ ms) same =
    map-append printed_line (from n) (flat_map from ns)
    ∙ ap₂ (λ (x y : List (List ℕ)). x ++ y) (each n m same.0) (nodes_of_same_nodes_are_printed_alike from each ns ms same.1)
    ∙ sym (map-append printed_line (from m) (flat_map from ms))
nodes_of_same_nodes_are_printed_alike from each ns ms same = absurd same
