-- Policies whose lines are counterparts, the definitions of aliases aside: the members of their lists stand for each other.
use Rattle.sudoers_match.proofs.Common.{AreAllRunasDefaultsAlike, AreCommandsWithSettingsAlike, AreDefaultsScopesAlike, AreHostGroupsAlike, AreRunasDefaultsAlike, AreRunasMemberListsAlike, AreRunasSpecsAlike}
use Rattle.sudoers_match.proofs.Common.{AreScopeListsAlike, AreUserSpecsAlike, Atom, Bool, CmdSpec, Cmnd, DefinitionMentionsName, HasCyclicAliasReachedFromSpecOrDefaults, HaveSameFlatListAfterRewrite, Host, HostGroup, IsMemberCounterpart}
use Rattle.sudoers_match.proofs.Common.{IsPointwiseRelated, IsReachedFromSpecOrDefaults, IsReachedByChainOfSteps, KeepsAliasCounterparts, Kind, Line, List, ListHasElement, ListLeadsToCyclicAlias, Member, Node, None, Option, Param, Runas, RunasSpec}
use Rattle.sudoers_match.proofs.Common.{Scope, AccumulatedCommandSettings, Some, User, UserSpec, [], alias_names_among_members, alias_names_of_atom, ap, ap₂, commands_with_settings, cons_option, counterparts_alike}
use Rattle.sudoers_match.proofs.Common.{empty_command_settings, false, filter_map, final_tags_of, final_values_of_options, flat_map, if◌then◌else◌, map, members_in_host_group, members_in_scope}
use Rattle.sudoers_match.proofs.Common.{members_of_kind_in_line, members_of_runas, node_unless_alias_line, nodes_without_alias_lines, option_or, refl, root_alias_names, root_names_in_node, runas_defaults_in_node}
use Rattle.sudoers_match.proofs.Common.{runas_defaults_in_params, runas_defaults_of_lines, kinds_tested_equal_are_equal, setting_with_scope, settings_after_command, subst, sym, true, user_spec_in_node, user_specs_of_lines, ℕ, ◌++◌}
use Rattle.sudoers_match.proofs.Common.{◌∙◌, ◌∷◌, ◌≡◌}
use Rattle.std.proofs.lemmas.List.Concat.{flat_map-append}
use Rattle.sudoers_grammar.specs.Node as node
use Rattle.sudoers_tree.specs.Definition.{is_equal_kind, definitions_of_lines}
use Rattle.sudoers_match.proofs.Alike.{pointwise_relation_is_weakened, appended_related_lists_are_related}

-- For lists of each kind: which atoms of the second policy stand for which of the first.
abbrev pub AtomCounterpartRelation : Type 1
AtomCounterpartRelation = Kind → Atom → Atom → Type 0

-- ---- lines that are counterparts

abbrev pub AreMemberListCounterparts : AtomCounterpartRelation → Kind → List Member → List Member → Type 0
AreMemberListCounterparts S k ms ns = IsPointwiseRelated (IsMemberCounterpart (S k)) ms ns

abbrev pub AreRunasCounterparts : AtomCounterpartRelation → Option RunasSpec → Option RunasSpec → Type 0
AreRunasCounterparts S None None = Unit {0}
AreRunasCounterparts S None (Some s) = ⊥
AreRunasCounterparts S (Some r) None = ⊥
AreRunasCounterparts S (Some r) (Some s) = AreMemberListCounterparts S Runas r.users s.users × AreMemberListCounterparts S Runas r.groups s.groups

pub record IsCommandCounterpart (S : AtomCounterpartRelation) (c d : CmdSpec) : Type 0 where
  pub runas : AreRunasCounterparts S c.runas d.runas
  pub options : d.options ≡ c.options
  pub tags : d.tags ≡ c.tags
  pub member : IsMemberCounterpart (S Cmnd) c.member d.member

pub record IsHostGroupCounterpart (S : AtomCounterpartRelation) (g h : HostGroup) : Type 0 where
  pub hosts : AreMemberListCounterparts S Host g.hosts h.hosts
  pub commands : IsPointwiseRelated (IsCommandCounterpart S) g.commands h.commands

-- what holds of a command, and the command with it
pub record IsSettingsCounterpart (S : AtomCounterpartRelation) (h g : AccumulatedCommandSettings) : Type 0 where
  pub runas : AreRunasCounterparts S h.runas g.runas
  pub options : g.options ≡ h.options
  pub tags : g.tags ≡ h.tags

abbrev pub IsCommandWithSettingsCounterpart : AtomCounterpartRelation → AccumulatedCommandSettings × Member → AccumulatedCommandSettings × Member → Type 0
IsCommandWithSettingsCounterpart S c d = IsSettingsCounterpart S c.0 d.0 × IsMemberCounterpart (S Cmnd) c.1 d.1

abbrev pub AreScopeCounterparts : AtomCounterpartRelation → Option Scope → Option Scope → Type 0
AreScopeCounterparts S None None = Unit {0}
AreScopeCounterparts S None (Some t) = ⊥
AreScopeCounterparts S (Some s) None = ⊥
AreScopeCounterparts S (Some s) (Some t) = (t.kind ≡ s.kind) × AreMemberListCounterparts S s.kind s.members t.members

-- The lines say the same, with members that stand for each other. What definitions of aliases say is not compared.
abbrev pub IsLineCounterpart : AtomCounterpartRelation → Node → Node → Type 0
IsLineCounterpart S (node.Defaults scope params) (node.Defaults other settings) = AreScopeCounterparts S scope other × (settings ≡ params)
IsLineCounterpart S (node.Spec users groups) (node.Spec peers places) = AreMemberListCounterparts S User users peers × IsPointwiseRelated (IsHostGroupCounterpart S) groups places
IsLineCounterpart S (node.Alias k defs) (node.Alias j others) = Unit {0}
IsLineCounterpart S node.Blank node.Blank = Unit {0}
IsLineCounterpart S node.Comment node.Comment = Unit {0}
IsLineCounterpart S (node.Include dir path) (node.Include folder name) = Unit {0}
IsLineCounterpart S n m = ⊥

-- ---- lists of lines

related_lists_have_related_flat_maps : {W X Y Z : Type 0} (R : W → X → Type 0) (Q : Y → Z → Type 0) (f : W → List Y) (g : X → List Z)
    → ((w : W) (x : X) → R w x → IsPointwiseRelated Q (f w) (g x)) → (ws : List W) (xs : List X) → IsPointwiseRelated R ws xs → IsPointwiseRelated Q (flat_map f ws) (flat_map g xs)
related_lists_have_related_flat_maps R Q f g each [] [] all = tt
related_lists_have_related_flat_maps R Q f g each [] (x ∷ xs) all = absurd all
related_lists_have_related_flat_maps R Q f g each (w ∷ ws) [] all = absurd all
related_lists_have_related_flat_maps R Q f g each (w ∷ ws) (x ∷ xs) all =
    appended_related_lists_are_related Q (f w) (g x) (flat_map f ws) (flat_map g xs) (each w x all.0) (related_lists_have_related_flat_maps R Q f g each ws xs all.1)

related_lists_have_related_maps : {W X Y Z : Type 0} (R : W → X → Type 0) (Q : Y → Z → Type 0) (f : W → Y) (g : X → Z)
    → ((w : W) (x : X) → R w x → Q (f w) (g x)) → (ws : List W) (xs : List X) → IsPointwiseRelated R ws xs → IsPointwiseRelated Q (map f ws) (map g xs)
related_lists_have_related_maps R Q f g each [] [] all = tt
related_lists_have_related_maps R Q f g each [] (x ∷ xs) all = absurd all
related_lists_have_related_maps R Q f g each (w ∷ ws) [] all = absurd all
related_lists_have_related_maps R Q f g each (w ∷ ws) (x ∷ xs) all = (each w x all.0, related_lists_have_related_maps R Q f g each ws xs all.1)

-- What is made of lines, and not of definitions of aliases, is made of the lines without them.
module _ {Y : Type 0} (made : Node → List Y) (none : (k : _) (defs : _) → made (node.Alias k defs) ≡ []) where
  first_made : (n : Node) (rest : List Node) → made n ++ flat_map made rest ≡ flat_map made (cons_option (node_unless_alias_line n) rest)
  first_made (node.Alias k defs) rest = ap (λ (ys : List Y). ys ++ flat_map made rest) (none k defs)
  first_made n rest = refl

  pub made_beside : (lines : List Line) → flat_map (λ (line : Line). made line.node) lines ≡ flat_map made (nodes_without_alias_lines lines)
  made_beside lines = by lines
    where
      by : (ls : List Line) → flat_map (λ (line : Line). made line.node) ls ≡ flat_map made (filter_map (λ (line : Line). node_unless_alias_line line.node) ls)
      by [] = refl
      by (line ∷ ls) = ap (λ (ys : List Y). made line.node ++ ys) (by ls) ∙ first_made line.node (filter_map (λ (l : Line). node_unless_alias_line l.node) ls)

first_user_spec_ignores_alias_lines : (n : Node) (rest : List Node) → cons_option (user_spec_in_node n) (filter_map user_spec_in_node rest) ≡ filter_map user_spec_in_node (cons_option (node_unless_alias_line n) rest)
first_user_spec_ignores_alias_lines (node.Alias k defs) rest = refl
first_user_spec_ignores_alias_lines n rest = refl

user_specs_are_those_beside_alias_lines : (lines : List Line) → user_specs_of_lines lines ≡ filter_map user_spec_in_node (nodes_without_alias_lines lines)
user_specs_are_those_beside_alias_lines lines = by lines
  where
    by : (ls : List Line) → filter_map (λ (line : Line). user_spec_in_node line.node) ls ≡ filter_map user_spec_in_node (filter_map (λ (line : Line). node_unless_alias_line line.node) ls)
    by [] = refl
    by (line ∷ ls) = ap (cons_option (user_spec_in_node line.node)) (by ls) ∙ first_user_spec_ignores_alias_lines line.node (filter_map (λ (l : Line). node_unless_alias_line l.node) ls)

-- ---- the members of the lists of a kind

-- those of a user specification and of a Defaults line
abbrev pub root_members_in_node : Kind → Node → List Member
root_members_in_node k (node.Spec users groups) = members_of_kind_in_line k (node.Spec users groups)
root_members_in_node k (node.Defaults scope params) = members_of_kind_in_line k (node.Defaults scope params)
root_members_in_node k (node.Alias j defs) = []
root_members_in_node k node.Blank = []
root_members_in_node k node.Comment = []
root_members_in_node k (node.Include dir path) = []

abbrev pub root_members_of_lines : Kind → List Line → List Member
root_members_of_lines k lines = flat_map (λ (line : Line). root_members_in_node k line.node) lines

root_names_in_node_are_of_members : (k : Kind) (n : Node) → root_names_in_node k n ≡ alias_names_among_members (root_members_in_node k n)
root_names_in_node_are_of_members k (node.Spec users groups) = refl
root_names_in_node_are_of_members k (node.Defaults scope params) = refl
root_names_in_node_are_of_members k n = refl

-- They mention what user specifications and Defaults lines mention.
pub root_alias_names_are_of_root_members : (k : Kind) (lines : List Line) → root_alias_names k lines ≡ alias_names_among_members (root_members_of_lines k lines)
root_alias_names_are_of_root_members k [] = refl
root_alias_names_are_of_root_members k (line ∷ lines) =
    ap₂ (λ (xs ys : List (List ℕ)). xs ++ ys) (root_names_in_node_are_of_members k line.node) (root_alias_names_are_of_root_members k lines)
    ∙ sym (flat_map-append (λ (m : Member). alias_names_of_atom m.atom) (root_members_in_node k line.node) (root_members_of_lines k lines))

pub root_members_are_those_beside_alias_lines : (k : Kind) (lines : List Line) → root_members_of_lines k lines ≡ flat_map (root_members_in_node k) (nodes_without_alias_lines lines)
root_members_are_those_beside_alias_lines k lines = made_beside (root_members_in_node k) (λ j defs. refl) lines

-- A reachable alias is cyclic exactly if these members of some kind lead to a cyclic alias.
pub reachable_cycle_is_reached_by_root_members : (lines : List Line) → HasCyclicAliasReachedFromSpecOrDefaults lines → (k : Kind) × ListLeadsToCyclicAlias k lines (root_members_of_lines k lines)
reachable_cycle_is_reached_by_root_members lines h = (
  h.alias.kind,
  record {
    alias = h.alias;
    stands = h.stands;
    of_kind = refl;
    reached = subst (λ names. IsReachedByChainOfSteps (DefinitionMentionsName h.alias.kind (definitions_of_lines lines)) (ListHasElement names) h.alias.def.name) (root_alias_names_are_of_root_members h.alias.kind lines) h.reached;
    cyclic = h.cyclic;
  },
)

pub cycle_of_root_members_is_reachable : (lines : List Line) (k : Kind) → ListLeadsToCyclicAlias k lines (root_members_of_lines k lines) → HasCyclicAliasReachedFromSpecOrDefaults lines
cycle_of_root_members_is_reachable lines k l = record {
  alias = l.alias;
  stands = l.stands;
  reached = subst (λ (j : Kind). IsReachedFromSpecOrDefaults j lines l.alias.def.name) (sym l.of_kind)
      (subst (λ names. IsReachedByChainOfSteps (DefinitionMentionsName k (definitions_of_lines lines)) (ListHasElement names) l.alias.def.name) (sym (root_alias_names_are_of_root_members k lines)) l.reached);
  cyclic = l.cyclic;
}

-- ---- the members of counterparts

module _ (S : AtomCounterpartRelation) where
  group_members : (k : Kind) (g h : HostGroup) → IsHostGroupCounterpart S g h → AreMemberListCounterparts S k (members_in_host_group k g) (members_in_host_group k h)
  group_members User g h same = tt
  group_members Runas g h same =
      related_lists_have_related_flat_maps (IsCommandCounterpart S) (IsMemberCounterpart (S Runas)) (λ (c : CmdSpec). members_of_runas c.runas) (λ (c : CmdSpec). members_of_runas c.runas)
      (λ c d is. runas_members c.runas d.runas is.runas) g.commands h.commands same.commands
    where
      runas_members : (r s : Option RunasSpec) → AreRunasCounterparts S r s → AreMemberListCounterparts S Runas (members_of_runas r) (members_of_runas s)
      runas_members None None is = tt
      runas_members None (Some s) is = absurd is
      runas_members (Some r) None is = absurd is
      runas_members (Some r) (Some s) is = appended_related_lists_are_related (IsMemberCounterpart (S Runas)) r.users s.users r.groups s.groups is.0 is.1
  group_members Host g h same = same.hosts
  group_members Cmnd g h same =
      related_lists_have_related_maps (IsCommandCounterpart S) (IsMemberCounterpart (S Cmnd)) (λ (c : CmdSpec). c.member) (λ (c : CmdSpec). c.member)
      (λ c d is. is.member) g.commands h.commands same.commands

  groups_members : (k : Kind) (gs hs : List HostGroup) → IsPointwiseRelated (IsHostGroupCounterpart S) gs hs
      → AreMemberListCounterparts S k (flat_map (members_in_host_group k) gs) (flat_map (members_in_host_group k) hs)
  groups_members k gs hs same = related_lists_have_related_flat_maps (IsHostGroupCounterpart S) (IsMemberCounterpart (S k)) (members_in_host_group k) (members_in_host_group k) (group_members k) gs hs same

  scope_members : (k : Kind) (s t : Option Scope) → AreScopeCounterparts S s t → AreMemberListCounterparts S k (members_in_scope k s) (members_in_scope k t)
  scope_members k None None same = tt
  scope_members k None (Some t) same = absurd same
  scope_members k (Some s) None same = absurd same
  scope_members k (Some s) (Some t) same =
      subst (λ (j : Kind). AreMemberListCounterparts S k (if is_equal_kind k s.kind then s.members else []) (if is_equal_kind k j then t.members else [])) (sym same.0)
      (by (is_equal_kind k s.kind) refl)
    where
      by : (b : Bool) → is_equal_kind k s.kind ≡ b → AreMemberListCounterparts S k (if b then s.members else []) (if b then t.members else [])
      by true is = subst (λ (j : Kind). AreMemberListCounterparts S j s.members t.members) (sym (kinds_tested_equal_are_equal k s.kind is)) same.1
      by false is = tt

  line_members : (k : Kind) (n m : Node) → IsLineCounterpart S n m → AreMemberListCounterparts S k (root_members_in_node k n) (root_members_in_node k m)
  line_members k (node.Defaults scope params) (node.Defaults other settings) same = scope_members k scope other same.0
  line_members User (node.Spec users groups) (node.Spec peers places) same = same.0
  line_members Runas (node.Spec users groups) (node.Spec peers places) same = groups_members Runas groups places same.1
  line_members Host (node.Spec users groups) (node.Spec peers places) same = groups_members Host groups places same.1
  line_members Cmnd (node.Spec users groups) (node.Spec peers places) same = groups_members Cmnd groups places same.1
  line_members k (node.Alias i defs) (node.Alias j others) same = tt
  line_members k node.Blank node.Blank same = tt
  line_members k node.Comment node.Comment same = tt
  line_members k (node.Include dir path) (node.Include folder name) same = tt
  line_members k n m same = absurd same

  -- ---- commands, each with all that holds of it

  inherited : (own other before was : Option RunasSpec) → AreRunasCounterparts S own other → AreRunasCounterparts S before was
      → AreRunasCounterparts S (option_or own before) (option_or other was)
  inherited None None before was same old = old
  inherited None (Some s) before was same old = absurd same
  inherited (Some r) None before was same old = absurd same
  inherited (Some r) (Some s) before was same old = same

  inherit_alike : (h g : AccumulatedCommandSettings) (c d : CmdSpec) → IsSettingsCounterpart S h g → IsCommandCounterpart S c d → IsSettingsCounterpart S (settings_after_command h c) (settings_after_command g d)
  inherit_alike h g c d old same = record {
    runas = inherited c.runas d.runas h.runas g.runas same.runas old.runas;
    options = ap₂ (λ xs ys. xs ++ ys) old.options same.options;
    tags = ap₂ (λ xs ys. xs ++ ys) old.tags same.tags;
  }

  filled_alike : (h g : AccumulatedCommandSettings) → IsSettingsCounterpart S h g → (cs ds : List CmdSpec) → IsPointwiseRelated (IsCommandCounterpart S) cs ds
      → IsPointwiseRelated (IsCommandWithSettingsCounterpart S) (commands_with_settings h cs) (commands_with_settings g ds)
  filled_alike h g old [] [] same = tt
  filled_alike h g old [] (d ∷ ds) same = absurd same
  filled_alike h g old (c ∷ cs) [] same = absurd same
  filled_alike h g old (c ∷ cs) (d ∷ ds) same =
      let next = inherit_alike h g c d old same.0 in
      ((next, same.0.member), filled_alike (settings_after_command h c) (settings_after_command g d) next cs ds same.1)

  -- ---- what counterparts say

  module _ (write : Atom → Atom) (lines others : List Line) (keeps : (k : Kind) → KeepsAliasCounterparts (S k) write k lines others) where
    lists : (k : Kind) (ms ns : List Member) → AreMemberListCounterparts S k ms ns → HaveSameFlatListAfterRewrite write k lines others ms ns
    lists k = counterparts_alike (S k) write k lines others (keeps k)

    runas_lists : (ms ns : List Member) → AreMemberListCounterparts S Runas ms ns → AreRunasMemberListsAlike write lines others ms ns
    runas_lists [] [] same = tt
    runas_lists [] (n ∷ ns) same = absurd same
    runas_lists (m ∷ ms) [] same = absurd same
    runas_lists (m ∷ ms) (n ∷ ns) same = lists Runas (m ∷ ms) (n ∷ ns) same

    runas_alike : (r s : Option RunasSpec) → AreRunasCounterparts S r s → AreRunasSpecsAlike write lines others r s
    runas_alike None None same = tt
    runas_alike None (Some s) same = absurd same
    runas_alike (Some r) None same = absurd same
    runas_alike (Some r) (Some s) same = (runas_lists r.users s.users same.0, runas_lists r.groups s.groups same.1)

    command_alike : (c d : AccumulatedCommandSettings × Member) → IsCommandWithSettingsCounterpart S c d → AreCommandsWithSettingsAlike write lines others c d
    command_alike c d same = record {
      head =
          record {
            runas = runas_alike c.0.runas d.0.runas same.0.runas;
            options = ap final_values_of_options same.0.options;
            tags = ap final_tags_of same.0.tags;
          };
      member = lists Cmnd (c.1 ∷ []) (d.1 ∷ []) (same.1, tt);
    }

    group_alike : (g h : HostGroup) → IsHostGroupCounterpart S g h → AreHostGroupsAlike write lines others g h
    group_alike g h same = record {
      hosts = lists Host g.hosts h.hosts same.hosts;
      commands = pointwise_relation_is_weakened (IsCommandWithSettingsCounterpart S) (AreCommandsWithSettingsAlike write lines others) command_alike (commands_with_settings empty_command_settings g.commands) (commands_with_settings empty_command_settings h.commands)
          (filled_alike empty_command_settings empty_command_settings (record { runas = tt; options = refl; tags = refl }) g.commands h.commands same.commands);
    }

    first_specs : (n m : Node) → IsLineCounterpart S n m → (ss ts : List UserSpec) → IsPointwiseRelated (AreUserSpecsAlike write lines others) ss ts
        → IsPointwiseRelated (AreUserSpecsAlike write lines others) (cons_option (user_spec_in_node n) ss) (cons_option (user_spec_in_node m) ts)
    first_specs (node.Spec users groups) (node.Spec peers places) same ss ts all = (
      record {
        users = lists User users peers same.0;
        groups = pointwise_relation_is_weakened (IsHostGroupCounterpart S) (AreHostGroupsAlike write lines others) group_alike groups places same.1;
      },
      all,
    )
    first_specs (node.Defaults scope params) (node.Defaults other settings) same ss ts all = all
    first_specs (node.Alias k defs) (node.Alias j peers) same ss ts all = all
    first_specs node.Blank node.Blank same ss ts all = all
    first_specs node.Comment node.Comment same ss ts all = all
    first_specs (node.Include dir path) (node.Include folder name) same ss ts all = all
    first_specs n m same ss ts all = absurd same

    each_spec : (ns ms : List Node) → IsPointwiseRelated (IsLineCounterpart S) ns ms → IsPointwiseRelated (AreUserSpecsAlike write lines others) (filter_map user_spec_in_node ns) (filter_map user_spec_in_node ms)
    each_spec [] [] all = tt
    each_spec [] (m ∷ ms) all = absurd all
    each_spec (n ∷ ns) [] all = absurd all
    each_spec (n ∷ ns) (m ∷ ms) all = first_specs n m all.0 (filter_map user_spec_in_node ns) (filter_map user_spec_in_node ms) (each_spec ns ms all.1)

    -- ---- settings

    abbrev SettingsAlike : Option Scope × List ℕ → Option Scope × List ℕ → Type 0
    SettingsAlike s t = AreRunasDefaultsAlike write lines others s t

    counted_alike : (k : Kind) (ms ns : List Member) → AreMemberListCounterparts S k ms ns → AreScopeListsAlike write lines others k ms ns
    counted_alike User ms ns same = lists User ms ns same
    counted_alike Host ms ns same = lists Host ms ns same
    counted_alike Runas ms ns same = tt
    counted_alike Cmnd ms ns same = tt

    scope_alike : (s t : Option Scope) → AreScopeCounterparts S s t → AreDefaultsScopesAlike write lines others s t
    scope_alike None None same = tt
    scope_alike None (Some t) same = absurd same
    scope_alike (Some s) None same = absurd same
    scope_alike (Some s) (Some t) same = (same.0, counted_alike s.kind s.members t.members same.1)

    values_alike : (s t : Option Scope) → AreDefaultsScopesAlike write lines others s t → (values : List (List ℕ))
        → IsPointwiseRelated SettingsAlike (map (setting_with_scope s) values) (map (setting_with_scope t) values)
    values_alike s t alike [] = tt
    values_alike s t alike (value ∷ values) = (record { scope = alike; value = refl }, values_alike s t alike values)

    settings_alike : (n m : Node) → IsLineCounterpart S n m → IsPointwiseRelated SettingsAlike (runas_defaults_in_node n) (runas_defaults_in_node m)
    settings_alike (node.Defaults s params) (node.Defaults t settings) same =
        subst (λ (ps : List Param). IsPointwiseRelated SettingsAlike (runas_defaults_in_node (node.Defaults s params)) (runas_defaults_in_node (node.Defaults t ps))) (sym same.1)
        (values_alike s t (scope_alike s t same.0) (runas_defaults_in_params params))
    settings_alike (node.Spec users groups) (node.Spec peers places) same = tt
    settings_alike (node.Alias k defs) (node.Alias j peers) same = tt
    settings_alike node.Blank node.Blank same = tt
    settings_alike node.Comment node.Comment same = tt
    settings_alike (node.Include dir path) (node.Include folder name) same = tt
    settings_alike n m same = absurd same

    -- ---- all lines

    module _ (all : IsPointwiseRelated (IsLineCounterpart S) (nodes_without_alias_lines lines) (nodes_without_alias_lines others)) where
      -- The user specifications say the same, command by command.
      pub specs_equal : IsPointwiseRelated (AreUserSpecsAlike write lines others) (user_specs_of_lines lines) (user_specs_of_lines others)
      specs_equal =
          subst (λ ss. IsPointwiseRelated (AreUserSpecsAlike write lines others) ss (user_specs_of_lines others)) (sym (user_specs_are_those_beside_alias_lines lines))
          (subst (λ ts. IsPointwiseRelated (AreUserSpecsAlike write lines others) (filter_map user_spec_in_node (nodes_without_alias_lines lines)) ts) (sym (user_specs_are_those_beside_alias_lines others))
          (each_spec (nodes_without_alias_lines lines) (nodes_without_alias_lines others) all))

      -- The settings of runas_default are the same.
      pub defaults_alike : AreAllRunasDefaultsAlike write lines others
      defaults_alike =
          subst (λ ss. IsPointwiseRelated SettingsAlike ss (runas_defaults_of_lines others)) (sym (made_beside runas_defaults_in_node (λ k defs. refl) lines))
          (subst (λ ts. IsPointwiseRelated SettingsAlike (flat_map runas_defaults_in_node (nodes_without_alias_lines lines)) ts) (sym (made_beside runas_defaults_in_node (λ k defs. refl) others))
          (related_lists_have_related_flat_maps (IsLineCounterpart S) SettingsAlike runas_defaults_in_node runas_defaults_in_node settings_alike (nodes_without_alias_lines lines) (nodes_without_alias_lines others) all))

      -- The members of all lists of a kind say the same.
      pub roots_alike : (k : Kind) → HaveSameFlatListAfterRewrite write k lines others (root_members_of_lines k lines) (root_members_of_lines k others)
      roots_alike k =
          lists k (root_members_of_lines k lines) (root_members_of_lines k others)
          (subst (λ ms. AreMemberListCounterparts S k ms (root_members_of_lines k others)) (sym (root_members_are_those_beside_alias_lines k lines))
          (subst (λ ns. AreMemberListCounterparts S k (flat_map (root_members_in_node k) (nodes_without_alias_lines lines)) ns) (sym (root_members_are_those_beside_alias_lines k others))
          (related_lists_have_related_flat_maps (IsLineCounterpart S) (IsMemberCounterpart (S k)) (root_members_in_node k) (root_members_in_node k) (line_members k)
          (nodes_without_alias_lines lines) (nodes_without_alias_lines others) all)))
