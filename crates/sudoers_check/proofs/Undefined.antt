-- The lines that mention names which are not defined, told by the aliases that stand there.
use Rattle.sudoers_check.proofs.Common.{AliasMember, Bool, Def, Kind, Line, List, ListedMember, Mention, Node, None, Option, PlacedDefinition, AreKeysOfUndefinedMentions, Some, [], alias_member_of_atom}
use Rattle.sudoers_check.proofs.Common.{aliases_among_listed, aliases_in_node, ap, append-nil, append_assoc, cons_option, false, first_definition_of, has_undefined_alias, has_undefined_alias_among_members}
use Rattle.sudoers_check.proofs.Common.{has_undefined_alias_in_line, if◌then◌else◌, is_definition_of_name, is_mention_of_name, is_some, is_undefined_alias, list_any, listed_members_of_node, map, members_listed_as_kind, mention_of_alias_member}
use Rattle.sudoers_check.proofs.Common.{mentions_in_node, new_undefined_mentions, not, number_of_definition, numbers_of_defined_aliases, numbers_of_defined_mentions, option_map, refl, subst, suc, sym, true, ℕ, ◌&&◌, ◌++◌, ◌||◌, ◌∙◌, ◌∷◌, ◌≡◌}
use Rattle.std.proofs.lemmas.List.Folds.{list_any-append}
use Rattle.sudoers_grammar.specs.Node as node
use Rattle.sudoers_check.proofs.Mentions.{flat_map_of_appended_is_appended, mentions_of_node_aliases_are_in_node}
use Rattle.sudoers_check.proofs.Noted.{defined_mention_keeps_seen_keys_matching}

-- ---- the numbers of what a line mentions

numbers_of_mentions_are_of_aliases : (ds : List PlacedDefinition) (n : ℕ) (aliases : List AliasMember) → numbers_of_defined_mentions ds (map (mention_of_alias_member n) aliases) ≡ numbers_of_defined_aliases ds aliases
numbers_of_mentions_are_of_aliases ds n [] = refl
numbers_of_mentions_are_of_aliases ds n (a ∷ aliases) = ap (cons_option (number_of_definition a.kind a.name ds)) (numbers_of_mentions_are_of_aliases ds n aliases)

pub numbers_of_mentions_in_node_are_of_aliases : (ds : List PlacedDefinition) (n : ℕ) (says : Node) → numbers_of_defined_mentions ds (mentions_in_node n says) ≡ numbers_of_defined_aliases ds (aliases_in_node says)
numbers_of_mentions_in_node_are_of_aliases ds n says =
    ap (numbers_of_defined_mentions ds) (sym (mentions_of_node_aliases_are_in_node n says)) ∙ numbers_of_mentions_are_of_aliases ds n (aliases_in_node says)

-- ---- definitions one after another

pub undefined_aliases_of_definitions_are_in_node : (ds : List PlacedDefinition) (k : Kind) (defs : List Def) → list_any (λ (d : Def). has_undefined_alias_among_members ds k d.members) defs ≡ has_undefined_alias ds (aliases_in_node (node.Alias k defs))
undefined_aliases_of_definitions_are_in_node ds k [] = refl
undefined_aliases_of_definitions_are_in_node ds k (d ∷ defs) =
    ap (λ b. has_undefined_alias_among_members ds k d.members || b) (undefined_aliases_of_definitions_are_in_node ds k defs)
    ∙ sym (list_any-append (is_undefined_alias ds) (aliases_among_listed (members_listed_as_kind k d.members)) (aliases_in_node (node.Alias k defs)))
    ∙ ap (has_undefined_alias ds) (sym (flat_map_of_appended_is_appended (λ (l : ListedMember). alias_member_of_atom l.0 l.1 l.1.atom) (members_listed_as_kind k d.members) (listed_members_of_node (node.Alias k defs))))

-- ---- lines without undefined names

number_is_there_where_definition_is : (k : Kind) (name : List ℕ) (ds : List PlacedDefinition) → is_some (number_of_definition k name ds) ≡ is_some (first_definition_of k name ds)
number_is_there_where_definition_is k name [] = refl
number_is_there_where_definition_is k name (d ∷ ds) = by (is_definition_of_name k name d) (number_of_definition k name ds) (first_definition_of k name ds) (number_is_there_where_definition_is k name ds)
  where
    by : (b : Bool) (number : Option ℕ) (first : Option PlacedDefinition) → is_some number ≡ is_some first → is_some (if b then Some 0 else option_map suc number) ≡ is_some (if b then Some d else first)
    by true number first e = refl
    by false None first e = e
    by false (Some i) first e = e

untrue_negation_or_other_has_parts : (a b : Bool) → (not a || b) ≡ false → (a ≡ true) × (b ≡ false)
untrue_negation_or_other_has_parts true b e = (refl, e)
untrue_negation_or_other_has_parts false b e = absurd cc

-- the first alias is defined, and so are the others
first_alias_and_others_are_defined : (ds : List PlacedDefinition) (a : AliasMember) (aliases : List AliasMember) → has_undefined_alias ds (a ∷ aliases) ≡ false
    → (is_some (first_definition_of a.kind a.name ds) ≡ true) × (has_undefined_alias ds aliases ≡ false)
first_alias_and_others_are_defined ds a aliases e =
    let parts = untrue_negation_or_other_has_parts (is_some (number_of_definition a.kind a.name ds)) (has_undefined_alias ds aliases) e in
    (sym (number_is_there_where_definition_is a.kind a.name ds) ∙ parts.0, parts.1)

defined_aliases_are_no_undefined_mentions : (ds : List PlacedDefinition) (n : ℕ) (before : List Mention) (aliases : List AliasMember) → has_undefined_alias ds aliases ≡ false
    → new_undefined_mentions ds before (map (mention_of_alias_member n) aliases) ≡ []
defined_aliases_are_no_undefined_mentions ds n before [] e = refl
defined_aliases_are_no_undefined_mentions ds n before (a ∷ aliases) e =
    let parts = first_alias_and_others_are_defined ds a aliases e in
    let m : Mention = mention_of_alias_member n a in
    let rest : List Mention = map (mention_of_alias_member n) aliases in
    ap (λ b. (if not b && not (list_any (is_mention_of_name a.kind a.name) before) then m ∷ [] else []) ++ new_undefined_mentions ds (before ++ m ∷ []) rest) parts.0
    ∙ defined_aliases_are_no_undefined_mentions ds n (before ++ m ∷ []) aliases parts.1

defined_aliases_keep_seen_keys_matching : (ds : List PlacedDefinition) (n : ℕ) (keys : List (List ℕ)) (before : List Mention) (aliases : List AliasMember) → has_undefined_alias ds aliases ≡ false
    → AreKeysOfUndefinedMentions ds keys before → AreKeysOfUndefinedMentions ds keys (before ++ map (mention_of_alias_member n) aliases)
defined_aliases_keep_seen_keys_matching ds n keys before [] e agrees = subst (AreKeysOfUndefinedMentions ds keys) (sym (append-nil before)) agrees
defined_aliases_keep_seen_keys_matching ds n keys before (a ∷ aliases) e agrees =
    let parts = first_alias_and_others_are_defined ds a aliases e in
    let m : Mention = mention_of_alias_member n a in
    subst (AreKeysOfUndefinedMentions ds keys) (append_assoc before (m ∷ []) (map (mention_of_alias_member n) aliases))
    (defined_aliases_keep_seen_keys_matching ds n keys (before ++ m ∷ []) aliases parts.1 (defined_mention_keeps_seen_keys_matching ds keys before m parts.0 agrees))

pub unmarked_line_has_no_undefined_mentions : (ds : List PlacedDefinition) (n : ℕ) (before : List Mention) (line : Line) → has_undefined_alias_in_line ds line ≡ false
    → new_undefined_mentions ds before (mentions_in_node n line.node) ≡ []
unmarked_line_has_no_undefined_mentions ds n before line e =
    ap (new_undefined_mentions ds before) (sym (mentions_of_node_aliases_are_in_node n line.node)) ∙ defined_aliases_are_no_undefined_mentions ds n before (aliases_in_node line.node) e

pub unmarked_line_keeps_seen_keys_matching : (ds : List PlacedDefinition) (n : ℕ) (keys : List (List ℕ)) (before : List Mention) (line : Line) → has_undefined_alias_in_line ds line ≡ false
    → AreKeysOfUndefinedMentions ds keys before → AreKeysOfUndefinedMentions ds keys (before ++ mentions_in_node n line.node)
unmarked_line_keeps_seen_keys_matching ds n keys before line e agrees =
    subst (λ ms. AreKeysOfUndefinedMentions ds keys (before ++ ms)) (mentions_of_node_aliases_are_in_node n line.node) (defined_aliases_keep_seen_keys_matching ds n keys before (aliases_in_node line.node) e agrees)
