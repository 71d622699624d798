-- The aliases of printed rules have the members that they had.
use Rattle.laws_program.proofs.Common.{◌≡◌, ℕ, ◌+◌, Bool, true, false, List, [], ◌∷◌, ◌++◌, map, Option, Some, None, refl, sym, ap, ap₂, subst, ◌∙◌, ◌&&◌}
use Rattle.laws_program.proofs.Common.{if◌then◌else◌, bytes_eq, flat_map, map-append, Kind, Def, Member, Node, HostName, Line, PlacedDefinition, is_equal_kind}
use Rattle.laws_program.proofs.Common.{definitions_from_line_number, definitions_in_line, definitions_from_place, definitions_of_lines, first_definition_of, is_definition_of_name, escaped_pattern, is_read_as_host_name, atom_read_back}
use Rattle.laws_program.proofs.Common.{MemberIsReadBackAs, AreItemsPairwiseRelated, DefinitionIsReadBackAs, NodeIsReadBackAs, alias_members_of_atom, IsPointwiseRelated, IsMemberWithAtomMapped, HaveMappedAliasesMappedMembers, alias_node_of_one_definition, one_definition_nodes_of_line_node}
use Rattle.laws_program.proofs.Common.{rules_of_policy_lines, rule_nodes_in_print_order, nodes_of_lines}
use Rattle.std.specs.Option.{option_map}
use Rattle.sudoers_grammar.specs.declared.node.Atom.TheVariants as atom
use Rattle.sudoers_grammar.specs.Node as node
use Rattle.sudoers_match_list.specs.Alike.{AreBothUndefinedOrCounterparts, IsAtomMappedTo}
use Rattle.laws_program.proofs.Parts.{no_defaults, no_specs, made_of_defs, same_nodes_make_related_items, pairwise_related_items_are_pointwise_related}

-- ---- what definitions say, their places aside

abbrev pub KindAndDefinition : Type 0
KindAndDefinition = Kind × Def

abbrev pub kinds_and_definitions_of_placed : List PlacedDefinition → List KindAndDefinition
kinds_and_definitions_of_placed ds = map (λ (d : PlacedDefinition). (d.kind, d.def)) ds

abbrev definitions_paired_with_kind : Kind → List Def → List KindAndDefinition
definitions_paired_with_kind k ds = map (λ (d : Def). (k, d)) ds

abbrev pub kinds_and_definitions_in_node : Node → List KindAndDefinition
kinds_and_definitions_in_node (node.Alias k ds) = definitions_paired_with_kind k ds
kinds_and_definitions_in_node n = []

kinds_of_definitions_from_place_are_one : (k : Kind) (line n : ℕ) (ds : List Def) → kinds_and_definitions_of_placed (definitions_from_place k line n ds) ≡ definitions_paired_with_kind k ds
kinds_of_definitions_from_place_are_one k line n [] = refl
kinds_of_definitions_from_place_are_one k line n (d ∷ ds) = ap (λ all. (k, d) ∷ all) (kinds_of_definitions_from_place_are_one k line (n + 1) ds)

definitions_of_line_are_of_its_node : (line : ℕ) (n : Node) → kinds_and_definitions_of_placed (definitions_in_line line n) ≡ kinds_and_definitions_in_node n
definitions_of_line_are_of_its_node line (node.Alias k ds) = kinds_of_definitions_from_place_are_one k line 0 ds
definitions_of_line_are_of_its_node line n = refl

pub definitions_from_line_are_those_of_nodes : (n : ℕ) (lines : List Line) → kinds_and_definitions_of_placed (definitions_from_line_number n lines) ≡ flat_map kinds_and_definitions_in_node (nodes_of_lines lines)
definitions_from_line_are_those_of_nodes n [] = refl
definitions_from_line_are_those_of_nodes n (line ∷ lines) =
    map-append (λ (d : PlacedDefinition). (d.kind, d.def)) (definitions_in_line n line.node) (definitions_from_line_number (n + 1) lines)
    ∙ ap₂ (λ (x y : List KindAndDefinition). x ++ y) (definitions_of_line_are_of_its_node n line.node) (definitions_from_line_are_those_of_nodes (n + 1) lines)

one_definition_nodes_hold_their_definitions : (k : Kind) (ds : List Def) → flat_map kinds_and_definitions_in_node (map (alias_node_of_one_definition k) ds) ≡ definitions_paired_with_kind k ds
one_definition_nodes_hold_their_definitions k [] = refl
one_definition_nodes_hold_their_definitions k (d ∷ ds) = ap (λ all. (k, d) ∷ all) (one_definition_nodes_hold_their_definitions k ds)

one_definition_nodes_keep_definitions : (n : Node) → flat_map kinds_and_definitions_in_node (one_definition_nodes_of_line_node n) ≡ kinds_and_definitions_in_node n
one_definition_nodes_keep_definitions (node.Alias k ds) = one_definition_nodes_hold_their_definitions k ds
one_definition_nodes_keep_definitions n = refl

-- ---- definitions that say the same

pub record IsKindAndDefinitionSameButPlace (d e : KindAndDefinition) : Type 0 where
  pub kind : d.0 ≡ e.0
  pub def : DefinitionIsReadBackAs d.1 e.1

same_definitions_of_same_kind_are_related : (k j : Kind) → k ≡ j → (ds es : List Def) → AreItemsPairwiseRelated DefinitionIsReadBackAs ds es → IsPointwiseRelated IsKindAndDefinitionSameButPlace (definitions_paired_with_kind k ds) (definitions_paired_with_kind j es)
same_definitions_of_same_kind_are_related k j e [] [] same = tt
same_definitions_of_same_kind_are_related k j e (x ∷ xs) (y ∷ ys) same = (record { kind = e; def = same.0 }, same_definitions_of_same_kind_are_related k j e xs ys same.1)
same_definitions_of_same_kind_are_related k j e ds es same = absurd same

same_nodes_hold_same_definitions : (n m : Node) → NodeIsReadBackAs n m → IsPointwiseRelated IsKindAndDefinitionSameButPlace (kinds_and_definitions_in_node n) (kinds_and_definitions_in_node m)
same_nodes_hold_same_definitions (node.Alias k ds) (node.Alias j es) same = same_definitions_of_same_kind_are_related k j same.0 ds es same.1
same_nodes_hold_same_definitions (node.Defaults scope params) (node.Defaults other settings) same = tt
same_nodes_hold_same_definitions (node.Spec users groups) (node.Spec others places) same = tt
same_nodes_hold_same_definitions n m same = absurd same

pub printed_rules_keep_definitions : (lines read : List Line) → AreItemsPairwiseRelated NodeIsReadBackAs (rule_nodes_in_print_order (rules_of_policy_lines lines)) (nodes_of_lines read) → IsPointwiseRelated IsKindAndDefinitionSameButPlace (kinds_and_definitions_of_placed (definitions_of_lines lines)) (kinds_and_definitions_of_placed (definitions_of_lines read))
printed_rules_keep_definitions lines read same =
    let rules = made_of_defs kinds_and_definitions_in_node kinds_and_definitions_in_node (no_defaults kinds_and_definitions_in_node (λ scope params. refl)) one_definition_nodes_keep_definitions (no_specs kinds_and_definitions_in_node (λ users groups. refl)) lines in
    let there = same_nodes_make_related_items IsKindAndDefinitionSameButPlace kinds_and_definitions_in_node same_nodes_hold_same_definitions (rule_nodes_in_print_order (rules_of_policy_lines lines)) (nodes_of_lines read) same in
    subst (λ xs. IsPointwiseRelated IsKindAndDefinitionSameButPlace xs (kinds_and_definitions_of_placed (definitions_of_lines read))) (rules ∙ sym (definitions_from_line_are_those_of_nodes 0 lines))
    (subst (λ ys. IsPointwiseRelated IsKindAndDefinitionSameButPlace (flat_map kinds_and_definitions_in_node (rule_nodes_in_print_order (rules_of_policy_lines lines))) ys) (sym (definitions_from_line_are_those_of_nodes 0 read)) there)

-- ---- the members of an alias

abbrev pub members_of_first_definition_named : Kind → List ℕ → List KindAndDefinition → Option (List Member)
members_of_first_definition_named k name [] = None
members_of_first_definition_named k name (d ∷ ds) = if is_equal_kind k d.0 && bytes_eq name d.1.name then Some d.1.members else members_of_first_definition_named k name ds

pub members_found_ignore_definition_places : (k : Kind) (name : List ℕ) (ds : List PlacedDefinition) → option_map (λ (d : PlacedDefinition). d.def.members) (first_definition_of k name ds) ≡ members_of_first_definition_named k name (kinds_and_definitions_of_placed ds)
members_found_ignore_definition_places k name [] = refl
members_found_ignore_definition_places k name (d ∷ ds) = by (is_definition_of_name k name d) (members_found_ignore_definition_places k name ds)
  where
    by : (t : Bool) → option_map (λ (e : PlacedDefinition). e.def.members) (first_definition_of k name ds) ≡ members_of_first_definition_named k name (kinds_and_definitions_of_placed ds)
        → option_map (λ (e : PlacedDefinition). e.def.members) (if t then Some d else first_definition_of k name ds) ≡ (if t then Some d.def.members else members_of_first_definition_named k name (kinds_and_definitions_of_placed ds))
    by true later = refl
    by false later = later

pub member_same_but_place_is_rewritten : (m n : Member) → MemberIsReadBackAs m n → IsMemberWithAtomMapped atom_read_back m n
member_same_but_place_is_rewritten m n same = record { negated = sym same.negated; digests = sym same.digests; atom = sym same.atom }

pub members_same_but_place_are_rewritten : (ms ns : List Member) → AreItemsPairwiseRelated MemberIsReadBackAs ms ns → IsPointwiseRelated (IsMemberWithAtomMapped atom_read_back) ms ns
members_same_but_place_are_rewritten ms ns same = pairwise_related_items_are_pointwise_related MemberIsReadBackAs (IsMemberWithAtomMapped atom_read_back) member_same_but_place_is_rewritten ms ns same

same_definitions_give_alike_members : (k : Kind) (name : List ℕ) (ds es : List KindAndDefinition) → IsPointwiseRelated IsKindAndDefinitionSameButPlace ds es → AreBothUndefinedOrCounterparts (IsAtomMappedTo atom_read_back) (members_of_first_definition_named k name ds) (members_of_first_definition_named k name es)
same_definitions_give_alike_members k name [] [] all = tt
same_definitions_give_alike_members k name (d ∷ ds) (e ∷ es) all =
    subst (λ t. AreBothUndefinedOrCounterparts (IsAtomMappedTo atom_read_back) (members_of_first_definition_named k name (d ∷ ds)) (if t then Some e.1.members else members_of_first_definition_named k name es))
    (ap₂ (λ j other. is_equal_kind k j && bytes_eq name other) all.0.kind all.0.def.name)
    (by (is_equal_kind k d.0 && bytes_eq name d.1.name) (same_definitions_give_alike_members k name ds es all.1))
  where
    by : (t : Bool) → AreBothUndefinedOrCounterparts (IsAtomMappedTo atom_read_back) (members_of_first_definition_named k name ds) (members_of_first_definition_named k name es)
        → AreBothUndefinedOrCounterparts (IsAtomMappedTo atom_read_back) (if t then Some d.1.members else members_of_first_definition_named k name ds) (if t then Some e.1.members else members_of_first_definition_named k name es)
    by true later = members_same_but_place_are_rewritten d.1.members e.1.members all.0.def.members
    by false later = later
same_definitions_give_alike_members k name ds es all = absurd all

-- In what is read of printed rules an alias has the members that it had.
pub aliases_agree_in_lines_read_of_print : (k : Kind) (lines read : List Line) → AreItemsPairwiseRelated NodeIsReadBackAs (rule_nodes_in_print_order (rules_of_policy_lines lines)) (nodes_of_lines read) → HaveMappedAliasesMappedMembers atom_read_back k lines read
aliases_agree_in_lines_read_of_print k lines read same (atom.Alias name) =
    let there = same_definitions_give_alike_members k name (kinds_and_definitions_of_placed (definitions_of_lines lines)) (kinds_and_definitions_of_placed (definitions_of_lines read)) (printed_rules_keep_definitions lines read same) in
    subst (λ o. AreBothUndefinedOrCounterparts (IsAtomMappedTo atom_read_back) o (alias_members_of_atom k read (atom.Alias name))) (sym (members_found_ignore_definition_places k name (definitions_of_lines lines)))
    (subst (λ o. AreBothUndefinedOrCounterparts (IsAtomMappedTo atom_read_back) (members_of_first_definition_named k name (kinds_and_definitions_of_placed (definitions_of_lines lines))) o) (sym (members_found_ignore_definition_places k name (definitions_of_lines read))) there)
aliases_agree_in_lines_read_of_print k lines read same (atom.Host p) = by (is_read_as_host_name (escaped_pattern HostName p))
  where
    by : (t : Bool) → AreBothUndefinedOrCounterparts (IsAtomMappedTo atom_read_back) None (alias_members_of_atom k read (if t then atom.Host p else atom.Host (92 ∷ p)))
    by true = tt
    by false = tt
aliases_agree_in_lines_read_of_print k lines read same n = tt
