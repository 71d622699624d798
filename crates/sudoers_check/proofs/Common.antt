-- The names that most proofs of this crate cite, passed on from one place. Declares nothing.
pub use Rattle.std.proofs.Common.{Bool, Err, IfOk, List, None, Ok, Option, Some, [], ap, append-nil, append_assoc, ap₂, arith, bytes_eq, cond, count_by, drop, eqb, false, flat_map, get_or, if◌then◌else◌, inl, inr}
pub use Rattle.std.proofs.Common.{length, ltb, map, nat_eq, not, option_map, refl, replicate, rules, slice_get, slice_index_or, subst, suc, sym, take, true, zero, ℕ, ◌&&◌, ◌++◌, ◌+◌, ◌-◌, ◌<◌, ◌==◌, ◌||◌, ◌∙◌, ◌∷◌, ◌≡◌}
pub use Rattle.std.proofs.Common.{◌≢◌, ◌≤◌, ◌⊎◌}
pub use Rattle.std.proofs.Math.ListN.{drop_of_length-le, set}
pub use Rattle.std.proofs.lemmas.Bool.{cases_eq, cases_lt, eq-eqb, ltb-true}
pub use Rattle.std.proofs.lemmas.Bool.Decides.{eqb_tells, nat_tests}
pub use Rattle.std.proofs.lemmas.List.{drop_all, drop_more, length-append, length-drop, length-replicate, length-set, length-take, map-append, take-take}
pub use Rattle.std.proofs.lemmas.Option.{get_or_from_slice_get, slice_get-get_or, slice_get_read, slice_get_within}
pub use Rattle.std.proofs.lemmas.Slice.Eq.{bytes_eq-Decides}
pub use Rattle.std.specs.List.{AllByRecursion, cons_option, filter, list_any}
pub use Rattle.sudoers_check.specs.Chain.{IsReachedByChainOfSteps, ListHasElement, here, onward}
pub use Rattle.sudoers_check.specs.Chains.{DefinitionMentionsName, IsCyclic, IsReachedFromSpecOrDefaults, alias_names_among_members, alias_names_of_atom, root_alias_names, root_names_in_node}
pub use Rattle.sudoers_check.specs.Led.{cyclic_definitions_of_lines, definitions_left_after_rounds, is_cyclic, is_definition_of_names, is_reached_from_names, is_unused, is_used, names_mentioned_by}
pub use Rattle.sudoers_check.specs.Led.{unused_definitions_of_lines}
pub use Rattle.sudoers_check.specs.Mentioned.{Mention, all_mentions_in_lines, is_mention_of_name, mention_of_alias_member, mention_of_atom, mentions_among_listed_members, mentions_in_lines_numbered_from, mentions_in_node}
pub use Rattle.sudoers_check.specs.Numbers.{alias_line_if_any, alias_lines_of_lines_numbered_from, definition_count_in_node, definitions_with_mark, graph_nodes_of_definitions, is_spec_or_defaults_line_node, mention_graph_of_definitions}
pub use Rattle.sudoers_check.specs.Numbers.{number_of_definition, numbers_of_defined_aliases, numbers_of_defined_mentions, numbers_of_defined_names, root_numbers_in_lines_numbered_from}
pub use Rattle.sudoers_check.specs.Report.{is_first_mention_of_undefined, new_undefined_mentions, note_in_line_text, note_in_walk_line, note_of_definition, note_of_mention, note_text, text_of_line_at}
pub use Rattle.sudoers_check.specs.Report.{undefined_mentions_of_lines}
pub use Rattle.sudoers_check.specs.declared.cycles.NodeOnSearchPath.{NodeOnSearchPath}
pub use Rattle.sudoers_check.specs.declared.cycles.NodeSearchState.{NodeSearchState}
pub use Rattle.sudoers_check.specs.declared.cycles.NodeSearchState.TheVariants.{Closed, New, Open}
pub use Rattle.sudoers_check.specs.declared.definition_numbers.AliasLineFirstNumber.{AliasLineFirstNumber}
pub use Rattle.sudoers_check.specs.declared.report.Note.{Note}
pub use Rattle.sudoers_check.specs.internal.Found.{IsMarkedNode, IsPartialReachSearch, ListsMarkedNodes, MarksNodesAdded}
pub use Rattle.sudoers_check.specs.internal.Graph.{AreNodesOfGraph, HasEdge, HasAllEdgeTargetsInGraph, IsOnCycle, IsReachedFromNodes, MarksDecidePredicate, edge_targets_of_node}
pub use Rattle.sudoers_check.specs.internal.Noting.{AreKeysOfUndefinedMentions, kind_and_file_place, notes_of_definitions_in_line_with_mark, notes_of_definitions_in_lines_with_mark, notes_of_definitions_in_line_node_with_mark, notes_of_mentions, undefined_notes_in_lines}
pub use Rattle.sudoers_check.specs.internal.Noting.{has_undefined_alias, has_undefined_alias_among_members, has_undefined_alias_in_line, is_undefined_alias}
pub use Rattle.sudoers_check.specs.internal.Noting.{unmarked_places_in_line_counted_from, unmarked_places_in_lines, unmarked_places_in_line_node}
pub use Rattle.sudoers_check.specs.internal.Search.{AreGroupsJoined, AreOpenNodesClosedFromPlaceOn, HasAscendingKeys, HasPathBetween, HasSearchInvariant, IsClosedOrInGroupNotBefore, IsEdgeLookedAt, IsInGroupNotBefore, IsMarkOfClosedNode}
pub use Rattle.sudoers_check.specs.internal.Search.{IsMetNode, IsSearchStepResult, HasSearchInvariantWithNextNode, EntersNewNode, SearchHasMetNode, cycle_search_steps_left, open_place_of_path_node, steps_left_for_new_nodes}
pub use Rattle.sudoers_check.specs.internal.Search.{steps_left_on_path}
pub use Rattle.sudoers_grammar.specs.Listed.{AliasMember, ListedMember, alias_member_of_atom, aliases_among_listed, aliases_in_node, listed_members_of_command, listed_members_of_host_group, listed_members_of_node}
pub use Rattle.sudoers_grammar.specs.Listed.{listed_members_of_runas, members_listed_as_kind}
pub use Rattle.sudoers_grammar.specs.Node.{CmdSpec, Def, HostGroup, Member, Node, RunasSpec}
pub use Rattle.sudoers_grammar.specs.declared.node.Atom.{Atom}
pub use Rattle.sudoers_grammar.specs.declared.node.Kind.{Kind}
pub use Rattle.sudoers_grammar.specs.declared.node.Kind.TheVariants.{Cmnd, Host, Runas, User}
pub use Rattle.sudoers_line_rows.specs.Tables.{alias_definition_in_tables}
pub use Rattle.sudoers_tree.specs.Definition.{PlacedDefinition, definition_place_of_name, definitions_from_line_number, definitions_from_place, definitions_in_line, definitions_of_lines, first_definition_of}
pub use Rattle.sudoers_tree.specs.Definition.{is_definition_of_name, is_equal_kind}
pub use Rattle.sudoers_tree.specs.Fault.{is_some}
pub use Rattle.sudoers_tree.specs.Line.{Line, line_of_row, line_of_view, lines_of_rows}
pub use Rattle.sudoers_tree.specs.Physical.{byte_count_after_last_lf}
pub use Rattle.sudoers_tree.specs.Policy.{AreValidWalkLines, HaveDistinctNames, definition_count_of_kind}
pub use Rattle.sudoers_tree.specs.Walk.{WalkState, spot_of_walk_line}
pub use Rattle.sudoers_tree.specs.declared.place.WalkLineSpot.{WalkLineSpot}
