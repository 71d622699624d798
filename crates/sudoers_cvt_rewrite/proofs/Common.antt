-- The names that most proofs of this crate cite, passed on from one place. Declares nothing.
pub use Rattle.std.proofs.Common.{Bool, Bor, Err, Global, IfErr, IfOk, IfSome, IsTrue, List, None, Ok, Option, Result, Some, Vec, [], ap, append-nil, append_assoc, ap₂, arith, cond, drop, false, flat_map, get_or}
pub use Rattle.std.proofs.Common.{if◌then◌else◌, inl, inr, length, length-append, map, not, option_map, refl, rules, slice_get, subst, suc, sym, take, tests, true, zero, ℕ, ◌&&◌, ◌++◌, ◌+◌, ◌<◌, ◌==◌, ◌||◌, ◌↔◌, ◌∙◌}
pub use Rattle.std.proofs.Common.{◌∷◌, ◌≡◌, ◌≤◌, ◌⊎◌}
pub use Rattle.std.proofs.lemmas.List.{at_drop_all, at_drop_more, drop_all, drop_more, length-map, length_push, map-append, map_push}
pub use Rattle.std.proofs.lemmas.Option.{get_or_from_slice_get, slice_get_within}
pub use Rattle.std.proofs.lemmas.Result.{IfErr-weaker, IfOk-weaker, on_ok_weaker}
pub use Rattle.std.specs.List.{All, AllByRecursion, filter, list_any, prefix_len, slice_range, slice_split, suffix_len}
pub use Rattle.sudoers_check.proofs.Lists.{All_at, get-set}
pub use Rattle.sudoers_check.specs.Chain.{ListHasElement}
pub use Rattle.sudoers_check.specs.Chains.{HasCyclicAliasReachedFromSpecOrDefaults, IsCyclic, IsReachedFromSpecOrDefaults, alias_names_among_members, alias_names_of_atom}
pub use Rattle.sudoers_check.specs.Led.{is_cyclic, is_unused, is_used}
pub use Rattle.sudoers_cvt_rewrite.specs.Changed.{changes_of_view}
pub use Rattle.sudoers_cvt_rewrite.specs.Count.{alias_lines_member_count, commands_and_effective_runas_member_count, host_group_member_count, host_groups_member_count, specs_and_defaults_member_count, spec_or_defaults_member_count, runas_member_count_or_inherited}
pub use Rattle.sudoers_cvt_rewrite.specs.Filter.{node_or_blank_left_by_filter, host_group_pruned_if_wanted, host_groups_left_by_filter, is_atom_matching_group_name, is_atom_matching_host_name, is_atom_matching_user_name, is_filter_without_users}
pub use Rattle.sudoers_cvt_rewrite.specs.Filter.{is_host_list_in_filter, is_list_without_items, is_scope_in_filter, is_user_list_in_filter, last_hit_in_expanded_list, spec_or_blank_of_left_groups}
pub use Rattle.sudoers_cvt_rewrite.specs.FilterText.{filter_pair_of_piece, filter_pairs_of_pieces, pair_before_pairs_or_first_fault, is_blank, values_with_filter_key}
pub use Rattle.sudoers_cvt_rewrite.specs.Rewrite.{PolicyChanges, alias_node_of_definition, has_reachable_alias_cycle, member_count_of_rules, node_expanded_if_wanted, node_filtered_if_any, rewritten_lines_of_policy}
pub use Rattle.sudoers_cvt_rewrite.specs.Rewrite.{rewritten_node, rules_with_used_definitions, used_definitions}
pub use Rattle.sudoers_cvt_rewrite.specs.declared.filter.Filter.{Filter}
pub use Rattle.sudoers_cvt_rewrite.specs.internal.Extended.{AreTablesAlikeButLists, IsTableExtension, RowKeepsMeaning}
pub use Rattle.sudoers_cvt_rewrite.specs.internal.FilterSeen.{filter_pair_of_view}
pub use Rattle.sudoers_cvt_rewrite.specs.internal.Marked.{marked_definitions_member_count}
pub use Rattle.sudoers_cvt_rewrite.specs.internal.Matcher.{AreCachesOfValuesValid, AreValidVerdictCaches, HasVerdictCacheAt, IsFreshVerdictCache, IsValidFilterMatcher, IsValidValuesMatcher, is_any_value_matched_or_allowed, is_hit_any_or_allowing, is_filter_host_matched_or_allowed, is_filter_user_matched_or_allowed}
pub use Rattle.sudoers_cvt_rewrite.specs.internal.Pruned.{is_list_matching_any_filter_value, is_member_kept_by_filter, members_pruned_if_wanted}
pub use Rattle.sudoers_cvt_rewrite.specs.internal.Selected.{FilterListsLeadToNoCycle, host_group_of_filtered, node_of_filtered_line, optional_host_group_of_filtered}
pub use Rattle.sudoers_cvt_rewrite.specs.internal.Written.{IsTooManyMembersOrNoMemoryFault, RowsKeepMeaning, commands_of_command_expanded_if, commands_for_each_member, host_group_expanded_if, host_group_of_lists, line_node_expanded_if}
pub use Rattle.sudoers_cvt_rewrite.specs.internal.Written.{textless_lines_with_nodes_mapped, list_expanded_if, runas_spec_expanded_if, scope_expanded_if, scope_list_expanded_if}
pub use Rattle.sudoers_cvt_rules.specs.declared.fault.CvtFault.{CvtFault}
pub use Rattle.sudoers_grammar.specs.Node.{CmdSpec, Def, HostGroup, Member, Node, RunasSpec, Scope}
pub use Rattle.sudoers_grammar.specs.declared.node.Atom.{Atom}
pub use Rattle.sudoers_grammar.specs.declared.node.Kind.{Kind}
pub use Rattle.sudoers_grammar.specs.declared.node.Kind.TheVariants.{Cmnd, Host, Runas, User}
pub use Rattle.sudoers_line_rows.specs.Tables.{IsRowRangeFromTo, alias_definition_in_tables, alias_definitions_of_range_in_tables, args_in_tables, atom_in_tables, command_in_tables, commands_of_range_in_tables, digest_in_tables}
pub use Rattle.sudoers_line_rows.specs.Tables.{digests_of_range_in_tables, host_group_in_tables, member_in_tables, members_of_range_in_tables, node_in_tables, option_in_tables, optional_runas_in_tables, options_of_range_in_tables}
pub use Rattle.sudoers_line_rows.specs.Tables.{parameter_in_tables, parameters_of_range_in_tables, setting_in_tables, tag_in_tables, tags_of_range_in_tables, text_in_tables, values_of_row_range}
pub use Rattle.sudoers_line_rows.specs.declared.rows.CommandRow.{CommandRow}
pub use Rattle.sudoers_line_rows.specs.declared.rows.HostGroupRow.{HostGroupRow}
pub use Rattle.sudoers_line_rows.specs.declared.rows.MemberRow.{MemberRow}
pub use Rattle.sudoers_line_rows.specs.declared.rows.RowRange.{RowRange}
pub use Rattle.sudoers_line_rows.specs.declared.rows.Tables.{Tables}
pub use Rattle.sudoers_match_list.specs.Flat.{IsFlatListOf, IsLastHitOfList, SignedAtom, alias_members_of_atom, last_hit_of_list, signed_atom_of_member}
pub use Rattle.sudoers_match_list.specs.Flattened.{expanded_member_limit, fully_expanded_list, list_expanded_n_times, list_with_aliases_expanded_once, member_or_alias_members, member_under_negation}
pub use Rattle.sudoers_match_list.specs.Search.{IsLastHitOrCycleOfList, IsValidVerdictCache}
pub use Rattle.sudoers_match_list.specs.internal.Shortcuts.{kind_and_members_of_definition, kind_and_members_of_row}
pub use Rattle.sudoers_tree.specs.Definition.{PlacedDefinition, definitions_from_line_number, definitions_from_place, definitions_in_line, definitions_of_lines, first_definition_of, members_of_alias_definition}
pub use Rattle.sudoers_tree.specs.Line.{Line, line_of_row, lines_of_rows}
pub use Rattle.sudoers_tree.specs.declared.line.LineRow.{LineRow}
