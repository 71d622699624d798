-- The names that most proofs of this crate cite, passed on from one place. Declares nothing.
pub use Rattle.laws_print.specs.Readable.{IsReadableNode}
pub use Rattle.laws_print.specs.Same.{AreItemsPairwiseRelated, NodeIsReadBackAs, CommandIsReadBackAs, DefinitionIsReadBackAs, HostGroupIsReadBackAs, MemberIsReadBackAs, RunasIsReadBackAs, ScopeIsReadBackAs, atom_read_back}
pub use Rattle.laws_print.specs.Writable.{IsNonEmptyListOf, IsWritableCommand, IsWritableHostGroup, IsWritableMemberOfKind, IsWritableOption, IsWritableRunasSpec, IsWritableNode, IsWritableDefinition}
pub use Rattle.laws_program.specs.Expanded.{lines_with_aliases_replaced}
pub use Rattle.laws_program.proofs.OnlyFile.{IsTextReadAsSameNodes}
pub use Rattle.laws_program.specs.ReadAs.{nodes_of_lines}
pub use Rattle.std.proofs.Common.{Bool, Err, List, None, Ok, Option, Result, Some, [], ap, append-nil, append_assoc, ap₂, arith, false, inl, inr, length, map}
pub use Rattle.std.proofs.Common.{nat_le, refl, slice_index, subst, suc, sym, true, zero, ℕ, ◌&&◌, ◌++◌, ◌+◌, ◌||◌, ◌↔◌, ◌∙◌, ◌∷◌, ◌≡◌, ◌≢◌, ◌≤◌, ◌⊎◌}
pub use Rattle.std.proofs.lemmas.Bool.{eqb-true}
pub use Rattle.std.proofs.lemmas.Grind.{flat_map-append}
pub use Rattle.std.proofs.lemmas.List.{map-append}
pub use Rattle.std.specs.List.{AllByRecursion, cons_option, filter, filter_map, flat_map, list_all, list_any}
pub use Rattle.std.specs.Option.{option_or}
pub use Rattle.std.specs.Prelude.{codes, cond, if◌then◌else◌, ◌==◌}
pub use Rattle.std.specs.Str.{bytes_eq}
pub use Rattle.sudoers_check.specs.Chain.{IsReachedByChainOfSteps, ListHasElement, here, onward}
pub use Rattle.sudoers_check.specs.Chains.{HasCyclicAliasReachedFromSpecOrDefaults, IsReachedFromSpecOrDefaults, DefinitionMentionsName, alias_names_of_atom, alias_names_among_members, root_alias_names, root_names_in_node}
pub use Rattle.sudoers_check.specs.Led.{is_used}
pub use Rattle.sudoers_cvt_rules.specs.Effective.{effective_command, effective_commands, effective_host_group, given_tags_in_order}
pub use Rattle.sudoers_cvt_rules.specs.Rules.{Rules, one_definition_nodes_of_line_node, is_printed_within_limits, rule_nodes_in_print_order, alias_node_of_one_definition, printed_rules, rules_of_policy_lines, effective_spec_nodes_of_line_node}
pub use Rattle.sudoers_match_member.specs.declared.people_and_commands.Who.{Who}
pub use Rattle.sudoers_match_member.specs.declared.request.Request.{Request}
pub use Rattle.sudoers_grammar.specs.Piece.{has_byte}
pub use Rattle.sudoers_grammar.specs.declared.node.Atom.{Atom}
pub use Rattle.sudoers_grammar.specs.Node.{CmdSpec}
pub use Rattle.sudoers_grammar.specs.Node.{Def}
pub use Rattle.sudoers_grammar.specs.Node.{HostGroup}
pub use Rattle.sudoers_grammar.specs.declared.node.Kind.{Kind}
pub use Rattle.sudoers_grammar.specs.declared.node.Kind.TheVariants.{Cmnd, Host, Runas, User}
pub use Rattle.sudoers_grammar.specs.Node.{Member}
pub use Rattle.sudoers_grammar.specs.Node.{Node}
pub use Rattle.sudoers_grammar.specs.declared.node.OptionName.{OptionName}
pub use Rattle.sudoers_grammar.specs.Node.{RunasSpec}
pub use Rattle.sudoers_grammar.specs.Node.{Scope}
pub use Rattle.sudoers_grammar.specs.declared.node.Tag.{Tag}
pub use Rattle.sudoers_grammar.specs.declared.pattern.PatternSpelling.TheVariants.{Host as HostName}
pub use Rattle.sudoers_match.proofs.Alike.{appended_related_lists_are_related, pointwise_relation_is_weakened, pointwise_relation_is_reversed, related_parts_give_related_concatenation, last_alike, equivalence_is_reversed}
pub use Rattle.sudoers_match.proofs.Existing.{some_rows}
pub use Rattle.sudoers_match.proofs.Lasts.{all_append}
pub use Rattle.sudoers_match.proofs.OneAnswer.{FlatListIsUnique, rows_one}
pub use Rattle.sudoers_match.specs.Alike.{AreScopeListsAlike, AreAllRunasDefaultsAlike, AreHostListsAlike, AreTwoRowsAlikeButSpecNumbers, AreRunasSpecsAlike, AreRunasMemberListsAlike}
pub use Rattle.sudoers_match.specs.Alike.{AreCommandsWithSettingsAlike, AreHostGroupsAlike, AreUserSpecsAlike}
pub use Rattle.sudoers_match.specs.Alike.{AreDefaultsScopesAlike, AreRunasDefaultsAlike, AreSpecUsersAndHostsAlike, KeepsAtomMatches, AreAnswersSameButNumbers}
pub use Rattle.sudoers_match.specs.Answer.{Answer, IsAnswerOfRows, RowFitsRequest, IsAnswerToRequest, answer_of_fitting_row}
pub use Rattle.sudoers_match.specs.Default.{IsRunasDefault, runas_defaults_of_lines, runas_defaults_in_params, runas_defaults_in_node as settings_of, setting_with_scope}
pub use Rattle.sudoers_match.specs.Groups.{ArePlacesOfMatchingHostGroups}
pub use Rattle.sudoers_match.specs.Heads.{AccumulatedCommandSettings, settings_after_command, last_value_named, given_options_in_order, empty_command_settings, all_option_names, final_value_of_option, ordinal_of_option, final_value_of_tag, ordinal_of_tag}
pub use Rattle.sudoers_match.specs.Last.{IsLastItemWith}
pub use Rattle.sudoers_match.specs.Rows.{AreRowsPerFlatAtomOfPolicy, AreRowsPerFlatAtomOfCommand, AreRowsPerFlatAtomOfHostGroup, PrivilegeRow, AreRowsPerFlatAtomOfSpec, privilege_row_of}
pub use Rattle.sudoers_match.specs.Specs.{UserSpec, user_spec_in_node, user_spec_of_users_and_groups, user_specs_of_lines}
pub use Rattle.sudoers_match.specs.internal.Straight.{LeadsToNoCyclicAlias}
pub use Rattle.sudoers_match.specs.declared.matching_host_groups.HostGroupPlace.{HostGroupPlace}
pub use Rattle.sudoers_cvt_spell.specs.Hosts.{is_read_as_host_name}
pub use Rattle.sudoers_cvt_spell.specs.Lines.{printed_line, printed_lines}
pub use Rattle.sudoers_cvt_spell.specs.Spelling.{escaped_pattern}
pub use Rattle.sudoers_match_list.proofs.Parts.{times_empty}
pub use Rattle.sudoers_cvt_rewrite.specs.Expand.{commands_of_expanded_command, expanded_host_group, expanded_scope_list, expanded_node, expanded_runas_spec, expanded_scope, command_with_runas_and_member}
pub use Rattle.sudoers_cvt_rewrite.specs.Filter.{is_any_value_allowed, is_any_value_matched}
pub use Rattle.sudoers_cvt_rewrite.specs.Rewrite.{PolicyChanges, alias_node_of_definition, used_definitions, rules_with_used_definitions}
pub use Rattle.sudoers_run.specs.Edit.{script_shape_and_policy_text}
pub use Rattle.sudoers_edit_script.specs.Physical.{physical_lines}
pub use Rattle.sudoers_text.specs.Fault.{line_limit, text_limit}
pub use Rattle.sudoers_text.specs.Line.{join}
pub use Rattle.sudoers_text.specs.declared.fault.TextFault.TheVariants.{Nul}
pub use Rattle.sudoers_tree.specs.Definition.{PlacedDefinition, first_definition_of, is_definition_of_name, definitions_of_lines, definitions_from_place, definitions_in_line, definitions_from_line_number, is_equal_kind}
pub use Rattle.sudoers_tree.specs.Line.{Line}
pub use Rattle.sudoers_tree.specs.Mention.{members_in_host_group, members_in_scope, members_of_runas}
pub use Rattle.sudoers_tree.specs.Policy.{HaveDistinctNames, HasUnreservedName, AreLinesOfSingleTextPolicy, AreValidWalkLines, IsCorrectlyParsed, alias_limit_of_each_kind, definition_count_of_kind, texts_of_lines}
unfoldable pub use Rattle.sudoers_tree.specs.Reading.{policy_lines_of_text}
pub use Rattle.sudoers_tree.specs.Reading.{IsPolicyOrFirstFaultOfText}
pub use Rattle.sudoers_tree.specs.declared.fault.ReadFault.{ReadFault}
pub use Rattle.sudoers_match_list.specs.Alike.{IsPointwiseRelated, HaveMappedAliasesMappedMembers, HaveSameFlatListAfterRewrite, IsMemberWithAtomMapped}
pub use Rattle.sudoers_match_list.specs.Flat.{SignedAtom, alias_members_of_atom, none, one, signed_atom_of_member}
pub use Rattle.sudoers_match_list.specs.Flattened.{fully_expanded_list, member_or_alias_members, list_with_aliases_expanded_once, list_expanded_n_times, member_under_negation}
pub use Rattle.laws_program.specs.Sound.{AreWalkLinesWithoutNul}
