-- The names that most proofs of this crate cite, passed on from one place. Declares nothing.
pub use Rattle.std.proofs.Common.{Bool, Err, Global, IfOk, IfSome, List, None, Ok, Option, Result, Some, Vec, [], ap, append-nil, append_assoc, ap₂, arith, drop, false, get_or, if◌then◌else◌, inl, inr, length, map, refl}
pub use Rattle.std.proofs.Common.{slice_get, subst, suc, sym, take, true, true≢false, zero, ℕ, ◌&&◌, ◌++◌, ◌+◌, ◌<◌, ◌==◌, ◌↔◌, ◌∙◌, ◌∷◌, ◌≡◌, ◌≤◌, ◌⊎◌}
pub use Rattle.std.proofs.lemmas.List.{drop_all, drop_more, get_or-map, length-map, take_all, take_more}
pub use Rattle.std.specs.Borrow.{Bor}
pub use Rattle.std.specs.List.{AllByRecursion, cons_option, filter_map, flat_map}
pub use Rattle.std.specs.Option.{is_some, option_map, option_or, unwrap_or}
pub use Rattle.sudoers_check.proofs.Lists.{Has_at}
pub use Rattle.sudoers_check.proofs.Named.{element_of_back_is_in_appended, element_of_part_is_in_flat_map, element_of_front_is_in_appended, kind_is_equal_to_itself, kinds_tested_equal_are_equal}
pub use Rattle.sudoers_check.specs.Chain.{IsReachedByChainOfSteps, ListHasElement, here, onward}
pub use Rattle.sudoers_check.specs.Chains.{DefinitionMentionsName, HasCyclicAliasReachedFromSpecOrDefaults, IsReachedFromSpecOrDefaults, alias_names_among_members, alias_names_of_atom, root_alias_names, root_names_in_node}
pub use Rattle.sudoers_grammar.specs.Node.{CmdSpec, HostGroup, Member, Node, Param, RunasSpec, Scope}
pub use Rattle.sudoers_grammar.specs.declared.node.Atom.{Atom}
pub use Rattle.sudoers_grammar.specs.declared.node.Kind.{Kind}
pub use Rattle.sudoers_grammar.specs.declared.node.Kind.TheVariants.{Cmnd, Host, Runas, User}
pub use Rattle.sudoers_grammar.specs.declared.node.OptionName.{OptionName}
pub use Rattle.sudoers_grammar.specs.declared.node.Tag.{Tag}
pub use Rattle.sudoers_line_rows.specs.Tables.{command_in_tables, host_group_in_tables, member_in_tables, node_in_tables, option_in_tables, parameter_in_tables, tag_in_tables, text_in_tables}
pub use Rattle.sudoers_line_rows.specs.View.{command_of_view, commands_of_view, host_group_of_view, host_groups_of_view, member_of_view, members_of_view, node_of_view, parameters_of_view, runas_of_view, scope_of_view}
pub use Rattle.sudoers_line_rows.specs.declared.rows.Tables.{Tables, Tables as TablesOf}
pub use Rattle.sudoers_match.specs.Alike.{AreAllRunasDefaultsAlike, AreAnswersSameButNumbers, AreCommandSettingsAlike, AreCommandsWithSettingsAlike, AreDefaultsScopesAlike, AreHostGroupsAlike, AreHostListsAlike}
pub use Rattle.sudoers_match.specs.Alike.{AreTwoRowsAlikeButSpecNumbers, AreTwoRowsAlikeWithSpecNumbers, AreRunasDefaultsAlike, AreRunasMemberListsAlike, AreRunasSpecsAlike, AreScopeListsAlike, AreSpecUsersAndHostsAlike}
pub use Rattle.sudoers_match.specs.Alike.{AreUserSpecsAlike, KeepsAtomMatches}
pub use Rattle.sudoers_match.specs.Allows.{DecidesWhetherListAllows, ListAllows}
pub use Rattle.sudoers_match.specs.Answer.{Answer, IsAnswerByCommandTest, IsAnswerOfRows, IsAnswerOfRowsByTest, IsAnswerToRequest, RowFitsRequest, RowFitsRequestByTest, answer_of_fitting_row, answer_of_view, command_with_joined_arguments_of_request}
pub use Rattle.sudoers_match.specs.Answer.{is_command_hit_by_test, is_request_command_hit, is_request_command_match, tags_with_setenv_by_all}
pub use Rattle.sudoers_match.specs.Answer.{words_each_after_space, words_joined_with_spaces}
pub use Rattle.sudoers_match.specs.Beside.{HasSameLinesAndReachableAliases, node_unless_alias_line, nodes_without_alias_lines}
pub use Rattle.sudoers_match.specs.Default.{IsRunasDefault, IsScopeForUserOnHost, IsScopeListForUserOrHost, runas_default_in_param, runas_defaults_in_node, runas_defaults_in_params, runas_defaults_of_lines, runas_name_or_root}
pub use Rattle.sudoers_match.specs.Default.{setting_with_scope}
pub use Rattle.sudoers_match.specs.Found.{HasMemberAndSettingsFromLines, answer_without_member_and_settings, specs_with_line_numbers}
pub use Rattle.sudoers_match.specs.Groups.{ArePlacesOfMatchingHostGroups, HoldsHostGroupPlaceIfHostsMatch, AreMatchingHostGroupPlacesOfSpec, host_group_place_from_spec_number}
pub use Rattle.sudoers_match.specs.Heads.{AccumulatedCommandSettings, commands_with_settings, empty_command_settings, final_tags_of, final_value_of_option, final_value_of_tag, last_value_named, ordinal_of_option, ordinal_of_tag}
pub use Rattle.sudoers_match.specs.Heads.{settings_after_command, tags_with_tag_set}
pub use Rattle.sudoers_match.specs.IsHead.{HoldsCommandSettings}
pub use Rattle.sudoers_match.specs.Last.{IsLastItemWith, last_item_of}
pub use Rattle.sudoers_match.specs.Moment.{is_in_option_time_bounds}
pub use Rattle.sudoers_match.specs.Rows.{AreRowsPerFlatAtomOfCommand, AreRowsPerFlatAtomOfHostGroup, AreRowsPerFlatAtomOfPolicy, AreRowsPerFlatAtomOfSpec, PrivilegeRow, privilege_row_of}
pub use Rattle.sudoers_match.specs.Runas.{RunasGroupsAllow, RunasListsAllow, RunasSpecAllows, is_group_absent_or_among, is_allowed_by_verdict_or_own_group}
pub use Rattle.sudoers_match.specs.Specs.{IsConcatenationOfParts, UserSpec, user_spec_in_node, user_spec_of_users_and_groups, user_specs_of_lines}
pub use Rattle.sudoers_match.specs.Values.{OptionValues, final_values_of_options, option_values_of_view, values_with_option_set}
pub use Rattle.sudoers_match.specs.declared.matching_host_groups.HostGroupPlace.{HostGroupPlace}
pub use Rattle.sudoers_match.specs.declared.command_settings.CommandSettings.{CommandSettings as HeadHeld}
pub use Rattle.sudoers_match.specs.internal.Asked.{AddsAllParts, AddsPartsBeforeIndex, DecidesWhetherScopeApplies, IsLastRunasDefaultOfLine, IsRunasDefaultOfLinesBefore}
pub use Rattle.sudoers_match.specs.internal.Question.{DecidesWhetherRunasGroupsAllow, DecidesWhetherRunasSpecAllows, HasNoFittingRowBehind, IsAnswerOfCommandsSoFar, IsAnswerOfRowsForContext, IsAnswerOfRowsSoFar, HasMemberAndSettingsFromGroupAtPlace, HasMemberAndSettingsFromSpecAtNumber}
pub use Rattle.sudoers_match.specs.internal.Question.{IsKnownRunasDecision, IsValidGroupVerdictCache, IsValidCacheForContext, IsValidRequestCache, answer_of_command_hit, answer_with_member_and_settings, command_test_of_context, spec_group_command_numbers_of_answer}
pub use Rattle.sudoers_match.specs.internal.Straight.{CommandLeadsToNoCycle, HostGroupLeadsToNoCycle, HostGroupsLeadToNoCycle, LeadsToNoCyclicAlias, RunasSpecLeadsToNoCycle, ScopeLeadsToNoCycle}
pub use Rattle.sudoers_match_list.proofs.Alike.{KeepsAliasCounterparts, counterparts_alike}
pub use Rattle.sudoers_match_list.specs.Alike.{AreBothUndefinedOrCounterparts, AreBothUndefinedOrHaveSameMembers, HaveSameFlatListAfterRewrite, IsMemberCounterpart, IsMemberWithAtomMapped, IsPointwiseRelated, signed_atom_with_atom_mapped, unchanged_atom}
pub use Rattle.sudoers_match_list.specs.Cycle.{ListLeadsToCyclicAlias}
pub use Rattle.sudoers_match_list.specs.Flat.{IsFlatListOf, IsLastHitOfList, IsListVerdict, SignedAtom, alias_members_of_atom, has_no_digests, hit_of_signed_atom, is_all_atom, last_hit_of_list, later_hit_if_any}
pub use Rattle.sudoers_match_list.specs.Flat.{verdict_of_hit}
pub use Rattle.sudoers_match_list.specs.Search.{IsValidVerdictCache}
pub use Rattle.sudoers_match_list.specs.declared.verdict.MemberHit.{MemberHit}
pub use Rattle.sudoers_match_list.specs.declared.verdict.Verdict.{Verdict}
pub use Rattle.sudoers_match_list.specs.declared.verdict.Verdict.TheVariants.{Allow}
pub use Rattle.sudoers_match_member.specs.Hits.{is_command_atom_match, is_host_atom_match, is_name_equal_ignoring_case, is_runas_group_atom_match, is_user_atom_match}
pub use Rattle.sudoers_match_member.specs.declared.people_and_commands.Group.{Group}
pub use Rattle.sudoers_match_member.specs.declared.people_and_commands.Who.{Who}
pub use Rattle.sudoers_match_member.specs.declared.request.Request.{Request}
pub use Rattle.sudoers_tree.specs.Line.{Line, line_of_row}
pub use Rattle.sudoers_tree.specs.Mention.{members_in_host_group, members_in_scope, members_of_kind_in_line, members_of_runas}
