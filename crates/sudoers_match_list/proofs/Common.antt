-- The names that most proofs of this crate cite, passed on from one place. Declares nothing.
pub use Rattle.std.proofs.Common.{Bool, IfOk, List, MatchOption, None, OnOk, Option, Some, [], ap, append-nil, append_assoc, ap₂, arith, below_more, bytes_eq, drop, false, get_or, if◌then◌else◌, inl, inr, length}
pub use Rattle.std.proofs.Common.{length-append, ltb, map, not, refl, replicate, rules, slice_get, subst, suc, sym, take, true, zero, zero-add, ℕ, ◌&&◌, ◌++◌, ◌+◌, ◌-◌, ◌<◌, ◌↔◌, ◌∙◌, ◌∷◌, ◌≡◌, ◌≢◌, ◌≤◌, ◌⊎◌}
pub use Rattle.std.proofs.Math.ListN.{length-replicate, length-set, set}
pub use Rattle.std.proofs.lemmas.Bool.{false≢true, ltb-true}
pub use Rattle.std.proofs.lemmas.List.{at_drop_all, at_drop_more, length-map, map-append, nil_from_length, take_all, take_more}
pub use Rattle.std.proofs.lemmas.Option.{get_or_from_slice_get, slice_get-get_or, slice_get-map, slice_get_past, slice_get_read, slice_get_within}
pub use Rattle.std.proofs.lemmas.Result.{IfErr-weaker, on_ok_weaker}
pub use Rattle.std.specs.List.{AllByRecursion, cons_option}
pub use Rattle.std.specs.Option.{IfSome, is_some, option_map}
pub use Rattle.sudoers_check.proofs.Chains.{chain_from_some_is_chain_from_superset, chain_starts_at_one_element}
pub use Rattle.sudoers_check.proofs.Lists.{Has_at, get-set, get-set_other, get-set_same, get_front, get_push, get_pushed, place_of}
pub use Rattle.sudoers_check.specs.Chain.{IsReachedByChainOfSteps, ListHasElement, here, onward}
pub use Rattle.sudoers_check.specs.Chains.{DefinitionMentionsName, HasCyclicAliasReachedFromSpecOrDefaults, alias_names_among_members, alias_names_of_atom, root_alias_names, root_names_in_node}
pub use Rattle.sudoers_check.specs.Numbers.{alias_line_if_any, alias_lines_of_lines_numbered_from, definition_count_in_node, number_of_definition, numbers_of_defined_names}
pub use Rattle.sudoers_grammar.specs.Listed.{AliasMember, ListedMember, alias_member_of_atom, aliases_among_listed, listed_members_of_node}
pub use Rattle.sudoers_grammar.specs.Node.{Def, Digest, Member, Node}
pub use Rattle.sudoers_grammar.specs.declared.node.Atom.{Atom}
pub use Rattle.sudoers_grammar.specs.declared.node.Kind.{Kind}
pub use Rattle.sudoers_line_rows.specs.Tables.{alias_definition_in_tables, atom_in_tables, member_in_tables, text_in_tables}
pub use Rattle.sudoers_line_rows.specs.View.{member_of_view, members_of_view, node_of_view}
pub use Rattle.sudoers_line_rows.specs.declared.rows.MemberRow.{MemberRow}
pub use Rattle.sudoers_line_rows.specs.declared.rows.Tables.{Tables}
pub use Rattle.sudoers_match_list.specs.Cycle.{ListLeadsToCyclicAlias}
pub use Rattle.sudoers_match_list.specs.Flat.{IsFlatListOf, IsLastHitOfList, IsListVerdict, SignedAtom, alias_members_of_atom, flipped_if_negated, has_no_digests, hit_of_signed_atom, hit_under_negation, is_all_atom}
pub use Rattle.sudoers_match_list.specs.Flat.{last_hit_of_list, later_hit_if_any, later_verdict_unless_unsaid, many, none, one, opposite_verdict, signed_atom_of_member, signed_atom_under_negation, verdict_of_hit}
pub use Rattle.sudoers_match_list.specs.Flattened.{expanded_member_limit, fully_expanded_list, list_expanded_n_times, list_with_aliases_expanded_once, member_or_alias_members, member_under_negation}
pub use Rattle.sudoers_match_list.specs.Search.{AliasLeadsToCycle, AreStepsReachedFromRoot, HasAliasAsMember, IsAliasCyclic, IsLastHitOrCycleOfAlias, EntersAliasOntoStack, IsAliasMet, IsConsistentAliasSearch, HoldsHitOfMembersBeforeNext}
pub use Rattle.sudoers_match_list.specs.Search.{AreNumberAndMembersOfAlias, IsSearchFromAlias, IsSearchStepProgress, IsValidVerdictCache, LeadsToAliasInAnySteps, ListLeadsToAliasCycle, alias_number_of_atom, alias_numbers_in_list}
pub use Rattle.sudoers_match_list.specs.Search.{first_step_of_alias, members_of_optional_definition, members_of_definition_number, search_steps_left, step_after_member, steps_left_for_new_aliases, steps_left_on_stack}
pub use Rattle.sudoers_match_list.specs.declared.numbered_alias.AliasNumberAndMembers.{AliasNumberAndMembers}
pub use Rattle.sudoers_match_list.specs.declared.flatten.PendingListPart.{PendingListPart}
pub use Rattle.sudoers_match_list.specs.declared.verdict.MemberHit.{MemberHit}
pub use Rattle.sudoers_match_list.specs.declared.alias_verdicts.AliasDecisionState.{AliasDecisionState}
pub use Rattle.sudoers_match_list.specs.declared.alias_verdicts.AliasDecisionState.TheVariants.{Decided, New, Open}
pub use Rattle.sudoers_match_list.specs.declared.alias_verdicts.AliasSearchStep.{AliasSearchStep}
pub use Rattle.sudoers_match_list.specs.internal.Parts.{IsPendingPartInPlaceOfAliasMember, expansion_steps, expansion_steps_left, expansion_steps_of_member, expansion_steps_of_part, members_left_to_write, expanded_members_of_part}
pub use Rattle.sudoers_match_list.specs.internal.Roots.{AreCachesOfAllKindsValid, DecidesConditionAndKeepsCaches, SomeAliasLeadsToCycle, alias_member_named, aliases_in_spec_or_defaults, single_member_list_naming_alias}
pub use Rattle.sudoers_match_list.specs.internal.Shortcuts.{AreDefinitionShortcuts, AreEndsOfAliasChainOfAtom, IsDefinitionShortcut, IsListReachedByExpansions, kind_and_members_of_def, kind_and_members_of_definition, kind_and_members_of_row}
pub use Rattle.sudoers_match_list.specs.internal.Shortcuts.{kind_of_definition_at, kind_of_definition_or_user, kinds_and_members_in_line, kinds_and_members_in_node}
pub use Rattle.sudoers_tree.specs.Definition.{PlacedDefinition, definitions_from_line_number, definitions_from_place, definitions_in_line, definitions_of_lines, first_definition_of, is_definition_of_name, is_equal_kind}
pub use Rattle.sudoers_tree.specs.Definition.{members_of_alias_definition}
pub use Rattle.sudoers_tree.specs.Line.{Line, line_of_row, lines_of_rows}
