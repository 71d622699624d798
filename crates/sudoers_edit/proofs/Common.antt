-- The names that most proofs of this crate cite, passed on from one place. Declares nothing.
pub use Rattle.std.proofs.Common.{Bool, Err, IfErr, IsOkAnd, IsSomeAnd, List, None, Ok, Option, Result, Some, [], add-one, ap, append-nil, append_assoc, ap₂, arith, codes, drop, drop-cons, false, flat_map, get_or}
pub use Rattle.std.proofs.Common.{if◌then◌else◌, inl, inr, insert, length, map, nat_eq, not, option_and_then, option_map, refl, remove, reverse, rules, slice_index_or, slice_set, subst, suc, sym, take, true, unwrap_or}
pub use Rattle.std.proofs.Common.{zero, ℕ, ◌&&◌, ◌++◌, ◌+◌, ◌-◌, ◌<◌, ◌==◌, ◌||◌, ◌∙◌, ◌∷◌, ◌≡◌, ◌≢◌, ◌≤◌, ◌⊎◌}
pub use Rattle.std.proofs.lemmas.Bool.{and_parts, and_right, cases_Bool, eq-eqb, eqb-false, eqb-true, false≢true, le-ltb, leb-false, lt-leb, lt-ltb, ltb-false, ltb-true, ne_eqb, not-false, or_parts as or_false}
pub use Rattle.std.proofs.lemmas.Bool.Decides.{leb_tells, nat_tests}
pub use Rattle.std.proofs.lemmas.List.{drop-append-le, drop-drop, drop-map, drop-take, drop_all, drop_at, drop_more, get_or-map, length-append, length-drop, length-map, length-take-le, map-append, nil_from_length}
pub use Rattle.std.proofs.lemmas.List.{reverse-append, reverse-reverse, take-append-drop, take-append-le, take-map, take-take, take_all, take_at, take_more}
pub use Rattle.std.proofs.lemmas.List.Concat.{flat_map-append}
pub use Rattle.std.proofs.lemmas.List.Elements.{All-drop, All-filter, All-from_recursion, All-map, All-same, All-weaker, filter-append, recursion_from_All}
pub use Rattle.std.proofs.lemmas.Option.{slice_get-get_or, slice_get-map, slice_get_past, slice_get_read, slice_get_within, unwrap_or-slice_get}
pub use Rattle.std.proofs.lemmas.Slice.Eq.{bytes_eq-Decides}
pub use Rattle.std.specs.List.{All, AllByRecursion, filter, list_any, prefix_len}
pub use Rattle.std.specs.Option.{is_some as is_there, option_map_or, option_or}
pub use Rattle.std.specs.Prelude.{IfOk, min, nat_le, nat_lt, option_to_list, slice_get, ◌^◌}
pub use Rattle.std.specs.Result.{result_ok, result_unwrap_or}
pub use Rattle.std.specs.Str.{bytes_eq}
pub use Rattle.sudoers_check.specs.Led.{is_unused, unused_definitions_of_lines}
pub use Rattle.sudoers_edit.specs.Editing.{AreRedoableEdits, EditorState, IsRefusalOrNoMemory, IsUndoableJournal, text_owned_by_alias_member, edit_undoing_removal, edits_of_entries, edits_of_prune}
pub use Rattle.sudoers_edit.specs.Editing.{edits_undoing_removals, initial_policy_of_editor, inv, inv_run, line_text_in_file, next_or_placed_refusal, place_within_file_of_definition, policy_after_edit_if_accepted}
pub use Rattle.sudoers_edit.specs.Editing.{policy_after_removal, policy_after_removals, policy_before_entries, policy_or_first_refusal, policy_with_file_defining_alias_edited, policy_with_file_edited, run}
pub use Rattle.sudoers_edit.specs.Editing.{run_result_without_place, step}
pub use Rattle.sudoers_edit.specs.Landing.{LineTexts, edit_fault_of_load_fault, edit_result_and_then, files_with_bytes_replaced, is_line_too_long, policy_of_files_or_refusal, policy_or_edit_fault, policy_with_file_lines}
pub use Rattle.sudoers_edit.specs.Landing.{result_or_refusal_if_none, result_unless_refused}
pub use Rattle.sudoers_edit.specs.LineEdits.{is_last_line_too_long, line_with_lf_added, line_with_lf_removed, lines_after_delete, changed_lines_unless_last_too_long, lines_after_insert, lines_after_move, lines_with_last_changed}
pub use Rattle.sudoers_edit.specs.LineEdits.{lines_with_one_moved}
pub use Rattle.sudoers_edit.specs.OneLine.{SplitsIntoItselfAsOnlyLine, is_cut_outcome_with_exactly_one_line, is_one_logical_line}
unfoldable pub use Rattle.sudoers_edit.specs.Pruning.{prune_removals_of_walk}
pub use Rattle.sudoers_edit.specs.Pruning.{edit_of_removal, removals_from_line_number, removals_of_line}
pub use Rattle.sudoers_edit.specs.Redoing.{RedoesLastUndone, undone_edits_after_edits}
pub use Rattle.sudoers_edit.specs.Renamed.{IsPolicyAfterRename, RenamedFilesAreWithinLimits, line_after_rename, lines_after_rename, named_alias_of_kind_and_name, parsed_file_after_rename, parsed_files_after_rename}
pub use Rattle.sudoers_edit.specs.Renamed.{parsed_files_numbered_from_renamed_if_on_walk}
unfoldable pub use Rattle.sudoers_edit.specs.Renaming.{policy_after_rename}
pub use Rattle.sudoers_edit.specs.Renaming.{is_alias_name_in_use, named_files_after_rename, texts_of_renamed_lines}
pub use Rattle.sudoers_edit.specs.Splice.{ByteExtent, bytes_between, definition_without_member, definitions_with_one_changed, extents_of_definition_members, extents_of_definitions, extents_of_members}
pub use Rattle.sudoers_edit.specs.Splice.{are_owned_byte_offsets_in_both_lists, has_one_definition_more, has_one_member_more, is_option_equal_to, line_with_splice, line_without_bytes, owned_bytes_start, owned_bytes_stop}
unfoldable pub use Rattle.sudoers_edit.specs.SpliceEdits.{text_owned_by_definition, text_owned_by_member, lines_with_definition_added, lines_with_definition_dropped, lines_with_member_added, lines_with_member_dropped}
pub use Rattle.sudoers_edit.specs.SpliceEdits.{replaced_lines_unless_bad_splice_or_too_long, definitions_of_alias_line, has_one_item_more, lines_with_item_cut_out, lines_with_item_put_in, replaced_lines_unless_too_long, result_with_bytes_to_drop_item}
pub use Rattle.sudoers_edit.specs.SpliceEdits.{result_with_offset_to_add_item, result_with_definition_at, result_with_line_definitions}
pub use Rattle.sudoers_edit.specs.WayBack.{HasRestoringInverse, byte_count_of_files, names_of_named_files}
pub use Rattle.sudoers_edit.specs.declared.editor.AppliedEditWithInverse.{AppliedEditWithInverse}
pub use Rattle.sudoers_edit.specs.declared.editor.JournalStep.{JournalStep}
pub use Rattle.sudoers_edit.specs.declared.fault.EditFault.{EditFault}
pub use Rattle.sudoers_edit.specs.declared.fault.EditFault.TheVariants.{BadName, BadSplice, EndAsIs, NameTaken, NoAlias, NoFile, NoLine, NoPlace, NotOneLine, OnlyOne, OpenLine, TooLarge}
pub use Rattle.sudoers_edit.specs.declared.extra_item.ItemListKind.{ItemListKind}
pub use Rattle.sudoers_edit.specs.declared.prune_removals.PruneRemoval.{PruneRemoval}
pub use Rattle.sudoers_edit.specs.internal.ChangeLaws.{FirstChangeLaw, NoChangesLaw}
pub use Rattle.sudoers_edit.specs.internal.Drafts.{AreRemovalsBelowLimitsInTurn, CanRemoveDefinition, CanRemoveLine, DiffersOnlyInFileLines, IsAliasLineOnWalk, IsRemovalBelowLimitsOnAliasLine, IsDefinitionCut, IsFileOrderOfChanges}
pub use Rattle.sudoers_edit.specs.internal.Drafts.{IsPartialPrune, LeavesLinesBelowLimitsUnchanged, IsRemovalMade, IsRemovalOutcome, IsResultOfChanges, BeginsWithReplacementOfLine, changes_without_first_if_it_replaces_line, is_line_cut_by_removal}
pub use Rattle.sudoers_edit.specs.internal.Drafts.{limits_with_limit_of_file_set, removal_limits_after, replacement_text_by_first_change}
pub use Rattle.sudoers_edit.specs.internal.EditLaws.{LawsBehindLineEdits, LawsBehindMemberEdits}
pub use Rattle.sudoers_edit.specs.internal.LastLine.{LawsBehindFinalLfEdits}
pub use Rattle.sudoers_edit.specs.internal.NameOffsets.{line_replaced_at_offsets, mention_offset_of_member, mention_offsets_in_members, name_offset_if_alias_member_matches, name_offsets_in_definition}
pub use Rattle.sudoers_edit.specs.internal.NameOffsets.{name_offsets_in_line, named_files_with_name_replaced, named_files_numbered_from_replaced_if_on_walk, text_with_name_replaced, texts_with_name_replaced}
pub use Rattle.sudoers_edit.specs.internal.Leading.{AreChangesOfEdit, rename_change_in_line, rename_changes_in_file, rename_changes_in_files}
pub use Rattle.sudoers_edit.specs.internal.LeadingInFile.{AreApplicableChangesOfFile, AreLogicalLinesOfFileWithinTextLimit, EditSetsFileLines, line_changes_of_move, line_texts_of_file}
pub use Rattle.sudoers_edit.specs.internal.OneMore.{IsLineTextWithItemCutOut, IsLineTextWithItemPutIn}
pub use Rattle.sudoers_edit.specs.internal.PruneLaws.{LawsBehindPrunes}
pub use Rattle.sudoers_edit.specs.internal.PruneOrder.{leading_place_count_in_line, removals_along_places, removals_of_spot_and_places}
pub use Rattle.sudoers_edit.specs.internal.RenameLaws.{LoadedFileLawsBehindRenames, TextSizeLawsBehindRenames, RenamedLineLaws}
pub use Rattle.sudoers_edit.specs.internal.Splicing.{AreSoundParsedLines, EditReplacesFileLine, IsAliasDefinedAt}
pub use Rattle.sudoers_edit.specs.internal.Undone.{AreJournalReversals, RestoreOldPolicy, entries_of_steps, inverse_of_changes_after_counts, inverse_of_changes}
pub use Rattle.sudoers_edit.specs.internal.UndoneLines.{inverse_of_changes_in_file, inverse_of_one_change, lines_put_count_of_change, lines_taken_count_of_change}
pub use Rattle.sudoers_edit_script.specs.Script.{AreSpellable, HasFittingNumbers, HaveFittingNumbers, edit_limit, has_word_names, is_spellable_word, script_or_first_fault, spelling_of_edits}
pub use Rattle.sudoers_edit_script.specs.declared.edit.Edit.{Edit}
pub use Rattle.sudoers_edit_script.specs.declared.edit.Edit.TheVariants.{AddDef, AddMember, Delete, DropDef, DropMember, EndLine, Insert, Move, OpenEnd, Prune, Rename}
pub use Rattle.sudoers_grammar.specs.Ascend.{AreOrderedAliasDefinitions, AreOrderedNameOffsets, DefinitionContainsItsMembers}
pub use Rattle.sudoers_grammar.specs.Line.{IsLineSyntaxFault, LineReadsAsNode}
pub use Rattle.sudoers_grammar.specs.Listed.{AliasMember, ListedMember, alias_member_of_atom, aliases_among_listed, aliases_in_node, listed_members_of_node, members_listed_as_kind}
pub use Rattle.sudoers_grammar.specs.Node.{CmdSpec, Def, Digest, HostGroup, Member, Node, RunasSpec}
unfoldable pub use Rattle.sudoers_grammar.specs.Piece.{digest_kind_of_token, is_alias_name, is_mark_of_byte}
pub use Rattle.sudoers_grammar.specs.Piece.{TokenWithBytes, digest_kinds_by_word, has_first_byte, is_arg, is_digest, is_word, token_with_bytes, tokens_with_bytes, value_of_matching_row}
pub use Rattle.sudoers_grammar.specs.Renamed.{AliasRenaming, NamedAlias, alias_offsets_in_atom, alias_offsets_in_command, alias_offsets_in_definition, alias_offsets_in_host_group, alias_offsets_in_member}
pub use Rattle.sudoers_grammar.specs.Renamed.{alias_offsets_in_node, alias_offsets_in_runas_option, atom_with_alias_renamed, bytes_replaced_at_offsets, command_with_alias_renamed, definition_with_alias_renamed}
pub use Rattle.sudoers_grammar.specs.Renamed.{host_group_with_alias_renamed, line_text_after_rename, member_with_alias_renamed, members_with_alias_renamed, node_with_alias_renamed, renamed_alias}
pub use Rattle.sudoers_grammar.specs.Renamed.{renaming_of_alias_in_node, runas_option_with_alias_renamed}
pub use Rattle.sudoers_grammar.specs.declared.node.Atom.{Atom}
pub use Rattle.sudoers_grammar.specs.declared.node.Kind.{Kind}
pub use Rattle.sudoers_grammar.specs.declared.node.Kind.TheVariants.{Cmnd, Host, Runas, User}
pub use Rattle.sudoers_line_rows.specs.Alike.{are_lists_alike, is_same_args, is_same_atom, is_same_bool, is_same_def, is_same_digest, is_same_digest_kind, is_same_mask, is_same_member}
pub use Rattle.sudoers_line_rows.specs.Tables.{alias_definition_in_tables}
pub use Rattle.sudoers_line_rows.specs.View.{alias_definition_of_view, alias_definitions_of_view, node_of_view}
pub use Rattle.sudoers_line_rows.specs.declared.rows.AliasDefinitionRow.{AliasDefinitionRow}
pub use Rattle.sudoers_line_rows.specs.declared.view.Node.{Node as NodeView}
pub use Rattle.sudoers_text.proofs.Alone.{join_is_cut_into_its_lines, lines_of_cut_text_are_cut_alone}
pub use Rattle.sudoers_text.specs.Ascend.{AreOrderedSpans}
unfoldable pub use Rattle.sudoers_text.specs.Cut.{cut_outcome_of_text, fault_of_logical_line, first_fault_of_lines, is_unfinished_line, logical_lines_of_text}
pub use Rattle.sudoers_text.specs.Cut.{EachIsOneLineWhenCut, first_present_fault}
pub use Rattle.sudoers_text.specs.Ended.{ends_in_lf, has_inner_line_without_lf}
pub use Rattle.sudoers_text.specs.Fault.{IsOutcomeOfCut, lf_count, line_limit, text_limit}
pub use Rattle.sudoers_text.specs.Line.{AreLinesOfText, join}
unfoldable pub use Rattle.sudoers_text.specs.Part.{argument_units_size, leading_run_size, quoted_front_to_inner_separator_size, quotes_and_run_between_size}
pub use Rattle.sudoers_text.specs.Part.{argument_unit_size, backslash_unit_size_by, closed_quote_size, pair_or_continuation_size_of_unit, first_nonzero_number, has_given_first_byte, is_byte_of_include_path, is_byte_of_parameter_name}
pub use Rattle.sudoers_text.specs.Part.{is_digest_byte, is_nonempty_run, is_path_byte, is_punct, is_quoted_byte, is_value_byte, is_whole_argument, is_word_byte, pair_size_of_unit, reach_of_units, reach_past_first_byte}
pub use Rattle.sudoers_text.specs.Part.{run_unit_size, size_of_one_matching_byte}
unfoldable pub use Rattle.sudoers_text.specs.Piece.{plus_or_minus_equals_size, quoted_argument_rest_size}
pub use Rattle.sudoers_text.specs.Piece.{Argument, CommandPath, CommentPart, Mark, NonUnixGroup, Number, Operator, QuotedPart, Run, TokenForm, has_host_or_runas_sign, is_argument_of_size, is_hash_id}
pub use Rattle.sudoers_text.specs.Piece.{is_non_unix_group_word, is_numeric_id, is_optional_colon_id, is_piece_of_form, kind_of_form}
pub use Rattle.sudoers_text.specs.Renamed.{IsDefinableName}
pub use Rattle.sudoers_text.specs.Token.{AreTokensFrom, HasTokens, IsTokenOfKindAndSize, is_line_end_or_empty, leading_gap_size, units_left_of_place}
pub use Rattle.sudoers_text.specs.Unit.{Byte, Continuation, LineUnit, Pair, begins_lf, begins_line_end, is_digit, is_id_position_after_units, is_comma_colon_or_equals, unit_after_backslash}
unfoldable pub use Rattle.sudoers_text.specs.Whole.{is_logical_line}
pub use Rattle.sudoers_text.specs.Whole.{IsLogicalLine}
pub use Rattle.sudoers_text.specs.Word.{digest_kinds, include_words, is_among, is_name, is_option_name, is_reserved, is_tag}
pub use Rattle.sudoers_text.specs.declared.fault.TextFault.{TextFault}
pub use Rattle.sudoers_text.specs.declared.token.TokenKind.{TokenKind}
pub use Rattle.sudoers_tree.proofs.ChangedLines.{first_change_splits_changed_lines, no_changes_leave_lines_unchanged, single_put_is_insert, single_swap_is_replacement, single_take_is_remove}
pub use Rattle.sudoers_tree.proofs.Known.{line_cut_as_itself_is_logical_line, loaded_policy_keeps_names_and_bytes, logical_line_is_computed_logical_line, computed_logical_line_is_logical_line, loaded_walk_lines_are_valid, logical_line_within_limit_is_cut_as_itself, computed_line_outcome_is_line_outcome, loaded_walk_lines_are_at_their_spots}
pub use Rattle.sudoers_tree.proofs.SaidLines.{EachLineHasComputedOutcome, LineCutAsItselfIsLogical, parsed_lines_are_read_as_single_lines}
pub use Rattle.sudoers_tree.proofs.WholeLines.{lines_cut_as_themselves_are_logical}
pub use Rattle.sudoers_tree.specs.Changed.{AreChangesInOrder, file_number_of_change, line_number_of_change, lines_after_changes, lines_changed_from_number, lines_with_one_replaced, min_line_number_after_change}
pub use Rattle.sudoers_tree.specs.Changed.{text_of_change, texts_of_changes}
pub use Rattle.sudoers_tree.specs.ChangedFiles.{AreApplicableChanges, AreFileNumbersOfChangesInOrder, changed_files_from_number, changes_of_file, files_after_changes}
pub use Rattle.sudoers_tree.specs.Definition.{PlacedDefinition, definition_place_of_name, definitions_from_line_number, definitions_from_place, definitions_in_line, definitions_of_lines, first_definition_of}
pub use Rattle.sudoers_tree.specs.Definition.{is_definition_of_name, is_equal_kind}
unfoldable pub use Rattle.sudoers_tree.specs.Fault.{fault_of_definition_name}
pub use Rattle.sudoers_tree.specs.Fault.{is_some, syntax_fault_as_read_fault}
pub use Rattle.sudoers_tree.specs.FilePlaces.{file_place_of_definition, file_place_of_walk_place}
unfoldable pub use Rattle.sudoers_tree.specs.Files.{parsed_file_of_texts}
pub use Rattle.sudoers_tree.specs.Files.{ParsedFile, fault_of_numbered_file, lines_of_numbered_file, lines_of_numbered_file as file_lines_of, lines_of_optional_file, name_of_numbered_file}
pub use Rattle.sudoers_tree.specs.Lead.{lead_of_parsed_line}
pub use Rattle.sudoers_tree.specs.Line.{Line, line_of_row, line_of_view, lines_of_rows}
unfoldable pub use Rattle.sudoers_tree.specs.Load.{policy_or_load_fault}
pub use Rattle.sudoers_tree.specs.Load.{AreLinesAtSpots, LoadedPolicy, file_limit, first_fault_of_unreached_file, first_repeated_file_name, named_file_of_parsed, named_file_of_parsed as named_of, named_files_of_policy}
pub use Rattle.sudoers_tree.specs.Load.{parsed_file_of_cut_or_fault, parsed_files_or_cut_fault, policy_of_parsed_files, reserved_name_fault_of_definitions, reserved_name_fault_in_lines, result_unless_repeated_name, walk_or_first_fault}
pub use Rattle.sudoers_tree.specs.Load.{walk_or_unreached_file_fault}
pub use Rattle.sudoers_tree.specs.Mapped.{AreDefinedNamesValid, AreFilesMapped, CanReplaceFiles, IsMappedWalk, KeepIncludeLeads, KeepsIncludeLead, LineToLinesMapping, MakeMappedLines, file_names, mapped_lines_at_spots}
pub use Rattle.sudoers_tree.specs.Mapped.{mapped_lines_from_number, nowhere, one}
pub use Rattle.sudoers_tree.specs.Mention.{members_of_kind_among_listed, members_in_host_group, members_of_kind_in_line, members_of_runas, mention_span_of_member, mention_spans_among_members, mentions_from_line_number}
pub use Rattle.sudoers_tree.specs.Mention.{mentions_in_line, mentions_in_lines}
pub use Rattle.sudoers_tree.specs.Policy.{AreValidWalkLines, HasUnreservedName, HaveDistinctNames, IsCorrectlyParsed, alias_limit_of_each_kind, definition_count_of_kind, texts_of_lines}
pub use Rattle.sudoers_tree.specs.Reading.{first_definition_fault, first_of_two_faults}
unfoldable pub use Rattle.sudoers_tree.specs.Single.{reading_of_single_line}
pub use Rattle.sudoers_tree.specs.Single.{IsReadingOfSingleLine}
unfoldable pub use Rattle.sudoers_tree.specs.Walk.{walk_or_fault_of_files}
pub use Rattle.sudoers_tree.specs.Walk.{FileVisit, IncludeSite, WalkState, empty_walk, files_opened_by_lead, files_unless_missing_or_on_walk, files_unless_on_walk, first_file_on_walk, include_depth_limit, include_site_of_line}
pub use Rattle.sudoers_tree.specs.Walk.{is_file_on_walk, lead_of_file_line, load_result_and_then, load_result_and_then as load_then, repeated_include_fault, spot_of_file_line, spot_of_walk_line, value_unless_file_fault}
pub use Rattle.sudoers_tree.specs.Walk.{walk_after_file_lines, walk_after_file_visit, walk_after_file_visits, walk_with_file_entered, walk_with_line_appended}
pub use Rattle.sudoers_tree.specs.declared.fault.ReadFault.{ReadFault}
pub use Rattle.sudoers_tree.specs.declared.line.LineRow.{LineRow}
pub use Rattle.sudoers_tree.specs.declared.line_change.LineChange.{LineChange}
pub use Rattle.sudoers_tree.specs.declared.line_change.LineChange.TheVariants.{Put, Swap, Take}
pub use Rattle.sudoers_tree.specs.declared.named_files.NamedFile.{NamedFile}
pub use Rattle.sudoers_tree.specs.declared.load_fault.LoadFault.{LoadFault}
pub use Rattle.sudoers_tree.specs.declared.place.DefinitionFilePlace.{DefinitionFilePlace}
pub use Rattle.sudoers_tree.specs.declared.place.Place.{Place}
pub use Rattle.sudoers_tree.specs.declared.place.Span.{Span}
pub use Rattle.sudoers_tree.specs.declared.place.WalkLineSpot.{WalkLineSpot}
