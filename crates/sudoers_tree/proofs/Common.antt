-- The names that most proofs of this crate cite, passed on from one place. Declares nothing.
pub use Rattle.memchr.specs.Find.{FindsNeedle, IsFirstByte, NoneAfter, Nowhere, OccursAt, Passes, is_byte}
pub use Rattle.std.proofs.Common.{Bool, Err, IfSome, IsTrue, List, MatchResult, None, Ok, OnErr, OnOk, Option, Result, Some, [], add-one, ap, append-nil, append_assoc, ap₂, arith, codes, cond, drop, drop-cons, drop_at}
pub use Rattle.std.proofs.Common.{false, flat_map, get_or, get_or-append-add, if◌then◌else◌, inl, inr, insert, is_ok, length, map, max, min, nat_eq, nat_le, nat_lt, not, option_map, option_to_list, refl, remove, rules}
pub use Rattle.std.proofs.Common.{slice_get, slice_index, slice_range, subst, suc, sym, take, take_at, true, true≢false, zero, ℕ, ◌&&◌, ◌*◌, ◌++◌, ◌+◌, ◌-◌, ◌<◌, ◌==◌, ◌||◌, ◌∙◌, ◌∷◌, ◌≡◌, ◌≤◌, ◌⊎◌}
pub use Rattle.std.proofs.lemmas.Bool.{eq-eqb, eqb-true, le-ltb, lt-ltb, ltb-false, ltb-true, ne_eqb}
pub use Rattle.std.proofs.lemmas.Bool.Decides.{Decides-eqb, nat_tests}
pub use Rattle.std.proofs.lemmas.List.{drop-drop, drop-map, drop_all, drop_more, get_or_append_left, length-append, length-drop, length-map, length-take-le, length_push, map-append, take-append-drop, take-append-le}
pub use Rattle.std.proofs.lemmas.List.{take-map, take_all, take_more}
pub use Rattle.std.proofs.lemmas.List.Elements.{All-cons, All-drop, All-get_or, All-head, All-nil, All-push, All-same, All-tail, All-take, All-weaker}
pub use Rattle.std.proofs.lemmas.List.Folds.{list_any-append}
pub use Rattle.std.proofs.lemmas.Option.{get_or_from_slice_get, slice_get-get_or, slice_get-map, slice_get_within}
pub use Rattle.std.proofs.lemmas.Slice.Eq.{bytes_eq-Decides}
unfoldable pub use Rattle.std.specs.List.{IsDistinct}
pub use Rattle.std.specs.List.{All, AllByRecursion, list_all, list_any, position_or_len}
pub use Rattle.std.specs.Prelude.{option_and_then, option_copied, position, zip}
pub use Rattle.std.specs.Result.{result_ok}
pub use Rattle.std.specs.Str.{bytes_eq}
pub use Rattle.sudoers_grammar.specs.Line.{IsLineSyntaxFault, LineReadsAsNode, ReturnsNodeOrNoMemory}
pub use Rattle.sudoers_grammar.specs.Listed.{AliasMember, ListedMember, alias_member_of_atom, aliases_among_listed, aliases_in_node, listed_members_of_command, listed_members_of_host_group, listed_members_of_node}
pub use Rattle.sudoers_grammar.specs.Listed.{listed_members_of_runas, listed_members_of_scope, members_listed_as_kind}
pub use Rattle.sudoers_grammar.specs.Node.{Alias, CmdSpec, Def, HostGroup, Member, Node, RunasSpec, Scope}
pub use Rattle.sudoers_grammar.specs.declared.fault.LineFault.{LineFault}
pub use Rattle.sudoers_grammar.specs.declared.fault.Why.{Why}
pub use Rattle.sudoers_grammar.specs.declared.node.Kind.{Kind}
pub use Rattle.sudoers_grammar.specs.declared.node.Kind.TheVariants.{Cmnd, Host, Runas, User}
unfoldable pub use Rattle.sudoers_line_reader.specs.Outcome.{outcome_of_line}
pub use Rattle.sudoers_line_reader.specs.Outcome.{IsLineOutcomeOrNoMemory, IsOutcomeOfLine, IsOutcomeOfLine as IsLineOutcome}
pub use Rattle.sudoers_line_rows.proofs.Growth.{table_growth_is_transitive, tables_have_grown_from_themselves}
pub use Rattle.sudoers_line_rows.specs.Tables.{RowMeaningLasts, RowMeansForGood, TablesHaveGrown, alias_definition_in_tables, command_in_tables, host_group_in_tables, member_in_tables, node_in_tables, text_in_tables}
pub use Rattle.sudoers_line_rows.specs.View.{alias_definitions_of_view, command_of_view, host_group_of_view, host_groups_of_view, members_of_view, node_of_view, scope_of_view}
pub use Rattle.sudoers_line_rows.specs.declared.rows.Tables.{Tables}
unfoldable pub use Rattle.sudoers_text.specs.Cut.{cut_outcome_of_text}
pub use Rattle.sudoers_text.specs.Cut.{EachIsOneLineWhenCut}
pub use Rattle.sudoers_text.specs.Ended.{has_inner_line_without_lf}
pub use Rattle.sudoers_text.specs.Fault.{IsFaultlessCut, IsOutcomeOfCut as IsCutOutcome, lf_count, line_limit, text_limit}
pub use Rattle.sudoers_text.specs.Line.{AreLinesOfText, join}
unfoldable pub use Rattle.sudoers_text.specs.Whole.{is_logical_line}
pub use Rattle.sudoers_text.specs.Whole.{IsLogicalLine}
pub use Rattle.sudoers_text.specs.Word.{is_reserved}
pub use Rattle.sudoers_text.specs.declared.fault.TextFault.{TextFault}
pub use Rattle.sudoers_tree.specs.Changed.{AreChangesInOrder, file_number_of_change, line_after_changes, line_number_of_change, lines_after_changes, lines_changed_from_number, lines_with_one_replaced}
pub use Rattle.sudoers_tree.specs.Changed.{min_line_number_after_change, text_of_change, texts_of_changes, texts_put_before_line}
pub use Rattle.sudoers_tree.specs.ChangedFiles.{AreApplicableChanges, AreFileNumbersOfChangesInOrder, changed_files_from_number, changes_of_file, files_after_changes, lines_of_changed_file}
pub use Rattle.sudoers_tree.specs.Definition.{PlacedDefinition, definition_place_of_name, definitions_from_line_number, definitions_from_place, definitions_in_line, definitions_of_lines, first_definition_of}
pub use Rattle.sudoers_tree.specs.Definition.{is_definition_of_name, is_equal_kind, members_of_alias_definition}
unfoldable pub use Rattle.sudoers_tree.specs.Fault.{fault_of_definition_name}
pub use Rattle.sudoers_tree.specs.Fault.{AreSoundDefinitions, IsFaultOfLineAfter, IsFirstFaultOfText, IsFirstLineFault, IsNameFaultInLine, IsSyntaxFaultAfterLines, is_some, syntax_fault_as_read_fault}
unfoldable pub use Rattle.sudoers_tree.specs.Files.{parsed_file_of_texts}
pub use Rattle.sudoers_tree.specs.Files.{AreParsedUntilFault, ParsedFile, fault_of_numbered_file, fault_of_optional_file, line_before_parsed_lines, lines_of_numbered_file, lines_of_optional_file}
pub use Rattle.sudoers_tree.specs.Files.{lines_parsed_until_fault, name_of_numbered_file, name_of_optional_file, parsed_file_from_pair, parsed_lines_from_outcome, physical_line_of_file_line, syntax_fault_at_byte, whole}
pub use Rattle.sudoers_tree.specs.Lead.{folder_of, include_lead_of_line, lead_of_optional_node, lead_of_parsed_line, name_without_trailing_slashes}
pub use Rattle.sudoers_tree.specs.Line.{Line, line_of_row, line_of_view}
unfoldable pub use Rattle.sudoers_tree.specs.Load.{policy_or_load_fault}
pub use Rattle.sudoers_tree.specs.Load.{AreLinesAtSpots, IsLineAtBoundedSpot, IsLineAtSpot, LoadedPolicy, file_limit, first_fault_of_unreached_file, first_repeated_file_name, has_file_with_name, is_name_among}
pub use Rattle.sudoers_tree.specs.Load.{named_file_of_parsed, named_file_of_parsed as named_of, named_files_of_policy, parsed_file_of_cut_or_fault, parsed_files_or_cut_fault, policy_of_parsed_files, reserved_name_fault_of_definitions}
pub use Rattle.sudoers_tree.specs.Load.{reserved_name_fault_in_lines, result_unless_repeated_name, walk_or_first_fault, walk_or_unreached_file_fault}
pub use Rattle.sudoers_tree.specs.Mapped.{AreDefinedNamesValid, AreFilesMapped, CanReplaceFiles, IsMappedWalk, KeepsIncludeLead, LineToLinesMapping, MakeMappedLines, file_names, mapped_lines_at_spots, mapped_lines_from_number}
pub use Rattle.sudoers_tree.specs.Mapped.{nowhere, one}
pub use Rattle.sudoers_tree.specs.Mention.{members_of_kind_among_listed, members_in_host_group, members_of_kind_in_line, members_of_runas, mention_span_if_alias_named, mention_span_of_member, mention_spans_among_members}
pub use Rattle.sudoers_tree.specs.Mention.{mentions_from_line_number, mentions_in_line}
pub use Rattle.sudoers_tree.specs.NameBits.{bits_of_name, name_hash_after}
pub use Rattle.sudoers_tree.specs.Physical.{byte_count_after_last_lf, physical_line_after_bytes}
pub use Rattle.sudoers_tree.specs.Policy.{AreValidWalkLines, HasUnreservedName, HaveDistinctNames, IsCorrectlyParsed, AreLinesOfSingleTextPolicy, alias_limit_of_each_kind, definition_count_of_kind, texts_of_lines}
unfoldable pub use Rattle.sudoers_tree.specs.Reading.{line_or_fault_after, policy_lines_of_text}
pub use Rattle.sudoers_tree.specs.Reading.{IsPolicyOrFirstFaultOfText, first_definition_fault, first_of_two_faults, line_from_parse_outcome, line_result_and_then, lines_read_after, policy_lines_of_cut, value_unless_fault}
unfoldable pub use Rattle.sudoers_tree.specs.Single.{reading_of_single_line}
pub use Rattle.sudoers_tree.specs.Targets.{base_name_of_file_name, ends_in_tilde, file_inserted_in_name_order, included_files_of_folder, is_file_name_before, is_includable_from_folder, number_of_first_file_named}
pub use Rattle.sudoers_tree.specs.Targets.{targets_of_lead}
unfoldable pub use Rattle.sudoers_tree.specs.Walk.{walk_or_fault_of_files}
pub use Rattle.sudoers_tree.specs.Walk.{FileVisit, IncludeSite, WalkState, empty_walk, files_opened_by_lead, files_unless_missing_or_on_walk, files_unless_on_walk, first_file_on_walk, include_depth_limit, include_site_of_line}
pub use Rattle.sudoers_tree.specs.Walk.{is_file_on_walk, lead_of_file_line, load_result_and_then, repeated_include_fault, spot_of_file_line, value_unless_file_fault, walk_after_file_lines, walk_after_file_visit}
pub use Rattle.sudoers_tree.specs.Walk.{walk_after_file_visits, walk_with_file_entered, walk_with_line_appended}
pub use Rattle.sudoers_tree.specs.declared.fault.ReadFault.{ReadFault}
pub use Rattle.sudoers_tree.specs.declared.fault.ReadFault.TheVariants.{Duplicate, NotLoaded, Reserved, Syntax, Text, TooDeep, TooMany, Twice}
pub use Rattle.sudoers_tree.specs.declared.fault.SyntaxFault.{SyntaxFault}
pub use Rattle.sudoers_tree.specs.declared.files.ParsedFileRows.{ParsedFileRows}
pub use Rattle.sudoers_tree.specs.declared.alias_index.AliasNameIndex.{AliasNameIndex}
pub use Rattle.sudoers_tree.specs.declared.include_leads.Lead.{Lead}
pub use Rattle.sudoers_tree.specs.declared.line.LineRow.{LineRow}
pub use Rattle.sudoers_tree.specs.declared.line_change.LineChange.{LineChange}
pub use Rattle.sudoers_tree.specs.declared.line_change.LineChange.TheVariants.{Put, Swap, Take}
pub use Rattle.sudoers_tree.specs.declared.named_files.NamedFile.{NamedFile}
pub use Rattle.sudoers_tree.specs.declared.load_fault.LoadFault.{LoadFault}
pub use Rattle.sudoers_tree.specs.declared.load_fault.LoadFault.TheVariants.{InFile, NoMemory, SameName, TooManyFiles}
pub use Rattle.sudoers_tree.specs.declared.old_and_new_lines.OldOrNewLines.{OldOrNewLines}
pub use Rattle.sudoers_tree.specs.declared.old_and_new_lines.OldOrNewLines.TheVariants.{New, Old}
pub use Rattle.sudoers_tree.specs.declared.place.Place.{Place}
pub use Rattle.sudoers_tree.specs.declared.place.WalkLineSpot.{WalkLineSpot}
pub use Rattle.sudoers_tree.specs.declared.files_and_walk.WalkedFiles.{WalkedFiles}
pub use Rattle.sudoers_tree.specs.internal.Changing.{leading_change_count_of_file}
pub use Rattle.sudoers_tree.specs.internal.Files.{HasSoundFileRows, parsed_file_of_rows, parsed_files_of_view}
pub use Rattle.sudoers_tree.specs.internal.Index.{IsEntryOutcome, IsIndexEntryOutcome, IsIndexOfDefinitions, entries_after_update, entries_of_definitions, entries_unless_fault, entries_with_definitions}
pub use Rattle.sudoers_tree.specs.internal.Index.{fault_of_new_entry, index_after_update, index_entries_of_kind, is_equal_optional_name, is_next_known_entry, known_names_with_places, known_or_own_entries}
pub use Rattle.sudoers_tree.specs.internal.Index.{names_of_entries, number_of_named_entry, place_of_named_entry}
pub use Rattle.sudoers_tree.specs.internal.KeptLines.{HasAliasRenamed, IsAcceptedNamesChange, IsInPlaceWalkUpdate, IsNewAliasNameFree, IsSoundWalkBeforeChange, KeepsLineCountWithoutFault, ReplaceLinesAtSpots, ReplacesLineAtSpot}
pub use Rattle.sudoers_tree.specs.internal.KeptLines.{files_before_change, walk_before_change, walk_lines_before_change}
pub use Rattle.sudoers_tree.specs.internal.KeptWalk.{HasSameLeadAndLineEnds, KeepsWalkSpots, StaysAtSpotOfWalk, walk_with_lines_replaced}
pub use Rattle.sudoers_tree.specs.internal.Keys.{ChangesDefinedNames, DefinitionKey, IsDefinitionRenamed, RenamesOneDefinition, entries_with_one_renamed, key_of_definition, keys_of_definitions}
pub use Rattle.sudoers_tree.specs.internal.LineBits.{alias_names_in_atom, alias_names_in_command, alias_names_in_host_group, alias_names_in_members, alias_names_in_runas, alias_names_in_scope, bits_of_alias_names_in}
pub use Rattle.sudoers_tree.specs.internal.LineBits.{bits_of_alias_names_in as bits_said, bits_with_names_added}
pub use Rattle.sudoers_tree.specs.internal.Loading.{AreSoundWalkedFiles, lines_of_kept_walk, policy_of_walked_files}
pub use Rattle.sudoers_tree.specs.internal.Pieces.{AreKeptPieces, AreWithinLineLimit, ContinuesReadingLines, HasKeptRows, IsKeptRow, IsSizeWithinLimitsAfter, IsWithinLineLimit, byte_count_of_lines, lf_count_of_lines}
pub use Rattle.sudoers_tree.specs.internal.Pieces.{line_texts_of_piece, line_texts_of_pieces}
pub use Rattle.sudoers_tree.specs.internal.Tree.{IsLastingLineRow}
pub use Rattle.sudoers_tree.specs.internal.Walking.{IsSoundWalkBuilder, IsWalkStepOutcome, walk_after_included_files, walk_state_of_builder}
