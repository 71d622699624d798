-- The names that most proofs of this crate cite, passed on from one place. Declares nothing.
pub use Rattle.std.proofs.Common.{Bool, List, None, Some, [], ap, append-nil, arith, drop, false, inl, inr, length, not, refl, subst, suc, sym, take, true}
pub use Rattle.std.proofs.Common.{zero, ℕ, ◌%◌, ◌&&◌, ◌*◌, ◌++◌, ◌+◌, ◌-◌, ◌/◌, ◌<◌, ◌^◌, ◌||◌, ◌∙◌, ◌∷◌, ◌≡◌, ◌≢◌, ◌≤◌, ◌⊎◌}
pub use Rattle.std.proofs.Math.Seq.{take-append_seam}
pub use Rattle.std.proofs.lemmas.Bool.{and_parts, eqb-true, ne_eqb, not-true, or_parts}
pub use Rattle.std.proofs.lemmas.Bool.Decides.{eqb_tells, nat_tests}
pub use Rattle.std.proofs.lemmas.List.{append_assoc, drop_at, length-append, length-take-le, take-append-drop, take_at}
pub use Rattle.std.proofs.lemmas.Slice.Eq.{bytes_eq-Decides}
pub use Rattle.std.specs.List.{AllByRecursion, join_by, list_all}
pub use Rattle.std.specs.Prelude.{IfSome, Option, codes, if◌then◌else◌, map, nat_eq, nat_le, nat_lt, option_and_then, option_map, ◌==◌}
pub use Rattle.std.specs.Str.{bytes_eq}
pub use Rattle.sudoers_grammar.specs.Atom.{args_of_argument_tokens, patterns_each_after_blank, command_atom_of_tokens, command_atom_of_word, some_if_not_empty, group_atom_after_percent, is_option_value_allowed, is_argument_of_empty_quotes, address_network_or_host_atom}
pub use Rattle.sudoers_grammar.specs.Atom.{user_atom_by_prefix}
unfoldable pub use Rattle.sudoers_grammar.specs.Atom.{atom_of_token, command_atom_without_args, command_atom_with_args, host_atom_of_token, option_value_of_token, host_atom_without_escapes, user_atom_of_token, user_atom_of_bounded_id, user_atom_of_word}
pub use Rattle.sudoers_grammar.specs.Grammar.{AreMembers, BeginsNoAliasIncludeOrDefaults, BeginsSpec, MarkThenRule, IsArg, IsCmdSpec, IsCommand, IsDef, IsDigest, IsHostGroup, IsAliasMemberList}
pub use Rattle.sudoers_grammar.specs.Grammar.{IsMark, IsMember, IsOption, IsParam, IsFlagOrSetting, IsRunas, IsScopeMemberList, IsTag, Many, Perhaps, PerhapsScope, Reads}
pub use Rattle.sudoers_grammar.specs.Grammar.{IsScopeCommand as ReadsScopeCommand, Separated, is_defaults, start_of_first_token, stop_of_last_token}
pub use Rattle.sudoers_grammar.specs.Number.{is_nonempty_digit_string, number_of_decimal_digits as decimal_number, id_limit, is_network_like_text, mask_of_bits_or_address, canonical_number_up_to, address_of_octets, parts_around_first_byte, number_if_within_limit}
unfoldable pub use Rattle.sudoers_grammar.specs.Number.{ipv4_number_of_text, network_mask_of_text, network_atom_of_text}
pub use Rattle.sudoers_grammar.specs.Pattern.{is_escaped_for_policy_alone, pattern_of_kept_pair, is_dropped_backslash_before, pattern_of_remaining_bytes}
unfoldable pub use Rattle.sudoers_grammar.specs.Pattern.{pattern_of_text}
pub use Rattle.sudoers_grammar.specs.Piece.{TokenWithBytes, has_last_byte, has_byte, is_word as is_a_word, is_arg, is_digest, is_parameter_name_kind, is_quoted, value_of_matching_row, tokens_with_bytes}
unfoldable pub use Rattle.sudoers_grammar.specs.Piece.{include_is_dir_of_token, is_alias_name, is_given_word, alias_kind_of_token}
pub use Rattle.sudoers_grammar.specs.declared.node.Args.{Args}
pub use Rattle.sudoers_grammar.specs.declared.node.Args.TheVariants.{Any, Nothing, Pattern}
pub use Rattle.sudoers_grammar.specs.declared.node.Atom.{Atom}
pub use Rattle.sudoers_grammar.specs.Node.{CmdSpec}
pub use Rattle.sudoers_grammar.specs.Node.{Def}
pub use Rattle.sudoers_grammar.specs.Node.{Digest}
pub use Rattle.sudoers_grammar.specs.declared.node.DigestKind.{DigestKind}
pub use Rattle.sudoers_grammar.specs.Node.{HostGroup}
pub use Rattle.sudoers_grammar.specs.declared.node.Kind.{Kind}
pub use Rattle.sudoers_grammar.specs.declared.node.Kind.TheVariants.{Cmnd, Runas, User}
pub use Rattle.sudoers_grammar.specs.declared.node.Mask.{Mask}
pub use Rattle.sudoers_grammar.specs.Node.{Member}
pub use Rattle.sudoers_grammar.specs.Node.{Node}
pub use Rattle.sudoers_grammar.specs.declared.node.OptionName.{OptionName}
pub use Rattle.sudoers_grammar.specs.Node.{Param}
pub use Rattle.sudoers_grammar.specs.Node.{RunasSpec}
pub use Rattle.sudoers_grammar.specs.Node.{Scope}
pub use Rattle.sudoers_grammar.specs.Node.{Setting}
pub use Rattle.sudoers_grammar.specs.declared.node.Tag.{Tag}
pub use Rattle.sudoers_grammar.specs.declared.pattern.PatternSpelling.{PatternSpelling}
pub use Rattle.sudoers_grammar.specs.declared.pattern.PatternSpelling.TheVariants.{Command, Host as HostName, QuotedHost}
pub use Rattle.sudoers_cvt_spell.specs.Commands.{option_keyword, printed_runas_options_tags_and_command, tag_keyword_or_negated}
pub use Rattle.sudoers_cvt_spell.specs.Hosts.{dotted_address, is_host_name_atom, printed_mask_without_slash, is_read_as_host_name}
pub use Rattle.sudoers_cvt_spell.specs.Lines.{printed_line}
pub use Rattle.sudoers_cvt_spell.specs.Members.{is_start_of_non_spec_line, digest_kind_keyword, printed_atom, printed_digests, printed_member_list, printed_member, is_read_as_other_than_user_name, negation_sign}
pub use Rattle.sudoers_cvt_spell.specs.Parameters.{is_quotable_value, is_byte_without_quotes, is_value_without_quotes, defaults_operator_mark}
pub use Rattle.sudoers_cvt_spell.specs.Spelling.{escaped_pattern_byte, is_control, is_word_escape_needed, lower_hex_digit}
pub use Rattle.laws_print.proofs.ArgumentUnits.{tokens_of_argument_words, argument_words_of_units, begins_with_other_than_space, words_with_unit_in_first, is_space_unit, text_of_words_joined_by_spaces}
pub use Rattle.laws_print.proofs.PatternUnits.{ArePatternUnits, escaped_pattern_unit, escaped_pattern_units, is_pattern_unit, units_of_pattern}
pub use Rattle.laws_print.proofs.Units.{AreWrittenUnitsOf, units_of_spelled_byte, is_run_unit, is_written_unit, units_of_spelled_word}
pub use Rattle.laws_print.proofs.Written.{AreTokensCut, AreTokensCutFromPlace, At, AllowsIdBehindUnits, BehindDefaults, HasNoNul, IsClosedText, IsTokenCut, TokenPlace, AreTokensShownBy, StandAsUnitsInText, StandsAtPlace, Start}
pub use Rattle.laws_print.proofs.Written.{AllowsGapAtPlace, WrittenToken, text_of_units, gap_bytes_if_spaced, line_of_written_tokens, units_put_onto, tokens_placed_from_offset}
pub use Rattle.laws_print.specs.Same.{AreItemsPairwiseRelated, CommandIsReadBackAs, MemberIsReadBackAs, ScopeIsReadBackAs, LineReadsBackAs, atom_read_back}
pub use Rattle.laws_print.specs.Writable.{IsNonEmptyListOf, IsIpv4AddressNumber, IsWritableArgs, IsWritableCommand, IsWritableCommandAtom, IsWritableCommandMember, IsWritableDigestText, IsWritableHostGroup, IsWritableHostAtom}
pub use Rattle.laws_print.specs.Writable.{IsWritableHostMember, IsMemberWithoutDigests, IsWritableMask, IsWritableMemberOfKind, IsWritableOption, IsWritableRunasSpec, IsScopeCommandAtom, IsScopeCommandMember}
pub use Rattle.laws_print.specs.Writable.{IsWritableScopeMember, IsSettingAllowedIfNegated, IsWritableUserAtom, IsWritableUserMember, IsWritableNode, IsWritableDefinition, IsWritableParam, IsWritableScope}
pub use Rattle.laws_print.specs.Writable.{is_writable_pattern, is_pattern_byte_but_backslash, is_backslash_kept_before}
pub use Rattle.sudoers_text.specs.Context.{context_after_token, context_after_parameter_token, token_forms_in_command_lists, forms_of_first_token, token_forms_in_context, is_kind_of_list_member, token_forms_of_parameters, token_forms_in_word_lists}
pub use Rattle.sudoers_text.specs.Found.{size_with_prefix, kind_and_size_of_token}
unfoldable pub use Rattle.sudoers_text.specs.Found.{optional_colon_id_size, colon_and_word_size, command_path_size, non_unix_group_size, hash_id_size, hash_include_size_at}
unfoldable pub use Rattle.sudoers_text.specs.Found.{numeric_id_size, tokens_of_line}
pub use Rattle.sudoers_text.specs.Line.{IsLogicalLineBefore}
pub use Rattle.sudoers_text.specs.LineMode.{mode_by_line_start}
unfoldable pub use Rattle.sudoers_text.specs.LineMode.{line_mode}
pub use Rattle.sudoers_text.specs.Part.{argument_unit_size, backslash_unit_size_by, is_digest_byte, is_byte_of_include_path, is_byte_of_parameter_name, is_path_byte, is_nonempty_run, is_upper}
pub use Rattle.sudoers_text.specs.Part.{is_word_byte, size_of_one_matching_byte, first_nonzero_number, pair_size_of_unit, reach_past_first_byte, closed_quote_size, reach_of_units, run_unit_size}
unfoldable pub use Rattle.sudoers_text.specs.Part.{quotes_and_run_between_size, quoted_front_to_inner_separator_size, leading_run_size, argument_units_size}
pub use Rattle.sudoers_text.specs.Piece.{CommentPart, TokenForm, IncludeWord, Mark, QuotedRest, Run, begins_defaults, has_host_or_runas_sign, is_non_unix_group_word, is_piece_of_form, kind_of_form}
pub use Rattle.sudoers_text.specs.Token.{AreTokensFrom, HasTokens, IsTokenOfKindAndSize, is_line_end_or_empty, units_with_those_of_bytes, units_left_of_place}
pub use Rattle.sudoers_text.specs.Unit.{Byte, Continuation, LineUnit, Pair, Quoted, is_id_position_after_units, begins_lf, begins_line_end, bytes_of_units_after_leading_gap, defaults_word, is_blank}
pub use Rattle.sudoers_text.specs.Unit.{is_digit, bytes_of_unit, unit_at}
pub use Rattle.sudoers_text.specs.Value.{value_of_remaining_bytes}
unfoldable pub use Rattle.sudoers_text.specs.Value.{value_of_word}
pub use Rattle.sudoers_text.specs.Word.{include_words, is_alias_byte, is_among, is_name, is_option_name, is_reserved, is_tag}
pub use Rattle.sudoers_text.specs.declared.context.TokenContext.{TokenContext}
pub use Rattle.sudoers_text.specs.declared.context.ScopeNamesOrCommands.{ScopeNamesOrCommands}
pub use Rattle.sudoers_text.specs.declared.token.Mode.{Mode}
pub use Rattle.sudoers_text.specs.declared.token.Token.{Token}
pub use Rattle.sudoers_text.specs.declared.token.TokenKind.{TokenKind}
