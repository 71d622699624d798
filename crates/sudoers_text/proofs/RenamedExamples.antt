-- A line in which a name is replaced by another.
use Rattle.std.proofs.Common.{◌≡◌, ℕ, List, [], ◌∷◌, ◌++◌, refl, subst}
use Rattle.std.specs.Prelude.{codes}
use Rattle.sudoers_text.specs.declared.token.TokenKind.TheVariants.{Punct, Word}
use Rattle.sudoers_text.specs.declared.token.Token.{Token}
use Rattle.sudoers_text.specs.declared.token.Mode.TheVariants.{Commands}
use Rattle.sudoers_text.specs.Part.{leading_run_size, quotes_and_run_between_size, argument_units_size, quoted_front_to_inner_separator_size}
use Rattle.sudoers_text.specs.Piece.{plus_or_minus_equals_size, defaults_or_at_include_word_size, quoted_argument_rest_size}
use Rattle.sudoers_text.specs.Token.{bad_token_size, HasTokens}
use Rattle.sudoers_text.specs.Found.{hash_id_size, optional_colon_id_size, numeric_id_size, colon_and_word_size, non_unix_group_size, comment_size_at, hash_include_size_at, command_path_size, argument_size, tokens_from_offset, tokens_of_line}
use Rattle.sudoers_text.proofs.TokenExamples.{token_of_kind_and_places}
use Rattle.sudoers_text.proofs.TokenLists.{computed_tokens_are_tokens_of_line}
use Rattle.sudoers_text.proofs.Renamed.{renamed_line_has_moved_tokens}

abbrev shell_alias_line : List ℕ
shell_alias_line = codes "bob SH = SH, LS" ++ 10 ∷ []

tokens_of_shell_alias_line_are_read : tokens_of_line Commands shell_alias_line
    ≡ token_of_kind_and_places Word 0 3 ∷ token_of_kind_and_places Word 4 6 ∷ token_of_kind_and_places Punct 7 8 ∷ token_of_kind_and_places Word 9 11 ∷ token_of_kind_and_places Punct 11 12 ∷ token_of_kind_and_places Word 13 15 ∷ []
unfolding tokens_of_line tokens_from_offset leading_run_size quotes_and_run_between_size argument_units_size quoted_front_to_inner_separator_size plus_or_minus_equals_size defaults_or_at_include_word_size quoted_argument_rest_size bad_token_size hash_id_size optional_colon_id_size numeric_id_size colon_and_word_size non_unix_group_size comment_size_at hash_include_size_at command_path_size argument_size
tokens_of_shell_alias_line_are_read = refl

-- The command is named otherwise, the host is not: the tokens behind the new name are moved by four bytes.
tokens_of_line_with_renamed_command : HasTokens Commands (codes "bob SH = SHELLS, LS" ++ 10 ∷ [])
    (token_of_kind_and_places Word 0 3 ∷ token_of_kind_and_places Word 4 6 ∷ token_of_kind_and_places Punct 7 8 ∷ token_of_kind_and_places Word 9 15 ∷ token_of_kind_and_places Punct 15 16 ∷ token_of_kind_and_places Word 17 19 ∷ [])
tokens_of_line_with_renamed_command =
    let before : List Token = token_of_kind_and_places Word 0 3 ∷ token_of_kind_and_places Word 4 6 ∷ token_of_kind_and_places Punct 7 8 ∷ [] in
    let behind : List Token = token_of_kind_and_places Punct 11 12 ∷ token_of_kind_and_places Word 13 15 ∷ [] in
    renamed_line_has_moved_tokens Commands (codes "bob SH = ") (codes "SH") (codes "SHELLS") (codes ", LS" ++ 10 ∷ []) before behind (refl, refl) (refl, refl)
    (subst (HasTokens Commands shell_alias_line) tokens_of_shell_alias_line_are_read (computed_tokens_are_tokens_of_line Commands shell_alias_line))
