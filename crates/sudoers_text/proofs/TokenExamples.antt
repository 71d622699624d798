-- Some lines, and the tokens that are computed of them.
use Rattle.std.proofs.Common.{◌≡◌, ℕ, [], ◌∷◌, ◌++◌, refl}
use Rattle.std.specs.Prelude.{codes}
use Rattle.sudoers_text.specs.declared.token.TokenKind.{TokenKind}
use Rattle.sudoers_text.specs.declared.token.TokenKind.TheVariants.{Punct, Id, Word, Comment, Path, Arg, Name, Value, Bad}
use Rattle.sudoers_text.specs.declared.token.Token.{Token}
use Rattle.sudoers_text.specs.declared.token.Mode.TheVariants.{Commands, Parameters}
use Rattle.sudoers_text.specs.Part.{leading_run_size, quotes_and_run_between_size, argument_units_size, quoted_front_to_inner_separator_size}
use Rattle.sudoers_text.specs.Piece.{plus_or_minus_equals_size, defaults_or_at_include_word_size, quoted_argument_rest_size}
use Rattle.sudoers_text.specs.Token.{bad_token_size}
use Rattle.sudoers_text.specs.Found.{hash_id_size, optional_colon_id_size, numeric_id_size, colon_and_word_size, non_unix_group_size, comment_size_at, hash_include_size_at, command_path_size, argument_size, tokens_from_offset, tokens_of_line}
use Rattle.sudoers_text.specs.Value.{value_of_word}

abbrev pub token_of_kind_and_places : TokenKind → ℕ → ℕ → Token
token_of_kind_and_places kind start stop = record { kind = kind; start = start; stop = stop }

-- A number behind a command is a comment.
number_after_command_is_comment : tokens_of_line Commands (codes "bob ALL=ALL #1 rule") ≡ token_of_kind_and_places Word 0 3 ∷ token_of_kind_and_places Word 4 7 ∷ token_of_kind_and_places Punct 7 8 ∷ token_of_kind_and_places Word 8 11 ∷ token_of_kind_and_places Comment 12 19 ∷ []
unfolding tokens_of_line tokens_from_offset leading_run_size quotes_and_run_between_size argument_units_size quoted_front_to_inner_separator_size plus_or_minus_equals_size defaults_or_at_include_word_size quoted_argument_rest_size bad_token_size hash_id_size optional_colon_id_size numeric_id_size colon_and_word_size non_unix_group_size comment_size_at hash_include_size_at command_path_size argument_size
number_after_command_is_comment = refl

-- A number is an ID where a user may stand.
number_in_place_of_user_is_id : tokens_of_line Commands (codes "#501 ALL=ALL" ++ 10 ∷ []) ≡ token_of_kind_and_places Id 0 4 ∷ token_of_kind_and_places Word 5 8 ∷ token_of_kind_and_places Punct 8 9 ∷ token_of_kind_and_places Word 9 12 ∷ []
unfolding tokens_of_line tokens_from_offset leading_run_size quotes_and_run_between_size argument_units_size quoted_front_to_inner_separator_size plus_or_minus_equals_size defaults_or_at_include_word_size quoted_argument_rest_size bad_token_size hash_id_size optional_colon_id_size numeric_id_size colon_and_word_size non_unix_group_size comment_size_at hash_include_size_at command_path_size argument_size
number_in_place_of_user_is_id = refl

-- A comma in a quoted part of an argument is Bad.
comma_in_quoted_argument_is_bad_token : tokens_of_line Commands (codes "b A=/b " ++ 34 ∷ codes "x,y" ++ 34 ∷ []) ≡ token_of_kind_and_places Word 0 1 ∷ token_of_kind_and_places Word 2 3 ∷ token_of_kind_and_places Punct 3 4 ∷ token_of_kind_and_places Path 4 6 ∷ token_of_kind_and_places Arg 7 9 ∷ token_of_kind_and_places Bad 9 10 ∷ token_of_kind_and_places Arg 10 12 ∷ []
unfolding tokens_of_line tokens_from_offset leading_run_size quotes_and_run_between_size argument_units_size quoted_front_to_inner_separator_size plus_or_minus_equals_size defaults_or_at_include_word_size quoted_argument_rest_size bad_token_size hash_id_size optional_colon_id_size numeric_id_size colon_and_word_size non_unix_group_size comment_size_at hash_include_size_at command_path_size argument_size
comma_in_quoted_argument_is_bad_token = refl

-- A parameter's value may begin with a sign.
parameter_value_begins_with_sign : tokens_of_line Parameters (codes "Defaults x==") ≡ token_of_kind_and_places Word 0 8 ∷ token_of_kind_and_places Name 9 10 ∷ token_of_kind_and_places Punct 10 11 ∷ token_of_kind_and_places Value 11 12 ∷ []
unfolding tokens_of_line tokens_from_offset leading_run_size quotes_and_run_between_size argument_units_size quoted_front_to_inner_separator_size plus_or_minus_equals_size defaults_or_at_include_word_size quoted_argument_rest_size bad_token_size hash_id_size optional_colon_id_size numeric_id_size colon_and_word_size non_unix_group_size comment_size_at hash_include_size_at command_path_size argument_size
parameter_value_begins_with_sign = refl

hex_escape_of_blank_is_blank : value_of_word (codes "domain" ++ 92 ∷ codes "x20users") ≡ codes "domain users"
unfolding value_of_word
hex_escape_of_blank_is_blank = refl
