-- What may stand at a place of a line, by the tokens before it.
use Rattle.std.specs.Prelude.{ℕ, ◌==◌, ◌&&◌, ◌||◌, Bool, true, false, List, [], ◌∷◌, if◌then◌else◌, codes}
use Rattle.std.specs.Str.{bytes_eq}
use Rattle.sudoers_text.specs.declared.part.ByteRunKind.TheVariants as rule
use Rattle.sudoers_text.specs.declared.token.TokenKind.{TokenKind}
use Rattle.sudoers_text.specs.declared.token.TokenKind.TheVariants as kind
use Rattle.sudoers_text.specs.declared.token.Mode.{Mode}
use Rattle.sudoers_text.specs.declared.token.Mode.TheVariants as mode
use Rattle.sudoers_text.specs.declared.context.ScopeNamesOrCommands.{ScopeNamesOrCommands}
use Rattle.sudoers_text.specs.declared.context.ScopeNamesOrCommands.TheVariants as scope
use Rattle.sudoers_text.specs.declared.context.TokenContext.{TokenContext}
use Rattle.sudoers_text.specs.declared.context.TokenContext.TheVariants as context
use Rattle.sudoers_text.specs.Unit.{is_comma_colon_or_equals}
use Rattle.sudoers_text.specs.Part.{is_punct, has_given_first_byte, is_entire_run, is_whole_argument}
use Rattle.sudoers_text.specs.Piece.{TokenForm, Mark, Operator, Number, NonUnixGroup, Run, CommandPath, QuotedPart, CommentPart, IncludeWord, FirstWord, Argument, QuotedRest, has_host_or_runas_sign}
use Rattle.sudoers_text.specs.Word.{is_among, is_tag, is_option_name, digest_kinds, include_words}

-- the sign of a scope: `@`, `:`, `!` or `>`
abbrev pub is_scope_sign : ℕ → Bool
is_scope_sign b = b == 64 || b == 58 || b == 33 || b == 62

-- `!`, `,` or `=`
abbrev pub is_parameter_mark : ℕ → Bool
is_parameter_mark b = b == 33 || b == 44 || b == 61

abbrev pub is_comma : ℕ → Bool
is_comma b = b == 44

-- lists of users, runas users and hosts
abbrev pub token_forms_in_word_lists : List TokenForm
token_forms_in_word_lists =
    Mark is_punct ∷ Number ∷ NonUnixGroup ∷ Run kind.Word rule.Word ∷ QuotedPart kind.Quoted ∷ CommentPart ∷ []

-- lists of commands
abbrev pub token_forms_in_command_lists : List TokenForm
token_forms_in_command_lists = CommandPath ∷ token_forms_in_word_lists

-- parameters of Defaults
abbrev pub token_forms_of_parameters : List TokenForm
token_forms_of_parameters = Mark is_parameter_mark ∷ Operator ∷ Run kind.Name rule.Name ∷ CommentPart ∷ []

-- the first of a line
abbrev pub forms_of_first_token : Mode → List TokenForm
forms_of_first_token mode.Words = IncludeWord ∷ token_forms_in_word_lists
forms_of_first_token mode.Commands = IncludeWord ∷ token_forms_in_word_lists
forms_of_first_token mode.Parameters = IncludeWord ∷ FirstWord ∷ token_forms_of_parameters

abbrev pub token_forms_in_scope : ScopeNamesOrCommands → List TokenForm
token_forms_in_scope scope.Names = token_forms_in_word_lists
token_forms_in_scope scope.Commands = token_forms_in_command_lists

-- The forms of the pieces that may stand there. Where pieces of more than one begin, the first form counts.
abbrev pub token_forms_in_context : TokenContext → List TokenForm
token_forms_in_context (context.First m) = forms_of_first_token m
token_forms_in_context (context.IncludePath m) = QuotedPart kind.Quoted ∷ Run kind.Word rule.IncludePath ∷ CommentPart ∷ []
token_forms_in_context context.Words = token_forms_in_word_lists
token_forms_in_context context.Hosts = token_forms_in_word_lists
token_forms_in_context context.Commands = token_forms_in_command_lists
token_forms_in_context context.BehindOption = token_forms_in_command_lists
token_forms_in_context context.OptionValue = token_forms_in_word_lists
token_forms_in_context context.BehindTag = token_forms_in_command_lists
token_forms_in_context context.BehindDigestKind = token_forms_in_command_lists
token_forms_in_context context.Digest = Run kind.Digest rule.Digest ∷ token_forms_in_command_lists
token_forms_in_context context.Parentheses = token_forms_in_word_lists
token_forms_in_context context.Arguments = Mark is_comma_colon_or_equals ∷ Argument ∷ CommentPart ∷ []
token_forms_in_context context.QuotedArgument = QuotedRest ∷ []
token_forms_in_context context.ScopeSign = Mark is_scope_sign ∷ []
token_forms_in_context (context.Scope list) = token_forms_in_scope list
token_forms_in_context (context.BehindMember list) = token_forms_of_parameters
token_forms_in_context context.Parameter = token_forms_of_parameters
token_forms_in_context context.ParameterValue = QuotedPart kind.Value ∷ Run kind.Value rule.Value ∷ Mark is_comma ∷ CommentPart ∷ []

-- The token is this mark.
abbrev pub is_given_punct_token : ℕ → TokenKind → List ℕ → Bool
is_given_punct_token b kind.Punct text = bytes_eq text (b ∷ [])
is_given_punct_token b k text = false

abbrev pub is_word_kind : TokenKind → Bool
is_word_kind kind.Word = true
is_word_kind k = false

-- behind a mark where commands stand: what `:` and `=` lead to
abbrev pub context_after_command_mark : TokenContext → TokenContext → List ℕ → TokenContext
context_after_command_mark colon equals text =
    if bytes_eq text (codes "(") then context.Parentheses
    else (if bytes_eq text (codes ":") then colon
    else (if bytes_eq text (codes "=") then equals
    else context.Commands))

-- behind a word where commands stand
abbrev pub context_after_command_word : List ℕ → TokenContext
context_after_command_word text =
    if bytes_eq text (codes "sudoedit") then context.Arguments
    else (if is_option_name text then context.BehindOption
    else (if is_tag text then context.BehindTag
    else (if is_among digest_kinds text then context.BehindDigestKind
    else context.Commands)))

-- behind a token where commands stand
abbrev pub context_after_command_token : TokenContext → TokenContext → TokenKind → List ℕ → TokenContext
context_after_command_token colon equals kind.Punct text = context_after_command_mark colon equals text
context_after_command_token colon equals kind.Word text = context_after_command_word text
context_after_command_token colon equals kind.Path text = context.Arguments
context_after_command_token colon equals k text = context.Commands

-- behind an option's value, that has no meaning as a word
abbrev pub context_after_option_value : TokenKind → List ℕ → TokenContext
context_after_option_value kind.Punct text = context_after_command_mark context.Hosts context.Commands text
context_after_option_value k text = context.Commands

-- behind a token among arguments
abbrev pub context_after_argument : TokenKind → List ℕ → TokenContext
context_after_argument kind.Punct text = context_after_command_mark context.Hosts context.Commands text
context_after_argument kind.Arg text = if is_whole_argument text then context.Arguments else context.QuotedArgument
context_after_argument k text = context.Arguments

-- the quoted part has gone on, or has been closed
abbrev pub context_after_quoted_argument : TokenKind → List ℕ → TokenContext
context_after_quoted_argument kind.Arg text = if is_entire_run rule.Clean text then context.QuotedArgument else context.Arguments
context_after_quoted_argument k text = context.QuotedArgument

-- the last of the token is `=`, so that it is `=`, `+=` or `-=`
abbrev pub context_after_parameter_token : TokenKind → List ℕ → TokenContext
context_after_parameter_token kind.Punct text = if bytes_eq text (codes "!") || bytes_eq text (codes ",") then context.Parameter else context.ParameterValue
context_after_parameter_token k text = context.Parameter

abbrev pub is_kind_of_list_member : TokenKind → Bool
is_kind_of_list_member kind.Word = true
is_kind_of_list_member kind.Quoted = true
is_kind_of_list_member kind.Id = true
is_kind_of_list_member kind.Path = true
is_kind_of_list_member k = false

-- what a line goes on with behind an include's path
abbrev pub context_after_include_path : Mode → TokenContext
context_after_include_path mode.Words = context.Words
context_after_include_path mode.Commands = context.Hosts
context_after_include_path mode.Parameters = context.Parameter

-- Behind the first token; rest: what follows it directly. A scope's sign stands directly behind `Defaults`.
abbrev pub context_after_first_token : Mode → TokenKind → List ℕ → List ℕ → TokenContext
context_after_first_token mode.Words k text rest = context.Words
context_after_first_token mode.Commands k text rest = if is_given_punct_token 61 k text then context.Commands else context.Hosts
context_after_first_token mode.Parameters k text rest =
    if is_word_kind k
    then (if has_host_or_runas_sign rest || has_given_first_byte 58 rest || has_given_first_byte 33 rest then context.ScopeSign else context.Parameter)
    else context_after_parameter_token k text

-- What may stand behind a token of this kind and text, and before this rest.
abbrev pub context_after_token : TokenContext → TokenKind → List ℕ → List ℕ → TokenContext
context_after_token (context.First m) k text rest = if is_word_kind k && is_among include_words text then context.IncludePath m else context_after_first_token m k text rest
context_after_token (context.IncludePath m) k text rest = context_after_include_path m
context_after_token context.Words k text rest = context.Words
context_after_token context.Hosts k text rest = if is_given_punct_token 61 k text then context.Commands else context.Hosts
context_after_token context.Commands k text rest = context_after_command_token context.Hosts context.Commands k text
context_after_token context.BehindOption k text rest = context_after_command_token context.Hosts context.OptionValue k text
context_after_token context.OptionValue k text rest = context_after_option_value k text
context_after_token context.BehindTag k text rest = context_after_command_token context.Commands context.Commands k text
context_after_token context.BehindDigestKind k text rest = context_after_command_token context.Digest context.Commands k text
context_after_token context.Digest k text rest = context_after_command_token context.Hosts context.Commands k text
context_after_token context.Parentheses k text rest = if is_given_punct_token 41 k text then context.Commands else context.Parentheses
context_after_token context.Arguments k text rest = context_after_argument k text
context_after_token context.QuotedArgument k text rest = context_after_quoted_argument k text
context_after_token context.ScopeSign k text rest = if is_given_punct_token 33 k text then context.Scope scope.Commands else context.Scope scope.Names
context_after_token (context.Scope list) k text rest = if is_kind_of_list_member k then context.BehindMember list else context.Scope list
context_after_token (context.BehindMember list) k text rest = if is_given_punct_token 44 k text then context.Scope list else context_after_parameter_token k text
context_after_token context.Parameter k text rest = context_after_parameter_token k text
context_after_token context.ParameterValue k text rest = context.Parameter
