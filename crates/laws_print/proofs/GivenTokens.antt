-- What is known of the tokens of a line that is no include, by their kinds.
use Rattle.laws_print.proofs.Common.{◌≡◌, ℕ, zero, suc, ◌-◌, ◌≤◌, ◌<◌, ◌≢◌, Bool, true, false, ◌&&◌, ◌||◌, List, [], ◌∷◌, length, take, drop, refl, sym}
use Rattle.laws_print.proofs.Common.{subst, ◌∙◌, arith, inl, inr, ◌==◌, if◌then◌else◌, codes, or_parts, AllByRecursion, bytes_eq, TokenKind, Token}
use Rattle.laws_print.proofs.Common.{Mode, TokenContext, LineUnit, TokenForm, QuotedRest, kind_of_form, is_piece_of_form, has_host_or_runas_sign, token_forms_in_word_lists, token_forms_in_command_lists}
use Rattle.laws_print.proofs.Common.{token_forms_of_parameters, forms_of_first_token, token_forms_in_context, context_after_parameter_token, is_kind_of_list_member, context_after_token, is_among, is_tag, is_option_name}
use Rattle.laws_print.proofs.Common.{include_words, AreTokensFrom, HasTokens, IsTokenOfKindAndSize, units_left_of_place, is_line_end_or_empty, TokenWithBytes, tokens_with_bytes, has_byte}
use Rattle.sudoers_text.specs.declared.token.TokenKind.TheVariants as kind
use Rattle.sudoers_text.specs.declared.token.Mode.TheVariants as mode
use Rattle.sudoers_text.specs.declared.context.ScopeNamesOrCommands.TheVariants as scope
use Rattle.sudoers_text.specs.declared.context.TokenContext.TheVariants as context
use Rattle.sudoers_text.specs.Part.{has_given_first_byte, is_entire_run, is_whole_argument}
use Rattle.sudoers_text.specs.declared.part.ByteRunKind.TheVariants as rule
use Rattle.sudoers_text.specs.Context.{is_given_punct_token, is_word_kind, context_after_command_mark, context_after_command_word, context_after_command_token, context_after_option_value, context_after_argument, context_after_quoted_argument}
use Rattle.sudoers_text.specs.Word.{digest_kinds}
use Rattle.laws_print.proofs.Gives.{property_of_both_holds_for_choice}
use Rattle.laws_print.proofs.TidyPieces.{IsIdText, IsTokenTextOfKind, IsFormBehindFirstToken, a_mark, an_operator, a_number, a_group, a_word, a_digest, a_name, a_value, a_path, a_quoted}
use Rattle.laws_print.proofs.TidyPieces.{a_quoted_value, a_comment, an_argument, a_rest, good_form_token_has_text_of_kind, OpensWithByteOrPair, sized_argument_opens_with_byte_or_pair}

-- ---- contexts

-- behind the first token, and not before an include's path
abbrev pub IsPlainContext : TokenContext → Type 0
IsPlainContext (context.First m) = ⊥
IsPlainContext (context.IncludePath m) = ⊥
IsPlainContext c = Unit {0}

forms_in_word_lists_are_good : AllByRecursion IsFormBehindFirstToken token_forms_in_word_lists
forms_in_word_lists_are_good = (a_mark, (a_number, (a_group, (a_word, (a_quoted, (a_comment, tt))))))

forms_in_command_lists_are_good : AllByRecursion IsFormBehindFirstToken token_forms_in_command_lists
forms_in_command_lists_are_good = (a_path, forms_in_word_lists_are_good)

forms_of_parameters_are_good : AllByRecursion IsFormBehindFirstToken token_forms_of_parameters
forms_of_parameters_are_good = (a_mark, (an_operator, (a_name, (a_comment, tt))))

forms_in_plain_context_are_good : (here : TokenContext) → IsPlainContext here → AllByRecursion IsFormBehindFirstToken (token_forms_in_context here)
forms_in_plain_context_are_good (context.First m) is = absurd is
forms_in_plain_context_are_good (context.IncludePath m) is = absurd is
forms_in_plain_context_are_good context.Commands is = forms_in_command_lists_are_good
forms_in_plain_context_are_good context.BehindOption is = forms_in_command_lists_are_good
forms_in_plain_context_are_good context.BehindTag is = forms_in_command_lists_are_good
forms_in_plain_context_are_good context.BehindDigestKind is = forms_in_command_lists_are_good
forms_in_plain_context_are_good context.Digest is = (a_digest, forms_in_command_lists_are_good)
forms_in_plain_context_are_good context.Arguments is = (a_mark, (an_argument, (a_comment, tt)))
forms_in_plain_context_are_good context.QuotedArgument is = (a_rest, tt)
forms_in_plain_context_are_good context.ScopeSign is = (a_mark, tt)
forms_in_plain_context_are_good (context.Scope scope.Commands) is = forms_in_command_lists_are_good
forms_in_plain_context_are_good (context.BehindMember list) is = forms_of_parameters_are_good
forms_in_plain_context_are_good context.Parameter is = forms_of_parameters_are_good
forms_in_plain_context_are_good context.ParameterValue is = (a_quoted_value, (a_value, (a_mark, (a_comment, tt))))
forms_in_plain_context_are_good (context.Scope scope.Names) is = forms_in_word_lists_are_good
forms_in_plain_context_are_good here is = forms_in_word_lists_are_good

context_after_command_mark_is_plain : (colon equals : TokenContext) (text : List ℕ) → IsPlainContext colon → IsPlainContext equals → IsPlainContext (context_after_command_mark colon equals text)
context_after_command_mark_is_plain colon equals text pc pe =
    property_of_both_holds_for_choice IsPlainContext (bytes_eq text (codes "(")) context.Parentheses (if bytes_eq text (codes ":") then colon else (if bytes_eq text (codes "=") then equals else context.Commands)) tt
    (property_of_both_holds_for_choice IsPlainContext (bytes_eq text (codes ":")) colon (if bytes_eq text (codes "=") then equals else context.Commands) pc (property_of_both_holds_for_choice IsPlainContext (bytes_eq text (codes "=")) equals context.Commands pe tt))

-- what holds of each place where a word of a command may lead
context_after_command_word_has_property : (P : TokenContext → Type 0) → P context.Arguments → P context.BehindOption → P context.BehindTag → P context.BehindDigestKind → P context.Commands → (text : List ℕ)
    → P (context_after_command_word text)
context_after_command_word_has_property P arguments option tag digest commands text =
    property_of_both_holds_for_choice P (bytes_eq text (codes "sudoedit")) context.Arguments (if is_option_name text then context.BehindOption else (if is_tag text then context.BehindTag else (if is_among digest_kinds text then context.BehindDigestKind else context.Commands))) arguments
    (property_of_both_holds_for_choice P (is_option_name text) context.BehindOption (if is_tag text then context.BehindTag else (if is_among digest_kinds text then context.BehindDigestKind else context.Commands)) option
    (property_of_both_holds_for_choice P (is_tag text) context.BehindTag (if is_among digest_kinds text then context.BehindDigestKind else context.Commands) tag (property_of_both_holds_for_choice P (is_among digest_kinds text) context.BehindDigestKind context.Commands digest commands)))

context_after_command_token_is_plain : (colon equals : TokenContext) (k : TokenKind) (text : List ℕ) → IsPlainContext colon → IsPlainContext equals → IsPlainContext (context_after_command_token colon equals k text)
context_after_command_token_is_plain colon equals kind.Punct text pc pe = context_after_command_mark_is_plain colon equals text pc pe
context_after_command_token_is_plain colon equals kind.Word text pc pe = context_after_command_word_has_property IsPlainContext tt tt tt tt tt text
context_after_command_token_is_plain colon equals kind.Path text pc pe = tt
context_after_command_token_is_plain colon equals k text pc pe = tt

context_after_option_value_is_plain : (k : TokenKind) (text : List ℕ) → IsPlainContext (context_after_option_value k text)
context_after_option_value_is_plain kind.Punct text = context_after_command_mark_is_plain context.Hosts context.Commands text tt tt
context_after_option_value_is_plain k text = tt

context_after_argument_is_plain : (k : TokenKind) (text : List ℕ) → IsPlainContext (context_after_argument k text)
context_after_argument_is_plain kind.Punct text = context_after_command_mark_is_plain context.Hosts context.Commands text tt tt
context_after_argument_is_plain kind.Arg text = property_of_both_holds_for_choice IsPlainContext (is_whole_argument text) context.Arguments context.QuotedArgument tt tt
context_after_argument_is_plain k text = tt

context_after_quoted_argument_is_plain : (k : TokenKind) (text : List ℕ) → IsPlainContext (context_after_quoted_argument k text)
context_after_quoted_argument_is_plain kind.Arg text = property_of_both_holds_for_choice IsPlainContext (is_entire_run rule.Clean text) context.QuotedArgument context.Arguments tt tt
context_after_quoted_argument_is_plain k text = tt

context_after_parameter_token_is_plain : (k : TokenKind) (text : List ℕ) → IsPlainContext (context_after_parameter_token k text)
context_after_parameter_token_is_plain kind.Punct text = property_of_both_holds_for_choice IsPlainContext _ context.Parameter context.ParameterValue tt tt
context_after_parameter_token_is_plain k text = tt

context_after_token_keeps_plainness : (here : TokenContext) (k : TokenKind) (text rest : List ℕ) → IsPlainContext here → IsPlainContext (context_after_token here k text rest)
context_after_token_keeps_plainness context.Words k text rest is = tt
context_after_token_keeps_plainness context.Hosts k text rest is = property_of_both_holds_for_choice IsPlainContext (is_given_punct_token 61 k text) context.Commands context.Hosts tt tt
context_after_token_keeps_plainness context.Commands k text rest is = context_after_command_token_is_plain context.Hosts context.Commands k text tt tt
context_after_token_keeps_plainness context.BehindOption k text rest is = context_after_command_token_is_plain context.Hosts context.OptionValue k text tt tt
context_after_token_keeps_plainness context.OptionValue k text rest is = context_after_option_value_is_plain k text
context_after_token_keeps_plainness context.BehindTag k text rest is = context_after_command_token_is_plain context.Commands context.Commands k text tt tt
context_after_token_keeps_plainness context.BehindDigestKind k text rest is = context_after_command_token_is_plain context.Digest context.Commands k text tt tt
context_after_token_keeps_plainness context.Digest k text rest is = context_after_command_token_is_plain context.Hosts context.Commands k text tt tt
context_after_token_keeps_plainness context.Parentheses k text rest is = property_of_both_holds_for_choice IsPlainContext (is_given_punct_token 41 k text) context.Commands context.Parentheses tt tt
context_after_token_keeps_plainness context.Arguments k text rest is = context_after_argument_is_plain k text
context_after_token_keeps_plainness context.QuotedArgument k text rest is = context_after_quoted_argument_is_plain k text
context_after_token_keeps_plainness context.ScopeSign k text rest is = property_of_both_holds_for_choice IsPlainContext (is_given_punct_token 33 k text) (context.Scope scope.Commands) (context.Scope scope.Names) tt tt
context_after_token_keeps_plainness (context.Scope list) k text rest is = property_of_both_holds_for_choice IsPlainContext (is_kind_of_list_member k) (context.BehindMember list) (context.Scope list) tt tt
context_after_token_keeps_plainness (context.BehindMember list) k text rest is = property_of_both_holds_for_choice IsPlainContext (is_given_punct_token 44 k text) (context.Scope list) (context_after_parameter_token k text) tt (context_after_parameter_token_is_plain k text)
context_after_token_keeps_plainness context.Parameter k text rest is = context_after_parameter_token_is_plain k text
context_after_token_keeps_plainness context.ParameterValue k text rest is = tt
context_after_token_keeps_plainness here k text rest is = absurd is

context_after_first_token_is_plain : (m : Mode) (k : TokenKind) (text rest : List ℕ) → (is_word_kind k && is_among include_words text) ≡ false → IsPlainContext (context_after_token (context.First m) k text rest)
context_after_first_token_is_plain mode.Words k text rest none = rw none tt
context_after_first_token_is_plain mode.Commands k text rest none = rw none (property_of_both_holds_for_choice IsPlainContext (is_given_punct_token 61 k text) context.Commands context.Hosts tt tt)
context_after_first_token_is_plain mode.Parameters k text rest none =
    rw none (property_of_both_holds_for_choice IsPlainContext (is_word_kind k) (if has_host_or_runas_sign rest || has_given_first_byte 58 rest || has_given_first_byte 33 rest then context.ScopeSign else context.Parameter) (context_after_parameter_token k text)
    (property_of_both_holds_for_choice IsPlainContext (has_host_or_runas_sign rest || has_given_first_byte 58 rest || has_given_first_byte 33 rest) context.ScopeSign context.Parameter tt tt) (context_after_parameter_token_is_plain k text))

-- ---- arguments

-- no rest of a quoted part stands there
abbrev pub IsNotQuotedArgumentContext : TokenContext → Type 0
IsNotQuotedArgumentContext context.QuotedArgument = ⊥
IsNotQuotedArgumentContext c = Unit {0}

abbrev pub IsNotQuotedRestForm : TokenForm → Type 0
IsNotQuotedRestForm QuotedRest = ⊥
IsNotQuotedRestForm form = Unit {0}

word_list_forms_are_no_quoted_rest : AllByRecursion IsNotQuotedRestForm token_forms_in_word_lists
word_list_forms_are_no_quoted_rest = (tt, (tt, (tt, (tt, (tt, (tt, tt))))))

command_list_forms_are_no_quoted_rest : AllByRecursion IsNotQuotedRestForm token_forms_in_command_lists
command_list_forms_are_no_quoted_rest = (tt, word_list_forms_are_no_quoted_rest)

parameter_forms_are_no_quoted_rest : AllByRecursion IsNotQuotedRestForm token_forms_of_parameters
parameter_forms_are_no_quoted_rest = (tt, (tt, (tt, (tt, tt))))

unquoted_context_forms_are_no_quoted_rest : (here : TokenContext) → IsPlainContext here → IsNotQuotedArgumentContext here → AllByRecursion IsNotQuotedRestForm (token_forms_in_context here)
unquoted_context_forms_are_no_quoted_rest (context.First m) is other = absurd is
unquoted_context_forms_are_no_quoted_rest (context.IncludePath m) is other = absurd is
unquoted_context_forms_are_no_quoted_rest context.Commands is other = command_list_forms_are_no_quoted_rest
unquoted_context_forms_are_no_quoted_rest context.BehindOption is other = command_list_forms_are_no_quoted_rest
unquoted_context_forms_are_no_quoted_rest context.BehindTag is other = command_list_forms_are_no_quoted_rest
unquoted_context_forms_are_no_quoted_rest context.BehindDigestKind is other = command_list_forms_are_no_quoted_rest
unquoted_context_forms_are_no_quoted_rest context.Digest is other = (tt, command_list_forms_are_no_quoted_rest)
unquoted_context_forms_are_no_quoted_rest context.Arguments is other = (tt, (tt, (tt, tt)))
unquoted_context_forms_are_no_quoted_rest context.QuotedArgument is other = absurd other
unquoted_context_forms_are_no_quoted_rest context.ScopeSign is other = (tt, tt)
unquoted_context_forms_are_no_quoted_rest (context.Scope scope.Commands) is other = command_list_forms_are_no_quoted_rest
unquoted_context_forms_are_no_quoted_rest (context.BehindMember list) is other = parameter_forms_are_no_quoted_rest
unquoted_context_forms_are_no_quoted_rest context.Parameter is other = parameter_forms_are_no_quoted_rest
unquoted_context_forms_are_no_quoted_rest context.ParameterValue is other = (tt, (tt, (tt, (tt, tt))))
unquoted_context_forms_are_no_quoted_rest (context.Scope scope.Names) is other = word_list_forms_are_no_quoted_rest
unquoted_context_forms_are_no_quoted_rest here is other = word_list_forms_are_no_quoted_rest

-- Arguments may stand directly behind such a token.
abbrev pub is_kind_before_args : TokenKind → Bool
is_kind_before_args kind.Word = true
is_kind_before_args kind.Path = true
is_kind_before_args k = false

context_after_word_is_not_quoted : (here : TokenContext) (text rest : List ℕ) → IsPlainContext here → IsNotQuotedArgumentContext here → IsNotQuotedArgumentContext (context_after_token here kind.Word text rest)
context_after_word_is_not_quoted (context.First m) text rest is other = absurd is
context_after_word_is_not_quoted (context.IncludePath m) text rest is other = absurd is
context_after_word_is_not_quoted context.Commands text rest is other = context_after_command_word_has_property IsNotQuotedArgumentContext tt tt tt tt tt text
context_after_word_is_not_quoted context.BehindOption text rest is other = context_after_command_word_has_property IsNotQuotedArgumentContext tt tt tt tt tt text
context_after_word_is_not_quoted context.BehindTag text rest is other = context_after_command_word_has_property IsNotQuotedArgumentContext tt tt tt tt tt text
context_after_word_is_not_quoted context.BehindDigestKind text rest is other = context_after_command_word_has_property IsNotQuotedArgumentContext tt tt tt tt tt text
context_after_word_is_not_quoted context.Digest text rest is other = context_after_command_word_has_property IsNotQuotedArgumentContext tt tt tt tt tt text
context_after_word_is_not_quoted context.QuotedArgument text rest is other = absurd other
context_after_word_is_not_quoted here text rest is other = tt

context_after_path_is_not_quoted : (here : TokenContext) (text rest : List ℕ) → IsPlainContext here → IsNotQuotedArgumentContext here → IsNotQuotedArgumentContext (context_after_token here kind.Path text rest)
context_after_path_is_not_quoted (context.First m) text rest is other = absurd is
context_after_path_is_not_quoted (context.IncludePath m) text rest is other = absurd is
context_after_path_is_not_quoted context.QuotedArgument text rest is other = absurd other
context_after_path_is_not_quoted here text rest is other = tt

-- A word or a path is no rest of a quoted part.
token_of_quoted_rest_takes_no_args : (before : List LineUnit) (bytes : List ℕ) (k : TokenKind) (n : ℕ) → IsTokenOfKindAndSize (QuotedRest ∷ []) before bytes k n → is_kind_before_args k ≡ true → ⊥
token_of_quoted_rest_takes_no_args before bytes k n is takes =
    elim is [
      | inl w ↦ let there = subst (λ (c : TokenKind). is_kind_before_args c ≡ true) w.0 takes in cc
      | inr w ↦ let there = subst (λ (c : TokenKind). is_kind_before_args c ≡ true) w.1.0 takes in cc
    ]

token_taking_args_has_unquoted_context : (here : TokenContext) (before : List LineUnit) (bytes : List ℕ) (k : TokenKind) (n : ℕ) → IsTokenOfKindAndSize (token_forms_in_context here) before bytes k n → is_kind_before_args k ≡ true → IsNotQuotedArgumentContext here
token_taking_args_has_unquoted_context context.QuotedArgument before bytes k n is takes = token_of_quoted_rest_takes_no_args before bytes k n is takes
token_taking_args_has_unquoted_context here before bytes k n is takes = tt

context_after_token_taking_args_is_unquoted : (here : TokenContext) (k : TokenKind) (text rest : List ℕ) → IsPlainContext here → IsNotQuotedArgumentContext here → is_kind_before_args k ≡ true → IsNotQuotedArgumentContext (context_after_token here k text rest)
context_after_token_taking_args_is_unquoted here kind.Word text rest is other takes = context_after_word_is_not_quoted here text rest is other
context_after_token_taking_args_is_unquoted here kind.Path text rest is other takes = context_after_path_is_not_quoted here text rest is other
context_after_token_taking_args_is_unquoted here k text rest is other takes = absurd (cc)

arg_piece_of_good_form_opens : (form : TokenForm) → IsFormBehindFirstToken form → IsNotQuotedRestForm form → (before : List LineUnit) (bytes : List ℕ) (n : ℕ) → n ≤ length bytes → is_piece_of_form form before bytes n ≡ true → kind_of_form form ≡ kind.Arg → OpensWithByteOrPair (take n bytes)
arg_piece_of_good_form_opens form an_argument none before bytes n inside h e = sized_argument_opens_with_byte_or_pair bytes n inside h
arg_piece_of_good_form_opens form a_rest none before bytes n inside h e = absurd none
arg_piece_of_good_form_opens form good none before bytes n inside h e = absurd (cc)

arg_token_of_good_forms_opens : (fs : List TokenForm) → AllByRecursion IsFormBehindFirstToken fs → AllByRecursion IsNotQuotedRestForm fs → (before : List LineUnit) (bytes : List ℕ) (k : TokenKind) (n : ℕ) → IsTokenOfKindAndSize fs before bytes k n → k ≡ kind.Arg → OpensWithByteOrPair (take n bytes)
arg_token_of_good_forms_opens [] good none before bytes k n is e = absurd (let bad = sym is.0 ∙ e in cc)
arg_token_of_good_forms_opens (form ∷ fs) good none before bytes k n is e =
    elim is [
      | inl w ↦ arg_piece_of_good_form_opens form good.0 none.0 before bytes n w.1.inside w.1.piece (sym w.0 ∙ e)
      | inr w ↦ arg_token_of_good_forms_opens fs good.1 none.1 before bytes k n w.1 e
    ]

-- ---- tokens

-- no NUL in a part of a line
taken_text_has_no_nul : (n : ℕ) (text : List ℕ) → has_byte 0 text ≡ false → has_byte 0 (take n text) ≡ false
taken_text_has_no_nul zero text h = refl
taken_text_has_no_nul (suc n) [] h = refl
taken_text_has_no_nul (suc n) (b ∷ text) h =
    let parts = or_parts (b == 0) (has_byte 0 text) h in
    let later : has_byte 0 (take n text) ≡ false = taken_text_has_no_nul n text parts.1 in
    rw (parts.0, later) refl

dropped_text_has_no_nul : (n : ℕ) (text : List ℕ) → has_byte 0 text ≡ false → has_byte 0 (drop n text) ≡ false
dropped_text_has_no_nul zero text h = h
dropped_text_has_no_nul (suc n) [] h = refl
dropped_text_has_no_nul (suc n) (b ∷ text) h = dropped_text_has_no_nul n text (or_parts (b == 0) (has_byte 0 text) h).1

abbrev pub IsGivenToken : TokenWithBytes → Type 0
IsGivenToken t = IsTokenTextOfKind t.kind t.text × (has_byte 0 t.text ≡ false) × (t.text ≢ [])

text_taken_before_end_is_nonempty : (n : ℕ) (x : List ℕ) → 0 < n → is_line_end_or_empty x ≡ false → take n x ≢ []
text_taken_before_end_is_nonempty zero x some more = absurd (omega arith)
text_taken_before_end_is_nonempty (suc n) [] some more = absurd (cc)
text_taken_before_end_is_nonempty (suc n) (b ∷ x) some more = λ e. absurd (cc)

-- An argument that follows opens with a byte or a pair.
abbrev pub OpensIfArgFollows : TokenKind → List TokenWithBytes → Type 0
OpensIfArgFollows k [] = Unit {0}
OpensIfArgFollows k (u ∷ us) = is_kind_before_args k ≡ true → u.kind ≡ kind.Arg → OpensWithByteOrPair u.text

abbrev pub AreGivenTokens : List TokenWithBytes → Type 0
AreGivenTokens [] = Unit {0}
AreGivenTokens (t ∷ ts) = IsGivenToken t × OpensIfArgFollows t.kind ts × AreGivenTokens ts

first_arg_behind_taking_token_opens : (k : TokenKind) (ts : List Token) (here : TokenContext) (line : List ℕ) (at : ℕ) → IsPlainContext here → (is_kind_before_args k ≡ true → IsNotQuotedArgumentContext here) → AreTokensFrom here line at ts → OpensIfArgFollows k (tokens_with_bytes line ts)
first_arg_behind_taking_token_opens k [] here line at is other are = tt
first_arg_behind_taking_token_opens k (t ∷ ts) here line at is other are =
    λ takes e. arg_token_of_good_forms_opens (token_forms_in_context here) (forms_in_plain_context_are_good here is) (unquoted_context_forms_are_no_quoted_rest here is (other takes)) (units_left_of_place line t.start) (drop t.start line) t.kind (t.stop - t.start) are.3 e

pub tokens_from_plain_context_are_given : (ts : List Token) (here : TokenContext) (line : List ℕ) (at : ℕ) → IsPlainContext here → has_byte 0 line ≡ false → AreTokensFrom here line at ts → AreGivenTokens (tokens_with_bytes line ts)
tokens_from_plain_context_are_given [] here line at is clean are = tt
tokens_from_plain_context_are_given (t ∷ ts) here line at is clean are =
    let body = drop t.start line in
    let size = t.stop - t.start in
    let there = context_after_token here t.kind (take size body) (drop size body) in
    let plain = context_after_token_keeps_plainness here t.kind (take size body) (drop size body) is in (
      (good_form_token_has_text_of_kind (token_forms_in_context here) (forms_in_plain_context_are_good here is) (units_left_of_place line t.start) body t.kind size are.3, taken_text_has_no_nul size body (dropped_text_has_no_nul t.start line clean), text_taken_before_end_is_nonempty size body (omega (arith, are.2)) are.1),
      first_arg_behind_taking_token_opens t.kind ts there line t.stop plain (λ takes. context_after_token_taking_args_is_unquoted here t.kind (take size body) (drop size body) is (token_taking_args_has_unquoted_context here (units_left_of_place line t.start) body t.kind size are.3 takes) takes) are.4,
      tokens_from_plain_context_are_given ts there line t.stop plain clean are.4,
    )

-- a number, where the token is one
abbrev pub IsNumberTextIfId : TokenKind → List ℕ → Type 0
IsNumberTextIfId kind.Id text = IsIdText text
IsNumberTextIfId k text = Unit {0}

pub given_token_is_number_text_if_id : (k : TokenKind) (text : List ℕ) → IsTokenTextOfKind k text → IsNumberTextIfId k text
given_token_is_number_text_if_id kind.Id text is = is
given_token_is_number_text_if_id k text is = tt

word_token_is_number_text_if_id : (k : TokenKind) (text : List ℕ) → k ≡ kind.Word → IsNumberTextIfId k text
word_token_is_number_text_if_id k text e = subst (λ (c : TokenKind). IsNumberTextIfId c text) (sym e) tt

first_token_is_number_text_if_id : (m : Mode) (before : List LineUnit) (bytes : List ℕ) (k : TokenKind) (n : ℕ) → IsTokenOfKindAndSize (forms_of_first_token m) before bytes k n → IsNumberTextIfId k (take n bytes)
first_token_is_number_text_if_id mode.Words before bytes k n is =
    elim is [
      | inl w ↦ word_token_is_number_text_if_id k (take n bytes) w.0
      | inr w ↦ given_token_is_number_text_if_id k (take n bytes) (good_form_token_has_text_of_kind token_forms_in_word_lists forms_in_word_lists_are_good before bytes k n w.1)
    ]
first_token_is_number_text_if_id mode.Commands before bytes k n is =
    elim is [
      | inl w ↦ word_token_is_number_text_if_id k (take n bytes) w.0
      | inr w ↦ given_token_is_number_text_if_id k (take n bytes) (good_form_token_has_text_of_kind token_forms_in_word_lists forms_in_word_lists_are_good before bytes k n w.1)
    ]
first_token_is_number_text_if_id mode.Parameters before bytes k n is =
    elim is [
      | inl w ↦ word_token_is_number_text_if_id k (take n bytes) w.0
      | inr w ↦
          elim w.1 [
            | inl v ↦ word_token_is_number_text_if_id k (take n bytes) v.0
            | inr v ↦ given_token_is_number_text_if_id k (take n bytes) (good_form_token_has_text_of_kind token_forms_of_parameters forms_of_parameters_are_good before bytes k n v.1)
          ]
    ]

-- What is known of a line's tokens; of those behind the first where that begins no include.
abbrev pub AreGivenLineTokens : List TokenWithBytes → Type 0
AreGivenLineTokens [] = Unit {0}
AreGivenLineTokens (t ∷ ts) = IsNumberTextIfId t.kind t.text × ((is_word_kind t.kind && is_among include_words t.text) ≡ false → AreGivenTokens ts)

pub tokens_of_line_without_nul_are_given : (m : Mode) (line : List ℕ) (ts : List Token) → has_byte 0 line ≡ false → HasTokens m line ts → AreGivenLineTokens (tokens_with_bytes line ts)
tokens_of_line_without_nul_are_given m line [] clean are = tt
tokens_of_line_without_nul_are_given m line (t ∷ ts) clean are =
    let body = drop t.start line in
    let size = t.stop - t.start in (
      first_token_is_number_text_if_id m (units_left_of_place line t.start) body t.kind size are.3,
      λ none. tokens_from_plain_context_are_given ts (context_after_token (context.First m) t.kind (take size body) (drop size body)) line t.stop (context_after_first_token_is_plain m t.kind (take size body) (drop size body) none) clean are.4,
    )
