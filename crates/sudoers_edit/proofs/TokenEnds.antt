-- The tokens of a line that ends in LF end before it.
use Rattle.sudoers_edit.proofs.Common.{AllByRecursion, Argument, Bool, CommentPart, IsTokenOfKindAndSize, LineUnit, List, Mark, QuotedPart, Run, TokenForm, TokenKind, [], and_parts, ap, argument_units_size, bytes_eq}
use Rattle.sudoers_edit.proofs.Common.{codes, digest_kinds, drop, ends_in_lf, false, has_given_first_byte, has_host_or_runas_sign, if◌then◌else◌, include_words, inl, inr, is_among, is_argument_of_size}
use Rattle.sudoers_edit.proofs.Common.{is_option_name, is_punct, is_comma_colon_or_equals, is_tag, is_whole_argument, kind_of_form, length, length-take-le, nat_lt, refl, sym, take, true, ℕ, ◌&&◌, ◌<◌, ◌||◌, ◌∙◌, ◌∷◌, ◌≡◌, ◌≤◌}
use Rattle.sudoers_edit.proofs.Common.{◌⊎◌}
use Rattle.std.specs.Prelude.{◌==◌}
use Rattle.sudoers_text.specs.declared.part.ByteRunKind.TheVariants as rule
use Rattle.sudoers_text.specs.declared.token.TokenKind.TheVariants as kind
use Rattle.sudoers_text.specs.declared.token.Mode.{Mode}
use Rattle.sudoers_text.specs.declared.token.Mode.TheVariants as mode
use Rattle.sudoers_text.specs.declared.context.ScopeNamesOrCommands.TheVariants as scope
use Rattle.sudoers_text.specs.declared.context.TokenContext.{TokenContext}
use Rattle.sudoers_text.specs.declared.context.TokenContext.TheVariants as context
use Rattle.sudoers_text.specs.Context.{token_forms_in_context, token_forms_in_word_lists, token_forms_in_command_lists, token_forms_of_parameters, is_scope_sign, is_parameter_mark, is_comma, context_after_token, context_after_command_mark, context_after_command_word, context_after_command_token, context_after_option_value, context_after_argument, context_after_parameter_token, context_after_first_token, context_after_include_path, is_given_punct_token, is_word_kind, is_kind_of_list_member}
use Rattle.sudoers_edit.proofs.RunEnds.{name, digest, word, include, value}
use Rattle.sudoers_edit.proofs.FormEnds.{EndsBeforeFinalLf, true_is_not_false, mark_ends_before_final_lf, operator_ends_before_final_lf, number_ends_before_final_lf, non_unix_group_ends_before_final_lf, plain_run_ends_before_final_lf, command_path_ends_before_final_lf, quoted_part_ends_before_final_lf, argument_ends_before_final_lf, argument_is_complete_or_before_separator, begins_with_separator}

-- what no alias is made of
abbrev pub is_left_out_of_aliases : TokenKind → Bool
is_left_out_of_aliases kind.Bad = true
is_left_out_of_aliases kind.Comment = true
is_left_out_of_aliases k = false

-- ---- where a token may stand

-- neither at a line's beginning nor within a quoted argument
abbrev pub IsPlainContext : TokenContext → Type 0
IsPlainContext (context.First m) = ⊥
IsPlainContext context.QuotedArgument = ⊥
IsPlainContext (context.IncludePath m) = Unit {0}
IsPlainContext context.Words = Unit {0}
IsPlainContext context.Hosts = Unit {0}
IsPlainContext context.Commands = Unit {0}
IsPlainContext context.BehindOption = Unit {0}
IsPlainContext context.OptionValue = Unit {0}
IsPlainContext context.BehindTag = Unit {0}
IsPlainContext context.BehindDigestKind = Unit {0}
IsPlainContext context.Digest = Unit {0}
IsPlainContext context.Parentheses = Unit {0}
IsPlainContext context.Arguments = Unit {0}
IsPlainContext context.ScopeSign = Unit {0}
IsPlainContext (context.Scope list) = Unit {0}
IsPlainContext (context.BehindMember list) = Unit {0}
IsPlainContext context.Parameter = Unit {0}
IsPlainContext context.ParameterValue = Unit {0}

choice_of_plain_contexts_is_plain : (b : Bool) (x y : TokenContext) → IsPlainContext x → IsPlainContext y → IsPlainContext (if b then x else y)
choice_of_plain_contexts_is_plain true x y p q = p
choice_of_plain_contexts_is_plain false x y p q = q

context_after_command_mark_is_plain : (colon equals : TokenContext) (text : List ℕ) → IsPlainContext colon → IsPlainContext equals → IsPlainContext (context_after_command_mark colon equals text)
context_after_command_mark_is_plain colon equals text p q =
    choice_of_plain_contexts_is_plain (bytes_eq text (codes "(")) context.Parentheses
    (if bytes_eq text (codes ":") then colon else (if bytes_eq text (codes "=") then equals else context.Commands)) tt
    (choice_of_plain_contexts_is_plain (bytes_eq text (codes ":")) colon (if bytes_eq text (codes "=") then equals else context.Commands) p
    (choice_of_plain_contexts_is_plain (bytes_eq text (codes "=")) equals context.Commands q tt))

context_after_command_word_is_plain : (text : List ℕ) → IsPlainContext (context_after_command_word text)
context_after_command_word_is_plain text = by (bytes_eq text (codes "sudoedit")) (is_option_name text) (is_tag text) (is_among digest_kinds text)
  where
    by : (a b c d : Bool) → IsPlainContext (if a then context.Arguments
        else (if b then context.BehindOption
        else (if c then context.BehindTag
        else (if d then context.BehindDigestKind
        else context.Commands))))
    by true b c d = tt
    by false true c d = tt
    by false false true d = tt
    by false false false true = tt
    by false false false false = tt

context_after_command_token_is_plain : (colon equals : TokenContext) (k : TokenKind) (text : List ℕ) → IsPlainContext colon → IsPlainContext equals
    → IsPlainContext (context_after_command_token colon equals k text)
context_after_command_token_is_plain colon equals kind.Punct text p q = context_after_command_mark_is_plain colon equals text p q
context_after_command_token_is_plain colon equals kind.Word text p q = context_after_command_word_is_plain text
context_after_command_token_is_plain colon equals k text p q = tt

context_after_option_value_is_plain : (k : TokenKind) (text : List ℕ) → IsPlainContext (context_after_option_value k text)
context_after_option_value_is_plain kind.Punct text = context_after_command_mark_is_plain context.Hosts context.Commands text tt tt
context_after_option_value_is_plain k text = tt

context_after_parameter_token_is_plain : (k : TokenKind) (text : List ℕ) → IsPlainContext (context_after_parameter_token k text)
context_after_parameter_token_is_plain kind.Punct text = choice_of_plain_contexts_is_plain (bytes_eq text (codes "!") || bytes_eq text (codes ",")) context.Parameter context.ParameterValue tt tt
context_after_parameter_token_is_plain k text = tt

context_after_first_token_is_plain : (m : Mode) (k : TokenKind) (text rest : List ℕ) → IsPlainContext (context_after_first_token m k text rest)
context_after_first_token_is_plain mode.Words k text rest = tt
context_after_first_token_is_plain mode.Commands k text rest = choice_of_plain_contexts_is_plain (is_given_punct_token 61 k text) context.Commands context.Hosts tt tt
context_after_first_token_is_plain mode.Parameters k text rest =
    let sign : Bool = has_host_or_runas_sign rest || has_given_first_byte 58 rest || has_given_first_byte 33 rest in
    choice_of_plain_contexts_is_plain (is_word_kind k) (if sign then context.ScopeSign else context.Parameter) (context_after_parameter_token k text)
    (choice_of_plain_contexts_is_plain sign context.ScopeSign context.Parameter tt tt) (context_after_parameter_token_is_plain k text)

pub context_after_token_in_first_is_plain : (m : Mode) (k : TokenKind) (text rest : List ℕ) → IsPlainContext (context_after_token (context.First m) k text rest)
context_after_token_in_first_is_plain m k text rest =
    choice_of_plain_contexts_is_plain (is_word_kind k && is_among include_words text) (context.IncludePath m) (context_after_first_token m k text rest) tt (context_after_first_token_is_plain m k text rest)

context_after_include_path_is_plain : (m : Mode) → IsPlainContext (context_after_include_path m)
context_after_include_path_is_plain mode.Words = tt
context_after_include_path_is_plain mode.Commands = tt
context_after_include_path_is_plain mode.Parameters = tt

-- What may stand there goes with the bytes there: behind a broken argument a separator stands.
abbrev pub FitsContext : TokenContext → List ℕ → Type 0
FitsContext (context.First m) bytes = ⊥
FitsContext context.QuotedArgument bytes = begins_with_separator bytes ≡ true
FitsContext (context.IncludePath m) bytes = Unit {0}
FitsContext context.Words bytes = Unit {0}
FitsContext context.Hosts bytes = Unit {0}
FitsContext context.Commands bytes = Unit {0}
FitsContext context.BehindOption bytes = Unit {0}
FitsContext context.OptionValue bytes = Unit {0}
FitsContext context.BehindTag bytes = Unit {0}
FitsContext context.BehindDigestKind bytes = Unit {0}
FitsContext context.Digest bytes = Unit {0}
FitsContext context.Parentheses bytes = Unit {0}
FitsContext context.Arguments bytes = Unit {0}
FitsContext context.ScopeSign bytes = Unit {0}
FitsContext (context.Scope list) bytes = Unit {0}
FitsContext (context.BehindMember list) bytes = Unit {0}
FitsContext context.Parameter bytes = Unit {0}
FitsContext context.ParameterValue bytes = Unit {0}

pub plain_context_fits_any_bytes : (here : TokenContext) (bytes : List ℕ) → IsPlainContext here → FitsContext here bytes
plain_context_fits_any_bytes (context.First m) bytes p = absurd p
plain_context_fits_any_bytes context.QuotedArgument bytes p = absurd p
plain_context_fits_any_bytes here bytes p = tt

-- ---- one token

-- pieces of the form are left out, or end before the LF
abbrev IsLeftOutOrEndsBeforeLf : TokenForm → Type 0
IsLeftOutOrEndsBeforeLf form = (is_left_out_of_aliases (kind_of_form form) ≡ true) ⊎ EndsBeforeFinalLf form

word_list_forms_end_before_lf : AllByRecursion IsLeftOutOrEndsBeforeLf token_forms_in_word_lists
word_list_forms_end_before_lf =
    let quoted : IsLeftOutOrEndsBeforeLf (QuotedPart kind.Quoted) = inr (quoted_part_ends_before_final_lf kind.Quoted) in
    let run : IsLeftOutOrEndsBeforeLf (Run kind.Word rule.Word) = inr (plain_run_ends_before_final_lf kind.Word rule.Word word) in
    (inr (mark_ends_before_final_lf is_punct refl), (inr number_ends_before_final_lf, (inr non_unix_group_ends_before_final_lf, (run, (quoted, (inl refl, tt))))))

command_list_forms_end_before_lf : AllByRecursion IsLeftOutOrEndsBeforeLf token_forms_in_command_lists
command_list_forms_end_before_lf = (inr command_path_ends_before_final_lf, word_list_forms_end_before_lf)

parameter_forms_end_before_lf : AllByRecursion IsLeftOutOrEndsBeforeLf token_forms_of_parameters
parameter_forms_end_before_lf = (inr (mark_ends_before_final_lf is_parameter_mark refl), (inr operator_ends_before_final_lf, (inr (plain_run_ends_before_final_lf kind.Name rule.Name name), (inl refl, tt))))

pub forms_of_plain_context_end_before_lf : (here : TokenContext) → IsPlainContext here → AllByRecursion IsLeftOutOrEndsBeforeLf (token_forms_in_context here)
forms_of_plain_context_end_before_lf (context.First m) p = absurd p
forms_of_plain_context_end_before_lf context.QuotedArgument p = absurd p
forms_of_plain_context_end_before_lf (context.IncludePath m) p = (inr (quoted_part_ends_before_final_lf kind.Quoted), (inr (plain_run_ends_before_final_lf kind.Word rule.IncludePath include), (inl refl, tt)))
forms_of_plain_context_end_before_lf context.Words p = word_list_forms_end_before_lf
forms_of_plain_context_end_before_lf context.Hosts p = word_list_forms_end_before_lf
forms_of_plain_context_end_before_lf context.Commands p = command_list_forms_end_before_lf
forms_of_plain_context_end_before_lf context.BehindOption p = command_list_forms_end_before_lf
forms_of_plain_context_end_before_lf context.OptionValue p = word_list_forms_end_before_lf
forms_of_plain_context_end_before_lf context.BehindTag p = command_list_forms_end_before_lf
forms_of_plain_context_end_before_lf context.BehindDigestKind p = command_list_forms_end_before_lf
forms_of_plain_context_end_before_lf context.Digest p = (inr (plain_run_ends_before_final_lf kind.Digest rule.Digest digest), command_list_forms_end_before_lf)
forms_of_plain_context_end_before_lf context.Parentheses p = word_list_forms_end_before_lf
forms_of_plain_context_end_before_lf context.Arguments p = (inr (mark_ends_before_final_lf is_comma_colon_or_equals refl), (inr argument_ends_before_final_lf, (inl refl, tt)))
forms_of_plain_context_end_before_lf context.ScopeSign p = (inr (mark_ends_before_final_lf is_scope_sign refl), tt)
forms_of_plain_context_end_before_lf (context.Scope scope.Names) p = word_list_forms_end_before_lf
forms_of_plain_context_end_before_lf (context.Scope scope.Commands) p = command_list_forms_end_before_lf
forms_of_plain_context_end_before_lf (context.BehindMember list) p = parameter_forms_end_before_lf
forms_of_plain_context_end_before_lf context.Parameter p = parameter_forms_end_before_lf
forms_of_plain_context_end_before_lf context.ParameterValue p =
    (inr (quoted_part_ends_before_final_lf kind.Value), (inr (plain_run_ends_before_final_lf kind.Value rule.Value value), (inr (mark_ends_before_final_lf is_comma refl), (inl refl, tt))))

equal_kind_is_left_out_too : (j k : TokenKind) → j ≡ k → is_left_out_of_aliases k ≡ true → is_left_out_of_aliases j ≡ true
equal_kind_is_left_out_too j k same is = ap is_left_out_of_aliases same ∙ is

pub token_is_left_out_or_before_lf : (fs : List TokenForm) → AllByRecursion IsLeftOutOrEndsBeforeLf fs → (before : List LineUnit) (bytes : List ℕ) (k : TokenKind) (n : ℕ)
    → IsTokenOfKindAndSize fs before bytes k n
    → ends_in_lf bytes ≡ true → (is_left_out_of_aliases k ≡ true) ⊎ (n < length bytes)
token_is_left_out_or_before_lf [] all before bytes k n is ends = inl (equal_kind_is_left_out_too k kind.Bad is.0 refl)
token_is_left_out_or_before_lf (form ∷ fs) all before bytes k n (inl is) ends = by all.0
  where
    by : IsLeftOutOrEndsBeforeLf form → (is_left_out_of_aliases k ≡ true) ⊎ (n < length bytes)
    by (inl left) = inl (equal_kind_is_left_out_too k (kind_of_form form) is.0 left)
    by (inr inside) = inr (inside before bytes n is.1.inside is.1.piece ends)
token_is_left_out_or_before_lf (form ∷ fs) all before bytes k n (inr is) ends = token_is_left_out_or_before_lf fs all.1 before bytes k n is.1 ends

-- ---- what follows a token

choice_of_fitting_contexts_fits : (b : Bool) (x y : TokenContext) (bytes : List ℕ) → (b ≡ true → FitsContext x bytes) → (b ≡ false → FitsContext y bytes) → FitsContext (if b then x else y) bytes
choice_of_fitting_contexts_fits true x y bytes p q = p refl
choice_of_fitting_contexts_fits false x y bytes p q = q refl

-- an argument among arguments
argument_token_is_within_bytes : (before : List LineUnit) (body : List ℕ) (k : TokenKind) (n : ℕ) → IsTokenOfKindAndSize (Mark is_comma_colon_or_equals ∷ Argument ∷ CommentPart ∷ []) before body k n
    → k ≡ kind.Arg
    → (n ≤ length body) × (is_argument_of_size body n ≡ true)
argument_token_is_within_bytes before body k n (inl is) arg = absurd (let other : kind.Punct ≡ kind.Arg = sym is.0 ∙ arg in cc)
argument_token_is_within_bytes before body k n (inr (p, inl is)) arg = (is.1.inside, (and_parts (nat_lt 0 n) (is_argument_of_size body n) is.1.piece).1)
argument_token_is_within_bytes before body k n (inr (p, inr (q, inl is))) arg = absurd (let other : kind.Comment ≡ kind.Arg = sym is.0 ∙ arg in cc)
argument_token_is_within_bytes before body k n (inr (p, inr (q, inr (r, is)))) arg = absurd (let other : kind.Bad ≡ kind.Arg = sym is.0 ∙ arg in cc)

bytes_behind_argument_fit_context : (body : List ℕ) (n : ℕ) → n ≤ length body → is_argument_of_size body n ≡ true → FitsContext (context_after_argument kind.Arg (take n body)) (drop n body)
bytes_behind_argument_fit_context body n inside is =
    choice_of_fitting_contexts_fits (is_whole_argument (take n body)) context.Arguments context.QuotedArgument (drop n body) (λ _. tt) (by (argument_is_complete_or_before_separator body n is))
  where
    by : ((argument_units_size (take n body) == n) ≡ true) ⊎ (begins_with_separator (drop n body) ≡ true) → is_whole_argument (take n body) ≡ false
        → begins_with_separator (drop n body) ≡ true
    by (inr separator) broken = separator
    by (inl whole) broken =
        true_is_not_false (argument_units_size (take n body) == n) whole (ap (λ m. argument_units_size (take n body) == m) (sym (length-take-le n body inside)) ∙ broken)

bytes_among_arguments_fit_context : (before : List LineUnit) (body : List ℕ) (k : TokenKind) (n : ℕ) → IsTokenOfKindAndSize (token_forms_in_context context.Arguments) before body k n
    → FitsContext (context_after_argument k (take n body)) (drop n body)
bytes_among_arguments_fit_context before body kind.Punct n is =
    let plain = context_after_command_mark_is_plain context.Hosts context.Commands (take n body) tt tt in
    plain_context_fits_any_bytes (context_after_command_mark context.Hosts context.Commands (take n body)) (drop n body) plain
bytes_among_arguments_fit_context before body kind.Arg n is = let a = argument_token_is_within_bytes before body kind.Arg n is refl in bytes_behind_argument_fit_context body n a.0 a.1
bytes_among_arguments_fit_context before body k n is = tt

pub bytes_behind_token_fit_context : (here : TokenContext) → IsPlainContext here → (before : List LineUnit) (body : List ℕ) (k : TokenKind) (n : ℕ)
    → IsTokenOfKindAndSize (token_forms_in_context here) before body k n
    → FitsContext (context_after_token here k (take n body) (drop n body)) (drop n body)
bytes_behind_token_fit_context here p before body k n is = by here p is
  where
    text : List ℕ
    text = take n body

    rest : List ℕ
    rest = drop n body

    plain : (next : TokenContext) → IsPlainContext next → FitsContext next rest
    plain next p = plain_context_fits_any_bytes next rest p

    either : (b : Bool) (x y : TokenContext) → IsPlainContext x → IsPlainContext y → FitsContext (if b then x else y) rest
    either b x y p q = plain (if b then x else y) (choice_of_plain_contexts_is_plain b x y p q)

    command : (colon equals : TokenContext) → IsPlainContext colon → IsPlainContext equals → FitsContext (context_after_command_token colon equals k text) rest
    command colon equals p q = plain (context_after_command_token colon equals k text) (context_after_command_token_is_plain colon equals k text p q)

    by : (here : TokenContext) → IsPlainContext here → IsTokenOfKindAndSize (token_forms_in_context here) before body k n → FitsContext (context_after_token here k text rest) rest
    by (context.First m) p is = absurd p
    by context.QuotedArgument p is = absurd p
    by (context.IncludePath m) p is = plain (context_after_include_path m) (context_after_include_path_is_plain m)
    by context.Words p is = tt
    by context.Hosts p is = either (is_given_punct_token 61 k text) context.Commands context.Hosts tt tt
    by context.Commands p is = command context.Hosts context.Commands tt tt
    by context.BehindOption p is = command context.Hosts context.OptionValue tt tt
    by context.OptionValue p is = plain (context_after_option_value k text) (context_after_option_value_is_plain k text)
    by context.BehindTag p is = command context.Commands context.Commands tt tt
    by context.BehindDigestKind p is = command context.Digest context.Commands tt tt
    by context.Digest p is = command context.Hosts context.Commands tt tt
    by context.Parentheses p is = either (is_given_punct_token 41 k text) context.Commands context.Parentheses tt tt
    by context.Arguments p is = bytes_among_arguments_fit_context before body k n is
    by context.ScopeSign p is = either (is_given_punct_token 33 k text) (context.Scope scope.Commands) (context.Scope scope.Names) tt tt
    by (context.Scope list) p is = either (is_kind_of_list_member k) (context.BehindMember list) (context.Scope list) tt tt
    by (context.BehindMember list) p is = either (is_given_punct_token 44 k text) (context.Scope list) (context_after_parameter_token k text) tt (context_after_parameter_token_is_plain k text)
    by context.Parameter p is = plain (context_after_parameter_token k text) (context_after_parameter_token_is_plain k text)
    by context.ParameterValue p is = tt
