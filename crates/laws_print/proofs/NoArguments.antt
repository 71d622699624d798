-- A Defaults line has no arguments, so the commands of its scope have none.
use Rattle.laws_print.proofs.Common.{◌≡◌, ℕ, ◌-◌, true, false, ◌&&◌, ◌||◌, List, [], ◌∷◌, ◌++◌, take, drop, Some, None, refl, sym, ap, subst, ◌∙◌}
use Rattle.laws_print.proofs.Common.{arith, inl, inr, if◌then◌else◌, codes, Option, AllByRecursion, bytes_eq, bytes_eq-Decides, TokenKind, Token, Mode}
use Rattle.laws_print.proofs.Common.{TokenContext, LineUnit, TokenForm, kind_of_form, has_host_or_runas_sign, forms_of_first_token, token_forms_in_word_lists, token_forms_in_context, is_kind_of_list_member, context_after_parameter_token}
use Rattle.laws_print.proofs.Common.{context_after_token, line_mode, is_among, include_words, IsTokenOfKindAndSize, AreTokensFrom, HasTokens, units_left_of_place, Kind, User, Runas, Cmnd}
use Rattle.laws_print.proofs.Common.{Atom, Member, Scope, Digest, TokenWithBytes, tokens_with_bytes, is_arg, is_given_word, is_a_word, command_atom_of_tokens, IsArg, IsMember}
use Rattle.laws_print.proofs.Common.{IsDigest, Perhaps, IsScopeMemberList, PerhapsScope, is_defaults, Many, MarkThenRule, Separated, ReadsScopeCommand}
use Rattle.laws_print.proofs.Common.{IsWritableUserMember, IsWritableHostMember, IsScopeCommandAtom, IsScopeCommandMember, IsWritableScopeMember, IsNonEmptyListOf, IsWritableScope}
use Rattle.sudoers_text.specs.declared.token.TokenKind.TheVariants as kind
use Rattle.sudoers_text.specs.declared.token.Mode.TheVariants as mode
use Rattle.sudoers_text.specs.declared.context.ScopeNamesOrCommands.TheVariants as scope
use Rattle.sudoers_text.specs.declared.context.TokenContext.TheVariants as context
use Rattle.sudoers_text.specs.Part.{has_given_first_byte}
use Rattle.sudoers_text.specs.Context.{is_given_punct_token, is_word_kind}
use Rattle.sudoers_grammar.specs.declared.node.Kind.TheVariants.{Host}
use Rattle.sudoers_grammar.specs.Piece.{token_with_bytes}
use Rattle.laws_print.proofs.GivenTokens.{IsGivenToken, AreGivenTokens}
use Rattle.laws_print.proofs.GivenLists.{rest_of_given_list_is_given, separated_rule_reads_only_writable, user_member_rule_reads_only_writable, runas_member_rule_reads_only_writable, host_member_rule_reads_only_writable}
use Rattle.laws_print.proofs.Gives.{GivesOnlySuchAtom, property_of_both_holds_for_choice}
use Rattle.laws_print.proofs.GivenCommands.{token_without_args_gives_scope_command}
use Rattle.laws_print.proofs.DefaultsMode.{mode_of_defaults_line_is_parameters}

-- ---- contexts

-- behind the first word of a Defaults line
abbrev pub IsContextInDefaults : TokenContext → Type 0
IsContextInDefaults context.ScopeSign = Unit {0}
IsContextInDefaults (context.Scope list) = Unit {0}
IsContextInDefaults (context.BehindMember list) = Unit {0}
IsContextInDefaults context.Parameter = Unit {0}
IsContextInDefaults context.ParameterValue = Unit {0}
IsContextInDefaults c = ⊥

abbrev pub IsNoArgForm : TokenForm → Type 0
IsNoArgForm form = is_arg (kind_of_form form) ≡ false

forms_in_word_lists_are_no_args : AllByRecursion IsNoArgForm token_forms_in_word_lists
forms_in_word_lists_are_no_args = (refl, (refl, (refl, (refl, (refl, (refl, tt))))))

forms_in_defaults_are_no_args : (here : TokenContext) → IsContextInDefaults here → AllByRecursion IsNoArgForm (token_forms_in_context here)
forms_in_defaults_are_no_args context.ScopeSign is = (refl, tt)
forms_in_defaults_are_no_args (context.Scope scope.Names) is = forms_in_word_lists_are_no_args
forms_in_defaults_are_no_args (context.Scope scope.Commands) is = (refl, forms_in_word_lists_are_no_args)
forms_in_defaults_are_no_args (context.BehindMember list) is = (refl, (refl, (refl, (refl, tt))))
forms_in_defaults_are_no_args context.Parameter is = (refl, (refl, (refl, (refl, tt))))
forms_in_defaults_are_no_args context.ParameterValue is = (refl, (refl, (refl, (refl, tt))))
forms_in_defaults_are_no_args here is = absurd is

context_after_parameter_is_in_defaults : (k : TokenKind) (text : List ℕ) → IsContextInDefaults (context_after_parameter_token k text)
context_after_parameter_is_in_defaults kind.Punct text = property_of_both_holds_for_choice IsContextInDefaults _ context.Parameter context.ParameterValue tt tt
context_after_parameter_is_in_defaults k text = tt

context_after_token_stays_in_defaults : (here : TokenContext) (k : TokenKind) (text rest : List ℕ) → IsContextInDefaults here → IsContextInDefaults (context_after_token here k text rest)
context_after_token_stays_in_defaults context.ScopeSign k text rest is = property_of_both_holds_for_choice IsContextInDefaults (is_given_punct_token 33 k text) (context.Scope scope.Commands) (context.Scope scope.Names) tt tt
context_after_token_stays_in_defaults (context.Scope list) k text rest is = property_of_both_holds_for_choice IsContextInDefaults (is_kind_of_list_member k) (context.BehindMember list) (context.Scope list) tt tt
context_after_token_stays_in_defaults (context.BehindMember list) k text rest is = property_of_both_holds_for_choice IsContextInDefaults (is_given_punct_token 44 k text) (context.Scope list) (context_after_parameter_token k text) tt (context_after_parameter_is_in_defaults k text)
context_after_token_stays_in_defaults context.Parameter k text rest is = context_after_parameter_is_in_defaults k text
context_after_token_stays_in_defaults context.ParameterValue k text rest is = tt
context_after_token_stays_in_defaults here k text rest is = absurd is

context_after_first_token_is_in_defaults : (k : TokenKind) (text rest : List ℕ) → (is_word_kind k && is_among include_words text) ≡ false → IsContextInDefaults (context_after_token (context.First mode.Parameters) k text rest)
context_after_first_token_is_in_defaults k text rest none =
    rw none (property_of_both_holds_for_choice IsContextInDefaults (is_word_kind k) (if has_host_or_runas_sign rest || has_given_first_byte 58 rest || has_given_first_byte 33 rest then context.ScopeSign else context.Parameter) (context_after_parameter_token k text)
    (property_of_both_holds_for_choice IsContextInDefaults (has_host_or_runas_sign rest || has_given_first_byte 58 rest || has_given_first_byte 33 rest) context.ScopeSign context.Parameter tt tt) (context_after_parameter_is_in_defaults k text))

token_without_arg_forms_is_no_arg : (fs : List TokenForm) → AllByRecursion IsNoArgForm fs → (before : List LineUnit) (bytes : List ℕ) (k : TokenKind) (n : ℕ) → IsTokenOfKindAndSize fs before bytes k n → is_arg k ≡ false
token_without_arg_forms_is_no_arg [] all before bytes k n is = ap is_arg is.0
token_without_arg_forms_is_no_arg (form ∷ fs) all before bytes k n is =
    elim is [
      | inl w ↦ ap is_arg w.0 ∙ all.0
      | inr w ↦ token_without_arg_forms_is_no_arg fs all.1 before bytes k n w.1
    ]

abbrev pub HaveNoArgs : List TokenWithBytes → Type 0
HaveNoArgs ts = AllByRecursion (λ (t : TokenWithBytes). is_arg t.kind ≡ false) ts

tokens_in_defaults_have_no_args : (ts : List Token) (here : TokenContext) (line : List ℕ) (at : ℕ) → IsContextInDefaults here → AreTokensFrom here line at ts → HaveNoArgs (tokens_with_bytes line ts)
tokens_in_defaults_have_no_args [] here line at is are = tt
tokens_in_defaults_have_no_args (t ∷ ts) here line at is are =
    let body = drop t.start line in
    let size = t.stop - t.start in
    (token_without_arg_forms_is_no_arg (token_forms_in_context here) (forms_in_defaults_are_no_args here is) (units_left_of_place line t.start) body t.kind size are.3, tokens_in_defaults_have_no_args ts (context_after_token here t.kind (take size body) (drop size body)) line t.stop (context_after_token_stays_in_defaults here t.kind (take size body) (drop size body) is) are.4)

abbrev pub HaveNoArgsBehindDefaults : List TokenWithBytes → Type 0
HaveNoArgsBehindDefaults [] = Unit {0}
HaveNoArgsBehindDefaults (t ∷ ts) = is_defaults t ≡ true → (is_word_kind t.kind && is_among include_words t.text) ≡ false → HaveNoArgs ts

defaults_token_is_word_defaults : (t : TokenWithBytes) → is_defaults t ≡ true → (t.kind ≡ kind.Word) × (t.text ≡ codes "Defaults")
unfolding is_given_word
defaults_token_is_word_defaults t h = by_kind t.kind refl h
  where
    by_kind : (k : TokenKind) → t.kind ≡ k → (is_a_word k && bytes_eq t.text (codes "Defaults")) ≡ true → (t.kind ≡ kind.Word) × (t.text ≡ codes "Defaults")
    by_kind kind.Word e h = (e, (bytes_eq-Decides t.text (codes "Defaults")).0 h)
    by_kind k e h = absurd (cc)

-- Behind its first word a Defaults line has no arguments.
pub defaults_line_has_no_args_behind : (line : List ℕ) (ts : List Token) → HasTokens (line_mode line) line ts → HaveNoArgsBehindDefaults (tokens_with_bytes line ts)
defaults_line_has_no_args_behind line [] has = tt
defaults_line_has_no_args_behind line (t ∷ ts) has = λ defaults none.
    let body = drop t.start line in
    let size = t.stop - t.start in
    let word = defaults_token_is_word_defaults (token_with_bytes line t) defaults in
    let mode_is : line_mode line ≡ mode.Parameters =
    mode_of_defaults_line_is_parameters line t.start (units_left_of_place line t.start) size (has.0 ∙ omega arith) word.1 (subst (λ (k : TokenKind). IsTokenOfKindAndSize (forms_of_first_token (line_mode line)) (units_left_of_place line t.start) body k size) word.0 has.3) in
    let later = subst (λ (m : Mode). AreTokensFrom (context_after_token (context.First m) t.kind (take size body) (drop size body)) line t.stop ts) mode_is has.4 in
    tokens_in_defaults_have_no_args ts (context_after_token (context.First mode.Parameters) t.kind (take size body) (drop size body)) line t.stop (context_after_first_token_is_in_defaults t.kind (take size body) (drop size body) none) later

-- ---- commands of a scope

rest_of_tokens_without_args_has_none : (xs ys : List TokenWithBytes) → HaveNoArgs (xs ++ ys) → HaveNoArgs ys
rest_of_tokens_without_args_has_none [] ys all = all
rest_of_tokens_without_args_has_none (x ∷ xs) ys all = rest_of_tokens_without_args_has_none xs ys all.1

-- A command without arguments.
command_without_args_is_scope_command : (word : TokenWithBytes) (args rest : List TokenWithBytes) (a : Atom) → IsGivenToken word → AllByRecursion IsArg args → HaveNoArgs (args ++ rest) → command_atom_of_tokens word args ≡ Some a → IsScopeCommandAtom a
command_without_args_is_scope_command word [] rest a given all none e = subst (GivesOnlySuchAtom IsScopeCommandAtom) e (token_without_args_gives_scope_command word.kind word.text given.0 given.1)
command_without_args_is_scope_command word (x ∷ args) rest a given all none e = absurd (let is = all.0 in let no_arg = none.0 in let both : true ≡ false = sym is ∙ no_arg in cc)

-- what is known of the tokens there
abbrev pub AreGivenWithoutArgs : List TokenWithBytes → Type 0
AreGivenWithoutArgs ts = AreGivenTokens ts × HaveNoArgs ts

scope_command_of_given_tokens_is_writable : (ts : List TokenWithBytes) (m : Member) (rest : List TokenWithBytes) → AreGivenWithoutArgs ts → ReadsScopeCommand ts m rest → IsScopeCommandMember m × AreGivenWithoutArgs rest
scope_command_of_given_tokens_is_writable ts m rest both is =
    let own = is.1 in
    let start = digests_none ts m.digests own.behind is.0 own.digests in
    let split : ts ≡ own.signs ++ (own.word ∷ (own.args ++ rest)) = start ∙ own.split in
    let given = rest_of_given_list_is_given own.signs (own.word ∷ (own.args ++ rest)) (subst AreGivenTokens split both.0) in
    let none = rest_of_tokens_without_args_has_none own.signs (own.word ∷ (own.args ++ rest)) (subst HaveNoArgs split both.1) in (
      record { is = command_without_args_is_scope_command own.word own.args rest m.atom given.0 own.are_args none.1 own.atom; no_digests = is.0 },
      (rest_of_given_list_is_given own.args rest given.2, rest_of_tokens_without_args_has_none own.args rest none.1),
    )
  where
    digests_none : (ts : List TokenWithBytes) (ds : List Digest) (behind : List TokenWithBytes) → ds ≡ [] → Perhaps (Separated 44 IsDigest) ts ds behind → ts ≡ behind
    digests_none ts [] behind e is = is
    digests_none ts (d ∷ ds) behind e is = absurd (cc)

scope_commands_of_given_tokens_are_writable : (ts : List TokenWithBytes) (ms : List Member) (rest : List TokenWithBytes) → AreGivenWithoutArgs ts → Many (MarkThenRule 44 ReadsScopeCommand) ts ms rest → AllByRecursion IsScopeCommandMember ms × AreGivenTokens rest
scope_commands_of_given_tokens_are_writable ts [] rest both are = (tt, subst AreGivenTokens are both.0)
scope_commands_of_given_tokens_are_writable ts (m ∷ ms) rest both are =
    let mark = are.1 in
    let given = subst AreGivenTokens mark.split both.0 in
    let none = subst HaveNoArgs mark.split both.1 in
    let one = scope_command_of_given_tokens_is_writable mark.behind m are.0 (given.2, none.1) mark.is in
    let more = scope_commands_of_given_tokens_are_writable are.0 ms rest one.1 are.2 in
    ((one.0, more.0), more.1)

scope_list_of_given_tokens_is_writable : (k : Kind) (ts : List TokenWithBytes) (ms : List Member) (rest : List TokenWithBytes) → AreGivenWithoutArgs ts → IsScopeMemberList k ts ms rest → IsNonEmptyListOf (IsWritableScopeMember k) ms × AreGivenTokens rest
scope_list_of_given_tokens_is_writable User ts ms rest both are = separated_rule_reads_only_writable 44 (IsMember User) IsWritableUserMember user_member_rule_reads_only_writable ts ms rest both.0 are
scope_list_of_given_tokens_is_writable Runas ts ms rest both are = separated_rule_reads_only_writable 44 (IsMember Runas) IsWritableUserMember runas_member_rule_reads_only_writable ts ms rest both.0 are
scope_list_of_given_tokens_is_writable Host ts ms rest both are = separated_rule_reads_only_writable 44 (IsMember Host) IsWritableHostMember host_member_rule_reads_only_writable ts ms rest both.0 are
scope_list_of_given_tokens_is_writable Cmnd ts [] rest both are = absurd are
scope_list_of_given_tokens_is_writable Cmnd ts (m ∷ ms) rest both are =
    let one = scope_command_of_given_tokens_is_writable ts m are.0 both are.1 in
    let more = scope_commands_of_given_tokens_are_writable are.0 ms rest one.1 are.2 in
    ((one.0, more.0), more.1)

-- The scope of a Defaults line can be written.
pub scope_of_given_tokens_is_writable : (stop : ℕ) (ts : List TokenWithBytes) (scope : Option Scope) (rest : List TokenWithBytes) → AreGivenWithoutArgs ts → PerhapsScope stop ts scope rest → IsWritableScope scope × AreGivenTokens rest
scope_of_given_tokens_is_writable stop ts None rest both is = (tt, subst AreGivenTokens is.0 both.0)
scope_of_given_tokens_is_writable stop ts (Some s) rest both is =
    let given = subst AreGivenTokens is.split both.0 in
    let none = subst HaveNoArgs is.split both.1 in
    scope_list_of_given_tokens_is_writable s.kind is.behind s.members rest (given.2, none.1) is.members
