-- The list of parameters of a Defaults line as it is written is tokens of the line.
use Rattle.laws_print.proofs.Common.{◌≡◌, ◌≢◌, ℕ, Bool, true, false, List, [], ◌∷◌, Some, None, refl, sym, ap, subst, Option, AllByRecursion, list_all}
use Rattle.laws_print.proofs.Common.{TokenContext, ScopeNamesOrCommands, size_of_one_matching_byte, is_byte_of_parameter_name, token_forms_in_context, context_after_token, token_forms_of_parameters, TokenForm, kind_and_size_of_token, Setting, Param, IsNonEmptyListOf}
use Rattle.laws_print.proofs.Common.{IsWritableParam, WrittenToken, text_of_units, line_of_written_tokens, AreTokensCut}
use Rattle.sudoers_text.specs.declared.token.TokenKind.TheVariants as kind
use Rattle.sudoers_text.specs.declared.context.TokenContext.TheVariants as context
use Rattle.laws_print.proofs.Units.{units_of_plain_bytes}
use Rattle.laws_print.proofs.DefaultsTokens.{token_of_parameter_name, token_of_parameter_value, tokens_of_setting, tokens_of_parameter_parts, tokens_of_further_parameters, tokens_of_parameters}
use Rattle.laws_print.proofs.UserCuts.{found_punctuation_is_cut}
use Rattle.laws_print.proofs.ParamCuts.{parameter_name_is_cut, operator_mark_is_cut, value_context_follows_operator, operator_ends_parameter_name, EndsParameterValue, parameter_value_is_cut}

-- A context of parameters: behind a name or a sign stand parameters.
pub record IsParameterContext (here : TokenContext) : Type 0 where
  pub params : token_forms_in_context here ≡ token_forms_of_parameters
  pub name : (text rest : List ℕ) → context_after_token here kind.Name text rest ≡ context.Parameter
  pub sign : (rest : List ℕ) → context_after_token here kind.Punct (33 ∷ []) rest ≡ context.Parameter

pub parameter_context_is_one : IsParameterContext context.Parameter
parameter_context_is_one = record { params = refl; name = λ text rest. refl; sign = λ rest. refl }

pub context_behind_scope_member_takes_parameters : (list : ScopeNamesOrCommands) → IsParameterContext (context.BehindMember list)
context_behind_scope_member_takes_parameters list = record { params = refl; name = λ text rest. refl; sign = λ rest. refl }

-- What follows a parameter.
pub record IsCutBehindParameter (tail : List WrittenToken) : Type 0 where
  pub cut : AreTokensCut context.Parameter false tail
  pub name : size_of_one_matching_byte is_byte_of_parameter_name (line_of_written_tokens tail) ≡ 0
  pub value : EndsParameterValue (line_of_written_tokens tail)

setting_before_tail_is_cut : (s : Option Setting) (tail : List WrittenToken) → IsCutBehindParameter tail → AreTokensCut context.Parameter false (tokens_of_setting s tail)
setting_before_tail_is_cut None tail is = is.cut
setting_before_tail_is_cut (Some s) tail is =
    let value = token_of_parameter_value s.value ∷ tail in (
      true,
      operator_mark_is_cut s.operator (line_of_written_tokens value),
      subst (λ (c : TokenContext). AreTokensCut c true value) (sym (value_context_follows_operator s.operator (line_of_written_tokens value))) (false, parameter_value_is_cut s.value (line_of_written_tokens tail) is.value, is.cut),
    )

setting_ends_parameter_name : (s : Option Setting) (tail : List WrittenToken) → IsCutBehindParameter tail → size_of_one_matching_byte is_byte_of_parameter_name (line_of_written_tokens (tokens_of_setting s tail)) ≡ 0
setting_ends_parameter_name None tail is = is.name
setting_ends_parameter_name (Some s) tail is = operator_ends_parameter_name s.operator (line_of_written_tokens (token_of_parameter_value s.value ∷ tail))

parameter_name_and_setting_are_cut : (here : TokenContext) → IsParameterContext here → (item spaced : Bool) (name : List ℕ) (s : Option Setting) (tail : List WrittenToken) → name ≢ [] → list_all is_byte_of_parameter_name name ≡ true → IsCutBehindParameter tail → AreTokensCut here item (token_of_parameter_name name spaced ∷ tokens_of_setting s tail)
parameter_name_and_setting_are_cut here params item spaced name s tail some all is = (
  false,
  parameter_name_is_cut here item name (line_of_written_tokens (tokens_of_setting s tail)) params.params some all (setting_ends_parameter_name s tail is),
  subst (λ (c : TokenContext). AreTokensCut c false (tokens_of_setting s tail)) (sym (params.name (text_of_units (units_of_plain_bytes name)) (line_of_written_tokens (tokens_of_setting s tail)))) (setting_before_tail_is_cut s tail is),
)

parameter_before_tail_is_cut : (here : TokenContext) → IsParameterContext here → (item spaced negated : Bool) (name : List ℕ) (s : Option Setting) (tail : List WrittenToken) → name ≢ [] → list_all is_byte_of_parameter_name name ≡ true → IsCutBehindParameter tail → AreTokensCut here item (tokens_of_parameter_parts spaced negated name s tail)
parameter_before_tail_is_cut here params item spaced false name s tail some all is = parameter_name_and_setting_are_cut here params item spaced name s tail some all is
parameter_before_tail_is_cut here params item spaced true name s tail some all is =
    let named = token_of_parameter_name name false ∷ tokens_of_setting s tail in (
      false,
      found_punctuation_is_cut here item false 33 (line_of_written_tokens named) (λ i first. ap (λ (fs : List TokenForm). kind_and_size_of_token fs i first (33 ∷ line_of_written_tokens named)) params.params) refl (λ before begins none. absurd (cc)),
      subst (λ (c : TokenContext). AreTokensCut c false named) (sym (params.sign (line_of_written_tokens named))) (parameter_name_and_setting_are_cut context.Parameter parameter_context_is_one false false name s tail some all is),
    )

further_parameters_are_cut_behind_parameter : (ps : List Param) → AllByRecursion IsWritableParam ps → IsCutBehindParameter (tokens_of_further_parameters ps)
further_parameters_are_cut_behind_parameter [] all = record { cut = tt; name = refl; value = refl }
further_parameters_are_cut_behind_parameter (p ∷ ps) all =
    let next = tokens_of_parameter_parts true p.negated p.name p.setting (tokens_of_further_parameters ps) in
    record {
      cut = (
        true,
        found_punctuation_is_cut context.Parameter false true 44 (line_of_written_tokens next) (λ i first. refl) refl (λ before begins none. refl),
        parameter_before_tail_is_cut context.Parameter parameter_context_is_one true true p.negated p.name p.setting (tokens_of_further_parameters ps) all.0.some all.0.name (further_parameters_are_cut_behind_parameter ps all.1),
      );
      name = refl;
      value = refl;
    }

-- The parameters are cut into their tokens.
pub parameter_list_is_cut : (here : TokenContext) → IsParameterContext here → (item : Bool) (ps : List Param) → IsNonEmptyListOf IsWritableParam ps → AreTokensCut here item (tokens_of_parameters ps)
parameter_list_is_cut here params item [] all = absurd all
parameter_list_is_cut here params item (p ∷ ps) all = parameter_before_tail_is_cut here params item true p.negated p.name p.setting (tokens_of_further_parameters ps) all.0.some all.0.name (further_parameters_are_cut_behind_parameter ps all.1)

-- a blank stands before them
pub text_of_parameters_begins_with_blank : (ps : List Param) → IsNonEmptyListOf IsWritableParam ps → (rest : List ℕ) × (line_of_written_tokens (tokens_of_parameters ps) ≡ 32 ∷ rest)
text_of_parameters_begins_with_blank [] all = absurd all
text_of_parameters_begins_with_blank (p ∷ ps) all = by_sign p.negated
  where
    by_sign : (negated : Bool) → (rest : List ℕ) × (line_of_written_tokens (tokens_of_parameter_parts true negated p.name p.setting (tokens_of_further_parameters ps)) ≡ 32 ∷ rest)
    by_sign true = (_, refl)
    by_sign false = (_, refl)
