-- Defaults: scopes, parameters and lines of them.
use Rattle.std.proofs.Common.{◌≡◌, ℕ, Bool, true, false, codes, ◌||◌, List, [], ◌∷◌, ◌++◌, Option, Some, None, inl, inr, refl, sym, ap, ◌∙◌, subst, eq-eqb}
use Rattle.std.specs.List.{AllByRecursion}
use Rattle.sudoers_text.specs.declared.token.TokenKind.TheVariants as kind
use Rattle.sudoers_grammar.specs.declared.node.Kind.{Kind}
use Rattle.sudoers_grammar.specs.declared.node.Kind.TheVariants.{User, Runas, Host, Cmnd}
use Rattle.sudoers_grammar.specs.declared.node.Operator.{Operator}
use Rattle.sudoers_grammar.specs.declared.node.Operator.TheVariants as operator
use Rattle.sudoers_grammar.specs.Node.{Member, Scope, Setting, Param, Node}
use Rattle.sudoers_grammar.specs.Node as node
use Rattle.sudoers_grammar.specs.Piece.{TokenWithBytes, is_some, is_punct, is_arg, is_mark_of_byte, is_given_word, operator_of_token, scope_kind_of_sign_token_after}
use Rattle.sudoers_grammar.specs.Grammar.{Separated, IsMark, is_odd_count_of_tokens, IsScopeMemberList, IsScope, IsFlag, IsSetting, IsFlagOrSetting, IsParam, is_defaults}
use Rattle.sudoers_line_reader.proofs.Tokens.{mark_is_no_other_mark, mark_is_no_argument, token_without_punct_kind_is_no_mark, parameter_name_test_implies_name_kind, operator_is_no_comma}
use Rattle.sudoers_line_reader.specs.Reader.{is_next_token, pure, separated_list_reader}
use Rattle.sudoers_line_reader.specs.Descent.{is_argument_token, is_parameter_name_token, is_parameter_value_token, has_meaning_by, scope_member_list_reader, defaults_scope_reader, flag_parameter, set_parameter, parameter_setting_reader, negatable_flag_reader, named_parameter_reader, parameter_reader, defaults_parameters_node_reader, scoped_defaults_reader, defaults_node_reader}
use Rattle.sudoers_line_reader.proofs.Keeps.{GrammarRule, NextTokenFailsTest, CanBeCompletedByRule, ReaderFollowsRule, NeverTakesNoTokens, is_token_of_empty_test, next_token_fails_empty_test, IsEmptyReadingOf, IsOneTokenWithMeaning, HasSampleToken, one_token_reader_follows_rule, IsOnePassingToken, passing_token_reader_follows_rule, IsSequenceOfRules, IsEitherOfRules, BeginsWithPassingToken, choice_reader_follows_either_rule}
use Rattle.sudoers_line_reader.proofs.Repeats.{separated_lawful}
use Rattle.sudoers_line_reader.proofs.Parts.{sequence_of_readers_follows_rules, sequence_after_ended_reader_follows_rule, reader_follows_rule_saying_the_same, reader_follows_rule_with_wider_test, pure_reader_follows_rule_with_any_test, mapped_reader_follows_rule, tokens_failing_either_test_fail_both, both_false_implies_false_or, IsRuleChosenByNextToken, choice_reader_follows_chosen_rule, completed_first_rule_completes_choice, rule_taking_tokens_suits_any_test}
use Rattle.sudoers_line_reader.proofs.MemberLaws.{AreNegationSigns, negation_signs_are_marks_of_odd_count, negation_marks_are_negation_signs, negation_reader_follows_rule}
use Rattle.sudoers_line_reader.proofs.CommandLaws.{may_continue_command_list, scope_command_list_reader_follows_rule}
use Rattle.sudoers_line_reader.proofs.AliasLaws.{member_list_reader_follows_wider_rule}

-- ---- Sign List

scope_list_reader_follows_rule : (k : Kind) → ReaderFollowsRule (scope_member_list_reader k) (IsScopeMemberList k) may_continue_command_list
unfolding scope_member_list_reader
scope_list_reader_follows_rule User = member_list_reader_follows_wider_rule User
scope_list_reader_follows_rule Runas = member_list_reader_follows_wider_rule Runas
scope_list_reader_follows_rule Host = member_list_reader_follows_wider_rule Host
scope_list_reader_follows_rule Cmnd = scope_command_list_reader_follows_rule

sample_scope_sign_token : ℕ → TokenWithBytes
sample_scope_sign_token stop = record { kind = kind.Punct; text = codes "@"; start = stop; stop = 0; last = false }

sample_scope_sign_token_says_host : (stop : ℕ) → scope_kind_of_sign_token_after stop (sample_scope_sign_token stop) ≡ Some Host
unfolding scope_kind_of_sign_token_after sample_scope_sign_token
sample_scope_sign_token_says_host stop = rw (eq-eqb stop stop refl) refl

scope_kind_has_sample_token : (stop : ℕ) → HasSampleToken (scope_kind_of_sign_token_after stop)
scope_kind_has_sample_token stop = record { piece = sample_scope_sign_token stop; what = Host; is = sample_scope_sign_token_says_host stop }

abbrev scope_of_kind_and_members : Kind → List Member → Scope
scope_of_kind_and_members k ms = record { kind = k; members = ms }

abbrev IsScopeSequence : ℕ → GrammarRule Scope
IsScopeSequence stop = IsSequenceOfRules (IsOneTokenWithMeaning (scope_kind_of_sign_token_after stop)) (λ k. IsSequenceOfRules (IsScopeMemberList k) (λ ms. IsEmptyReadingOf (scope_of_kind_and_members k ms)))

scope_sequence_is_scope : (stop : ℕ) (ts : List TokenWithBytes) (s : Scope) (rest : List TokenWithBytes) → IsScopeSequence stop ts s rest → IsScope stop ts s rest
scope_sequence_is_scope stop ts s rest (k, mid, (t, e, has_meaning_by), (ms, end, h, (f, same))) = record {
  sign = t;
  behind = mid;
  split = e;
  is_sign = has_meaning_by ∙ ap (λ (x : Scope). Some x.kind) (sym same);
  members = subst (λ (x : Scope). IsScopeMemberList x.kind mid x.members rest) (sym same) (subst (IsScopeMemberList k mid ms) f h);
}

scope_is_scope_sequence : (stop : ℕ) (ts : List TokenWithBytes) (s : Scope) (rest : List TokenWithBytes) → IsScope stop ts s rest → IsScopeSequence stop ts s rest
scope_is_scope_sequence stop ts s rest h = (s.kind, h.behind, (h.sign, h.split, h.is_sign), (s.members, rest, h.members, (refl, refl)))

defaults_scope_reader_follows_rule : (stop : ℕ) → ReaderFollowsRule (defaults_scope_reader stop) (IsScope stop) may_continue_command_list
unfolding defaults_scope_reader
defaults_scope_reader_follows_rule stop = reader_follows_rule_saying_the_same (scope_sequence_is_scope stop) (scope_is_scope_sequence stop) (sequence_after_ended_reader_follows_rule (one_token_reader_follows_rule (scope_kind_of_sign_token_after stop) (scope_kind_has_sample_token stop)) (λ k. mapped_reader_follows_rule (scope_of_kind_and_members k) (scope_list_reader_follows_rule k)))

-- ---- "!"* Name, or Name ("=" | "+=" | "-=") Value

abbrev sample_parameter_name_token : TokenWithBytes
sample_parameter_name_token = record { kind = kind.Name; text = []; start = 0; stop = 0; last = false }

abbrev sample_parameter_value_token : TokenWithBytes
sample_parameter_value_token = record { kind = kind.Value; text = []; start = 0; stop = 0; last = false }

operator_has_sample_token : HasSampleToken operator_of_token
unfolding operator_of_token
operator_has_sample_token = record { piece = record { kind = kind.Punct; text = codes "="; start = 0; stop = 0; last = false }; what = operator.Set; is = refl }

abbrev IsNegatableFlag : GrammarRule Param
IsNegatableFlag = IsSequenceOfRules AreNegationSigns (λ b. IsSequenceOfRules (IsOnePassingToken is_parameter_name_token) (λ n. IsEmptyReadingOf (flag_parameter b n)))

abbrev IsSettingAfterName : TokenWithBytes → GrammarRule Param
IsSettingAfterName n = IsSequenceOfRules (IsOneTokenWithMeaning operator_of_token) (λ o. IsSequenceOfRules (IsOnePassingToken is_parameter_value_token) (λ v. IsEmptyReadingOf (set_parameter n o v)))

abbrev IsNamedParameter : GrammarRule Param
IsNamedParameter = IsSequenceOfRules (IsOnePassingToken is_parameter_name_token) (λ n. IsEitherOfRules (IsSettingAfterName n) (IsEmptyReadingOf (flag_parameter false n)))

abbrev pub may_continue_parameter : TokenWithBytes → Bool
may_continue_parameter t = has_meaning_by operator_of_token t

parameter_name_is_no_mark : (b : ℕ) (t : TokenWithBytes) → is_parameter_name_token t ≡ true → is_mark_of_byte b t ≡ false
parameter_name_is_no_mark b t e = token_without_punct_kind_is_no_mark b t (ap is_punct (parameter_name_test_implies_name_kind t.kind e))

negatable_flag_reader_follows_rule : ReaderFollowsRule negatable_flag_reader IsNegatableFlag may_continue_parameter
unfolding negatable_flag_reader
negatable_flag_reader_follows_rule = sequence_of_readers_follows_rules (λ b mid p rest h st. ap (is_next_token (is_mark_of_byte 33)) h.2.0 ∙ parameter_name_is_no_mark 33 h.0 h.2.1) negation_reader_follows_rule (λ b. reader_follows_rule_with_wider_test may_continue_parameter (λ zs st. next_token_fails_empty_test zs) (mapped_reader_follows_rule (flag_parameter b) (passing_token_reader_follows_rule is_parameter_name_token sample_parameter_name_token refl)))

parameter_setting_reader_follows_rule : (n : TokenWithBytes) → ReaderFollowsRule (parameter_setting_reader n) (IsSettingAfterName n) is_token_of_empty_test
unfolding parameter_setting_reader
parameter_setting_reader_follows_rule n = sequence_after_ended_reader_follows_rule (one_token_reader_follows_rule operator_of_token operator_has_sample_token) (λ o. mapped_reader_follows_rule (set_parameter n o) (passing_token_reader_follows_rule is_parameter_value_token sample_parameter_value_token refl))

parameter_setting_begins_with_operator : (n : TokenWithBytes) → BeginsWithPassingToken (has_meaning_by operator_of_token) (IsSettingAfterName n)
parameter_setting_begins_with_operator n ts p rest (o, mid, (t, e, has_meaning_by), later) = ap (is_next_token may_continue_parameter) e ∙ ap is_some has_meaning_by

named_parameter_reader_follows_rule : ReaderFollowsRule named_parameter_reader IsNamedParameter may_continue_parameter
unfolding named_parameter_reader
named_parameter_reader_follows_rule = sequence_after_ended_reader_follows_rule (passing_token_reader_follows_rule is_parameter_name_token sample_parameter_name_token refl)
    (λ n. choice_reader_follows_either_rule (has_meaning_by operator_of_token) (parameter_setting_reader n) (pure (flag_parameter false n)) (IsSettingAfterName n) (IsEmptyReadingOf (flag_parameter false n)) may_continue_parameter (parameter_setting_begins_with_operator n) (λ ts p rest is st. ap (is_next_token may_continue_parameter) is.0 ∙ st)
    (reader_follows_rule_with_wider_test may_continue_parameter (λ zs st. next_token_fails_empty_test zs) (parameter_setting_reader_follows_rule n)) (pure_reader_follows_rule_with_any_test may_continue_parameter (flag_parameter false n)))

empty_list_has_no_name_token : (xs ts : List TokenWithBytes) (t : TokenWithBytes) (rest : List TokenWithBytes) → [] ≡ xs ++ ts → ts ≡ t ∷ rest → ⊥
empty_list_has_no_name_token [] ts t rest e f = let g : [] ≡ t ∷ rest = e ∙ f in cc
empty_list_has_no_name_token (x ∷ xs) ts t rest e f = cc

negatable_flag_takes_tokens : NeverTakesNoTokens IsNegatableFlag
negatable_flag_takes_tokens p (b, mid, signed, (n, end, (e, is), later)) = let s = negation_signs_are_marks_of_odd_count [] b mid signed in empty_list_has_no_name_token s.0 mid n end s.1 e

named_parameter_takes_tokens : NeverTakesNoTokens IsNamedParameter
named_parameter_takes_tokens p (n, mid, (e, is), later) = cc

abbrev IsParameterByChoice : GrammarRule Param
IsParameterByChoice = IsRuleChosenByNextToken (is_mark_of_byte 33) IsNegatableFlag IsNamedParameter

parameter_by_choice_can_be_completed : CanBeCompletedByRule IsParameterByChoice may_continue_parameter []
parameter_by_choice_can_be_completed = record {
  more = sample_parameter_name_token ∷ [];
  what = flag_parameter false sample_parameter_name_token;
  is = λ zs st. inr (parameter_name_is_no_mark 33 sample_parameter_name_token refl, (sample_parameter_name_token, zs, (refl, refl), inr (refl, refl)));
}

parameter_reader_follows_choice : ReaderFollowsRule parameter_reader IsParameterByChoice may_continue_parameter
unfolding parameter_reader
parameter_reader_follows_choice = choice_reader_follows_chosen_rule parameter_by_choice_can_be_completed (rule_taking_tokens_suits_any_test IsNegatableFlag (is_mark_of_byte 33) true may_continue_parameter negatable_flag_takes_tokens) (rule_taking_tokens_suits_any_test IsNamedParameter (is_mark_of_byte 33) false may_continue_parameter named_parameter_takes_tokens) negatable_flag_reader_follows_rule named_parameter_reader_follows_rule

signs_and_name_are_flag_parameter : (ts : List TokenWithBytes) (p : Param) (rest : List TokenWithBytes) (xs : List TokenWithBytes) (n : TokenWithBytes) (b : Bool) → ts ≡ xs ++ n ∷ rest → AllByRecursion (IsMark 33) xs → is_parameter_name_token n ≡ true → b ≡ is_odd_count_of_tokens xs → p ≡ flag_parameter b n → IsParam ts p rest
signs_and_name_are_flag_parameter ts p rest xs n b split are is odds same = subst (λ (o : Option Setting). IsFlagOrSetting o ts p rest) (sym (ap (λ (x : Param). x.setting) same)) (record {
  signs = xs;
  name = n;
  split = split;
  are_signs = are;
  is_name = is;
  negated = ap (λ (x : Param). x.negated) same ∙ odds;
  same_name = ap (λ (x : Param). x.name) same;
})

name_operator_value_are_set_parameter : (ts : List TokenWithBytes) (p : Param) (rest : List TokenWithBytes) (n t v : TokenWithBytes) (o : Operator) → ts ≡ n ∷ t ∷ v ∷ rest → is_parameter_name_token n ≡ true → operator_of_token t ≡ Some o → is_parameter_value_token v ≡ true → p ≡ set_parameter n o v → IsParam ts p rest
name_operator_value_are_set_parameter ts p rest n t v o split is has_meaning_by valued same = subst (λ (o : Option Setting). IsFlagOrSetting o ts p rest) (sym (ap (λ (x : Param). x.setting) same)) (record {
  name = n;
  operator = t;
  value = v;
  split = split;
  is_name = is;
  is_operator = has_meaning_by;
  is_value = valued;
  not_negated = ap (λ (x : Param). x.negated) same;
  same_name = ap (λ (x : Param). x.name) same;
  same_value = refl;
})

parameter_by_choice_is_parameter : (ts : List TokenWithBytes) (p : Param) (rest : List TokenWithBytes) → IsParameterByChoice ts p rest → IsParam ts p rest
parameter_by_choice_is_parameter ts p rest (inl (c, (b, mid, signed, (n, end, (e, is), (f, same))))) =
    let s = negation_signs_are_marks_of_odd_count ts b mid signed in
    signs_and_name_are_flag_parameter ts p rest s.0 n b (s.1 ∙ ap (λ (l : List TokenWithBytes). s.0 ++ l) (e ∙ ap (λ (l : List TokenWithBytes). n ∷ l) f)) s.2 is s.3 same
parameter_by_choice_is_parameter ts p rest (inr (c, (n, mid, (e, is), inl (o, behind, (t, f, has_meaning_by), (v, end, (g, valued), (h, same)))))) =
    name_operator_value_are_set_parameter ts p rest n t v o (e ∙ ap (λ (l : List TokenWithBytes). n ∷ l) (f ∙ ap (λ (l : List TokenWithBytes). t ∷ l) (g ∙ ap (λ (l : List TokenWithBytes). v ∷ l) h))) is has_meaning_by valued same
parameter_by_choice_is_parameter ts p rest (inr (c, (n, mid, (e, is), inr (f, same)))) = signs_and_name_are_flag_parameter ts p rest [] n false (e ∙ ap (λ (l : List TokenWithBytes). n ∷ l) f) tt is refl same

flag_parameter_is_by_choice : (ts : List TokenWithBytes) (p : Param) (rest : List TokenWithBytes) → p.setting ≡ None → (h : IsFlag ts p rest) (xs : List TokenWithBytes) → h.signs ≡ xs → IsParameterByChoice ts p rest
flag_parameter_is_by_choice ts p rest none h [] e =
    let split : ts ≡ h.name ∷ rest = h.split ∙ ap (λ (l : List TokenWithBytes). l ++ h.name ∷ rest) e in
    inr (ap (is_next_token (is_mark_of_byte 33)) split ∙ parameter_name_is_no_mark 33 h.name h.is_name, (h.name, rest, (split, h.is_name), inr (refl, λ i. record { negated = (h.negated ∙ ap is_odd_count_of_tokens e) i; name = h.same_name i; setting = none i })))
flag_parameter_is_by_choice ts p rest none h (x ∷ xs) e =
    let are = subst (AllByRecursion (IsMark 33)) e h.are_signs in
    inl (
      ap (is_next_token (is_mark_of_byte 33)) (h.split ∙ ap (λ (l : List TokenWithBytes). l ++ h.name ∷ rest) e) ∙ are.0,
      (is_odd_count_of_tokens h.signs, h.name ∷ rest, negation_marks_are_negation_signs ts h.signs (h.name ∷ rest) h.split h.are_signs, (h.name, rest, (refl, h.is_name), (refl, λ i. record { negated = h.negated i; name = h.same_name i; setting = none i }))),
    )

set_parameter_is_by_choice : (ts : List TokenWithBytes) (p : Param) (s : Setting) (rest : List TokenWithBytes) → p.setting ≡ Some s → IsSetting ts p s rest → IsParameterByChoice ts p rest
set_parameter_is_by_choice ts p s rest some h =
    inr (
      ap (is_next_token (is_mark_of_byte 33)) h.split ∙ parameter_name_is_no_mark 33 h.name h.is_name,
      (
        h.name,
        h.operator ∷ h.value ∷ rest,
        (h.split, h.is_name),
        inl (
          s.operator,
          h.value ∷ rest,
          (h.operator, refl, h.is_operator),
          (
            h.value,
            rest,
            (refl, h.is_value),
            (
              refl,
              λ i. record { negated = h.not_negated i; name = h.same_name i; setting = (some ∙ (λ j. Some (record { operator = s.operator; value = h.same_value j }))) i },
            ),
          ),
        ),
      ),
    )

parameter_with_setting_is_by_choice : (ts : List TokenWithBytes) (p : Param) (rest : List TokenWithBytes) (o : Option Setting) → p.setting ≡ o → IsFlagOrSetting o ts p rest → IsParameterByChoice ts p rest
parameter_with_setting_is_by_choice ts p rest None e h = flag_parameter_is_by_choice ts p rest e h h.signs refl
parameter_with_setting_is_by_choice ts p rest (Some s) e h = set_parameter_is_by_choice ts p s rest e h

pub parameter_reader_follows_rule : ReaderFollowsRule parameter_reader IsParam may_continue_parameter
parameter_reader_follows_rule = reader_follows_rule_saying_the_same parameter_by_choice_is_parameter (λ ts p rest h. parameter_with_setting_is_by_choice ts p rest p.setting refl h) parameter_reader_follows_choice

-- ---- "Defaults" (Sign List)? Param ("," Param)*

abbrev pub may_continue_parameter_list : TokenWithBytes → Bool
may_continue_parameter_list t = is_mark_of_byte 44 t || may_continue_parameter t

comma_is_no_operator : (zs : List TokenWithBytes) → is_next_token (is_mark_of_byte 44) zs ≡ true → NextTokenFailsTest may_continue_parameter zs
comma_is_no_operator [] e = refl
comma_is_no_operator (z ∷ zs) e = no_operator (operator_of_token z) refl
  where
    no_operator : (o : Option Operator) → operator_of_token z ≡ o → may_continue_parameter z ≡ false
    no_operator None f = ap is_some f
    no_operator (Some o) f = absurd (let g = operator_is_no_comma z o f in cc)

parameter_list_reader_follows_rule : ReaderFollowsRule (separated_list_reader 44 parameter_reader) (Separated 44 IsParam) may_continue_parameter_list
parameter_list_reader_follows_rule = separated_lawful 44 parameter_reader IsParam may_continue_parameter may_continue_parameter_list (λ zs st. (tokens_failing_either_test_fail_both (is_mark_of_byte 44) may_continue_parameter zs st).0) (λ zs st. (tokens_failing_either_test_fail_both (is_mark_of_byte 44) may_continue_parameter zs st).1) comma_is_no_operator parameter_reader_follows_rule

abbrev pub IsDefaultsNodeOfParameters : Option Scope → GrammarRule Node
IsDefaultsNodeOfParameters s = IsSequenceOfRules (Separated 44 IsParam) (λ ps. IsEmptyReadingOf (node.Defaults s ps))

parameters_reader_follows_rule : (s : Option Scope) → ReaderFollowsRule (defaults_parameters_node_reader s) (IsDefaultsNodeOfParameters s) may_continue_parameter_list
unfolding defaults_parameters_node_reader
parameters_reader_follows_rule s = mapped_reader_follows_rule (node.Defaults s) parameter_list_reader_follows_rule

-- what begins no parameter
parameter_fails_other_tests : (test : TokenWithBytes → Bool) → ((t : TokenWithBytes) → is_mark_of_byte 33 t ≡ true → test t ≡ false) → ((t : TokenWithBytes) → is_parameter_name_token t ≡ true → test t ≡ false) → (ts : List TokenWithBytes) (p : Param) (rest : List TokenWithBytes) (o : Option Setting) → IsFlagOrSetting o ts p rest → NextTokenFailsTest test ts
parameter_fails_other_tests test mark name ts p rest (Some s) h = ap (is_next_token test) h.split ∙ name h.name h.is_name
parameter_fails_other_tests test mark name ts p rest None h = ap (is_next_token test) h.split ∙ at h.signs h.are_signs
  where
    at : (xs : List TokenWithBytes) → AllByRecursion (IsMark 33) xs → is_next_token test (xs ++ h.name ∷ rest) ≡ false
    at [] are = name h.name h.is_name
    at (x ∷ xs) are = mark x are.0

parameter_list_fails_other_tests : (test : TokenWithBytes → Bool) → ((t : TokenWithBytes) → is_mark_of_byte 33 t ≡ true → test t ≡ false) → ((t : TokenWithBytes) → is_parameter_name_token t ≡ true → test t ≡ false) → (ts : List TokenWithBytes) (ps : List Param) (rest : List TokenWithBytes) → Separated 44 IsParam ts ps rest → NextTokenFailsTest test ts
parameter_list_fails_other_tests test mark name ts [] rest h = absurd h
parameter_list_fails_other_tests test mark name ts (p ∷ ps) rest (mid, is, more) = parameter_fails_other_tests test mark name ts p mid p.setting is

parameters_continue_no_command_list : (s : Option Scope) (mid : List TokenWithBytes) (n : Node) (rest : List TokenWithBytes) → IsDefaultsNodeOfParameters s mid n rest → NextTokenFailsTest may_continue_command_list mid
parameters_continue_no_command_list s mid n rest (ps, end, h, e) = parameter_list_fails_other_tests may_continue_command_list
    (λ t e. both_false_implies_false_or (is_mark_of_byte 44 t) (is_argument_token t) (mark_is_no_other_mark 33 44 t e refl) (mark_is_no_argument 33 t e))
    (λ t e. both_false_implies_false_or (is_mark_of_byte 44 t) (is_argument_token t) (parameter_name_is_no_mark 44 t e) (ap is_arg (parameter_name_test_implies_name_kind t.kind e))) mid ps end h

abbrev pub IsScopedDefaultsNode : ℕ → GrammarRule Node
IsScopedDefaultsNode stop = IsSequenceOfRules (IsScope stop) (λ s. IsDefaultsNodeOfParameters (Some s))

scoped_defaults_reader_follows_rule : (stop : ℕ) → ReaderFollowsRule (scoped_defaults_reader stop) (IsScopedDefaultsNode stop) may_continue_parameter_list
unfolding scoped_defaults_reader
scoped_defaults_reader_follows_rule stop = sequence_of_readers_follows_rules (λ s mid n rest h st. parameters_continue_no_command_list (Some s) mid n rest h) (defaults_scope_reader_follows_rule stop) (λ s. parameters_reader_follows_rule (Some s))

scoped_defaults_begin_with_scope_sign : (stop : ℕ) → BeginsWithPassingToken (has_meaning_by (scope_kind_of_sign_token_after stop)) (IsScopedDefaultsNode stop)
scoped_defaults_begin_with_scope_sign stop ts n rest (s, mid, h, later) = ap (is_next_token (has_meaning_by (scope_kind_of_sign_token_after stop))) h.split ∙ ap is_some h.is_sign

scoped_defaults_take_tokens : (stop : ℕ) → NeverTakesNoTokens (IsScopedDefaultsNode stop)
scoped_defaults_take_tokens stop n (s, mid, h, later) = let e = h.split in cc

empty_list_is_no_parameter : (p : Param) (mid : List TokenWithBytes) (o : Option Setting) → IsFlagOrSetting o [] p mid → ⊥
empty_list_is_no_parameter p mid (Some s) h = let e = h.split in cc
empty_list_is_no_parameter p mid None h = empty_list_has_no_name_token h.signs (h.name ∷ mid) h.name mid h.split refl

parameters_take_tokens : (s : Option Scope) → NeverTakesNoTokens (IsDefaultsNodeOfParameters s)
parameters_take_tokens s n (p ∷ ps, end, (mid, is, more), e) = empty_list_is_no_parameter p mid p.setting is
parameters_take_tokens s n ([], end, h, e) = absurd h

abbrev pub IsDefaultsNodeSequence : GrammarRule Node
IsDefaultsNodeSequence = IsSequenceOfRules (IsOnePassingToken is_defaults) (λ w. IsRuleChosenByNextToken (has_meaning_by (scope_kind_of_sign_token_after w.stop)) (IsScopedDefaultsNode w.stop) (IsDefaultsNodeOfParameters None))

pub token_of_word_defaults : TokenWithBytes
token_of_word_defaults = record { kind = kind.Word; text = codes "Defaults"; start = 0; stop = 0; last = false }

token_of_word_defaults_is_defaults : is_defaults token_of_word_defaults ≡ true
unfolding token_of_word_defaults is_given_word
token_of_word_defaults_is_defaults = refl

pub defaults_node_reader_follows_rule : ReaderFollowsRule defaults_node_reader IsDefaultsNodeSequence may_continue_parameter_list
unfolding defaults_node_reader
defaults_node_reader_follows_rule = sequence_after_ended_reader_follows_rule (passing_token_reader_follows_rule is_defaults token_of_word_defaults token_of_word_defaults_is_defaults)
    (λ w. choice_reader_follows_chosen_rule (completed_first_rule_completes_choice (scoped_defaults_begin_with_scope_sign w.stop) (scoped_defaults_reader_follows_rule w.stop).some) (rule_taking_tokens_suits_any_test (IsScopedDefaultsNode w.stop) (has_meaning_by (scope_kind_of_sign_token_after w.stop)) true may_continue_parameter_list (scoped_defaults_take_tokens w.stop)) (rule_taking_tokens_suits_any_test (IsDefaultsNodeOfParameters None) (has_meaning_by (scope_kind_of_sign_token_after w.stop)) false may_continue_parameter_list (parameters_take_tokens None))
    (scoped_defaults_reader_follows_rule w.stop) (parameters_reader_follows_rule None))
