-- The whole line.
use Rattle.std.proofs.Common.{◌≡◌, Bool, true, false, List, [], ◌∷◌, Option, Some, None, inl, inr, refl, sym, ap, ◌∙◌, subst}
use Rattle.sudoers_text.specs.declared.token.TokenKind.TheVariants as kind
use Rattle.sudoers_grammar.specs.declared.node.Kind.TheVariants.{User}
use Rattle.sudoers_grammar.specs.Node.{Member, Scope, Param, Node}
use Rattle.sudoers_grammar.specs.Node as node
use Rattle.sudoers_grammar.specs.Piece.{TokenWithBytes, is_some, is_punct, is_word, is_comment, is_arg, is_mark_of_byte, alias_kind_of_token, include_is_dir_of_token, operator_of_token, scope_kind_of_sign_token_after}
use Rattle.sudoers_grammar.specs.Grammar.{Separated, AreMembers, IsDef, IsHostGroup, is_defaults, BeginsSpec, BeginsNoScope, PerhapsScope, IsParam, IsEnd, ReadsNodeWithRest, Reads}
use Rattle.sudoers_line_reader.proofs.Tokens.{kind_of_member_token_is_no_comment, mark_is_no_comment, token_without_punct_kind_is_no_mark, include_word_is_no_alias_kind, include_token_has_word_kind, defaults_token_has_word_kind, defaults_token_is_no_alias_kind, defaults_token_is_no_include, alias_kind_token_has_word_kind}
use Rattle.sudoers_line_reader.specs.Reader.{is_next_token, ◌>>=◌, passing_token_reader, reader_chosen_by_next_token, end_of_line_reader}
use Rattle.sudoers_line_reader.specs.Descent.{is_argument_token, has_meaning_by, is_comment_token, alias_node_reader, include_node_reader, defaults_node_reader, user_spec_reader, optional_comment_end_reader, is_any_token, whole_line_reader}
use Rattle.sudoers_line_reader.proofs.Keeps.{GrammarRule, NextTokenFailsTest, ReaderFollowsRule, IsOnePassingToken, passing_token_reader_follows_rule, IsSequenceOfRules, IsEitherOfRules, BeginsWithPassingToken, choice_reader_follows_either_rule, is_token_of_full_test, tokens_failing_full_test_are_empty, IsEndOfTokensAs, end_of_line_reader_follows_rule}
use Rattle.sudoers_line_reader.proofs.Parts.{sequence_of_readers_follows_rules, sequence_after_ended_reader_follows_rule, reader_follows_rule_saying_the_same, both_false_implies_false_or, is_some_of_none_is_false, IsRuleChosenByNextToken, EmptyReadingSuitsTest, choice_reader_follows_chosen_rule, completed_first_rule_completes_choice}
use Rattle.sudoers_line_reader.proofs.MemberLaws.{members_begin_with_sign_or_member_token}
use Rattle.sudoers_line_reader.proofs.CommandLaws.{may_continue_command_list}
use Rattle.sudoers_line_reader.proofs.SpecLaws.{may_continue_host_group_list, IsUserSpecSequence, user_spec_reader_follows_rule}
use Rattle.sudoers_line_reader.proofs.AliasLaws.{may_continue_definition_list, IsAliasNodeSequence, alias_node_reader_follows_rule, IsIncludeNodeSequence, include_node_reader_follows_rule}
use Rattle.sudoers_line_reader.proofs.DefaultsLaws.{may_continue_parameter_list, IsScopedDefaultsNode, IsDefaultsNodeOfParameters, IsDefaultsNodeSequence, defaults_node_reader_follows_rule}

-- ---- the end, or a comment

abbrev sample_comment_token : TokenWithBytes
sample_comment_token = record { kind = kind.Comment; text = []; start = 0; stop = 0; last = false }

-- Nothing is left, or a comment, and so the line says this.
abbrev IsLineEndOfNode : Node → GrammarRule Node
IsLineEndOfNode n ts y rest = IsEnd ts × (rest ≡ []) × (y ≡ n)

abbrev IsLineEndByChoice : Node → GrammarRule Node
IsLineEndByChoice n = IsEitherOfRules (IsSequenceOfRules (IsOnePassingToken is_comment_token) (λ _. IsEndOfTokensAs n)) (IsEndOfTokensAs n)

line_end_by_choice_is_line_end : (n : Node) (ts : List TokenWithBytes) (y : Node) (rest : List TokenWithBytes) → IsLineEndByChoice n ts y rest → IsLineEndOfNode n ts y rest
line_end_by_choice_is_line_end n ts y rest (inl (t, mid, (e, is), (f, g, same))) = (subst IsEnd (sym (e ∙ ap (λ (l : List TokenWithBytes). t ∷ l) f)) is, g, same)
line_end_by_choice_is_line_end n ts y rest (inr (e, g, same)) = (subst IsEnd (sym e) tt, g, same)

line_end_is_line_end_by_choice : (n : Node) (ts : List TokenWithBytes) (y : Node) (rest : List TokenWithBytes) → IsLineEndOfNode n ts y rest → IsLineEndByChoice n ts y rest
line_end_is_line_end_by_choice n [] y rest (is, e, same) = inr (refl, e, same)
line_end_is_line_end_by_choice n (t ∷ []) y rest (is, e, same) = inl (t, [], (refl, is), (refl, e, same))
line_end_is_line_end_by_choice n (t ∷ u ∷ ts) y rest (is, e, same) = absurd is

optional_comment_end_reader_follows_rule : (n : Node) → ReaderFollowsRule (optional_comment_end_reader n) (IsLineEndOfNode n) is_token_of_full_test
unfolding optional_comment_end_reader
optional_comment_end_reader_follows_rule n = reader_follows_rule_saying_the_same (line_end_by_choice_is_line_end n) (line_end_is_line_end_by_choice n)
    (choice_reader_follows_either_rule is_comment_token (passing_token_reader is_comment_token >>= (λ _. end_of_line_reader n)) (end_of_line_reader n) (IsSequenceOfRules (IsOnePassingToken is_comment_token) (λ _. IsEndOfTokensAs n)) (IsEndOfTokensAs n) is_token_of_full_test
    (λ ts y rest h. ap (is_next_token is_comment_token) h.2.0 ∙ h.2.1) (λ ts y rest h st. ap (is_next_token is_comment_token) h.0) (sequence_after_ended_reader_follows_rule (passing_token_reader_follows_rule is_comment_token sample_comment_token refl) (λ _. end_of_line_reader_follows_rule n)) (end_of_line_reader_follows_rule n))

-- what a comment is not, does not come at the end
line_end_fails_tests_comments_fail : (test : TokenWithBytes → Bool) → ((t : TokenWithBytes) → is_comment_token t ≡ true → test t ≡ false) → (n : Node) (mid : List TokenWithBytes) (y : Node) (rest : List TokenWithBytes) → IsLineEndOfNode n mid y rest → NextTokenFailsTest test mid
line_end_fails_tests_comments_fail test other n [] y rest h = refl
line_end_fails_tests_comments_fail test other n (t ∷ []) y rest (is, e, same) = other t is
line_end_fails_tests_comments_fail test other n (t ∷ u ∷ ts) y rest (is, e, same) = absurd is

comment_is_no_mark_argument_or_word : (t : TokenWithBytes) → is_comment_token t ≡ true → (is_punct t.kind ≡ false) × (is_arg t.kind ≡ false) × (is_word t.kind ≡ false)
comment_is_no_mark_argument_or_word t e = by t.kind e
  where
    by : (k : _) → is_comment k ≡ true → (is_punct k ≡ false) × (is_arg k ≡ false) × (is_word k ≡ false)
    by kind.Comment e = (refl, refl, refl)
    by k e = absurd cc

comment_is_no_mark : (b : _) (t : TokenWithBytes) → is_comment_token t ≡ true → is_mark_of_byte b t ≡ false
comment_is_no_mark b t e = token_without_punct_kind_is_no_mark b t (comment_is_no_mark_argument_or_word t e).0

comment_continues_no_command_list : (t : TokenWithBytes) → is_comment_token t ≡ true → may_continue_command_list t ≡ false
comment_continues_no_command_list t e = both_false_implies_false_or (is_mark_of_byte 44 t) (is_argument_token t) (comment_is_no_mark 44 t e) (comment_is_no_mark_argument_or_word t e).1

comment_continues_no_definition_list : (t : TokenWithBytes) → is_comment_token t ≡ true → may_continue_definition_list t ≡ false
comment_continues_no_definition_list t e = both_false_implies_false_or (is_mark_of_byte 58 t) (may_continue_command_list t) (comment_is_no_mark 58 t e) (comment_continues_no_command_list t e)

token_without_punct_kind_is_no_operator : (t : TokenWithBytes) → is_punct t.kind ≡ false → operator_of_token t ≡ None
unfolding operator_of_token
token_without_punct_kind_is_no_operator t e = rw e refl

comment_continues_no_parameter_list : (t : TokenWithBytes) → is_comment_token t ≡ true → may_continue_parameter_list t ≡ false
comment_continues_no_parameter_list t e = both_false_implies_false_or (is_mark_of_byte 44 t) (has_meaning_by operator_of_token t) (comment_is_no_mark 44 t e) (is_some_of_none_is_false (operator_of_token t) (token_without_punct_kind_is_no_operator t (comment_is_no_mark_argument_or_word t e).0))

-- ---- each kind of line to its end

abbrev pub IsRuleThenLineEnd : GrammarRule Node → GrammarRule Node
IsRuleThenLineEnd Is = IsSequenceOfRules Is IsLineEndOfNode

spec_line_reader_follows_rule : ReaderFollowsRule (user_spec_reader >>= optional_comment_end_reader) (IsRuleThenLineEnd IsUserSpecSequence) is_token_of_full_test
spec_line_reader_follows_rule = sequence_of_readers_follows_rules (λ n mid y rest h st. line_end_fails_tests_comments_fail may_continue_host_group_list comment_continues_no_definition_list n mid y rest h) user_spec_reader_follows_rule optional_comment_end_reader_follows_rule

defaults_line_reader_follows_rule : ReaderFollowsRule (defaults_node_reader >>= optional_comment_end_reader) (IsRuleThenLineEnd IsDefaultsNodeSequence) is_token_of_full_test
defaults_line_reader_follows_rule = sequence_of_readers_follows_rules (λ n mid y rest h st. line_end_fails_tests_comments_fail may_continue_parameter_list comment_continues_no_parameter_list n mid y rest h) defaults_node_reader_follows_rule optional_comment_end_reader_follows_rule

include_line_reader_follows_rule : ReaderFollowsRule (include_node_reader >>= optional_comment_end_reader) (IsRuleThenLineEnd IsIncludeNodeSequence) is_token_of_full_test
include_line_reader_follows_rule = sequence_after_ended_reader_follows_rule include_node_reader_follows_rule optional_comment_end_reader_follows_rule

alias_line_reader_follows_rule : ReaderFollowsRule (alias_node_reader >>= optional_comment_end_reader) (IsRuleThenLineEnd IsAliasNodeSequence) is_token_of_full_test
alias_line_reader_follows_rule = sequence_of_readers_follows_rules (λ n mid y rest h st. line_end_fails_tests_comments_fail may_continue_definition_list comment_continues_no_definition_list n mid y rest h) alias_node_reader_follows_rule optional_comment_end_reader_follows_rule

abbrev IsCommentLine : GrammarRule Node
IsCommentLine = IsSequenceOfRules (IsOnePassingToken is_comment_token) (λ _. IsEndOfTokensAs node.Comment)

comment_line_reader_follows_rule : ReaderFollowsRule (passing_token_reader is_comment_token >>= (λ _. end_of_line_reader node.Comment)) IsCommentLine is_token_of_full_test
comment_line_reader_follows_rule = sequence_after_ended_reader_follows_rule (passing_token_reader_follows_rule is_comment_token sample_comment_token refl) (λ _. end_of_line_reader_follows_rule node.Comment)

-- ---- the line

-- Where all is taken, any test fails of what is left.
rule_to_line_end_suits_failed_test : (Is : GrammarRule Node) (test : TokenWithBytes → Bool) → EmptyReadingSuitsTest test false Is is_token_of_full_test
rule_to_line_end_suits_failed_test Is test x is zs st = ap (is_next_token test) (tokens_failing_full_test_are_empty zs st)

rule_begun_by_test_suits_passed_test : (Is : GrammarRule Node) (test : TokenWithBytes → Bool) → BeginsWithPassingToken test Is → EmptyReadingSuitsTest test true Is is_token_of_full_test
rule_begun_by_test_suits_passed_test Is test begins x is zs st = begins zs x zs (is zs st)

abbrev IsDefaultsOrSpecLine : GrammarRule Node
IsDefaultsOrSpecLine = IsRuleChosenByNextToken is_defaults (IsRuleThenLineEnd IsDefaultsNodeSequence) (IsRuleThenLineEnd IsUserSpecSequence)

abbrev IsIncludeOrLaterKindOfLine : GrammarRule Node
IsIncludeOrLaterKindOfLine = IsRuleChosenByNextToken (has_meaning_by include_is_dir_of_token) (IsRuleThenLineEnd IsIncludeNodeSequence) IsDefaultsOrSpecLine

abbrev IsAliasOrLaterKindOfLine : GrammarRule Node
IsAliasOrLaterKindOfLine = IsRuleChosenByNextToken (has_meaning_by alias_kind_of_token) (IsRuleThenLineEnd IsAliasNodeSequence) IsIncludeOrLaterKindOfLine

abbrev IsCommentOrLaterKindOfLine : GrammarRule Node
IsCommentOrLaterKindOfLine = IsRuleChosenByNextToken is_comment_token IsCommentLine IsAliasOrLaterKindOfLine

abbrev IsLineOfAnyKind : GrammarRule Node
IsLineOfAnyKind = IsRuleChosenByNextToken is_any_token IsCommentOrLaterKindOfLine (IsEndOfTokensAs node.Blank)

defaults_line_begins_with_defaults : BeginsWithPassingToken is_defaults (IsRuleThenLineEnd IsDefaultsNodeSequence)
defaults_line_begins_with_defaults ts n rest h = ap (is_next_token is_defaults) h.2.2.0 ∙ h.2.2.1

reader_from_defaults_on_follows_rule : ReaderFollowsRule (reader_chosen_by_next_token is_defaults (defaults_node_reader >>= optional_comment_end_reader) (user_spec_reader >>= optional_comment_end_reader)) IsDefaultsOrSpecLine is_token_of_full_test
reader_from_defaults_on_follows_rule = choice_reader_follows_chosen_rule (completed_first_rule_completes_choice defaults_line_begins_with_defaults defaults_line_reader_follows_rule.some) (rule_begun_by_test_suits_passed_test (IsRuleThenLineEnd IsDefaultsNodeSequence) is_defaults defaults_line_begins_with_defaults) (rule_to_line_end_suits_failed_test (IsRuleThenLineEnd IsUserSpecSequence) is_defaults) defaults_line_reader_follows_rule spec_line_reader_follows_rule

include_line_begins_with_include : BeginsWithPassingToken (has_meaning_by include_is_dir_of_token) (IsRuleThenLineEnd IsIncludeNodeSequence)
include_line_begins_with_include ts n rest h = ap (is_next_token (has_meaning_by include_is_dir_of_token)) h.2.2.1 ∙ ap is_some h.2.2.2

reader_from_include_on_follows_rule : ReaderFollowsRule (reader_chosen_by_next_token (has_meaning_by include_is_dir_of_token) (include_node_reader >>= optional_comment_end_reader) (reader_chosen_by_next_token is_defaults (defaults_node_reader >>= optional_comment_end_reader) (user_spec_reader >>= optional_comment_end_reader))) IsIncludeOrLaterKindOfLine is_token_of_full_test
reader_from_include_on_follows_rule = choice_reader_follows_chosen_rule (completed_first_rule_completes_choice include_line_begins_with_include include_line_reader_follows_rule.some) (rule_begun_by_test_suits_passed_test (IsRuleThenLineEnd IsIncludeNodeSequence) (has_meaning_by include_is_dir_of_token) include_line_begins_with_include) (rule_to_line_end_suits_failed_test IsDefaultsOrSpecLine (has_meaning_by include_is_dir_of_token)) include_line_reader_follows_rule reader_from_defaults_on_follows_rule

alias_line_begins_with_alias_kind : BeginsWithPassingToken (has_meaning_by alias_kind_of_token) (IsRuleThenLineEnd IsAliasNodeSequence)
alias_line_begins_with_alias_kind ts n rest h = ap (is_next_token (has_meaning_by alias_kind_of_token)) h.2.2.1 ∙ ap is_some h.2.2.2

reader_from_alias_on_follows_rule : ReaderFollowsRule (reader_chosen_by_next_token (has_meaning_by alias_kind_of_token) (alias_node_reader >>= optional_comment_end_reader) (reader_chosen_by_next_token (has_meaning_by include_is_dir_of_token) (include_node_reader >>= optional_comment_end_reader) (reader_chosen_by_next_token is_defaults (defaults_node_reader >>= optional_comment_end_reader) (user_spec_reader >>= optional_comment_end_reader)))) IsAliasOrLaterKindOfLine is_token_of_full_test
reader_from_alias_on_follows_rule = choice_reader_follows_chosen_rule (completed_first_rule_completes_choice alias_line_begins_with_alias_kind alias_line_reader_follows_rule.some) (rule_begun_by_test_suits_passed_test (IsRuleThenLineEnd IsAliasNodeSequence) (has_meaning_by alias_kind_of_token) alias_line_begins_with_alias_kind) (rule_to_line_end_suits_failed_test IsIncludeOrLaterKindOfLine (has_meaning_by alias_kind_of_token)) alias_line_reader_follows_rule reader_from_include_on_follows_rule

comment_line_begins_with_comment : BeginsWithPassingToken is_comment_token IsCommentLine
comment_line_begins_with_comment ts n rest h = ap (is_next_token is_comment_token) h.2.0 ∙ h.2.1

reader_from_comment_on_follows_rule : ReaderFollowsRule (reader_chosen_by_next_token is_comment_token (passing_token_reader is_comment_token >>= (λ _. end_of_line_reader node.Comment)) (reader_chosen_by_next_token (has_meaning_by alias_kind_of_token) (alias_node_reader >>= optional_comment_end_reader) (reader_chosen_by_next_token (has_meaning_by include_is_dir_of_token) (include_node_reader >>= optional_comment_end_reader) (reader_chosen_by_next_token is_defaults (defaults_node_reader >>= optional_comment_end_reader) (user_spec_reader >>= optional_comment_end_reader))))) IsCommentOrLaterKindOfLine is_token_of_full_test
reader_from_comment_on_follows_rule = choice_reader_follows_chosen_rule (completed_first_rule_completes_choice comment_line_begins_with_comment comment_line_reader_follows_rule.some) (rule_begun_by_test_suits_passed_test IsCommentLine is_comment_token comment_line_begins_with_comment) (rule_to_line_end_suits_failed_test IsAliasOrLaterKindOfLine is_comment_token) comment_line_reader_follows_rule reader_from_alias_on_follows_rule

passing_next_token_is_any_token : (test : TokenWithBytes → Bool) (ts : List TokenWithBytes) → is_next_token test ts ≡ true → is_next_token is_any_token ts ≡ true
passing_next_token_is_any_token test [] e = e
passing_next_token_is_any_token test (t ∷ ts) e = refl

spec_line_begins_with_any_token : BeginsWithPassingToken is_any_token (IsRuleThenLineEnd IsUserSpecSequence)
spec_line_begins_with_any_token ts n rest h = members_begin_with_sign_or_member_token is_any_token true (λ t e. refl) (λ t e. refl) User ts h.2.0 h.2.1 h.2.2

line_other_than_blank_begins_with_token : BeginsWithPassingToken is_any_token IsCommentOrLaterKindOfLine
line_other_than_blank_begins_with_token ts n rest (inl h) = passing_next_token_is_any_token is_comment_token ts h.0
line_other_than_blank_begins_with_token ts n rest (inr (c, inl h)) = passing_next_token_is_any_token (has_meaning_by alias_kind_of_token) ts h.0
line_other_than_blank_begins_with_token ts n rest (inr (c, inr (d, inl h))) = passing_next_token_is_any_token (has_meaning_by include_is_dir_of_token) ts h.0
line_other_than_blank_begins_with_token ts n rest (inr (c, inr (d, inr (e, inl h)))) = passing_next_token_is_any_token is_defaults ts h.0
line_other_than_blank_begins_with_token ts n rest (inr (c, inr (d, inr (e, inr h)))) = spec_line_begins_with_any_token ts n rest h.1

whole_line_reader_follows_choice : ReaderFollowsRule whole_line_reader IsLineOfAnyKind is_token_of_full_test
unfolding whole_line_reader
whole_line_reader_follows_choice = choice_reader_follows_chosen_rule (completed_first_rule_completes_choice line_other_than_blank_begins_with_token reader_from_comment_on_follows_rule.some) (rule_begun_by_test_suits_passed_test IsCommentOrLaterKindOfLine is_any_token line_other_than_blank_begins_with_token) (rule_to_line_end_suits_failed_test (IsEndOfTokensAs node.Blank) is_any_token) reader_from_comment_on_follows_rule (end_of_line_reader_follows_rule node.Blank)

-- ---- what the grammar says of it

-- All is taken, and the tokens say this.
abbrev pub IsEntireLineOfNode : GrammarRule Node
IsEntireLineOfNode ts n rest = (rest ≡ []) × Reads ts n

not_some_is_none : {X : Type 0} (o : Option X) → is_some o ≡ false → o ≡ None
not_some_is_none None e = refl
not_some_is_none (Some x) e = absurd cc

line_without_keyword_begins_spec : (ts : List TokenWithBytes) → is_next_token (has_meaning_by alias_kind_of_token) ts ≡ false → is_next_token (has_meaning_by include_is_dir_of_token) ts ≡ false → is_next_token is_defaults ts ≡ false → BeginsSpec ts
line_without_keyword_begins_spec [] e f g = tt
line_without_keyword_begins_spec (t ∷ ts) e f g = record { no_kind = not_some_is_none (alias_kind_of_token t) e; no_include = not_some_is_none (include_is_dir_of_token t) f; no_defaults = g }

no_scope_sign_implies_no_scope : (stop : _) (ts : List TokenWithBytes) → is_next_token (has_meaning_by (scope_kind_of_sign_token_after stop)) ts ≡ false → PerhapsScope stop ts None ts
no_scope_sign_implies_no_scope stop [] e = (refl, tt)
no_scope_sign_implies_no_scope stop (t ∷ ts) e = (refl, not_some_is_none (scope_kind_of_sign_token_after stop t) e)

alias_sequence_reads_as_node : (ts : List TokenWithBytes) (n : Node) (rest : List TokenWithBytes) → IsAliasNodeSequence ts n rest → ReadsNodeWithRest ts n rest
alias_sequence_reads_as_node ts n rest (k, behind, (t, e, has_meaning_by), (ds, end, h, (f, same))) =
    subst (λ (x : Node). ReadsNodeWithRest ts x rest) (sym same) (record { word = t; behind = behind; split = e; is_kind = has_meaning_by; defs = subst (Separated 58 (IsDef k) behind ds) f h })

include_sequence_reads_as_node : (ts : List TokenWithBytes) (n : Node) (rest : List TokenWithBytes) → IsIncludeNodeSequence ts n rest → ReadsNodeWithRest ts n rest
include_sequence_reads_as_node ts n rest (dir, behind, (t, e, has_meaning_by), (path, end, (u, f, named), (g, same))) =
    subst (λ (x : Node). ReadsNodeWithRest ts x rest) (sym same) (record { word = t; name = u; split = e ∙ ap (λ (l : List TokenWithBytes). t ∷ l) (f ∙ ap (λ (l : List TokenWithBytes). u ∷ l) g); is_include = has_meaning_by; is_path = named })

defaults_sequence_reads_as_node : (ts : List TokenWithBytes) (n : Node) (rest : List TokenWithBytes) → IsDefaultsNodeSequence ts n rest → ReadsNodeWithRest ts n rest
defaults_sequence_reads_as_node ts n rest (w, behind, (e, is), inl (c, (s, mid, hs, (ps, end, hp, (f, same))))) =
    subst (λ (x : Node). ReadsNodeWithRest ts x rest) (sym same) (record { word = w; behind = behind; behind_scope = mid; split = e; is_word = is; in_scope = hs; params = subst (Separated 44 IsParam mid ps) f hp })
defaults_sequence_reads_as_node ts n rest (w, behind, (e, is), inr (c, (ps, end, hp, (f, same)))) =
    subst (λ (x : Node). ReadsNodeWithRest ts x rest) (sym same) (record { word = w; behind = behind; behind_scope = behind; split = e; is_word = is; in_scope = no_scope_sign_implies_no_scope w.stop behind c; params = subst (Separated 44 IsParam behind ps) f hp })

spec_sequence_reads_as_node : (ts : List TokenWithBytes) (n : Node) (rest : List TokenWithBytes) → BeginsSpec ts → IsUserSpecSequence ts n rest → ReadsNodeWithRest ts n rest
spec_sequence_reads_as_node ts n rest begins (us, behind, hu, (gs, end, hg, (f, same))) =
    subst (λ (x : Node). ReadsNodeWithRest ts x rest) (sym same) (record { behind = behind; begins = begins; users = hu; groups = subst (Separated 58 IsHostGroup behind gs) f hg })

node_and_line_end_are_entire_line : (ts : List TokenWithBytes) (n : Node) (rest : List TokenWithBytes) (m : Node) (mid : List TokenWithBytes) → ReadsNodeWithRest ts m mid → IsLineEndOfNode m mid n rest → IsEntireLineOfNode ts n rest
node_and_line_end_are_entire_line ts n rest m mid h (is, e, same) = (e, (mid, subst (λ (x : Node). ReadsNodeWithRest ts x mid) (sym same) h, is))

line_of_any_kind_is_entire_line : (ts : List TokenWithBytes) (n : Node) (rest : List TokenWithBytes) → IsLineOfAnyKind ts n rest → IsEntireLineOfNode ts n rest
line_of_any_kind_is_entire_line ts n rest (inr (c, (e, f, same))) = (f, subst (λ (x : Node). Reads ts x) (sym same) ([], (e, refl), tt))
line_of_any_kind_is_entire_line ts n rest (inl (c, inl (d, (t, mid, (e, is), (f, g, same))))) = (g, subst (λ (x : Node). Reads ts x) (sym same) ([], (t, e ∙ ap (λ (l : List TokenWithBytes). t ∷ l) f, is, refl), tt))
line_of_any_kind_is_entire_line ts n rest (inl (c, inr (d, inl (k, (m, mid, h, end))))) = node_and_line_end_are_entire_line ts n rest m mid (alias_sequence_reads_as_node ts m mid h) end
line_of_any_kind_is_entire_line ts n rest (inl (c, inr (d, inr (k, inl (i, (m, mid, h, end)))))) = node_and_line_end_are_entire_line ts n rest m mid (include_sequence_reads_as_node ts m mid h) end
line_of_any_kind_is_entire_line ts n rest (inl (c, inr (d, inr (k, inr (i, inl (f, (m, mid, h, end))))))) = node_and_line_end_are_entire_line ts n rest m mid (defaults_sequence_reads_as_node ts m mid h) end
line_of_any_kind_is_entire_line ts n rest (inl (c, inr (d, inr (k, inr (i, inr (f, (m, mid, h, end))))))) = node_and_line_end_are_entire_line ts n rest m mid (spec_sequence_reads_as_node ts m mid (line_without_keyword_begins_spec ts k i f) h) end

-- ---- and back

word_is_no_comment : (t : TokenWithBytes) → t.kind ≡ kind.Word → is_comment_token t ≡ false
word_is_no_comment t e = ap is_comment e

beginning_without_scope_has_no_scope_sign : (stop : _) (ts : List TokenWithBytes) → BeginsNoScope stop ts → is_next_token (has_meaning_by (scope_kind_of_sign_token_after stop)) ts ≡ false
beginning_without_scope_has_no_scope_sign stop [] h = refl
beginning_without_scope_has_no_scope_sign stop (t ∷ ts) h = ap is_some h

optional_scope_is_chosen_by_next_token : (w : TokenWithBytes) (behind mid : List TokenWithBytes) (scope : Option Scope) (ps : List Param) (rest : List TokenWithBytes) → PerhapsScope w.stop behind scope mid → Separated 44 IsParam mid ps rest
    → IsRuleChosenByNextToken (has_meaning_by (scope_kind_of_sign_token_after w.stop)) (IsScopedDefaultsNode w.stop) (IsDefaultsNodeOfParameters None) behind (node.Defaults scope ps) rest
optional_scope_is_chosen_by_next_token w behind mid None ps rest h params = inr (beginning_without_scope_has_no_scope_sign w.stop behind h.1, (ps, rest, subst (λ (l : List TokenWithBytes). Separated 44 IsParam l ps rest) (sym h.0) params, (refl, refl)))
optional_scope_is_chosen_by_next_token w behind mid (Some s) ps rest h params = inl (ap (is_next_token (has_meaning_by (scope_kind_of_sign_token_after w.stop))) h.split ∙ ap is_some h.is_sign, (s, mid, h, (ps, rest, params, (refl, refl))))

spec_begins_with_no_keyword : (ts : List TokenWithBytes) (us : List Member) (mid : List TokenWithBytes) → BeginsSpec ts → AreMembers User ts us mid
    → (is_next_token is_comment_token ts ≡ false) × (is_next_token (has_meaning_by alias_kind_of_token) ts ≡ false) × (is_next_token (has_meaning_by include_is_dir_of_token) ts ≡ false) × (is_next_token is_defaults ts ≡ false)
spec_begins_with_no_keyword [] us mid b h = (refl, refl, refl, refl)
spec_begins_with_no_keyword (t ∷ ts) us mid b h =
    (members_begin_with_sign_or_member_token is_comment_token false (λ u e. mark_is_no_comment 33 u e) (λ u e. kind_of_member_token_is_no_comment u.kind e) User (t ∷ ts) us mid h, ap is_some b.no_kind, ap is_some b.no_include, b.no_defaults)

node_and_end_are_line_of_any_kind : (ts : List TokenWithBytes) (n : Node) (mid rest : List TokenWithBytes) → ReadsNodeWithRest ts n mid → IsEnd mid → rest ≡ [] → IsLineOfAnyKind ts n rest
node_and_end_are_line_of_any_kind ts node.Blank mid rest (e, f) is g = inr (ap (is_next_token is_any_token) e, (e, g, refl))
node_and_end_are_line_of_any_kind ts node.Comment mid rest (t, e, c, f) is g = inl (ap (is_next_token is_any_token) e, inl (ap (is_next_token is_comment_token) e ∙ c, (t, [], (e, c), (refl, g, refl))))
node_and_end_are_line_of_any_kind ts (node.Alias k ds) mid rest h is g =
    inl (
      ap (is_next_token is_any_token) h.split,
      inr (
        ap (is_next_token is_comment_token) h.split ∙ word_is_no_comment h.word (alias_kind_token_has_word_kind h.word k h.is_kind),
        inl (
          ap (is_next_token (has_meaning_by alias_kind_of_token)) h.split ∙ ap is_some h.is_kind,
          (node.Alias k ds, mid, (k, h.behind, (h.word, h.split, h.is_kind), (ds, mid, h.defs, (refl, refl))), (is, g, refl)),
        ),
      ),
    )
node_and_end_are_line_of_any_kind ts (node.Include dir path) mid rest h is g =
    inl (
      ap (is_next_token is_any_token) h.split,
      inr (
        ap (is_next_token is_comment_token) h.split ∙ word_is_no_comment h.word (include_token_has_word_kind h.word dir h.is_include),
        inr (
          ap (is_next_token (has_meaning_by alias_kind_of_token)) h.split ∙ ap is_some (include_word_is_no_alias_kind h.word dir h.is_include),
          inl (
            ap (is_next_token (has_meaning_by include_is_dir_of_token)) h.split ∙ ap is_some h.is_include,
            (node.Include dir path, mid, (dir, h.name ∷ mid, (h.word, h.split, h.is_include), (path, mid, (h.name, refl, h.is_path), (refl, refl))), (is, g, refl)),
          ),
        ),
      ),
    )
node_and_end_are_line_of_any_kind ts (node.Defaults scope ps) mid rest h is g =
    inl (
      ap (is_next_token is_any_token) h.split,
      inr (
        ap (is_next_token is_comment_token) h.split ∙ word_is_no_comment h.word (defaults_token_has_word_kind h.word h.is_word),
        inr (
          ap (is_next_token (has_meaning_by alias_kind_of_token)) h.split ∙ ap is_some (defaults_token_is_no_alias_kind h.word h.is_word),
          inr (
            ap (is_next_token (has_meaning_by include_is_dir_of_token)) h.split ∙ ap is_some (defaults_token_is_no_include h.word h.is_word),
            inl (ap (is_next_token is_defaults) h.split ∙ h.is_word, (node.Defaults scope ps, mid, (h.word, h.behind, (h.split, h.is_word), optional_scope_is_chosen_by_next_token h.word h.behind h.behind_scope scope ps mid h.in_scope h.params), (is, g, refl))),
          ),
        ),
      ),
    )
node_and_end_are_line_of_any_kind ts (node.Spec us gs) mid rest h is g =
    let w = spec_begins_with_no_keyword ts us h.behind h.begins h.users in
    inl (
      members_begin_with_sign_or_member_token is_any_token true (λ t e. refl) (λ t e. refl) User ts us h.behind h.users,
      inr (
        w.0,
        inr (
          w.1,
          inr (
            w.2,
            inr (
              w.3,
              (node.Spec us gs, mid, (us, h.behind, h.users, (gs, mid, h.groups, (refl, refl))), (is, g, refl)),
            ),
          ),
        ),
      ),
    )

entire_line_is_line_of_any_kind : (ts : List TokenWithBytes) (n : Node) (rest : List TokenWithBytes) → IsEntireLineOfNode ts n rest → IsLineOfAnyKind ts n rest
entire_line_is_line_of_any_kind ts n rest (e, (mid, h, is)) = node_and_end_are_line_of_any_kind ts n mid rest h is e

-- The descent reads what the grammar has.
pub whole_line_reader_follows_rule : ReaderFollowsRule whole_line_reader IsEntireLineOfNode is_token_of_full_test
whole_line_reader_follows_rule = reader_follows_rule_saying_the_same line_of_any_kind_is_entire_line entire_line_is_line_of_any_kind whole_line_reader_follows_choice
