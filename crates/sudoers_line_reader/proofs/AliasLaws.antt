-- Definitions of aliases, and includes.
use Rattle.std.proofs.Common.{◌≡◌, Bool, true, false, codes, ◌||◌, List, ◌∷◌, refl, sym, ap, ◌∙◌, subst}
use Rattle.sudoers_text.specs.declared.token.TokenKind.TheVariants as kind
use Rattle.sudoers_text.specs.Value.{value_of_word}
use Rattle.sudoers_grammar.specs.declared.node.Kind.{Kind}
use Rattle.sudoers_grammar.specs.declared.node.Kind.TheVariants.{User, Runas, Host, Cmnd}
use Rattle.sudoers_grammar.specs.Node.{Member, Def, Node}
use Rattle.sudoers_grammar.specs.Node as node
use Rattle.sudoers_grammar.specs.Piece.{TokenWithBytes, is_mark_of_byte, is_alias_name, alias_kind_of_token, include_is_dir_of_token}
use Rattle.sudoers_grammar.specs.Atom.{include_path_of_token}
use Rattle.sudoers_grammar.specs.Grammar.{Separated, AreMembers, IsAliasMemberList, stop_of_last_member, IsDef}
use Rattle.sudoers_line_reader.specs.Reader.{separated_list_reader}
use Rattle.sudoers_line_reader.specs.Descent.{member_list_reader, alias_member_list_reader, definition_of_name_and_list, alias_definition_reader, alias_node_reader, include_node_reader}
use Rattle.sudoers_line_reader.proofs.Keeps.{GrammarRule, ReaderFollowsRule, is_token_of_empty_test, IsEmptyReadingOf, IsOneTokenWithMeaning, HasSampleToken, one_token_reader_follows_rule, IsOnePassingToken, passing_token_reader_follows_rule, IsSequenceOfRules}
use Rattle.sudoers_line_reader.proofs.Repeats.{mark_reader_follows_rule, separated_lawful}
use Rattle.sudoers_line_reader.proofs.Parts.{sequence_after_ended_reader_follows_rule, reader_follows_rule_saying_the_same, reader_follows_rule_with_wider_test, mapped_reader_follows_rule, tokens_failing_either_test_fail_both}
use Rattle.sudoers_line_reader.proofs.MemberLaws.{member_list_reader_follows_rule, token_of_word_all}
use Rattle.sudoers_line_reader.proofs.CommandLaws.{may_continue_command_list, command_list_reader_follows_rule}
use Rattle.sudoers_line_reader.proofs.SpecLaws.{colon_continues_no_command_list}

-- ---- List, of that kind

pub member_list_reader_follows_wider_rule : (k : Kind) → ReaderFollowsRule (member_list_reader k) (AreMembers k) may_continue_command_list
member_list_reader_follows_wider_rule k = reader_follows_rule_with_wider_test may_continue_command_list (λ zs st. (tokens_failing_either_test_fail_both (is_mark_of_byte 44) _ zs st).0) (member_list_reader_follows_rule k)

alias_list_reader_follows_rule : (k : Kind) → ReaderFollowsRule (alias_member_list_reader k) (IsAliasMemberList k) may_continue_command_list
unfolding alias_member_list_reader
alias_list_reader_follows_rule User = member_list_reader_follows_wider_rule User
alias_list_reader_follows_rule Runas = member_list_reader_follows_wider_rule Runas
alias_list_reader_follows_rule Host = member_list_reader_follows_wider_rule Host
alias_list_reader_follows_rule Cmnd = command_list_reader_follows_rule

-- ---- NAME "=" List

word_all_is_alias_name : is_alias_name token_of_word_all ≡ true
unfolding is_alias_name
word_all_is_alias_name = refl

abbrev IsDefinitionAfterName : Kind → TokenWithBytes → GrammarRule Def
IsDefinitionAfterName k n = IsSequenceOfRules (IsOnePassingToken (is_mark_of_byte 61)) (λ _. IsSequenceOfRules (IsAliasMemberList k) (λ ms. IsEmptyReadingOf (definition_of_name_and_list n ms)))

definition_sequence_is_definition : (k : Kind) (ts : List TokenWithBytes) (d : Def) (rest : List TokenWithBytes) → IsSequenceOfRules (IsOnePassingToken is_alias_name) (IsDefinitionAfterName k) ts d rest → IsDef k ts d rest
definition_sequence_is_definition k ts d rest (n, at, (e, is), (q, behind, (f, iq), (ms, end, hs, (g, same)))) = record {
  name = n;
  equals = q;
  behind = behind;
  split = e ∙ ap (λ (l : List TokenWithBytes). n ∷ l) f;
  is_name = is;
  is_equals = iq;
  members = subst (λ (l : List Member). IsAliasMemberList k behind l rest) (sym (ap (λ (x : Def). x.members) same)) (subst (IsAliasMemberList k behind ms) g hs);
  same_name = ap (λ (x : Def). x.name) same;
  start = ap (λ (x : Def). x.start) same;
  stop = ap (λ (x : Def). x.stop) same ∙ ap stop_of_last_member (sym (ap (λ (x : Def). x.members) same));
}

definition_is_definition_sequence : (k : Kind) (ts : List TokenWithBytes) (d : Def) (rest : List TokenWithBytes) → IsDef k ts d rest → IsSequenceOfRules (IsOnePassingToken is_alias_name) (IsDefinitionAfterName k) ts d rest
definition_is_definition_sequence k ts d rest h =
    (h.name, h.equals ∷ h.behind, (h.split, h.is_name), (h.equals, h.behind, (refl, h.is_equals), (d.members, rest, h.members, (refl, λ i. record { name = h.same_name i; start = h.start i; stop = h.stop i; members = d.members }))))

pub alias_definition_reader_follows_rule : (k : Kind) → ReaderFollowsRule (alias_definition_reader k) (IsDef k) may_continue_command_list
unfolding alias_definition_reader
alias_definition_reader_follows_rule k = reader_follows_rule_saying_the_same (definition_sequence_is_definition k) (definition_is_definition_sequence k) (sequence_after_ended_reader_follows_rule (passing_token_reader_follows_rule is_alias_name token_of_word_all word_all_is_alias_name) (λ n. sequence_after_ended_reader_follows_rule (mark_reader_follows_rule 61) (λ _. mapped_reader_follows_rule (definition_of_name_and_list n) (alias_list_reader_follows_rule k))))

-- ---- Kind Def (":" Def)*

abbrev pub may_continue_definition_list : TokenWithBytes → Bool
may_continue_definition_list t = is_mark_of_byte 58 t || may_continue_command_list t

alias_kind_has_sample_token : HasSampleToken alias_kind_of_token
unfolding alias_kind_of_token
alias_kind_has_sample_token = record { piece = record { kind = kind.Word; text = codes "User_Alias"; start = 0; stop = 0; last = false }; what = User; is = refl }

abbrev pub IsAliasNodeSequence : GrammarRule Node
IsAliasNodeSequence = IsSequenceOfRules (IsOneTokenWithMeaning alias_kind_of_token) (λ k. IsSequenceOfRules (Separated 58 (IsDef k)) (λ ds. IsEmptyReadingOf (node.Alias k ds)))

definition_list_reader_follows_rule : (k : Kind) → ReaderFollowsRule (separated_list_reader 58 (alias_definition_reader k)) (Separated 58 (IsDef k)) may_continue_definition_list
definition_list_reader_follows_rule k = separated_lawful 58 (alias_definition_reader k) (IsDef k) may_continue_command_list may_continue_definition_list (λ zs st. (tokens_failing_either_test_fail_both (is_mark_of_byte 58) may_continue_command_list zs st).0) (λ zs st. (tokens_failing_either_test_fail_both (is_mark_of_byte 58) may_continue_command_list zs st).1) colon_continues_no_command_list (alias_definition_reader_follows_rule k)

pub alias_node_reader_follows_rule : ReaderFollowsRule alias_node_reader IsAliasNodeSequence may_continue_definition_list
unfolding alias_node_reader
alias_node_reader_follows_rule = sequence_after_ended_reader_follows_rule (one_token_reader_follows_rule alias_kind_of_token alias_kind_has_sample_token) (λ k. mapped_reader_follows_rule (node.Alias k) (definition_list_reader_follows_rule k))

-- ---- includes

include_word_has_sample_token : HasSampleToken include_is_dir_of_token
unfolding include_is_dir_of_token
include_word_has_sample_token = record { piece = record { kind = kind.Word; text = codes "@include"; start = 0; stop = 0; last = false }; what = false; is = refl }

include_path_has_sample_token : HasSampleToken include_path_of_token
unfolding include_path_of_token value_of_word
include_path_has_sample_token = record { piece = record { kind = kind.Word; text = codes "/"; start = 0; stop = 0; last = false }; what = codes "/"; is = refl }

abbrev pub IsIncludeNodeSequence : GrammarRule Node
IsIncludeNodeSequence = IsSequenceOfRules (IsOneTokenWithMeaning include_is_dir_of_token) (λ dir. IsSequenceOfRules (IsOneTokenWithMeaning include_path_of_token) (λ path. IsEmptyReadingOf (node.Include dir path)))

pub include_node_reader_follows_rule : ReaderFollowsRule include_node_reader IsIncludeNodeSequence is_token_of_empty_test
unfolding include_node_reader
include_node_reader_follows_rule = sequence_after_ended_reader_follows_rule (one_token_reader_follows_rule include_is_dir_of_token include_word_has_sample_token) (λ dir. mapped_reader_follows_rule (node.Include dir) (one_token_reader_follows_rule include_path_of_token include_path_has_sample_token))
