-- What the loops of the code keep.
use Rattle.std.proofs.Common.{◌≡◌, Bool, true, false, not, List, [], ◌∷◌, drop, refl, sym, ap, ◌∙◌, ℕ}
use Rattle.sudoers_grammar.specs.Piece.{TokenWithBytes, is_mark_of_byte}
use Rattle.sudoers_line_reader.specs.Reader.{Read, is_next_token, passing_token_reader, repetition_reader, reader_after_mark, ReaderConsumesTokens}
use Rattle.sudoers_grammar.specs.declared.node.Kind.{Kind}
use Rattle.sudoers_grammar.specs.declared.node.Args.{Args}
use Rattle.sudoers_grammar.specs.Grammar.{IsMember, IsDigest, IsCommand, IsScopeCommand, IsCmdSpec, IsHostGroup, IsDef, IsParam}
use Rattle.sudoers_line_reader.specs.Descent.{command_reader, digestless_scope_command_reader, cmd_spec_reader, host_group_reader, alias_definition_reader, sign_toggled_by_mark, negation_reader, member_reader, digest_reader, is_argument_token, args_and_stop_with_one_more, parameter_reader}
use Rattle.sudoers_line_reader.proofs.Keeps.{is_token_of_empty_test, passing_token_is_read}
use Rattle.sudoers_line_reader.proofs.Repeats.{passing_token_reader_consumes_tokens, reader_after_mark_consumes_tokens, next_read, next_none}
use Rattle.sudoers_line_reader.proofs.MemberLaws.{member_reader_follows_rule}
use Rattle.sudoers_line_reader.proofs.DigestLaws.{digest_reader_follows_rule}
use Rattle.sudoers_line_reader.proofs.CommandLaws.{may_continue_command_list, command_reader_follows_rule, scope_command_reader_follows_rule}
use Rattle.sudoers_line_reader.proofs.SpecLaws.{cmd_spec_reader_follows_rule, host_group_reader_follows_rule}
use Rattle.sudoers_line_reader.proofs.AliasLaws.{alias_definition_reader_follows_rule}
use Rattle.sudoers_line_reader.proofs.DefaultsLaws.{may_continue_parameter, parameter_reader_follows_rule}

-- ---- signs

pub negation_reader_is_repetition : (ts : List TokenWithBytes) → negation_reader ts ≡ repetition_reader sign_toggled_by_mark (is_mark_of_byte 33) (passing_token_reader (is_mark_of_byte 33)) false ts
unfolding negation_reader
negation_reader_is_repetition ts = refl

pub negation_sign_toggles_and_goes_on : (b : Bool) (ts left : List TokenWithBytes) → is_next_token (is_mark_of_byte 33) ts ≡ true → left ≡ drop 1 ts → repetition_reader sign_toggled_by_mark (is_mark_of_byte 33) (passing_token_reader (is_mark_of_byte 33)) b ts ≡ repetition_reader sign_toggled_by_mark (is_mark_of_byte 33) (passing_token_reader (is_mark_of_byte 33)) (not b) left
negation_sign_toggles_and_goes_on b [] left e f = absurd cc
negation_sign_toggles_and_goes_on b (t ∷ ts) left e f = next_read sign_toggled_by_mark (is_mark_of_byte 33) (passing_token_reader (is_mark_of_byte 33)) (passing_token_reader_consumes_tokens (is_mark_of_byte 33)) b t (t ∷ ts) ts e (passing_token_is_read (is_mark_of_byte 33) t ts e) ∙ ap (repetition_reader sign_toggled_by_mark (is_mark_of_byte 33) (passing_token_reader (is_mark_of_byte 33)) (not b)) (sym f)

pub signs_end_before_other_token : (b : Bool) (ts : List TokenWithBytes) → is_next_token (is_mark_of_byte 33) ts ≡ false → repetition_reader sign_toggled_by_mark (is_mark_of_byte 33) (passing_token_reader (is_mark_of_byte 33)) b ts ≡ Read b ts
signs_end_before_other_token b ts e = next_none sign_toggled_by_mark (is_mark_of_byte 33) (passing_token_reader (is_mark_of_byte 33)) (passing_token_reader_consumes_tokens (is_mark_of_byte 33)) b ts e

-- ---- lists of members

pub next_member_reader_consumes_tokens : (k : Kind) → ReaderConsumesTokens (reader_after_mark 44 (member_reader k))
next_member_reader_consumes_tokens k = reader_after_mark_consumes_tokens 44 (member_reader k) (IsMember k) is_token_of_empty_test (member_reader_follows_rule k)

-- ---- digests

pub next_digest_reader_consumes_tokens : ReaderConsumesTokens (reader_after_mark 44 digest_reader)
next_digest_reader_consumes_tokens = reader_after_mark_consumes_tokens 44 digest_reader IsDigest is_token_of_empty_test digest_reader_follows_rule

-- ---- arguments

pub argument_token_is_added_and_goes_on : (acc : Args × ℕ) (ts left : List TokenWithBytes) (t : TokenWithBytes) → is_next_token is_argument_token ts ≡ true → passing_token_reader is_argument_token ts ≡ Read t left → repetition_reader args_and_stop_with_one_more is_argument_token (passing_token_reader is_argument_token) acc ts ≡ repetition_reader args_and_stop_with_one_more is_argument_token (passing_token_reader is_argument_token) (args_and_stop_with_one_more acc t) left
argument_token_is_added_and_goes_on acc ts left t c e = next_read args_and_stop_with_one_more is_argument_token (passing_token_reader is_argument_token) (passing_token_reader_consumes_tokens is_argument_token) acc t ts left c e

pub arguments_end_before_other_token : (acc : Args × ℕ) (ts : List TokenWithBytes) → is_next_token is_argument_token ts ≡ false → repetition_reader args_and_stop_with_one_more is_argument_token (passing_token_reader is_argument_token) acc ts ≡ Read acc ts
arguments_end_before_other_token acc ts c = next_none args_and_stop_with_one_more is_argument_token (passing_token_reader is_argument_token) (passing_token_reader_consumes_tokens is_argument_token) acc ts c

pub argument_reader_consumes_tokens : ReaderConsumesTokens (passing_token_reader is_argument_token)
argument_reader_consumes_tokens = passing_token_reader_consumes_tokens is_argument_token

-- ---- commands
pub next_command_reader_consumes_tokens : ReaderConsumesTokens (reader_after_mark 44 command_reader)
next_command_reader_consumes_tokens = reader_after_mark_consumes_tokens 44 command_reader IsCommand is_argument_token command_reader_follows_rule

pub next_scope_command_reader_consumes_tokens : ReaderConsumesTokens (reader_after_mark 44 digestless_scope_command_reader)
next_scope_command_reader_consumes_tokens = reader_after_mark_consumes_tokens 44 digestless_scope_command_reader IsScopeCommand is_argument_token scope_command_reader_follows_rule

pub next_cmd_spec_reader_consumes_tokens : ReaderConsumesTokens (reader_after_mark 44 cmd_spec_reader)
next_cmd_spec_reader_consumes_tokens = reader_after_mark_consumes_tokens 44 cmd_spec_reader IsCmdSpec is_argument_token cmd_spec_reader_follows_rule

pub next_host_group_reader_consumes_tokens : ReaderConsumesTokens (reader_after_mark 58 host_group_reader)
next_host_group_reader_consumes_tokens = reader_after_mark_consumes_tokens 58 host_group_reader IsHostGroup may_continue_command_list host_group_reader_follows_rule

pub next_definition_reader_consumes_tokens : (k : Kind) → ReaderConsumesTokens (reader_after_mark 58 (alias_definition_reader k))
next_definition_reader_consumes_tokens k = reader_after_mark_consumes_tokens 58 (alias_definition_reader k) (IsDef k) may_continue_command_list (alias_definition_reader_follows_rule k)

-- ---- parameters

pub next_parameter_reader_consumes_tokens : ReaderConsumesTokens (reader_after_mark 44 parameter_reader)
next_parameter_reader_consumes_tokens = reader_after_mark_consumes_tokens 44 parameter_reader IsParam may_continue_parameter parameter_reader_follows_rule
