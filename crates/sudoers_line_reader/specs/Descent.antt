-- The descent: the reader of a line's tokens, rule by rule.
use Rattle.std.specs.Prelude.{ℕ, Bool, true, false, not, ◌&&◌, ◌||◌, List, [], ◌∷◌, ◌++◌, Option, Some, None, option_map, option_and_then, if◌then◌else◌}
use Rattle.sudoers_text.specs.Value.{value_of_word}
use Rattle.sudoers_grammar.specs.declared.node.Kind.{Kind}
use Rattle.sudoers_grammar.specs.declared.node.Kind.TheVariants.{User, Runas, Host, Cmnd}
use Rattle.sudoers_grammar.specs.declared.node.OptionName.{OptionName}
use Rattle.sudoers_grammar.specs.declared.node.Operator.{Operator}
use Rattle.sudoers_grammar.specs.declared.node.Tag.{Tag}
use Rattle.sudoers_grammar.specs.Node.{Digest, Member, Def, RunasSpec, CmdSpec, HostGroup, Scope, Param, Node}
use Rattle.sudoers_grammar.specs.declared.node.DigestKind.{DigestKind}
use Rattle.sudoers_grammar.specs.declared.node.Args.{Args}
use Rattle.sudoers_grammar.specs.declared.node.Args.TheVariants.{Any}
use Rattle.sudoers_grammar.specs.declared.node.Atom.{Atom}
use Rattle.sudoers_grammar.specs.declared.command_arguments.ArglessCommand.{ArglessCommand}
use Rattle.sudoers_grammar.specs.Node as node
use Rattle.sudoers_grammar.specs.Piece.{is_some, TokenWithBytes, is_arg, is_digest, is_parameter_name_kind, is_value, is_comment, is_mark_of_byte, is_alias_name, alias_kind_of_token, include_is_dir_of_token, option_of_token, tag_and_sign_of_token, digest_kind_of_token, operator_of_token, scope_kind_of_sign_token_after, has_first_byte, has_last_byte}
use Rattle.sudoers_grammar.specs.Atom.{atom_of_token, command_atom_without_args, option_value_of_token, include_path_of_token}
use Rattle.sudoers_grammar.specs.declared.expected_tokens.ExpectedTokens.{ExpectedTokens}
use Rattle.sudoers_grammar.specs.declared.fault.Why.{Why}
use Rattle.sudoers_grammar.specs.declared.fault.Why.TheVariants.{EndOfLine}
use Rattle.sudoers_grammar.specs.Grammar.{stop_of_last_member, is_defaults}
use Rattle.sudoers_grammar.specs.Fault.{sample_name_word, sample_time_stamp, sample_path_token, syntax_fault_cause}
use Rattle.sudoers_grammar.specs.Arguments.{args_with_one_more, has_digests_only_if_allowed, argless_command_of_atom, atom_of_command_and_args}
use Rattle.sudoers_line_reader.specs.Reader.{ReadOutcome, Read, Halt, TokenReader, ◌>>=◌, pure, one_token_reader, passing_token_reader, reader_chosen_by_next_token, repetition_reader, snoc, reader_after_mark, separated_list_reader, optional_reader, reader_with_start, end_of_line_reader}

-- ---- tokens

abbrev pub is_argument_token : TokenWithBytes → Bool
is_argument_token t = is_arg t.kind

abbrev pub is_argument_token_but_no_regex : TokenWithBytes → Bool
is_argument_token_but_no_regex t = is_arg t.kind && not (has_first_byte 94 t.text)

abbrev pub is_digest_token : TokenWithBytes → Bool
is_digest_token t = is_digest t.kind

abbrev pub is_parameter_name_token : TokenWithBytes → Bool
is_parameter_name_token t = is_parameter_name_kind t.kind

abbrev pub is_parameter_value_token : TokenWithBytes → Bool
is_parameter_value_token t = is_value t.kind

abbrev pub is_comment_token : TokenWithBytes → Bool
is_comment_token t = is_comment t.kind

abbrev pub has_meaning_by : {X : Type 0} → (TokenWithBytes → Option X) → TokenWithBytes → Bool
has_meaning_by f t = is_some (f t)

-- ---- members

abbrev pub sign_toggled_by_mark : Bool → TokenWithBytes → Bool
sign_toggled_by_mark b t = not b

-- "!"*, and whether their number is odd
unfoldable pub negation_reader : TokenReader Bool
negation_reader = repetition_reader sign_toggled_by_mark (is_mark_of_byte 33) (passing_token_reader (is_mark_of_byte 33)) false

abbrev pub member_of_token_and_atom : Bool → List Digest → TokenWithBytes → Atom → Member
member_of_token_and_atom b ds t a = record { start = 0; stop = t.stop; negated = b; digests = ds; atom = a }

abbrev pub member_with_start : ℕ → Member → Member
member_with_start at m = record { start = at; stop = m.stop; negated = m.negated; digests = m.digests; atom = m.atom }

abbrev pub member_of_single_token : Kind → Bool → TokenWithBytes → Option Member
member_of_single_token k b t = option_map (member_of_token_and_atom b [] t) (atom_of_token k t)

unfoldable pub member_reader : Kind → TokenReader Member
member_reader k = reader_with_start (negation_reader >>= (λ b. one_token_reader (member_of_single_token k b))) member_with_start

unfoldable pub member_list_reader : Kind → TokenReader (List Member)
member_list_reader k = separated_list_reader 44 (member_reader k)

-- ---- commands

abbrev pub digest_of_kind_and_token : DigestKind → TokenWithBytes → Digest
digest_of_kind_and_token k t = record { kind = k; text = t.text }

unfoldable pub digest_reader : TokenReader Digest
digest_reader = one_token_reader digest_kind_of_token >>= (λ k. passing_token_reader (is_mark_of_byte 58) >>= (λ _. passing_token_reader is_digest_token >>= (λ t. pure (digest_of_kind_and_token k t))))

unfoldable pub optional_digests_reader : TokenReader (List Digest)
optional_digests_reader = reader_chosen_by_next_token (has_meaning_by digest_kind_of_token) (separated_list_reader 44 digest_reader) (pure [])

-- what can have arguments
abbrev pub command_open_to_arguments : TokenWithBytes → Atom → Option ArglessCommand
command_open_to_arguments t a = if has_last_byte 47 t.text then None else argless_command_of_atom a

-- the arguments so far, and where the last ends
abbrev pub args_and_stop_with_one_more : Args × ℕ → TokenWithBytes → Args × ℕ
args_and_stop_with_one_more r t = (args_with_one_more r.0 t.text, t.stop)

abbrev pub member_with_arguments : ArglessCommand → Member → Args × ℕ → Member
member_with_arguments p m r = record { start = m.start; stop = r.1; negated = m.negated; digests = m.digests; atom = atom_of_command_and_args p r.0 }

unfoldable pub member_with_arguments_reader : ArglessCommand → Member → TokenReader Member
member_with_arguments_reader p m =
    passing_token_reader is_argument_token_but_no_regex >>= (λ t. repetition_reader args_and_stop_with_one_more is_argument_token (passing_token_reader is_argument_token) (args_with_one_more Any t.text, t.stop) >>= (λ r. pure (member_with_arguments p m r)))

unfoldable pub member_with_optional_arguments_reader : Option ArglessCommand × Member → TokenReader Member
member_with_optional_arguments_reader (None, m) = pure m
member_with_optional_arguments_reader (Some p, m) = reader_chosen_by_next_token is_argument_token (member_with_arguments_reader p m) (pure m)

abbrev pub command_start_if_allowed : Bool → List Digest → TokenWithBytes → Atom → Option (Option ArglessCommand × Member)
command_start_if_allowed b ds t a = if has_digests_only_if_allowed ds a then Some (command_open_to_arguments t a, member_of_token_and_atom b ds t a) else None

abbrev pub command_start_of_token : Bool → List Digest → TokenWithBytes → Option (Option ArglessCommand × Member)
command_start_of_token b ds t = option_and_then (command_start_if_allowed b ds t) (command_atom_without_args t.kind t.text)

unfoldable pub command_after_digests_reader : List Digest → TokenReader Member
command_after_digests_reader ds = negation_reader >>= (λ b. one_token_reader (command_start_of_token b ds) >>= member_with_optional_arguments_reader)

unfoldable pub command_reader : TokenReader Member
command_reader = reader_with_start (optional_digests_reader >>= command_after_digests_reader) member_with_start

-- a command of a scope has no digests
unfoldable pub digestless_scope_command_reader : TokenReader Member
digestless_scope_command_reader = reader_with_start (command_after_digests_reader []) member_with_start

-- ---- aliases

unfoldable pub alias_member_list_reader : Kind → TokenReader (List Member)
alias_member_list_reader User = member_list_reader User
alias_member_list_reader Runas = member_list_reader Runas
alias_member_list_reader Host = member_list_reader Host
alias_member_list_reader Cmnd = separated_list_reader 44 command_reader

abbrev pub definition_of_name_and_list : TokenWithBytes → List Member → Def
definition_of_name_and_list n ms = record { name = n.text; start = n.start; stop = stop_of_last_member ms; members = ms }

unfoldable pub alias_definition_reader : Kind → TokenReader Def
alias_definition_reader k = passing_token_reader is_alias_name >>= (λ n. passing_token_reader (is_mark_of_byte 61) >>= (λ _. alias_member_list_reader k >>= (λ ms. pure (definition_of_name_and_list n ms))))

unfoldable pub alias_node_reader : TokenReader Node
alias_node_reader = one_token_reader alias_kind_of_token >>= (λ k. separated_list_reader 58 (alias_definition_reader k) >>= (λ ds. pure (node.Alias k ds)))

-- ---- user specifications

-- The users are not left out.
abbrev pub is_inside_runas_users : TokenWithBytes → Bool
is_inside_runas_users t = not (is_mark_of_byte 41 t || is_mark_of_byte 58 t)

unfoldable pub runas_users_reader : TokenReader (List Member)
runas_users_reader = reader_chosen_by_next_token is_inside_runas_users (member_list_reader Runas) (pure [])

unfoldable pub runas_groups_reader : TokenReader (List Member)
runas_groups_reader = reader_chosen_by_next_token (is_mark_of_byte 58) (reader_after_mark 58 (member_list_reader Runas)) (pure [])

unfoldable pub runas_reader : TokenReader RunasSpec
runas_reader =
    passing_token_reader (is_mark_of_byte 40) >>= (λ _. runas_users_reader >>= (λ us. runas_groups_reader >>= (λ gs. passing_token_reader (is_mark_of_byte 41) >>= (λ _.
    pure (record { users = us; groups = gs })))))

unfoldable pub option_reader : TokenReader (OptionName × List ℕ)
option_reader = one_token_reader option_of_token >>= (λ o. passing_token_reader (is_mark_of_byte 61) >>= (λ _. one_token_reader (option_value_of_token o) >>= (λ v. pure (o, v))))

unfoldable pub tag_reader : TokenReader (Tag × Bool)
tag_reader = one_token_reader tag_and_sign_of_token >>= (λ g. passing_token_reader (is_mark_of_byte 58) >>= (λ _. pure g))

unfoldable pub cmd_spec_reader : TokenReader CmdSpec
cmd_spec_reader =
    optional_reader (is_mark_of_byte 40) runas_reader >>= (λ r. repetition_reader snoc (has_meaning_by option_of_token) option_reader [] >>= (λ os. repetition_reader snoc (has_meaning_by tag_and_sign_of_token) tag_reader [] >>= (λ gs. command_reader >>= (λ m.
    pure (record { runas = r; options = os; tags = gs; member = m })))))

unfoldable pub host_group_reader : TokenReader HostGroup
host_group_reader = member_list_reader Host >>= (λ hs. passing_token_reader (is_mark_of_byte 61) >>= (λ _. separated_list_reader 44 cmd_spec_reader >>= (λ cs. pure (record { hosts = hs; commands = cs }))))

unfoldable pub user_spec_reader : TokenReader Node
user_spec_reader = member_list_reader User >>= (λ us. separated_list_reader 58 host_group_reader >>= (λ gs. pure (node.Spec us gs)))

-- ---- Defaults

unfoldable pub scope_member_list_reader : Kind → TokenReader (List Member)
scope_member_list_reader User = member_list_reader User
scope_member_list_reader Runas = member_list_reader Runas
scope_member_list_reader Host = member_list_reader Host
scope_member_list_reader Cmnd = separated_list_reader 44 digestless_scope_command_reader

unfoldable pub defaults_scope_reader : ℕ → TokenReader Scope
defaults_scope_reader stop = one_token_reader (scope_kind_of_sign_token_after stop) >>= (λ k. scope_member_list_reader k >>= (λ ms. pure (record { kind = k; members = ms })))

abbrev pub flag_parameter : Bool → TokenWithBytes → Param
flag_parameter b n = record { negated = b; name = n.text; setting = None }

abbrev pub set_parameter : TokenWithBytes → Operator → TokenWithBytes → Param
set_parameter n o v = record { negated = false; name = n.text; setting = Some (record { operator = o; value = value_of_word v.text }) }

unfoldable pub parameter_setting_reader : TokenWithBytes → TokenReader Param
parameter_setting_reader n = one_token_reader operator_of_token >>= (λ o. passing_token_reader is_parameter_value_token >>= (λ v. pure (set_parameter n o v)))

unfoldable pub negatable_flag_reader : TokenReader Param
negatable_flag_reader = negation_reader >>= (λ b. passing_token_reader is_parameter_name_token >>= (λ n. pure (flag_parameter b n)))

unfoldable pub named_parameter_reader : TokenReader Param
named_parameter_reader = passing_token_reader is_parameter_name_token >>= (λ n. reader_chosen_by_next_token (has_meaning_by operator_of_token) (parameter_setting_reader n) (pure (flag_parameter false n)))

unfoldable pub parameter_reader : TokenReader Param
parameter_reader = reader_chosen_by_next_token (is_mark_of_byte 33) negatable_flag_reader named_parameter_reader

unfoldable pub defaults_parameters_node_reader : Option Scope → TokenReader Node
defaults_parameters_node_reader s = separated_list_reader 44 parameter_reader >>= (λ ps. pure (node.Defaults s ps))

unfoldable pub scoped_defaults_reader : ℕ → TokenReader Node
scoped_defaults_reader stop = defaults_scope_reader stop >>= (λ s. defaults_parameters_node_reader (Some s))

unfoldable pub defaults_node_reader : TokenReader Node
defaults_node_reader = passing_token_reader is_defaults >>= (λ w. reader_chosen_by_next_token (has_meaning_by (scope_kind_of_sign_token_after w.stop)) (scoped_defaults_reader w.stop) (defaults_parameters_node_reader None))

-- ---- includes and lines

unfoldable pub include_node_reader : TokenReader Node
include_node_reader = one_token_reader include_is_dir_of_token >>= (λ dir. one_token_reader include_path_of_token >>= (λ path. pure (node.Include dir path)))

-- A comment may stand at the end.
unfoldable pub optional_comment_end_reader : Node → TokenReader Node
optional_comment_end_reader n = reader_chosen_by_next_token is_comment_token (passing_token_reader is_comment_token >>= (λ _. end_of_line_reader n)) (end_of_line_reader n)

abbrev pub is_any_token : TokenWithBytes → Bool
is_any_token t = true

-- ---- each kind of line

abbrev pub comment_line_reader : TokenReader Node
comment_line_reader = passing_token_reader is_comment_token >>= (λ _. end_of_line_reader node.Comment)

abbrev pub alias_line_reader : TokenReader Node
alias_line_reader = alias_node_reader >>= optional_comment_end_reader

abbrev pub include_line_reader : TokenReader Node
include_line_reader = include_node_reader >>= optional_comment_end_reader

abbrev pub defaults_line_reader : TokenReader Node
defaults_line_reader = defaults_node_reader >>= optional_comment_end_reader

abbrev pub spec_line_reader : TokenReader Node
spec_line_reader = user_spec_reader >>= optional_comment_end_reader

unfoldable pub whole_line_reader : TokenReader Node
whole_line_reader =
    reader_chosen_by_next_token is_any_token
    (reader_chosen_by_next_token is_comment_token comment_line_reader
    (reader_chosen_by_next_token (has_meaning_by alias_kind_of_token) alias_line_reader
    (reader_chosen_by_next_token (has_meaning_by include_is_dir_of_token) include_line_reader
    (reader_chosen_by_next_token is_defaults defaults_line_reader
    spec_line_reader))))
    (end_of_line_reader node.Blank)

-- ---- what a line says, or its first fault

-- The tokens before it can go on so.
abbrev pub is_continuable_outcome : ReadOutcome Node → Bool
is_continuable_outcome (Read n rest) = true
is_continuable_outcome (Halt []) = true
is_continuable_outcome (Halt (t ∷ ts)) = false

-- Behind these tokens such a token may stand.
abbrev pub is_token_allowed_after : List TokenWithBytes → TokenWithBytes → Bool
is_token_allowed_after before t = is_continuable_outcome (whole_line_reader (before ++ t ∷ []))

abbrev pub expected_tokens_after : List TokenWithBytes → ExpectedTokens
expected_tokens_after before = record { word = is_token_allowed_after before sample_name_word; stamp = is_token_allowed_after before sample_time_stamp; path = is_token_allowed_after before sample_path_token }

-- why the line is refused with the first of these tokens behind those
abbrev pub cause_at_first_token : List TokenWithBytes → List TokenWithBytes → Why
cause_at_first_token before [] = EndOfLine
cause_at_first_token before (t ∷ rest) = syntax_fault_cause (expected_tokens_after before) t
