-- A line in which a name means a host and a command, and as a command it is replaced by another.
use Rattle.std.proofs.Common.{◌≡◌, ℕ, Bool, true, false, List, [], ◌∷◌, ◌++◌, refl, sym, subst, Some, None}
use Rattle.std.specs.Prelude.{codes, slice_range}
use Rattle.sudoers_text.specs.declared.token.Token.{Token}
use Rattle.sudoers_text.specs.declared.token.Mode.{Mode}
use Rattle.sudoers_text.specs.declared.token.Mode.TheVariants.{Commands}
use Rattle.sudoers_text.specs.declared.token.TokenKind.{TokenKind}
use Rattle.sudoers_text.specs.declared.token.TokenKind.TheVariants.{Punct, Word}
use Rattle.sudoers_text.specs.Part.{leading_run_size, quotes_and_run_between_size, argument_units_size, quoted_front_to_inner_separator_size}
use Rattle.sudoers_text.specs.Piece.{plus_or_minus_equals_size, defaults_or_at_include_word_size, quoted_argument_rest_size}
use Rattle.sudoers_text.specs.Token.{bad_token_size, HasTokens}
use Rattle.sudoers_text.specs.Found.{hash_id_size, optional_colon_id_size, numeric_id_size, colon_and_word_size, non_unix_group_size, comment_size_at, hash_include_size_at, command_path_size, argument_size, tokens_from_offset, tokens_of_line}
use Rattle.sudoers_text.specs.LineMode.{line_mode}
use Rattle.sudoers_text.specs.Value.{value_of_word}
use Rattle.sudoers_text.proofs.TokenLists.{computed_tokens_are_tokens_of_line}
use Rattle.sudoers_text.proofs.Ascending.{tokens_of_line_are_ordered}
use Rattle.sudoers_text.proofs.Renamed.{renamed_line_has_moved_tokens}
use Rattle.sudoers_text.proofs.RenamedMode.{renaming_keeps_line_mode}
use Rattle.sudoers_text.proofs.RenamedLine.{renamed_line_is_logical_line, renaming_keeps_lf_end_of_line}
use Rattle.sudoers_grammar.specs.declared.node.Kind.{Kind}
use Rattle.sudoers_grammar.specs.declared.node.Kind.TheVariants.{User, Host, Cmnd}
use Rattle.sudoers_grammar.specs.declared.node.Atom.{Atom}
use Rattle.sudoers_grammar.specs.declared.node.Atom.TheVariants as atom
use Rattle.sudoers_grammar.specs.Node.{Member, Node}
use Rattle.sudoers_grammar.specs.Node as node
use Rattle.sudoers_grammar.specs.Atom.{user_atom_of_word, user_atom_of_token, host_atom_without_escapes, host_atom_of_token, command_atom_without_args, atom_of_token}
use Rattle.sudoers_grammar.specs.Number.{ipv4_number_of_text}
use Rattle.sudoers_grammar.specs.Piece.{TokenWithBytes, token_with_bytes, tokens_with_bytes, is_mark_of_byte, is_given_word, alias_kind_of_token, include_is_dir_of_token}
use Rattle.sudoers_grammar.specs.Grammar.{IsMember, IsCommand, ReadsNodeWithRest}
use Rattle.sudoers_grammar.specs.Line.{LineReadsAsNode}
use Rattle.sudoers_grammar.specs.Renamed.{NamedAlias, renamed_alias, line_text_after_rename}
use Rattle.sudoers_grammar.proofs.NamesStand.{alias_name_stands_at_each_offset}
use Rattle.sudoers_grammar.proofs.RenamedText.{reads_line}
use Rattle.sudoers_grammar.proofs.RenamedBack.{renaming_back_gives_old_line}

abbrev line_of_host_and_command : List ℕ
line_of_host_and_command = codes "bob SH = SH" ++ 10 ∷ []

abbrev token_of_kind_and_places : TokenKind → ℕ → ℕ → Token
token_of_kind_and_places kind start stop = record { kind = kind; start = start; stop = stop }

abbrev tokens_of_host_and_command_line : List Token
tokens_of_host_and_command_line = token_of_kind_and_places Word 0 3 ∷ token_of_kind_and_places Word 4 6 ∷ token_of_kind_and_places Punct 7 8 ∷ token_of_kind_and_places Word 9 11 ∷ []

abbrev member_of_atom_between_places : Atom → ℕ → ℕ → Member
member_of_atom_between_places a start stop = record { start = start; stop = stop; negated = false; digests = []; atom = a }

-- what it says; the command's name, and where it ends
abbrev node_with_command_name : List ℕ → ℕ → Node
node_with_command_name name stop =
    node.Spec (member_of_atom_between_places (atom.Name (codes "bob")) 0 3 ∷ []) (record {
      hosts = member_of_atom_between_places (atom.Alias (codes "SH")) 4 6 ∷ [];
      commands = record { runas = None; options = []; tags = []; member = member_of_atom_between_places (atom.Alias name) 9 stop } ∷ [];
    } ∷ [])

mode_of_example_line_is_commands : line_mode line_of_host_and_command ≡ Commands
unfolding line_mode leading_run_size
mode_of_example_line_is_commands = refl

tokens_of_example_line_are_listed : tokens_of_line Commands line_of_host_and_command ≡ tokens_of_host_and_command_line
unfolding tokens_of_line tokens_from_offset leading_run_size quotes_and_run_between_size argument_units_size quoted_front_to_inner_separator_size plus_or_minus_equals_size defaults_or_at_include_word_size quoted_argument_rest_size bad_token_size hash_id_size optional_colon_id_size numeric_id_size colon_and_word_size non_unix_group_size comment_size_at hash_include_size_at command_path_size argument_size
tokens_of_example_line_are_listed = refl

example_line_reads_as_node : LineReadsAsNode line_of_host_and_command (node_with_command_name (codes "SH") 11)
unfolding user_atom_of_word user_atom_of_token host_atom_without_escapes host_atom_of_token command_atom_without_args atom_of_token value_of_word ipv4_number_of_text is_mark_of_byte is_given_word alias_kind_of_token include_is_dir_of_token
example_line_reads_as_node = record {
  tokens = tokens_of_host_and_command_line;
  has = subst (λ (m : Mode). HasTokens m line_of_host_and_command tokens_of_host_and_command_line) (sym mode_of_example_line_is_commands) (subst (HasTokens Commands line_of_host_and_command) tokens_of_example_line_are_listed (computed_tokens_are_tokens_of_line Commands line_of_host_and_command));
  reads = ([], says, tt);
}
  where
    user : TokenWithBytes
    user = token_with_bytes line_of_host_and_command (token_of_kind_and_places Word 0 3)

    host : TokenWithBytes
    host = token_with_bytes line_of_host_and_command (token_of_kind_and_places Word 4 6)

    equals : TokenWithBytes
    equals = token_with_bytes line_of_host_and_command (token_of_kind_and_places Punct 7 8)

    command : TokenWithBytes
    command = token_with_bytes line_of_host_and_command (token_of_kind_and_places Word 9 11)

    is_member : (k : Kind) (t : TokenWithBytes) (rest : List TokenWithBytes) (a : Atom) → atom_of_token k t ≡ Some a → IsMember k (t ∷ rest) (member_of_atom_between_places a t.start t.stop) rest
    is_member k t rest a is = record {
      signs = [];
      last = t;
      split = refl;
      are_signs = tt;
      atom = is;
      negated = refl;
      digests = refl;
      start = refl;
      stop = refl;
    }

    is_command : IsCommand (command ∷ []) (member_of_atom_between_places (atom.Alias (codes "SH")) 9 11) []
    is_command = record {
      behind = command ∷ [];
      digests = refl;
      signs = [];
      word = command;
      args = [];
      split = refl;
      are_signs = tt;
      are_args = tt;
      atom = refl;
      suits = tt;
      negated = refl;
      start = refl;
      stop = refl;
    }

    says : ReadsNodeWithRest (tokens_with_bytes line_of_host_and_command tokens_of_host_and_command_line) (node_with_command_name (codes "SH") 11) []
    says = record {
      behind = host ∷ equals ∷ command ∷ [];
      begins = record { no_kind = refl; no_include = refl; no_defaults = refl };
      users = (host ∷ equals ∷ command ∷ [], is_member User user (host ∷ equals ∷ command ∷ []) (atom.Name (codes "bob")) refl, refl);
      groups = (
        [],
        record {
          behind_hosts = equals ∷ command ∷ [];
          equals = equals;
          behind = command ∷ [];
          hosts = (equals ∷ command ∷ [], is_member Host host (equals ∷ command ∷ []) (atom.Alias (codes "SH")) refl, refl);
          split = refl;
          is_equals = refl;
          commands = (
            [],
            record {
              behind_runas = command ∷ [];
              behind_options = command ∷ [];
              behind_tags = command ∷ [];
              runas = refl;
              options = refl;
              tags = refl;
              member = is_command;
            },
            refl,
          );
        },
        refl,
      );
    }

-- The name as one of commands.
abbrev is_kind_of_commands : Kind → Bool
is_kind_of_commands Cmnd = true
is_kind_of_commands k = false

abbrev command_alias_named_sh : NamedAlias
command_alias_named_sh = record { name = codes "SH"; kinds = is_kind_of_commands }

abbrev node_before_renaming : Node
node_before_renaming = node_with_command_name (codes "SH") 11

-- As a command the name stands at byte 9.
command_name_stands_at_byte_nine : slice_range line_of_host_and_command 9 11 ≡ codes "SH"
command_name_stands_at_byte_nine = (alias_name_stands_at_each_offset tokens_of_line_are_ordered command_alias_named_sh line_of_host_and_command node_before_renaming example_line_reads_as_node).0

-- The command has the new name, and the host has the old one.
renamed_line_reads_with_new_command : LineReadsAsNode (codes "bob SH = SHELLS" ++ 10 ∷ []) (node_with_command_name (codes "SHELLS") 15)
renamed_line_reads_with_new_command =
    reads_line tokens_of_line_are_ordered renamed_line_has_moved_tokens renaming_keeps_line_mode renamed_line_is_logical_line renaming_keeps_lf_end_of_line command_alias_named_sh (codes "SHELLS") line_of_host_and_command node_before_renaming (refl, refl) (refl, refl) example_line_reads_as_node

-- The old name given back gives the old line.
old_name_given_back_is_example_line : line_text_after_rename (renamed_alias command_alias_named_sh (codes "SHELLS")) (codes "SH") (node_with_command_name (codes "SHELLS") 15) (codes "bob SH = SHELLS" ++ 10 ∷ []) ≡ line_of_host_and_command
old_name_given_back_is_example_line = renaming_back_gives_old_line tokens_of_line_are_ordered command_alias_named_sh (codes "SHELLS") line_of_host_and_command node_before_renaming example_line_reads_as_node refl
