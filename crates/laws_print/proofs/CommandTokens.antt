-- Lists of commands, token by token: a device of the laws.
use Rattle.laws_print.proofs.Common.{ℕ, Bool, true, false, List, [], ◌∷◌, codes, Option, Some, None, TokenKind, LineUnit, Quoted, Runas, Args, Any}
use Rattle.laws_print.proofs.Common.{Nothing, Pattern, Atom, Digest, Member, OptionName, Tag, RunasSpec, Command, digest_kind_keyword, option_keyword, tag_keyword_or_negated}
use Rattle.laws_print.proofs.Common.{WrittenToken, units_of_spelled_word, escaped_pattern_units, units_of_pattern, argument_words_of_units, tokens_of_argument_words}
use Rattle.sudoers_text.specs.declared.token.TokenKind.TheVariants as kind
use Rattle.sudoers_grammar.specs.declared.node.Atom.TheVariants as atom
use Rattle.laws_print.proofs.Units.{units_of_plain_bytes}
use Rattle.laws_print.proofs.ListTokens.{token_of_mark, token_of_plain_word, tokens_of_member_list, tokens_of_items_each_behind_mark, tokens_of_items_between_marks}

-- ---- commands

-- no arguments
abbrev pub empty_quotes_argument_token : WrittenToken
empty_quotes_argument_token = record { kind = kind.Arg; units = Quoted (34 ∷ []) ∷ []; spaced = true }

abbrev pub tokens_of_arguments : Args → List WrittenToken → List WrittenToken
tokens_of_arguments Any tail = tail
tokens_of_arguments Nothing tail = empty_quotes_argument_token ∷ tail
tokens_of_arguments (Pattern p) tail = tokens_of_argument_words (argument_words_of_units false (units_of_pattern p)) tail

abbrev pub token_of_path : Bool → List ℕ → WrittenToken
token_of_path spaced path = record { kind = kind.Path; units = escaped_pattern_units Command (units_of_pattern path); spaced = spaced }

-- a command, before other tokens
abbrev pub tokens_of_command_atom : Bool → Atom → List WrittenToken → List WrittenToken
tokens_of_command_atom spaced atom.All tail = token_of_plain_word (codes "ALL") spaced ∷ tail
tokens_of_command_atom spaced (atom.Alias name) tail = token_of_plain_word name spaced ∷ tail
tokens_of_command_atom spaced atom.Listing tail = token_of_plain_word (codes "list") spaced ∷ tail
tokens_of_command_atom spaced (atom.Path path args) tail = token_of_path spaced path ∷ tokens_of_arguments args tail
tokens_of_command_atom spaced (atom.Sudoedit args) tail = token_of_plain_word (codes "sudoedit") spaced ∷ tokens_of_arguments args tail
tokens_of_command_atom spaced a tail = tail

abbrev pub tokens_of_signed_command : Bool → Bool → Atom → List WrittenToken → List WrittenToken
tokens_of_signed_command spaced true a tail = token_of_mark 33 spaced ∷ tokens_of_command_atom false a tail
tokens_of_signed_command spaced false a tail = tokens_of_command_atom spaced a tail

-- a digest
abbrev pub tokens_of_digest : Bool → Digest → List WrittenToken → List WrittenToken
tokens_of_digest spaced d tail = token_of_plain_word (digest_kind_keyword d.kind) spaced ∷ token_of_mark 58 false ∷ record { kind = kind.Digest; units = units_of_plain_bytes d.text; spaced = false } ∷ tail

-- digests, each behind a comma
abbrev pub tokens_of_further_digests : List Digest → List WrittenToken → List WrittenToken
tokens_of_further_digests ds tail = tokens_of_items_each_behind_mark (token_of_mark 44 false) (tokens_of_digest true) ds tail

-- a command with its digests
abbrev pub tokens_of_command_with_digests : Bool → List Digest → Bool → Atom → List WrittenToken → List WrittenToken
tokens_of_command_with_digests spaced [] negated a tail = tokens_of_signed_command spaced negated a tail
tokens_of_command_with_digests spaced (d ∷ ds) negated a tail = tokens_of_digest spaced d (tokens_of_further_digests ds (tokens_of_signed_command true negated a tail))

abbrev pub tokens_of_command_member : Bool → Member → List WrittenToken → List WrittenToken
tokens_of_command_member spaced m tail = tokens_of_command_with_digests spaced m.digests m.negated m.atom tail

abbrev pub tokens_of_further_commands : List Member → List WrittenToken → List WrittenToken
tokens_of_further_commands ms tail = tokens_of_items_each_behind_mark (token_of_mark 44 false) (tokens_of_command_member true) ms tail

abbrev pub tokens_of_command_list : Bool → List Member → List WrittenToken → List WrittenToken
tokens_of_command_list spaced ms tail = tokens_of_items_between_marks (token_of_mark 44 false) (tokens_of_command_member spaced) (tokens_of_command_member true) ms tail

-- ---- what stands before a command

-- the value of an option; an empty one is a pair of quotes
abbrev pub kind_of_option_value : List ℕ → TokenKind
kind_of_option_value [] = kind.Quoted
kind_of_option_value (b ∷ value) = kind.Word

abbrev pub units_of_option_value : List ℕ → List LineUnit
units_of_option_value [] = Quoted (34 ∷ []) ∷ []
units_of_option_value (b ∷ value) = units_of_spelled_word (b ∷ value)

abbrev pub token_of_option_value : List ℕ → WrittenToken
token_of_option_value value = record { kind = kind_of_option_value value; units = units_of_option_value value; spaced = false }

-- tags and a command
abbrev pub tokens_of_tags_and_command : Bool → List (Tag × Bool) → Member → List WrittenToken → List WrittenToken
tokens_of_tags_and_command spaced [] m tail = tokens_of_command_with_digests spaced m.digests m.negated m.atom tail
tokens_of_tags_and_command spaced (g ∷ gs) m tail = token_of_plain_word (tag_keyword_or_negated g.0 g.1) spaced ∷ token_of_mark 58 false ∷ tokens_of_tags_and_command true gs m tail

-- options, tags and a command
abbrev pub tokens_of_options_and_command : Bool → List (OptionName × List ℕ) → List (Tag × Bool) → Member → List WrittenToken → List WrittenToken
tokens_of_options_and_command spaced [] tags m tail = tokens_of_tags_and_command spaced tags m tail
tokens_of_options_and_command spaced (o ∷ os) tags m tail = token_of_plain_word (option_keyword o.0) spaced ∷ token_of_mark 61 false ∷ token_of_option_value o.1 ∷ tokens_of_options_and_command true os tags m tail

-- what stands in the parentheses, and they
abbrev pub tokens_inside_runas_parentheses : List Member → List Member → List WrittenToken → List WrittenToken
tokens_inside_runas_parentheses [] [] tail = tail
tokens_inside_runas_parentheses (u ∷ us) [] tail = tokens_of_member_list Runas false false (u ∷ us) tail
tokens_inside_runas_parentheses [] (g ∷ gs) tail = token_of_mark 58 false ∷ tokens_of_member_list Runas true false (g ∷ gs) tail
tokens_inside_runas_parentheses (u ∷ us) (g ∷ gs) tail = tokens_of_member_list Runas false false (u ∷ us) (token_of_mark 58 true ∷ tokens_of_member_list Runas true false (g ∷ gs) tail)

abbrev pub tokens_of_runas_part : Bool → RunasSpec → List WrittenToken → List WrittenToken
tokens_of_runas_part spaced r tail = token_of_mark 40 spaced ∷ tokens_inside_runas_parentheses r.users r.groups (token_of_mark 41 false ∷ tail)

-- a command with all that stands before it
abbrev pub tokens_of_command_spec : Bool → Option RunasSpec → List (OptionName × List ℕ) → List (Tag × Bool) → Member → List WrittenToken → List WrittenToken
tokens_of_command_spec spaced None options tags m tail = tokens_of_options_and_command spaced options tags m tail
tokens_of_command_spec spaced (Some r) options tags m tail = tokens_of_runas_part spaced r (tokens_of_options_and_command true options tags m tail)
