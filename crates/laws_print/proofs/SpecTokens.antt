-- User specifications, token by token, and as they are printed: a device of the laws.
use Rattle.laws_print.proofs.Common.{◌≡◌, ℕ, Bool, true, false, List, [], ◌∷◌, ◌++◌, ap, ◌∙◌, codes, join_by, append_assoc, User, Member, CmdSpec}
use Rattle.laws_print.proofs.Common.{HostGroup, printed_member_list, printed_runas_options_tags_and_command, printed_line, IsWritableUserMember, IsNonEmptyListOf, IsWritableCommand, IsWritableHostGroup}
use Rattle.laws_print.proofs.Common.{WrittenToken, line_of_written_tokens}
use Rattle.sudoers_grammar.specs.declared.node.Kind.TheVariants.{Host}
use Rattle.sudoers_grammar.specs.Node as node
use Rattle.sudoers_cvt_spell.specs.Lines.{printed_host_group}
use Rattle.laws_print.proofs.ListTokens.{token_of_mark, tokens_of_member_list, tokens_of_items_each_behind_mark, tokens_of_items_between_marks}
use Rattle.laws_print.proofs.CommandTokens.{tokens_of_command_spec}
use Rattle.laws_print.proofs.PrintedLists.{text_of_member_list_is_printed}
use Rattle.laws_print.proofs.PrintedCmds.{text_of_command_spec_is_printed}
use Rattle.laws_print.proofs.Many.{many_text}

-- ---- tokens

-- a command with what stands before it
abbrev pub tokens_of_one_command_spec : Bool → CmdSpec → List WrittenToken → List WrittenToken
tokens_of_one_command_spec spaced c tail = tokens_of_command_spec spaced c.runas c.options c.tags c.member tail

-- commands, each behind a comma
abbrev pub tokens_of_further_command_specs : List CmdSpec → List WrittenToken → List WrittenToken
tokens_of_further_command_specs cs tail = tokens_of_items_each_behind_mark (token_of_mark 44 false) (tokens_of_one_command_spec true) cs tail

abbrev pub tokens_of_command_spec_list : List CmdSpec → List WrittenToken → List WrittenToken
tokens_of_command_spec_list cs tail = tokens_of_items_between_marks (token_of_mark 44 false) (tokens_of_one_command_spec true) (tokens_of_one_command_spec true) cs tail

-- hosts and commands
abbrev pub tokens_of_host_group : HostGroup → List WrittenToken → List WrittenToken
tokens_of_host_group g tail = tokens_of_member_list Host true false g.hosts (token_of_mark 61 true ∷ tokens_of_command_spec_list g.commands tail)

-- groups, each behind a colon
abbrev pub tokens_of_further_host_groups : List HostGroup → List WrittenToken → List WrittenToken
tokens_of_further_host_groups gs tail = tokens_of_items_each_behind_mark (token_of_mark 58 true) tokens_of_host_group gs tail

abbrev pub tokens_of_host_group_list : List HostGroup → List WrittenToken → List WrittenToken
tokens_of_host_group_list gs tail = tokens_of_items_between_marks (token_of_mark 58 true) tokens_of_host_group tokens_of_host_group gs tail

abbrev pub tokens_of_spec_line : List Member → List HostGroup → List WrittenToken
tokens_of_spec_line users groups = tokens_of_member_list User false true users (tokens_of_host_group_list groups [])

-- ---- as they are printed

text_of_command_spec_list_is_printed : (cs : List CmdSpec) (tail : List WrittenToken) → IsNonEmptyListOf IsWritableCommand cs → line_of_written_tokens (tokens_of_command_spec_list cs tail) ≡ 32 ∷ (join_by printed_runas_options_tags_and_command (codes ", ") cs ++ line_of_written_tokens tail)
text_of_command_spec_list_is_printed [] tail all = absurd all
text_of_command_spec_list_is_printed (c ∷ cs) tail all =
    many_text 44 false printed_runas_options_tags_and_command (tokens_of_one_command_spec true) IsWritableCommand (text_of_command_spec_is_printed true) (32 ∷ []) (printed_runas_options_tags_and_command c) (λ t. line_of_written_tokens (tokens_of_one_command_spec true c t)) (λ t. text_of_command_spec_is_printed true c t all.0) cs tail all.1

text_of_host_group_is_printed : (g : HostGroup) (tail : List WrittenToken) → IsWritableHostGroup g → line_of_written_tokens (tokens_of_host_group g tail) ≡ 32 ∷ (printed_host_group g ++ line_of_written_tokens tail)
text_of_host_group_is_printed g tail is =
    text_of_member_list_is_printed Host true false g.hosts (token_of_mark 61 true ∷ tokens_of_command_spec_list g.commands tail) is.hosts
    ∙ ap (λ (t : List ℕ). 32 ∷ (printed_member_list false Host g.hosts ++ (32 ∷ 61 ∷ t))) (text_of_command_spec_list_is_printed g.commands tail is.commands)
    ∙ ap (λ (t : List ℕ). 32 ∷ t) (joined (printed_member_list false Host g.hosts) (join_by printed_runas_options_tags_and_command (codes ", ") g.commands) (line_of_written_tokens tail))
  where
    joined : (a b c : List ℕ) → a ++ (32 ∷ 61 ∷ 32 ∷ (b ++ c)) ≡ (a ++ codes " = " ++ b) ++ c
    joined a b c = simp append_assoc

text_of_host_group_list_is_printed : (gs : List HostGroup) (tail : List WrittenToken) → IsNonEmptyListOf IsWritableHostGroup gs → line_of_written_tokens (tokens_of_host_group_list gs tail) ≡ 32 ∷ (join_by printed_host_group (codes " : ") gs ++ line_of_written_tokens tail)
text_of_host_group_list_is_printed [] tail all = absurd all
text_of_host_group_list_is_printed (g ∷ gs) tail all =
    many_text 58 true printed_host_group tokens_of_host_group IsWritableHostGroup text_of_host_group_is_printed (32 ∷ []) (printed_host_group g) (λ t. line_of_written_tokens (tokens_of_host_group g t)) (λ t. text_of_host_group_is_printed g t all.0) gs tail all.1

-- The tokens of a user specification are its line as it is printed.
pub text_of_spec_tokens_is_printed_line : (users : List Member) (groups : List HostGroup) → IsNonEmptyListOf IsWritableUserMember users → IsNonEmptyListOf IsWritableHostGroup groups → line_of_written_tokens (tokens_of_spec_line users groups) ≡ printed_line (node.Spec users groups)
text_of_spec_tokens_is_printed_line [] groups all some = absurd all
text_of_spec_tokens_is_printed_line (m ∷ ms) groups all some =
    text_of_member_list_is_printed User false true (m ∷ ms) (tokens_of_host_group_list groups []) all
    ∙ ap (λ (t : List ℕ). printed_member_list true User (m ∷ ms) ++ t) (text_of_host_group_list_is_printed groups [] some)
    ∙ joined (printed_member_list true User (m ∷ ms)) (join_by printed_host_group (codes " : ") groups)
  where
    joined : (a b : List ℕ) → a ++ (32 ∷ (b ++ 10 ∷ [])) ≡ (a ++ codes " " ++ b) ++ codes "\n"
    joined a b = simp append_assoc
