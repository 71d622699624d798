-- The list of a definition, of each kind, as it is written.
use Rattle.laws_print.proofs.Common.{true, false, List, [], ◌∷◌, refl, subst, Kind, User, Runas, Cmnd, Def, Member, printed_line, IsWritableMemberOfKind, IsNonEmptyListOf}
use Rattle.laws_print.proofs.Common.{IsWritableDefinition, LineReadsBackAs, WrittenToken}
use Rattle.sudoers_text.specs.declared.context.TokenContext.TheVariants as context
use Rattle.sudoers_grammar.specs.declared.node.Kind.TheVariants.{Host}
use Rattle.sudoers_grammar.specs.Node as node
use Rattle.laws_print.proofs.ListTokens.{tokens_of_member_list}
use Rattle.laws_print.proofs.CommandTokens.{tokens_of_command_list}
use Rattle.laws_print.proofs.Whole.{cut_tokens_are_logical_line, IsLogicalLineWithoutNul}
use Rattle.laws_print.proofs.UserCuts.{EndsUser}
use Rattle.laws_print.proofs.ListCuts.{words_context_is_list_context, member_list_before_tail_is_cut}
use Rattle.laws_print.proofs.ReadLists.{member_list_is_read_back}
use Rattle.laws_print.proofs.PrintedLists.{text_of_member_list_is_printed}
use Rattle.laws_print.proofs.CommandLists.{command_list_before_tail_is_cut, no_tokens_are_cut_behind_command}
use Rattle.laws_print.proofs.ReadCommandLists.{command_list_is_read_back}
use Rattle.laws_print.proofs.PrintedCommands.{text_of_command_list_is_printed}
use Rattle.laws_print.proofs.AliasLines.{AreTokensOfAliasList, tokens_of_alias_line, text_of_alias_tokens_is_printed_line, CutTokensAreTokensOfLine, printed_alias_line_with_list_reads_back, alias_line_with_written_list_is_cut, mode_of_alias_line}

-- the tokens of a list of this kind
abbrev pub tokens_of_alias_list : Kind → List Member → List WrittenToken
tokens_of_alias_list User ms = tokens_of_member_list User true false ms []
tokens_of_alias_list Runas ms = tokens_of_member_list Runas true false ms []
tokens_of_alias_list Host ms = tokens_of_member_list Host true false ms []
tokens_of_alias_list Cmnd ms = tokens_of_command_list true ms []

line_end_ends_user : EndsUser (10 ∷ [])
line_end_ends_user = record { word = refl; hash = refl; colon = refl; digit = refl }

tokens_of_writable_list_are_of_it : (k : Kind) (ms : List Member) → IsNonEmptyListOf (IsWritableMemberOfKind k) ms → AreTokensOfAliasList k ms (tokens_of_alias_list k ms)
tokens_of_writable_list_are_of_it k [] all = absurd all
tokens_of_writable_list_are_of_it User (m ∷ ms) all = record {
  cut = member_list_before_tail_is_cut User context.Words context.Words words_context_is_list_context true true false (m ∷ ms) [] all refl line_end_ends_user tt;
  read = λ ts shown. member_list_is_read_back User true false (m ∷ ms) [] ts all shown;
  text = text_of_member_list_is_printed User true false (m ∷ ms) [] all;
}
tokens_of_writable_list_are_of_it Runas (m ∷ ms) all = record {
  cut = member_list_before_tail_is_cut Runas context.Words context.Words words_context_is_list_context true true false (m ∷ ms) [] all refl line_end_ends_user tt;
  read = λ ts shown. member_list_is_read_back Runas true false (m ∷ ms) [] ts all shown;
  text = text_of_member_list_is_printed Runas true false (m ∷ ms) [] all;
}
tokens_of_writable_list_are_of_it Host (m ∷ ms) all = record {
  cut = member_list_before_tail_is_cut Host context.Words context.Words words_context_is_list_context true true false (m ∷ ms) [] all tt line_end_ends_user tt;
  read = λ ts shown. member_list_is_read_back Host true false (m ∷ ms) [] ts all shown;
  text = text_of_member_list_is_printed Host true false (m ∷ ms) [] all;
}
tokens_of_writable_list_are_of_it Cmnd (m ∷ ms) all = record {
  cut = command_list_before_tail_is_cut true true m ms [] all no_tokens_are_cut_behind_command;
  read = λ ts shown. command_list_is_read_back true m ms [] ts all shown;
  text = text_of_command_list_is_printed true m ms [] all;
}

-- A definition is read as it is printed, and its line is one logical line.
pub printed_alias_line_reads_back : CutTokensAreTokensOfLine → (k : Kind) (d : Def) → IsWritableDefinition k d → LineReadsBackAs (printed_line (node.Alias k (d ∷ []))) (node.Alias k (d ∷ []))
printed_alias_line_reads_back law k d is = printed_alias_line_with_list_reads_back law k d (tokens_of_alias_list k d.members) is.name (tokens_of_writable_list_are_of_it k d.members is.members)

pub printed_alias_line_is_logical_line : (k : Kind) (d : Def) → IsWritableDefinition k d → IsLogicalLineWithoutNul (printed_line (node.Alias k (d ∷ [])))
printed_alias_line_is_logical_line k d is =
    let list = tokens_of_alias_list k d.members in
    let written = tokens_of_writable_list_are_of_it k d.members is.members in
    subst IsLogicalLineWithoutNul (text_of_alias_tokens_is_printed_line k d list written.text)
    (cut_tokens_are_logical_line (tokens_of_alias_line k d.name list) (context.First (mode_of_alias_line k)) (alias_line_with_written_list_is_cut k d list is.name written))
