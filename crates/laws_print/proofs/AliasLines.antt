-- A line of one definition of an alias, as it is written, is cut into its tokens.
use Rattle.laws_print.proofs.Common.{◌≡◌, ℕ, Bool, true, false, List, [], ◌∷◌, ◌++◌, Some, refl, sym, ap, subst, ◌∙◌, append-nil, codes, append_assoc}
use Rattle.laws_print.proofs.Common.{Mode, TokenContext, leading_run_size, is_word_byte, Byte, context_after_token, token_forms_in_context, token_forms_in_word_lists, line_mode, HasTokens, is_name, Kind, User}
use Rattle.laws_print.proofs.Common.{Runas, Cmnd, Def, Member, TokenWithBytes, tokens_with_bytes, alias_kind_of_token, is_alias_name, IsAliasMemberList, Reads, printed_member_list, printed_line}
use Rattle.laws_print.proofs.Common.{MemberIsReadBackAs, AreItemsPairwiseRelated, LineReadsBackAs, WrittenToken, text_of_units, line_of_written_tokens, tokens_placed_from_offset, IsTokenCut, AreTokensCut, AreTokensShownBy}
use Rattle.sudoers_text.specs.declared.token.TokenKind.TheVariants as kind
use Rattle.sudoers_text.specs.declared.token.Mode.TheVariants as mode
use Rattle.sudoers_text.specs.declared.context.TokenContext.TheVariants as context
use Rattle.sudoers_grammar.specs.declared.node.Kind.TheVariants.{Host}
use Rattle.sudoers_grammar.specs.Node as node
use Rattle.sudoers_grammar.specs.Grammar.{IsEnd, stop_of_last_member}
use Rattle.sudoers_grammar.specs.Kind.{alias_line_keyword}
use Rattle.laws_print.specs.Same.{DefinitionIsReadBackAs}
use Rattle.laws_print.proofs.Units.{units_of_plain_bytes}
use Rattle.laws_print.proofs.ListTokens.{token_of_mark, token_of_plain_word}
use Rattle.laws_print.proofs.Cuts.{EndsWord, word_units_are_cut_as_word, first_word_context_takes_words, first_command_context_takes_words}
use Rattle.laws_print.proofs.Users.{text_of_plain_units_is_bytes}
use Rattle.laws_print.proofs.UserCuts.{punctuation_in_word_list_is_cut, alias_name_in_word_list_is_cut}
use Rattle.laws_print.proofs.Shown.{placed_tokens_of_line_show_written, punctuation_of_byte_is_its_mark}
use Rattle.laws_print.proofs.Many.{ReadsAsSameThing}
use Rattle.laws_print.proofs.Words.{bytes_passing_test_are_units_of_it}

-- ---- contexts

abbrev pub mode_of_alias_line : Kind → Mode
mode_of_alias_line Cmnd = mode.Commands
mode_of_alias_line k = mode.Words

-- where the name stands, and where the list does
abbrev pub context_of_alias_name : Kind → TokenContext
context_of_alias_name Cmnd = context.Hosts
context_of_alias_name k = context.Words

abbrev pub context_of_alias_list : Kind → TokenContext
context_of_alias_list Cmnd = context.Commands
context_of_alias_list k = context.Words

space_ends_word : (percent : Bool) (rest : List ℕ) → EndsWord percent (32 ∷ rest)
space_ends_word percent rest = record { ends = refl; apart = λ h. (refl, refl) }

alias_keyword_is_cut : (k : Kind) (rest : List ℕ) → IsTokenCut (context.First (mode_of_alias_line k)) true false kind.Word (units_of_plain_bytes (alias_line_keyword k)) (32 ∷ rest)
alias_keyword_is_cut User rest = word_units_are_cut_as_word (context.First mode.Words) true (Byte 85) (units_of_plain_bytes (codes "ser_Alias")) (32 ∷ rest) (bytes_passing_test_are_units_of_it is_word_byte (codes "User_Alias") refl) (first_word_context_takes_words 85) (space_ends_word false rest)
alias_keyword_is_cut Runas rest = word_units_are_cut_as_word (context.First mode.Words) true (Byte 82) (units_of_plain_bytes (codes "unas_Alias")) (32 ∷ rest) (bytes_passing_test_are_units_of_it is_word_byte (codes "Runas_Alias") refl) (first_word_context_takes_words 82) (space_ends_word false rest)
alias_keyword_is_cut Host rest = word_units_are_cut_as_word (context.First mode.Words) true (Byte 72) (units_of_plain_bytes (codes "ost_Alias")) (32 ∷ rest) (bytes_passing_test_are_units_of_it is_word_byte (codes "Host_Alias") refl) (first_word_context_takes_words 72) (space_ends_word false rest)
alias_keyword_is_cut Cmnd rest = word_units_are_cut_as_word (context.First mode.Commands) true (Byte 67) (units_of_plain_bytes (codes "mnd_Alias")) (32 ∷ rest) (bytes_passing_test_are_units_of_it is_word_byte (codes "Cmnd_Alias") refl) (first_command_context_takes_words 67) (space_ends_word false rest)

name_context_follows_alias_keyword : (k : Kind) (rest : List ℕ) → context_after_token (context.First (mode_of_alias_line k)) kind.Word (text_of_units (units_of_plain_bytes (alias_line_keyword k))) rest ≡ context_of_alias_name k
name_context_follows_alias_keyword User rest = refl
name_context_follows_alias_keyword k rest = refl

alias_name_forms_are_of_word_lists : (k : Kind) → token_forms_in_context (context_of_alias_name k) ≡ token_forms_in_word_lists
alias_name_forms_are_of_word_lists User = refl
alias_name_forms_are_of_word_lists k = refl

alias_name_keeps_context : (k : Kind) (text rest : List ℕ) → context_after_token (context_of_alias_name k) kind.Word text rest ≡ context_of_alias_name k
alias_name_keeps_context User text rest = refl
alias_name_keeps_context k text rest = refl

list_context_follows_equals_sign : (k : Kind) (rest : List ℕ) → context_after_token (context_of_alias_name k) kind.Punct (61 ∷ []) rest ≡ context_of_alias_list k
list_context_follows_equals_sign User rest = refl
list_context_follows_equals_sign k rest = refl

-- ---- a list of the kind

-- The tokens of a list, and all that is known of them.
pub record AreTokensOfAliasList (k : Kind) (ms : List Member) (list : List WrittenToken) : Type 0 where
  pub cut : AreTokensCut (context_of_alias_list k) true list
  pub read : (ts : List TokenWithBytes) → AreTokensShownBy list ts → ReadsAsSameThing (IsAliasMemberList k) (AreItemsPairwiseRelated MemberIsReadBackAs) ts ms []
  pub text : line_of_written_tokens list ≡ 32 ∷ (printed_member_list false k ms ++ 10 ∷ [])

abbrev pub tokens_of_alias_line : Kind → List ℕ → List WrittenToken → List WrittenToken
tokens_of_alias_line k name list = token_of_plain_word (alias_line_keyword k) false ∷ token_of_plain_word name true ∷ token_of_mark 61 true ∷ list

alias_line_is_cut_if_list_is : (k : Kind) (name : List ℕ) (list : List WrittenToken) → is_name name ≡ true → AreTokensCut (context_of_alias_list k) true list → AreTokensCut (context.First (mode_of_alias_line k)) true (tokens_of_alias_line k name list)
alias_line_is_cut_if_list_is k name list is cut =
    let equals = token_of_mark 61 true ∷ list in
    let named = token_of_plain_word name true ∷ equals in (
      false,
      alias_keyword_is_cut k (text_of_units (units_of_plain_bytes name) ++ line_of_written_tokens equals),
      subst (λ (c : TokenContext). AreTokensCut c false named) (sym (name_context_follows_alias_keyword k (line_of_written_tokens named))) (
        false,
        alias_name_in_word_list_is_cut (context_of_alias_name k) false name (line_of_written_tokens equals) (alias_name_forms_are_of_word_lists k) is (record { word = refl; hash = refl; colon = refl; digit = refl }),
        subst (λ (c : TokenContext). AreTokensCut c false equals) (sym (alias_name_keeps_context k (text_of_units (units_of_plain_bytes name)) (line_of_written_tokens equals))) (
          true,
          punctuation_in_word_list_is_cut (context_of_alias_name k) false true 61 (line_of_written_tokens list) (alias_name_forms_are_of_word_lists k) refl (λ before begins is. refl),
          subst (λ (c : TokenContext). AreTokensCut c true list) (sym (list_context_follows_equals_sign k (line_of_written_tokens list))) cut,
        ),
      ),
    )

-- ---- what they say

pub token_of_alias_name_is_one : (name : List ℕ) (t : TokenWithBytes) → is_name name ≡ true → t.kind ≡ kind.Word → t.text ≡ name → is_alias_name t ≡ true
unfolding is_alias_name
token_of_alias_name_is_one name t is k text = rw (k, text, is) refl

alias_keyword_is_read_as_its_kind : (k : Kind) (t : TokenWithBytes) → t.kind ≡ kind.Word → t.text ≡ text_of_units (units_of_plain_bytes (alias_line_keyword k)) → alias_kind_of_token t ≡ Some k
unfolding alias_kind_of_token
alias_keyword_is_read_as_its_kind User t k text = rw (k, text) refl
alias_keyword_is_read_as_its_kind n t k text = rw (k, text) refl

pub no_written_token_shows_line_end : (rest : List TokenWithBytes) → AreTokensShownBy [] rest → IsEnd rest
no_written_token_shows_line_end [] shown = tt
no_written_token_shows_line_end (t ∷ ts) shown = absurd shown

-- what is said of some tokens
pub record ReadsAsAliasDefinition (k : Kind) (ts : List TokenWithBytes) (d : Def) : Type 0 where
  pub read : Def
  pub reads : Reads ts (node.Alias k (read ∷ []))
  pub same : DefinitionIsReadBackAs d read

alias_tokens_read_as_definition : (k : Kind) (d : Def) (list : List WrittenToken) → is_name d.name ≡ true → ((ts : List TokenWithBytes) → AreTokensShownBy list ts → ReadsAsSameThing (IsAliasMemberList k) (AreItemsPairwiseRelated MemberIsReadBackAs) ts d.members []) → (ts : List TokenWithBytes) → AreTokensShownBy (tokens_of_alias_line k d.name list) ts → ReadsAsAliasDefinition k ts d
alias_tokens_read_as_definition k d list is reads [] shown = absurd shown
alias_tokens_read_as_definition k d list is reads (w ∷ []) shown = absurd shown.2
alias_tokens_read_as_definition k d list is reads (w ∷ n ∷ []) shown = absurd shown.2.2
alias_tokens_read_as_definition k d list is reads (w ∷ n ∷ e ∷ ts) shown =
    let members = reads ts shown.2.2.2 in
    let name : n.text ≡ d.name = shown.2.1 ∙ text_of_plain_units_is_bytes d.name in
    record {
      read = record { name = d.name; start = n.start; stop = stop_of_last_member members.thing; members = members.thing };
      reads = (
        members.rest,
        record {
          word = w;
          behind = n ∷ e ∷ ts;
          split = refl;
          is_kind = alias_keyword_is_read_as_its_kind k w shown.0 shown.1;
          defs = (
            members.rest,
            record {
              name = n;
              equals = e;
              behind = ts;
              split = refl;
              is_name = token_of_alias_name_is_one d.name n is shown.2.0 name;
              is_equals = punctuation_of_byte_is_its_mark 61 e shown.2.2.0 shown.2.2.1;
              members = members.is;
              same_name = sym name;
              start = refl;
              stop = refl;
            },
            refl,
          );
        },
        no_written_token_shows_line_end members.rest members.behind,
      );
      same = record { name = refl; members = members.alike };
    }

-- ---- the line

mode_of_alias_line_is_by_kind : (k : Kind) (rest : List ℕ) → line_mode (text_of_units (units_of_plain_bytes (alias_line_keyword k)) ++ 32 ∷ rest) ≡ mode_of_alias_line k
unfolding line_mode leading_run_size
mode_of_alias_line_is_by_kind User rest = refl
mode_of_alias_line_is_by_kind k rest = refl

pub text_of_alias_tokens_is_printed_line : (k : Kind) (d : Def) (list : List WrittenToken) → line_of_written_tokens list ≡ 32 ∷ (printed_member_list false k d.members ++ 10 ∷ []) → line_of_written_tokens (tokens_of_alias_line k d.name list) ≡ printed_line (node.Alias k (d ∷ []))
text_of_alias_tokens_is_printed_line k d list text =
    ap (λ (t : List ℕ). text_of_units (units_of_plain_bytes (alias_line_keyword k)) ++ (32 ∷ (text_of_units (units_of_plain_bytes d.name) ++ (32 ∷ 61 ∷ t)))) text
    ∙ ap (λ (t : List ℕ). t ++ (32 ∷ (text_of_units (units_of_plain_bytes d.name) ++ (32 ∷ 61 ∷ 32 ∷ (printed_member_list false k d.members ++ 10 ∷ []))))) (text_of_plain_units_is_bytes (alias_line_keyword k))
    ∙ ap (λ (t : List ℕ). alias_line_keyword k ++ (32 ∷ (t ++ (32 ∷ 61 ∷ 32 ∷ (printed_member_list false k d.members ++ 10 ∷ []))))) (text_of_plain_units_is_bytes d.name)
    ∙ joined (alias_line_keyword k) d.name (printed_member_list false k d.members)
  where
    joined : (a b c : List ℕ) → a ++ (32 ∷ (b ++ (32 ∷ 61 ∷ 32 ∷ (c ++ 10 ∷ [])))) ≡ a ++ codes " " ++ ((b ++ codes " = " ++ c) ++ []) ++ codes "\n"
    joined a b c = simp (append_assoc, append-nil)

abbrev pub CutTokensAreTokensOfLine : Type 0
CutTokensAreTokensOfLine = (m : Mode) (ps : List WrittenToken) → AreTokensCut (context.First m) true ps → HasTokens m (line_of_written_tokens ps) (tokens_placed_from_offset 0 ps)

-- A line of one definition is read as it is written.
pub printed_alias_line_with_list_reads_back : CutTokensAreTokensOfLine → (k : Kind) (d : Def) (list : List WrittenToken) → is_name d.name ≡ true → AreTokensOfAliasList k d.members list → LineReadsBackAs (printed_line (node.Alias k (d ∷ []))) (node.Alias k (d ∷ []))
printed_alias_line_with_list_reads_back law k d list is written =
    let ps = tokens_of_alias_line k d.name list in
    let says = alias_tokens_read_as_definition k d list is written.read (tokens_with_bytes (line_of_written_tokens ps) (tokens_placed_from_offset 0 ps)) (placed_tokens_of_line_show_written ps) in
    subst (λ (bytes : List ℕ). LineReadsBackAs bytes (node.Alias k (d ∷ []))) (text_of_alias_tokens_is_printed_line k d list written.text) (record {
      read = node.Alias k (says.read ∷ []);
      reads = record {
        tokens = tokens_placed_from_offset 0 ps;
        has = subst (λ (m : Mode). HasTokens m (line_of_written_tokens ps) (tokens_placed_from_offset 0 ps)) (sym (mode_of_alias_line_is_by_kind k (text_of_units (units_of_plain_bytes d.name) ++ (32 ∷ 61 ∷ line_of_written_tokens list)))) (law (mode_of_alias_line k) ps (alias_line_is_cut_if_list_is k d.name list is written.cut));
        reads = says.reads;
      };
      same = (refl, (says.same, tt));
    })

pub alias_line_with_written_list_is_cut : (k : Kind) (d : Def) (list : List WrittenToken) → is_name d.name ≡ true → AreTokensOfAliasList k d.members list → AreTokensCut (context.First (mode_of_alias_line k)) true (tokens_of_alias_line k d.name list)
alias_line_with_written_list_is_cut k d list is written = alias_line_is_cut_if_list_is k d.name list is written.cut
