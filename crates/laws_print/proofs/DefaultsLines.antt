-- A Defaults line is read as it is printed, and is one logical line.
use Rattle.laws_print.proofs.Common.{◌≡◌, ℕ, Bool, true, false, List, [], ◌∷◌, Some, None, refl, sym, subst, Option, codes, Mode, HasTokens, Scope}
use Rattle.laws_print.proofs.Common.{Param, TokenWithBytes, tokens_with_bytes, is_given_word, Reads, is_defaults, PerhapsScope, printed_line, IsNonEmptyListOf, IsWritableScope}
use Rattle.laws_print.proofs.Common.{IsWritableParam, ScopeIsReadBackAs, LineReadsBackAs, WrittenToken, line_of_written_tokens, tokens_placed_from_offset, Start, AreTokensCutFromPlace, AreTokensShownBy}
use Rattle.sudoers_text.specs.declared.token.TokenKind.TheVariants as kind
use Rattle.sudoers_text.specs.declared.token.Mode.TheVariants as mode
use Rattle.sudoers_text.specs.declared.context.TokenContext.TheVariants as context
use Rattle.sudoers_grammar.specs.Node as node
use Rattle.laws_print.proofs.DefaultsTokens.{tokens_of_defaults_line, tokens_of_parameters, text_of_defaults_tokens_is_printed_line, tokens_of_parameter_parts, tokens_of_further_parameters}
use Rattle.laws_print.proofs.Whole.{tokens_cut_from_place_are_logical_line, IsLogicalLineWithoutNul}
use Rattle.laws_print.proofs.Shown.{placed_tokens_of_line_show_written}
use Rattle.laws_print.proofs.AliasLines.{no_written_token_shows_line_end}
use Rattle.laws_print.proofs.ScopeCuts.{defaults_line_is_cut, mode_of_defaults_tokens_is_parameters}
use Rattle.laws_print.proofs.ReadDefaults.{parameter_list_is_read_back, IsFirstTokenPlacedByScope, scope_is_read_back}

abbrev pub TokensCutFromStartAreOfLine : Type 0
TokensCutFromStartAreOfLine = (m : Mode) (ps : List WrittenToken) → AreTokensCutFromPlace (context.First m) Start ps → HasTokens m (line_of_written_tokens ps) (tokens_placed_from_offset 0 ps)

defaults_keyword_is_read_as_defaults : (t : TokenWithBytes) → t.kind ≡ kind.Word → t.text ≡ codes "Defaults" → is_defaults t ≡ true
unfolding is_given_word
defaults_keyword_is_read_as_defaults t k text = rw (k, text) refl

-- what is said of some tokens
pub record ReadsAsDefaultsNode (ts : List TokenWithBytes) (scope : Option Scope) (ps : List Param) : Type 0 where
  pub read : Option Scope
  pub reads : Reads ts (node.Defaults read ps)
  pub same : ScopeIsReadBackAs scope read

-- where the first token ends and the next begins
abbrev pub AreDefaultsTokensPlacedByScope : Option Scope → List TokenWithBytes → Type 0
AreDefaultsTokensPlacedByScope scope [] = Unit {0}
AreDefaultsTokensPlacedByScope scope (w ∷ ts) = (w.stop ≡ 8) × IsFirstTokenPlacedByScope scope ts

defaults_tokens_read_as_node : (scope : Option Scope) (ps : List Param) (ts : List TokenWithBytes) → IsWritableScope scope → IsNonEmptyListOf IsWritableParam ps → AreDefaultsTokensPlacedByScope scope ts → AreTokensShownBy (tokens_of_defaults_line scope ps) ts → ReadsAsDefaultsNode ts scope ps
defaults_tokens_read_as_node scope ps [] is all begun shown = absurd shown
defaults_tokens_read_as_node scope ps (w ∷ ts) is all begun shown =
    let scoped = scope_is_read_back scope (tokens_of_parameters ps) ts is begun.1 shown.2 in
    let params = parameter_list_is_read_back ps scoped.rest all scoped.behind in
    record {
      read = scoped.read;
      reads = (
        params.rest,
        record {
          word = w;
          behind = ts;
          behind_scope = scoped.rest;
          split = refl;
          is_word = defaults_keyword_is_read_as_defaults w shown.0 shown.1;
          in_scope = subst (λ (n : ℕ). PerhapsScope n ts scoped.read scoped.rest) (sym begun.0) scoped.is;
          params = params.is;
        },
        no_written_token_shows_line_end params.rest params.behind,
      );
      same = scoped.same;
    }

placed_defaults_tokens_are_by_scope : (line : List ℕ) (scope : Option Scope) (ps : List Param) → IsNonEmptyListOf IsWritableParam ps → AreDefaultsTokensPlacedByScope scope (tokens_with_bytes line (tokens_placed_from_offset 0 (tokens_of_defaults_line scope ps)))
placed_defaults_tokens_are_by_scope line None [] all = absurd all
placed_defaults_tokens_are_by_scope line None (p ∷ ps) all = (refl, by_sign p.negated)
  where
    by_sign : (negated : Bool) → IsFirstTokenPlacedByScope None (tokens_with_bytes line (tokens_placed_from_offset 8 (tokens_of_parameter_parts true negated p.name p.setting (tokens_of_further_parameters ps))))
    by_sign true = refl
    by_sign false = refl
placed_defaults_tokens_are_by_scope line (Some s) ps all = (refl, refl)

-- A Defaults line is read as it is printed.
pub printed_defaults_line_reads_back : TokensCutFromStartAreOfLine → (scope : Option Scope) (ps : List Param) → IsWritableScope scope → IsNonEmptyListOf IsWritableParam ps → LineReadsBackAs (printed_line (node.Defaults scope ps)) (node.Defaults scope ps)
printed_defaults_line_reads_back law scope [] is all = absurd all
printed_defaults_line_reads_back law scope (p ∷ ps) is all =
    let tokens = tokens_of_defaults_line scope (p ∷ ps) in
    let says = defaults_tokens_read_as_node scope (p ∷ ps) (tokens_with_bytes (line_of_written_tokens tokens) (tokens_placed_from_offset 0 tokens)) is all (placed_defaults_tokens_are_by_scope (line_of_written_tokens tokens) scope (p ∷ ps) all) (placed_tokens_of_line_show_written tokens) in
    subst (λ (bytes : List ℕ). LineReadsBackAs bytes (node.Defaults scope (p ∷ ps))) (text_of_defaults_tokens_is_printed_line scope p ps is all) (record {
      read = node.Defaults says.read (p ∷ ps);
      reads = record {
        tokens = tokens_placed_from_offset 0 tokens;
        has = subst (λ (m : Mode). HasTokens m (line_of_written_tokens tokens) (tokens_placed_from_offset 0 tokens)) (sym (mode_of_defaults_tokens_is_parameters scope (p ∷ ps) all)) (law mode.Parameters tokens (defaults_line_is_cut scope (p ∷ ps) is all));
        reads = says.reads;
      };
      same = (says.same, refl);
    })

pub printed_defaults_line_is_logical_line : (scope : Option Scope) (ps : List Param) → IsWritableScope scope → IsNonEmptyListOf IsWritableParam ps → IsLogicalLineWithoutNul (printed_line (node.Defaults scope ps))
printed_defaults_line_is_logical_line scope [] is all = absurd all
printed_defaults_line_is_logical_line scope (p ∷ ps) is all =
    subst IsLogicalLineWithoutNul (text_of_defaults_tokens_is_printed_line scope p ps is all)
    (tokens_cut_from_place_are_logical_line (tokens_of_defaults_line scope (p ∷ ps)) (context.First mode.Parameters) Start refl (defaults_line_is_cut scope (p ∷ ps) is all))
