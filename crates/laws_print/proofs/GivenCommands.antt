-- What is read as a command can be written.
use Rattle.laws_print.proofs.Common.{◌≡◌, ◌≢◌, ℕ, Bool, true, false, ◌&&◌, ◌||◌, not, List, [], ◌∷◌, ◌++◌, Some, None, refl, sym, ap, subst, ◌∙◌, ◌==◌}
use Rattle.laws_print.proofs.Common.{if◌then◌else◌, codes, AllByRecursion, bytes_eq, not-true, and_parts, or_parts, eqb-true, TokenKind, is_name}
use Rattle.laws_print.proofs.Common.{is_reserved, Args, Any, Nothing, Pattern, Atom, Command, is_escaped_for_policy_alone, pattern_of_remaining_bytes, pattern_of_text, TokenWithBytes}
use Rattle.laws_print.proofs.Common.{has_last_byte, has_byte, is_argument_of_empty_quotes, patterns_each_after_blank, args_of_argument_tokens, command_atom_of_word, command_atom_without_args, command_atom_with_args}
use Rattle.laws_print.proofs.Common.{command_atom_of_tokens, is_pattern_byte_but_backslash, is_backslash_kept_before, is_writable_pattern, IsWritableArgs, IsWritableCommandAtom, IsScopeCommandAtom}
use Rattle.std.proofs.lemmas.Option.{IfSome_then}
use Rattle.sudoers_text.specs.declared.token.TokenKind.TheVariants as kind
use Rattle.sudoers_grammar.specs.declared.node.Atom.TheVariants as atom
use Rattle.sudoers_grammar.specs.Piece.{has_first_byte}
use Rattle.sudoers_grammar.specs.Atom.{unreserved_alias_atom_of_word}
use Rattle.laws_print.proofs.Patterns.{pattern_begins_with_pair_or_its_byte, pattern_begins_with_plain_byte}
use Rattle.laws_print.proofs.Tidy.{IsTidyText}
use Rattle.laws_print.proofs.Tight.{tight_text_is_tidy, last_byte_of_tight_pattern_is_same}
use Rattle.laws_print.proofs.TidyPatterns.{JoinsWithPatterns, unescaped_byte_joins_with_patterns, kept_pair_joins_with_patterns, command_spelling_makes_command_patterns, pattern_of_tidy_text_is_writable}
use Rattle.laws_print.proofs.TidyPieces.{IsTokenTextOfKind, OpensWithByteOrPair, by_byte, by_pair}
use Rattle.laws_print.proofs.GivenTokens.{is_kind_before_args, IsGivenToken}
use Rattle.laws_print.proofs.Gives.{GivesOnlySuchAtom, property_of_both_holds_for_choice}
use Rattle.laws_print.proofs.DefaultsTokens.{scope_command_atom_is_writable}
use Rattle.laws_print.proofs.Words.{passing_byte_differs_from_failing_byte}

-- ---- words and paths, without arguments

word_gives_only_scope_command_alias : (text : List ℕ) → GivesOnlySuchAtom IsScopeCommandAtom (unreserved_alias_atom_of_word text)
word_gives_only_scope_command_alias text = by_test (is_name text && not (is_reserved text)) refl
  where
    by_test : (t : Bool) → (is_name text && not (is_reserved text)) ≡ t → GivesOnlySuchAtom IsScopeCommandAtom (if t then Some (atom.Alias text) else None)
    by_test true e = let parts = and_parts (is_name text) (not (is_reserved text)) e in (parts.0, not-true (is_reserved text) parts.1)
    by_test false e = tt

word_gives_only_scope_command : (text : List ℕ) → GivesOnlySuchAtom IsScopeCommandAtom (command_atom_of_word text)
word_gives_only_scope_command text =
    property_of_both_holds_for_choice (GivesOnlySuchAtom IsScopeCommandAtom) (bytes_eq text (codes "ALL")) (Some atom.All) (if bytes_eq text (codes "list") then Some atom.Listing else (if bytes_eq text (codes "sudoedit") then Some (atom.Sudoedit Any) else unreserved_alias_atom_of_word text)) tt
    (property_of_both_holds_for_choice (GivesOnlySuchAtom IsScopeCommandAtom) (bytes_eq text (codes "list")) (Some atom.Listing) (if bytes_eq text (codes "sudoedit") then Some (atom.Sudoedit Any) else unreserved_alias_atom_of_word text) tt
    (property_of_both_holds_for_choice (GivesOnlySuchAtom IsScopeCommandAtom) (bytes_eq text (codes "sudoedit")) (Some (atom.Sudoedit Any)) (unreserved_alias_atom_of_word text) refl (word_gives_only_scope_command_alias text)))

pattern_of_slash_text_begins_with_slash : (text : List ℕ) → has_first_byte 47 text ≡ true → has_first_byte 47 (pattern_of_text Command text) ≡ true
unfolding pattern_of_text
pattern_of_slash_text_begins_with_slash [] h = absurd (cc)
pattern_of_slash_text_begins_with_slash (b ∷ text) h = ap (λ (c : ℕ). has_first_byte 47 (pattern_of_remaining_bytes Command 0 (c ∷ text))) (eqb-true b 47 h)

pub pattern_of_path_is_writable_with_slash : (text : List ℕ) → IsTokenTextOfKind kind.Path text → has_byte 0 text ≡ false → (is_writable_pattern Command (pattern_of_text Command text) ≡ true) × (has_first_byte 47 (pattern_of_text Command text) ≡ true)
pattern_of_path_is_writable_with_slash text is nul = (pattern_of_tidy_text_is_writable Command Command command_spelling_makes_command_patterns text (tight_text_is_tidy text is.0) nul, pattern_of_slash_text_begins_with_slash text is.1)

pub token_without_args_gives_scope_command : (k : TokenKind) (text : List ℕ) → IsTokenTextOfKind k text → has_byte 0 text ≡ false → GivesOnlySuchAtom IsScopeCommandAtom (command_atom_without_args k text)
unfolding command_atom_without_args
token_without_args_gives_scope_command kind.Word text is nul = word_gives_only_scope_command text
token_without_args_gives_scope_command kind.Path text is nul = let path = pattern_of_path_is_writable_with_slash text is nul in ((path.0, path.1, tt, tt), refl)
token_without_args_gives_scope_command k text is nul = tt

path_with_writable_args_is_writable : (text : List ℕ) (args : Args) → IsTokenTextOfKind kind.Path text → has_byte 0 text ≡ false → IsWritableArgs args → has_last_byte 47 text ≡ false → IsWritableCommandAtom (atom.Path (pattern_of_text Command text) args)
path_with_writable_args_is_writable text args is nul all ends =
    let path = pattern_of_path_is_writable_with_slash text is nul in
    let last : has_last_byte 47 (pattern_of_text Command text) ≡ false = last_byte_of_tight_pattern_is_same Command tt 47 text is.0 ∙ ends in
    by_args args path.0 path.1 all last
  where
    by_args : (args : Args) → is_writable_pattern Command (pattern_of_text Command text) ≡ true → has_first_byte 47 (pattern_of_text Command text) ≡ true → IsWritableArgs args → has_last_byte 47 (pattern_of_text Command text) ≡ false → IsWritableCommandAtom (atom.Path (pattern_of_text Command text) args)
    by_args Any pattern slash all last = (pattern, slash, all, tt)
    by_args Nothing pattern slash all last = (pattern, slash, all, last)
    by_args (Pattern p) pattern slash all last = (pattern, slash, all, last)

token_with_args_gives_writable_command : (k : TokenKind) (text : List ℕ) (args : Args) → IsTokenTextOfKind k text → has_byte 0 text ≡ false → (is_kind_before_args k ≡ true → IsWritableArgs args) → GivesOnlySuchAtom IsWritableCommandAtom (command_atom_with_args k text args)
unfolding command_atom_with_args
token_with_args_gives_writable_command kind.Word text args is nul all = property_of_both_holds_for_choice (GivesOnlySuchAtom IsWritableCommandAtom) (bytes_eq text (codes "sudoedit")) (Some (atom.Sudoedit args)) None (all refl) tt
token_with_args_gives_writable_command kind.Path text args is nul all = by_end (has_last_byte 47 text) refl
  where
    by_end : (t : Bool) → has_last_byte 47 text ≡ t → GivesOnlySuchAtom IsWritableCommandAtom (if t then None else Some (atom.Path (pattern_of_text Command text) args))
    by_end true e = tt
    by_end false e = path_with_writable_args_is_writable text args is nul (all refl) e
token_with_args_gives_writable_command k text args is nul all = tt

-- ---- arguments

-- how the pattern of an argument begins
pattern_of_opening_text_is_not_empty : (text : List ℕ) → OpensWithByteOrPair text → has_first_byte 94 text ≡ false → (pattern_of_text Command text ≢ []) × (has_first_byte 94 (pattern_of_text Command text) ≡ false)
unfolding pattern_of_text
pattern_of_opening_text_is_not_empty text (by_byte {b = b} {rest = rest} h) hat =
    let other : (b == 92) ≡ false = (or_parts (b == 10 || b == 13) (b == 92) (not-true _ h)).1 in
    let whole = pattern_begins_with_plain_byte Command tt b rest other in
    (λ e. absurd (let both = sym whole ∙ e in cc), ap (has_first_byte 94) whole ∙ hat)
pattern_of_opening_text_is_not_empty text (by_pair {c = c} {rest = rest} is) hat = by_kept (is_escaped_for_policy_alone c) refl
  where
    by_kept : (t : Bool) → is_escaped_for_policy_alone c ≡ t → (pattern_of_remaining_bytes Command 0 (92 ∷ c ∷ rest) ≢ []) × (has_first_byte 94 (pattern_of_remaining_bytes Command 0 (92 ∷ c ∷ rest)) ≡ false)
    by_kept true e =
        let whole = pattern_begins_with_pair_or_its_byte Command tt c rest is true e in
        (λ none. absurd (let both = sym whole ∙ none in cc), ap (has_first_byte 94) whole ∙ passing_byte_differs_from_failing_byte is_escaped_for_policy_alone 94 c e refl)
    by_kept false e =
        let whole = pattern_begins_with_pair_or_its_byte Command tt c rest is false e in
        (λ none. absurd (let both = sym whole ∙ none in cc), ap (has_first_byte 94) whole)

-- a pattern before another
writable_pattern_joins_with_next : (p : List ℕ) → is_writable_pattern Command p ≡ true → JoinsWithPatterns Command p
writable_pattern_joins_with_next [] h y is = is
writable_pattern_joins_with_next (b ∷ []) h y is = unescaped_byte_joins_with_patterns Command b h y is
writable_pattern_joins_with_next (b ∷ c ∷ rest) h y is = by_backslash (b == 92) refl h (writable_pattern_joins_with_next rest) (writable_pattern_joins_with_next (c ∷ rest))
  where
    by_backslash : (t : Bool) → (b == 92) ≡ t → (if t then is_backslash_kept_before Command c && is_writable_pattern Command rest else is_pattern_byte_but_backslash b && is_writable_pattern Command (c ∷ rest)) ≡ true → (is_writable_pattern Command rest ≡ true → JoinsWithPatterns Command rest) → (is_writable_pattern Command (c ∷ rest) ≡ true → JoinsWithPatterns Command (c ∷ rest)) → is_writable_pattern Command (b ∷ c ∷ (rest ++ y)) ≡ true
    by_backslash true e h pair byte =
        let parts = and_parts (is_backslash_kept_before Command c) (is_writable_pattern Command rest) h in
        ap (λ (x : ℕ). is_writable_pattern Command (x ∷ c ∷ (rest ++ y))) (eqb-true b 92 e) ∙ kept_pair_joins_with_patterns Command c parts.0 (rest ++ y) (pair parts.1 y is)
    by_backslash false e h pair byte =
        let parts = and_parts (is_pattern_byte_but_backslash b) (is_writable_pattern Command (c ∷ rest)) h in
        unescaped_byte_joins_with_patterns Command b parts.0 (c ∷ (rest ++ y)) (byte parts.1 y is)

-- what is known of arguments
abbrev pub AreTidyArgsWithoutNul : List TokenWithBytes → Type 0
AreTidyArgsWithoutNul args = AllByRecursion (λ (t : TokenWithBytes). IsTidyText t.text × (has_byte 0 t.text ≡ false)) args

pattern_of_tidy_argument_is_writable : (a : TokenWithBytes) → IsTidyText a.text × (has_byte 0 a.text ≡ false) → is_writable_pattern Command (pattern_of_text Command a.text) ≡ true
pattern_of_tidy_argument_is_writable a is = pattern_of_tidy_text_is_writable Command Command command_spelling_makes_command_patterns a.text is.0 is.1

patterns_after_blanks_are_writable : (args : List TokenWithBytes) → AreTidyArgsWithoutNul args → is_writable_pattern Command (patterns_each_after_blank args) ≡ true
patterns_after_blanks_are_writable [] all = refl
patterns_after_blanks_are_writable (a ∷ args) all = unescaped_byte_joins_with_patterns Command 32 refl (pattern_of_text Command a.text ++ patterns_each_after_blank args) (writable_pattern_joins_with_next (pattern_of_text Command a.text) (pattern_of_tidy_argument_is_writable a all.0) (patterns_each_after_blank args) (patterns_after_blanks_are_writable args all.1))

joined_pattern_keeps_lack_of_first_caret : (p q : List ℕ) → p ≢ [] → has_first_byte 94 p ≡ false → has_first_byte 94 (p ++ q) ≡ false
joined_pattern_keeps_lack_of_first_caret [] q some h = absurd (some refl)
joined_pattern_keeps_lack_of_first_caret (b ∷ p) q some h = h

joined_pattern_is_not_empty : (p q : List ℕ) → p ≢ [] → p ++ q ≢ []
joined_pattern_is_not_empty [] q some = absurd (some refl)
joined_pattern_is_not_empty (b ∷ p) q some = λ e. absurd (cc)

args_of_argument_tokens_are_writable : (a : TokenWithBytes) (args : List TokenWithBytes) → AreTidyArgsWithoutNul (a ∷ args) → OpensWithByteOrPair a.text → has_first_byte 94 a.text ≡ false → IsWritableArgs (args_of_argument_tokens (a ∷ args))
args_of_argument_tokens_are_writable a [] all opens hat = by_none (is_argument_of_empty_quotes a.text)
  where
    by_none : (t : Bool) → IsWritableArgs (if t then Nothing else Pattern (pattern_of_text Command a.text))
    by_none true = tt
    by_none false = let begins = pattern_of_opening_text_is_not_empty a.text opens hat in (pattern_of_tidy_argument_is_writable a all.0, begins.0, begins.1)
args_of_argument_tokens_are_writable a (b ∷ args) all opens hat =
    let p = pattern_of_text Command a.text in
    let q = patterns_each_after_blank (b ∷ args) in
    let begins = pattern_of_opening_text_is_not_empty a.text opens hat in
    (writable_pattern_joins_with_next p (pattern_of_tidy_argument_is_writable a all.0) q (patterns_after_blanks_are_writable (b ∷ args) all.1), joined_pattern_is_not_empty p q begins.0, joined_pattern_keeps_lack_of_first_caret p q begins.0 begins.1)

-- ---- commands

tokens_of_command_give_writable_one : (t : TokenWithBytes) (args : List TokenWithBytes) → IsGivenToken t → AreTidyArgsWithoutNul args → ((a : TokenWithBytes) (more : List TokenWithBytes) → args ≡ a ∷ more → is_kind_before_args t.kind ≡ true → OpensWithByteOrPair a.text) → GivesOnlySuchAtom IsWritableCommandAtom (command_atom_of_tokens t args)
tokens_of_command_give_writable_one t [] is all opens = IfSome_then (command_atom_of_tokens t []) (token_without_args_gives_scope_command t.kind t.text is.0 is.1) scope_command_atom_is_writable
tokens_of_command_give_writable_one t (a ∷ args) is all opens = by_hat (has_first_byte 94 a.text) refl
  where
    by_hat : (h : Bool) → has_first_byte 94 a.text ≡ h → GivesOnlySuchAtom IsWritableCommandAtom (if h then None else command_atom_with_args t.kind t.text (args_of_argument_tokens (a ∷ args)))
    by_hat true e = tt
    by_hat false e = token_with_args_gives_writable_command t.kind t.text (args_of_argument_tokens (a ∷ args)) is.0 is.1 (λ takes. args_of_argument_tokens_are_writable a args all (opens a args refl takes) e)

-- What is read of tokens as a command can be written.
pub command_atom_of_given_tokens_is_writable : (t : TokenWithBytes) (args : List TokenWithBytes) (a : Atom) → IsGivenToken t → AreTidyArgsWithoutNul args → ((x : TokenWithBytes) (more : List TokenWithBytes) → args ≡ x ∷ more → is_kind_before_args t.kind ≡ true → OpensWithByteOrPair x.text) → command_atom_of_tokens t args ≡ Some a → IsWritableCommandAtom a
command_atom_of_given_tokens_is_writable t args a is all opens e = subst (GivesOnlySuchAtom IsWritableCommandAtom) e (tokens_of_command_give_writable_one t args is all opens)
