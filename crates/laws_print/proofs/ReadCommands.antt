-- Commands as they are written are read as these commands.
use Rattle.laws_print.proofs.Common.{◌≡◌, ◌≢◌, ℕ, Bool, true, false, ◌&&◌, ◌||◌, not, List, [], ◌∷◌, ◌++◌, Some, None, refl, sym, ap, subst, ◌∙◌}
use Rattle.laws_print.proofs.Common.{append-nil, ◌==◌, if◌then◌else◌, codes, AllByRecursion, list_all, bytes_eq, not-true, or_parts, and_parts}
use Rattle.laws_print.proofs.Common.{TokenKind, LineUnit, Pair, Byte, is_blank, is_upper, is_name, is_reserved, is_tag, is_option_name, is_alias_byte}
use Rattle.laws_print.proofs.Common.{Args, Any, Nothing, Pattern, Atom, Command, is_escaped_for_policy_alone, pattern_of_text, TokenWithBytes, has_last_byte, is_arg, is_argument_of_empty_quotes}
use Rattle.laws_print.proofs.Common.{patterns_each_after_blank, args_of_argument_tokens, command_atom_without_args, command_atom_with_args, command_atom_of_tokens, command_atom_of_word, IsArg, WrittenToken, text_of_units, AreTokensShownBy}
use Rattle.laws_print.proofs.Common.{is_pattern_unit, ArePatternUnits, escaped_pattern_units, units_of_pattern, is_space_unit, begins_with_other_than_space, words_with_unit_in_first, argument_words_of_units}
use Rattle.laws_print.proofs.Common.{tokens_of_argument_words, text_of_words_joined_by_spaces, is_writable_pattern, IsWritableArgs, IsWritableCommandAtom}
use Rattle.sudoers_text.specs.declared.token.TokenKind.TheVariants as kind
use Rattle.sudoers_grammar.specs.declared.node.Atom.TheVariants as atom
use Rattle.sudoers_grammar.specs.Piece.{has_first_byte}
use Rattle.laws_print.proofs.CommandTokens.{tokens_of_arguments, tokens_of_command_atom}
use Rattle.laws_print.specs.Writable.{PathMayHaveArgs}
use Rattle.laws_print.proofs.Users.{text_of_plain_units_is_bytes}
use Rattle.laws_print.proofs.Patterns.{units_of_writable_pattern_are_pattern_units, escaped_pattern_units_are_read_back, text_of_pattern_units_is_pattern, text_of_escaped_units_is_escaped_pattern, last_byte_of_escaped_pattern_is_same}
use Rattle.laws_print.proofs.Arguments.{AreArgumentWords, words_of_units_are_argument_words, joined_argument_words_are_text_of_units, argument_words_of_pattern_are_patterns}
use Rattle.laws_print.proofs.Words.{passing_byte_differs_from_failing_byte}

-- the first byte of a written pattern is no `"`, and no `^` where the pattern's is none
escaped_command_pattern_has_other_first_byte : (a : ℕ) (u : LineUnit) (us : List LineUnit) → (92 == a) ≡ false → is_pattern_unit Command u ≡ true → ((b : ℕ) → u ≡ Byte b → is_escaped_for_policy_alone b ≡ false → (b == a) ≡ false) → has_first_byte a (text_of_units (escaped_pattern_units Command (u ∷ us))) ≡ false
escaped_command_pattern_has_other_first_byte a (Pair c) us other h apart = other
escaped_command_pattern_has_other_first_byte a (Byte b) us other h apart = by_escape (is_escaped_for_policy_alone b) refl
  where
    by_escape : (t : Bool) → is_escaped_for_policy_alone b ≡ t → has_first_byte a (text_of_units ((if t then Pair b else Byte b) ∷ escaped_pattern_units Command us)) ≡ false
    by_escape true e = other
    by_escape false e = apart b refl e
escaped_command_pattern_has_other_first_byte a u us other h apart = absurd (cc)

byte_needing_no_escape_is_no_quote : (b : ℕ) → is_escaped_for_policy_alone b ≡ false → (b == 34) ≡ false
byte_needing_no_escape_is_no_quote b e = (or_parts (b == 44 || b == 58 || b == 61 || b == 35) (b == 34) (or_parts (b == 44 || b == 58 || b == 61 || b == 35 || b == 34) (is_blank b) e).0).1

-- ---- arguments

-- the texts of arguments
abbrev pub AreTextsOfArgumentWords : List (List LineUnit) → List TokenWithBytes → Type 0
AreTextsOfArgumentWords [] [] = Unit {0}
AreTextsOfArgumentWords [] (a ∷ args) = ⊥
AreTextsOfArgumentWords (w ∷ ws) [] = ⊥
AreTextsOfArgumentWords (w ∷ ws) (a ∷ args) = (a.text ≡ text_of_units (escaped_pattern_units Command w)) × AreTextsOfArgumentWords ws args

pub record HasArgumentTokensBeforeTail (ws : List (List LineUnit)) (ts : List TokenWithBytes) (tail : List WrittenToken) : Type 0 where
  pub args : List TokenWithBytes
  pub rest : List TokenWithBytes
  pub split : ts ≡ args ++ rest
  pub are_args : AllByRecursion IsArg args
  pub texts : AreTextsOfArgumentWords ws args
  pub behind : AreTokensShownBy tail rest

argument_tokens_stand_before_tail : (ws : List (List LineUnit)) (tail : List WrittenToken) (ts : List TokenWithBytes) → AreTokensShownBy (tokens_of_argument_words ws tail) ts → HasArgumentTokensBeforeTail ws ts tail
argument_tokens_stand_before_tail [] tail ts shows = record { args = []; rest = ts; split = refl; are_args = tt; texts = tt; behind = shows }
argument_tokens_stand_before_tail (w ∷ ws) tail [] shows = absurd shows
argument_tokens_stand_before_tail (w ∷ ws) tail (a ∷ ts) shows =
    let more = argument_tokens_stand_before_tail ws tail ts shows.2 in
    record {
      args = a ∷ more.args;
      rest = more.rest;
      split = ap (λ (us : List TokenWithBytes). a ∷ us) more.split;
      are_args = (ap is_arg shows.0, more.are_args);
      texts = (shows.1, more.texts);
      behind = more.behind;
    }

escaped_argument_word_is_read_back : (w : List LineUnit) (a : TokenWithBytes) → ArePatternUnits Command w → a.text ≡ text_of_units (escaped_pattern_units Command w) → pattern_of_text Command a.text ≡ text_of_units w
escaped_argument_word_is_read_back w a all text = ap (pattern_of_text Command) text ∙ escaped_pattern_units_are_read_back Command tt w all

patterns_of_argument_texts_join_to_words : (w : List LineUnit) (ws : List (List LineUnit)) (a : TokenWithBytes) (args : List TokenWithBytes) → AllByRecursion (ArePatternUnits Command) (w ∷ ws) → AreTextsOfArgumentWords (w ∷ ws) (a ∷ args) → pattern_of_text Command a.text ++ patterns_each_after_blank args ≡ text_of_words_joined_by_spaces (w ∷ ws)
patterns_of_argument_texts_join_to_words w [] a [] all texts = append-nil (pattern_of_text Command a.text) ∙ escaped_argument_word_is_read_back w a all.0 texts.0
patterns_of_argument_texts_join_to_words w (v ∷ ws) a (b ∷ args) all texts =
    ap (λ (t : List ℕ). t ++ (32 ∷ (pattern_of_text Command b.text ++ patterns_each_after_blank args))) (escaped_argument_word_is_read_back w a all.0 texts.0)
    ∙ ap (λ (t : List ℕ). text_of_units w ++ 32 ∷ t) (patterns_of_argument_texts_join_to_words v ws b args all.1 texts.1)
patterns_of_argument_texts_join_to_words w ws a args all texts = absurd texts.1

argument_texts_are_read_as_joined_pattern : (w : List LineUnit) (ws : List (List LineUnit)) (a : TokenWithBytes) (args : List TokenWithBytes) → AllByRecursion (ArePatternUnits Command) (w ∷ ws) → AreTextsOfArgumentWords (w ∷ ws) (a ∷ args) → has_first_byte 34 a.text ≡ false → args_of_argument_tokens (a ∷ args) ≡ Pattern (text_of_words_joined_by_spaces (w ∷ ws))
argument_texts_are_read_as_joined_pattern w ws a [] all texts quote =
    ap (λ (t : Bool). if t then Nothing else Pattern (pattern_of_text Command a.text)) (ap (λ (t : Bool). t && bytes_eq (pattern_of_text Command a.text) (34 ∷ 34 ∷ [])) quote)
    ∙ ap Pattern (sym (append-nil (pattern_of_text Command a.text)) ∙ patterns_of_argument_texts_join_to_words w ws a [] all texts)
argument_texts_are_read_as_joined_pattern w ws a (b ∷ args) all texts quote = ap Pattern (patterns_of_argument_texts_join_to_words w ws a (b ∷ args) all texts)

-- the first word begins as the pattern does
first_argument_word_begins_with_first_unit : (u : LineUnit) (us : List LineUnit) → (w : List LineUnit) × (ws : List (List LineUnit)) × (argument_words_of_units false (u ∷ us) ≡ (u ∷ w) ∷ ws)
first_argument_word_begins_with_first_unit u us = by_space (is_space_unit u && (false && begins_with_other_than_space us)) refl
  where
    in_word : (ws : List (List LineUnit)) → AreArgumentWords us ws → (w : List LineUnit) × (vs : List (List LineUnit)) × (words_with_unit_in_first u ws ≡ (u ∷ w) ∷ vs)
    in_word ws is = (is.first, is.others, ap (words_with_unit_in_first u) is.parts)

    by_space : (t : Bool) → (is_space_unit u && (false && begins_with_other_than_space us)) ≡ t → (w : List LineUnit) × (ws : List (List LineUnit)) × ((if t then [] ∷ argument_words_of_units false us else words_with_unit_in_first u (argument_words_of_units (not (is_space_unit u)) us)) ≡ (u ∷ w) ∷ ws)
    by_space false e = in_word (argument_words_of_units (not (is_space_unit u)) us) (words_of_units_are_argument_words (not (is_space_unit u)) us)
    by_space true e = absurd (let none = (and_parts (is_space_unit u) false e).1 in cc)

-- the unit that the bytes begin with is no `^`
abbrev pub has_no_leading_caret : List LineUnit → Bool
has_no_leading_caret (Byte b ∷ us) = not (b == 94)
has_no_leading_caret us = true

units_of_pattern_without_caret_have_none : (p : List ℕ) → has_first_byte 94 p ≡ false → has_no_leading_caret (units_of_pattern p) ≡ true
units_of_pattern_without_caret_have_none [] h = refl
units_of_pattern_without_caret_have_none (b ∷ []) h = let other : (b == 94) ≡ false = h in rw other refl
units_of_pattern_without_caret_have_none (b ∷ c ∷ rest) h = by_backslash (b == 92)
  where
    by_backslash : (t : Bool) → has_no_leading_caret (if t then Pair c ∷ units_of_pattern rest else Byte b ∷ units_of_pattern (c ∷ rest)) ≡ true
    by_backslash true = refl
    by_backslash false = let other : (b == 94) ≡ false = h in rw other refl

-- what a command's arguments are read as: they begin with no `^`
pub record AreTokensReadAsArgs (args : List TokenWithBytes) (a : Args) : Type 0 where
  pub is : args_of_argument_tokens args ≡ a
  pub some : (t : TokenWithBytes) → (a ≡ Any → ⊥) → command_atom_of_tokens t args ≡ command_atom_with_args t.kind t.text a

argument_tokens_are_read_as_unit_pattern : (us : List LineUnit) (args : List TokenWithBytes) → ArePatternUnits Command us → has_no_leading_caret us ≡ true → AreTextsOfArgumentWords (argument_words_of_units false us) args → us ≢ [] → AreTokensReadAsArgs args (Pattern (text_of_units us))
argument_tokens_are_read_as_unit_pattern [] args all caret texts some = absurd (some refl)
argument_tokens_are_read_as_unit_pattern (u ∷ us) args all caret texts some =
    let word = first_argument_word_begins_with_first_unit u us in
    by_word word.0 word.1 args word.2 (subst (AllByRecursion (ArePatternUnits Command)) word.2 (argument_words_of_pattern_are_patterns false (u ∷ us) all)) (subst (λ (ws : List (List LineUnit)). AreTextsOfArgumentWords ws args) word.2 texts)
    (ap text_of_words_joined_by_spaces (sym word.2) ∙ joined_argument_words_are_text_of_units false (u ∷ us))
  where
    no_such : (b : ℕ) → u ≡ Byte b → is_escaped_for_policy_alone b ≡ false → (b == 94) ≡ false
    no_such b e f = not-true _ (subst (λ (v : LineUnit). has_no_leading_caret (v ∷ us) ≡ true) e caret)

    by_word : (w : List LineUnit) (ws : List (List LineUnit)) (args : List TokenWithBytes) → argument_words_of_units false (u ∷ us) ≡ (u ∷ w) ∷ ws → AllByRecursion (ArePatternUnits Command) ((u ∷ w) ∷ ws) → AreTextsOfArgumentWords ((u ∷ w) ∷ ws) args → text_of_words_joined_by_spaces ((u ∷ w) ∷ ws) ≡ text_of_units (u ∷ us) → AreTokensReadAsArgs args (Pattern (text_of_units (u ∷ us)))
    by_word w ws [] e fits texts whole = absurd texts
    by_word w ws (a ∷ args) e fits texts whole =
        let quote : has_first_byte 34 a.text ≡ false = ap (has_first_byte 34) texts.0 ∙ escaped_command_pattern_has_other_first_byte 34 u w refl fits.0.0 (λ b is bare. byte_needing_no_escape_is_no_quote b bare) in
        let hat : has_first_byte 94 a.text ≡ false = ap (has_first_byte 94) texts.0 ∙ escaped_command_pattern_has_other_first_byte 94 u w refl fits.0.0 no_such in
        let is : args_of_argument_tokens (a ∷ args) ≡ Pattern (text_of_units (u ∷ us)) = argument_texts_are_read_as_joined_pattern (u ∷ w) ws a args fits texts quote ∙ ap Pattern whole in
        record {
          is = is;
          some = λ t any. ap (λ (h : Bool). if h then None else command_atom_with_args t.kind t.text (args_of_argument_tokens (a ∷ args))) hat ∙ ap (command_atom_with_args t.kind t.text) is;
        }

-- the arguments that are read of some tokens
pub record ReadsAsArgsBeforeTail (ts : List TokenWithBytes) (a : Args) (tail : List WrittenToken) : Type 0 where
  pub args : List TokenWithBytes
  pub rest : List TokenWithBytes
  pub split : ts ≡ args ++ rest
  pub are_args : AllByRecursion IsArg args
  pub reads : AreTokensReadAsArgs args a
  pub behind : AreTokensShownBy tail rest

pattern_of_empty_quotes_is_itself : pattern_of_text Command (34 ∷ 34 ∷ []) ≡ 34 ∷ 34 ∷ []
unfolding pattern_of_text
pattern_of_empty_quotes_is_itself = refl

empty_quotes_are_read_as_no_args : (a : TokenWithBytes) → a.text ≡ 34 ∷ 34 ∷ [] → AreTokensReadAsArgs (a ∷ []) Nothing
empty_quotes_are_read_as_no_args a text =
    let is : args_of_argument_tokens (a ∷ []) ≡ Nothing =
    ap (λ (t : List ℕ). if is_argument_of_empty_quotes t then Nothing else Pattern (pattern_of_text Command t)) text
    ∙ ap (λ (p : List ℕ). if bytes_eq p (34 ∷ 34 ∷ []) then Nothing else Pattern (pattern_of_text Command (34 ∷ 34 ∷ []))) pattern_of_empty_quotes_is_itself in
    record {
      is = is;
      some = λ t any. ap (λ (bytes : List ℕ). if has_first_byte 94 bytes then None else command_atom_with_args t.kind t.text (args_of_argument_tokens (a ∷ []))) text ∙ ap (command_atom_with_args t.kind t.text) is;
    }

units_of_nonempty_pattern_are_some : (p : List ℕ) → p ≢ [] → units_of_pattern p ≢ []
units_of_nonempty_pattern_are_some p some e = some (sym (text_of_pattern_units_is_pattern p) ∙ ap text_of_units e)

tokens_of_arguments_are_read_back : (a : Args) (tail : List WrittenToken) (ts : List TokenWithBytes) → IsWritableArgs a → AreTokensShownBy (tokens_of_arguments a tail) ts → ReadsAsArgsBeforeTail ts a tail
tokens_of_arguments_are_read_back Any tail ts is shows = record { args = []; rest = ts; split = refl; are_args = tt; reads = record { is = refl; some = λ t any. absurd (any refl) }; behind = shows }
tokens_of_arguments_are_read_back Nothing tail [] is shows = absurd shows
tokens_of_arguments_are_read_back Nothing tail (a ∷ ts) is shows = record { args = a ∷ []; rest = ts; split = refl; are_args = (ap is_arg shows.0, tt); reads = empty_quotes_are_read_as_no_args a shows.1; behind = shows.2 }
tokens_of_arguments_are_read_back (Pattern p) tail ts is shows =
    let there = argument_tokens_stand_before_tail (argument_words_of_units false (units_of_pattern p)) tail ts shows in
    record {
      args = there.args;
      rest = there.rest;
      split = there.split;
      are_args = there.are_args;
      reads = subst (λ (q : List ℕ). AreTokensReadAsArgs there.args (Pattern q)) (text_of_pattern_units_is_pattern p) (argument_tokens_are_read_as_unit_pattern (units_of_pattern p) there.args (units_of_writable_pattern_are_pattern_units Command p is.0) (units_of_pattern_without_caret_have_none p is.2) there.texts (units_of_nonempty_pattern_are_some p is.1));
      behind = there.behind;
    }

-- ---- commands

-- what a command's tokens are read as
pub record ReadsAsCommandAtom (ts : List TokenWithBytes) (a : Atom) (tail : List WrittenToken) : Type 0 where
  pub word : TokenWithBytes
  pub args : List TokenWithBytes
  pub rest : List TokenWithBytes
  pub split : ts ≡ word ∷ (args ++ rest)
  pub are_args : AllByRecursion IsArg args
  pub atom : command_atom_of_tokens word args ≡ Some a
  pub behind : AreTokensShownBy tail rest

token_without_args_is_read_before_tail : (t : TokenWithBytes) (ts : List TokenWithBytes) (a : Atom) (tail : List WrittenToken) → command_atom_of_tokens t [] ≡ Some a → AreTokensShownBy tail ts → ReadsAsCommandAtom (t ∷ ts) a tail
token_without_args_is_read_before_tail t ts a tail is shows = record { word = t; args = []; rest = ts; split = refl; are_args = tt; atom = is; behind = shows }

word_token_is_read_by_its_text : (t : TokenWithBytes) (text : List ℕ) (a : Atom) → t.kind ≡ kind.Word → t.text ≡ text → command_atom_of_word text ≡ Some a → command_atom_of_tokens t [] ≡ Some a
unfolding command_atom_without_args
word_token_is_read_by_its_text t text a k e is = ap (λ (c : TokenKind). command_atom_without_args c t.text) k ∙ ap command_atom_of_word e ∙ is

command_alias_name_is_read_back : (name : List ℕ) → is_name name ≡ true → is_reserved name ≡ false → command_atom_of_word name ≡ Some (atom.Alias name)
command_alias_name_is_read_back [] is free = absurd (cc)
command_alias_name_is_read_back (b ∷ name) is free =
    let upper = (and_parts (is_upper b) (list_all is_alias_byte name) is).0 in
    let a = or_parts (bytes_eq (b ∷ name) (codes "ALL") || is_tag (b ∷ name)) (is_option_name (b ∷ name)) free in
    let parts = or_parts (bytes_eq (b ∷ name) (codes "ALL")) (is_tag (b ∷ name)) a.0 in
    rw parts.0 (rw (passing_byte_differs_from_failing_byte is_upper 108 b upper refl, passing_byte_differs_from_failing_byte is_upper 115 b upper refl) (rw (is, parts.1, a.1) refl))

escaped_path_keeps_no_last_slash : (path : List ℕ) → is_writable_pattern Command path ≡ true → has_last_byte 47 path ≡ false → has_last_byte 47 (text_of_units (escaped_pattern_units Command (units_of_pattern path))) ≡ false
escaped_path_keeps_no_last_slash path is ends = ap (has_last_byte 47) (text_of_escaped_units_is_escaped_pattern Command path is) ∙ last_byte_of_escaped_pattern_is_same Command 47 path ∙ ends

path_token_without_args_is_read_back : (path : List ℕ) (t : TokenWithBytes) → is_writable_pattern Command path ≡ true → t.kind ≡ kind.Path → t.text ≡ text_of_units (escaped_pattern_units Command (units_of_pattern path)) → command_atom_of_tokens t [] ≡ Some (atom.Path path Any)
unfolding command_atom_without_args
path_token_without_args_is_read_back path t all k text =
    ap (λ (c : TokenKind). command_atom_without_args c t.text) k
    ∙ ap (λ (p : List ℕ). Some (atom.Path p Any)) (ap (pattern_of_text Command) text ∙ escaped_pattern_units_are_read_back Command tt (units_of_pattern path) (units_of_writable_pattern_are_pattern_units Command path all) ∙ text_of_pattern_units_is_pattern path)

path_token_with_args_is_read_back : (path : List ℕ) (args : Args) (t : TokenWithBytes) → is_writable_pattern Command path ≡ true → t.kind ≡ kind.Path → t.text ≡ text_of_units (escaped_pattern_units Command (units_of_pattern path)) → has_last_byte 47 (text_of_units (escaped_pattern_units Command (units_of_pattern path))) ≡ false → command_atom_with_args t.kind t.text args ≡ Some (atom.Path path args)
unfolding command_atom_with_args
path_token_with_args_is_read_back path args t all k text ends =
    ap (λ (c : TokenKind). command_atom_with_args c t.text args) k
    ∙ ap (λ (x : List ℕ). if has_last_byte 47 x then None else Some (atom.Path (pattern_of_text Command x) args)) text
    ∙ ap (λ (h : Bool). if h then None else Some (atom.Path (pattern_of_text Command (text_of_units (escaped_pattern_units Command (units_of_pattern path)))) args)) ends
    ∙ ap (λ (p : List ℕ). Some (atom.Path p args)) (escaped_pattern_units_are_read_back Command tt (units_of_pattern path) (units_of_writable_pattern_are_pattern_units Command path all) ∙ text_of_pattern_units_is_pattern path)

sudoedit_token_with_args_is_read_back : (args : Args) (t : TokenWithBytes) → t.kind ≡ kind.Word → t.text ≡ codes "sudoedit" → command_atom_with_args t.kind t.text args ≡ Some (atom.Sudoedit args)
unfolding command_atom_with_args
sudoedit_token_with_args_is_read_back args t k text = ap (λ (c : TokenKind). command_atom_with_args c t.text args) k ∙ ap (λ (x : List ℕ). if bytes_eq x (codes "sudoedit") then Some (atom.Sudoedit args) else None) text

token_with_args_is_read_before_tail : (ts : List TokenWithBytes) (t : TokenWithBytes) (args : Args) (a : Atom) (tail : List WrittenToken) → ReadsAsArgsBeforeTail ts args tail → (args ≡ Any → ⊥) → command_atom_with_args t.kind t.text args ≡ Some a → ReadsAsCommandAtom (t ∷ ts) a tail
token_with_args_is_read_before_tail ts t args a tail read any is = record {
  word = t;
  args = read.args;
  rest = read.rest;
  split = ap (λ (us : List TokenWithBytes). t ∷ us) read.split;
  are_args = read.are_args;
  atom = read.reads.some t any ∙ is;
  behind = read.behind;
}

path_and_its_args_are_read_back : (path : List ℕ) (args : Args) (t : TokenWithBytes) (ts : List TokenWithBytes) (tail : List WrittenToken) → is_writable_pattern Command path ≡ true → IsWritableArgs args → PathMayHaveArgs path args → t.kind ≡ kind.Path → t.text ≡ text_of_units (escaped_pattern_units Command (units_of_pattern path)) → AreTokensShownBy (tokens_of_arguments args tail) ts → ReadsAsCommandAtom (t ∷ ts) (atom.Path path args) tail
path_and_its_args_are_read_back path Any t ts tail all is takes k text shows = token_without_args_is_read_before_tail t ts (atom.Path path Any) tail (path_token_without_args_is_read_back path t all k text) shows
path_and_its_args_are_read_back path Nothing t ts tail all is takes k text shows =
    token_with_args_is_read_before_tail ts t Nothing (atom.Path path Nothing) tail (tokens_of_arguments_are_read_back Nothing tail ts is shows) (λ e. absurd (cc)) (path_token_with_args_is_read_back path Nothing t all k text (escaped_path_keeps_no_last_slash path all takes))
path_and_its_args_are_read_back path (Pattern p) t ts tail all is takes k text shows =
    token_with_args_is_read_before_tail ts t (Pattern p) (atom.Path path (Pattern p)) tail (tokens_of_arguments_are_read_back (Pattern p) tail ts is shows) (λ e. absurd (cc)) (path_token_with_args_is_read_back path (Pattern p) t all k text (escaped_path_keeps_no_last_slash path all takes))

sudoedit_and_its_args_are_read_back : (args : Args) (t : TokenWithBytes) (ts : List TokenWithBytes) (tail : List WrittenToken) → IsWritableArgs args → t.kind ≡ kind.Word → t.text ≡ codes "sudoedit" → AreTokensShownBy (tokens_of_arguments args tail) ts → ReadsAsCommandAtom (t ∷ ts) (atom.Sudoedit args) tail
sudoedit_and_its_args_are_read_back Any t ts tail is k text shows = token_without_args_is_read_before_tail t ts (atom.Sudoedit Any) tail (word_token_is_read_by_its_text t (codes "sudoedit") (atom.Sudoedit Any) k text refl) shows
sudoedit_and_its_args_are_read_back Nothing t ts tail is k text shows = token_with_args_is_read_before_tail ts t Nothing (atom.Sudoedit Nothing) tail (tokens_of_arguments_are_read_back Nothing tail ts is shows) (λ e. absurd (cc)) (sudoedit_token_with_args_is_read_back Nothing t k text)
sudoedit_and_its_args_are_read_back (Pattern p) t ts tail is k text shows = token_with_args_is_read_before_tail ts t (Pattern p) (atom.Sudoedit (Pattern p)) tail (tokens_of_arguments_are_read_back (Pattern p) tail ts is shows) (λ e. absurd (cc)) (sudoedit_token_with_args_is_read_back (Pattern p) t k text)

pub command_atom_is_read_back : (spaced : Bool) (a : Atom) (tail : List WrittenToken) (ts : List TokenWithBytes) → IsWritableCommandAtom a → AreTokensShownBy (tokens_of_command_atom spaced a tail) ts → ReadsAsCommandAtom ts a tail
command_atom_is_read_back spaced atom.All tail (t ∷ ts) is shows = token_without_args_is_read_before_tail t ts atom.All tail (word_token_is_read_by_its_text t (codes "ALL") atom.All shows.0 shows.1 refl) shows.2
command_atom_is_read_back spaced (atom.Alias name) tail (t ∷ ts) is shows =
    token_without_args_is_read_before_tail t ts (atom.Alias name) tail (word_token_is_read_by_its_text t name (atom.Alias name) shows.0 (shows.1 ∙ text_of_plain_units_is_bytes name) (command_alias_name_is_read_back name is.0 is.1)) shows.2
command_atom_is_read_back spaced atom.Listing tail (t ∷ ts) is shows = token_without_args_is_read_before_tail t ts atom.Listing tail (word_token_is_read_by_its_text t (codes "list") atom.Listing shows.0 shows.1 refl) shows.2
command_atom_is_read_back spaced (atom.Path path args) tail (t ∷ ts) is shows = path_and_its_args_are_read_back path args t ts tail is.0 is.2 is.3 shows.0 shows.1 shows.2
command_atom_is_read_back spaced (atom.Sudoedit args) tail (t ∷ ts) is shows = sudoedit_and_its_args_are_read_back args t ts tail is shows.0 shows.1 shows.2
command_atom_is_read_back spaced a tail ts is shows = absurd assumption
