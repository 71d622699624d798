-- Commands as they are written are tokens of a line.
use Rattle.laws_print.proofs.Common.{◌≡◌, ℕ, suc, Bool, true, false, ◌&&◌, ◌||◌, not, List, [], ◌∷◌, ◌++◌, length, refl, sym, ap, subst, ◌∙◌, arith}
use Rattle.laws_print.proofs.Common.{◌==◌, if◌then◌else◌, nat_lt, codes, AllByRecursion, list_all, bytes_eq, or_parts, and_parts, eqb-true, not-true}
use Rattle.laws_print.proofs.Common.{nat_tests, TokenContext, LineUnit, Quoted, Byte, reach_of_units, leading_run_size, argument_units_size, quotes_and_run_between_size, is_path_byte}
use Rattle.laws_print.proofs.Common.{is_word_byte, is_upper, token_forms_in_context, context_after_token, token_forms_in_word_lists, token_forms_in_command_lists, TokenForm, is_name, is_reserved, is_tag}
use Rattle.laws_print.proofs.Common.{is_option_name, is_alias_byte, kind_and_size_of_token, command_path_size, Args, Any, Nothing, Pattern, Atom, Command, is_writable_pattern}
use Rattle.laws_print.proofs.Common.{IsWritableArgs, IsWritableCommandAtom, WrittenToken, text_of_units, line_of_written_tokens, AllowsIdBehindUnits, IsTokenCut, AreTokensCut, AreWrittenUnitsOf, ArePatternUnits, escaped_pattern_units}
use Rattle.laws_print.proofs.Common.{units_of_pattern, is_space_unit, begins_with_other_than_space, words_with_unit_in_first, argument_words_of_units, tokens_of_argument_words}
use Rattle.sudoers_text.specs.declared.token.TokenKind.TheVariants as kind
use Rattle.sudoers_text.specs.declared.context.TokenContext.TheVariants as context
use Rattle.sudoers_text.specs.Part.{is_punct}
use Rattle.sudoers_grammar.specs.declared.node.Atom.TheVariants as atom
use Rattle.sudoers_grammar.specs.Piece.{has_first_byte}
use Rattle.laws_print.proofs.Units.{units_of_plain_bytes}
use Rattle.laws_print.proofs.CommandTokens.{tokens_of_arguments, tokens_of_command_atom, tokens_of_signed_command}
use Rattle.laws_print.proofs.Words.{size_of_matching_byte_or_pair, run_reach_of_units_is_their_length, text_of_units_is_closed, units_stand_in_text, plain_byte_begins_token, successor_is_above_zero, passing_byte_differs_from_failing_byte, plain_test_byte_is_plain, bytes_passing_test_are_units_of_it, text_of_units_has_no_nul}
use Rattle.laws_print.proofs.Words.{word_is_found_in_command_list}
use Rattle.laws_print.proofs.Cuts.{EndsWord, word_units_are_cut_as_word, TakesWords}
use Rattle.laws_print.proofs.Patterns.{units_of_writable_pattern_are_pattern_units, escaped_command_pattern_is_path_units}
use Rattle.laws_print.proofs.UserCuts.{found_punctuation_is_cut, name_is_nonempty_alias_bytes, alias_bytes_are_word_units}
use Rattle.laws_print.proofs.Users.{text_of_plain_units_is_bytes}
use Rattle.laws_print.proofs.Hosts.{units_of_nonempty_pattern_are_not_empty}
use Rattle.laws_print.proofs.Arguments.{size_of_empty_quotes_argument_is_two, HasSomeUnit, AreArgumentWords, words_of_units_are_argument_words, argument_words_of_pattern_are_patterns, EndsArgument, argument_units_are_cut, argument_keeps_argument_context}

-- ---- arguments

-- A command ends before these bytes, where they follow a path or arguments.
pub record EndsCommand (rest : List ℕ) : Type 0 where
  pub argument : EndsArgument rest
  pub word : EndsWord true rest

escaped_units_have_some_unit : (us : List LineUnit) → HasSomeUnit us → HasSomeUnit (escaped_pattern_units Command us)
escaped_units_have_some_unit [] h = h
escaped_units_have_some_unit (u ∷ us) h = tt

argument_word_tokens_end_argument : (ws : List (List LineUnit)) (tail : List WrittenToken) → EndsArgument (line_of_written_tokens tail) → EndsArgument (line_of_written_tokens (tokens_of_argument_words ws tail))
argument_word_tokens_end_argument [] tail ends = ends
argument_word_tokens_end_argument (w ∷ ws) tail ends = record { path = refl; quote = refl }

argument_word_tokens_are_cut : (ws : List (List LineUnit)) (tail : List WrittenToken) → AllByRecursion HasSomeUnit ws → AllByRecursion (ArePatternUnits Command) ws → EndsArgument (line_of_written_tokens tail) → AreTokensCut context.Arguments false tail → AreTokensCut context.Arguments false (tokens_of_argument_words ws tail)
argument_word_tokens_are_cut [] tail some all ends cut = cut
argument_word_tokens_are_cut (w ∷ ws) tail some all ends cut =
    let rest = line_of_written_tokens (tokens_of_argument_words ws tail) in
    let fits = escaped_command_pattern_is_path_units w all.0 in
    let behind_ends = argument_word_tokens_end_argument ws tail ends in (
      false,
      argument_units_are_cut (escaped_pattern_units Command w) rest false (escaped_units_have_some_unit w some.0) fits behind_ends,
      subst (λ (c : TokenContext). AreTokensCut c false (tokens_of_argument_words ws tail)) (sym (argument_keeps_argument_context (escaped_pattern_units Command w) rest fits)) (argument_word_tokens_are_cut ws tail some.1 all.1 ends cut),
    )

-- words of units that do not begin behind another
argument_words_each_have_some_unit : (us : List LineUnit) → HasSomeUnit us → AllByRecursion HasSomeUnit (argument_words_of_units false us)
argument_words_each_have_some_unit [] some = absurd some
argument_words_each_have_some_unit (u ∷ us) some = by_space (is_space_unit u && (false && begins_with_other_than_space us)) refl
  where
    in_some : (ws : List (List LineUnit)) → AreArgumentWords us ws → AllByRecursion HasSomeUnit (words_with_unit_in_first u ws)
    in_some ws is = subst (λ (xs : List (List LineUnit)). AllByRecursion HasSomeUnit (words_with_unit_in_first u xs)) (sym is.parts) (tt, is.some)

    by_space : (t : Bool) → (is_space_unit u && (false && begins_with_other_than_space us)) ≡ t → AllByRecursion HasSomeUnit (if t then [] ∷ argument_words_of_units false us else words_with_unit_in_first u (argument_words_of_units (not (is_space_unit u)) us))
    by_space false e = in_some (argument_words_of_units (not (is_space_unit u)) us) (words_of_units_are_argument_words (not (is_space_unit u)) us)
    by_space true e = absurd (let none = (and_parts (is_space_unit u) false e).1 in cc)

units_not_empty_have_some_unit : (us : List LineUnit) → (us ≡ [] → ⊥) → HasSomeUnit us
units_not_empty_have_some_unit [] h = absurd (h refl)
units_not_empty_have_some_unit (u ∷ us) h = tt

-- `""`
empty_quotes_argument_is_cut : (rest : List ℕ) → EndsArgument rest → IsTokenCut context.Arguments false false kind.Arg (Quoted (34 ∷ []) ∷ []) rest
unfolding leading_run_size
empty_quotes_argument_is_cut rest ends = record {
  found = λ i first possible. rw (size_of_empty_quotes_argument_is_two rest ends) refl;
  no_gap = refl;
  more = let some : (0 == length (34 ∷ 34 ∷ rest)) ≡ false = grind (arith, nat_tests) in some;
  some = omega arith;
  closed = λ before more. refl;
  clean = refl;
  leaves = λ before begins none. absurd (cc);
  stand = λ before more begins. (refl, tt);
  leaves_units = λ before begins none. absurd (cc);
}

empty_quotes_keep_argument_context : (rest : List ℕ) → context_after_token context.Arguments kind.Arg (34 ∷ 34 ∷ []) rest ≡ context.Arguments
unfolding argument_units_size quotes_and_run_between_size leading_run_size
empty_quotes_keep_argument_context rest = refl

command_arguments_are_cut : (args : Args) (tail : List WrittenToken) → IsWritableArgs args → EndsArgument (line_of_written_tokens tail) → AreTokensCut context.Arguments false tail → AreTokensCut context.Arguments false (tokens_of_arguments args tail)
command_arguments_are_cut Any tail is ends cut = cut
command_arguments_are_cut Nothing tail is ends cut =
    (false, empty_quotes_argument_is_cut (line_of_written_tokens tail) ends, subst (λ (c : TokenContext). AreTokensCut c false tail) (sym (empty_quotes_keep_argument_context (line_of_written_tokens tail))) cut)
command_arguments_are_cut (Pattern p) tail is ends cut =
    argument_word_tokens_are_cut (argument_words_of_units false (units_of_pattern p)) tail (argument_words_each_have_some_unit (units_of_pattern p) (units_not_empty_have_some_unit (units_of_pattern p) (units_of_nonempty_pattern_are_not_empty p is.1))) (argument_words_of_pattern_are_patterns false (units_of_pattern p) (units_of_writable_pattern_are_pattern_units Command p is.0)) ends cut

tokens_of_arguments_end_argument : (args : Args) (tail : List WrittenToken) → EndsArgument (line_of_written_tokens tail) → EndsArgument (line_of_written_tokens (tokens_of_arguments args tail))
tokens_of_arguments_end_argument Any tail ends = ends
tokens_of_arguments_end_argument Nothing tail ends = record { path = refl; quote = refl }
tokens_of_arguments_end_argument (Pattern p) tail ends = argument_word_tokens_end_argument (argument_words_of_units false (units_of_pattern p)) tail ends

-- ---- paths

-- A path is one token where it is found.
pub path_units_are_cut_as_path : (here : TokenContext) (us : List LineUnit) (rest : List ℕ) (item : Bool) → token_forms_in_context here ≡ token_forms_in_command_lists → AreWrittenUnitsOf is_path_byte (Byte 47 ∷ us) → size_of_matching_byte_or_pair is_path_byte rest ≡ 0 → IsTokenCut here item false kind.Path (Byte 47 ∷ us) rest
unfolding leading_run_size command_path_size
path_units_are_cut_as_path here us rest item commands all ends =
    let size : reach_of_units (size_of_matching_byte_or_pair is_path_byte) 0 (text_of_units (Byte 47 ∷ us) ++ rest) ≡ length (text_of_units (Byte 47 ∷ us)) = run_reach_of_units_is_their_length is_path_byte refl (Byte 47 ∷ us) rest all ends in
    let positive : nat_lt 0 (suc (length (text_of_units us))) ≡ true = successor_is_above_zero (length (text_of_units us)) in
    let there = plain_byte_begins_token 47 (text_of_units us ++ rest) (plain_test_byte_is_plain is_path_byte refl 47 refl) in
    record {
      found = λ i first possible.
          ap (λ (fs : List TokenForm). kind_and_size_of_token fs i first (47 ∷ (text_of_units us ++ rest))) commands
          ∙ ap (λ (n : ℕ). if nat_lt 0 n then (kind.Path, n) else kind_and_size_of_token token_forms_in_word_lists i first (47 ∷ (text_of_units us ++ rest))) size ∙ rw positive refl;
      no_gap = there.no_gap;
      more = there.more;
      some = omega arith;
      closed = text_of_units_is_closed is_path_byte refl (Byte 47 ∷ us) all;
      clean = text_of_units_has_no_nul is_path_byte refl (Byte 47 ∷ us) all;
      leaves = λ before begins none. absurd (cc);
      stand = λ before more begins. units_stand_in_text is_path_byte refl before (Byte 47 ∷ us) (rest ++ more) all;
      leaves_units = λ before begins none. absurd (cc);
    }

units_of_path_begin_with_slash : (path : List ℕ) → has_first_byte 47 path ≡ true → (more : List LineUnit) × (units_of_pattern path ≡ Byte 47 ∷ more)
units_of_path_begin_with_slash [] h = absurd (cc)
units_of_path_begin_with_slash (b ∷ []) h = ([], ap (λ (c : ℕ). Byte c ∷ []) (eqb-true b 47 h))
units_of_path_begin_with_slash (b ∷ c ∷ rest) h = (units_of_pattern (c ∷ rest), ap (λ (d : ℕ). units_of_pattern (d ∷ c ∷ rest)) (eqb-true b 47 h))

pub path_pattern_is_cut_as_path : (here : TokenContext) (path rest : List ℕ) (item : Bool) → token_forms_in_context here ≡ token_forms_in_command_lists → is_writable_pattern Command path ≡ true → has_first_byte 47 path ≡ true → size_of_matching_byte_or_pair is_path_byte rest ≡ 0 → IsTokenCut here item false kind.Path (escaped_pattern_units Command (units_of_pattern path)) rest
path_pattern_is_cut_as_path here path rest item commands is slash ends =
    let front = units_of_path_begin_with_slash path slash in
    subst (λ (vs : List LineUnit). IsTokenCut here item false kind.Path (escaped_pattern_units Command vs) rest) (sym front.1)
    (path_units_are_cut_as_path here (escaped_pattern_units Command front.0) rest item commands (escaped_command_pattern_is_path_units (Byte 47 ∷ front.0) (subst (ArePatternUnits Command) front.1 (units_of_writable_pattern_are_pattern_units Command path is))) ends)

-- ---- commands

-- What follows a command is cut, whatever command it is.
pub record IsCutBehindCommand (tail : List WrittenToken) : Type 0 where
  pub commands : AreTokensCut context.Commands false tail
  pub arguments : AreTokensCut context.Arguments false tail
  pub ends : EndsCommand (line_of_written_tokens tail)

pub word_end_by_percent_is_word_end : (percent : Bool) (rest : List ℕ) → EndsWord true rest → EndsWord percent rest
word_end_by_percent_is_word_end percent rest ends = record { ends = ends.ends; apart = λ h. ends.apart refl }

-- bytes of a word that begin nothing else
abbrev pub is_literal_word : List ℕ → Bool
is_literal_word [] = false
is_literal_word (b ∷ bytes) = list_all is_word_byte (b ∷ bytes) && not (b == 47 || b == 37)

-- where commands are read
module _ (here : TokenContext) (commands : token_forms_in_context here ≡ token_forms_in_command_lists) where
  commands_take : (b : ℕ) → (b == 47) ≡ false → TakesWords here b
  commands_take b slash i first rest n is size = ap (λ fs. kind_and_size_of_token fs i first (b ∷ rest)) commands ∙ word_is_found_in_command_list i first b rest n is slash size

  pub literal_there : (item : Bool) (text rest : List ℕ) → is_literal_word text ≡ true → EndsWord false rest → IsTokenCut here item false kind.Word (units_of_plain_bytes text) rest
  literal_there item [] rest is ends = absurd (cc)
  literal_there item (b ∷ bytes) rest is ends =
      let parts = and_parts (list_all is_word_byte (b ∷ bytes)) (not (b == 47 || b == 37)) is in
      let apart = or_parts (b == 47) (b == 37) (not-true _ parts.1) in
      word_units_are_cut_as_word here item (Byte b) (units_of_plain_bytes bytes) rest (bytes_passing_test_are_units_of_it is_word_byte (b ∷ bytes) parts.0) (commands_take b apart.0) (subst (λ t. EndsWord t rest) (sym apart.1) ends)

  pub alias_there : (item : Bool) (name rest : List ℕ) → is_name name ≡ true → EndsWord true rest → IsTokenCut here item false kind.Word (units_of_plain_bytes name) rest
  alias_there item [] rest is ends = absurd (cc)
  alias_there item (b ∷ name) rest is ends =
      let upper = (and_parts (is_upper b) (list_all is_alias_byte name) is).0 in
      word_units_are_cut_as_word here item (Byte b) (units_of_plain_bytes name) rest (alias_bytes_are_word_units (b ∷ name) (name_is_nonempty_alias_bytes (b ∷ name) is).1) (commands_take b (passing_byte_differs_from_failing_byte is_upper 47 b upper refl)) (word_end_by_percent_is_word_end (b == 37) rest ends)

  pub mark_there : (item next : Bool) (b : ℕ) (rest : List ℕ) → (b == 47) ≡ false → is_punct b ≡ true → ((before : List LineUnit) → AllowsIdBehindUnits item before → AllowsIdBehindUnits next (Byte b ∷ before)) → IsTokenCut here item next kind.Punct (Byte b ∷ []) rest
  unfolding command_path_size
  mark_there item next b rest slash is leaves = found_punctuation_is_cut here item next b rest (λ i first. ap (λ fs. kind_and_size_of_token fs i first (b ∷ rest)) commands ∙ rw (slash, is) refl) is leaves

pub literal_word_is_cut_among_commands : (item : Bool) (text rest : List ℕ) → is_literal_word text ≡ true → EndsWord false rest → IsTokenCut context.Commands item false kind.Word (units_of_plain_bytes text) rest
literal_word_is_cut_among_commands = literal_there context.Commands refl

pub punctuation_is_cut_among_commands : (item next : Bool) (b : ℕ) (rest : List ℕ) → (b == 47) ≡ false → is_punct b ≡ true → ((before : List LineUnit) → AllowsIdBehindUnits item before → AllowsIdBehindUnits next (Byte b ∷ before)) → IsTokenCut context.Commands item next kind.Punct (Byte b ∷ []) rest
punctuation_is_cut_among_commands = mark_there context.Commands refl

unreserved_upper_word_keeps_command_context : (b : ℕ) (name rest : List ℕ) → is_upper b ≡ true → is_reserved (b ∷ name) ≡ false → context_after_token context.Commands kind.Word (b ∷ name) rest ≡ context.Commands
unreserved_upper_word_keeps_command_context b name rest upper free =
    let a = or_parts (bytes_eq (b ∷ name) (codes "ALL") || is_tag (b ∷ name)) (is_option_name (b ∷ name)) free in
    let c = or_parts (bytes_eq (b ∷ name) (codes "ALL")) (is_tag (b ∷ name)) a.0 in
    rw (passing_byte_differs_from_failing_byte is_upper 115 b upper refl, a.1, c.1) refl

alias_name_keeps_command_context : (name rest : List ℕ) → is_name name ≡ true → is_reserved name ≡ false → context_after_token context.Commands kind.Word (text_of_units (units_of_plain_bytes name)) rest ≡ context.Commands
alias_name_keeps_command_context [] rest is free = absurd (cc)
alias_name_keeps_command_context (b ∷ name) rest is free =
    ap (λ (t : List ℕ). context_after_token context.Commands kind.Word t rest) (text_of_plain_units_is_bytes (b ∷ name)) ∙ unreserved_upper_word_keeps_command_context b name rest (and_parts (is_upper b) (list_all is_alias_byte name) is).0 free

tokens_of_arguments_end_word : (args : Args) (tail : List WrittenToken) → EndsWord true (line_of_written_tokens tail) → EndsWord true (line_of_written_tokens (tokens_of_arguments args tail))
tokens_of_arguments_end_word Any tail ends = ends
tokens_of_arguments_end_word Nothing tail ends = record { ends = refl; apart = λ h. (refl, refl) }
tokens_of_arguments_end_word (Pattern p) tail ends = by_words (argument_words_of_units false (units_of_pattern p))
  where
    by_words : (ws : List (List LineUnit)) → EndsWord true (line_of_written_tokens (tokens_of_argument_words ws tail))
    by_words [] = ends
    by_words (w ∷ ws) = record { ends = refl; apart = λ h. (refl, refl) }

command_atom_before_tail_is_cut : (spaced item : Bool) (a : Atom) (tail : List WrittenToken) → IsWritableCommandAtom a → IsCutBehindCommand tail → AreTokensCut context.Commands item (tokens_of_command_atom spaced a tail)
command_atom_before_tail_is_cut spaced item atom.All tail is cut = (false, literal_word_is_cut_among_commands item (codes "ALL") (line_of_written_tokens tail) refl (word_end_by_percent_is_word_end false (line_of_written_tokens tail) cut.ends.word), cut.commands)
command_atom_before_tail_is_cut spaced item (atom.Alias name) tail is cut =
    (false, alias_there context.Commands refl item name (line_of_written_tokens tail) is.0 cut.ends.word, subst (λ (c : TokenContext). AreTokensCut c false tail) (sym (alias_name_keeps_command_context name (line_of_written_tokens tail) is.0 is.1)) cut.commands)
command_atom_before_tail_is_cut spaced item atom.Listing tail is cut = (false, literal_word_is_cut_among_commands item (codes "list") (line_of_written_tokens tail) refl (word_end_by_percent_is_word_end false (line_of_written_tokens tail) cut.ends.word), cut.commands)
command_atom_before_tail_is_cut spaced item (atom.Path path args) tail is cut = (
  false,
  path_pattern_is_cut_as_path context.Commands path (line_of_written_tokens (tokens_of_arguments args tail)) item refl is.0 is.1 (tokens_of_arguments_end_argument args tail cut.ends.argument).path,
  command_arguments_are_cut args tail is.2 cut.ends.argument cut.arguments,
)
command_atom_before_tail_is_cut spaced item (atom.Sudoedit args) tail is cut = (
  false,
  literal_word_is_cut_among_commands item (codes "sudoedit") (line_of_written_tokens (tokens_of_arguments args tail)) refl (word_end_by_percent_is_word_end false (line_of_written_tokens (tokens_of_arguments args tail)) (tokens_of_arguments_end_word args tail cut.ends.word)),
  command_arguments_are_cut args tail is cut.ends.argument cut.arguments,
)
command_atom_before_tail_is_cut spaced item a tail is cut = absurd is

pub signed_command_before_tail_is_cut : (spaced item negated : Bool) (a : Atom) (tail : List WrittenToken) → IsWritableCommandAtom a → IsCutBehindCommand tail → AreTokensCut context.Commands item (tokens_of_signed_command spaced negated a tail)
signed_command_before_tail_is_cut spaced item false a tail is cut = command_atom_before_tail_is_cut spaced item a tail is cut
signed_command_before_tail_is_cut spaced item true a tail is cut =
    (item, punctuation_is_cut_among_commands item item 33 (line_of_written_tokens (tokens_of_command_atom false a tail)) refl refl (λ before begins. begins), command_atom_before_tail_is_cut false item a tail is cut)
