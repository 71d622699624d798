-- A command with what stands before it as it is written is cut into its tokens.
use Rattle.laws_print.proofs.Common.{◌≡◌, ℕ, Bool, true, false, List, [], ◌∷◌, length, Some, None, refl, sym, subst, arith, ◌==◌, Option}
use Rattle.laws_print.proofs.Common.{AllByRecursion, nat_tests, TokenContext, Byte, Quoted, leading_run_size, quotes_and_run_between_size, context_after_token, command_path_size, numeric_id_size}
use Rattle.laws_print.proofs.Common.{hash_id_size, non_unix_group_size, Runas, Tag, OptionName, Member, RunasSpec, option_keyword, tag_keyword_or_negated, IsWritableUserMember}
use Rattle.laws_print.proofs.Common.{IsWritableCommandMember, IsWritableRunasSpec, WrittenToken, text_of_units, line_of_written_tokens, IsTokenCut, AreTokensCut, units_of_spelled_word}
use Rattle.sudoers_text.specs.declared.token.TokenKind.TheVariants as kind
use Rattle.sudoers_text.specs.declared.context.TokenContext.TheVariants as context
use Rattle.sudoers_grammar.specs.declared.node.Tag.TheVariants as tag
use Rattle.sudoers_grammar.specs.declared.node.OptionName.TheVariants as option
use Rattle.laws_print.proofs.Units.{units_of_plain_bytes}
use Rattle.laws_print.proofs.ListTokens.{token_of_mark, tokens_of_member_list}
use Rattle.laws_print.proofs.CommandTokens.{token_of_option_value, tokens_of_tags_and_command, tokens_of_options_and_command, tokens_inside_runas_parentheses, tokens_of_command_spec}
use Rattle.laws_print.proofs.Cuts.{EndsWord}
use Rattle.laws_print.proofs.UserCuts.{EndsUser, found_punctuation_is_cut, punctuation_in_word_list_is_cut, word_units_in_word_list_are_cut, spelled_word_front_is_not_empty}
use Rattle.laws_print.proofs.Users.{word_units_have_front_of_spelled_word}
use Rattle.laws_print.proofs.Values.{units_of_spelled_word_are_word_units}
use Rattle.laws_print.proofs.ListCuts.{parentheses_context_is_list_context, member_list_before_tail_is_cut}
use Rattle.laws_print.proofs.CommandCuts.{IsCutBehindCommand, literal_word_is_cut_among_commands, punctuation_is_cut_among_commands, is_literal_word}
use Rattle.laws_print.proofs.CommandLists.{colon_ends_word, spaced_command_ends_user, command_with_digests_before_tail_is_cut}

-- ---- tags

printed_tag_is_literal_word : (g : Tag) (on : Bool) → is_literal_word (tag_keyword_or_negated g on) ≡ true
printed_tag_is_literal_word tag.Exec true = refl
printed_tag_is_literal_word tag.Exec false = refl
printed_tag_is_literal_word g true = refl
printed_tag_is_literal_word g false = refl

tag_context_follows_tag : (g : Tag) (on : Bool) (rest : List ℕ) → context_after_token context.Commands kind.Word (text_of_units (units_of_plain_bytes (tag_keyword_or_negated g on))) rest ≡ context.BehindTag
tag_context_follows_tag tag.Exec true rest = refl
tag_context_follows_tag tag.Exec false rest = refl
tag_context_follows_tag g true rest = refl
tag_context_follows_tag g false rest = refl

colon_behind_tag_is_cut : (rest : List ℕ) → IsTokenCut context.BehindTag false true kind.Punct (Byte 58 ∷ []) rest
unfolding command_path_size
colon_behind_tag_is_cut rest = found_punctuation_is_cut context.BehindTag false true 58 rest (λ i first. refl) refl (λ before begins is. refl)

pub tags_and_command_are_cut : (spaced item : Bool) (gs : List (Tag × Bool)) (m : Member) (tail : List WrittenToken) → IsWritableCommandMember m → IsCutBehindCommand tail → AreTokensCut context.Commands item (tokens_of_tags_and_command spaced gs m tail)
tags_and_command_are_cut spaced item [] m tail is cut = command_with_digests_before_tail_is_cut spaced item m.digests m.negated m.atom tail is.digests is.is_command cut
tags_and_command_are_cut spaced item (g ∷ gs) m tail is cut =
    let later = tokens_of_tags_and_command true gs m tail in
    let colon = token_of_mark 58 false ∷ later in (
      false,
      literal_word_is_cut_among_commands item (tag_keyword_or_negated g.0 g.1) (line_of_written_tokens colon) (printed_tag_is_literal_word g.0 g.1) (colon_ends_word (line_of_written_tokens later)),
      subst (λ (c : TokenContext). AreTokensCut c false colon) (sym (tag_context_follows_tag g.0 g.1 (line_of_written_tokens colon)))
          (true, colon_behind_tag_is_cut (line_of_written_tokens later), tags_and_command_are_cut true true gs m tail is cut),
    )

-- ---- options

equals_sign_ends_option_word : (rest : List ℕ) → EndsWord false (61 ∷ rest)
equals_sign_ends_option_word rest = record { ends = refl; apart = λ h. absurd (cc) }

option_keyword_is_literal_word : (o : OptionName) → is_literal_word (option_keyword o) ≡ true
option_keyword_is_literal_word option.Role = refl
option_keyword_is_literal_word o = refl

option_context_follows_option_keyword : (o : OptionName) (rest : List ℕ) → context_after_token context.Commands kind.Word (text_of_units (units_of_plain_bytes (option_keyword o))) rest ≡ context.BehindOption
option_context_follows_option_keyword option.Role rest = refl
option_context_follows_option_keyword o rest = refl

equals_sign_behind_option_is_cut : (rest : List ℕ) → IsTokenCut context.BehindOption false true kind.Punct (Byte 61 ∷ []) rest
unfolding command_path_size
equals_sign_behind_option_is_cut rest = found_punctuation_is_cut context.BehindOption false true 61 rest (λ i first. refl) refl (λ before begins is. refl)

-- `""`
empty_quotes_option_value_is_cut : (rest : List ℕ) → IsTokenCut context.OptionValue true false kind.Quoted (Quoted (34 ∷ []) ∷ []) rest
unfolding leading_run_size quotes_and_run_between_size numeric_id_size hash_id_size non_unix_group_size
empty_quotes_option_value_is_cut rest = record {
  found = λ i first possible. refl;
  no_gap = refl;
  more = let some : (0 == length (34 ∷ 34 ∷ rest)) ≡ false = grind (arith, nat_tests) in some;
  some = omega arith;
  closed = λ before more. refl;
  clean = refl;
  leaves = λ before begins none. absurd (cc);
  stand = λ before more begins. (refl, tt);
  leaves_units = λ before begins none. absurd (cc);
}

option_value_before_tail_is_cut : (value : List ℕ) (tail : List WrittenToken) → EndsUser (line_of_written_tokens tail) → AreTokensCut context.Commands false tail → AreTokensCut context.OptionValue true (token_of_option_value value ∷ tail)
option_value_before_tail_is_cut [] tail ends cut = (false, empty_quotes_option_value_is_cut (line_of_written_tokens tail), cut)
option_value_before_tail_is_cut (b ∷ value) tail ends cut =
    (false, word_units_in_word_list_are_cut context.OptionValue true (units_of_spelled_word (b ∷ value)) (line_of_written_tokens tail) refl (spelled_word_front_is_not_empty b (text_of_units (units_of_spelled_word (b ∷ value))) (word_units_have_front_of_spelled_word b value)) (units_of_spelled_word_are_word_units (b ∷ value)) ends, cut)

-- What stands behind an option begins with a blank.
tags_and_command_end_user : (gs : List (Tag × Bool)) (m : Member) (tail : List WrittenToken) → IsWritableCommandMember m → EndsUser (line_of_written_tokens (tokens_of_tags_and_command true gs m tail))
tags_and_command_end_user [] m tail is = spaced_command_ends_user m.digests m.negated m.atom tail is.is_command
tags_and_command_end_user (g ∷ gs) m tail is = record { word = refl; hash = refl; colon = refl; digit = refl }

options_and_command_end_user : (os : List (OptionName × List ℕ)) (gs : List (Tag × Bool)) (m : Member) (tail : List WrittenToken) → IsWritableCommandMember m → EndsUser (line_of_written_tokens (tokens_of_options_and_command true os gs m tail))
options_and_command_end_user [] gs m tail is = tags_and_command_end_user gs m tail is
options_and_command_end_user (o ∷ os) gs m tail is = record { word = refl; hash = refl; colon = refl; digit = refl }

pub options_and_command_are_cut : (spaced item : Bool) (os : List (OptionName × List ℕ)) (gs : List (Tag × Bool)) (m : Member) (tail : List WrittenToken) → IsWritableCommandMember m → IsCutBehindCommand tail → AreTokensCut context.Commands item (tokens_of_options_and_command spaced os gs m tail)
options_and_command_are_cut spaced item [] gs m tail is cut = tags_and_command_are_cut spaced item gs m tail is cut
options_and_command_are_cut spaced item (o ∷ os) gs m tail is cut =
    let later = tokens_of_options_and_command true os gs m tail in
    let value = token_of_option_value o.1 ∷ later in
    let equals = token_of_mark 61 false ∷ value in (
      false,
      literal_word_is_cut_among_commands item (option_keyword o.0) (line_of_written_tokens equals) (option_keyword_is_literal_word o.0) (equals_sign_ends_option_word (line_of_written_tokens value)),
      subst (λ (c : TokenContext). AreTokensCut c false equals) (sym (option_context_follows_option_keyword o.0 (line_of_written_tokens equals)))
          (true, equals_sign_behind_option_is_cut (line_of_written_tokens value), option_value_before_tail_is_cut o.1 later (options_and_command_end_user os gs m tail is) (options_and_command_are_cut true false os gs m tail is cut)),
    )

-- ---- parentheses

closing_parenthesis_ends_user : (rest : List ℕ) → EndsUser (41 ∷ rest)
closing_parenthesis_ends_user rest = record { word = refl; hash = refl; colon = refl; digit = refl }

-- What is behind what stands in the parentheses.
pub record ClosesParentheses (tail : List WrittenToken) : Type 0 where
  pub cut : (item : Bool) → AreTokensCut context.Parentheses item tail
  pub ends : EndsUser (line_of_written_tokens tail)

closing_parenthesis_token_closes : (tail : List WrittenToken) → AreTokensCut context.Commands false tail → ClosesParentheses (token_of_mark 41 false ∷ tail)
closing_parenthesis_token_closes tail cut = record {
  cut = λ item. (false, punctuation_in_word_list_is_cut context.Parentheses item false 41 (line_of_written_tokens tail) refl refl (λ before begins none. absurd (cc)), cut);
  ends = closing_parenthesis_ends_user (line_of_written_tokens tail);
}

runas_groups_before_closing_are_cut : (item : Bool) (spaced : Bool) (g : Member) (gs : List Member) (tail : List WrittenToken) → AllByRecursion IsWritableUserMember (g ∷ gs) → ClosesParentheses tail → AreTokensCut context.Parentheses item (token_of_mark 58 spaced ∷ tokens_of_member_list Runas true false (g ∷ gs) tail)
runas_groups_before_closing_are_cut item spaced g gs tail all end = (
  true,
  punctuation_in_word_list_is_cut context.Parentheses item true 58 (line_of_written_tokens (tokens_of_member_list Runas true false (g ∷ gs) tail)) refl refl (λ before begins is. refl),
  member_list_before_tail_is_cut Runas context.Parentheses context.Parentheses parentheses_context_is_list_context true true false (g ∷ gs) tail all refl end.ends (end.cut false),
)

runas_lists_before_closing_are_cut : (us gs : List Member) (tail : List WrittenToken) → AllByRecursion IsWritableUserMember us → AllByRecursion IsWritableUserMember gs → ClosesParentheses tail → AreTokensCut context.Parentheses true (tokens_inside_runas_parentheses us gs tail)
runas_lists_before_closing_are_cut [] [] tail all others end = end.cut true
runas_lists_before_closing_are_cut (u ∷ us) [] tail all others end = member_list_before_tail_is_cut Runas context.Parentheses context.Parentheses parentheses_context_is_list_context true false false (u ∷ us) tail all refl end.ends (end.cut false)
runas_lists_before_closing_are_cut [] (g ∷ gs) tail all others end = runas_groups_before_closing_are_cut true false g gs tail others end
runas_lists_before_closing_are_cut (u ∷ us) (g ∷ gs) tail all others end =
    member_list_before_tail_is_cut Runas context.Parentheses context.Parentheses parentheses_context_is_list_context true false false (u ∷ us) (token_of_mark 58 true ∷ tokens_of_member_list Runas true false (g ∷ gs) tail) all refl
    (record { word = refl; hash = refl; colon = refl; digit = refl }) (runas_groups_before_closing_are_cut false true g gs tail others end)

-- A command with what stands before it is cut into its tokens.
pub command_spec_is_cut : (spaced : Bool) (runas : Option RunasSpec) (os : List (OptionName × List ℕ)) (gs : List (Tag × Bool)) (m : Member) (tail : List WrittenToken) → IsWritableRunasSpec runas → IsWritableCommandMember m → IsCutBehindCommand tail → AreTokensCut context.Commands true (tokens_of_command_spec spaced runas os gs m tail)
command_spec_is_cut spaced None os gs m tail list is cut = options_and_command_are_cut spaced true os gs m tail is cut
command_spec_is_cut spaced (Some r) os gs m tail list is cut =
    let later = tokens_of_options_and_command true os gs m tail in
    let inside = tokens_inside_runas_parentheses r.users r.groups (token_of_mark 41 false ∷ later) in (
      true,
      punctuation_is_cut_among_commands true true 40 (line_of_written_tokens inside) refl refl (λ before begins. begins),
      runas_lists_before_closing_are_cut r.users r.groups (token_of_mark 41 false ∷ later) list.0 list.1 (closing_parenthesis_token_closes later (options_and_command_are_cut true false os gs m tail is cut)),
    )
