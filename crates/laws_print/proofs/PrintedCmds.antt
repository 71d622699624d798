-- The tokens of a command with what stands before it are these as they are printed.
use Rattle.laws_print.proofs.Common.{◌≡◌, ℕ, Bool, true, false, List, [], ◌∷◌, ◌++◌, Some, None, refl, ap, ◌∙◌, Option, codes, AllByRecursion}
use Rattle.laws_print.proofs.Common.{append_assoc, Runas, Cmnd, Tag, OptionName, Member, RunasSpec, CmdSpec, printed_member, printed_member_list, option_keyword}
use Rattle.laws_print.proofs.Common.{tag_keyword_or_negated, printed_runas_options_tags_and_command, IsWritableUserMember, IsWritableCommandMember, IsWritableRunasSpec, IsWritableCommand, WrittenToken, text_of_units, gap_bytes_if_spaced, line_of_written_tokens}
use Rattle.sudoers_cvt_spell.specs.Commands.{printed_runas_lists, printed_runas_prefix, printed_option_value, printed_options, printed_tags}
use Rattle.laws_print.proofs.Units.{units_of_plain_bytes}
use Rattle.laws_print.proofs.ListTokens.{token_of_mark, tokens_of_member_list}
use Rattle.laws_print.proofs.CommandTokens.{token_of_option_value, tokens_of_tags_and_command, tokens_of_options_and_command, tokens_inside_runas_parentheses, tokens_of_command_spec}
use Rattle.laws_print.proofs.Values.{text_of_word_units_is_spelled_word}
use Rattle.laws_print.proofs.Users.{text_of_plain_units_is_bytes}
use Rattle.laws_print.proofs.PrintedLists.{text_of_member_list_is_printed}
use Rattle.laws_print.proofs.PrintedCommands.{text_of_command_member_is_printed}

text_of_tags_and_command_is_printed : (spaced : Bool) (gs : List (Tag × Bool)) (m : Member) (tail : List WrittenToken) → IsWritableCommandMember m → line_of_written_tokens (tokens_of_tags_and_command spaced gs m tail) ≡ gap_bytes_if_spaced spaced ++ ((printed_tags gs ++ printed_member false Cmnd m) ++ line_of_written_tokens tail)
text_of_tags_and_command_is_printed spaced [] m tail is = text_of_command_member_is_printed spaced m tail is
text_of_tags_and_command_is_printed spaced (g ∷ gs) m tail is =
    ap (λ (t : List ℕ). gap_bytes_if_spaced spaced ++ (text_of_units (units_of_plain_bytes (tag_keyword_or_negated g.0 g.1)) ++ (58 ∷ t))) (text_of_tags_and_command_is_printed true gs m tail is)
    ∙ ap (λ (t : List ℕ). gap_bytes_if_spaced spaced ++ (t ++ (58 ∷ 32 ∷ ((printed_tags gs ++ printed_member false Cmnd m) ++ line_of_written_tokens tail)))) (text_of_plain_units_is_bytes (tag_keyword_or_negated g.0 g.1))
    ∙ ap (λ (t : List ℕ). gap_bytes_if_spaced spaced ++ t) (joined (tag_keyword_or_negated g.0 g.1) (printed_tags gs) (printed_member false Cmnd m) (line_of_written_tokens tail))
  where
    joined : (a b c d : List ℕ) → a ++ (58 ∷ 32 ∷ ((b ++ c) ++ d)) ≡ (((a ++ codes ": ") ++ b) ++ c) ++ d
    joined a b c d = simp append_assoc

text_of_option_value_is_printed : (value : List ℕ) → text_of_units (token_of_option_value value).units ≡ printed_option_value value
text_of_option_value_is_printed [] = refl
text_of_option_value_is_printed (b ∷ value) = text_of_word_units_is_spelled_word (b ∷ value)

text_of_options_and_command_is_printed : (spaced : Bool) (os : List (OptionName × List ℕ)) (gs : List (Tag × Bool)) (m : Member) (tail : List WrittenToken) → IsWritableCommandMember m → line_of_written_tokens (tokens_of_options_and_command spaced os gs m tail) ≡ gap_bytes_if_spaced spaced ++ ((printed_options os ++ printed_tags gs ++ printed_member false Cmnd m) ++ line_of_written_tokens tail)
text_of_options_and_command_is_printed spaced [] gs m tail is = text_of_tags_and_command_is_printed spaced gs m tail is
text_of_options_and_command_is_printed spaced (o ∷ os) gs m tail is =
    let later = 32 ∷ ((printed_options os ++ printed_tags gs ++ printed_member false Cmnd m) ++ line_of_written_tokens tail) in
    ap (λ (t : List ℕ). gap_bytes_if_spaced spaced ++ (text_of_units (units_of_plain_bytes (option_keyword o.0)) ++ (61 ∷ (text_of_units (token_of_option_value o.1).units ++ t)))) (text_of_options_and_command_is_printed true os gs m tail is)
    ∙ ap (λ (t : List ℕ). gap_bytes_if_spaced spaced ++ (t ++ (61 ∷ (text_of_units (token_of_option_value o.1).units ++ later)))) (text_of_plain_units_is_bytes (option_keyword o.0))
    ∙ ap (λ (t : List ℕ). gap_bytes_if_spaced spaced ++ (option_keyword o.0 ++ (61 ∷ (t ++ later)))) (text_of_option_value_is_printed o.1)
    ∙ ap (λ (t : List ℕ). gap_bytes_if_spaced spaced ++ t) (joined (option_keyword o.0) (printed_option_value o.1) (printed_options os) (printed_tags gs) (printed_member false Cmnd m) (line_of_written_tokens tail))
  where
    joined : (a b c d e f : List ℕ) → a ++ (61 ∷ (b ++ (32 ∷ ((c ++ d ++ e) ++ f)))) ≡ ((((a ++ codes "=" ++ b) ++ codes " ") ++ c) ++ d ++ e) ++ f
    joined a b c d e f = simp append_assoc

text_of_runas_lists_is_printed : (us gs : List Member) (tail : List WrittenToken) → AllByRecursion IsWritableUserMember us → AllByRecursion IsWritableUserMember gs → line_of_written_tokens (tokens_inside_runas_parentheses us gs tail) ≡ printed_runas_lists us gs ++ line_of_written_tokens tail
text_of_runas_lists_is_printed [] [] tail all others = refl
text_of_runas_lists_is_printed (u ∷ us) [] tail all others = text_of_member_list_is_printed Runas false false (u ∷ us) tail all
text_of_runas_lists_is_printed [] (g ∷ gs) tail all others = ap (λ (t : List ℕ). 58 ∷ t) (text_of_member_list_is_printed Runas true false (g ∷ gs) tail others)
text_of_runas_lists_is_printed (u ∷ us) (g ∷ gs) tail all others =
    text_of_member_list_is_printed Runas false false (u ∷ us) (token_of_mark 58 true ∷ tokens_of_member_list Runas true false (g ∷ gs) tail) all
    ∙ ap (λ (t : List ℕ). printed_member_list false Runas (u ∷ us) ++ (32 ∷ 58 ∷ t)) (text_of_member_list_is_printed Runas true false (g ∷ gs) tail others)
    ∙ joined (printed_member_list false Runas (u ∷ us)) (printed_member_list false Runas (g ∷ gs)) (line_of_written_tokens tail)
  where
    joined : (a b c : List ℕ) → a ++ (32 ∷ 58 ∷ 32 ∷ (b ++ c)) ≡ (a ++ codes " : " ++ b) ++ c
    joined a b c = simp append_assoc

text_of_command_spec_parts_is_printed : (spaced : Bool) (runas : Option RunasSpec) (os : List (OptionName × List ℕ)) (gs : List (Tag × Bool)) (m : Member) (tail : List WrittenToken) → IsWritableRunasSpec runas → IsWritableCommandMember m
    → line_of_written_tokens (tokens_of_command_spec spaced runas os gs m tail) ≡ gap_bytes_if_spaced spaced ++ ((printed_runas_prefix runas ++ printed_options os ++ printed_tags gs ++ printed_member false Cmnd m) ++ line_of_written_tokens tail)
text_of_command_spec_parts_is_printed spaced None os gs m tail list is = text_of_options_and_command_is_printed spaced os gs m tail is
text_of_command_spec_parts_is_printed spaced (Some r) os gs m tail list is =
    ap (λ (t : List ℕ). gap_bytes_if_spaced spaced ++ (40 ∷ t)) (text_of_runas_lists_is_printed r.users r.groups (token_of_mark 41 false ∷ tokens_of_options_and_command true os gs m tail) list.0 list.1)
    ∙ ap (λ (t : List ℕ). gap_bytes_if_spaced spaced ++ (40 ∷ (printed_runas_lists r.users r.groups ++ (41 ∷ t)))) (text_of_options_and_command_is_printed true os gs m tail is)
    ∙ ap (λ (t : List ℕ). gap_bytes_if_spaced spaced ++ t) (joined (printed_runas_lists r.users r.groups) (printed_options os) (printed_tags gs) (printed_member false Cmnd m) (line_of_written_tokens tail))
  where
    joined : (a b c d e : List ℕ) → 40 ∷ (a ++ (41 ∷ 32 ∷ ((b ++ c ++ d) ++ e))) ≡ (((codes "(" ++ a ++ codes ")") ++ codes " ") ++ b ++ c ++ d) ++ e
    joined a b c d e = simp append_assoc

-- A command, before other tokens.
pub text_of_command_spec_is_printed : (spaced : Bool) (c : CmdSpec) (tail : List WrittenToken) → IsWritableCommand c → line_of_written_tokens (tokens_of_command_spec spaced c.runas c.options c.tags c.member tail) ≡ gap_bytes_if_spaced spaced ++ (printed_runas_options_tags_and_command c ++ line_of_written_tokens tail)
text_of_command_spec_is_printed spaced c tail is = text_of_command_spec_parts_is_printed spaced c.runas c.options c.tags c.member tail is.runas is.member
