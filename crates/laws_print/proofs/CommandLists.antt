-- Digests and lists of commands as they are written are tokens of a line.
use Rattle.laws_print.proofs.Common.{◌≡◌, ◌≢◌, ℕ, suc, Bool, true, false, List, [], ◌∷◌, ◌++◌, length, refl, sym, ap, subst, ◌∙◌, if◌then◌else◌, nat_lt}
use Rattle.laws_print.proofs.Common.{AllByRecursion, list_all, TokenContext, Byte, size_of_one_matching_byte, reach_of_units, leading_run_size, is_digest_byte, context_after_token, token_forms_in_command_lists, kind_and_size_of_token}
use Rattle.laws_print.proofs.Common.{command_path_size, Atom, Digest, DigestKind, Member, digest_kind_keyword, IsWritableCommandAtom, IsWritableDigestText, IsWritableCommandMember}
use Rattle.laws_print.proofs.Common.{WrittenToken, text_of_units, line_of_written_tokens, IsTokenCut, AreTokensCut}
use Rattle.sudoers_text.specs.declared.token.TokenKind.TheVariants as kind
use Rattle.sudoers_text.specs.declared.context.TokenContext.TheVariants as context
use Rattle.sudoers_grammar.specs.declared.node.Atom.TheVariants as atom
use Rattle.sudoers_grammar.specs.declared.node.DigestKind.TheVariants as digest
use Rattle.laws_print.proofs.Units.{units_of_plain_bytes}
use Rattle.laws_print.proofs.ListTokens.{token_of_mark}
use Rattle.laws_print.proofs.CommandTokens.{tokens_of_signed_command, tokens_of_digest, tokens_of_further_digests, tokens_of_command_with_digests, tokens_of_further_commands, tokens_of_command_list}
use Rattle.laws_print.proofs.Words.{successor_is_above_zero}
use Rattle.laws_print.proofs.Cuts.{EndsWord}
use Rattle.laws_print.proofs.UserCuts.{EndsUser, found_punctuation_is_cut}
use Rattle.laws_print.proofs.Ones.{byte_reach_of_matching_bytes_is_length, matching_plain_bytes_are_cut}
use Rattle.laws_print.proofs.CommandCuts.{IsCutBehindCommand, literal_word_is_cut_among_commands, punctuation_is_cut_among_commands, signed_command_before_tail_is_cut, is_literal_word}

-- ---- digests

pub colon_ends_word : (rest : List ℕ) → EndsWord false (58 ∷ rest)
colon_ends_word rest = record { ends = refl; apart = λ h. absurd (cc) }

digest_keyword_is_literal_word : (k : DigestKind) → is_literal_word (digest_kind_keyword k) ≡ true
digest_keyword_is_literal_word digest.Sha224 = refl
digest_keyword_is_literal_word k = refl

digest_context_follows_digest_keyword : (k : DigestKind) (rest : List ℕ) → context_after_token context.Commands kind.Word (text_of_units (units_of_plain_bytes (digest_kind_keyword k))) rest ≡ context.BehindDigestKind
digest_context_follows_digest_keyword digest.Sha224 rest = refl
digest_context_follows_digest_keyword k rest = refl

colon_behind_digest_keyword_is_cut : (rest : List ℕ) → IsTokenCut context.BehindDigestKind false true kind.Punct (Byte 58 ∷ []) rest
unfolding command_path_size
colon_behind_digest_keyword_is_cut rest = found_punctuation_is_cut context.BehindDigestKind false true 58 rest (λ i first. refl) refl (λ before begins is. refl)

digest_text_is_cut : (text rest : List ℕ) → text ≢ [] → list_all is_digest_byte text ≡ true → size_of_one_matching_byte is_digest_byte rest ≡ 0 → IsTokenCut context.Digest true false kind.Digest (units_of_plain_bytes text) rest
unfolding leading_run_size
digest_text_is_cut [] rest some all ends = absurd (some refl)
digest_text_is_cut (b ∷ text) rest some all ends =
    let size : reach_of_units (size_of_one_matching_byte is_digest_byte) 0 (b ∷ (text ++ rest)) ≡ suc (length text) = byte_reach_of_matching_bytes_is_length is_digest_byte (b ∷ text) rest all ends in
    let positive : nat_lt 0 (suc (length text)) ≡ true = successor_is_above_zero (length text) in
    matching_plain_bytes_are_cut is_digest_byte refl context.Digest true kind.Digest b text rest all
    (λ i first. ap (λ (n : ℕ). if nat_lt 0 n then (kind.Digest, n) else kind_and_size_of_token token_forms_in_command_lists i first (b ∷ (text ++ rest))) size ∙ rw positive refl)

digest_before_tail_is_cut : (spaced item : Bool) (d : Digest) (tail : List WrittenToken) → IsWritableDigestText d → size_of_one_matching_byte is_digest_byte (line_of_written_tokens tail) ≡ 0 → AreTokensCut context.Commands false tail → AreTokensCut context.Commands item (tokens_of_digest spaced d tail)
digest_before_tail_is_cut spaced item d tail is ends cut =
    let text : List WrittenToken = record { kind = kind.Digest; units = units_of_plain_bytes d.text; spaced = false } ∷ tail in
    let colon = token_of_mark 58 false ∷ text in (
      false,
      literal_word_is_cut_among_commands item (digest_kind_keyword d.kind) (line_of_written_tokens colon) (digest_keyword_is_literal_word d.kind) (colon_ends_word (line_of_written_tokens text)),
      subst (λ (c : TokenContext). AreTokensCut c false colon) (sym (digest_context_follows_digest_keyword d.kind (line_of_written_tokens colon))) (
        true,
        colon_behind_digest_keyword_is_cut (line_of_written_tokens text),
        (false, digest_text_is_cut d.text (line_of_written_tokens tail) is.0 is.1 ends, cut),
      ),
    )

further_digests_end_digest_text : (ds : List Digest) (tail : List WrittenToken) → size_of_one_matching_byte is_digest_byte (line_of_written_tokens tail) ≡ 0 → size_of_one_matching_byte is_digest_byte (line_of_written_tokens (tokens_of_further_digests ds tail)) ≡ 0
further_digests_end_digest_text [] tail ends = ends
further_digests_end_digest_text (d ∷ ds) tail ends = refl

further_digests_before_tail_are_cut : (ds : List Digest) (tail : List WrittenToken) → AllByRecursion IsWritableDigestText ds → size_of_one_matching_byte is_digest_byte (line_of_written_tokens tail) ≡ 0 → AreTokensCut context.Commands false tail → AreTokensCut context.Commands false (tokens_of_further_digests ds tail)
further_digests_before_tail_are_cut [] tail all ends cut = cut
further_digests_before_tail_are_cut (d ∷ ds) tail all ends cut =
    let later = tokens_of_further_digests ds tail in (
      true,
      punctuation_is_cut_among_commands false true 44 (line_of_written_tokens (tokens_of_digest true d later)) refl refl (λ before begins is. refl),
      digest_before_tail_is_cut true true d later all.0 (further_digests_end_digest_text ds tail ends) (further_digests_before_tail_are_cut ds tail all.1 ends cut),
    )

signed_command_ends_digest_text : (negated : Bool) (a : Atom) (tail : List WrittenToken) → IsWritableCommandAtom a → size_of_one_matching_byte is_digest_byte (line_of_written_tokens (tokens_of_signed_command true negated a tail)) ≡ 0
signed_command_ends_digest_text true a tail is = refl
signed_command_ends_digest_text false atom.All tail is = refl
signed_command_ends_digest_text false (atom.Alias name) tail is = refl
signed_command_ends_digest_text false atom.Listing tail is = refl
signed_command_ends_digest_text false (atom.Path path args) tail is = refl
signed_command_ends_digest_text false (atom.Sudoedit args) tail is = refl
signed_command_ends_digest_text false a tail is = absurd is

-- ---- commands

-- A command behind a blank ends what stands before it.
pub spaced_command_ends_user : (ds : List Digest) (negated : Bool) (a : Atom) (tail : List WrittenToken) → IsWritableCommandAtom a → EndsUser (line_of_written_tokens (tokens_of_command_with_digests true ds negated a tail))
spaced_command_ends_user (d ∷ ds) negated a tail is = record { word = refl; hash = refl; colon = refl; digit = refl }
spaced_command_ends_user [] true a tail is = record { word = refl; hash = refl; colon = refl; digit = refl }
spaced_command_ends_user [] false atom.All tail is = record { word = refl; hash = refl; colon = refl; digit = refl }
spaced_command_ends_user [] false (atom.Alias name) tail is = record { word = refl; hash = refl; colon = refl; digit = refl }
spaced_command_ends_user [] false atom.Listing tail is = record { word = refl; hash = refl; colon = refl; digit = refl }
spaced_command_ends_user [] false (atom.Path path args) tail is = record { word = refl; hash = refl; colon = refl; digit = refl }
spaced_command_ends_user [] false (atom.Sudoedit args) tail is = record { word = refl; hash = refl; colon = refl; digit = refl }
spaced_command_ends_user [] false a tail is = absurd is

-- A command with its digests is cut into its tokens.
pub command_with_digests_before_tail_is_cut : (spaced item : Bool) (ds : List Digest) (negated : Bool) (a : Atom) (tail : List WrittenToken) → AllByRecursion IsWritableDigestText ds → IsWritableCommandAtom a → IsCutBehindCommand tail → AreTokensCut context.Commands item (tokens_of_command_with_digests spaced ds negated a tail)
command_with_digests_before_tail_is_cut spaced item [] negated a tail all is cut = signed_command_before_tail_is_cut spaced item negated a tail is cut
command_with_digests_before_tail_is_cut spaced item (d ∷ ds) negated a tail all is cut =
    let signed = tokens_of_signed_command true negated a tail in
    let ends = signed_command_ends_digest_text negated a tail is in
    digest_before_tail_is_cut spaced item d (tokens_of_further_digests ds signed) all.0 (further_digests_end_digest_text ds signed ends) (further_digests_before_tail_are_cut ds signed all.1 ends (signed_command_before_tail_is_cut true false negated a tail is cut))

-- Behind a comma stands a command.
pub comma_before_commands_is_cut_behind_command : (next : List WrittenToken) → AreTokensCut context.Commands true next → IsCutBehindCommand (token_of_mark 44 false ∷ next)
comma_before_commands_is_cut_behind_command next more = record {
  commands = (true, punctuation_is_cut_among_commands false true 44 (line_of_written_tokens next) refl refl (λ before begins is. refl), more);
  arguments = (true, found_punctuation_is_cut context.Arguments false true 44 (line_of_written_tokens next) (λ i first. refl) refl (λ before begins is. refl), more);
  ends = record { argument = record { path = refl; quote = refl }; word = record { ends = refl; apart = λ h. (refl, refl) } };
}

further_commands_are_cut_behind_command : (ms : List Member) (tail : List WrittenToken) → AllByRecursion IsWritableCommandMember ms → IsCutBehindCommand tail → IsCutBehindCommand (tokens_of_further_commands ms tail)
further_commands_are_cut_behind_command [] tail all cut = cut
further_commands_are_cut_behind_command (m ∷ ms) tail all cut =
    let later = further_commands_are_cut_behind_command ms tail all.1 cut in
    let more = command_with_digests_before_tail_is_cut true true m.digests m.negated m.atom (tokens_of_further_commands ms tail) all.0.digests all.0.is_command later in
    comma_before_commands_is_cut_behind_command (tokens_of_command_with_digests true m.digests m.negated m.atom (tokens_of_further_commands ms tail)) more

-- A list of commands is cut into its tokens.
pub command_list_before_tail_is_cut : (spaced item : Bool) (m : Member) (ms : List Member) (tail : List WrittenToken) → AllByRecursion IsWritableCommandMember (m ∷ ms) → IsCutBehindCommand tail → AreTokensCut context.Commands item (tokens_of_command_list spaced (m ∷ ms) tail)
command_list_before_tail_is_cut spaced item m ms tail all cut =
    command_with_digests_before_tail_is_cut spaced item m.digests m.negated m.atom (tokens_of_further_commands ms tail) all.0.digests all.0.is_command (further_commands_are_cut_behind_command ms tail all.1 cut)

pub no_tokens_are_cut_behind_command : IsCutBehindCommand []
no_tokens_are_cut_behind_command = record { commands = tt; arguments = tt; ends = record { argument = record { path = refl; quote = refl }; word = record { ends = refl; apart = λ h. (refl, refl) } } }
