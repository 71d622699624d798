-- Digests.
use Rattle.std.proofs.Common.{Bool, false, codes, ◌||◌, List, [], ◌∷◌, Some, refl, sym, ap, ◌∙◌}
use Rattle.sudoers_text.specs.declared.token.TokenKind.TheVariants as kind
use Rattle.sudoers_grammar.specs.Node.{Digest}
use Rattle.sudoers_grammar.specs.declared.node.DigestKind.{DigestKind}
use Rattle.sudoers_grammar.specs.declared.node.DigestKind.TheVariants as digest_of_kind
use Rattle.sudoers_grammar.specs.Piece.{TokenWithBytes, is_some, is_mark_of_byte, digest_kind_of_token}
use Rattle.sudoers_grammar.specs.Grammar.{Separated, Perhaps, IsDigest}
use Rattle.sudoers_line_reader.specs.Reader.{separated_list_reader, is_next_token}
use Rattle.sudoers_line_reader.specs.Descent.{is_digest_token, has_meaning_by, digest_of_kind_and_token, digest_reader, optional_digests_reader}
use Rattle.sudoers_line_reader.proofs.Keeps.{GrammarRule, ReaderFollowsRule, is_token_of_empty_test, next_token_fails_empty_test, IsEmptyReadingOf, IsOneTokenWithMeaning, HasSampleToken, one_token_reader_follows_rule, IsOnePassingToken, passing_token_reader_follows_rule, IsSequenceOfRules, BeginsWithPassingToken}
use Rattle.sudoers_line_reader.proofs.Repeats.{mark_reader_follows_rule, separated_lawful}
use Rattle.sudoers_line_reader.proofs.Parts.{sequence_after_ended_reader_follows_rule, reader_follows_rule_saying_the_same, mapped_reader_follows_rule, list_or_nothing_reader_follows_rule, tokens_failing_either_test_fail_both}

-- ---- shaN ":" digest

abbrev pub sample_digest_kind_token : TokenWithBytes
sample_digest_kind_token = record { kind = kind.Word; text = codes "sha224"; start = 0; stop = 0; last = false }

digest_kind_has_sample_token : HasSampleToken digest_kind_of_token
unfolding digest_kind_of_token
digest_kind_has_sample_token = record { piece = sample_digest_kind_token; what = digest_of_kind.Sha224; is = refl }

abbrev sample_digest_token : TokenWithBytes
sample_digest_token = record { kind = kind.Digest; text = []; start = 0; stop = 0; last = false }

abbrev IsDigestAfterKind : DigestKind → GrammarRule Digest
IsDigestAfterKind k = IsSequenceOfRules (IsOnePassingToken (is_mark_of_byte 58)) (λ _. IsSequenceOfRules (IsOnePassingToken is_digest_token) (λ t. IsEmptyReadingOf (digest_of_kind_and_token k t)))

digest_sequence_is_digest : (ts : List TokenWithBytes) (d : Digest) (rest : List TokenWithBytes) → IsSequenceOfRules (IsOneTokenWithMeaning digest_kind_of_token) IsDigestAfterKind ts d rest → IsDigest ts d rest
digest_sequence_is_digest ts d rest (k, mid, (w, e, has_meaning_by), (c, behind, (f, is_colon), (t, end, (g, is_text), (h, same)))) = record {
  word = w;
  colon = c;
  digest = t;
  split = e ∙ ap (λ (l : List TokenWithBytes). w ∷ l) (f ∙ ap (λ (l : List TokenWithBytes). c ∷ l) (g ∙ ap (λ (l : List TokenWithBytes). t ∷ l) h));
  is_kind = has_meaning_by ∙ ap (λ (x : Digest). Some x.kind) (sym same);
  is_colon = is_colon;
  is_digest = is_text;
  text = ap (λ (x : Digest). x.text) same;
}

digest_is_digest_sequence : (ts : List TokenWithBytes) (d : Digest) (rest : List TokenWithBytes) → IsDigest ts d rest → IsSequenceOfRules (IsOneTokenWithMeaning digest_kind_of_token) IsDigestAfterKind ts d rest
digest_is_digest_sequence ts d rest h =
    (d.kind, h.colon ∷ h.digest ∷ rest, (h.word, h.split, h.is_kind), (h.colon, h.digest ∷ rest, (refl, h.is_colon), (h.digest, rest, (refl, h.is_digest), (refl, λ i. record { kind = d.kind; text = h.text i }))))

pub digest_reader_follows_rule : ReaderFollowsRule digest_reader IsDigest is_token_of_empty_test
unfolding digest_reader
digest_reader_follows_rule = reader_follows_rule_saying_the_same digest_sequence_is_digest digest_is_digest_sequence
    (sequence_after_ended_reader_follows_rule (one_token_reader_follows_rule digest_kind_of_token digest_kind_has_sample_token) (λ k. sequence_after_ended_reader_follows_rule (mark_reader_follows_rule 58) (λ _. mapped_reader_follows_rule (digest_of_kind_and_token k) (passing_token_reader_follows_rule is_digest_token sample_digest_token refl))))

digest_begins_with_digest_kind : BeginsWithPassingToken (has_meaning_by digest_kind_of_token) IsDigest
digest_begins_with_digest_kind ts d rest h = ap (is_next_token (has_meaning_by digest_kind_of_token)) h.split ∙ ap is_some h.is_kind

digest_list_begins_with_digest_kind : BeginsWithPassingToken (has_meaning_by digest_kind_of_token) (Separated 44 IsDigest)
digest_list_begins_with_digest_kind ts [] rest h = absurd h
digest_list_begins_with_digest_kind ts (d ∷ ds) rest h = digest_begins_with_digest_kind ts d h.0 h.1

abbrev pub AreOptionalDigests : GrammarRule (List Digest)
AreOptionalDigests = Perhaps (Separated 44 IsDigest)

abbrev pub may_continue_digest_list : TokenWithBytes → Bool
may_continue_digest_list t = has_meaning_by digest_kind_of_token t || is_mark_of_byte 44 t

pub digest_list_reader_follows_rule : ReaderFollowsRule (separated_list_reader 44 digest_reader) (Separated 44 IsDigest) (is_mark_of_byte 44)
digest_list_reader_follows_rule = separated_lawful 44 digest_reader IsDigest is_token_of_empty_test (is_mark_of_byte 44) (λ zs st. st) (λ zs st. next_token_fails_empty_test zs) (λ zs e. next_token_fails_empty_test zs) digest_reader_follows_rule

pub optional_digests_reader_follows_rule : ReaderFollowsRule optional_digests_reader AreOptionalDigests may_continue_digest_list
unfolding optional_digests_reader
optional_digests_reader_follows_rule = list_or_nothing_reader_follows_rule may_continue_digest_list (λ zs st. (tokens_failing_either_test_fail_both (has_meaning_by digest_kind_of_token) (is_mark_of_byte 44) zs st).0) (λ zs st. (tokens_failing_either_test_fail_both (has_meaning_by digest_kind_of_token) (is_mark_of_byte 44) zs st).1) digest_list_begins_with_digest_kind (λ ts rest h. h)
    (separated_lawful 44 digest_reader IsDigest is_token_of_empty_test (is_mark_of_byte 44) (λ zs st. st) (λ zs st. next_token_fails_empty_test zs) (λ zs e. next_token_fails_empty_test zs) digest_reader_follows_rule)
