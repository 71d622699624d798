-- Lists of commands as they are written are read as these lists.
use Rattle.laws_print.proofs.Common.{◌≡◌, Bool, true, false, List, [], ◌∷◌, ◌++◌, Some, refl, sym, ap, ◌∙◌, AllByRecursion, Atom, Digest, DigestKind}
use Rattle.laws_print.proofs.Common.{Member, TokenWithBytes, is_digest, command_atom_of_tokens, IsMark, IsArg, IsDigest, IsCommand, Many, MarkThenRule, Separated, Perhaps}
use Rattle.laws_print.proofs.Common.{stop_of_last_token, start_of_first_token, digest_kind_keyword, IsWritableCommandAtom, IsWritableCommandMember, atom_read_back, MemberIsReadBackAs, AreItemsPairwiseRelated, WrittenToken, text_of_units}
use Rattle.laws_print.proofs.Common.{AreTokensShownBy}
use Rattle.sudoers_text.specs.declared.token.TokenKind.TheVariants as kind
use Rattle.sudoers_grammar.specs.declared.node.Atom.TheVariants as atom
use Rattle.sudoers_grammar.specs.declared.node.DigestKind.TheVariants as digest
use Rattle.sudoers_grammar.specs.Piece.{digest_kind_of_token}
use Rattle.sudoers_grammar.specs.Atom.{is_command_allowing_digests}
use Rattle.sudoers_grammar.specs.Grammar.{MayHaveDigests, AreCommands, is_odd_count_of_tokens}
use Rattle.laws_print.proofs.Units.{units_of_plain_bytes}
use Rattle.laws_print.proofs.CommandTokens.{tokens_of_signed_command, tokens_of_digest, tokens_of_further_digests, tokens_of_command_with_digests, tokens_of_command_list, tokens_of_command_member}
use Rattle.laws_print.proofs.Shown.{punctuation_of_byte_is_its_mark}
use Rattle.laws_print.proofs.Users.{text_of_plain_units_is_bytes}
use Rattle.laws_print.proofs.Many.{ReadsAsSameThing, many_read}
use Rattle.laws_print.proofs.ReadCommands.{command_atom_is_read_back}

-- A command is read back as it is.
pub writable_command_atom_reads_back_as_itself : (a : Atom) → IsWritableCommandAtom a → atom_read_back a ≡ a
writable_command_atom_reads_back_as_itself atom.All is = refl
writable_command_atom_reads_back_as_itself (atom.Alias name) is = refl
writable_command_atom_reads_back_as_itself atom.Listing is = refl
writable_command_atom_reads_back_as_itself (atom.Path path args) is = refl
writable_command_atom_reads_back_as_itself (atom.Sudoedit args) is = refl
writable_command_atom_reads_back_as_itself a is = absurd is

-- ---- signs

-- what a command with its sign is read as
pub record ReadsAsSignedCommand (ts : List TokenWithBytes) (negated : Bool) (a : Atom) (tail : List WrittenToken) : Type 0 where
  pub signs : List TokenWithBytes
  pub word : TokenWithBytes
  pub args : List TokenWithBytes
  pub rest : List TokenWithBytes
  pub split : ts ≡ signs ++ (word ∷ (args ++ rest))
  pub are_signs : AllByRecursion (IsMark 33) signs
  pub are_args : AllByRecursion IsArg args
  pub atom : command_atom_of_tokens word args ≡ Some a
  pub negates : negated ≡ is_odd_count_of_tokens signs
  pub behind : AreTokensShownBy tail rest

pub signed_command_is_read_back : (spaced negated : Bool) (a : Atom) (tail : List WrittenToken) (ts : List TokenWithBytes) → IsWritableCommandAtom a → AreTokensShownBy (tokens_of_signed_command spaced negated a tail) ts → ReadsAsSignedCommand ts negated a tail
signed_command_is_read_back spaced false a tail ts is shows =
    let one = command_atom_is_read_back spaced a tail ts is shows in
    record { signs = []; word = one.word; args = one.args; rest = one.rest; split = one.split; are_signs = tt; are_args = one.are_args; atom = one.atom; negates = refl; behind = one.behind }
signed_command_is_read_back spaced true a tail [] is shows = absurd shows
signed_command_is_read_back spaced true a tail (s ∷ ts) is shows =
    let one = command_atom_is_read_back false a tail ts is shows.2 in
    record {
      signs = s ∷ [];
      word = one.word;
      args = one.args;
      rest = one.rest;
      split = ap (λ (us : List TokenWithBytes). s ∷ us) one.split;
      are_signs = (punctuation_of_byte_is_its_mark 33 s shows.0 shows.1, tt);
      are_args = one.are_args;
      atom = one.atom;
      negates = refl;
      behind = one.behind;
    }

-- ---- digests

digest_keyword_is_read_back : (k : DigestKind) (t : TokenWithBytes) → t.kind ≡ kind.Word → t.text ≡ text_of_units (units_of_plain_bytes (digest_kind_keyword k)) → digest_kind_of_token t ≡ Some k
unfolding digest_kind_of_token
digest_keyword_is_read_back digest.Sha224 t k text = rw (k, text) refl
digest_keyword_is_read_back n t k text = rw (k, text) refl

-- what is read of digests, and the tokens behind them
pub record ReadsBeforeTail (R : List TokenWithBytes → List TokenWithBytes → Type 0) (ts : List TokenWithBytes) (tail : List WrittenToken) : Type 0 where
  pub rest : List TokenWithBytes
  pub is : R ts rest
  pub behind : AreTokensShownBy tail rest

digest_is_read_back : (spaced : Bool) (d : Digest) (tail : List WrittenToken) (ts : List TokenWithBytes) → AreTokensShownBy (tokens_of_digest spaced d tail) ts → ReadsBeforeTail (λ us rest. IsDigest us d rest) ts tail
digest_is_read_back spaced d tail [] shows = absurd shows
digest_is_read_back spaced d tail (w ∷ []) shows = absurd shows.2
digest_is_read_back spaced d tail (w ∷ c ∷ []) shows = absurd shows.2.2
digest_is_read_back spaced d tail (w ∷ c ∷ t ∷ ts) shows = record {
  rest = ts;
  is = record {
    word = w;
    colon = c;
    digest = t;
    split = refl;
    is_kind = digest_keyword_is_read_back d.kind w shows.0 shows.1;
    is_colon = punctuation_of_byte_is_its_mark 58 c shows.2.0 shows.2.1;
    is_digest = ap is_digest shows.2.2.0;
    text = sym (shows.2.2.1 ∙ text_of_plain_units_is_bytes d.text);
  };
  behind = shows.2.2.2;
}

further_digests_are_read_back : (ds : List Digest) (tail : List WrittenToken) (ts : List TokenWithBytes) → AreTokensShownBy (tokens_of_further_digests ds tail) ts → ReadsBeforeTail (λ us rest. Many (MarkThenRule 44 IsDigest) us ds rest) ts tail
further_digests_are_read_back [] tail ts shows = record { rest = ts; is = refl; behind = shows }
further_digests_are_read_back (d ∷ ds) tail [] shows = absurd shows
further_digests_are_read_back (d ∷ ds) tail (t ∷ ts) shows =
    let one = digest_is_read_back true d (tokens_of_further_digests ds tail) ts shows.2 in
    let more = further_digests_are_read_back ds tail one.rest one.behind in
    record {
      rest = more.rest;
      is = (one.rest, record { mark = t; behind = ts; split = refl; is_mark = punctuation_of_byte_is_its_mark 44 t shows.0 shows.1; is = one.is }, more.is);
      behind = more.behind;
    }

-- the digests before a command, and the command behind them
pub record ReadsAsDigestsBeforeCommand (ts : List TokenWithBytes) (ds : List Digest) (negated : Bool) (a : Atom) (tail : List WrittenToken) : Type 0 where
  pub spaced : Bool
  pub behind : List TokenWithBytes
  pub is : Perhaps (Separated 44 IsDigest) ts ds behind
  pub shown : AreTokensShownBy (tokens_of_signed_command spaced negated a tail) behind

digests_before_command_are_read_back : (spaced : Bool) (ds : List Digest) (negated : Bool) (a : Atom) (tail : List WrittenToken) (ts : List TokenWithBytes) → AreTokensShownBy (tokens_of_command_with_digests spaced ds negated a tail) ts → ReadsAsDigestsBeforeCommand ts ds negated a tail
digests_before_command_are_read_back spaced [] negated a tail ts shows = record { spaced = spaced; behind = ts; is = refl; shown = shows }
digests_before_command_are_read_back spaced (d ∷ ds) negated a tail ts shows =
    let one = digest_is_read_back spaced d (tokens_of_further_digests ds (tokens_of_signed_command true negated a tail)) ts shows in
    let more = further_digests_are_read_back ds (tokens_of_signed_command true negated a tail) one.rest one.behind in
    record { spaced = true; behind = more.rest; is = (one.rest, one.is, more.is); shown = more.behind }

-- ---- commands

pub equal_atoms_may_have_same_digests : (ds : List Digest) (m n : Member) → m.atom ≡ n.atom → MayHaveDigests ds m → MayHaveDigests ds n
equal_atoms_may_have_same_digests [] m n same suits = tt
equal_atoms_may_have_same_digests (d ∷ ds) m n same suits = ap is_command_allowing_digests (sym same) ∙ suits

pub command_member_is_read_back : (spaced : Bool) (m : Member) (tail : List WrittenToken) (ts : List TokenWithBytes) → IsWritableCommandMember m → AreTokensShownBy (tokens_of_command_with_digests spaced m.digests m.negated m.atom tail) ts → ReadsAsSameThing IsCommand MemberIsReadBackAs ts m tail
command_member_is_read_back spaced m tail ts is shows =
    let digests = digests_before_command_are_read_back spaced m.digests m.negated m.atom tail ts shows in
    let one = signed_command_is_read_back digests.spaced m.negated m.atom tail digests.behind is.is_command digests.shown in
    let thing : Member = record { start = start_of_first_token ts; stop = stop_of_last_token one.word one.args; negated = m.negated; digests = m.digests; atom = m.atom } in
    record {
      thing = thing;
      rest = one.rest;
      is = record {
        behind = digests.behind;
        digests = digests.is;
        signs = one.signs;
        word = one.word;
        args = one.args;
        split = one.split;
        are_signs = one.are_signs;
        are_args = one.are_args;
        atom = one.atom;
        suits = equal_atoms_may_have_same_digests m.digests m thing refl is.suits;
        negated = one.negates;
        start = refl;
        stop = refl;
      };
      alike = record { negated = refl; digests = refl; atom = writable_command_atom_reads_back_as_itself m.atom is.is_command };
      behind = one.behind;
    }

-- A list of commands is read as it is written.
pub command_list_is_read_back : (spaced : Bool) (m : Member) (ms : List Member) (tail : List WrittenToken) (ts : List TokenWithBytes) → AllByRecursion IsWritableCommandMember (m ∷ ms) → AreTokensShownBy (tokens_of_command_list spaced (m ∷ ms) tail) ts → ReadsAsSameThing AreCommands (AreItemsPairwiseRelated MemberIsReadBackAs) ts (m ∷ ms) tail
command_list_is_read_back spaced m ms tail ts all shows =
    many_read 44 false IsCommand MemberIsReadBackAs IsWritableCommandMember (tokens_of_command_member true) (command_member_is_read_back true) (tokens_of_command_member spaced) (command_member_is_read_back spaced) (m ∷ ms) tail ts all shows
