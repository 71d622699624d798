-- The users with which a user specification begins are cut into their tokens.
use Rattle.laws_print.proofs.Common.{◌≡◌, ℕ, ◌<◌, Bool, true, false, ◌||◌, List, [], ◌∷◌, ◌++◌, length, refl, sym, ap, subst, ◌∙◌, arith, ◌==◌}
use Rattle.laws_print.proofs.Common.{if◌then◌else◌, nat_lt, nat_eq, list_all, and_parts, ne_eqb, TokenKind, LineUnit, Pair, Byte, is_digit, leading_run_size}
use Rattle.laws_print.proofs.Common.{is_word_byte, is_upper, context_after_token, token_forms_in_word_lists, line_mode, kind_and_size_of_token, hash_include_size_at, is_name, is_alias_byte, Atom, Member}
use Rattle.laws_print.proofs.Common.{User, TokenWithBytes, alias_kind_of_token, include_is_dir_of_token, is_given_word, BeginsNoAliasIncludeOrDefaults, BeginsSpec, is_read_as_other_than_user_name, is_start_of_non_spec_line, IsWritableUserAtom}
use Rattle.laws_print.proofs.Common.{WrittenToken, text_of_units, line_of_written_tokens, IsTokenCut, AreTokensCut, AreTokensShownBy, AreWrittenUnitsOf, units_of_spelled_word}
use Rattle.std.specs.Fmt.{decimal}
use Rattle.sudoers_text.specs.declared.part.ByteRunKind.TheVariants as rule
use Rattle.sudoers_text.specs.declared.token.TokenKind.TheVariants as kind
use Rattle.sudoers_text.specs.declared.token.Mode.TheVariants as mode
use Rattle.sudoers_text.specs.declared.context.TokenContext.{TokenContext as ContextOf}
use Rattle.sudoers_text.specs.declared.context.TokenContext.TheVariants as context
use Rattle.sudoers_text.specs.Part.{has_given_first_byte}
use Rattle.sudoers_grammar.specs.declared.node.Atom.TheVariants as atom
use Rattle.sudoers_grammar.specs.Piece.{is_word}
use Rattle.sudoers_cvt_spell.specs.Spelling.{spelled_word}
use Rattle.laws_print.proofs.Units.{units_of_plain_bytes}
use Rattle.laws_print.proofs.ListTokens.{units_of_user_name, token_kind_of_atom, units_of_user_atom, token_of_list_atom, tokens_of_list_member, tokens_of_further_members, tokens_of_member_list}
use Rattle.laws_print.proofs.Words.{size_of_matching_byte_or_pair, run_reach_of_units_is_their_length, passing_byte_differs_from_failing_byte}
use Rattle.laws_print.proofs.Values.{units_of_spelled_word_are_word_units}
use Rattle.laws_print.proofs.Users.{word_units_have_front_of_spelled_word, text_of_plain_units_is_bytes, decimal_of_id_is_read_back}
use Rattle.laws_print.proofs.UserCuts.{EndsUser, BeginsWithoutHash, spelled_word_front_begins_without_hash, found_punctuation_is_cut, writable_user_is_cut, units_of_user_name_are_word_units, alias_bytes_are_word_units, name_is_nonempty_alias_bytes}
use Rattle.laws_print.proofs.ListCuts.{hosts_context_is_list_context, list_member_before_tail_is_cut, further_members_end_user, further_members_before_tail_are_cut, AreMembersOfListedAtoms}
use Rattle.laws_print.proofs.FirstWord.{writable_user_starts_no_other_line, mode_of_spec_word_line_is_commands, spec_word_token_begins_spec, host_context_follows_spec_word}

-- ---- no include begins there

percent_begins_no_hash_include : (first : Bool) (rest : List ℕ) → hash_include_size_at first (37 ∷ rest) ≡ 0
unfolding hash_include_size_at
percent_begins_no_hash_include first rest = refl

text_without_hash_begins_no_hash_include : (first : Bool) (bytes rest : List ℕ) → BeginsWithoutHash bytes → hash_include_size_at first (bytes ++ rest) ≡ 0
unfolding hash_include_size_at
text_without_hash_begins_no_hash_include first bytes rest is =
    ap (λ (t : List ℕ). hash_include_size_at first (t ++ rest)) is.whole ∙ rw is.hash refl

digit_is_not_letter_i : (d : ℕ) → is_digit d ≡ true → nat_eq 105 d ≡ false
digit_is_not_letter_i d is = ne_eqb 105 d (λ same. absurd (let there : is_digit 105 ≡ true = subst (λ (x : ℕ). is_digit x ≡ true) (sym same) is in cc))

hash_and_digits_are_no_hash_include : (first : Bool) (ds rest : List ℕ) → list_all is_digit ds ≡ true → 0 < length ds → hash_include_size_at first (35 ∷ (ds ++ rest)) ≡ 0
unfolding hash_include_size_at
hash_and_digits_are_no_hash_include first [] rest all some = absurd (omega arith)
hash_and_digits_are_no_hash_include false (d ∷ ds) rest all some = refl
hash_and_digits_are_no_hash_include true (d ∷ ds) rest all some = let other : nat_eq 105 d ≡ false = digit_is_not_letter_i d (and_parts (is_digit d) (list_all is_digit ds) all).0 in rw other refl

-- ---- users by words

-- what is known of a user whose token is a word
pub record IsUserWrittenAsWord (us : List LineUnit) : Type 0 where
  pub fits : AreWrittenUnitsOf is_word_byte us
  pub no_hash : BeginsWithoutHash (text_of_units us)

-- the first byte of a user's name is no `#`
units_of_first_name_have_no_hash : (b : ℕ) (name : List ℕ) → BeginsWithoutHash (text_of_units (units_of_user_name true (b ∷ name)))
units_of_first_name_have_no_hash b name = by_else (is_read_as_other_than_user_name true (spelled_word (b ∷ name)))
  where
    by_else : (t : Bool) → BeginsWithoutHash (text_of_units (if t then Pair b ∷ units_of_spelled_word name else units_of_spelled_word (b ∷ name)))
    by_else true = record { byte = 92; more = b ∷ text_of_units (units_of_spelled_word name); whole = refl; hash = refl }
    by_else false = spelled_word_front_begins_without_hash b (text_of_units (units_of_spelled_word (b ∷ name))) (word_units_have_front_of_spelled_word b name)

alias_name_has_no_hash : (name : List ℕ) → is_name name ≡ true → BeginsWithoutHash (text_of_units (units_of_plain_bytes name))
alias_name_has_no_hash [] is = absurd (cc)
alias_name_has_no_hash (b ∷ name) is =
    record { byte = b; more = text_of_units (units_of_plain_bytes name); whole = refl; hash = passing_byte_differs_from_failing_byte is_upper 35 b (and_parts (is_upper b) (list_all is_alias_byte name) is).0 refl }

text_without_hash_has_no_first_hash : (bytes : List ℕ) → BeginsWithoutHash bytes → has_given_first_byte 35 bytes ≡ false
text_without_hash_has_no_first_hash bytes is = ap (has_given_first_byte 35) is.whole ∙ is.hash

-- the bytes before a blank or a comma
mode_of_word_user_line_is_commands : (us : List LineUnit) (r : ℕ) (rest : List ℕ) → IsUserWrittenAsWord us → is_start_of_non_spec_line (text_of_units us) ≡ false → leading_run_size rule.Gap (text_of_units us ++ (r ∷ rest)) ≡ 0 → size_of_matching_byte_or_pair is_word_byte (r ∷ rest) ≡ 0 → (r == 32 || r == 44) ≡ true → line_mode (text_of_units us ++ (r ∷ rest)) ≡ mode.Commands
unfolding leading_run_size
mode_of_word_user_line_is_commands us r rest is other gap ends parts =
    let whole = is.no_hash.whole in
    let size : leading_run_size rule.Word (text_of_units us ++ (r ∷ rest)) ≡ length (text_of_units us) = run_reach_of_units_is_their_length is_word_byte refl us (r ∷ rest) is.fits ends in
    ap (λ (t : List ℕ). line_mode (t ++ (r ∷ rest))) whole
    ∙ mode_of_spec_word_line_is_commands is.no_hash.byte is.no_hash.more r rest parts is.no_hash.hash (ap is_start_of_non_spec_line (sym whole) ∙ other)
    (ap (λ (t : List ℕ). leading_run_size rule.Gap (t ++ (r ∷ rest))) (sym whole) ∙ gap)
    (ap (λ (t : List ℕ). leading_run_size rule.Word (t ++ (r ∷ rest))) (sym whole) ∙ size ∙ ap length whole)

mode_of_hash_number_line_is_commands : (ds rest : List ℕ) → list_all is_digit ds ≡ true → 0 < length ds → line_mode (35 ∷ (ds ++ rest)) ≡ mode.Commands
unfolding line_mode leading_run_size
mode_of_hash_number_line_is_commands [] rest all some = absurd (omega arith)
mode_of_hash_number_line_is_commands (d ∷ ds) rest all some = let other : nat_eq 105 d ≡ false = digit_is_not_letter_i d (and_parts (is_digit d) (list_all is_digit ds) all).0 in rw other refl

mode_of_percent_hash_line_is_commands : (rest : List ℕ) → line_mode (37 ∷ 35 ∷ rest) ≡ mode.Commands
unfolding line_mode leading_run_size
mode_of_percent_hash_line_is_commands rest = refl

mode_of_percent_colon_line_is_commands : (rest : List ℕ) → line_mode (37 ∷ 58 ∷ rest) ≡ mode.Commands
unfolding line_mode leading_run_size
mode_of_percent_colon_line_is_commands rest = refl

mode_of_negated_user_line_is_commands : (rest : List ℕ) → line_mode (33 ∷ rest) ≡ mode.Commands
unfolding line_mode leading_run_size
mode_of_negated_user_line_is_commands rest = refl

-- ---- users

-- no include, hosts behind it, and the mode: what is known of a user where a line begins
pub record IsUserAtLineBegin (a : Atom) : Type 0 where
  pub include : (first : Bool) (rest : List ℕ) → hash_include_size_at first (text_of_units (units_of_user_atom true a) ++ rest) ≡ 0
  pub hosts : (rest : List ℕ) → context_after_token (context.First mode.Commands) (token_kind_of_atom a) (text_of_units (units_of_user_atom true a)) rest ≡ context.Hosts
  pub mode_is : (r : ℕ) (rest : List ℕ) → (r == 32 || r == 44) ≡ true → EndsUser (r ∷ rest) → line_mode (text_of_units (units_of_user_atom true a) ++ (r ∷ rest)) ≡ mode.Commands
  pub begins : (t : TokenWithBytes) → t.kind ≡ token_kind_of_atom a → t.text ≡ text_of_units (units_of_user_atom true a) → BeginsNoAliasIncludeOrDefaults t

token_of_other_kind_begins_spec : (t : TokenWithBytes) → is_word t.kind ≡ false → BeginsNoAliasIncludeOrDefaults t
unfolding alias_kind_of_token include_is_dir_of_token is_given_word
token_of_other_kind_begins_spec t k = record { no_kind = rw k refl; no_include = rw k refl; no_defaults = rw k refl }

word_user_is_user_at_line_begin : (a : Atom) → IsWritableUserAtom a → token_kind_of_atom a ≡ kind.Word → IsUserWrittenAsWord (units_of_user_atom true a) → IsUserAtLineBegin a
word_user_is_user_at_line_begin a is word fits = record {
  include = λ first rest. text_without_hash_begins_no_hash_include first (text_of_units (units_of_user_atom true a)) rest fits.no_hash;
  hosts = λ rest.
      ap (λ (k : TokenKind). context_after_token (context.First mode.Commands) k (text_of_units (units_of_user_atom true a)) rest) word
      ∙ host_context_follows_spec_word (text_of_units (units_of_user_atom true a)) rest (text_without_hash_has_no_first_hash (text_of_units (units_of_user_atom true a)) fits.no_hash) (writable_user_starts_no_other_line a is);
  mode_is = λ r rest parts ends.
      mode_of_word_user_line_is_commands (units_of_user_atom true a) r rest fits (writable_user_starts_no_other_line a is) (writable_user_is_cut context.Hosts true a (r ∷ rest) refl is ends).no_gap ends.word parts;
  begins = λ t k text.
      spec_word_token_begins_spec t (k ∙ word) (ap (has_given_first_byte 35) text ∙ text_without_hash_has_no_first_hash (text_of_units (units_of_user_atom true a)) fits.no_hash) (ap is_start_of_non_spec_line text ∙ writable_user_starts_no_other_line a is);
}

writable_user_is_user_at_line_begin : (a : Atom) → IsWritableUserAtom a → IsUserAtLineBegin a
writable_user_is_user_at_line_begin atom.All is = word_user_is_user_at_line_begin atom.All is refl (record { fits = (refl, (refl, (refl, tt))); no_hash = record { byte = 65; more = 76 ∷ 76 ∷ []; whole = refl; hash = refl } })
writable_user_is_user_at_line_begin (atom.Alias name) is = word_user_is_user_at_line_begin (atom.Alias name) is refl (record { fits = alias_bytes_are_word_units name (name_is_nonempty_alias_bytes name is.0).1; no_hash = alias_name_has_no_hash name is.0 })
writable_user_is_user_at_line_begin (atom.Name []) is = absurd (is refl)
writable_user_is_user_at_line_begin (atom.Name (b ∷ name)) is = word_user_is_user_at_line_begin (atom.Name (b ∷ name)) is refl (record { fits = (units_of_user_name_are_word_units true b name).1; no_hash = units_of_first_name_have_no_hash b name })
writable_user_is_user_at_line_begin (atom.Id n) is =
    let digits = decimal_of_id_is_read_back n is in
    record {
      include = λ first rest. ap (λ (ds : List ℕ). hash_include_size_at first (35 ∷ (ds ++ rest))) (text_of_plain_units_is_bytes (decimal n)) ∙ hash_and_digits_are_no_hash_include first (decimal n) rest digits.1 digits.2;
      hosts = λ rest. refl;
      mode_is = λ r rest parts ends. ap (λ (ds : List ℕ). line_mode (35 ∷ (ds ++ (r ∷ rest)))) (text_of_plain_units_is_bytes (decimal n)) ∙ mode_of_hash_number_line_is_commands (decimal n) (r ∷ rest) digits.1 digits.2;
      begins = λ t k text. token_of_other_kind_begins_spec t (ap is_word k);
    }
writable_user_is_user_at_line_begin (atom.Group name) is = word_user_is_user_at_line_begin (atom.Group name) is refl (record { fits = (refl, units_of_spelled_word_are_word_units name); no_hash = record { byte = 37; more = text_of_units (units_of_spelled_word name); whole = refl; hash = refl } })
writable_user_is_user_at_line_begin (atom.GroupId n) is = record {
  include = λ first rest. percent_begins_no_hash_include first (35 ∷ (text_of_units (units_of_plain_bytes (decimal n)) ++ rest));
  hosts = λ rest. refl;
  mode_is = λ r rest parts ends. mode_of_percent_hash_line_is_commands (text_of_units (units_of_plain_bytes (decimal n)) ++ (r ∷ rest));
  begins = λ t k text. token_of_other_kind_begins_spec t (ap is_word k);
}
writable_user_is_user_at_line_begin (atom.NonUnix name) is =
    let other : is_start_of_non_spec_line (37 ∷ 58 ∷ text_of_units (units_of_spelled_word name)) ≡ false = writable_user_starts_no_other_line (atom.NonUnix name) is in
    record {
      include = λ first rest. percent_begins_no_hash_include first (58 ∷ (text_of_units (units_of_spelled_word name) ++ rest));
      hosts = λ rest. host_context_follows_spec_word (37 ∷ 58 ∷ text_of_units (units_of_spelled_word name)) rest refl other;
      mode_is = λ r rest parts ends. mode_of_percent_colon_line_is_commands (text_of_units (units_of_spelled_word name) ++ (r ∷ rest));
      begins = λ t k text. spec_word_token_begins_spec t k (ap (has_given_first_byte 35) text) (ap is_start_of_non_spec_line text ∙ other);
    }
writable_user_is_user_at_line_begin (atom.Netgroup name) is = word_user_is_user_at_line_begin (atom.Netgroup name) is refl (record { fits = (refl, units_of_spelled_word_are_word_units name); no_hash = record { byte = 43; more = text_of_units (units_of_spelled_word name); whole = refl; hash = refl } })
writable_user_is_user_at_line_begin a is = absurd is

-- ---- lists

first_user_is_cut : (a : Atom) (rest : List ℕ) → IsWritableUserAtom a → EndsUser rest → IsTokenCut (context.First mode.Commands) true false (token_kind_of_atom a) (units_of_user_atom true a) rest
first_user_is_cut a rest is ends =
    let cut = writable_user_is_cut context.Hosts true a rest refl is ends in
    let bytes = text_of_units (units_of_user_atom true a) ++ rest in
    record {
      found = λ i first possible.
          ap (λ (n : ℕ). if nat_lt 0 n then (kind.Word, n) else kind_and_size_of_token token_forms_in_word_lists i first bytes) ((writable_user_is_user_at_line_begin a is).include first rest) ∙ cut.found i first possible;
      no_gap = cut.no_gap;
      more = cut.more;
      some = cut.some;
      closed = cut.closed;
      leaves = cut.leaves;
      stand = cut.stand;
      leaves_units = cut.leaves_units;
      clean = cut.clean;
    }

first_negation_sign_is_cut : (rest : List ℕ) → IsTokenCut (context.First mode.Commands) true true kind.Punct (Byte 33 ∷ []) rest
unfolding hash_include_size_at
first_negation_sign_is_cut rest = found_punctuation_is_cut (context.First mode.Commands) true true 33 rest (λ i first. refl) refl (λ before begins. begins)

first_user_member_before_tail_is_cut : (negated : Bool) (a : Atom) (tail : List WrittenToken) → IsWritableUserAtom a → EndsUser (line_of_written_tokens tail) → AreTokensCut context.Hosts false tail → AreTokensCut (context.First mode.Commands) true (tokens_of_list_member User false true negated a tail)
first_user_member_before_tail_is_cut true a tail is ends cut =
    (true, first_negation_sign_is_cut (line_of_written_tokens (token_of_list_atom User false false a ∷ tail)), list_member_before_tail_is_cut User context.Hosts context.Hosts hosts_context_is_list_context true false false false a tail is refl ends cut)
first_user_member_before_tail_is_cut false a tail is ends cut =
    (false, first_user_is_cut a (line_of_written_tokens tail) is ends, subst (λ (c : ContextOf). AreTokensCut c false tail) (sym ((writable_user_is_user_at_line_begin a is).hosts (line_of_written_tokens tail))) cut)

-- The users are cut into their tokens.
pub first_user_list_before_tail_is_cut : (m : Member) (ms : List Member) (tail : List WrittenToken) → AreMembersOfListedAtoms User (m ∷ ms) → EndsUser (line_of_written_tokens tail) → AreTokensCut context.Hosts false tail → AreTokensCut (context.First mode.Commands) true (tokens_of_member_list User false true (m ∷ ms) tail)
first_user_list_before_tail_is_cut m ms tail all ends cut =
    first_user_member_before_tail_is_cut m.negated m.atom (tokens_of_further_members User ms tail) all.0.is (further_members_end_user User ms tail ends) (further_members_before_tail_are_cut User context.Hosts context.Hosts hosts_context_is_list_context ms tail all.1 ends cut)

-- the bytes of some tokens begin with a blank or a comma
pub record BeginsWithBlankOrComma (bytes : List ℕ) : Type 0 where
  pub byte : ℕ
  pub rest : List ℕ
  pub whole : bytes ≡ byte ∷ rest
  pub is : (byte == 32 || byte == 44) ≡ true

further_users_begin_with_blank_or_comma : (ms : List Member) (tail : List WrittenToken) → BeginsWithBlankOrComma (line_of_written_tokens tail) → BeginsWithBlankOrComma (line_of_written_tokens (tokens_of_further_members User ms tail))
further_users_begin_with_blank_or_comma [] tail is = is
further_users_begin_with_blank_or_comma (m ∷ ms) tail is = record { byte = 44; rest = line_of_written_tokens (tokens_of_list_member User true false m.negated m.atom (tokens_of_further_members User ms tail)); whole = refl; is = refl }

-- The line is read as commands.
pub mode_of_user_list_line_is_commands : (m : Member) (ms : List Member) (tail : List WrittenToken) → AreMembersOfListedAtoms User (m ∷ ms) → EndsUser (line_of_written_tokens tail) → BeginsWithBlankOrComma (line_of_written_tokens tail) → line_mode (line_of_written_tokens (tokens_of_member_list User false true (m ∷ ms) tail)) ≡ mode.Commands
mode_of_user_list_line_is_commands m ms tail all ends part = by_sign m.negated
  where
    by_sign : (negated : Bool) → line_mode (line_of_written_tokens (tokens_of_list_member User false true negated m.atom (tokens_of_further_members User ms tail))) ≡ mode.Commands
    by_sign true = mode_of_negated_user_line_is_commands (line_of_written_tokens (token_of_list_atom User false false m.atom ∷ tokens_of_further_members User ms tail))
    by_sign false =
        ap (λ (t : List ℕ). line_mode (text_of_units (units_of_user_atom true m.atom) ++ t)) (further_users_begin_with_blank_or_comma ms tail part).whole
        ∙ (writable_user_is_user_at_line_begin m.atom all.0.is).mode_is (further_users_begin_with_blank_or_comma ms tail part).byte (further_users_begin_with_blank_or_comma ms tail part).rest (further_users_begin_with_blank_or_comma ms tail part).is
        (subst EndsUser (further_users_begin_with_blank_or_comma ms tail part).whole (further_members_end_user User ms tail ends))

-- It begins no other line.
pub user_list_tokens_begin_spec : (m : Member) (ms : List Member) (tail : List WrittenToken) (ts : List TokenWithBytes) → AreMembersOfListedAtoms User (m ∷ ms) → AreTokensShownBy (tokens_of_member_list User false true (m ∷ ms) tail) ts → BeginsSpec ts
user_list_tokens_begin_spec m ms tail [] all shown = tt
user_list_tokens_begin_spec m ms tail (t ∷ ts) all shown = by_sign m.negated shown
  where
    by_sign : (negated : Bool) → AreTokensShownBy (tokens_of_list_member User false true negated m.atom (tokens_of_further_members User ms tail)) (t ∷ ts) → BeginsNoAliasIncludeOrDefaults t
    by_sign true shown = token_of_other_kind_begins_spec t (ap is_word shown.0)
    by_sign false shown = (writable_user_is_user_at_line_begin m.atom all.0.is).begins t shown.0 shown.1
