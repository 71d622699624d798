-- The tokens of commands are these commands as they are printed.
use Rattle.laws_print.proofs.Common.{◌≡◌, ℕ, Bool, true, false, ◌&&◌, ◌||◌, not, List, [], ◌∷◌, ◌++◌, refl, sym, ap, ◌∙◌, ◌==◌, if◌then◌else◌, codes}
use Rattle.laws_print.proofs.Common.{AllByRecursion, join_by, append_assoc, and_parts, or_parts, eqb-true, LineUnit, Pair, Byte, bytes_of_unit, is_blank}
use Rattle.laws_print.proofs.Common.{Cmnd, Args, Any, Nothing, Pattern, Atom, Digest, Member, Command, escaped_pattern_byte, printed_atom, digest_kind_keyword}
use Rattle.laws_print.proofs.Common.{printed_digests, negation_sign, printed_member, printed_member_list, is_pattern_byte_but_backslash, is_backslash_kept_before, is_writable_pattern, IsWritableArgs}
use Rattle.laws_print.proofs.Common.{IsWritableCommandAtom, IsWritableCommandMember, IsWritableDigestText, WrittenToken, text_of_units, gap_bytes_if_spaced, line_of_written_tokens, escaped_pattern_unit, escaped_pattern_units, units_of_pattern}
use Rattle.laws_print.proofs.Common.{begins_with_other_than_space, words_with_unit_in_first, argument_words_of_units, tokens_of_argument_words}
use Rattle.sudoers_grammar.specs.declared.node.Atom.TheVariants as atom
use Rattle.sudoers_cvt_spell.specs.Spelling.{escaped_pattern}
use Rattle.sudoers_cvt_spell.specs.Members.{has_next_non_space, spelled_command_args, printed_args, printed_digest}
use Rattle.laws_print.proofs.Units.{units_of_plain_bytes}
use Rattle.laws_print.proofs.CommandTokens.{tokens_of_arguments, tokens_of_command_atom, tokens_of_signed_command, tokens_of_digest, tokens_of_command_with_digests, tokens_of_command_list, tokens_of_command_member}
use Rattle.laws_print.proofs.Users.{text_of_plain_units_is_bytes}
use Rattle.laws_print.proofs.Patterns.{kept_backslash_test_implies_keeping, byte_with_kept_backslash_needs_no_escape, bytes_of_escaped_unit_are_escaped_byte, text_of_escaped_units_is_escaped_pattern}
use Rattle.laws_print.proofs.Arguments.{AreArgumentWords, words_of_units_are_argument_words}
use Rattle.laws_print.proofs.Many.{many_text}

-- ---- arguments

-- the words as they are written, with single spaces between them
abbrev pub text_of_escaped_argument_words : List (List LineUnit) → List ℕ
text_of_escaped_argument_words [] = []
text_of_escaped_argument_words (w ∷ []) = text_of_units (escaped_pattern_units Command w)
text_of_escaped_argument_words (w ∷ v ∷ ws) = text_of_units (escaped_pattern_units Command w) ++ 32 ∷ text_of_escaped_argument_words (v ∷ ws)

text_of_argument_tokens_is_escaped_words : (w : List LineUnit) (ws : List (List LineUnit)) (tail : List WrittenToken) → line_of_written_tokens (tokens_of_argument_words (w ∷ ws) tail) ≡ 32 ∷ (text_of_escaped_argument_words (w ∷ ws) ++ line_of_written_tokens tail)
text_of_argument_tokens_is_escaped_words w [] tail = refl
text_of_argument_tokens_is_escaped_words w (v ∷ ws) tail =
    ap (λ (t : List ℕ). 32 ∷ (text_of_units (escaped_pattern_units Command w) ++ t)) (text_of_argument_tokens_is_escaped_words v ws tail)
    ∙ ap (λ (t : List ℕ). 32 ∷ t) (sym (append_assoc (text_of_units (escaped_pattern_units Command w)) (32 ∷ text_of_escaped_argument_words (v ∷ ws)) (line_of_written_tokens tail)))

escaped_words_begin_with_escaped_unit : (u : LineUnit) (w : List LineUnit) (ws : List (List LineUnit)) → text_of_escaped_argument_words ((u ∷ w) ∷ ws) ≡ bytes_of_unit (escaped_pattern_unit Command u) ++ text_of_escaped_argument_words (w ∷ ws)
escaped_words_begin_with_escaped_unit u w [] = refl
escaped_words_begin_with_escaped_unit u w (v ∷ ws) = append_assoc (bytes_of_unit (escaped_pattern_unit Command u)) (text_of_units (escaped_pattern_units Command w)) (32 ∷ text_of_escaped_argument_words (v ∷ ws))

escaped_words_with_first_unit_add_it : (u : LineUnit) (us : List LineUnit) (ws : List (List LineUnit)) → AreArgumentWords us ws → text_of_escaped_argument_words (words_with_unit_in_first u ws) ≡ bytes_of_unit (escaped_pattern_unit Command u) ++ text_of_escaped_argument_words ws
escaped_words_with_first_unit_add_it u us ws is =
    ap (λ (xs : List (List LineUnit)). text_of_escaped_argument_words (words_with_unit_in_first u xs)) is.parts ∙ escaped_words_begin_with_escaped_unit u is.first is.others
    ∙ ap (λ (xs : List (List LineUnit)). bytes_of_unit (escaped_pattern_unit Command u) ++ text_of_escaped_argument_words xs) (sym is.parts)

escaped_words_behind_empty_one_add_space : (us : List LineUnit) (ws : List (List LineUnit)) → AreArgumentWords us ws → text_of_escaped_argument_words ([] ∷ ws) ≡ 32 ∷ text_of_escaped_argument_words ws
escaped_words_behind_empty_one_add_space us ws is = ap (λ (xs : List (List LineUnit)). text_of_escaped_argument_words ([] ∷ xs)) is.parts ∙ ap (λ (xs : List (List LineUnit)). 32 ∷ text_of_escaped_argument_words xs) (sym is.parts)

units_begin_word_where_bytes_do : (bytes : List ℕ) → begins_with_other_than_space (units_of_pattern bytes) ≡ has_next_non_space bytes
units_begin_word_where_bytes_do [] = refl
units_begin_word_where_bytes_do (c ∷ []) = refl
units_begin_word_where_bytes_do (c ∷ d ∷ rest) = by_backslash (c == 92) refl
  where
    by_backslash : (t : Bool) → (c == 92) ≡ t → begins_with_other_than_space (if t then Pair d ∷ units_of_pattern rest else Byte c ∷ units_of_pattern (d ∷ rest)) ≡ not (c == 32)
    by_backslash true e = ap (λ (x : ℕ). not (x == 32)) (sym (eqb-true c 92 e))
    by_backslash false e = refl

conjunction_of_three_is_associative : (x y z : Bool) → (x && (y && z)) ≡ (x && y && z)
conjunction_of_three_is_associative true true z = refl
conjunction_of_three_is_associative true false z = refl
conjunction_of_three_is_associative false y z = refl

escaped_words_with_next_byte_are_spelled : (b : ℕ) (us : List LineUnit) (bytes : List ℕ) (behind : Bool) → begins_with_other_than_space us ≡ has_next_non_space bytes → text_of_escaped_argument_words (argument_words_of_units false us) ≡ spelled_command_args false bytes → text_of_escaped_argument_words (argument_words_of_units (not (b == 32)) us) ≡ spelled_command_args (not (b == 32)) bytes
    → text_of_escaped_argument_words (argument_words_of_units behind (Byte b ∷ us)) ≡ spelled_command_args behind (b ∷ bytes)
escaped_words_with_next_byte_are_spelled b us bytes behind begins ended more =
    by_test (b == 32 && (behind && begins_with_other_than_space us)) refl
    ∙ ap (λ (t : Bool). (if t then 32 ∷ [] else escaped_pattern_byte Command b) ++ spelled_command_args (not (b == 32)) bytes) (ap (λ (t : Bool). b == 32 && (behind && t)) begins ∙ conjunction_of_three_is_associative (b == 32) behind (has_next_non_space bytes))
  where
    by_test : (t : Bool) → (b == 32 && (behind && begins_with_other_than_space us)) ≡ t → text_of_escaped_argument_words (if t then [] ∷ argument_words_of_units false us else words_with_unit_in_first (Byte b) (argument_words_of_units (not (b == 32)) us)) ≡ (if t then 32 ∷ [] else escaped_pattern_byte Command b) ++ spelled_command_args (not (b == 32)) bytes
    by_test true e =
        escaped_words_behind_empty_one_add_space us (argument_words_of_units false us) (words_of_units_are_argument_words false us)
        ∙ ap (λ (t : List ℕ). 32 ∷ t) (ended ∙ ap (λ (t : Bool). spelled_command_args (not t) bytes) (sym (and_parts (b == 32) (behind && begins_with_other_than_space us) e).0))
    by_test false e =
        escaped_words_with_first_unit_add_it (Byte b) us (argument_words_of_units (not (b == 32)) us) (words_of_units_are_argument_words (not (b == 32)) us)
        ∙ ap (λ (t : List ℕ). t ++ text_of_escaped_argument_words (argument_words_of_units (not (b == 32)) us)) (bytes_of_escaped_unit_are_escaped_byte Command b)
        ∙ ap (λ (t : List ℕ). escaped_pattern_byte Command b ++ t) more

escaped_words_with_next_pair_are_spelled : (c : ℕ) (us : List LineUnit) (rest : List ℕ) (behind : Bool) → is_backslash_kept_before Command c ≡ true → text_of_escaped_argument_words (argument_words_of_units true us) ≡ spelled_command_args true rest → text_of_escaped_argument_words (argument_words_of_units behind (Pair c ∷ us)) ≡ spelled_command_args behind (92 ∷ c ∷ rest)
escaped_words_with_next_pair_are_spelled c us rest behind is more =
    let kept = (kept_backslash_test_implies_keeping Command c is).kept in
    let blank : is_blank c ≡ false = (or_parts (c == 44 || c == 58 || c == 61 || c == 35 || c == 34) (is_blank c) kept).1 in
    let space : (c == 32) ≡ false = (or_parts (c == 32) (c == 9) blank).0 in
    escaped_words_with_first_unit_add_it (Pair c) us (argument_words_of_units true us) (words_of_units_are_argument_words true us)
    ∙ ap (λ (t : List ℕ). 92 ∷ c ∷ t) more
    ∙ ap (λ (t : List ℕ). 92 ∷ (t ++ spelled_command_args true rest)) (sym (byte_with_kept_backslash_needs_no_escape Command c kept))
    ∙ ap (λ (t : Bool). 92 ∷ ((if t && true && has_next_non_space rest then 32 ∷ [] else escaped_pattern_byte Command c) ++ spelled_command_args (not t) rest)) (sym space)

escaped_argument_words_are_spelled_args : (p : List ℕ) (behind : Bool) → is_writable_pattern Command p ≡ true → text_of_escaped_argument_words (argument_words_of_units behind (units_of_pattern p)) ≡ spelled_command_args behind p
escaped_argument_words_are_spelled_args [] behind h = refl
escaped_argument_words_are_spelled_args (b ∷ []) behind h = escaped_words_with_next_byte_are_spelled b [] [] behind refl refl refl
escaped_argument_words_are_spelled_args (b ∷ c ∷ rest) behind h = by_backslash (b == 92) refl h (escaped_argument_words_are_spelled_args rest) (escaped_argument_words_are_spelled_args (c ∷ rest))
  where
    by_backslash : (t : Bool) → (b == 92) ≡ t → (if t then is_backslash_kept_before Command c && is_writable_pattern Command rest else is_pattern_byte_but_backslash b && is_writable_pattern Command (c ∷ rest)) ≡ true
        → ((x : Bool) → is_writable_pattern Command rest ≡ true → text_of_escaped_argument_words (argument_words_of_units x (units_of_pattern rest)) ≡ spelled_command_args x rest)
        → ((x : Bool) → is_writable_pattern Command (c ∷ rest) ≡ true → text_of_escaped_argument_words (argument_words_of_units x (units_of_pattern (c ∷ rest))) ≡ spelled_command_args x (c ∷ rest))
        → text_of_escaped_argument_words (argument_words_of_units behind (if t then Pair c ∷ units_of_pattern rest else Byte b ∷ units_of_pattern (c ∷ rest))) ≡ spelled_command_args behind (b ∷ c ∷ rest)
    by_backslash true e h pair byte =
        let parts = and_parts (is_backslash_kept_before Command c) (is_writable_pattern Command rest) h in
        escaped_words_with_next_pair_are_spelled c (units_of_pattern rest) rest behind parts.0 (pair true parts.1) ∙ ap (λ (x : ℕ). spelled_command_args behind (x ∷ c ∷ rest)) (sym (eqb-true b 92 e))
    by_backslash false e h pair byte =
        let parts = and_parts (is_pattern_byte_but_backslash b) (is_writable_pattern Command (c ∷ rest)) h in
        escaped_words_with_next_byte_are_spelled b (units_of_pattern (c ∷ rest)) (c ∷ rest) behind (units_begin_word_where_bytes_do (c ∷ rest)) (byte false parts.1) (byte (not (b == 32)) parts.1)

text_of_arguments_is_printed : (args : Args) (tail : List WrittenToken) → IsWritableArgs args → line_of_written_tokens (tokens_of_arguments args tail) ≡ printed_args args ++ line_of_written_tokens tail
text_of_arguments_is_printed Any tail is = refl
text_of_arguments_is_printed Nothing tail is = refl
text_of_arguments_is_printed (Pattern p) tail is =
    by_words (argument_words_of_units false (units_of_pattern p)) (words_of_units_are_argument_words false (units_of_pattern p))
    ∙ ap (λ (t : List ℕ). 32 ∷ (t ++ line_of_written_tokens tail)) (escaped_argument_words_are_spelled_args p false is.0)
  where
    by_words : (ws : List (List LineUnit)) → AreArgumentWords (units_of_pattern p) ws → line_of_written_tokens (tokens_of_argument_words ws tail) ≡ 32 ∷ (text_of_escaped_argument_words ws ++ line_of_written_tokens tail)
    by_words ws are =
        ap (λ (xs : List (List LineUnit)). line_of_written_tokens (tokens_of_argument_words xs tail)) are.parts ∙ text_of_argument_tokens_is_escaped_words are.first are.others tail
        ∙ ap (λ (xs : List (List LineUnit)). 32 ∷ (text_of_escaped_argument_words xs ++ line_of_written_tokens tail)) (sym are.parts)

-- ---- commands

text_of_command_atom_is_printed : (spaced first : Bool) (a : Atom) (tail : List WrittenToken) → IsWritableCommandAtom a → line_of_written_tokens (tokens_of_command_atom spaced a tail) ≡ gap_bytes_if_spaced spaced ++ (printed_atom first Cmnd a ++ line_of_written_tokens tail)
text_of_command_atom_is_printed spaced first atom.All tail is = refl
text_of_command_atom_is_printed spaced first (atom.Alias name) tail is = ap (λ (t : List ℕ). gap_bytes_if_spaced spaced ++ (t ++ line_of_written_tokens tail)) (text_of_plain_units_is_bytes name)
text_of_command_atom_is_printed spaced first atom.Listing tail is = refl
text_of_command_atom_is_printed spaced first (atom.Path path args) tail is =
    ap (λ (t : List ℕ). gap_bytes_if_spaced spaced ++ (t ++ line_of_written_tokens (tokens_of_arguments args tail))) (text_of_escaped_units_is_escaped_pattern Command path is.0)
    ∙ ap (λ (t : List ℕ). gap_bytes_if_spaced spaced ++ (escaped_pattern Command path ++ t)) (text_of_arguments_is_printed args tail is.2)
    ∙ ap (λ (t : List ℕ). gap_bytes_if_spaced spaced ++ t) (sym (append_assoc (escaped_pattern Command path) (printed_args args) (line_of_written_tokens tail)))
text_of_command_atom_is_printed spaced first (atom.Sudoedit args) tail is =
    ap (λ (t : List ℕ). gap_bytes_if_spaced spaced ++ (codes "sudoedit" ++ t)) (text_of_arguments_is_printed args tail is)
    ∙ ap (λ (t : List ℕ). gap_bytes_if_spaced spaced ++ t) (sym (append_assoc (codes "sudoedit") (printed_args args) (line_of_written_tokens tail)))
text_of_command_atom_is_printed spaced first a tail is = absurd is

pub text_of_signed_command_is_printed : (spaced first negated : Bool) (a : Atom) (tail : List WrittenToken) → IsWritableCommandAtom a → line_of_written_tokens (tokens_of_signed_command spaced negated a tail) ≡ gap_bytes_if_spaced spaced ++ ((negation_sign negated ++ printed_atom first Cmnd a) ++ line_of_written_tokens tail)
text_of_signed_command_is_printed spaced first true a tail is = ap (λ (t : List ℕ). gap_bytes_if_spaced spaced ++ (33 ∷ t)) (text_of_command_atom_is_printed false first a tail is)
text_of_signed_command_is_printed spaced first false a tail is = text_of_command_atom_is_printed spaced first a tail is

-- ---- digests

text_of_digest_is_printed : (spaced : Bool) (d : Digest) (tail : List WrittenToken) → line_of_written_tokens (tokens_of_digest spaced d tail) ≡ gap_bytes_if_spaced spaced ++ (printed_digest d ++ line_of_written_tokens tail)
text_of_digest_is_printed spaced d tail =
    ap (λ (t : List ℕ). gap_bytes_if_spaced spaced ++ (t ++ (58 ∷ (text_of_units (units_of_plain_bytes d.text) ++ line_of_written_tokens tail)))) (text_of_plain_units_is_bytes (digest_kind_keyword d.kind))
    ∙ ap (λ (t : List ℕ). gap_bytes_if_spaced spaced ++ (digest_kind_keyword d.kind ++ (58 ∷ (t ++ line_of_written_tokens tail)))) (text_of_plain_units_is_bytes d.text)
    ∙ ap (λ (t : List ℕ). gap_bytes_if_spaced spaced ++ t) (joined (digest_kind_keyword d.kind) d.text (line_of_written_tokens tail))
  where
    joined : (a b c : List ℕ) → a ++ (58 ∷ (b ++ c)) ≡ (a ++ codes ":" ++ b) ++ c
    joined a b c = simp append_assoc

text_of_command_parts_is_printed : (spaced first : Bool) (ds : List Digest) (negated : Bool) (a : Atom) (tail : List WrittenToken) → AllByRecursion IsWritableDigestText ds → IsWritableCommandAtom a → line_of_written_tokens (tokens_of_command_with_digests spaced ds negated a tail) ≡ gap_bytes_if_spaced spaced ++ ((printed_digests ds ++ negation_sign negated ++ printed_atom first Cmnd a) ++ line_of_written_tokens tail)
text_of_command_parts_is_printed spaced first [] negated a tail all is = text_of_signed_command_is_printed spaced first negated a tail is
text_of_command_parts_is_printed spaced first (d ∷ ds) negated a tail all is =
    many_text 44 false printed_digest (tokens_of_digest true) IsWritableDigestText (λ e t h. text_of_digest_is_printed true e t) (gap_bytes_if_spaced spaced) (printed_digest d)
    (λ t. line_of_written_tokens (tokens_of_digest spaced d t)) (λ t. text_of_digest_is_printed spaced d t) ds (tokens_of_signed_command true negated a tail) all.1
    ∙ ap (λ t. gap_bytes_if_spaced spaced ++ (printed_digests_of (d ∷ ds) ++ t)) (text_of_signed_command_is_printed true first negated a tail is)
    ∙ ap (λ t. gap_bytes_if_spaced spaced ++ t) (joined (printed_digests_of (d ∷ ds)) (negation_sign negated) (printed_atom first Cmnd a) (line_of_written_tokens tail))
  where
    printed_digests_of : List Digest → List ℕ
    printed_digests_of = join_by printed_digest (codes ", ")

    joined : (a c d e : List ℕ) → a ++ (32 ∷ ((c ++ d) ++ e)) ≡ (a ++ codes " " ++ c ++ d) ++ e
    joined a c d e = simp append_assoc

-- ---- lists

pub text_of_command_member_is_printed : (spaced : Bool) (m : Member) (tail : List WrittenToken) → IsWritableCommandMember m → line_of_written_tokens (tokens_of_command_with_digests spaced m.digests m.negated m.atom tail) ≡ gap_bytes_if_spaced spaced ++ (printed_member false Cmnd m ++ line_of_written_tokens tail)
text_of_command_member_is_printed spaced m tail is = text_of_command_parts_is_printed spaced false m.digests m.negated m.atom tail is.digests is.is_command

-- A list of commands, before other tokens.
pub text_of_command_list_is_printed : (spaced : Bool) (m : Member) (ms : List Member) (tail : List WrittenToken) → AllByRecursion IsWritableCommandMember (m ∷ ms) → line_of_written_tokens (tokens_of_command_list spaced (m ∷ ms) tail) ≡ gap_bytes_if_spaced spaced ++ (printed_member_list false Cmnd (m ∷ ms) ++ line_of_written_tokens tail)
text_of_command_list_is_printed spaced m ms tail all =
    many_text 44 false (printed_member false Cmnd) (tokens_of_command_member true) IsWritableCommandMember (text_of_command_member_is_printed true) (gap_bytes_if_spaced spaced) (printed_member false Cmnd m)
    (λ t. line_of_written_tokens (tokens_of_command_member spaced m t)) (λ t. text_of_command_member_is_printed spaced m t all.0) ms tail all.1
