-- The pattern of a tidy text is a pattern.
use Rattle.laws_print.proofs.Common.{◌≡◌, ℕ, zero, suc, ◌+◌, ◌≤◌, Bool, true, false, ◌&&◌, ◌||◌, not, List, [], ◌∷◌, ◌++◌, length, refl, sym, ap, subst}
use Rattle.laws_print.proofs.Common.{◌∙◌, arith, ◌==◌, if◌then◌else◌, append_assoc, not-true, or_parts, eqb-true, is_blank, PatternSpelling, Command}
use Rattle.laws_print.proofs.Common.{QuotedHost, is_dropped_backslash_before, pattern_of_kept_pair, pattern_of_remaining_bytes, pattern_of_text, has_byte, is_pattern_byte_but_backslash, is_backslash_kept_before}
use Rattle.laws_print.proofs.Common.{is_writable_pattern}
use Rattle.sudoers_text.specs.Value.{leading_blanks_size}
use Rattle.sudoers_grammar.specs.declared.pattern.PatternSpelling.TheVariants.{Host}
use Rattle.sudoers_grammar.specs.Pattern.{is_special_in_patterns, pattern_of_literal_byte, pattern_of_byte, pattern_of_escaped_pair}
use Rattle.laws_print.proofs.Words.{IsNoLineEndByte, passing_byte_differs_from_failing_byte}
use Rattle.laws_print.proofs.Patterns.{backslash_before_backslash_is_kept}
use Rattle.laws_print.proofs.Tidy.{is_tidy_byte, IsTidyText, byte, by_lf, by_crlf}
use Rattle.laws_print.proofs.Tidy.{pair as a_pair}

-- Before a pattern these bytes make a pattern.
abbrev pub JoinsWithPatterns : PatternSpelling → List ℕ → Type 0
JoinsWithPatterns s x = (y : List ℕ) → is_writable_pattern s y ≡ true → is_writable_pattern s (x ++ y) ≡ true

pub unescaped_byte_joins_with_patterns : (s : PatternSpelling) (b : ℕ) → is_pattern_byte_but_backslash b ≡ true → JoinsWithPatterns s (b ∷ [])
unescaped_byte_joins_with_patterns s b h [] is = h
unescaped_byte_joins_with_patterns s b h (c ∷ y) is = by_backslash (b == 92) (or_parts (b == 0 || b == 10 || b == 13) (b == 92) (not-true _ h)).1
  where
    both : is_pattern_byte_but_backslash b ≡ true → is_writable_pattern s (c ∷ y) ≡ true → (is_pattern_byte_but_backslash b && is_writable_pattern s (c ∷ y)) ≡ true
    both x z = rw (x, z) refl

    by_backslash : (t : Bool) → t ≡ false → (if t then is_backslash_kept_before s c && is_writable_pattern s y else is_pattern_byte_but_backslash b && is_writable_pattern s (c ∷ y)) ≡ true
    by_backslash true e = absurd (cc)
    by_backslash false e = both h is

pub kept_pair_joins_with_patterns : (s : PatternSpelling) (c : ℕ) → is_backslash_kept_before s c ≡ true → JoinsWithPatterns s (92 ∷ c ∷ [])
kept_pair_joins_with_patterns s c h y is = both h is
  where
    both : is_backslash_kept_before s c ≡ true → is_writable_pattern s y ≡ true → (is_backslash_kept_before s c && is_writable_pattern s y) ≡ true
    both x z = rw (x, z) refl

appended_joining_texts_join_with_patterns : (s : PatternSpelling) (x z : List ℕ) → JoinsWithPatterns s x → JoinsWithPatterns s z → JoinsWithPatterns s (x ++ z)
appended_joining_texts_join_with_patterns s x z gx gz y is = ap (is_writable_pattern s) (append_assoc x z y) ∙ gx (z ++ y) (gz y is)

empty_text_joins_with_patterns : (s : PatternSpelling) → JoinsWithPatterns s []
empty_text_joins_with_patterns s y is = is

-- ---- bytes and pairs

tidy_byte_is_unescaped_pattern_byte : (b : ℕ) → is_tidy_byte b ≡ true → (b == 0) ≡ false → is_pattern_byte_but_backslash b ≡ true
tidy_byte_is_unescaped_pattern_byte b h nul =
    let a = or_parts (b == 10 || b == 13) (b == 92) (not-true _ h) in
    let c = or_parts (b == 10) (b == 13) a.0 in
    rw (nul, c.0, c.1, a.1) refl

-- What a spelling makes of bytes and of pairs are parts of patterns of another.
pub record MakesPatternsOfSpelling (from to : PatternSpelling) : Type 0 where
  pub bytes : (b : ℕ) → is_tidy_byte b ≡ true → (b == 0) ≡ false → JoinsWithPatterns to (pattern_of_byte from b)
  pub pairs : (c : ℕ) → IsNoLineEndByte c → (c == 0) ≡ false → JoinsWithPatterns to (pattern_of_escaped_pair from c)

escaped_byte_not_dropped_keeps_backslash : (s : PatternSpelling) (c : ℕ) → IsNoLineEndByte c → (c == 0) ≡ false → is_dropped_backslash_before s c ≡ false → is_backslash_kept_before s c ≡ true
escaped_byte_not_dropped_keeps_backslash s c is nul kept =
    rw (nul, is.lf, is.cr, kept) refl

dropped_backslash_byte_is_unescaped : (s : PatternSpelling) (c : ℕ) → IsNoLineEndByte c → (c == 0) ≡ false → is_dropped_backslash_before s c ≡ true → is_pattern_byte_but_backslash c ≡ true
dropped_backslash_byte_is_unescaped s c is nul lost =
    let backslash : (c == 92) ≡ false = passing_byte_differs_from_failing_byte (is_dropped_backslash_before s) 92 c lost (backslash_before_backslash_is_kept s) in
    rw (nul, is.lf, is.cr, backslash) refl

pattern_of_pair_joins_with_patterns : (s : PatternSpelling) → ((c : ℕ) → pattern_of_kept_pair s c ≡ 92 ∷ c ∷ []) → (c : ℕ) → IsNoLineEndByte c → (c == 0) ≡ false → JoinsWithPatterns s (pattern_of_escaped_pair s c)
pattern_of_pair_joins_with_patterns s kept c is nul = by_loses (is_dropped_backslash_before s c) refl
  where
    by_loses : (t : Bool) → is_dropped_backslash_before s c ≡ t → JoinsWithPatterns s (if t then c ∷ [] else pattern_of_kept_pair s c)
    by_loses true e = unescaped_byte_joins_with_patterns s c (dropped_backslash_byte_is_unescaped s c is nul e)
    by_loses false e = subst (JoinsWithPatterns s) (sym (kept c)) (kept_pair_joins_with_patterns s c (escaped_byte_not_dropped_keeps_backslash s c is nul e))

pub command_spelling_makes_command_patterns : MakesPatternsOfSpelling Command Command
command_spelling_makes_command_patterns = record { bytes = λ b h nul. unescaped_byte_joins_with_patterns Command b (tidy_byte_is_unescaped_pattern_byte b h nul); pairs = pattern_of_pair_joins_with_patterns Command (λ c. refl) }

pub host_spelling_makes_host_patterns : MakesPatternsOfSpelling Host Host
host_spelling_makes_host_patterns = record { bytes = λ b h nul. unescaped_byte_joins_with_patterns Host b (tidy_byte_is_unescaped_pattern_byte b h nul); pairs = pattern_of_pair_joins_with_patterns Host (λ c. refl) }

special_byte_keeps_backslash_in_host : (b : ℕ) → is_special_in_patterns b ≡ true → is_backslash_kept_before Host b ≡ true
special_byte_keeps_backslash_in_host b h =
    let kept : is_dropped_backslash_before Host b ≡ false = special_stays b h in
    rw (passing_byte_differs_from_failing_byte is_special_in_patterns 0 b h refl, passing_byte_differs_from_failing_byte is_special_in_patterns 10 b h refl, passing_byte_differs_from_failing_byte is_special_in_patterns 13 b h refl) (kept_so kept)
  where
    kept_so : is_dropped_backslash_before Host b ≡ false → not (is_dropped_backslash_before Host b) ≡ true
    kept_so e = ap not e

    special_stays : (b : ℕ) → is_special_in_patterns b ≡ true → is_dropped_backslash_before Host b ≡ false
    special_stays b h =
        rw (passing_byte_differs_from_failing_byte is_special_in_patterns 44 b h refl, passing_byte_differs_from_failing_byte is_special_in_patterns 58 b h refl, passing_byte_differs_from_failing_byte is_special_in_patterns 61 b h refl, passing_byte_differs_from_failing_byte is_special_in_patterns 35 b h refl, passing_byte_differs_from_failing_byte is_special_in_patterns 34 b h refl, passing_byte_differs_from_failing_byte is_special_in_patterns 32 b h refl, passing_byte_differs_from_failing_byte is_special_in_patterns 9 b h refl, passing_byte_differs_from_failing_byte is_special_in_patterns 33 b h refl, passing_byte_differs_from_failing_byte is_special_in_patterns 40 b h refl, passing_byte_differs_from_failing_byte is_special_in_patterns 41 b h refl) refl

pattern_of_literal_byte_joins_with_patterns : (b : ℕ) → (b == 0) ≡ false → (b == 10) ≡ false → (b == 13) ≡ false → JoinsWithPatterns Host (pattern_of_literal_byte b)
pattern_of_literal_byte_joins_with_patterns b nul lf cr = by_special (is_special_in_patterns b) refl
  where
    by_special : (t : Bool) → is_special_in_patterns b ≡ t → JoinsWithPatterns Host (if t then 92 ∷ b ∷ [] else b ∷ [])
    by_special true e = kept_pair_joins_with_patterns Host b (special_byte_keeps_backslash_in_host b e)
    by_special false e =
        let backslash : (b == 92) ≡ false = (or_parts (b == 42 || b == 63 || b == 91) (b == 92) e).1 in
        unescaped_byte_joins_with_patterns Host b (rw (nul, lf, cr, backslash) refl)

pub quoted_host_spelling_makes_host_patterns : MakesPatternsOfSpelling QuotedHost Host
quoted_host_spelling_makes_host_patterns = record {
  bytes = λ b h nul. quoted_byte b h nul (b == 34);
  pairs = λ c is nul. quoted_pair c is nul (c == 34) refl;
}
  where
    quoted_byte : (b : ℕ) → is_tidy_byte b ≡ true → (b == 0) ≡ false → (t : Bool) → JoinsWithPatterns Host (if t then [] else pattern_of_literal_byte b)
    quoted_byte b h nul true = empty_text_joins_with_patterns Host
    quoted_byte b h nul false = let parts = or_parts (b == 10) (b == 13) (or_parts (b == 10 || b == 13) (b == 92) (not-true _ h)).0 in pattern_of_literal_byte_joins_with_patterns b nul parts.0 parts.1

    quoted_pair : (c : ℕ) → IsNoLineEndByte c → (c == 0) ≡ false → (t : Bool) → (c == 34) ≡ t → JoinsWithPatterns Host (if t then c ∷ [] else pattern_of_literal_byte 92 ++ pattern_of_literal_byte c)
    quoted_pair c is nul true e = subst (λ (x : ℕ). JoinsWithPatterns Host (x ∷ [])) (sym (eqb-true c 34 e)) (unescaped_byte_joins_with_patterns Host 34 refl)
    quoted_pair c is nul false e = appended_joining_texts_join_with_patterns Host (92 ∷ 92 ∷ []) (pattern_of_literal_byte c) (kept_pair_joins_with_patterns Host 92 refl) (pattern_of_literal_byte_joins_with_patterns c nul is.lf is.cr)

-- ---- texts

abbrev pub MakesWritableOfShortTexts : PatternSpelling → PatternSpelling → ℕ → Type 0
MakesWritableOfShortTexts from to fuel = (text : List ℕ) → length text ≤ fuel → IsTidyText text → has_byte 0 text ≡ false → is_writable_pattern to (pattern_of_remaining_bytes from 0 text) ≡ true

text_behind_blank_of_tidy_is_tidy : (b : ℕ) (text : List ℕ) → is_blank b ≡ true → IsTidyText (b ∷ text) → IsTidyText text
text_behind_blank_of_tidy_is_tidy b text h (byte tidy t) = t
text_behind_blank_of_tidy_is_tidy b text h t = absurd (cc)

-- the blanks behind a continuation are passed over
pattern_behind_leading_blanks_is_writable : (from to : PatternSpelling) (fuel : ℕ) → MakesWritableOfShortTexts from to fuel → (text : List ℕ) → length text ≤ fuel → IsTidyText text → has_byte 0 text ≡ false → is_writable_pattern to (pattern_of_remaining_bytes from (leading_blanks_size text) text) ≡ true
pattern_behind_leading_blanks_is_writable from to fuel made [] fits t nul = refl
pattern_behind_leading_blanks_is_writable from to fuel made (b ∷ text) fits t nul = by_blank (is_blank b) refl (λ h. pattern_behind_leading_blanks_is_writable from to fuel made text (omega arith) (text_behind_blank_of_tidy_is_tidy b text h t) (or_parts (b == 0) (has_byte 0 text) nul).1)
  where
    by_blank : (u : Bool) → is_blank b ≡ u → (is_blank b ≡ true → is_writable_pattern to (pattern_of_remaining_bytes from (leading_blanks_size text) text) ≡ true) → is_writable_pattern to (pattern_of_remaining_bytes from (if u then suc (leading_blanks_size text) else 0) (b ∷ text)) ≡ true
    by_blank true e later = later e
    by_blank false e later = made (b ∷ text) fits t nul

patterns_of_short_tidy_texts_are_writable : (from to : PatternSpelling) → MakesPatternsOfSpelling from to → (fuel : ℕ) → MakesWritableOfShortTexts from to fuel
patterns_of_short_tidy_texts_are_writable from to makes fuel [] fits t nul = refl
patterns_of_short_tidy_texts_are_writable from to makes zero (b ∷ rest) fits t nul = absurd (omega arith)
patterns_of_short_tidy_texts_are_writable from to makes (suc fuel) (b ∷ rest) fits (byte h t) nul =
    let parts = or_parts (b == 0) (has_byte 0 rest) nul in
    let other : (b == 92) ≡ false = (or_parts (b == 10 || b == 13) (b == 92) (not-true _ h)).1 in
    let later = patterns_of_short_tidy_texts_are_writable from to makes fuel rest (omega arith) t parts.1 in
    rw other (makes.bytes b h parts.0 (pattern_of_remaining_bytes from 0 rest) later)
patterns_of_short_tidy_texts_are_writable from to makes (suc fuel) (b ∷ rest) fits (a_pair {c = c} {rest = more} e t) nul =
    let parts = or_parts (c == 0) (has_byte 0 more) nul in
    let later = patterns_of_short_tidy_texts_are_writable from to makes fuel more (omega arith) t parts.1 in
    rw (e.lf, e.cr) (makes.pairs c e parts.0 (pattern_of_remaining_bytes from 0 more) later)
patterns_of_short_tidy_texts_are_writable from to makes (suc fuel) (b ∷ rest) fits (by_lf {rest = more} t) nul =
    let size : 1 + leading_blanks_size more ≡ suc (leading_blanks_size more) = omega arith in
    rw size (pattern_behind_leading_blanks_is_writable from to fuel (patterns_of_short_tidy_texts_are_writable from to makes fuel) more (omega arith) t nul)
patterns_of_short_tidy_texts_are_writable from to makes (suc fuel) (b ∷ rest) fits (by_crlf {rest = more} t) nul =
    let size : 2 + leading_blanks_size more ≡ suc (suc (leading_blanks_size more)) = omega arith in
    rw size (pattern_behind_leading_blanks_is_writable from to fuel (patterns_of_short_tidy_texts_are_writable from to makes fuel) more (omega arith) t nul)

-- The pattern of a tidy text without NUL is a pattern.
pub pattern_of_tidy_text_is_writable : (from to : PatternSpelling) → MakesPatternsOfSpelling from to → (text : List ℕ) → IsTidyText text → has_byte 0 text ≡ false → is_writable_pattern to (pattern_of_text from text) ≡ true
unfolding pattern_of_text
pattern_of_tidy_text_is_writable from to makes text t nul = patterns_of_short_tidy_texts_are_writable from to makes (length text) text (omega arith) t nul
