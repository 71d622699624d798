-- Patterns are read as they are written.
use Rattle.laws_print.proofs.Common.{◌≡◌, ℕ, Bool, true, false, ◌&&◌, ◌||◌, List, [], ◌∷◌, ◌++◌, refl, sym, ap, ◌∙◌, append-nil, ◌==◌, if◌then◌else◌, not}
use Rattle.laws_print.proofs.Common.{append_assoc, not-true, or_parts, and_parts, eqb-true, LineUnit, Pair, Byte, bytes_of_unit, is_path_byte}
use Rattle.laws_print.proofs.Common.{is_word_byte, PatternSpelling, Command, QuotedHost, is_escaped_for_policy_alone, is_dropped_backslash_before, pattern_of_kept_pair, pattern_of_remaining_bytes, pattern_of_text}
use Rattle.laws_print.proofs.Common.{has_last_byte, has_byte, escaped_pattern_byte, is_pattern_byte_but_backslash, is_backslash_kept_before, is_writable_pattern, text_of_units, is_written_unit, AreWrittenUnitsOf}
use Rattle.laws_print.proofs.Common.{is_pattern_unit, ArePatternUnits, escaped_pattern_unit, escaped_pattern_units, units_of_pattern}
use Rattle.sudoers_grammar.specs.declared.pattern.PatternSpelling.TheVariants.{Host}
use Rattle.sudoers_grammar.specs.Pattern.{pattern_of_byte}
use Rattle.sudoers_cvt_spell.specs.Spelling.{escaped_pattern}
use Rattle.laws_print.proofs.Words.{IsNoLineEndByte, passing_byte_differs_from_failing_byte, plain_test_byte_is_include_path_byte, word_test_byte_is_word_byte}
use Rattle.std.proofs.lemmas.Bool.{and_from}

-- ---- spellings without quotes

-- Bytes stand for themselves in it, and backslashes are kept.
abbrev pub KeepsBytesAndBackslashes : PatternSpelling → Type 0
KeepsBytesAndBackslashes Command = Unit {0}
KeepsBytesAndBackslashes Host = Unit {0}
KeepsBytesAndBackslashes QuotedHost = ⊥

pattern_of_byte_is_byte : (s : PatternSpelling) → KeepsBytesAndBackslashes s → (b : ℕ) → pattern_of_byte s b ≡ b ∷ []
pattern_of_byte_is_byte Command is b = refl
pattern_of_byte_is_byte Host is b = refl
pattern_of_byte_is_byte QuotedHost is b = absurd is

pattern_of_kept_pair_is_pair : (s : PatternSpelling) → KeepsBytesAndBackslashes s → (b : ℕ) → pattern_of_kept_pair s b ≡ 92 ∷ b ∷ []
pattern_of_kept_pair_is_pair Command is b = refl
pattern_of_kept_pair_is_pair Host is b = refl
pattern_of_kept_pair_is_pair QuotedHost is b = absurd is

backslash_before_lf_is_kept : (s : PatternSpelling) → is_dropped_backslash_before s 10 ≡ false
backslash_before_lf_is_kept Command = refl
backslash_before_lf_is_kept s = refl

backslash_before_cr_is_kept : (s : PatternSpelling) → is_dropped_backslash_before s 13 ≡ false
backslash_before_cr_is_kept Command = refl
backslash_before_cr_is_kept s = refl

pub backslash_before_backslash_is_kept : (s : PatternSpelling) → is_dropped_backslash_before s 92 ≡ false
backslash_before_backslash_is_kept Command = refl
backslash_before_backslash_is_kept s = refl

pub dropped_backslash_byte_is_no_line_end : (s : PatternSpelling) (b : ℕ) → is_dropped_backslash_before s b ≡ true → IsNoLineEndByte b
dropped_backslash_byte_is_no_line_end s b h = record { lf = passing_byte_differs_from_failing_byte (is_dropped_backslash_before s) 10 b h (backslash_before_lf_is_kept s); cr = passing_byte_differs_from_failing_byte (is_dropped_backslash_before s) 13 b h (backslash_before_cr_is_kept s) }

-- ---- bytes and backslashes

-- a byte of a pattern
pub record IsBytePlainInPattern (b : ℕ) : Type 0 where
  pub nul : (b == 0) ≡ false
  pub lf : (b == 10) ≡ false
  pub cr : (b == 13) ≡ false
  pub backslash : (b == 92) ≡ false

pub unescaped_pattern_byte_is_plain_one : (b : ℕ) → is_pattern_byte_but_backslash b ≡ true → IsBytePlainInPattern b
unescaped_pattern_byte_is_plain_one b h =
    let a = or_parts (b == 0 || b == 10 || b == 13) (b == 92) (not-true _ h) in
    let c = or_parts (b == 0 || b == 10) (b == 13) a.0 in
    let d = or_parts (b == 0) (b == 10) c.0 in
    record { nul = d.0; lf = d.1; cr = c.1; backslash = a.1 }

-- a byte that keeps its backslash
pub record KeepsBackslashBefore (s : PatternSpelling) (c : ℕ) : Type 0 where
  pub nul : (c == 0) ≡ false
  pub lf : (c == 10) ≡ false
  pub cr : (c == 13) ≡ false
  pub kept : is_dropped_backslash_before s c ≡ false

pub kept_backslash_test_implies_keeping : (s : PatternSpelling) (c : ℕ) → is_backslash_kept_before s c ≡ true → KeepsBackslashBefore s c
kept_backslash_test_implies_keeping s c h =
    let a = or_parts (c == 0 || c == 10 || c == 13) (is_dropped_backslash_before s c) (not-true _ h) in
    let d = or_parts (c == 0 || c == 10) (c == 13) a.0 in
    let e = or_parts (c == 0) (c == 10) d.0 in
    record { nul = e.0; lf = e.1; cr = d.1; kept = a.1 }

-- ---- reading

-- a pair, by whether it keeps its backslash
pub pattern_begins_with_pair_or_its_byte : (s : PatternSpelling) → KeepsBytesAndBackslashes s → (c : ℕ) (more : List ℕ) → IsNoLineEndByte c → (t : Bool) → is_dropped_backslash_before s c ≡ t → pattern_of_remaining_bytes s 0 (92 ∷ c ∷ more) ≡ (if t then c ∷ [] else 92 ∷ c ∷ []) ++ pattern_of_remaining_bytes s 0 more
pattern_begins_with_pair_or_its_byte s bare c more is t e =
    let kept : pattern_of_kept_pair s c ≡ 92 ∷ c ∷ [] = pattern_of_kept_pair_is_pair s bare c in
    rw (is.lf, is.cr, e, kept) refl

pub pattern_begins_with_plain_byte : (s : PatternSpelling) → KeepsBytesAndBackslashes s → (b : ℕ) (more : List ℕ) → (b == 92) ≡ false → pattern_of_remaining_bytes s 0 (b ∷ more) ≡ b ∷ pattern_of_remaining_bytes s 0 more
pattern_begins_with_plain_byte s bare b more other = rw other (ap (λ (t : List ℕ). t ++ pattern_of_remaining_bytes s 0 more) (pattern_of_byte_is_byte s bare b))

pattern_of_escaped_unit_begins_with_unit : (s : PatternSpelling) → KeepsBytesAndBackslashes s → (u : LineUnit) (more : List ℕ) → is_pattern_unit s u ≡ true → pattern_of_remaining_bytes s 0 (bytes_of_unit (escaped_pattern_unit s u) ++ more) ≡ bytes_of_unit u ++ pattern_of_remaining_bytes s 0 more
pattern_of_escaped_unit_begins_with_unit s bare (Pair c) more h = let is = kept_backslash_test_implies_keeping s c h in pattern_begins_with_pair_or_its_byte s bare c more (record { lf = is.lf; cr = is.cr }) false is.kept
pattern_of_escaped_unit_begins_with_unit s bare (Byte b) more h = by_escape (is_dropped_backslash_before s b) refl
  where
    by_escape : (t : Bool) → is_dropped_backslash_before s b ≡ t → pattern_of_remaining_bytes s 0 (bytes_of_unit (if t then Pair b else Byte b) ++ more) ≡ b ∷ pattern_of_remaining_bytes s 0 more
    by_escape true e = pattern_begins_with_pair_or_its_byte s bare b more (dropped_backslash_byte_is_no_line_end s b e) true e
    by_escape false e = pattern_begins_with_plain_byte s bare b more (unescaped_pattern_byte_is_plain_one b h).backslash
pattern_of_escaped_unit_begins_with_unit s bare u more h = absurd (cc)

pub pattern_of_escaped_units_begins_with_them : (s : PatternSpelling) → KeepsBytesAndBackslashes s → (us : List LineUnit) (more : List ℕ) → ArePatternUnits s us → pattern_of_remaining_bytes s 0 (text_of_units (escaped_pattern_units s us) ++ more) ≡ text_of_units us ++ pattern_of_remaining_bytes s 0 more
pattern_of_escaped_units_begins_with_them s bare [] more all = refl
pattern_of_escaped_units_begins_with_them s bare (u ∷ us) more all =
    ap (pattern_of_remaining_bytes s 0) (append_assoc (bytes_of_unit (escaped_pattern_unit s u)) (text_of_units (escaped_pattern_units s us)) more)
    ∙ pattern_of_escaped_unit_begins_with_unit s bare u (text_of_units (escaped_pattern_units s us) ++ more) all.0
    ∙ ap (λ (t : List ℕ). bytes_of_unit u ++ t) (pattern_of_escaped_units_begins_with_them s bare us more all.1)
    ∙ sym (append_assoc (bytes_of_unit u) (text_of_units us) (pattern_of_remaining_bytes s 0 more))

pub pattern_of_escaped_remaining_units_is_them : (s : PatternSpelling) → KeepsBytesAndBackslashes s → (us : List LineUnit) → ArePatternUnits s us → pattern_of_remaining_bytes s 0 (text_of_units (escaped_pattern_units s us)) ≡ text_of_units us
pattern_of_escaped_remaining_units_is_them s bare us all = ap (pattern_of_remaining_bytes s 0) (sym (append-nil (text_of_units (escaped_pattern_units s us)))) ∙ pattern_of_escaped_units_begins_with_them s bare us [] all ∙ append-nil (text_of_units us)

-- A text without a backslash is its own pattern.
pub text_without_backslash_is_own_pattern : (s : PatternSpelling) → KeepsBytesAndBackslashes s → (text : List ℕ) → has_byte 92 text ≡ false → pattern_of_text s text ≡ text
unfolding pattern_of_text
text_without_backslash_is_own_pattern s bare [] h = refl
text_without_backslash_is_own_pattern s bare (b ∷ text) h =
    let parts = or_parts (b == 92) (has_byte 92 text) h in
    pattern_begins_with_plain_byte s bare b text parts.0 ∙ ap (λ (t : List ℕ). b ∷ t) (text_without_backslash_is_own_pattern s bare text parts.1)

-- A pattern is read as it is written.
pub escaped_pattern_units_are_read_back : (s : PatternSpelling) → KeepsBytesAndBackslashes s → (us : List LineUnit) → ArePatternUnits s us → pattern_of_text s (text_of_units (escaped_pattern_units s us)) ≡ text_of_units us
unfolding pattern_of_text
escaped_pattern_units_are_read_back s bare us all = pattern_of_escaped_remaining_units_is_them s bare us all

-- ---- units of patterns

pub text_of_pattern_units_is_pattern : (p : List ℕ) → text_of_units (units_of_pattern p) ≡ p
text_of_pattern_units_is_pattern [] = refl
text_of_pattern_units_is_pattern (b ∷ []) = refl
text_of_pattern_units_is_pattern (b ∷ c ∷ rest) = by_backslash (b == 92) refl (text_of_pattern_units_is_pattern rest) (text_of_pattern_units_is_pattern (c ∷ rest))
  where
    by_backslash : (t : Bool) → (b == 92) ≡ t → text_of_units (units_of_pattern rest) ≡ rest → text_of_units (units_of_pattern (c ∷ rest)) ≡ c ∷ rest → text_of_units (if t then Pair c ∷ units_of_pattern rest else Byte b ∷ units_of_pattern (c ∷ rest)) ≡ b ∷ c ∷ rest
    by_backslash true e pair byte = ap (λ (t : List ℕ). 92 ∷ c ∷ t) pair ∙ ap (λ (d : ℕ). d ∷ c ∷ rest) (sym (eqb-true b 92 e))
    by_backslash false e pair byte = ap (λ (t : List ℕ). b ∷ t) byte

pub units_of_writable_pattern_are_pattern_units : (s : PatternSpelling) (p : List ℕ) → is_writable_pattern s p ≡ true → ArePatternUnits s (units_of_pattern p)
units_of_writable_pattern_are_pattern_units s [] h = tt
units_of_writable_pattern_are_pattern_units s (b ∷ []) h = (h, tt)
units_of_writable_pattern_are_pattern_units s (b ∷ c ∷ rest) h = by_backslash (b == 92) h (units_of_writable_pattern_are_pattern_units s rest) (units_of_writable_pattern_are_pattern_units s (c ∷ rest))
  where
    by_backslash : (t : Bool) → (if t then is_backslash_kept_before s c && is_writable_pattern s rest else is_pattern_byte_but_backslash b && is_writable_pattern s (c ∷ rest)) ≡ true → (is_writable_pattern s rest ≡ true → ArePatternUnits s (units_of_pattern rest))
        → (is_writable_pattern s (c ∷ rest) ≡ true → ArePatternUnits s (units_of_pattern (c ∷ rest))) → ArePatternUnits s (if t then Pair c ∷ units_of_pattern rest else Byte b ∷ units_of_pattern (c ∷ rest))
    by_backslash true h pair byte = let parts = and_parts (is_backslash_kept_before s c) (is_writable_pattern s rest) h in (parts.0, pair parts.1)
    by_backslash false h pair byte = let parts = and_parts (is_pattern_byte_but_backslash b) (is_writable_pattern s (c ∷ rest)) h in (parts.0, byte parts.1)

pub bytes_of_escaped_unit_are_escaped_byte : (s : PatternSpelling) (b : ℕ) → bytes_of_unit (escaped_pattern_unit s (Byte b)) ≡ escaped_pattern_byte s b
bytes_of_escaped_unit_are_escaped_byte s b = by_escape (is_dropped_backslash_before s b)
  where
    by_escape : (t : Bool) → bytes_of_unit (if t then Pair b else Byte b) ≡ (if t then 92 ∷ b ∷ [] else b ∷ [])
    by_escape true = refl
    by_escape false = refl

pub byte_with_kept_backslash_needs_no_escape : (s : PatternSpelling) (c : ℕ) → is_dropped_backslash_before s c ≡ false → escaped_pattern_byte s c ≡ c ∷ []
byte_with_kept_backslash_needs_no_escape s c kept = rw kept refl

-- The units as they are written are the bytes as they are printed.
pub text_of_escaped_units_is_escaped_pattern : (s : PatternSpelling) (p : List ℕ) → is_writable_pattern s p ≡ true → text_of_units (escaped_pattern_units s (units_of_pattern p)) ≡ escaped_pattern s p
text_of_escaped_units_is_escaped_pattern s [] h = refl
text_of_escaped_units_is_escaped_pattern s (b ∷ []) h = ap (λ (t : List ℕ). t ++ []) (bytes_of_escaped_unit_are_escaped_byte s b)
text_of_escaped_units_is_escaped_pattern s (b ∷ c ∷ rest) h = by_backslash (b == 92) refl h (text_of_escaped_units_is_escaped_pattern s rest) (text_of_escaped_units_is_escaped_pattern s (c ∷ rest))
  where
    by_backslash : (t : Bool) → (b == 92) ≡ t → (if t then is_backslash_kept_before s c && is_writable_pattern s rest else is_pattern_byte_but_backslash b && is_writable_pattern s (c ∷ rest)) ≡ true → (is_writable_pattern s rest ≡ true → text_of_units (escaped_pattern_units s (units_of_pattern rest)) ≡ escaped_pattern s rest)
        → (is_writable_pattern s (c ∷ rest) ≡ true → text_of_units (escaped_pattern_units s (units_of_pattern (c ∷ rest))) ≡ escaped_pattern s (c ∷ rest)) → text_of_units (escaped_pattern_units s (if t then Pair c ∷ units_of_pattern rest else Byte b ∷ units_of_pattern (c ∷ rest))) ≡ escaped_pattern s (b ∷ c ∷ rest)
    by_backslash true e h pair byte =
        let parts = and_parts (is_backslash_kept_before s c) (is_writable_pattern s rest) h in
        ap (λ (t : List ℕ). 92 ∷ c ∷ t) (pair parts.1)
        ∙ ap (λ (t : List ℕ). 92 ∷ (t ++ escaped_pattern s rest)) (sym (byte_with_kept_backslash_needs_no_escape s c (kept_backslash_test_implies_keeping s c parts.0).kept))
        ∙ ap (λ (t : List ℕ). t ++ (escaped_pattern_byte s c ++ escaped_pattern s rest)) (sym (byte_with_kept_backslash_needs_no_escape s 92 (backslash_before_backslash_is_kept s)))
        ∙ ap (λ (d : ℕ). escaped_pattern_byte s d ++ (escaped_pattern_byte s c ++ escaped_pattern s rest)) (sym (eqb-true b 92 e))
    by_backslash false e h pair byte =
        let parts = and_parts (is_pattern_byte_but_backslash b) (is_writable_pattern s (c ∷ rest)) h in
        ap (λ (t : List ℕ). t ++ text_of_units (escaped_pattern_units s (units_of_pattern (c ∷ rest)))) (bytes_of_escaped_unit_are_escaped_byte s b) ∙ ap (λ (t : List ℕ). escaped_pattern_byte s b ++ t) (byte parts.1)

-- A pattern that is printed is read as it is.
pub escaped_pattern_is_read_back : (s : PatternSpelling) → KeepsBytesAndBackslashes s → (p : List ℕ) → is_writable_pattern s p ≡ true → pattern_of_text s (escaped_pattern s p) ≡ p
escaped_pattern_is_read_back s bare p h = ap (pattern_of_text s) (sym (text_of_escaped_units_is_escaped_pattern s p h)) ∙ escaped_pattern_units_are_read_back s bare (units_of_pattern p) (units_of_writable_pattern_are_pattern_units s p h) ∙ text_of_pattern_units_is_pattern p

-- ---- the last byte

pub last_byte_of_joined_is_of_second : (a : ℕ) (x : List ℕ) (b : ℕ) (rest : List ℕ) → has_last_byte a (x ++ (b ∷ rest)) ≡ has_last_byte a (b ∷ rest)
last_byte_of_joined_is_of_second a [] b rest = refl
last_byte_of_joined_is_of_second a (c ∷ []) b rest = refl
last_byte_of_joined_is_of_second a (c ∷ d ∷ x) b rest = last_byte_of_joined_is_of_second a (d ∷ x) b rest

escaped_pattern_of_some_is_not_empty : (s : PatternSpelling) (c : ℕ) (rest : List ℕ) → (b : ℕ) × (more : List ℕ) × (escaped_pattern s (c ∷ rest) ≡ b ∷ more)
escaped_pattern_of_some_is_not_empty s c rest = by_loses (is_dropped_backslash_before s c)
  where
    by_loses : (t : Bool) → (b : ℕ) × (more : List ℕ) × ((if t then 92 ∷ c ∷ [] else c ∷ []) ++ escaped_pattern s rest ≡ b ∷ more)
    by_loses true = (92, c ∷ escaped_pattern s rest, refl)
    by_loses false = (c, escaped_pattern s rest, refl)

-- A pattern ends as it does when it is printed.
pub last_byte_of_escaped_pattern_is_same : (s : PatternSpelling) (a : ℕ) (p : List ℕ) → has_last_byte a (escaped_pattern s p) ≡ has_last_byte a p
last_byte_of_escaped_pattern_is_same s a [] = refl
last_byte_of_escaped_pattern_is_same s a (b ∷ []) = by_loses (is_dropped_backslash_before s b)
  where
    by_loses : (t : Bool) → has_last_byte a ((if t then 92 ∷ b ∷ [] else b ∷ []) ++ []) ≡ (b == a)
    by_loses true = refl
    by_loses false = refl
last_byte_of_escaped_pattern_is_same s a (b ∷ c ∷ rest) =
    let front = escaped_pattern_of_some_is_not_empty s c rest in
    ap (λ (t : List ℕ). has_last_byte a (escaped_pattern_byte s b ++ t)) front.2 ∙ last_byte_of_joined_is_of_second a (escaped_pattern_byte s b) front.0 front.1
    ∙ ap (has_last_byte a) (sym front.2) ∙ last_byte_of_escaped_pattern_is_same s a (c ∷ rest)

-- ---- where they fit

-- a byte without a backslash in a command
unescaped_command_byte_is_path_byte : (b : ℕ) → is_pattern_byte_but_backslash b ≡ true → is_escaped_for_policy_alone b ≡ false → is_path_byte b ≡ true
unescaped_command_byte_is_path_byte b h e =
    let test : ℕ → Bool = λ x. is_pattern_byte_but_backslash x && not (is_escaped_for_policy_alone x) in
    let both : test b ≡ true = and_from _ _ h (ap not e) in
    rw (plain_test_byte_is_include_path_byte test refl b both, passing_byte_differs_from_failing_byte test 61 b both refl, passing_byte_differs_from_failing_byte test 44 b both refl, passing_byte_differs_from_failing_byte test 58 b both refl) refl

-- a byte without a backslash in a host
unescaped_host_byte_is_word_byte : (b : ℕ) → is_pattern_byte_but_backslash b ≡ true → is_dropped_backslash_before Host b ≡ false → is_word_byte b ≡ true
unescaped_host_byte_is_word_byte b h e = word_test_byte_is_word_byte (λ x. is_pattern_byte_but_backslash x && not (is_dropped_backslash_before Host x)) refl b (and_from _ _ h (ap not e))

-- Bytes that need no backslash pass the test.
abbrev pub PassWithoutBackslash : PatternSpelling → (ℕ → Bool) → Type 0
PassWithoutBackslash s test = (b : ℕ) → is_pattern_byte_but_backslash b ≡ true → is_dropped_backslash_before s b ≡ false → test b ≡ true

escaped_unit_passes_test : (s : PatternSpelling) (test : ℕ → Bool) → PassWithoutBackslash s test → (u : LineUnit) → is_pattern_unit s u ≡ true → is_written_unit test (escaped_pattern_unit s u) ≡ true
escaped_unit_passes_test s test bare (Pair c) h = let is = kept_backslash_test_implies_keeping s c h in let nul : (c == 0) ≡ false = is.nul in let lf : (c == 10) ≡ false = is.lf in let cr : (c == 13) ≡ false = is.cr in rw (nul, lf, cr) refl
escaped_unit_passes_test s test bare (Byte b) h = by_escape (is_dropped_backslash_before s b) refl
  where
    by_escape : (t : Bool) → is_dropped_backslash_before s b ≡ t → is_written_unit test (if t then Pair b else Byte b) ≡ true
    by_escape true e = let is = unescaped_pattern_byte_is_plain_one b h in let nul : (b == 0) ≡ false = is.nul in let lf : (b == 10) ≡ false = is.lf in let cr : (b == 13) ≡ false = is.cr in rw (nul, lf, cr) refl
    by_escape false e = bare b h e
escaped_unit_passes_test s test bare u h = absurd (cc)

escaped_pattern_units_pass_test : (s : PatternSpelling) (test : ℕ → Bool) → PassWithoutBackslash s test → (us : List LineUnit) → ArePatternUnits s us → AreWrittenUnitsOf test (escaped_pattern_units s us)
escaped_pattern_units_pass_test s test bare [] all = tt
escaped_pattern_units_pass_test s test bare (u ∷ us) all = (escaped_unit_passes_test s test bare u all.0, escaped_pattern_units_pass_test s test bare us all.1)

-- Its units stand in a path, or in a host.
pub escaped_command_pattern_is_path_units : (us : List LineUnit) → ArePatternUnits Command us → AreWrittenUnitsOf is_path_byte (escaped_pattern_units Command us)
escaped_command_pattern_is_path_units us all = escaped_pattern_units_pass_test Command is_path_byte unescaped_command_byte_is_path_byte us all

pub escaped_host_pattern_is_word_units : (us : List LineUnit) → ArePatternUnits Host us → AreWrittenUnitsOf is_word_byte (escaped_pattern_units Host us)
escaped_host_pattern_is_word_units us all = escaped_pattern_units_pass_test Host is_word_byte unescaped_host_byte_is_word_byte us all
