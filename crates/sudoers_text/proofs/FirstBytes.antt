-- What the first byte alone tells.
use Rattle.std.proofs.Common.{◌≡◌, ℕ, zero, suc, Bool, true, false, ◌||◌, ◌&&◌, List, [], ◌∷◌, take, refl, sym, ap}
use Rattle.std.specs.Prelude.{◌==◌, if◌then◌else◌, nat_lt, nat_eq}
use Rattle.std.specs.List.{starts_with}
use Rattle.std.proofs.lemmas.Bool.{or_parts, ne_eqb, eqb-false}
use Rattle.sudoers_text.specs.declared.part.ByteRunKind.TheVariants as rule
use Rattle.sudoers_text.specs.declared.token.Mode.TheVariants as mode
use Rattle.sudoers_text.specs.declared.token.TokenKind.TheVariants as kind
use Rattle.sudoers_text.specs.Unit.{is_rest_of_hash_include, includedir_word}
use Rattle.sudoers_text.specs.Part.{leading_run_size}
use Rattle.sudoers_text.specs.Piece.{TokenForm, Number, NonUnixGroup, IncludeWord, begins_defaults}
use Rattle.sudoers_text.specs.Found.{hash_id_size, numeric_id_size, non_unix_group_size, hash_include_size_at, kind_and_size_of_token}
use Rattle.sudoers_text.specs.Word.{is_among}
use Rattle.sudoers_text.specs.LineMode.{words_mode_keywords, begins_hash_include, leading_word_of_bytes, mode_by_line_start}
use Rattle.sudoers_text.specs.internal.Left.{has_leading_hash_or_percent}
use Rattle.sudoers_text.specs.internal.Mode.{has_first_byte_of_mode_word}

-- Neither a number nor a group begins without `#` and `%`.
pub token_without_sign_is_no_number_and_no_group : (fs : List TokenForm) (item first : Bool) (bytes : List ℕ) → has_leading_hash_or_percent bytes ≡ false → kind_and_size_of_token (Number ∷ NonUnixGroup ∷ fs) item first bytes ≡ kind_and_size_of_token fs item first bytes
unfolding hash_id_size numeric_id_size non_unix_group_size
token_without_sign_is_no_number_and_no_group fs item first [] h = refl
token_without_sign_is_no_number_and_no_group fs item first (b ∷ rest) h =
    let parts = or_parts (b == 35) (b == 37) h in
    let hash : (b == 35) ≡ false = parts.0 in
    let percent : (b == 37) ≡ false = parts.1 in
    rw (hash, percent) refl

untaken_choice_is_zero : (t u : Bool) (n : ℕ) → (if t && (false && u) then n else 0) ≡ 0
untaken_choice_is_zero true u n = refl
untaken_choice_is_zero false u n = refl

include_word_is_first_of_line : (bytes : List ℕ) → hash_include_size_at false bytes ≡ 0
unfolding hash_include_size_at
include_word_is_first_of_line [] = refl
include_word_is_first_of_line (b ∷ rest) = untaken_choice_is_zero (b == 35) (is_rest_of_hash_include rest) (if starts_with nat_eq rest includedir_word then 11 else 8)

-- Where the line has begun, no word of an include begins.
pub begun_line_has_no_include_word : (fs : List TokenForm) (item : Bool) (bytes : List ℕ) → kind_and_size_of_token fs item false bytes ≡ kind_and_size_of_token (IncludeWord ∷ fs) item false bytes
begun_line_has_no_include_word fs item bytes = sym (ap (λ (n : ℕ). if nat_lt 0 n then (kind.Word, n) else kind_and_size_of_token fs item false bytes) (include_word_is_first_of_line bytes))

word_with_other_first_byte_is_no_mode_word : (n b : ℕ) (rest : List ℕ) → (b == 64) ≡ false → (b == 72) ≡ false → (b == 82) ≡ false → (b == 85) ≡ false → is_among words_mode_keywords (take n (b ∷ rest)) ≡ false
word_with_other_first_byte_is_no_mode_word zero b rest at h r u = refl
word_with_other_first_byte_is_no_mode_word (suc n) b rest at h r u = rw (at, h, r, u) refl

chosen_mode_is_of_commands : (defaults hash word : Bool) → defaults ≡ false → hash ≡ false → word ≡ false → (if defaults then mode.Parameters else (if hash || word then mode.Words else mode.Commands)) ≡ mode.Commands
chosen_mode_is_of_commands defaults hash word d h w = rw (d, h, w) refl

empty_line_is_of_commands : mode_by_line_start [] ≡ mode.Commands
unfolding leading_run_size
empty_line_is_of_commands = refl

-- What begins with no such byte is a line of commands.
pub line_with_other_first_byte_is_of_commands : (bytes : List ℕ) → has_first_byte_of_mode_word bytes ≡ false → mode_by_line_start bytes ≡ mode.Commands
line_with_other_first_byte_is_of_commands [] h = empty_line_is_of_commands
line_with_other_first_byte_is_of_commands (b ∷ rest) h =
    let a = or_parts (b == 35 || b == 64 || b == 68 || b == 72 || b == 82) (b == 85) h in
    let c = or_parts (b == 35 || b == 64 || b == 68 || b == 72) (b == 82) a.0 in
    let d = or_parts (b == 35 || b == 64 || b == 68) (b == 72) c.0 in
    let e = or_parts (b == 35 || b == 64) (b == 68) d.0 in
    let f = or_parts (b == 35) (b == 64) e.0 in
    let sign : (b == 35) ≡ false = f.0 in
    let letter : (68 == b) ≡ false = ne_eqb 68 b (λ same. eqb-false b 68 e.1 (sym same)) in
    let defaults : begins_defaults (b ∷ rest) ≡ false = rw letter refl in
    let hash : begins_hash_include (b ∷ rest) ≡ false = rw sign refl in
    chosen_mode_is_of_commands (begins_defaults (b ∷ rest)) (begins_hash_include (b ∷ rest)) (is_among words_mode_keywords (leading_word_of_bytes (b ∷ rest))) defaults hash
    (word_with_other_first_byte_is_no_mode_word (leading_run_size rule.Word (b ∷ rest)) b rest f.1 d.1 c.1 a.1)
