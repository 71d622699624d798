-- The token with which plain bytes begin, where words stand.
use Rattle.std.proofs.Common.{◌≡◌, ℕ, Bool, true, false, List, ◌∷◌, refl}
use Rattle.std.specs.Prelude.{◌==◌, if◌then◌else◌, nat_lt}
use Rattle.sudoers_text.specs.declared.part.ByteRunKind.TheVariants as rule
use Rattle.sudoers_text.specs.declared.token.TokenKind.{TokenKind}
use Rattle.sudoers_text.specs.declared.token.TokenKind.TheVariants as kind
use Rattle.sudoers_text.specs.Unit.{LineUnit}
use Rattle.sudoers_text.specs.Part.{is_punct, leading_run_size, closed_quote_size, quotes_and_run_between_size}
use Rattle.sudoers_text.specs.Context.{token_forms_in_word_lists}
use Rattle.sudoers_text.specs.Found.{kind_and_size_of_token, kind_and_size_after_units, numeric_id_size, hash_id_size, non_unix_group_size, comment_size_at}
use Rattle.sudoers_text.specs.Token.{bad_token_size}
use Rattle.sudoers_text.proofs.Ahead.{bytes_told_apart_by_test_are_unequal}
use Rattle.sudoers_edit.specs.internal.Plain.{is_plain_byte}

-- by whether the first byte is a mark, and how long a word is that begins there
abbrev pub kind_and_size_by_mark_or_word : Bool → ℕ → TokenKind × ℕ
kind_and_size_by_mark_or_word true n = (kind.Punct, 1)
kind_and_size_by_mark_or_word false n = if nat_lt 0 n then (kind.Word, n) else (kind.Bad, 1)

plain_byte_begins_no_number : (item : Bool) (b : ℕ) (xs : List ℕ) → is_plain_byte b ≡ true → numeric_id_size item (b ∷ xs) ≡ 0
unfolding numeric_id_size hash_id_size
plain_byte_begins_no_number item b xs h =
    let percent : (b == 37) ≡ false = bytes_told_apart_by_test_are_unequal is_plain_byte 37 b h refl in
    let hash : (b == 35) ≡ false = bytes_told_apart_by_test_are_unequal is_plain_byte 35 b h refl in
    rw (percent, hash) refl

plain_byte_begins_no_group : (b : ℕ) (xs : List ℕ) → is_plain_byte b ≡ true → non_unix_group_size (b ∷ xs) ≡ 0
unfolding non_unix_group_size
plain_byte_begins_no_group b xs h =
    let percent : (b == 37) ≡ false = bytes_told_apart_by_test_are_unequal is_plain_byte 37 b h refl in
    rw percent refl

plain_byte_begins_no_quoted_part : (b : ℕ) (xs : List ℕ) → is_plain_byte b ≡ true → closed_quote_size (b ∷ xs) ≡ 0
unfolding quotes_and_run_between_size
plain_byte_begins_no_quoted_part b xs h =
    let quote : (b == 34) ≡ false = bytes_told_apart_by_test_are_unequal is_plain_byte 34 b h refl in
    rw quote refl

plain_byte_begins_no_comment : (item first : Bool) (b : ℕ) (xs : List ℕ) → is_plain_byte b ≡ true → comment_size_at item first (b ∷ xs) ≡ 0
unfolding comment_size_at
plain_byte_begins_no_comment item first b xs h =
    let hash : (b == 35) ≡ false = bytes_told_apart_by_test_are_unequal is_plain_byte 35 b h refl in
    rw hash refl

plain_bad_byte_is_one : (b : ℕ) (xs : List ℕ) → is_plain_byte b ≡ true → bad_token_size (b ∷ xs) ≡ 1
unfolding bad_token_size
plain_bad_byte_is_one b xs h =
    let quote : (b == 34) ≡ false = bytes_told_apart_by_test_are_unequal is_plain_byte 34 b h refl in
    rw quote refl

pub token_of_plain_bytes_is_mark_or_word : (item first : Bool) (b : ℕ) (xs : List ℕ) → is_plain_byte b ≡ true
    → kind_and_size_of_token token_forms_in_word_lists item first (b ∷ xs) ≡ kind_and_size_by_mark_or_word (is_punct b) (leading_run_size rule.Word (b ∷ xs))
token_of_plain_bytes_is_mark_or_word item first b xs h =
    by_sizes (is_punct b) (numeric_id_size item (b ∷ xs)) (non_unix_group_size (b ∷ xs)) (leading_run_size rule.Word (b ∷ xs)) (closed_quote_size (b ∷ xs))
    (comment_size_at item first (b ∷ xs)) (bad_token_size (b ∷ xs)) (plain_byte_begins_no_number item b xs h) (plain_byte_begins_no_group b xs h)
    (plain_byte_begins_no_quoted_part b xs h) (plain_byte_begins_no_comment item first b xs h) (plain_bad_byte_is_one b xs h)
  where
    by_sizes : (mark : Bool) (n g w q c z : ℕ) → n ≡ 0 → g ≡ 0 → q ≡ 0 → c ≡ 0 → z ≡ 1
        → (if nat_lt 0 (if mark then 1 else 0) then (kind.Punct, if mark then 1 else 0)
        else (if nat_lt 0 n then (kind.Id, n)
        else (if nat_lt 0 g then (kind.Word, g)
        else (if nat_lt 0 w then (kind.Word, w)
        else (if nat_lt 0 q then (kind.Quoted, q)
        else (if nat_lt 0 c then (kind.Comment, c)
        else (kind.Bad, z))))))) ≡ kind_and_size_by_mark_or_word mark w
    by_sizes true n g w q c z e f i j k = refl
    by_sizes false n g w q c z e f i j k = rw (e, f, i, j, k) refl

-- where words stand, behind any units
pub token_of_plain_bytes_after_units : (units : List LineUnit) (b : ℕ) (xs : List ℕ) → is_plain_byte b ≡ true
    → kind_and_size_after_units token_forms_in_word_lists units (b ∷ xs) ≡ kind_and_size_by_mark_or_word (is_punct b) (leading_run_size rule.Word (b ∷ xs))
token_of_plain_bytes_after_units units b xs h = token_of_plain_bytes_is_mark_or_word _ _ b xs h
