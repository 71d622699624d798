-- Patterns of which no set ends behind a place.
use Rattle.std.proofs.Common.{◌≡◌, ◌≢◌, ℕ, zero, suc, ◌+◌, ◌-◌, ◌<◌, ◌≤◌, Bool, true, false, List, [], ◌∷◌, length, drop, get_or, refl, sym, ap, ◌∙◌, None, arith}
use Rattle.std.specs.Prelude.{◌==◌, if◌then◌else◌}
use Rattle.std.proofs.lemmas.Bool.{ne_eqb}
use Rattle.std.proofs.lemmas.Bool.Decides.{nat_tests}
use Rattle.std.proofs.lemmas.List.{length-drop, get_or-drop}
use Rattle.sudoers_match_member.specs.Class.{is_upper}
use Rattle.sudoers_match_member.specs.Folded.{byte_case_folded_if_wanted, bytes_case_folded_if_wanted}
use Rattle.sudoers_match_member.specs.Sets.{set_item_at, set_one_byte_longer, set_with_item_put_first, set_items_after_skipped_bytes, set_items_behind_opening_bracket}
use Rattle.sudoers_match_member.specs.Wildcard.{Byte, PatternItem, set_or_bracket_item, bracket_item, pattern_item_at}
use Rattle.sudoers_match_member.specs.internal.Known.{IsTailWithoutClosingBracket}
use Rattle.sudoers_match_member.proofs.AsRead.{case_folding_keeps_length, byte_of_folded_bytes_is_folded_byte}

-- no byte is `]`
abbrev HasNoClosingBracket : List ℕ → Type 0
HasNoClosingBracket bytes = (i : ℕ) → i < length bytes → get_or bytes i 0 ≢ 93

tail_of_bracketless_bytes_is_bracketless : (b : ℕ) (bs : List ℕ) → HasNoClosingBracket (b ∷ bs) → HasNoClosingBracket bs
tail_of_bracketless_bytes_is_bracketless b bs free i h = free (suc i) (omega arith)

bracketless_bytes_close_no_set_after_skip : (k : ℕ) (bytes : List ℕ) → HasNoClosingBracket bytes → set_items_after_skipped_bytes k bytes ≡ None
bracketless_bytes_close_no_set_after_skip k [] free = refl
bracketless_bytes_close_no_set_after_skip (suc k) (b ∷ bs) free = ap set_one_byte_longer (bracketless_bytes_close_no_set_after_skip k bs (tail_of_bracketless_bytes_is_bracketless b bs free))
bracketless_bytes_close_no_set_after_skip zero (b ∷ bs) free =
    rw (ne_eqb b 93 (free 0 (omega arith)))
    (ap (λ s. set_with_item_put_first (set_item_at (b ∷ bs)).0 (set_one_byte_longer s)) (bracketless_bytes_close_no_set_after_skip ((set_item_at (b ∷ bs)).1 - 1) bs (tail_of_bracketless_bytes_is_bracketless b bs free)))

bracketless_bytes_have_no_bracket_set : (bytes : List ℕ) → HasNoClosingBracket bytes → set_items_behind_opening_bracket bytes ≡ None
bracketless_bytes_have_no_bracket_set [] free = refl
bracketless_bytes_have_no_bracket_set (b ∷ bs) free =
    ap (λ s. set_with_item_put_first (set_item_at (b ∷ bs)).0 (set_one_byte_longer s)) (bracketless_bytes_close_no_set_after_skip ((set_item_at (b ∷ bs)).1 - 1) bs (tail_of_bracketless_bytes_is_bracketless b bs free))

choice_of_equal_branches_is_either : (t : Bool) (x y z : PatternItem × ℕ) → x ≡ z → y ≡ z → (if t then x else y) ≡ z
choice_of_equal_branches_is_either true x y z e f = e
choice_of_equal_branches_is_either false x y z e f = f

bracket_item_of_bracketless_bytes_is_byte : (bytes : List ℕ) → HasNoClosingBracket bytes → bracket_item bytes ≡ (Byte 91, 1)
bracket_item_of_bracketless_bytes_is_byte [] free = refl
bracket_item_of_bracketless_bytes_is_byte (b ∷ bs) free =
    choice_of_equal_branches_is_either (b == 33) (set_or_bracket_item true 2 (set_items_behind_opening_bracket bs)) (set_or_bracket_item false 1 (set_items_behind_opening_bracket (b ∷ bs))) (Byte 91, 1)
    (ap (set_or_bracket_item true 2) (bracketless_bytes_have_no_bracket_set bs (tail_of_bracketless_bytes_is_bracketless b bs free)))
    (ap (set_or_bracket_item false 1) (bracketless_bytes_have_no_bracket_set (b ∷ bs) free))

upper_case_byte_is_at_least_65 : (b : ℕ) → is_upper b ≡ true → 65 ≤ b
upper_case_byte_is_at_least_65 b is = grind (arith, nat_tests)

lower_case_step_keeps_non_bracket : (b : ℕ) (t : Bool) → is_upper b ≡ t → b ≢ 93 → (if t then b + 32 else b) ≢ 93
lower_case_step_keeps_non_bracket b true is n e = let f = upper_case_byte_is_at_least_65 b is in omega arith
lower_case_step_keeps_non_bracket b false is n e = n e

case_folded_byte_keeps_non_bracket : (lower : Bool) (b : ℕ) → b ≢ 93 → byte_case_folded_if_wanted lower b ≢ 93
unfolding byte_case_folded_if_wanted
case_folded_byte_keeps_non_bracket true b n = lower_case_step_keeps_non_bracket b (is_upper b) refl n
case_folded_byte_keeps_non_bracket false b n = n

case_folding_keeps_bracketless_bytes : (lower : Bool) (bytes : List ℕ) → HasNoClosingBracket bytes → HasNoClosingBracket (bytes_case_folded_if_wanted lower bytes)
case_folding_keeps_bracketless_bytes lower bytes free i h e =
    let within : i < length bytes = omega (arith, case_folding_keeps_length lower bytes, h) in
    case_folded_byte_keeps_non_bracket lower (get_or bytes i 0) (free i within) (sym (byte_of_folded_bytes_is_folded_byte lower bytes i within) ∙ e)

-- a `[` behind which no set ends is a byte
pub unclosed_bracket_is_read_as_byte_item : (lower : Bool) (b : ℕ) (bs : List ℕ) → byte_case_folded_if_wanted lower b ≡ 91 → HasNoClosingBracket bs → pattern_item_at (bytes_case_folded_if_wanted lower (b ∷ bs)) ≡ (Byte 91, 1)
unclosed_bracket_is_read_as_byte_item lower b bs is free = ap (λ c. pattern_item_at (c ∷ bytes_case_folded_if_wanted lower bs)) is ∙ bracket_item_of_bracketless_bytes_is_byte (bytes_case_folded_if_wanted lower bs) (case_folding_keeps_bracketless_bytes lower bs free)

-- what stands behind a place in the last bytes
pub bytes_after_place_in_tail_are_bracketless : (tail at : ℕ) (pattern : List ℕ) → IsTailWithoutClosingBracket tail pattern → length (drop at pattern) ≤ tail → at < length pattern → HasNoClosingBracket (drop (at + 1) pattern)
bytes_after_place_in_tail_are_bracketless tail at pattern is few within i h e =
    is (at + 1 + i) (omega (arith, length-drop (at + 1) pattern, h)) (omega (arith, length-drop at pattern, few, within))
    (sym (get_or-drop (at + 1) pattern i 0) ∙ e)

-- what is so of a pattern is so of its end
pub tail_of_end_is_bracketless : (tail k : ℕ) (pattern : List ℕ) → IsTailWithoutClosingBracket tail pattern → IsTailWithoutClosingBracket tail (drop k pattern)
tail_of_end_is_bracketless tail k pattern is i within few e =
    let size = length-drop k pattern in
    is (k + i) (omega (arith, size, within)) (omega (arith, size, within, few)) (sym (get_or-drop k pattern i 0) ∙ e)
