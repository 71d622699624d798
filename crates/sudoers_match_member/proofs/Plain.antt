-- A backslash before the first byte of a pattern, where that byte is no wildcard.
use Rattle.std.proofs.Common.{◌≡◌, ℕ, ◌+◌, ◌-◌, Bool, true, false, ◌||◌, List, ◌∷◌, refl, sym, ap, ◌∙◌, arith}
use Rattle.std.specs.Prelude.{◌==◌, if◌then◌else◌}
use Rattle.std.proofs.lemmas.Bool.{false≢true}
use Rattle.std.proofs.lemmas.Bool.Decides.{nat_tests}
use Rattle.sudoers_grammar.specs.Pattern.{is_special_in_patterns}
use Rattle.sudoers_match_member.specs.declared.people_and_commands.Who.{Who}
use Rattle.sudoers_match_member.specs.declared.wildcards.GlobMode.{GlobMode}
use Rattle.sudoers_match_member.specs.declared.wildcards.GlobMode.TheVariants.{Args}
use Rattle.sudoers_match_member.specs.Class.{is_upper}
use Rattle.sudoers_match_member.specs.Folded.{byte_case_folded_if_wanted, bytes_case_folded_if_wanted}
use Rattle.sudoers_match_member.specs.Wildcard.{PatternItem, Byte, pattern_item_at, pattern_items_after_skipped_bytes, is_items_match, is_pattern_match}
use Rattle.sudoers_match_member.specs.Hits.{has_dot, is_host_name_match}

false_disjunction_selects_last_of_choices : {X : Type 0} (s q b e : Bool) (w x y z other : X) → (((s || q) || b) || e) ≡ false
    → (if s then w else (if q then x else (if e then y else (if b then z else other)))) ≡ other
false_disjunction_selects_last_of_choices false false false false w x y z other is = refl
false_disjunction_selects_last_of_choices true q b e w x y z other is = absurd (false≢true (sym is))
false_disjunction_selects_last_of_choices false true b e w x y z other is = absurd (false≢true (sym is))
false_disjunction_selects_last_of_choices false false true e w x y z other is = absurd (false≢true (sym is))
false_disjunction_selects_last_of_choices false false false true w x y z other is = absurd (false≢true (sym is))

pub plain_byte_is_read_as_byte_item : (c : ℕ) (p : List ℕ) → is_special_in_patterns c ≡ false → pattern_item_at (c ∷ p) ≡ (Byte c, 1)
plain_byte_is_read_as_byte_item c p is = false_disjunction_selects_last_of_choices (c == 42) (c == 63) (c == 91) (c == 92) _ _ _ _ (Byte c, 1) is

pub backslash_before_plain_byte_keeps_match : (mode : GlobMode) (c : ℕ) (p text : List ℕ) → is_special_in_patterns c ≡ false → is_pattern_match mode (92 ∷ c ∷ p) text ≡ is_pattern_match mode (c ∷ p) text
backslash_before_plain_byte_keeps_match mode c p text is = ap (λ (i : PatternItem × ℕ). is_items_match mode (i.0 ∷ pattern_items_after_skipped_bytes (i.1 - 1) p) text) (sym (plain_byte_is_read_as_byte_item c p is))

lower_cased_letter_is_not_special : (c : ℕ) → is_upper c ≡ true → is_special_in_patterns (c + 32) ≡ false
lower_cased_letter_is_not_special c is = grind (arith, nat_tests)

case_folding_keeps_byte_not_special : (c : ℕ) → is_special_in_patterns c ≡ false → is_special_in_patterns (byte_case_folded_if_wanted true c) ≡ false
unfolding byte_case_folded_if_wanted
case_folding_keeps_byte_not_special c is = by (is_upper c) (lower_cased_letter_is_not_special c)
  where
    by : (t : Bool) → (t ≡ true → is_special_in_patterns (c + 32) ≡ false) → is_special_in_patterns (if t then c + 32 else c) ≡ false
    by true up = up refl
    by false up = is

case_folding_keeps_first_backslash : (c : ℕ) (p : List ℕ) → bytes_case_folded_if_wanted true (92 ∷ c ∷ p) ≡ 92 ∷ bytes_case_folded_if_wanted true (c ∷ p)
unfolding byte_case_folded_if_wanted
case_folding_keeps_first_backslash c p = refl

pub backslash_before_plain_byte_keeps_host_match : (w : Who) (c : ℕ) (p : List ℕ) → is_special_in_patterns c ≡ false → is_host_name_match w (92 ∷ c ∷ p) ≡ is_host_name_match w (c ∷ p)
backslash_before_plain_byte_keeps_host_match w c p is =
    let name = bytes_case_folded_if_wanted true (if has_dot (c ∷ p) then w.long_host else w.short_host) in
    ap (λ bytes. is_pattern_match Args bytes name) (case_folding_keeps_first_backslash c p)
    ∙ backslash_before_plain_byte_keeps_match Args (byte_case_folded_if_wanted true c) (bytes_case_folded_if_wanted true p) name (case_folding_keeps_byte_not_special c is)
