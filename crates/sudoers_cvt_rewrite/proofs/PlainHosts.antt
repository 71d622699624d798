-- Patterns of hosts without wildcards.
use Rattle.std.proofs.Common.{Bool, List, [], ap, ap₂, arith, bytes_eq, cond, false, if◌then◌else◌, refl, sym, true, ℕ, ◌&&◌, ◌+◌, ◌-◌, ◌<◌, ◌==◌, ◌||◌, ◌∙◌, ◌∷◌, ◌≡◌, ◌≤◌}
use Rattle.std.proofs.lemmas.Bool.{cond_both, false≢true, ltb-false, ltb-true, ne_eqb, or_parts}
use Rattle.std.specs.Char.{to_ascii_lowercase}
use Rattle.std.specs.List.{list_any}
use Rattle.std.specs.Prelude.{nat_lt}
use Rattle.std.specs.Str.{str_to_ascii_lowercase}
use Rattle.sudoers_grammar.specs.Pattern.{is_special_in_patterns}
use Rattle.sudoers_match_member.specs.Hits.{has_dot}
use Rattle.sudoers_match_member.specs.Wildcard.{Byte, PatternItem, is_items_match, is_pattern_match, pattern_item_at, pattern_items_after_skipped_bytes}
use Rattle.sudoers_match_member.specs.declared.wildcards.GlobMode.TheVariants as mode
use Rattle.sudoers_cvt_rewrite.specs.Filter.{host_name_before_dot, is_host_pattern_match}
use Rattle.sudoers_cvt_rewrite.proofs.SameNames.{bytes_are_folded}

-- A byte that is no letter is no other in lower case.
byte_stays_unless_letter : (b other : ℕ) → (65 ≤ b → b < 91 → (b + 32 ≡ other → ⊥) × (b ≡ other → ⊥)) → (to_ascii_lowercase b == other) ≡ (b == other)
byte_stays_unless_letter b other apart = cond_both (nat_lt b 65) b (cond (nat_lt b 91) (b + 32) b) (λ c. (c == other) ≡ (b == other)) (λ low. refl)
    (λ high. cond_both (nat_lt b 91) (b + 32) b (λ c. (c == other) ≡ (b == other))
    (λ letter. let both = apart (ltb-false b 65 high) (ltb-true b 91 letter) in ne_eqb (b + 32) other both.0 ∙ sym (ne_eqb b other both.1)) (λ beyond. refl))

special_byte_is_no_letter : (b : ℕ) → is_special_in_patterns (to_ascii_lowercase b) ≡ is_special_in_patterns b
special_byte_is_no_letter b =
    ap₂ (λ s t. ((s || t) || (to_ascii_lowercase b == 91)) || (to_ascii_lowercase b == 92)) (byte_stays_unless_letter b 42 (λ from to. ((λ e. omega (arith, from, to, e)), (λ e. omega (arith, from, to, e)))))
    (byte_stays_unless_letter b 63 (λ from to. ((λ e. omega (arith, from, to, e)), (λ e. omega (arith, from, to, e)))))
    ∙ ap₂ (λ s t. (((b == 42) || (b == 63)) || s) || t) (byte_stays_unless_letter b 91 (λ from to. ((λ e. omega (arith, from, to, e)), (λ e. omega (arith, from, to, e)))))
    (byte_stays_unless_letter b 92 (λ from to. ((λ e. omega (arith, from, to, e)), (λ e. omega (arith, from, to, e)))))

plain_pattern_in_lower_case_is_plain : (bs : List ℕ) → list_any is_special_in_patterns bs ≡ false → list_any is_special_in_patterns (str_to_ascii_lowercase bs) ≡ false
plain_pattern_in_lower_case_is_plain [] e = refl
plain_pattern_in_lower_case_is_plain (b ∷ bs) e =
    let both = or_parts (is_special_in_patterns b) (list_any is_special_in_patterns bs) e in
    ap₂ (λ s t. s || t) (special_byte_is_no_letter b ∙ both.0) (plain_pattern_in_lower_case_is_plain bs both.1)

last_of_choices : {X : Type 0} (s q b e : Bool) (w x y z other : X) → (((s || q) || b) || e) ≡ false
    → (if s then w else (if q then x else (if e then y else (if b then z else other)))) ≡ other
last_of_choices false false false false w x y z other is = refl
last_of_choices true q b e w x y z other is = absurd (false≢true (sym is))
last_of_choices false true b e w x y z other is = absurd (false≢true (sym is))
last_of_choices false false true e w x y z other is = absurd (false≢true (sym is))
last_of_choices false false false true w x y z other is = absurd (false≢true (sym is))

plain_byte_is_byte_item : (c : ℕ) (p : List ℕ) → is_special_in_patterns c ≡ false → pattern_item_at (c ∷ p) ≡ (Byte c, 1)
plain_byte_is_byte_item c p is = last_of_choices (c == 42) (c == 63) (c == 91) (c == 92) _ _ _ _ (Byte c, 1) is

same_either_way : (a b : ℕ) → (a == b) ≡ (b == a)
same_either_way a b = grind arith

plain_pattern_matches_itself : (p text : List ℕ) → list_any is_special_in_patterns p ≡ false → is_pattern_match mode.Args p text ≡ bytes_eq p text
plain_pattern_matches_itself [] [] e = refl
plain_pattern_matches_itself [] (b ∷ text) e = refl
plain_pattern_matches_itself (c ∷ p) [] e =
    ap (λ (i : PatternItem × ℕ). is_items_match mode.Args (i.0 ∷ pattern_items_after_skipped_bytes (i.1 - 1) p) [])
    (plain_byte_is_byte_item c p (or_parts (is_special_in_patterns c) (list_any is_special_in_patterns p) e).0)
plain_pattern_matches_itself (c ∷ p) (b ∷ text) e =
    let both = or_parts (is_special_in_patterns c) (list_any is_special_in_patterns p) e in
    ap (λ (i : PatternItem × ℕ). is_items_match mode.Args (i.0 ∷ pattern_items_after_skipped_bytes (i.1 - 1) p) (b ∷ text)) (plain_byte_is_byte_item c p both.0)
    ∙ ap₂ (λ s t. s && t) (same_either_way b c) (plain_pattern_matches_itself p text both.1)

abbrev pub host_compared_with : List ℕ → List ℕ → List ℕ
host_compared_with pattern name = if has_dot pattern then name else host_name_before_dot name

-- A pattern without wildcards matches the names that it is, letter case ignored.
pub plain_host_pattern_matches_same_name : (name pattern : List ℕ) → list_any is_special_in_patterns pattern ≡ false
    → is_host_pattern_match name pattern ≡ bytes_eq (str_to_ascii_lowercase pattern) (str_to_ascii_lowercase (host_compared_with pattern name))
plain_host_pattern_matches_same_name name pattern plain =
    ap₂ (is_pattern_match mode.Args) (bytes_are_folded pattern) (bytes_are_folded (host_compared_with pattern name))
    ∙ plain_pattern_matches_itself (str_to_ascii_lowercase pattern) (str_to_ascii_lowercase (host_compared_with pattern name)) (plain_pattern_in_lower_case_is_plain pattern plain)
