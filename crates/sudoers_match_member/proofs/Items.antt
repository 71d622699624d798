-- What items match, one after another.
use Rattle.std.proofs.Common.{◌≡◌, ◌≢◌, ℕ, zero, suc, ◌+◌, ◌-◌, ◌<◌, Bool, true, false, List, [], ◌∷◌, ◌++◌, length, drop, refl, sym, ap, subst, ◌∙◌, arith, get_or, Option, Some, None}
use Rattle.std.specs.Prelude.{◌==◌, if◌then◌else◌}
use Rattle.std.proofs.lemmas.Bool.{false≢true, ne_eqb}
use Rattle.std.proofs.lemmas.List.{drop_more}
use Rattle.sudoers_match_member.specs.declared.byte_sets.SetItem.{SetItem}
use Rattle.sudoers_match_member.specs.Sets.{set_items_behind_opening_bracket}
use Rattle.sudoers_match_member.specs.declared.wildcards.GlobMode.{GlobMode}
use Rattle.sudoers_match_member.specs.Wildcard.{PatternItem, Star, Byte, Any, Set, is_byte_taken_by_item, escaped_byte_item, set_or_bracket_item, bracket_item, pattern_item_at, pattern_items_after_skipped_bytes, items_of_pattern}
use Rattle.sudoers_match_member.specs.internal.Run.{DoItemsTakeBytes, DoItemsMatch}

-- ---- the items of a pattern

items_after_skip_are_items_of_rest : (k : ℕ) (bytes : List ℕ) → pattern_items_after_skipped_bytes k bytes ≡ items_of_pattern (drop k bytes)
items_after_skip_are_items_of_rest zero bytes = refl
items_after_skip_are_items_of_rest (suc k) [] = refl
items_after_skip_are_items_of_rest (suc k) (b ∷ bytes) = items_after_skip_are_items_of_rest k bytes

items_of_nonempty_bytes_begin_with_item : (b : ℕ) (bs : List ℕ) → 0 < (pattern_item_at (b ∷ bs)).1 → items_of_pattern (b ∷ bs) ≡ (pattern_item_at (b ∷ bs)).0 ∷ items_of_pattern (drop (pattern_item_at (b ∷ bs)).1 (b ∷ bs))
items_of_nonempty_bytes_begin_with_item b bs some =
    let n = (pattern_item_at (b ∷ bs)).1 in
    let e : suc (n - 1) ≡ n = omega arith in
    ap (λ items. (pattern_item_at (b ∷ bs)).0 ∷ items) (items_after_skip_are_items_of_rest (n - 1) bs ∙ ap (λ k. items_of_pattern (drop k (b ∷ bs))) e)

pub items_of_pattern_begin_with_first_item : (bytes : List ℕ) → bytes ≢ [] → 0 < (pattern_item_at bytes).1 → items_of_pattern bytes ≡ (pattern_item_at bytes).0 ∷ items_of_pattern (drop (pattern_item_at bytes).1 bytes)
items_of_pattern_begin_with_first_item [] n some = absurd (n refl)
items_of_pattern_begin_with_first_item (b ∷ bs) n some = items_of_nonempty_bytes_begin_with_item b bs some

-- ---- one item

pub match_of_item_has_taken_byte : (mode : GlobMode) (i : PatternItem) (items : List PatternItem) (text : List ℕ) → i ≢ Star → DoItemsMatch mode (i ∷ items) text
    → (b : ℕ) × (rest : List ℕ) × (text ≡ b ∷ rest) × (is_byte_taken_by_item mode i b ≡ true) × DoItemsMatch mode items rest
match_of_item_has_taken_byte mode Star items text n m = absurd (n refl)
match_of_item_has_taken_byte mode (Byte c) items text n m = m
match_of_item_has_taken_byte mode Any items text n m = m
match_of_item_has_taken_byte mode (Set t is) items text n m = m

pub taken_byte_before_match_is_match : (mode : GlobMode) (i : PatternItem) (items : List PatternItem) (b : ℕ) (rest : List ℕ) → is_byte_taken_by_item mode i b ≡ true → DoItemsMatch mode items rest → DoItemsMatch mode (i ∷ items) (b ∷ rest)
taken_byte_before_match_is_match mode Star items b rest t m = absurd (false≢true t)
taken_byte_before_match_is_match mode (Byte c) items b rest t m = (b, rest, refl, t, m)
taken_byte_before_match_is_match mode Any items b rest t m = (b, rest, refl, t, m)
taken_byte_before_match_is_match mode (Set s is) items b rest t m = (b, rest, refl, t, m)

item_taking_byte_is_no_star : (mode : GlobMode) (i : PatternItem) (b : ℕ) → is_byte_taken_by_item mode i b ≡ true → i ≢ Star
item_taking_byte_is_no_star mode i b t e = false≢true (ap (λ j. is_byte_taken_by_item mode j b) (sym e) ∙ t)

-- ---- items that take bytes

pub taken_bytes_before_match_are_match : (mode : GlobMode) (items more : List PatternItem) (bytes rest : List ℕ) → DoItemsTakeBytes mode items bytes → DoItemsMatch mode more rest → DoItemsMatch mode (items ++ more) (bytes ++ rest)
taken_bytes_before_match_are_match mode [] more bytes rest t m = subst (λ bs. DoItemsMatch mode more (bs ++ rest)) (sym t) m
taken_bytes_before_match_are_match mode (i ∷ items) more [] rest t m = absurd t
taken_bytes_before_match_are_match mode (i ∷ items) more (b ∷ bytes) rest t m = taken_byte_before_match_is_match mode i (items ++ more) b (bytes ++ rest) t.0 (taken_bytes_before_match_are_match mode items more bytes rest t.1 m)

-- where they take so many bytes of a text that is matched, the rest is matched by what is behind them
pub rest_after_taken_bytes_is_matched : (mode : GlobMode) (items more : List PatternItem) (bytes rest : List ℕ) → DoItemsTakeBytes mode items bytes → DoItemsMatch mode (items ++ more) (bytes ++ rest) → DoItemsMatch mode more rest
rest_after_taken_bytes_is_matched mode [] more bytes rest t m = subst (λ bs. DoItemsMatch mode more (bs ++ rest)) t m
rest_after_taken_bytes_is_matched mode (i ∷ items) more [] rest t m = absurd t
rest_after_taken_bytes_is_matched mode (i ∷ items) more (b ∷ bytes) rest t m =
    let one = match_of_item_has_taken_byte mode i (items ++ more) (b ∷ bytes ++ rest) (item_taking_byte_is_no_star mode i b t.0) m in
    let same : bytes ++ rest ≡ one.1 = let e = one.2 in cc in
    rest_after_taken_bytes_is_matched mode items more bytes rest t.1 (subst (DoItemsMatch mode (items ++ more)) (sym same) one.4)

pub items_and_item_take_bytes_and_byte : (mode : GlobMode) (items : List PatternItem) (i : PatternItem) (bytes : List ℕ) (b : ℕ) → DoItemsTakeBytes mode items bytes → is_byte_taken_by_item mode i b ≡ true → DoItemsTakeBytes mode (items ++ i ∷ []) (bytes ++ b ∷ [])
items_and_item_take_bytes_and_byte mode [] i [] b t h = (h, refl)
items_and_item_take_bytes_and_byte mode [] i (c ∷ bytes) b t h = absurd cc
items_and_item_take_bytes_and_byte mode (j ∷ items) i [] b t h = absurd t
items_and_item_take_bytes_and_byte mode (j ∷ items) i (c ∷ bytes) b t h = (t.0, items_and_item_take_bytes_and_byte mode items i bytes b t.1 h)

-- the bytes that items take that a text begins with which they match
pub match_of_items_has_taken_prefix : (mode : GlobMode) (items more : List PatternItem) (bytes text : List ℕ) → DoItemsTakeBytes mode items bytes → DoItemsMatch mode (items ++ more) text
    → (others rest : List ℕ) × (text ≡ others ++ rest) × DoItemsTakeBytes mode items others × DoItemsMatch mode more rest
match_of_items_has_taken_prefix mode [] more bytes text t m = ([], text, refl, refl, m)
match_of_items_has_taken_prefix mode (i ∷ items) more [] text t m = absurd t
match_of_items_has_taken_prefix mode (i ∷ items) more (b ∷ bytes) text t m =
    let one = match_of_item_has_taken_byte mode i (items ++ more) text (item_taking_byte_is_no_star mode i b t.0) m in
    let later = match_of_items_has_taken_prefix mode items more bytes one.1 t.1 one.4 in
    (one.0 ∷ later.0, later.1, one.2 ∙ ap (λ r. one.0 ∷ r) later.2, (one.3, later.3), later.4)

-- ---- every item has a byte or more, and none but `*` is one

both_branches_imply_property_of_choice : (P : PatternItem × ℕ → Type 0) (t : Bool) (x y : PatternItem × ℕ) → P x → P y → P (if t then x else y)
both_branches_imply_property_of_choice P true x y p q = p
both_branches_imply_property_of_choice P false x y p q = q

abbrev HasPositiveItemLength : PatternItem × ℕ → Type 0
HasPositiveItemLength x = 0 < x.1

set_or_bracket_item_has_positive_length : (t : Bool) (n : ℕ) (set : Option (List SetItem × ℕ)) → HasPositiveItemLength (set_or_bracket_item t n set)
set_or_bracket_item_has_positive_length t n None = omega arith
set_or_bracket_item_has_positive_length t n (Some set) = let e : 0 < n + set.1 + 1 = omega arith in e

bracket_item_has_positive_length : (bs : List ℕ) → HasPositiveItemLength (bracket_item bs)
bracket_item_has_positive_length [] = omega arith
bracket_item_has_positive_length (b ∷ bs) = both_branches_imply_property_of_choice HasPositiveItemLength (b == 33) (set_or_bracket_item true 2 (set_items_behind_opening_bracket bs)) (set_or_bracket_item false 1 (set_items_behind_opening_bracket (b ∷ bs))) (set_or_bracket_item_has_positive_length true 2 (set_items_behind_opening_bracket bs)) (set_or_bracket_item_has_positive_length false 1 (set_items_behind_opening_bracket (b ∷ bs)))

escaped_byte_item_has_positive_length : (bs : List ℕ) → HasPositiveItemLength (escaped_byte_item bs)
escaped_byte_item_has_positive_length [] = omega arith
escaped_byte_item_has_positive_length (b ∷ bs) = omega arith

pub pattern_item_has_positive_length : (bytes : List ℕ) → 0 < (pattern_item_at bytes).1
pattern_item_has_positive_length [] = omega arith
pattern_item_has_positive_length (b ∷ bs) =
    both_branches_imply_property_of_choice HasPositiveItemLength (b == 42) _ _ (omega arith) (both_branches_imply_property_of_choice HasPositiveItemLength (b == 63) _ _ (omega arith)
    (both_branches_imply_property_of_choice HasPositiveItemLength (b == 92) _ _ (escaped_byte_item_has_positive_length bs) (both_branches_imply_property_of_choice HasPositiveItemLength (b == 91) _ _ (bracket_item_has_positive_length bs) (omega arith))))

abbrev IsNonStarItem : PatternItem × ℕ → Type 0
IsNonStarItem x = x.0 ≢ Star

set_or_bracket_item_is_no_star : (t : Bool) (n : ℕ) (set : Option (List SetItem × ℕ)) → IsNonStarItem (set_or_bracket_item t n set)
set_or_bracket_item_is_no_star t n None e = absurd cc
set_or_bracket_item_is_no_star t n (Some set) e = absurd cc

bracket_item_is_no_star : (bs : List ℕ) → IsNonStarItem (bracket_item bs)
bracket_item_is_no_star [] e = absurd cc
bracket_item_is_no_star (b ∷ bs) e = both_branches_imply_property_of_choice IsNonStarItem (b == 33) (set_or_bracket_item true 2 (set_items_behind_opening_bracket bs)) (set_or_bracket_item false 1 (set_items_behind_opening_bracket (b ∷ bs))) (set_or_bracket_item_is_no_star true 2 (set_items_behind_opening_bracket bs)) (set_or_bracket_item_is_no_star false 1 (set_items_behind_opening_bracket (b ∷ bs))) e

escaped_byte_item_is_no_star : (bs : List ℕ) → IsNonStarItem (escaped_byte_item bs)
escaped_byte_item_is_no_star [] e = absurd cc
escaped_byte_item_is_no_star (b ∷ bs) e = absurd cc

item_of_other_byte_is_no_star : (b : ℕ) (bs : List ℕ) → (b == 42) ≡ false → IsNonStarItem (pattern_item_at (b ∷ bs))
item_of_other_byte_is_no_star b bs e =
    rw e (both_branches_imply_property_of_choice IsNonStarItem (b == 63) _ _ (λ f. absurd cc) (both_branches_imply_property_of_choice IsNonStarItem (b == 92) _ _ (escaped_byte_item_is_no_star bs) (both_branches_imply_property_of_choice IsNonStarItem (b == 91) _ _ (bracket_item_is_no_star bs) (λ f. absurd cc))))

pub item_without_star_byte_is_no_star : (pattern : List ℕ) (at : ℕ) → at < length pattern → get_or pattern at 0 ≢ 42 → (pattern_item_at (drop at pattern)).0 ≢ Star
item_without_star_byte_is_no_star pattern at h n =
    subst (λ bs. (pattern_item_at bs).0 ≢ Star) (sym (drop_more pattern at 0 h)) (item_of_other_byte_is_no_star (get_or pattern at 0) (drop (at + 1) pattern) (ne_eqb (get_or pattern at 0) 42 n))
