-- Items that take one byte each match the end of a text, if a `*` stands before them and none behind it.
use Rattle.std.proofs.Common.{◌≡◌, ◌≢◌, ◌≤◌, ◌<◌, ◌+◌, ℕ, Bool, true, List, [], ◌∷◌, ◌++◌, length, take, drop, refl, sym, ap, subst, ◌∙◌, arith, length-append, append_assoc}
use Rattle.std.proofs.Math.Seq.{take-append_seam, drop-append_seam}
use Rattle.std.proofs.lemmas.List.{take-append-drop, append-nil}
use Rattle.std.specs.List.{list_all}
use Rattle.sudoers_match_member.specs.declared.wildcards.GlobMode.{GlobMode}
use Rattle.sudoers_match_member.specs.declared.wildcards.MatchOutcomeUpToStar.{MatchOutcomeUpToStar}
use Rattle.sudoers_match_member.specs.declared.wildcards.MatchOutcomeUpToStar.TheVariants as run
use Rattle.sudoers_match_member.specs.Wildcard.{PatternItem, Star, may_wildcard_take, pattern_item_at, items_of_pattern}
use Rattle.sudoers_match_member.specs.Folded.{byte_case_folded_if_wanted, bytes_case_folded_if_wanted}
use Rattle.sudoers_match_member.specs.internal.Run.{MayStarTakeRun, DoItemsMatch, DoesPatternMatch, IsMatchOutcomeUpToStar}
use Rattle.sudoers_match_member.specs.internal.Count.{HaveNoStar, BeginsWithStarlessItems, IsStarlessItemCountUpToLimit}
use Rattle.sudoers_match_member.proofs.Items.{items_of_pattern_begin_with_first_item, match_of_item_has_taken_byte}
use Rattle.sudoers_match_member.proofs.Splits.{true_conjunction_has_true_left_part, true_conjunction_has_true_right_part, conjunction_of_true_parts_is_true}

-- ---- items that take one byte each

starless_items_and_non_star_are_starless : (items : List PatternItem) (i : PatternItem) → HaveNoStar items → i ≢ Star → HaveNoStar (items ++ i ∷ [])
starless_items_and_non_star_are_starless [] i ones n = (n, tt)
starless_items_and_non_star_are_starless (j ∷ items) i ones n = (ones.0, starless_items_and_non_star_are_starless items i ones.1 n)

items_with_star_are_not_starless : (items more : List PatternItem) → HaveNoStar (items ++ Star ∷ more) → ⊥
items_with_star_are_not_starless [] more ones = ones.0 refl
items_with_star_are_not_starless (i ∷ items) more ones = items_with_star_are_not_starless items more ones.1

-- a text that they match has a byte for each
text_matching_starless_items_is_as_long : (mode : GlobMode) (items : List PatternItem) (text : List ℕ) → HaveNoStar items → DoItemsMatch mode items text → length text ≡ length items
text_matching_starless_items_is_as_long mode [] text ones m = ap length m
text_matching_starless_items_is_as_long mode (i ∷ items) text ones m =
    let one = match_of_item_has_taken_byte mode i items text ones.0 m in
    let size = ap length one.2 in
    let later = text_matching_starless_items_is_as_long mode items one.1 ones.1 one.4 in
    omega (arith, size, later)

-- and, where more items follow, a byte for each or more
starless_start_match_has_byte_per_item : (mode : GlobMode) (items more : List PatternItem) (text : List ℕ) → HaveNoStar items → DoItemsMatch mode (items ++ more) text → length items ≤ length text
starless_start_match_has_byte_per_item mode [] more text ones m = omega arith
starless_start_match_has_byte_per_item mode (i ∷ items) more text ones m =
    let one = match_of_item_has_taken_byte mode i (items ++ more) text ones.0 m in
    let size = ap length one.2 in
    let later = starless_start_match_has_byte_per_item mode items more one.1 ones.1 one.4 in
    omega (arith, size, later)

-- ---- with a `*` before them

match_after_star_has_byte_per_item : (mode : GlobMode) (items more : List PatternItem) (text : List ℕ) → HaveNoStar items → DoItemsMatch mode (Star ∷ items ++ more) text → length items ≤ length text
match_after_star_has_byte_per_item mode items more text ones (run, rest, e, s, m) =
    let size = ap length e ∙ length-append run rest in
    let later = starless_start_match_has_byte_per_item mode items more rest ones m in
    omega (arith, size, later)

-- the `*` stands for all bytes but the last
abbrev DoItemsMatchEndFromPlace : GlobMode → List PatternItem → List ℕ → ℕ → Type 0
DoItemsMatchEndFromPlace mode items text place = MayStarTakeRun mode (take place text) × DoItemsMatch mode items (drop place text)

starless_match_after_star_is_at_end : (mode : GlobMode) (items : List PatternItem) (text : List ℕ) (place : ℕ) → HaveNoStar items → place + length items ≡ length text → DoItemsMatch mode (Star ∷ items) text
    → DoItemsMatchEndFromPlace mode items text place
starless_match_after_star_is_at_end mode items text place ones sum (run, rest, e, s, m) =
    let size = ap length e ∙ length-append run rest in
    let later = text_matching_starless_items_is_as_long mode items rest ones m in
    let here : length run ≡ place = omega (arith, size, later, sum) in
    subst (DoItemsMatchEndFromPlace mode items text) here (subst (λ t. DoItemsMatchEndFromPlace mode items t (length run)) (sym e)
    (subst (MayStarTakeRun mode) (sym (take-append_seam run rest)) s, subst (DoItemsMatch mode items) (sym (drop-append_seam run rest)) m))

match_at_end_implies_match_after_star : (mode : GlobMode) (items : List PatternItem) (text : List ℕ) (place : ℕ) → DoItemsMatchEndFromPlace mode items text place → DoItemsMatch mode (Star ∷ items) text
match_at_end_implies_match_after_star mode items text place (s, m) = (take place text, drop place text, sym (take-append-drop place text), s, m)

-- ---- the items of a pattern, as they are counted

pub counting_item_adds_one_to_starless_count : (pattern left : List ℕ) (n : ℕ) → BeginsWithStarlessItems pattern left n → left ≢ [] → (pattern_item_at left).0 ≢ Star → 0 < (pattern_item_at left).1
    → BeginsWithStarlessItems pattern (drop (pattern_item_at left).1 left) (n + 1)
counting_item_adds_one_to_starless_count pattern left n c some one long =
    let i = (pattern_item_at left).0 in
    let after = items_of_pattern (drop (pattern_item_at left).1 left) in
    record {
      items = c.items ++ i ∷ [];
      pattern_is = c.pattern_is ∙ ap (λ xs. c.items ++ xs) (items_of_pattern_begin_with_first_item left some long) ∙ sym (append_assoc c.items (i ∷ []) after);
      ones = starless_items_and_non_star_are_starless c.items i c.ones one;
      size = omega (arith, length-append c.items (i ∷ []), c.size);
    }

-- more of them than bytes
pub text_shorter_than_items_is_unmatched : (mode : GlobMode) (pattern text : List ℕ) (most n : ℕ) → IsStarlessItemCountUpToLimit pattern most n → length text < n → DoesPatternMatch mode (42 ∷ pattern) text → ⊥
text_shorter_than_items_is_unmatched mode pattern text most n c few m =
    let least = match_after_star_has_byte_per_item mode c.counted.items (items_of_pattern c.left) text c.counted.ones
    (subst (λ is. DoItemsMatch mode (Star ∷ is) text) c.counted.pattern_is m) in
    omega (arith, least, c.counted.size)

counted_items_are_all_items_of_pattern : (pattern : List ℕ) (most n : ℕ) (c : IsStarlessItemCountUpToLimit pattern most n) → n ≤ most → items_of_pattern pattern ≡ c.counted.items
counted_items_are_all_items_of_pattern pattern most n c few = c.counted.pattern_is ∙ ap (λ l. c.counted.items ++ items_of_pattern l) (c.all few) ∙ append-nil c.counted.items

-- where they are all, what they match is at the end
pub match_of_counted_pattern_is_at_end : (mode : GlobMode) (pattern text : List ℕ) (most n place : ℕ) → IsStarlessItemCountUpToLimit pattern most n → n ≤ most → place + n ≡ length text
    → DoesPatternMatch mode (42 ∷ pattern) text → MayStarTakeRun mode (take place text) × DoesPatternMatch mode pattern (drop place text)
match_of_counted_pattern_is_at_end mode pattern text most n place c few sum m =
    let items = sym (counted_items_are_all_items_of_pattern pattern most n c few) in
    subst (λ is. MayStarTakeRun mode (take place text) × DoItemsMatch mode is (drop place text)) items
    (starless_match_after_star_is_at_end mode c.counted.items text place c.counted.ones (let size = c.counted.size in omega arith)
    (subst (λ is. DoItemsMatch mode (Star ∷ is) text) (sym items) m))

pub pattern_match_at_end_implies_star_match : (mode : GlobMode) (pattern text : List ℕ) (place : ℕ) → MayStarTakeRun mode (take place text) → DoesPatternMatch mode pattern (drop place text)
    → DoesPatternMatch mode (42 ∷ pattern) text
pattern_match_at_end_implies_star_match mode pattern text place s m = match_at_end_implies_match_after_star mode (items_of_pattern pattern) text place (s, m)

counted_pattern_has_no_star : (pattern : List ℕ) (most n : ℕ) → IsStarlessItemCountUpToLimit pattern most n → n ≤ most → (items more : List PatternItem) → items_of_pattern pattern ≡ items ++ Star ∷ more → ⊥
counted_pattern_has_no_star pattern most n c few items more e =
    items_with_star_are_not_starless items more (subst HaveNoStar (sym (counted_items_are_all_items_of_pattern pattern most n c few) ∙ e) c.counted.ones)

pub starless_pattern_not_matching_has_no_match : (mode : GlobMode) (lower : Bool) (pattern text : List ℕ) (most n : ℕ) (r : MatchOutcomeUpToStar) → IsStarlessItemCountUpToLimit (bytes_case_folded_if_wanted lower pattern) most n → n ≤ most
    → (r ≡ run.Matched → ⊥) → IsMatchOutcomeUpToStar mode lower pattern text r → DoesPatternMatch mode (bytes_case_folded_if_wanted lower pattern) (bytes_case_folded_if_wanted lower text) → ⊥
starless_pattern_not_matching_has_no_match mode lower pattern text most n run.Matched c few other o m = absurd (other refl)
starless_pattern_not_matching_has_no_match mode lower pattern text most n run.Failed c few other o m = o m
starless_pattern_not_matching_has_no_match mode lower pattern text most n (run.Star behind rest) c few other o m =
    counted_pattern_has_no_star (bytes_case_folded_if_wanted lower pattern) most n c few o.items (items_of_pattern (bytes_case_folded_if_wanted lower behind.now)) o.pattern_is

-- ---- bytes as they are read

pub folded_bytes_wildcards_take_are_star_run : (mode : GlobMode) (lower : Bool) (bytes : List ℕ) → list_all (λ b. may_wildcard_take mode (byte_case_folded_if_wanted lower b)) bytes ≡ true → MayStarTakeRun mode (bytes_case_folded_if_wanted lower bytes)
folded_bytes_wildcards_take_are_star_run mode lower [] e = tt
folded_bytes_wildcards_take_are_star_run mode lower (b ∷ bytes) e =
    (true_conjunction_has_true_left_part (may_wildcard_take mode (byte_case_folded_if_wanted lower b)) _ e, folded_bytes_wildcards_take_are_star_run mode lower bytes (true_conjunction_has_true_right_part (may_wildcard_take mode (byte_case_folded_if_wanted lower b)) _ e))

pub folded_star_run_bytes_are_wildcard_taken : (mode : GlobMode) (lower : Bool) (bytes : List ℕ) → MayStarTakeRun mode (bytes_case_folded_if_wanted lower bytes) → list_all (λ b. may_wildcard_take mode (byte_case_folded_if_wanted lower b)) bytes ≡ true
folded_star_run_bytes_are_wildcard_taken mode lower [] s = refl
folded_star_run_bytes_are_wildcard_taken mode lower (b ∷ bytes) s = conjunction_of_true_parts_is_true (may_wildcard_take mode (byte_case_folded_if_wanted lower b)) _ s.0 (folded_star_run_bytes_are_wildcard_taken mode lower bytes s.1)
