-- What is left to match behind the last `*`.
use Rattle.std.proofs.Common.{◌≡◌, ℕ, zero, suc, Bool, true, false, ◌&&◌, List, [], ◌∷◌, ◌++◌, ◌<◌, ◌≤◌, length, drop, take, arith, refl, sym, ap, subst, ◌∙◌}
use Rattle.std.specs.List.{list_all}
use Rattle.std.proofs.lemmas.Bool.{false≢true}
use Rattle.sudoers_match_member.specs.declared.wildcards.GlobMode.{GlobMode}
use Rattle.sudoers_match_member.specs.declared.wildcards.MatchOutcomeUpToStar.{MatchOutcomeUpToStar}
use Rattle.sudoers_match_member.specs.declared.wildcards.MatchOutcomeUpToStar.TheVariants as run
use Rattle.sudoers_match_member.specs.Folded.{bytes_case_folded_if_wanted}
use Rattle.sudoers_match_member.specs.Wildcard.{PatternItem, Star, may_wildcard_take, items_of_pattern}
use Rattle.sudoers_match_member.specs.internal.Run.{MatchesUpToStar, IsMatchReducedToRest, DoItemsMatch, DoesPatternMatch, IsMatchOutcomeUpToStar, IsMatchOutcomeOfWholePattern, remaining_pattern_measure}
use Rattle.sudoers_match_member.proofs.AsRead.{case_folding_keeps_length}
use Rattle.sudoers_match_member.proofs.Items.{taken_bytes_before_match_are_match, rest_after_taken_bytes_is_matched}
use Rattle.sudoers_match_member.proofs.Splits.{true_conjunction_has_true_left_part, true_conjunction_has_true_right_part}
use Rattle.sudoers_match_member.proofs.Stars.{match_of_two_stars_reduces_to_last, match_of_last_star_extends_back, star_of_unmatched_items_takes_byte, wildcard_byte_before_star_match_is_match}

-- up to the first `*`
pub match_is_reduced_at_first_star : (mode : GlobMode) (pattern text behind rest : List ℕ) → MatchesUpToStar mode pattern text behind rest → IsMatchReducedToRest mode pattern text behind rest
match_is_reduced_at_first_star mode pattern text behind rest s =
    let more = Star ∷ items_of_pattern behind in
    record {
      to = λ m. rest_after_taken_bytes_is_matched mode s.items more s.bytes rest s.take
          (subst (λ is. DoItemsMatch mode is (s.bytes ++ rest)) s.pattern_is (subst (λ t. DoItemsMatch mode (items_of_pattern pattern) t) s.text_is m));
      from = λ m. subst (λ is. DoItemsMatch mode is text) (sym s.pattern_is)
          (subst (λ t. DoItemsMatch mode (s.items ++ more) t) (sym s.text_is) (taken_bytes_before_match_are_match mode s.items more s.bytes rest s.take m));
    }

-- up to the next
pub match_is_reduced_at_next_star : (mode : GlobMode) (pattern text behind rest after last : List ℕ) → IsMatchReducedToRest mode pattern text behind rest → MatchesUpToStar mode behind rest after last
    → IsMatchReducedToRest mode pattern text after last
match_is_reduced_at_next_star mode pattern text behind rest after last l s =
    let more = items_of_pattern after in
    record {
      to = λ m. match_of_two_stars_reduces_to_last mode s.items more s.bytes last s.take
          (subst (λ is. DoItemsMatch mode (Star ∷ is) (s.bytes ++ last)) s.pattern_is (subst (λ t. DoItemsMatch mode (Star ∷ items_of_pattern behind) t) s.text_is (l.to m)));
      from = λ m. l.from (subst (λ is. DoItemsMatch mode (Star ∷ is) rest) (sym s.pattern_is)
          (subst (λ t. DoItemsMatch mode (Star ∷ s.items ++ Star ∷ more) t) (sym s.text_is) (match_of_last_star_extends_back mode s.items more s.bytes last s.take m)));
    }

-- a byte more
pub match_is_reduced_past_unmatched_byte : (mode : GlobMode) (pattern text behind rest last : List ℕ) (b : ℕ) → IsMatchReducedToRest mode pattern text behind rest → (DoesPatternMatch mode behind rest → ⊥)
    → rest ≡ b ∷ last → may_wildcard_take mode b ≡ true → IsMatchReducedToRest mode pattern text behind last
match_is_reduced_past_unmatched_byte mode pattern text behind rest last b l n e h = record {
  to = λ m. let more = star_of_unmatched_items_takes_byte mode (items_of_pattern behind) rest n (l.to m) in
      let same : more.1 ≡ last = let f = more.2 in cc in
      subst (DoItemsMatch mode (Star ∷ items_of_pattern behind)) same more.4;
  from = λ m. l.from (subst (DoItemsMatch mode (Star ∷ items_of_pattern behind)) (sym e) (wildcard_byte_before_star_match_is_match mode (items_of_pattern behind) b last h m));
}

-- no byte more
pub blocked_unmatched_rest_has_no_match : (mode : GlobMode) (pattern text behind rest : List ℕ) → IsMatchReducedToRest mode pattern text behind rest → (DoesPatternMatch mode behind rest → ⊥)
    → ((b : ℕ) (last : List ℕ) → rest ≡ b ∷ last → may_wildcard_take mode b ≡ true → ⊥) → DoesPatternMatch mode pattern text → ⊥
blocked_unmatched_rest_has_no_match mode pattern text behind rest l n h m =
    let more = star_of_unmatched_items_takes_byte mode (items_of_pattern behind) rest n (l.to m) in h more.0 more.1 more.2 more.3

pub match_of_reduced_rest_is_match : (mode : GlobMode) (pattern text behind rest : List ℕ) → IsMatchReducedToRest mode pattern text behind rest → DoesPatternMatch mode behind rest → DoesPatternMatch mode pattern text
match_of_reduced_rest_is_match mode pattern text behind rest l m = l.from ([], rest, refl, tt, m)

-- ---- outcomes, as they follow one another

pub progress_to_star_is_overall_progress : (mode : GlobMode) (lower : Bool) (pattern text : List ℕ) (r : MatchOutcomeUpToStar) → IsMatchOutcomeUpToStar mode lower pattern text r → IsMatchOutcomeOfWholePattern mode lower (bytes_case_folded_if_wanted lower pattern) (bytes_case_folded_if_wanted lower text) r
progress_to_star_is_overall_progress mode lower pattern text run.Matched o = o
progress_to_star_is_overall_progress mode lower pattern text run.Failed o = o
progress_to_star_is_overall_progress mode lower pattern text (run.Star behind rest) o = match_is_reduced_at_first_star mode (bytes_case_folded_if_wanted lower pattern) (bytes_case_folded_if_wanted lower text) (bytes_case_folded_if_wanted lower behind.now) (bytes_case_folded_if_wanted lower rest.now) o

-- behind a `*`
pub progress_after_star_is_overall_progress : (mode : GlobMode) (lower : Bool) (pattern text ys : List ℕ) (r : MatchOutcomeUpToStar) → IsMatchReducedToRest mode (42 ∷ bytes_case_folded_if_wanted lower pattern) ys (bytes_case_folded_if_wanted lower pattern) (bytes_case_folded_if_wanted lower text)
    → (r ≡ run.Failed → ⊥) → IsMatchOutcomeUpToStar mode lower pattern text r → IsMatchOutcomeOfWholePattern mode lower (42 ∷ bytes_case_folded_if_wanted lower pattern) ys r
progress_after_star_is_overall_progress mode lower pattern text ys run.Matched l n o = match_of_reduced_rest_is_match mode (42 ∷ bytes_case_folded_if_wanted lower pattern) ys (bytes_case_folded_if_wanted lower pattern) (bytes_case_folded_if_wanted lower text) l o
progress_after_star_is_overall_progress mode lower pattern text ys run.Failed l n o = absurd (n refl)
progress_after_star_is_overall_progress mode lower pattern text ys (run.Star behind rest) l n o =
    match_is_reduced_at_next_star mode (42 ∷ bytes_case_folded_if_wanted lower pattern) ys (bytes_case_folded_if_wanted lower pattern) (bytes_case_folded_if_wanted lower text) (bytes_case_folded_if_wanted lower behind.now) (bytes_case_folded_if_wanted lower rest.now) l o

pub remaining_pattern_after_run_is_no_longer : (mode : GlobMode) (lower : Bool) (pattern text : List ℕ) (r : MatchOutcomeUpToStar) → IsMatchOutcomeUpToStar mode lower pattern text r → remaining_pattern_measure r ≤ length pattern
remaining_pattern_after_run_is_no_longer mode lower pattern text run.Matched o = omega arith
remaining_pattern_after_run_is_no_longer mode lower pattern text run.Failed o = omega arith
remaining_pattern_after_run_is_no_longer mode lower pattern text (run.Star behind rest) o = omega (arith, o.shorter, case_folding_keeps_length lower behind.now, case_folding_keeps_length lower pattern)

-- places from which what is behind a `*` does not match
pub match_is_reduced_past_places_without_match : (mode : GlobMode) (pattern text behind rest : List ℕ) (count : ℕ) → count ≤ length rest → ((place : ℕ) → place < count → DoesPatternMatch mode behind (drop place rest) → ⊥)
    → list_all (may_wildcard_take mode) (take count rest) ≡ true → IsMatchReducedToRest mode pattern text behind rest → IsMatchReducedToRest mode pattern text behind (drop count rest)
match_is_reduced_past_places_without_match mode pattern text behind rest zero h n all l = l
match_is_reduced_past_places_without_match mode pattern text behind [] (suc count) h n all l = absurd (omega (arith, h))
match_is_reduced_past_places_without_match mode pattern text behind (b ∷ rest) (suc count) h n all l =
    match_is_reduced_past_places_without_match mode pattern text behind rest count (omega (arith, h)) (λ place k. n (suc place) (omega (arith, k)))
    (true_conjunction_has_true_right_part (may_wildcard_take mode b) _ all)
    (match_is_reduced_past_unmatched_byte mode pattern text behind (b ∷ rest) rest b l (n 0 (omega arith)) refl (true_conjunction_has_true_left_part (may_wildcard_take mode b) _ all))

pub blocked_star_has_no_match : (mode : GlobMode) (items : List PatternItem) (text : List ℕ) (count : ℕ) → ((place : ℕ) → place < count → DoItemsMatch mode items (drop place text) → ⊥)
    → list_all (may_wildcard_take mode) (take count text) ≡ false → DoItemsMatch mode (Star ∷ items) text → ⊥
blocked_star_has_no_match mode items text zero n e m = false≢true (sym e)
blocked_star_has_no_match mode items text (suc count) n e m =
    let more = star_of_unmatched_items_takes_byte mode items text (n 0 (omega arith)) m in
    blocked_star_has_no_match mode items more.1 count (λ place k. subst (λ xs. DoItemsMatch mode items (drop (suc place) xs) → ⊥) more.2 (n (suc place) (omega (arith, k))))
    (ap (λ t. t && list_all (may_wildcard_take mode) (take count more.1)) (sym more.3) ∙ ap (λ xs. list_all (may_wildcard_take mode) (take (suc count) xs)) (sym more.2) ∙ e)
    more.4
