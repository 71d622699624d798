-- A device of the proof, which no public contract cites: matching as a relation, and how far a pattern goes up to its next `*`.
use Rattle.std.specs.Prelude.{◌≡◌, ◌≤◌, ◌<◌, ℕ, suc, true, Bool, List, [], ◌∷◌, ◌++◌, length}
use Rattle.sudoers_match_member.specs.declared.wildcards.GlobMode.{GlobMode}
use Rattle.sudoers_match_member.specs.declared.wildcards.MatchOutcomeUpToStar.{MatchOutcomeUpToStar}
use Rattle.sudoers_match_member.specs.declared.wildcards.MatchOutcomeUpToStar.TheVariants as run
use Rattle.sudoers_match_member.specs.Folded.{bytes_case_folded_if_wanted}
use Rattle.std.specs.List.{AllByRecursion}
use Rattle.sudoers_match_member.specs.Wildcard.{PatternItem, Star, may_wildcard_take, is_byte_taken_by_item, items_of_pattern}

-- `*` may stand for the run
abbrev pub MayStarTakeRun : GlobMode → List ℕ → Type 0
MayStarTakeRun mode run = AllByRecursion (λ b. may_wildcard_take mode b ≡ true) run

-- `*` matches a run that it may stand for, every other item one byte.
abbrev pub DoItemsMatch : GlobMode → List PatternItem → List ℕ → Type 0
DoItemsMatch mode [] text = text ≡ []
DoItemsMatch mode (Star ∷ items) text =
    (run rest : List ℕ) × (text ≡ run ++ rest) × MayStarTakeRun mode run × DoItemsMatch mode items rest
DoItemsMatch mode (item ∷ items) text =
    (b : ℕ) × (rest : List ℕ) × (text ≡ b ∷ rest) × (is_byte_taken_by_item mode item b ≡ true) × DoItemsMatch mode items rest

abbrev pub DoesPatternMatch : GlobMode → List ℕ → List ℕ → Type 0
DoesPatternMatch mode pattern text = DoItemsMatch mode (items_of_pattern pattern) text

-- Items other than `*` take these bytes, one each.
abbrev pub DoItemsTakeBytes : GlobMode → List PatternItem → List ℕ → Type 0
DoItemsTakeBytes mode [] bytes = bytes ≡ []
DoItemsTakeBytes mode (item ∷ items) [] = ⊥
DoItemsTakeBytes mode (item ∷ items) (b ∷ bytes) = (is_byte_taken_by_item mode item b ≡ true) × DoItemsTakeBytes mode items bytes

-- Items up to the next `*` take the text up to a rest.
pub record MatchesUpToStar (mode : GlobMode) (pattern text behind rest : List ℕ) : Type 0 where
  pub items : List PatternItem
  pub bytes : List ℕ
  pub pattern_is : items_of_pattern pattern ≡ items ++ Star ∷ items_of_pattern behind
  pub text_is : text ≡ bytes ++ rest
  pub take : DoItemsTakeBytes mode items bytes
  pub shorter : length behind < length pattern
  pub no_longer : length rest ≤ length text

abbrev pub IsMatchOutcomeUpToStar : GlobMode → Bool → List ℕ → List ℕ → MatchOutcomeUpToStar → Type 0
IsMatchOutcomeUpToStar mode lower pattern text run.Matched = DoesPatternMatch mode (bytes_case_folded_if_wanted lower pattern) (bytes_case_folded_if_wanted lower text)
IsMatchOutcomeUpToStar mode lower pattern text run.Failed = DoesPatternMatch mode (bytes_case_folded_if_wanted lower pattern) (bytes_case_folded_if_wanted lower text) → ⊥
IsMatchOutcomeUpToStar mode lower pattern text (run.Star behind rest) =
    MatchesUpToStar mode (bytes_case_folded_if_wanted lower pattern) (bytes_case_folded_if_wanted lower text) (bytes_case_folded_if_wanted lower behind.now) (bytes_case_folded_if_wanted lower rest.now)

-- Items take bytes of the text, up to what is left of the pattern and a rest of the text.
pub record DoItemsTakePrefix (mode : GlobMode) (pattern text left rest : List ℕ) : Type 0 where
  pub items : List PatternItem
  pub bytes : List ℕ
  pub pattern_is : items_of_pattern pattern ≡ items ++ items_of_pattern left
  pub text_is : text ≡ bytes ++ rest
  pub take : DoItemsTakeBytes mode items bytes

-- The text matches the pattern exactly if this rest matches `*` and what is left behind it.
pub record IsMatchReducedToRest (mode : GlobMode) (pattern text behind rest : List ℕ) : Type 0 where
  pub to : DoesPatternMatch mode pattern text → DoItemsMatch mode (Star ∷ items_of_pattern behind) rest
  pub from : DoItemsMatch mode (Star ∷ items_of_pattern behind) rest → DoesPatternMatch mode pattern text

-- what an outcome says of the whole: of a text that goes up to a `*`, what is left
abbrev pub IsMatchOutcomeOfWholePattern : GlobMode → Bool → List ℕ → List ℕ → MatchOutcomeUpToStar → Type 0
IsMatchOutcomeOfWholePattern mode lower pattern text run.Matched = DoesPatternMatch mode pattern text
IsMatchOutcomeOfWholePattern mode lower pattern text run.Failed = DoesPatternMatch mode pattern text → ⊥
IsMatchOutcomeOfWholePattern mode lower pattern text (run.Star behind rest) = IsMatchReducedToRest mode pattern text (bytes_case_folded_if_wanted lower behind.now) (bytes_case_folded_if_wanted lower rest.now)

-- how much is left of the pattern, and one more where it goes on
abbrev pub remaining_pattern_measure : MatchOutcomeUpToStar → ℕ
remaining_pattern_measure run.Matched = 0
remaining_pattern_measure run.Failed = 0
remaining_pattern_measure (run.Star behind rest) = suc (length behind.now)
