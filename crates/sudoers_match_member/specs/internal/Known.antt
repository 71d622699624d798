-- A device of the proof, which no public contract cites: what is known of the sets of a pattern.
use Rattle.std.specs.Prelude.{◌≡◌, ◌≢◌, ◌<◌, ◌≤◌, ◌+◌, ℕ, Bool, false, List, length, drop, get_or, IfSome}
use Rattle.sudoers_match_member.specs.declared.wildcards.GlobMode.{GlobMode}
use Rattle.sudoers_match_member.specs.declared.wildcards.MatchOutcomeUpToStar.{MatchOutcomeUpToStar}
use Rattle.sudoers_match_member.specs.declared.wildcards.MatchOutcomeUpToStar.TheVariants as run
use Rattle.sudoers_match_member.specs.declared.first_pattern_item.PatternItemMatch.{PatternItemMatch}
use Rattle.sudoers_match_member.specs.declared.set_cache.SetMatchCache.{SetMatchCache}
use Rattle.sudoers_match_member.specs.Folded.{bytes_case_folded_if_wanted}
use Rattle.sudoers_match_member.specs.Wildcard.{is_byte_taken_by_item, pattern_item_at}
use Rattle.sudoers_match_member.specs.internal.Unclosed.{AreUnclosedPlaces}

-- What begins a pattern: how long it is, and whether it takes this byte.
pub record IsFirstItemMatch (mode : GlobMode) (lower : Bool) (pattern : List ℕ) (b : ℕ) (front : PatternItemMatch) : Type 0 where
  pub len : front.len ≡ (pattern_item_at (bytes_case_folded_if_wanted lower pattern)).1
  pub takes : front.takes ≡ is_byte_taken_by_item mode (pattern_item_at (bytes_case_folded_if_wanted lower pattern)).0 b
  pub some : 0 < front.len
  pub within : front.len ≤ length pattern

-- So many last bytes of the pattern have no `]`.
abbrev pub IsTailWithoutClosingBracket : ℕ → List ℕ → Type 0
IsTailWithoutClosingBracket tail pattern = (i : ℕ) → i < length pattern → length pattern ≤ i + tail → get_or pattern i 0 ≢ 93

-- What is known of the sets of a pattern is right.
pub record IsCorrectSetCache (mode : GlobMode) (lower : Bool) (pattern : List ℕ) (known : SetMatchCache) : Type 0 where
  pub tail : IsTailWithoutClosingBracket known.tail pattern
  pub front : IfSome known.at (λ at. (b : ℕ) → b < 256 → IsFirstItemMatch mode lower (drop at pattern) b (record { len = known.len; takes = get_or known.takes b false }))
  pub unclosed : IfSome known.unclosed (AreUnclosedPlaces lower pattern)

-- What is known of all sets is right for what stands behind a `*`.
abbrev pub IsKnownBehindStar : Bool → SetMatchCache → MatchOutcomeUpToStar → Type 0
IsKnownBehindStar lower known run.Matched = Unit {0}
IsKnownBehindStar lower known run.Failed = Unit {0}
IsKnownBehindStar lower known (run.Star behind rest) = IsTailWithoutClosingBracket known.tail behind.now × IfSome known.unclosed (AreUnclosedPlaces lower behind.now)
