-- A device of the proof, which no public contract cites: how many items a pattern has that take one byte each.
use Rattle.std.specs.Prelude.{◌≡◌, ◌≢◌, ◌≤◌, ℕ, List, [], ◌∷◌, ◌++◌, length}
use Rattle.sudoers_match_member.specs.Wildcard.{PatternItem, Star, items_of_pattern}

-- no item is `*`
abbrev pub HaveNoStar : List PatternItem → Type 0
HaveNoStar [] = Unit {0}
HaveNoStar (item ∷ items) = (item ≢ Star) × HaveNoStar items

-- So many items begin the pattern up to what is left of it, none of them `*`.
pub record BeginsWithStarlessItems (pattern left : List ℕ) (count : ℕ) : Type 0 where
  pub items : List PatternItem
  pub pattern_is : items_of_pattern pattern ≡ items ++ items_of_pattern left
  pub ones : HaveNoStar items
  pub size : length items ≡ count

-- So many begin it. They are all, if they are at most so many.
pub record IsStarlessItemCountUpToLimit (pattern : List ℕ) (most count : ℕ) : Type 0 where
  pub left : List ℕ
  pub counted : BeginsWithStarlessItems pattern left count
  pub all : count ≤ most → left ≡ []
