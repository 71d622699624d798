-- What a search finds among lines in rising order.
use Rattle.sudoers_check.proofs.Common.{AliasLineFirstNumber, Err, List, Ok, arith, cases_lt, get_or, inl, inr, length, nat_tests, sym, ℕ, ◌<◌, ◌≡◌, ◌≢◌, ◌≤◌}
use Rattle.std.specs.Ordering.{nat_cmp, ordering_index}
use Rattle.std.specs.List.Sorted.{IsSearchInRange, IsBinarySearchResult, IsNonDecreasingBy}
use Rattle.std.proofs.lemmas.Cmp.{ranked}

module _ (firsts : List AliasLineFirstNumber) (line : ℕ) (up : (i j : ℕ) (d : AliasLineFirstNumber) → i ≤ j → j < length firsts → (get_or firsts i d).line ≤ (get_or firsts j d).line) where
  comparisons_rise : IsNonDecreasingBy (λ (x : AliasLineFirstNumber). ordering_index (nat_cmp x.line line)) firsts
  comparisons_rise i j d le h = let rise = up i j d le h in grind (arith, nat_tests)

  pub found : (at : ℕ) → IsSearchInRange (Ok at) (length firsts) → IsBinarySearchResult (λ (x : AliasLineFirstNumber). nat_cmp x.line line) firsts (Ok at)
      → (at < length firsts) × ((d : AliasLineFirstNumber) → (get_or firsts at d).line ≡ line)
  found at bound equal = (bound, λ d. ranked _ line _ (sym (equal d)))

  pub missing : (at : ℕ) → IsBinarySearchResult (λ (x : AliasLineFirstNumber). nat_cmp x.line line) firsts (Err at) → (i : ℕ) (d : AliasLineFirstNumber) → i < length firsts → (get_or firsts i d).line ≢ line
  missing at parted i d h e = elim (cases_lt i at) [
    | inl l ↦ let less : (get_or firsts i d).line < line = ranked _ line _ (sym ((parted comparisons_rise).0 i d (omega arith) l)) in omega (arith, less, e)
    | inr l ↦ let more : line < (get_or firsts i d).line = ranked _ line _ (sym ((parted comparisons_rise).1 i d l h)) in omega (arith, more, e)
  ]
