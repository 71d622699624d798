-- Where the search ends.
use Rattle.sudoers_check.proofs.Common.{Bool, Closed, IsMetNode, IsOnCycle, HasSearchInvariantWithNextNode, List, MarksDecidePredicate, New, NodeSearchState, None, Open, Some, [], arith, false, get_or, length, slice_get}
use Rattle.sudoers_check.proofs.Common.{slice_get-get_or, slice_get_within, true, ℕ, ◌<◌, ◌≡◌}

module _ (graph : List (List ℕ)) (standings : List NodeSearchState) (marks : List Bool) (nodes groups : List ℕ) (f : HasSearchInvariantWithNextNode graph None standings marks nodes groups []) where
  -- at the end of the way no node is open
  pub none_open : (p v : ℕ) → slice_get nodes p ≡ Some v → ⊥
  none_open p v at =
      let within : p < length nodes = slice_get_within nodes p v at in
      let s = f.starts 0 (f.first (omega arith)) in
      elim s.1 [ ]

  pub all_marked : ((v : ℕ) → v < length graph → IsMetNode standings v) → MarksDecidePredicate (IsOnCycle graph) (length graph) marks
  all_marked met = record {
    size = f.marks_size;
    holds = λ v m. f.marked v (closed v (slice_get_within marks v true m)) m;
    fails = λ v m. f.unmarked v (closed v (slice_get_within marks v false m)) m;
  }
    where
      by : (v : ℕ) → IsMetNode standings v → (s : NodeSearchState) → slice_get standings v ≡ Some s → slice_get standings v ≡ Some Closed
      by v is New e = absurd (is e)
      by v is (Open p) e = absurd (none_open p v (f.placed p v e))
      by v is Closed e = e

      closed : (v : ℕ) → v < length marks → slice_get standings v ≡ Some Closed
      closed v lt =
          let size = f.marks_size in
          let size_too = f.standings_size in
          by v (met v (omega arith)) (get_or standings v New) (slice_get-get_or standings v New (omega arith))
