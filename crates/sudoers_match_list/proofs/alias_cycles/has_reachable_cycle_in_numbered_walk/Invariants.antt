use Rattle.sudoers_match_list.proofs.Common.{AreCachesOfAllKindsValid, Line, Some, SomeAliasLeadsToCycle, aliases_in_spec_or_defaults, line_of_row, map, slice_get, ℕ, ◌<◌, ◌≡◌}
use Rattle.sudoers_match_list.proofs.alias_cycles.has_reachable_cycle_in_numbered_walk.Given as goal

abbrev pub invariant-loop-row : goal.invariant-loop-row
invariant-loop-row l = record {
  known : AreCachesOfAllKindsValid l.numbers.walk l.known;
  none : (j : ℕ) → j < l.row-index → (line : Line) → slice_get (map (line_of_row l.lines.tables.now) l.lines.rows.now) j ≡ Some line
      → SomeAliasLeadsToCycle l.numbers.walk (aliases_in_spec_or_defaults line.node) → ⊥;
}
