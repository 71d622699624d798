use Rattle.sudoers_match_list.proofs.Common.{AliasMember, AreCachesOfAllKindsValid, ListLeadsToCyclicAlias, Some, single_member_list_naming_alias, slice_get, ℕ, ◌<◌, ◌≡◌}
use Rattle.sudoers_match_list.proofs.alias_cycles.CycleSearchByKind.is_cycle_reached_from_any.Given as goal

abbrev pub invariant-loop-alias : goal.invariant-loop-alias
invariant-loop-alias l = record {
  known : AreCachesOfAllKindsValid l.numbers.walk l.self;
  none : (j : ℕ) → j < l.alias-index → (a : AliasMember) → slice_get l.aliases j ≡ Some a → ListLeadsToCyclicAlias a.kind l.numbers.walk (single_member_list_naming_alias a.name) → ⊥;
}
