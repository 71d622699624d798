use Rattle.std.proofs.Common.{◌≡◌, ◌<◌, ◌||◌, ℕ, true, false, nat_eq, drop, length, slice_index_or}
use Rattle.std.specs.List.{list_any}
use Rattle.sudoers_plan.proofs.user_aliases.set_marks_at.Given as goal

abbrev pub invariant-loop-number : goal.invariant-loop-number
invariant-loop-number l = record {
  kept : (j : ℕ) → slice_index_or l.initial.marks j false ≡ true → slice_index_or l.marks j false ≡ true;
  marked : (j : ℕ) → j < length l.initial.marks → list_any (nat_eq j) l.numbers ≡ true → slice_index_or l.marks j false || list_any (nat_eq j) (drop l.number-index l.numbers) ≡ true;
}
