use Rattle.std.proofs.Common.{◌≡◌, ◌⊎◌, inl, inr, ◌&&◌, ◌||◌, Bool, true, false, refl}
use Rattle.std.proofs.lemmas.Bool.{and_parts}
use Rattle.laws_compare.specs.Decided.{is_covering_row}
use Rattle.sudoers_compare.specs.SameRow.{have_same_effect, is_narrowed_row, is_same_flat_row}
use Rattle.sudoers_compare.proofs.SameRows.{alike_rows_are_same}
use Rattle.sudoers_compare.proofs.laws.unchanged_row_is_same_or_covered.Goals as goal

one_of_two_is_true : (a b : Bool) → (a || b) ≡ true → (a ≡ true) ⊎ (b ≡ true)
one_of_two_is_true true b e = inl refl
one_of_two_is_true false b e = inr e

pub returns : goal.returns
returns c old new e = elim (one_of_two_is_true (is_same_flat_row old new) (is_narrowed_row old new) e) [
  | inl same ↦ inl (alike_rows_are_same old new same)
  | inr narrowed ↦
      let last = and_parts (old.grant.atom.allow && have_same_effect old.grant new.grant) (is_covering_row old new) narrowed in
      inr ((and_parts old.grant.atom.allow (have_same_effect old.grant new.grant) last.0).0, c.decided_is_covered.ensures.row old new last.1)
]
