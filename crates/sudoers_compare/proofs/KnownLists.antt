-- What is known of lists stays right.
use Rattle.std.proofs.Common.{◌≡◌, ◌⊎◌, inl, inr, ℕ, zero, suc, Bool, true, false, not, true≢false, ◌&&◌, ◌==◌, ◌<◌, ◌^◌, List, [], ◌∷◌, Some, None, refl, sym, ap, subst, replicate, ◌∙◌}
use Rattle.std.specs.Prelude.{slice_get, slice_set}
use Rattle.std.specs.Int.Bits.{bit_and}
use Rattle.laws_compare.specs.Content.{FlatPrivilegeRow}
use Rattle.laws_compare.specs.Decided.{is_covering_grant, is_covering_row, is_list_wider}
use Rattle.sudoers_compare.specs.declared.known_answers.ListAnswers.{ListAnswers}
use Rattle.sudoers_compare.specs.declared.row_lists.RowLists.{RowLists}
use Rattle.sudoers_compare.specs.KnownAnswers.{AreRightAnswers, AreRightAnswersOfSpec}
use Rattle.sudoers_compare.specs.RowLists.{ListsWithBits, NumberedLists, lists_of_kept, lists_of_row}
use Rattle.sudoers_compare.proofs.FoundRows.{nothing_is_no_item, one_item_is_the_other}
use Rattle.sudoers_compare.proofs.ListBits.{list_without_needed_bits_is_not_wider}

item_of_changed_list : {X : Type 0} → (xs : List X) (i : ℕ) (x : X) (j : ℕ) (y : X) → slice_get (slice_set xs i x) j ≡ Some y → ((j ≡ i) × (y ≡ x)) ⊎ (slice_get xs j ≡ Some y)
item_of_changed_list [] i x j y e = inr e
item_of_changed_list (a ∷ xs) zero x zero y e = inl (refl, sym (one_item_is_the_other e))
item_of_changed_list (a ∷ xs) zero x (suc j) y e = inr e
item_of_changed_list (a ∷ xs) (suc i) x zero y e = inr e
item_of_changed_list (a ∷ xs) (suc i) x (suc j) y e = elim (item_of_changed_list xs i x j y e) as (λ _. ((suc j ≡ suc i) × (y ≡ x)) ⊎ (slice_get xs j ≡ Some y)) [
  | inl both ↦ inl (ap suc both.0, both.1)
  | inr before ↦ inr before
]

pub changed_answers_are_right : (all : NumberedLists) (answers : List ListAnswers) (spec : ℕ) (known : ListAnswers) → AreRightAnswers all answers → AreRightAnswersOfSpec all spec known → AreRightAnswers all (slice_set answers spec known)
changed_answers_are_right all answers spec known right one j other stands = elim (item_of_changed_list answers spec known j other stands) as (λ _. AreRightAnswersOfSpec all j other) [
  | inl both ↦ subst (λ (n : ℕ). AreRightAnswersOfSpec all n other) (sym both.0) (subst (AreRightAnswersOfSpec all spec) (sym both.1) one)
  | inr before ↦ right j other before
]

one_of_equal_items : {X : Type 0} → (n : ℕ) (x : X) (j : ℕ) (y : X) → slice_get (replicate n x) j ≡ Some y → x ≡ y
one_of_equal_items zero x j y e = absurd (nothing_is_no_item e)
one_of_equal_items (suc n) x zero y e = one_item_is_the_other e
one_of_equal_items (suc n) x (suc j) y e = one_of_equal_items n x j y e

abbrev pub nothing_asked : ListAnswers
nothing_asked = record { users = None; hosts = None }

pub no_answers_are_right : (all : NumberedLists) (n : ℕ) (answers : List ListAnswers) → answers ≡ replicate n nothing_asked → AreRightAnswers all answers
no_answers_are_right all n answers is j known stands =
    subst (AreRightAnswersOfSpec all j) (one_of_equal_items n nothing_asked j known (subst (λ (items : List ListAnswers). slice_get items j ≡ Some known) is stands)) (tt, tt)

pub nothing_known_is_right : (all : NumberedLists) → AreRightAnswers all []
nothing_known_is_right all spec known stands = absurd (nothing_is_no_item stands)

-- ---- rows whose lists lack bits

pub users_without_needed_bits_cover_nothing : (all : NumberedLists) (wide narrow : RowLists) (later row : FlatPrivilegeRow) → lists_of_kept all wide ≡ lists_of_row later → lists_of_kept all narrow ≡ lists_of_row row
    → narrow.users.needed < 2 ^ 64 → (bit_and wide.users.given narrow.users.needed == narrow.users.needed) ≡ false → false ≡ is_covering_row later row
users_without_needed_bits_cover_nothing all wide narrow later row kept kept_too small lacks =
    sym (ap (λ (b : Bool). b && is_list_wider later.hosts row.hosts && is_covering_grant later.grant row.grant)
    (list_without_needed_bits_is_not_wider later.users row.users wide.users.given narrow.users.needed (ap (λ (l : ListsWithBits). l.users_given) kept) (ap (λ (l : ListsWithBits). l.users_needed) kept_too) small lacks))

and_false : (b : Bool) → (b && false) ≡ false
and_false true = refl
and_false false = refl

pub hosts_without_needed_bits_cover_nothing : (all : NumberedLists) (wide narrow : RowLists) (later row : FlatPrivilegeRow) → lists_of_kept all wide ≡ lists_of_row later → lists_of_kept all narrow ≡ lists_of_row row
    → narrow.hosts.needed < 2 ^ 64 → (bit_and wide.hosts.given narrow.hosts.needed == narrow.hosts.needed) ≡ false → false ≡ is_covering_row later row
hosts_without_needed_bits_cover_nothing all wide narrow later row kept kept_too small lacks =
    sym (ap (λ (b : Bool). is_list_wider later.users row.users && b && is_covering_grant later.grant row.grant)
    (list_without_needed_bits_is_not_wider later.hosts row.hosts wide.hosts.given narrow.hosts.needed (ap (λ (l : ListsWithBits). l.hosts_given) kept) (ap (λ (l : ListsWithBits). l.hosts_needed) kept_too) small lacks)
    ∙ ap (λ (b : Bool). b && is_covering_grant later.grant row.grant) (and_false (is_list_wider later.users row.users)))

-- ---- tests

pub denied_is_false : (b : Bool) → not b ≡ true → b ≡ false
denied_is_false true e = absurd (true≢false (sym e))
denied_is_false false e = refl

pub not_denied_is_true : (b : Bool) → not b ≡ false → b ≡ true
not_denied_is_true true e = refl
not_denied_is_true false e = absurd (true≢false e)
