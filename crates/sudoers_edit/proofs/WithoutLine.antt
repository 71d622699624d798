-- A policy without one of its lines.
use Rattle.sudoers_edit.proofs.Common.{List, [], ap, arith, length, refl, suc, zero, ℕ, ◌++◌, ◌<◌, ◌∷◌, ◌≡◌}

-- a list, cut at one of its items
pub record IsListCutAtItem {X : Type 0} (xs : List X) (at : ℕ) : Type 0 where
  pub front : List X
  pub one : X
  pub rest : List X
  pub is : xs ≡ front ++ one ∷ rest
  pub place : length front ≡ at

pub list_is_cut_at_number_below_length : {X : Type 0} (xs : List X) (at : ℕ) → at < length xs → IsListCutAtItem xs at
list_is_cut_at_number_below_length [] at l = absurd (omega (arith, l))
list_is_cut_at_number_below_length (x ∷ xs) zero l = record { front = []; one = x; rest = xs; is = refl; place = refl }
list_is_cut_at_number_below_length {X} (x ∷ xs) (suc at) l =
    let c = list_is_cut_at_number_below_length xs at (omega (arith, l)) in
    record { front = x ∷ c.front; one = c.one; rest = c.rest; is = ap (λ (zs : List X). x ∷ zs) c.is; place = ap suc c.place }
