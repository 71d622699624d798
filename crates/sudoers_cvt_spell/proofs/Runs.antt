-- A run of bytes that stand for themselves, and are printed at once.
use Rattle.std.proofs.Common.{◌≡◌, ℕ, ◌+◌, ◌-◌, ◌<◌, ◌≤◌, List, [], ◌∷◌, ◌++◌, length, get_or, drop, take, sym, ap, ◌∙◌, append_assoc, arith}
use Rattle.std.specs.List.{slice_range}
use Rattle.std.proofs.lemmas.List.{take_more, get_or-drop, length-drop}

-- The text is printed up to `from`, its bytes up to `at` stand for themselves, and `rest` is how the others are printed.
abbrev pub IsPrintedUpTo : (text out : List ℕ) (from at : ℕ) (rest whole : List ℕ) → Type 0
IsPrintedUpTo text out from at rest whole = (from ≤ at) × (out ++ (slice_range text from at ++ rest) ≡ whole)

run_with_next_byte : (xs : List ℕ) (from at : ℕ) → from ≤ at → at < length xs
    → slice_range xs from (at + 1) ≡ slice_range xs from at ++ (get_or xs at 0 ∷ [])
run_with_next_byte xs from at ordered within =
    let longer : (at + 1) - from ≡ (at - from) + 1 = omega arith in
    let place : from + (at - from) ≡ at = omega arith in
    ap (λ n. take n (drop from xs)) longer
    ∙ take_more (drop from xs) (at - from) 0 (omega (arith, length-drop from xs))
    ∙ ap (λ b. slice_range xs from at ++ (b ∷ [])) (get_or-drop from xs (at - from) 0 ∙ ap (λ n. get_or xs n 0) place)

pub run_grows_by_byte_that_stands_for_itself : (xs out out' : List ℕ) (from from' at : ℕ) (rest left whole : List ℕ)
    → at < length xs → rest ≡ get_or xs at 0 ∷ left → IsPrintedUpTo xs out from at rest whole → out' ≡ out → from' ≡ from
    → IsPrintedUpTo xs out' from' (at + 1) left whole
run_grows_by_byte_that_stands_for_itself xs out out' from from' at rest left whole within byte printed same_out same_from = (
  omega (arith, printed.0),
  ap (λ o. o ++ (slice_range xs from' (at + 1) ++ left)) same_out
      ∙ ap (λ n. out ++ (slice_range xs n (at + 1) ++ left)) same_from
      ∙ ap (λ r. out ++ (r ++ left)) (run_with_next_byte xs from at printed.0 within)
      ∙ ap (λ r. out ++ r) (append_assoc (slice_range xs from at) (get_or xs at 0 ∷ []) left)
      ∙ ap (λ r. out ++ (slice_range xs from at ++ r)) (sym byte)
      ∙ printed.1,
)

pub run_ends_before_spelled_byte : (xs out out' : List ℕ) (from from' at : ℕ) (rest piece left whole : List ℕ)
    → rest ≡ piece ++ left → IsPrintedUpTo xs out from at rest whole → out' ≡ (out ++ slice_range xs from at) ++ piece → from' ≡ at + 1
    → IsPrintedUpTo xs out' from' (at + 1) left whole
run_ends_before_spelled_byte xs out out' from from' at rest piece left whole byte printed appended moved =
    let none : (at + 1) - from' ≡ 0 = omega arith in (
      omega arith,
      ap (λ n. out' ++ (take n (drop from' xs) ++ left)) none
          ∙ ap (λ o. o ++ left) appended
          ∙ append_assoc (out ++ slice_range xs from at) piece left
          ∙ append_assoc out (slice_range xs from at) (piece ++ left)
          ∙ ap (λ r. out ++ (slice_range xs from at ++ r)) (sym byte)
          ∙ printed.1,
    )
