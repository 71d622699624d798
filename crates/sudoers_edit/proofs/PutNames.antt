-- A name put in the place of others that stand one behind another: all at once, or the last one first.
use Rattle.sudoers_edit.proofs.Common.{AreOrderedNameOffsets, List, [], ap, append_assoc, ap₂, arith, bytes_replaced_at_offsets, drop, drop-append-le, drop-take, length, length-take-le, line_replaced_at_offsets}
use Rattle.sudoers_edit.proofs.Common.{refl, sym, take, take-append-le, take-take, ℕ, ◌++◌, ◌+◌, ◌-◌, ◌∙◌, ◌∷◌, ◌≡◌, ◌≤◌}

first_ordered_offset_is_at_most_end : (size from to : ℕ) (starts : List ℕ) → AreOrderedNameOffsets size from to starts → from ≤ to
first_ordered_offset_is_at_most_end size from to [] a = a
first_ordered_offset_is_at_most_end size from to (start ∷ starts) a = omega (arith, a.0, a.1, first_ordered_offset_is_at_most_end size (start + size) to starts a.2)

-- the bytes before the first of them stay, and from there on they are the same
abbrev AreBytesPutFromOffset : ℕ → ℕ → List ℕ → List ℕ → List ℕ → Type 0
AreBytesPutFromOffset size from fresh line starts =
    ((n : ℕ) → n ≤ from → take n (bytes_replaced_at_offsets size fresh starts line) ≡ take n line)
    × (drop from (bytes_replaced_at_offsets size fresh starts line) ≡ line_replaced_at_offsets from size fresh starts line)

bytes_put_from_offset_are_line_replaced : (size from to : ℕ) (fresh line starts : List ℕ) → AreOrderedNameOffsets size from to starts → to ≤ length line → AreBytesPutFromOffset size from fresh line starts
bytes_put_from_offset_are_line_replaced size from to fresh line [] a within = (λ n l. refl, refl)
bytes_put_from_offset_are_line_replaced size from to fresh line (start ∷ starts) a within =
    let behind : ℕ = start + size in
    let rest : AreBytesPutFromOffset size behind fresh line starts = bytes_put_from_offset_are_line_replaced size behind to fresh line starts a.2 within in
    let more : List ℕ = bytes_replaced_at_offsets size fresh starts line in
    let there : List ℕ = line_replaced_at_offsets behind size fresh starts line in
    let front : List ℕ = take start line in
    let reach : start ≤ length line = omega (arith, first_ordered_offset_is_at_most_end size behind to starts a.2, within) in
    let kept : take start more ≡ front = rest.0 start (omega arith) in
    let count : length front ≡ start = length-take-le start line reach in (
      λ n l. ap (λ (z : List ℕ). take n (z ++ (fresh ++ drop behind more))) kept
          ∙ take-append-le n front (fresh ++ drop behind more) (omega (arith, count, l, a.0))
          ∙ take-take n start line (omega (arith, l, a.0)),
      ap₂ (λ (z y : List ℕ). drop from (z ++ (fresh ++ y))) kept rest.1
          ∙ drop-append-le from front (fresh ++ there) (omega (arith, count, a.0))
          ∙ ap (λ (n : ℕ). drop from (take n line) ++ (fresh ++ there)) (split from start a.0)
          ∙ ap (λ (z : List ℕ). z ++ (fresh ++ there)) (drop-take from (start - from) line)
          ∙ sym (append_assoc (take (start - from) (drop from line)) fresh there),
    )
  where
    split : (from start : ℕ) → from ≤ start → start ≡ from + (start - from)
    split from start l = omega (arith, l)

pub replacement_at_once_is_replacement_in_turn : (size : ℕ) (fresh line starts : List ℕ) → AreOrderedNameOffsets size 0 (length line) starts
    → line_replaced_at_offsets 0 size fresh starts line ≡ bytes_replaced_at_offsets size fresh starts line
replacement_at_once_is_replacement_in_turn size fresh line starts a = sym (bytes_put_from_offset_are_line_replaced size 0 (length line) fresh line starts a (omega arith)).1
