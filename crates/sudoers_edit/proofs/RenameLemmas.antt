-- An alias given another name: the bytes that are put, and the refusals.
use Rattle.sudoers_edit.proofs.Common.{List, [], ap, append_assoc, arith, drop, drop_all, inl, inr, leb_tells, length, line_replaced_at_offsets, min, refl, suc, sym, take, zero, ℕ, ◌++◌, ◌+◌, ◌-◌, ◌∙◌, ◌∷◌, ◌≡◌, ◌≤◌}

-- OTHER BYTES

-- from behind the end it is the same from anywhere there
replacement_past_line_end_is_same : (from to size : ℕ) (fresh : List ℕ) (starts : List ℕ) (line : List ℕ) → length line ≤ from → length line ≤ to
    → line_replaced_at_offsets from size fresh starts line ≡ line_replaced_at_offsets to size fresh starts line
replacement_past_line_end_is_same from to size fresh [] line a b = drop_all from line a ∙ sym (drop_all to line b)
replacement_past_line_end_is_same from to size fresh (start ∷ starts) line a b =
    ap (λ z. take (start - from) z ++ fresh ++ line_replaced_at_offsets (start + size) size fresh starts line) (drop_all from line a)
    ∙ none (start - from) (start - to)
    ∙ ap (λ z. take (start - to) z ++ fresh ++ line_replaced_at_offsets (start + size) size fresh starts line) (sym (drop_all to line b))
  where
    none : (n m : ℕ) → take n [] ++ fresh ++ line_replaced_at_offsets (start + size) size fresh starts line ≡ take m [] ++ fresh ++ line_replaced_at_offsets (start + size) size fresh starts line
    none zero zero = refl
    none zero (suc m) = refl
    none (suc n) zero = refl
    none (suc n) (suc m) = refl

replacement_from_limited_offset_is_same : (from start size most : ℕ) (fresh : List ℕ) (starts : List ℕ) (line : List ℕ) → from ≡ min (start + size) most → length line ≤ most
    → line_replaced_at_offsets from size fresh starts line ≡ line_replaced_at_offsets (start + size) size fresh starts line
replacement_from_limited_offset_is_same from start size most fresh starts line is within = elim (leb_tells (start + size) most) [
  | inl less ↦ ap (λ n. line_replaced_at_offsets n size fresh starts line) (same is less.1)
  | inr more ↦ replacement_past_line_end_is_same from (start + size) size fresh starts line (omega (arith, is, more.1, within)) (omega (arith, more.1, within))
]
  where
    same : from ≡ min (start + size) most → start + size ≤ most → from ≡ start + size
    same is less = omega (arith, is, less)

-- the bytes up to the next place, and the others there
pub replacement_continues_at_next_offset : (text new : List ℕ) (from next start size most : ℕ) (fresh : List ℕ) (starts : List ℕ) (line : List ℕ)
    → new ≡ (text ++ take (start - from) (drop from line)) ++ fresh → next ≡ min (start + size) most → length line ≤ most
    → new ++ line_replaced_at_offsets next size fresh starts line ≡ text ++ line_replaced_at_offsets from size fresh (start ∷ starts) line
replacement_continues_at_next_offset text new from next start size most fresh starts line is step within =
    let rest : List ℕ = line_replaced_at_offsets (start + size) size fresh starts line in
    let kept : List ℕ = take (start - from) (drop from line) in
    ap (λ z. new ++ z) (replacement_from_limited_offset_is_same next start size most fresh starts line step within)
    ∙ ap (λ z. z ++ rest) is
    ∙ append_assoc (text ++ kept) fresh rest
    ∙ append_assoc text kept (fresh ++ rest)
    ∙ ap (λ z. text ++ z) (sym (append_assoc kept fresh rest))
