-- What may change in a line leaves its line feeds.
use Rattle.std.proofs.Common.{◌≡◌, ℕ, ◌+◌, List, fold, refl, ap, cond, ◌∙◌, arith}
use Rattle.std.specs.Prelude.{◌==◌}
use Rattle.sudoers_text.specs.Fault.{lf_count}
use Rattle.laws_dialect.specs.Slashed.{IsSlashed, nothing_left, same_byte, equals_with_backslash, equals_with_blank_and_backslash, colon_to_blank}

-- how many line feeds there are with these and those of the bytes
abbrev lf_count_with : ℕ → List ℕ → ℕ
lf_count_with count bytes = fold (λ (n : ℕ) (b : ℕ). n + cond (b == 10) 1 0) count bytes

with_other_count : (count other : ℕ) (bytes : List ℕ) → count ≡ other → lf_count_with count bytes ≡ lf_count_with other bytes
with_other_count count other bytes same = ap (λ (n : ℕ). lf_count_with n bytes) same

slashed_bytes_add_as_many : (count : ℕ) {bytes others : List ℕ} → IsSlashed bytes others → lf_count_with count others ≡ lf_count_with count bytes
slashed_bytes_add_as_many count nothing_left = refl
slashed_bytes_add_as_many count (same_byte {b} is) = slashed_bytes_add_as_many (count + cond (b == 10) 1 0) is
slashed_bytes_add_as_many count (equals_with_backslash {others} is) = with_other_count (count + 0 + 0) (count + 0) others (omega arith) ∙ slashed_bytes_add_as_many (count + 0) is
slashed_bytes_add_as_many count (equals_with_blank_and_backslash {others} is) = with_other_count (count + 0 + 0 + 0) (count + 0) others (omega arith) ∙ slashed_bytes_add_as_many (count + 0) is
slashed_bytes_add_as_many count (colon_to_blank is) = slashed_bytes_add_as_many (count + 0) is

pub slashed_bytes_have_as_many_line_feeds : (bytes others : List ℕ) → IsSlashed bytes others → lf_count others ≡ lf_count bytes
slashed_bytes_have_as_many_line_feeds bytes others is = slashed_bytes_add_as_many 0 is
