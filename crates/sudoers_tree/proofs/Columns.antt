-- The column after bytes, by their last LF.
use Rattle.sudoers_tree.proofs.Common.{Bool, List, NoneAfter, Nowhere, Passes, [], ap, arith, byte_count_after_last_lf, false, if◌then◌else◌, is_byte, length, refl, suc, sym, true, zero, ℕ, ◌+◌, ◌-◌, ◌==◌, ◌∙◌, ◌∷◌}
use Rattle.sudoers_tree.proofs.Common.{◌≡◌}

pub bytes_without_lf_count_to_their_end : (n : ℕ) (bytes : List ℕ) → Nowhere (Passes (is_byte 10) bytes) 0 (length bytes) → byte_count_after_last_lf n bytes ≡ n + length bytes
bytes_without_lf_count_to_their_end n [] none = omega arith
bytes_without_lf_count_to_their_end n (b ∷ bytes) none = by (b == 10) refl (bytes_without_lf_count_to_their_end (n + 1) bytes (λ k low high p. none (suc k) (omega arith) (omega (arith, high)) p))
  where
    by : (t : Bool) → (b == 10) ≡ t → byte_count_after_last_lf (n + 1) bytes ≡ n + 1 + length bytes → byte_count_after_last_lf n (b ∷ bytes) ≡ n + length (b ∷ bytes)
    by true e later = absurd (none 0 (omega arith) (omega arith) e)
    by false e later = ap (λ t. if t then byte_count_after_last_lf 0 bytes else byte_count_after_last_lf (n + 1) bytes) e ∙ omega (arith, later)

pub bytes_after_last_lf_are_counted : (n : ℕ) (bytes : List ℕ) (at : ℕ) → NoneAfter (Passes (is_byte 10) bytes) 0 (length bytes) at → Passes (is_byte 10) bytes at
    → length bytes - at ≡ byte_count_after_last_lf n bytes + 1
bytes_after_last_lf_are_counted n [] at none lf = absurd (omega (arith, none.high))
bytes_after_last_lf_are_counted n (b ∷ bytes) zero none lf =
    let count : byte_count_after_last_lf n (b ∷ bytes) ≡ 0 + length bytes =
    ap (λ t. if t then byte_count_after_last_lf 0 bytes else byte_count_after_last_lf (n + 1) bytes) lf
    ∙ bytes_without_lf_count_to_their_end 0 bytes (λ k low high p. none.after (suc k) (omega arith) (omega (arith, high)) p) in
    omega (arith, count)
bytes_after_last_lf_are_counted n (b ∷ bytes) (suc at) none lf = by (b == 10) refl (bytes_after_last_lf_are_counted 0 bytes at later lf) (bytes_after_last_lf_are_counted (n + 1) bytes at later lf)
  where
    later : NoneAfter (Passes (is_byte 10) bytes) 0 (length bytes) at
    later = record {
      low = omega arith;
      high = omega (arith, none.high);
      after = λ k low high p. none.after (suc k) (omega (arith, low)) (omega (arith, high)) p;
    }

    by : (t : Bool) → (b == 10) ≡ t → length bytes - at ≡ byte_count_after_last_lf 0 bytes + 1 → length bytes - at ≡ byte_count_after_last_lf (n + 1) bytes + 1
        → length (b ∷ bytes) - suc at ≡ byte_count_after_last_lf n (b ∷ bytes) + 1
    by true e again on = omega (arith, again) ∙ ap (λ t. (if t then byte_count_after_last_lf 0 bytes else byte_count_after_last_lf (n + 1) bytes) + 1) (sym e)
    by false e again on = omega (arith, on) ∙ ap (λ t. (if t then byte_count_after_last_lf 0 bytes else byte_count_after_last_lf (n + 1) bytes) + 1) (sym e)
