-- The patterns that texts are.
use Rattle.std.proofs.Common.{◌≡◌, ◌≢◌, ℕ, zero, suc, ◌+◌, ◌-◌, ◌<◌, ◌≤◌, List, [], ◌∷◌, ◌++◌, length, take, drop, get_or, refl, sym, ap, ◌∙◌, append_assoc, arith, Some, inl, inr}
use Rattle.std.specs.Prelude.{slice_get}
use Rattle.std.proofs.lemmas.Bool.Decides.{eqb_tells}
use Rattle.std.proofs.lemmas.List.{drop-drop, drop_more, take_rest}
use Rattle.sudoers_grammar.specs.declared.pattern.PatternSpelling.{PatternSpelling}
use Rattle.sudoers_grammar.specs.Pattern.{pattern_of_byte, pattern_escape_tail_size, pattern_of_escape, pattern_of_remaining_bytes}

-- behind what is passed over, the rest is read as if it stood alone
pattern_after_skip_is_pattern_of_rest : (k : ℕ) (s : PatternSpelling) (text : List ℕ) → pattern_of_remaining_bytes s k text ≡ pattern_of_remaining_bytes s 0 (drop k text)
pattern_after_skip_is_pattern_of_rest zero s text = refl
pattern_after_skip_is_pattern_of_rest (suc k) s [] = refl
pattern_after_skip_is_pattern_of_rest (suc k) s (b ∷ text) = pattern_after_skip_is_pattern_of_rest k s text

-- a backslash at a place, what belongs to it, and what is left behind that
pattern_at_backslash_is_escape_and_rest : (s : PatternSpelling) (text : List ℕ) (at : ℕ) → at < length text → get_or text at 0 ≡ 92 → pattern_of_remaining_bytes s 0 (drop at text) ≡ pattern_of_escape s (drop (at + 1) text) ++ pattern_of_remaining_bytes s 0 (drop (at + 1 + pattern_escape_tail_size (drop (at + 1) text)) text)
pattern_at_backslash_is_escape_and_rest s text at inside is =
    let rest : List ℕ = drop (at + 1) text in
    ap (pattern_of_remaining_bytes s 0) (drop_more text at 0 inside ∙ ap (λ (b : ℕ). b ∷ rest) is)
    ∙ ap (λ (ys : List ℕ). pattern_of_escape s rest ++ ys)
    (pattern_after_skip_is_pattern_of_rest (pattern_escape_tail_size rest) s rest ∙ ap (pattern_of_remaining_bytes s 0) (drop-drop (pattern_escape_tail_size rest) (at + 1) text))

-- Once the pattern of an escape is appended, the whole pattern is the same.
pub pattern_with_escape_appended_is_same : (s : PatternSpelling) (text out more : List ℕ) (at size : ℕ) → at < length text → get_or text at 0 ≡ 92 → more ≡ out ++ pattern_of_escape s (take (length text - (at + 1)) (drop (at + 1) text)) → size ≡ pattern_escape_tail_size (take (length text - (at + 1)) (drop (at + 1) text)) → more ++ pattern_of_remaining_bytes s 0 (drop (at + 1 + size) text) ≡ out ++ pattern_of_remaining_bytes s 0 (drop at text)
pattern_with_escape_appended_is_same s text out more at size inside is appended same_size =
    let rest : List ℕ = drop (at + 1) text in
    let whole = take_rest text (at + 1) in
    let front : more ≡ out ++ pattern_of_escape s rest = appended ∙ ap (λ (bytes : List ℕ). out ++ pattern_of_escape s bytes) whole in
    let same : size ≡ pattern_escape_tail_size rest = same_size ∙ ap pattern_escape_tail_size whole in
    rw (front, same) (append_assoc out (pattern_of_escape s rest) _ ∙ sym (ap (λ (ys : List ℕ). out ++ ys) (pattern_at_backslash_is_escape_and_rest s text at inside is)))

-- Bytes before the first backslash are their own pattern, where each byte is.
pub bytes_before_backslash_are_their_pattern : (s : PatternSpelling) → ((b : ℕ) → pattern_of_byte s b ≡ b ∷ []) → (text : List ℕ) (at : ℕ) → at ≤ length text → ((k : ℕ) → k < at → slice_get text k ≢ Some 92) → take at text ++ pattern_of_remaining_bytes s 0 (drop at text) ≡ pattern_of_remaining_bytes s 0 text
bytes_before_backslash_are_their_pattern s own text zero within none = refl
bytes_before_backslash_are_their_pattern s own [] (suc at) within none = absurd (omega arith)
bytes_before_backslash_are_their_pattern s own (b ∷ text) (suc at) within none =
    let later = bytes_before_backslash_are_their_pattern s own text at (omega arith) (λ k below. none (suc k) (omega arith)) in
    elim (eqb_tells b 92) [
      | inl w ↦ absurd (none 0 (omega arith) (ap (λ (c : ℕ). Some c) w.1))
      | inr w ↦ rw (w.0, own b) (ap (λ (t : List ℕ). b ∷ t) later)
    ]
