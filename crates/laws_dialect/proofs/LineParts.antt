-- A line from a place on, in parts.
use Rattle.std.proofs.Common.{◌≡◌, ℕ, ◌-◌, ◌≤◌, List, ◌++◌, take, drop, sym, ap, ◌∙◌, arith}
use Rattle.std.proofs.lemmas.List.{take-append-drop, drop-drop}

-- It is a gap, a token and the rest.
pub rest_of_line_is_gap_token_and_rest : (line : List ℕ) (at start stop : ℕ) → at ≤ start → start ≤ stop
    → drop at line ≡ take (start - at) (drop at line) ++ (take (stop - start) (drop start line) ++ drop stop line)
rest_of_line_is_gap_token_and_rest line at start stop below before =
    let first : drop (start - at) (drop at line) ≡ drop start line = drop-drop (start - at) at line ∙ ap (λ (n : ℕ). drop n line) (omega arith) in
    let second : drop (stop - start) (drop start line) ≡ drop stop line = drop-drop (stop - start) start line ∙ ap (λ (n : ℕ). drop n line) (omega arith) in
    sym (take-append-drop (start - at) (drop at line))
    ∙ ap (λ (bytes : List ℕ). take (start - at) (drop at line) ++ bytes)
    (first ∙ sym (take-append-drop (stop - start) (drop start line)) ∙ ap (λ (bytes : List ℕ). take (stop - start) (drop start line) ++ bytes) second)
