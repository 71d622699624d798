-- What words stand for.
use Rattle.std.proofs.Common.{◌≡◌, ℕ, zero, suc, ◌+◌, ◌-◌, ◌<◌, ◌≤◌, Bool, true, ◌||◌, List, [], ◌∷◌, ◌++◌, length, take, drop, get_or, refl, sym, ap, ◌∙◌, append-nil, append_assoc, arith, false}
use Rattle.std.specs.Prelude.{◌==◌}
use Rattle.std.proofs.lemmas.List.{drop-drop, drop_all, drop_more, take_all, take_rest}
use Rattle.sudoers_text.proofs.Units.{untrue_disjunction_has_false_parts}
use Rattle.sudoers_text.specs.Value.{escape_tail_size, unescaped_bytes_of_escape, value_of_remaining_bytes, value_of_word}

-- behind what is passed over, the rest is read as if it stood alone
value_past_bytes_is_value_of_rest : (k : ℕ) (quoted : Bool) (bytes : List ℕ) → value_of_remaining_bytes k quoted bytes ≡ value_of_remaining_bytes 0 quoted (drop k bytes)
value_past_bytes_is_value_of_rest zero quoted bytes = refl
value_past_bytes_is_value_of_rest (suc k) quoted [] = refl
value_past_bytes_is_value_of_rest (suc k) quoted (b ∷ bytes) = value_past_bytes_is_value_of_rest k quoted bytes

-- a backslash at a place, what it takes, and what is left behind that
value_at_backslash_is_escape_and_rest : (quoted : Bool) (word : List ℕ) (at : ℕ) → at < length word → get_or word at 0 ≡ 92 → value_of_remaining_bytes 0 quoted (drop at word) ≡ unescaped_bytes_of_escape quoted (drop (at + 1) word) ++ value_of_remaining_bytes 0 quoted (drop (at + 1 + escape_tail_size (drop (at + 1) word)) word)
value_at_backslash_is_escape_and_rest quoted word at inside is =
    let rest : List ℕ = drop (at + 1) word in
    ap (value_of_remaining_bytes 0 quoted) (drop_more word at 0 inside ∙ ap (λ (b : ℕ). b ∷ rest) is)
    ∙ ap (λ (ys : List ℕ). unescaped_bytes_of_escape quoted rest ++ ys)
    (value_past_bytes_is_value_of_rest (escape_tail_size rest) quoted rest ∙ ap (value_of_remaining_bytes 0 quoted) (drop-drop (escape_tail_size rest) (at + 1) word))

-- Once what an escape stands for is appended, the whole stands for the same.
pub value_with_escape_appended_is_same : (quoted : Bool) (word out more : List ℕ) (at taken : ℕ) → at < length word → get_or word at 0 ≡ 92 → more ≡ out ++ unescaped_bytes_of_escape quoted (take (length word - (at + 1)) (drop (at + 1) word)) → taken ≡ escape_tail_size (take (length word - (at + 1)) (drop (at + 1) word)) → more ++ value_of_remaining_bytes 0 quoted (drop (at + 1 + taken) word) ≡ out ++ value_of_remaining_bytes 0 quoted (drop at word)
value_with_escape_appended_is_same quoted word out more at taken inside is appended size =
    let rest : List ℕ = drop (at + 1) word in
    let whole = take_rest word (at + 1) in
    let front : more ≡ out ++ unescaped_bytes_of_escape quoted rest = appended ∙ ap (λ (bytes : List ℕ). out ++ unescaped_bytes_of_escape quoted bytes) whole in
    let same : taken ≡ escape_tail_size rest = size ∙ ap escape_tail_size whole in
    rw (front, same) (append_assoc out (unescaped_bytes_of_escape quoted rest) _ ∙ sym (ap (λ (ys : List ℕ). out ++ ys) (value_at_backslash_is_escape_and_rest quoted word at inside is)))

-- Bytes before the first quote and the first backslash stand for themselves.
pub unquoted_bytes_are_their_own_value : (quoted : Bool) (word : List ℕ) (at : ℕ) → at ≤ length word → ((k : ℕ) → k < at → (get_or word k 0 == 34 || get_or word k 0 == 92) ≡ true → ⊥) → take at word ++ value_of_remaining_bytes 0 quoted (drop at word) ≡ value_of_remaining_bytes 0 quoted word
unquoted_bytes_are_their_own_value quoted word zero within none = refl
unquoted_bytes_are_their_own_value quoted [] (suc at) within none = absurd (omega arith)
unquoted_bytes_are_their_own_value quoted (b ∷ word) (suc at) within none =
    let here = untrue_disjunction_has_false_parts (b == 34) (b == 92) (none 0 (omega arith)) in
    let later = unquoted_bytes_are_their_own_value quoted word at (omega arith) (λ k below. none (suc k) (omega arith)) in
    rw (here.0, here.1) (ap (λ (t : List ℕ). b ∷ t) later)

-- A word that is its own plain front is its own value.
pub plain_word_is_its_own_value : (word : List ℕ) (len : ℕ) → len ≡ length word → take len word ++ value_of_remaining_bytes 0 false (drop len word) ≡ value_of_remaining_bytes 0 false word → value_of_word word ≡ word
unfolding value_of_word
plain_word_is_its_own_value word len whole plain =
    let front : take len word ≡ word = take_all len word (omega arith) in
    let rest : drop len word ≡ [] = drop_all len word (omega arith) in
    sym plain ∙ ap (λ (bytes : List ℕ). take len word ++ value_of_remaining_bytes 0 false bytes) rest ∙ append-nil (take len word) ∙ front
