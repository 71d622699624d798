-- Names in a set.
use Rattle.std.proofs.Common.{◌≡◌, ℕ, Bool, true, false, ◌||◌, List, [], ◌∷◌, ◌++◌, map, refl, ap, ◌∙◌, bytes_eq, if◌then◌else◌}
use Rattle.std.specs.List.{list_any}
use Rattle.std.proofs.lemmas.List.{map-append}

pub any_by_key_is_any_of_keys : {V K : Type 0} (key : V → K) (test : K → Bool) (vs : List V) → list_any (λ v. test (key v)) vs ≡ list_any test (map key vs)
any_by_key_is_any_of_keys key test [] = refl
any_by_key_is_any_of_keys key test (v ∷ vs) = ap (λ b. test (key v) || b) (any_by_key_is_any_of_keys key test vs)

mapped_push_unless_is_push_unless : {V : Type 0} (items : V → List ℕ) (vs : List V) (x : V) (b : Bool)
    → map items (if b then vs else vs ++ x ∷ []) ≡ (if b then map items vs else map items vs ++ items x ∷ [])
mapped_push_unless_is_push_unless items vs x true = refl
mapped_push_unless_is_push_unless items vs x false = map-append items vs (x ∷ [])

-- what a set has to which a name was added
pub keys_after_adding_are_keys_with_name : {V : Type 0} (items : V → List ℕ) (vs : List V) (x : V)
    → map items (if list_any (λ v. bytes_eq (items x) (items v)) vs then vs else vs ++ x ∷ [])
    ≡ (if list_any (bytes_eq (items x)) (map items vs) then map items vs else map items vs ++ items x ∷ [])
keys_after_adding_are_keys_with_name items vs x =
    mapped_push_unless_is_push_unless items vs x (list_any (λ v. bytes_eq (items x) (items v)) vs)
    ∙ ap (λ b. if b then map items vs else map items vs ++ items x ∷ []) (any_by_key_is_any_of_keys items (bytes_eq (items x)) vs)
