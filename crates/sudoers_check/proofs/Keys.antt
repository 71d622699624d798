-- Keys in a set.
use Rattle.sudoers_check.proofs.Common.{Bool, List, [], ap, bytes_eq, bytes_eq-Decides, false, if◌then◌else◌, list_any, map, refl, sym, true, ℕ, ◌++◌, ◌||◌, ◌∙◌, ◌∷◌, ◌≡◌}

pub key_test_is_over_mapped_keys : {V : Type 0} (items : V → List ℕ) (k : List ℕ) (vs : List V) → list_any (λ v. bytes_eq k (items v)) vs ≡ list_any (bytes_eq k) (map items vs)
key_test_is_over_mapped_keys items k [] = refl
key_test_is_over_mapped_keys items k (v ∷ vs) = ap (λ b. bytes_eq k (items v) || b) (key_test_is_over_mapped_keys items k vs)

disjunction_is_associative : (a b c : Bool) → ((a || b) || c) ≡ (a || (b || c))
disjunction_is_associative true b c = refl
disjunction_is_associative false b c = refl

disjunction_with_false_is_other : (a : Bool) → (a || false) ≡ a
disjunction_with_false_is_other true = refl
disjunction_with_false_is_other false = refl

pushed_set_has_old_or_pushed_key : {V : Type 0} (items : V → List ℕ) (k : List ℕ) (vs : List V) (x : V) → list_any (bytes_eq k) (map items (vs ++ x ∷ [])) ≡ list_any (bytes_eq k) (map items vs) || bytes_eq k (items x)
pushed_set_has_old_or_pushed_key items k [] x = disjunction_with_false_is_other (bytes_eq k (items x))
pushed_set_has_old_or_pushed_key items k (v ∷ vs) x = ap (λ b. bytes_eq k (items v) || b) (pushed_set_has_old_or_pushed_key items k vs x) ∙ sym (disjunction_is_associative (bytes_eq k (items v)) (list_any (bytes_eq k) (map items vs)) (bytes_eq k (items x)))

-- a key that is there makes no difference
known_key_changes_no_key_test : (k x : List ℕ) (keys : List (List ℕ)) (b : Bool) → bytes_eq k x ≡ b → list_any (bytes_eq x) keys ≡ true → list_any (bytes_eq k) keys ≡ list_any (bytes_eq k) keys || b
known_key_changes_no_key_test k x keys true e has =
    let same : k ≡ x = (bytes_eq-Decides k x).0 e in
    let t : list_any (bytes_eq k) keys ≡ true = ap (λ n. list_any (bytes_eq n) keys) same ∙ has in
    t ∙ sym (ap (λ b. b || true) t)
known_key_changes_no_key_test k x keys false e has = sym (disjunction_with_false_is_other (list_any (bytes_eq k) keys))

-- what a set has to which a key was added
pub extended_set_has_old_or_added_key : {V : Type 0} (items : V → List ℕ) (k : List ℕ) (vs : List V) (x : V)
    → list_any (bytes_eq k) (map items (if list_any (λ v. bytes_eq (items x) (items v)) vs then vs else vs ++ x ∷ [])) ≡ list_any (bytes_eq k) (map items vs) || bytes_eq k (items x)
extended_set_has_old_or_added_key items k vs x = by (list_any (λ v. bytes_eq (items x) (items v)) vs) refl
  where
    by : (b : Bool) → list_any (λ v. bytes_eq (items x) (items v)) vs ≡ b
        → list_any (bytes_eq k) (map items (if b then vs else vs ++ x ∷ [])) ≡ list_any (bytes_eq k) (map items vs) || bytes_eq k (items x)
    by true e = known_key_changes_no_key_test k (items x) (map items vs) (bytes_eq k (items x)) refl (sym (key_test_is_over_mapped_keys items (items x) vs) ∙ e)
    by false e = pushed_set_has_old_or_pushed_key items k vs x
