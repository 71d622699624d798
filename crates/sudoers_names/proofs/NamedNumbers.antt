-- Numbers under names, and entries of a map.
use Rattle.std.proofs.Common.{◌≡◌, ◌⊎◌, ℕ, Bool, true, false, cond, List, [], ◌∷◌, ◌++◌, Option, Some, None, map, inl, inr, refl, sym, ap, ◌∙◌, bytes_eq, if◌then◌else◌}
use Rattle.std.specs.Option.{option_map_or}
use Rattle.std.specs.Map.{lookup, set_value}
use Rattle.std.proofs.lemmas.Slice.Eq.{bytes_eq-Decides}
use Rattle.indexmap.specs.IndexMap.{insert_entry}
use Rattle.sudoers_names.specs.Numbers.{numbers_of_name}

true_or_false : (b : Bool) → (b ≡ true) ⊎ (b ≡ false)
true_or_false true = inl refl
true_or_false false = inr refl

-- the numbers of a name, and one more behind them, if this is the name
abbrev pub numbers_with_added : List ℕ → ℕ → List ℕ → List ℕ → List ℕ
numbers_with_added name number other numbers = if bytes_eq other name then numbers ++ number ∷ [] else numbers

-- what is found under the first name, where that is the name
first_is_name : (b : Bool) (number : ℕ) (now was behind : List ℕ) → now ≡ was ++ number ∷ []
    → (if b then now else behind) ≡ (if b then (if b then was else behind) ++ number ∷ [] else (if b then was else behind))
first_is_name true number now was behind e = e
first_is_name false number now was behind e = refl

-- what is found under the first name, where that is another name
first_is_other : (found named : Bool) (number : ℕ) (first now was : List ℕ) → (found ≡ true → named ≡ true → ⊥) → now ≡ (if named then was ++ number ∷ [] else was)
    → (if found then first else now) ≡ (if named then (if found then first else was) ++ number ∷ [] else (if found then first else was))
first_is_other true true number first now was apart e = absurd (apart refl refl)
first_is_other true false number first now was apart e = refl
first_is_other false named number first now was apart e = e

names_are_apart : (name key other : List ℕ) → bytes_eq name key ≡ false → bytes_eq other key ≡ true → bytes_eq other name ≡ true → ⊥
names_are_apart name key other differs found named =
    let alike : name ≡ key = sym ((bytes_eq-Decides other name).0 named) ∙ (bytes_eq-Decides other key).0 found in
    let yes_it_is : bytes_eq name key ≡ true = (bytes_eq-Decides name key).1 alike in
    cc

module _ {K X : Type 0} (key : K → List ℕ) (items : X → List ℕ) where
  -- names with their numbers
  abbrev pub named_numbers : List (K × X) → List (List ℕ × List ℕ)
  named_numbers es = map (λ e. (key e.0, items e.1)) es

  pub numbers_are_looked_up : (name : List ℕ) (es : List (K × X)) → numbers_of_name name (named_numbers es) ≡ option_map_or items (lookup (λ k. bytes_eq name (key k)) es) []
  numbers_are_looked_up name [] = refl
  numbers_are_looked_up name (e ∷ es) =
      elim (bytes_eq name (key e.0))
      as (λ t. (if t then items e.1 else numbers_of_name name (named_numbers es)) ≡ option_map_or items (cond t (Some e.1) (lookup (λ k. bytes_eq name (key k)) es)) []) [
        | true ↦ refl
        | false ↦ numbers_are_looked_up name es
      ]

  -- the numbers of the first name are written
  pub numbers_after_write : (name : List ℕ) (number : ℕ) (old new : X) → items new ≡ items old ++ number ∷ [] → (es : List (K × X)) → lookup (λ k. bytes_eq name (key k)) es ≡ Some old → (other : List ℕ)
      → numbers_of_name other (named_numbers (set_value (λ k. bytes_eq name (key k)) es new)) ≡ numbers_with_added name number other (numbers_of_name other (named_numbers es))
  numbers_after_write name number old new is [] found other = absurd (let none : Option X = None in let impossible : none ≡ Some old = found in cc)
  numbers_after_write name number old new is (e ∷ es) found other =
      let test : K → Bool = λ k. bytes_eq name (key k) in
      let behind : List ℕ = numbers_of_name other (named_numbers es) in
      let goal : List (K × X) → Type 0 = λ set. numbers_of_name other (named_numbers set) ≡ numbers_with_added name number other (numbers_of_name other (named_numbers (e ∷ es))) in
      elim (true_or_false (bytes_eq name (key e.0))) as (λ _. goal (set_value test (e ∷ es) new)) [
        | inl same ↦
            let value : Some e.1 ≡ Some old = ap (λ t. cond t (Some e.1) (lookup test es)) (sym same) ∙ found in
            let old_is : e.1 ≡ old = cc in
            let name_is : name ≡ key e.0 = (bytes_eq-Decides name (key e.0)).0 same in
            let new_is : items new ≡ items e.1 ++ number ∷ [] = is ∙ ap (λ x. items x ++ number ∷ []) (sym old_is) in
            ap (λ t. numbers_of_name other (named_numbers (cond t ((e.0, new) ∷ es) (e ∷ set_value test es new)))) same
            ∙ first_is_name (bytes_eq other (key e.0)) number (items new) (items e.1) behind new_is
            ∙ ap (λ n. numbers_with_added n number other (numbers_of_name other (named_numbers (e ∷ es)))) (sym name_is)
        | inr differs ↦
            let found_behind : lookup test es ≡ Some old = ap (λ t. cond t (Some e.1) (lookup test es)) (sym differs) ∙ found in
            ap (λ t. numbers_of_name other (named_numbers (cond t ((e.0, new) ∷ es) (e ∷ set_value test es new)))) differs
            ∙ first_is_other (bytes_eq other (key e.0)) (bytes_eq other name) number (items e.1) (numbers_of_name other (named_numbers (set_value test es new))) behind
            (names_are_apart name (key e.0) other differs) (numbers_after_write name number old new is es found_behind other)
      ]

  -- a new name comes with its number
  pub numbers_after_insert : (name : List ℕ) (number : ℕ) (k : K) (new : X) → key k ≡ name → items new ≡ number ∷ [] → (es : List (K × X)) → lookup (λ x. bytes_eq name (key x)) es ≡ None → (other : List ℕ)
      → numbers_of_name other (named_numbers (insert_entry (λ a b. bytes_eq (key a) (key b)) es k new)) ≡ numbers_with_added name number other (numbers_of_name other (named_numbers es))
  numbers_after_insert name number k new key_is is [] none other =
      ap (λ n. if bytes_eq other n then items new else []) key_is ∙ ap (λ ns. if bytes_eq other name then ns else []) is
  numbers_after_insert name number k new key_is is (e ∷ es) none other =
      let test : K → Bool = λ x. bytes_eq name (key x) in
      let eq : K → K → Bool = λ a b. bytes_eq (key a) (key b) in
      let behind : List ℕ = numbers_of_name other (named_numbers es) in
      let goal : Type 0 = numbers_of_name other (named_numbers (insert_entry eq (e ∷ es) k new)) ≡ numbers_with_added name number other (numbers_of_name other (named_numbers (e ∷ es))) in
      elim (true_or_false (bytes_eq name (key e.0))) as (λ _. goal) [
        | inl same ↦ absurd (let value : Some e.1 ≡ None = ap (λ t. cond t (Some e.1) (lookup test es)) (sym same) ∙ none in cc)
        | inr differs ↦
            let none_behind : lookup test es ≡ None = ap (λ t. cond t (Some e.1) (lookup test es)) (sym differs) ∙ none in
            let apart : bytes_eq (key k) (key e.0) ≡ false = ap (λ n. bytes_eq n (key e.0)) key_is ∙ differs in
            ap (λ t. numbers_of_name other (named_numbers (if t then (e.0, new) ∷ es else e ∷ insert_entry eq es k new))) apart
            ∙ first_is_other (bytes_eq other (key e.0)) (bytes_eq other name) number (items e.1) (numbers_of_name other (named_numbers (insert_entry eq es k new))) behind
            (names_are_apart name (key e.0) other differs) (numbers_after_insert name number k new key_is is es none_behind other)
      ]
