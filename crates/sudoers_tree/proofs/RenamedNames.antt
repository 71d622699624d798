-- A set of names beside places, of which one name is another.
use Rattle.sudoers_tree.proofs.Common.{Bool, IsTrue, List, None, Place, Some, [], ap, ap₂, arith, bytes_eq, cond, drop, drop_at, entries_with_one_renamed, false, if◌then◌else◌, insert, length, list_any, map, not}
use Rattle.sudoers_tree.proofs.Common.{place_of_named_entry, position_or_len, refl, remove, slice_get, suc, sym, take, take_at, true, true≢false, zero, zip, ℕ, ◌++◌, ◌+◌, ◌<◌, ◌||◌, ◌∙◌, ◌∷◌, ◌≡◌, ◌≤◌}
use Rattle.std.proofs.Common.{length-take-le}
use Rattle.std.specs.Option.{option_map_or}
use Rattle.std.proofs.lemmas.List.Edits.{length-remove}
use Rattle.indexmap.specs.IndexSet.{insert_key, move_index}
use Rattle.sudoers_tree.proofs.NameLists.{count_is, is_absent}

-- ---- a key in the place of another

-- the keys, of which the one with the number n is another
abbrev list_with_item_replaced : {K : Type 0} → List K → ℕ → K → List K
list_with_item_replaced ks n x = take n ks ++ x ∷ drop (suc n) ks

removing_item_keeps_no_item_passing : {K : Type 0} (t : K → Bool) (ks : List K) (n : ℕ) → list_any t ks ≡ false → list_any t (remove ks n) ≡ false
removing_item_keeps_no_item_passing t [] zero none = refl
removing_item_keeps_no_item_passing t [] (suc n) none = refl
removing_item_keeps_no_item_passing t (k ∷ ks) n none = by (t k) refl none (λ m. removing_item_keeps_no_item_passing t ks m) n
  where
    by : (b : Bool) → t k ≡ b → (b || list_any t ks) ≡ false
        → ((m : ℕ) → list_any t ks ≡ false → list_any t (remove ks m) ≡ false) → (n : ℕ) → list_any t (remove (k ∷ ks) n) ≡ false
    by true e none left n = absurd (cc)
    by false e none left zero = none
    by false e none left (suc n) = ap (λ b. b || list_any t (remove ks n)) e ∙ left n none

position_with_none_passing_is_length : {K : Type 0} (t : K → Bool) (ks : List K) → list_any t ks ≡ false → position_or_len t ks ≡ length ks
position_with_none_passing_is_length t [] none = refl
position_with_none_passing_is_length t (k ∷ ks) none = by (t k) refl none (position_with_none_passing_is_length t ks)
  where
    by : (b : Bool) → t k ≡ b → (b || list_any t ks) ≡ false → (list_any t ks ≡ false → position_or_len t ks ≡ length ks)
        → position_or_len t (k ∷ ks) ≡ length (k ∷ ks)
    by true e none later = absurd (cc)
    by false e none later =
        ap (λ b. cond (not b) (1 + position_or_len t ks) 0) e ∙ ap (λ n. 1 + n) (later none) ∙ omega arith

appended_item_has_length_as_number : {K : Type 0} (ks : List K) (x : K) → slice_get (ks ++ x ∷ []) (length ks) ≡ Some x
appended_item_has_length_as_number [] x = refl
appended_item_has_length_as_number (k ∷ ks) x = appended_item_has_length_as_number ks x

removing_last_item_leaves_front : {K : Type 0} (ks : List K) (x : K) → remove (ks ++ x ∷ []) (length ks) ≡ ks
removing_last_item_leaves_front [] x = refl
removing_last_item_leaves_front (k ∷ ks) x = ap (λ xs. k ∷ xs) (removing_last_item_leaves_front ks x)

-- the last key is moved
moving_last_item_is_insert : {K : Type 0} (ks : List K) (x : K) (n : ℕ) → move_index (ks ++ x ∷ []) (length ks) n ≡ insert ks n x
moving_last_item_is_insert ks x n =
    ap (λ o. option_map_or (λ y. insert (remove (ks ++ x ∷ []) (length ks)) n y) o (ks ++ x ∷ [])) (appended_item_has_length_as_number ks x)
    ∙ ap (λ xs. insert xs n x) (removing_last_item_leaves_front ks x)

inserting_at_removed_item_is_replacing : {K : Type 0} (ks : List K) (n : ℕ) (x : K) → n < length ks → insert (remove ks n) n x ≡ list_with_item_replaced ks n x
inserting_at_removed_item_is_replacing ks n x less =
    let long : length (take n ks) ≡ n = length-take-le n ks (omega (arith, less)) in
    ap₂ (λ xs ys. xs ++ x ∷ ys) (take_at (take n ks) (drop (suc n) ks) n long) (drop_at (take n ks) (drop (suc n) ks) n long)

replacing_item_keeps_length : {K : Type 0} (ks : List K) (n : ℕ) (x : K) → n < length ks → length (list_with_item_replaced ks n x) ≡ length ks
replacing_item_keeps_length [] n x less = absurd (omega (arith, less))
replacing_item_keeps_length (k ∷ ks) zero x less = refl
replacing_item_keeps_length (k ∷ ks) (suc n) x less = ap suc (replacing_item_keeps_length ks n x (omega (arith, less)))

replacing_key_renames_one_entry : {K : Type 0} (items : K → List ℕ) (ks : List K) (ps : List Place) (n : ℕ) (x : K) → n < length ks
    → zip (map items (list_with_item_replaced ks n x)) ps ≡ entries_with_one_renamed n (items x) (zip (map items ks) ps)
replacing_key_renames_one_entry items [] ps n x less = absurd (omega (arith, less))
replacing_key_renames_one_entry items (k ∷ ks) [] zero x less = refl
replacing_key_renames_one_entry items (k ∷ ks) [] (suc n) x less = refl
replacing_key_renames_one_entry items (k ∷ ks) (p ∷ ps) zero x less = refl
replacing_key_renames_one_entry items (k ∷ ks) (p ∷ ps) (suc n) x less =
    ap (λ es. (items k, p) ∷ es) (replacing_key_renames_one_entry items ks ps n x (omega (arith, less)))

-- ---- sets of names beside places

module _ {K : Type 0} (items : K → List ℕ) (keys : List K) (places : List Place) (now : List (List ℕ × Place))
    (same : length keys ≡ length places) (view : zip (map items keys) places ≡ now)
    (n : ℕ) (less : n < length now) (x : K) (fresh : place_of_named_entry (items x) now ≡ None) (rest : List K) (is : rest ≡ remove keys n) where
  abbrev is_name : K → Bool
  is_name k = bytes_eq (items x) (items k)

  within : n < length keys
  within = omega (arith, less, same, count_is items keys places now same view)

  pub still_within : n ≤ length rest
  still_within = omega (arith, ap length is, length-remove keys n within, within)

  absent : list_any is_name rest ≡ false
  absent = ap (list_any is_name) is ∙ removing_item_keeps_no_item_passing is_name keys n (is_absent items keys places now same view (items x) fresh)

  pub not_there : IsTrue (list_any is_name rest) → ⊥
  not_there there = true≢false (sym there ∙ absent)

  swapped_is : (last : List K) → last ≡ move_index (insert_key (λ a b. bytes_eq (items a) (items b)) rest x) (position_or_len is_name rest) n
      → last ≡ list_with_item_replaced keys n x
  swapped_is last put =
      put
      ∙ ap₂ (λ xs i. move_index xs i n) (ap (λ b. if b then rest else rest ++ x ∷ []) absent) (position_with_none_passing_is_length is_name rest absent)
      ∙ moving_last_item_is_insert rest x n
      ∙ ap (λ xs. insert xs n x) is
      ∙ inserting_at_removed_item_is_replacing keys n x within

  pub renamed_count : (last : List K) → last ≡ move_index (insert_key (λ a b. bytes_eq (items a) (items b)) rest x) (position_or_len is_name rest) n
      → length last ≡ length places
  renamed_count last put = ap length (swapped_is last put) ∙ replacing_item_keeps_length keys n x within ∙ same

  pub renamed_view : (last : List K) → last ≡ move_index (insert_key (λ a b. bytes_eq (items a) (items b)) rest x) (position_or_len is_name rest) n
      → zip (map items last) places ≡ entries_with_one_renamed n (items x) now
  renamed_view last put =
      ap (λ ks. zip (map items ks) places) (swapped_is last put)
      ∙ replacing_key_renames_one_entry items keys places n x within
      ∙ ap (entries_with_one_renamed n (items x)) view
