-- Names with their places, as a list of names beside a list of places.
use Rattle.sudoers_tree.proofs.Common.{AllByRecursion, Bool, IsDistinct, List, None, Option, Place, Some, [], ap, arith, bytes_eq, bytes_eq-Decides, false, get_or, if◌then◌else◌, is_equal_optional_name, is_some}
use Rattle.sudoers_tree.proofs.Common.{known_names_with_places, le-ltb, length, length-map, length-take-le, list_any, lt-ltb, ltb-false, ltb-true, map, map-append, min, names_of_entries, nat_lt}
use Rattle.sudoers_tree.proofs.Common.{number_of_named_entry, option_and_then, place_of_named_entry, position, position_or_len, refl, slice_get-map, subst, suc, sym, take, take-map, take_all, take_more, true, zero}
use Rattle.sudoers_tree.proofs.Common.{zip, ℕ, ◌++◌, ◌+◌, ◌<◌, ◌||◌, ◌∙◌, ◌∷◌, ◌≡◌, ◌≤◌}
use Rattle.std.specs.Prelude.{slice_get, option_map}

-- ---- lists beside lists

pub entries_zipped_have_count_of_places : (ks : List (List ℕ)) (ps : List Place) → length ks ≡ length ps → length ps ≡ length (zip ks ps)
entries_zipped_have_count_of_places [] [] same = refl
entries_zipped_have_count_of_places [] (p ∷ ps) same = absurd (omega (arith, same))
entries_zipped_have_count_of_places (k ∷ ks) [] same = absurd (omega (arith, same))
entries_zipped_have_count_of_places (k ∷ ks) (p ∷ ps) same = ap suc (entries_zipped_have_count_of_places ks ps (omega (arith, same)))

pub zipped_entries_have_smaller_count : (ks : List (List ℕ)) (ps : List Place) → length (zip ks ps) ≡ min (length ps) (length ks)
zipped_entries_have_smaller_count [] [] = refl
zipped_entries_have_smaller_count [] (p ∷ ps) = omega arith
zipped_entries_have_smaller_count (k ∷ ks) [] = omega arith
zipped_entries_have_smaller_count (k ∷ ks) (p ∷ ps) = omega (arith, zipped_entries_have_smaller_count ks ps)

pub names_of_zipped_entries_are_names : (ks : List (List ℕ)) (ps : List Place) → length ks ≡ length ps → names_of_entries (zip ks ps) ≡ ks
names_of_zipped_entries_are_names [] ps same = refl
names_of_zipped_entries_are_names (k ∷ ks) [] same = absurd (omega (arith, same))
names_of_zipped_entries_are_names (k ∷ ks) (p ∷ ps) same = ap (λ xs. k ∷ xs) (names_of_zipped_entries_are_names ks ps (omega (arith, same)))

-- one name more, with its place
pub zip_adds_name_with_its_place : (ks : List (List ℕ)) (ps : List Place) (k : List ℕ) (p : Place) → length ks ≡ length ps → zip (ks ++ k ∷ []) (ps ++ p ∷ []) ≡ zip ks ps ++ (k, p) ∷ []
zip_adds_name_with_its_place [] [] k p same = refl
zip_adds_name_with_its_place [] (q ∷ ps) k p same = absurd (omega (arith, same))
zip_adds_name_with_its_place (j ∷ ks) [] k p same = absurd (omega (arith, same))
zip_adds_name_with_its_place (j ∷ ks) (q ∷ ps) k p same = ap (λ xs. (j, q) ∷ xs) (zip_adds_name_with_its_place ks ps k p (omega (arith, same)))

-- one place more, for the next name
pub zip_adds_place_for_next_known_name : (ks : List (List ℕ)) (ps : List Place) (k : List ℕ) (p : Place) → slice_get ks (length ps) ≡ Some k → zip ks (ps ++ p ∷ []) ≡ zip ks ps ++ (k, p) ∷ []
zip_adds_place_for_next_known_name [] [] k p next = absurd (cc)
zip_adds_place_for_next_known_name [] (q ∷ ps) k p next = absurd (cc)
zip_adds_place_for_next_known_name (j ∷ ks) [] k p next =
    let same : j ≡ k = cc in
    by ks same
  where
    by : (ks : List (List ℕ)) → j ≡ k → zip (j ∷ ks) (p ∷ []) ≡ (k, p) ∷ []
    by [] same = ap (λ x. (x, p) ∷ []) same
    by (i ∷ ks) same = ap (λ x. (x, p) ∷ []) same
zip_adds_place_for_next_known_name (j ∷ ks) (q ∷ ps) k p next = ap (λ xs. (j, q) ∷ xs) (zip_adds_place_for_next_known_name ks ps k p next)

-- places that no name has do not count
pub places_past_names_do_not_count : (ks : List (List ℕ)) (ps : List Place) → zip ks (take (length ks) ps) ≡ zip ks ps
places_past_names_do_not_count [] [] = refl
places_past_names_do_not_count [] (p ∷ ps) = refl
places_past_names_do_not_count (k ∷ ks) [] = refl
places_past_names_do_not_count (k ∷ ks) (p ∷ ps) = ap (λ xs. (k, p) ∷ xs) (places_past_names_do_not_count ks ps)

-- nor do names that have no place
pub names_past_places_do_not_count : (ks : List (List ℕ)) (ps : List Place) → zip (take (length ps) ks) ps ≡ zip ks ps
names_past_places_do_not_count [] [] = refl
names_past_places_do_not_count [] (p ∷ ps) = refl
names_past_places_do_not_count (k ∷ ks) [] = refl
names_past_places_do_not_count (k ∷ ks) (p ∷ ps) = ap (λ xs. (k, p) ∷ xs) (names_past_places_do_not_count ks ps)

-- ---- where a name stands

pub position_is_at_first_or_in_rest : {X : Type 0} (t : X → Bool) (x : X) (xs : List X) → position t (x ∷ xs) ≡ (if t x then Some 0 else option_map (λ n. n + 1) (position t xs))
position_is_at_first_or_in_rest t x xs = by (t x) refl (nat_lt (position_or_len t xs) (length xs)) refl
  where
    by : (b : Bool) → t x ≡ b → (c : Bool) → nat_lt (position_or_len t xs) (length xs) ≡ c
        → position t (x ∷ xs) ≡ (if t x then Some 0 else option_map (λ n. n + 1) (position t xs))
    by true e c f = rw (e, lt-ltb 0 (suc (length xs)) (omega arith)) refl
    by false e true f =
        rw (e, lt-ltb (1 + position_or_len t xs) (suc (length xs)) (omega (arith, ltb-true (position_or_len t xs) (length xs) f)), f) (ap Some (omega arith))
    by false e false f =
        rw (e, le-ltb (1 + position_or_len t xs) (suc (length xs)) (omega (arith, ltb-false (position_or_len t xs) (length xs) f)), f) refl

pub position_of_key_is_number_of_entry : {K : Type 0} (items : K → List ℕ) (name : List ℕ) (ks : List K) (ps : List Place) → length (map items ks) ≡ length ps
    → position (λ k. bytes_eq name (items k)) ks ≡ number_of_named_entry name (zip (map items ks) ps)
position_of_key_is_number_of_entry items name [] ps same = refl
position_of_key_is_number_of_entry items name (k ∷ ks) [] same = absurd (omega (arith, same))
position_of_key_is_number_of_entry items name (k ∷ ks) (p ∷ ps) same =
    position_is_at_first_or_in_rest (λ k. bytes_eq name (items k)) k ks
    ∙ ap (λ o. if bytes_eq name (items k) then Some 0 else option_map (λ n. n + 1) o) (position_of_key_is_number_of_entry items name ks ps (omega (arith, same)))

-- the place of the first entry with the name
pub place_of_entry_is_at_its_number : (name : List ℕ) (es : List (List ℕ × Place)) → place_of_named_entry name es ≡ option_map (λ e. e.1) (option_and_then (slice_get es) (number_of_named_entry name es))
place_of_entry_is_at_its_number name [] = refl
place_of_entry_is_at_its_number name (e ∷ es) = by (bytes_eq name e.0) (number_of_named_entry name es) (place_of_entry_is_at_its_number name es)
  where
    by : (b : Bool) (o : Option ℕ) → place_of_named_entry name es ≡ option_map (λ e. e.1) (option_and_then (slice_get es) o)
        → (if b then Some e.1 else place_of_named_entry name es) ≡ option_map (λ e. e.1) (option_and_then (slice_get (e ∷ es)) (if b then Some 0 else option_map (λ n. n + 1) o))
    by true o later = refl
    by false None later = later
    by false (Some n) later = later ∙ ap (λ k. option_map (λ e. e.1) (slice_get (e ∷ es) k)) step
      where
        step : suc n ≡ n + 1
        step = omega arith

-- the places beside the names
pub place_of_zipped_entry_is_numbered_place : (ks : List (List ℕ)) (ps : List Place) (n : ℕ) → length ks ≡ length ps → option_map (λ e. e.1) (slice_get (zip ks ps) n) ≡ slice_get ps n
place_of_zipped_entry_is_numbered_place [] [] n same = refl
place_of_zipped_entry_is_numbered_place [] (p ∷ ps) n same = absurd (omega (arith, same))
place_of_zipped_entry_is_numbered_place (k ∷ ks) [] n same = absurd (omega (arith, same))
place_of_zipped_entry_is_numbered_place (k ∷ ks) (p ∷ ps) zero same = refl
place_of_zipped_entry_is_numbered_place (k ∷ ks) (p ∷ ps) (suc n) same = place_of_zipped_entry_is_numbered_place ks ps n (omega (arith, same))

-- the number is that of one of these places
abbrev pub is_number_below_count_of_places : Option ℕ → List Place → Bool
is_number_below_count_of_places None ps = false
is_number_below_count_of_places (Some n) ps = nat_lt n (length ps)

less_than_is_kept_by_successor : (n m : ℕ) → nat_lt n m ≡ nat_lt (n + 1) (suc m)
less_than_is_kept_by_successor n m = by (nat_lt n m) refl
  where
    by : (b : Bool) → nat_lt n m ≡ b → nat_lt n m ≡ nat_lt (n + 1) (suc m)
    by true e = e ∙ sym (lt-ltb (n + 1) (suc m) (omega (arith, ltb-true n m e)))
    by false e = e ∙ sym (le-ltb (n + 1) (suc m) (omega (arith, ltb-false n m e)))

-- whether a name is among the first known ones
pub known_name_has_number_below_count : (name : List ℕ) (es : List (List ℕ × Place)) (ps : List Place) → is_some (place_of_named_entry name (known_names_with_places es ps)) ≡ is_number_below_count_of_places (number_of_named_entry name es) ps
known_name_has_number_below_count name [] ps = refl
known_name_has_number_below_count name (e ∷ es) [] = by (bytes_eq name e.0) (number_of_named_entry name es)
  where
    by : (b : Bool) (o : Option ℕ) → false ≡ is_number_below_count_of_places (if b then Some 0 else option_map (λ n. n + 1) o) []
    by true o = refl
    by false None = refl
    by false (Some n) = sym (le-ltb (n + 1) 0 (omega arith))
known_name_has_number_below_count name (e ∷ es) (p ∷ ps) = by (bytes_eq name e.0) (number_of_named_entry name es) (known_name_has_number_below_count name es ps)
  where
    by : (b : Bool) (o : Option ℕ) → is_some (place_of_named_entry name (known_names_with_places es ps)) ≡ is_number_below_count_of_places o ps
        → is_some (if b then Some p else place_of_named_entry name (known_names_with_places es ps)) ≡ is_number_below_count_of_places (if b then Some 0 else option_map (λ n. n + 1) o) (p ∷ ps)
    by true o later = sym (lt-ltb 0 (suc (length ps)) (omega arith))
    by false None later = later
    by false (Some n) later = later ∙ less_than_is_kept_by_successor n (length ps)

-- ---- names that are different

different_names_differ_both_ways : (a b : List ℕ) → bytes_eq a b ≡ false → bytes_eq b a ≡ false
different_names_differ_both_ways a b differ = by (bytes_eq b a) refl
  where
    by : (t : Bool) → bytes_eq b a ≡ t → t ≡ false
    by true e = sym ((bytes_eq-Decides a b).1 (sym ((bytes_eq-Decides b a).0 e))) ∙ differ
    by false e = refl

-- no name is that of a later key
numbered_later_name_differs_from_key : {K : Type 0} (items : K → List ℕ) (k : K) (ks : List K) (n : ℕ) (name : List ℕ) → AllByRecursion (λ y. bytes_eq (items k) (items y) ≡ false) ks
    → slice_get (map items ks) n ≡ Some name → bytes_eq name (items k) ≡ false
numbered_later_name_differs_from_key items k [] n name all is = absurd (cc)
numbered_later_name_differs_from_key items k (y ∷ ks) zero name all is =
    let same : items y ≡ name = cc in
    subst (λ x. bytes_eq x (items k) ≡ false) same (different_names_differ_both_ways (items k) (items y) all.0)
numbered_later_name_differs_from_key items k (y ∷ ks) (suc n) name all is = numbered_later_name_differs_from_key items k ks n name all.1 is

pub name_of_distinct_keys_is_not_in_front : {K : Type 0} (items : K → List ℕ) (ks : List K) (ps : List Place) (n : ℕ) (name : List ℕ) → IsDistinct (λ a b. bytes_eq (items a) (items b)) ks
    → slice_get (map items ks) n ≡ Some name → place_of_named_entry name (take n (zip (map items ks) ps)) ≡ None
unfolding IsDistinct
name_of_distinct_keys_is_not_in_front items [] ps n name apart is = absurd (cc)
name_of_distinct_keys_is_not_in_front items (k ∷ ks) [] zero name apart is = refl
name_of_distinct_keys_is_not_in_front items (k ∷ ks) [] (suc n) name apart is = refl
name_of_distinct_keys_is_not_in_front items (k ∷ ks) (p ∷ ps) zero name apart is = refl
name_of_distinct_keys_is_not_in_front items (k ∷ ks) (p ∷ ps) (suc n) name apart is =
    ap (λ b. if b then Some p else place_of_named_entry name (take n (zip (map items ks) ps))) (numbered_later_name_differs_from_key items k ks n name apart.0 is)
    ∙ name_of_distinct_keys_is_not_in_front items ks ps n name apart.1 is

-- no entry has the name
pub name_without_entry_matches_no_key : {K : Type 0} (items : K → List ℕ) (name : List ℕ) (ks : List K) (ps : List Place) → length (map items ks) ≡ length ps → place_of_named_entry name (zip (map items ks) ps) ≡ None
    → list_any (λ k. bytes_eq name (items k)) ks ≡ false
name_without_entry_matches_no_key items name [] ps same none = refl
name_without_entry_matches_no_key items name (k ∷ ks) [] same none = absurd (omega (arith, same))
name_without_entry_matches_no_key items name (k ∷ ks) (p ∷ ps) same none = by (bytes_eq name (items k)) none (name_without_entry_matches_no_key items name ks ps (omega (arith, same)))
  where
    by : (b : Bool) → (if b then Some p else place_of_named_entry name (zip (map items ks) ps)) ≡ None
        → (place_of_named_entry name (zip (map items ks) ps) ≡ None → list_any (λ j. bytes_eq name (items j)) ks ≡ false) → (b || list_any (λ j. bytes_eq name (items j)) ks) ≡ false
    by true e later = absurd (cc)
    by false e later = later e

-- the names alone count
pub name_absent_from_front_is_absent_from_zip : (name : List ℕ) (n : ℕ) (es : List (List ℕ × Place)) (ps : List Place) → place_of_named_entry name (take n es) ≡ None → place_of_named_entry name (zip (names_of_entries es) (take n ps)) ≡ None
name_absent_from_front_is_absent_from_zip name zero [] ps none = refl
name_absent_from_front_is_absent_from_zip name zero (e ∷ es) ps none = refl
name_absent_from_front_is_absent_from_zip name (suc n) [] ps none = refl
name_absent_from_front_is_absent_from_zip name (suc n) (e ∷ es) [] none = refl
name_absent_from_front_is_absent_from_zip name (suc n) (e ∷ es) (p ∷ ps) none = by (bytes_eq name e.0) none (name_absent_from_front_is_absent_from_zip name n es ps)
  where
    by : (b : Bool) → (if b then Some e.1 else place_of_named_entry name (take n es)) ≡ None → (place_of_named_entry name (take n es) ≡ None → place_of_named_entry name (zip (names_of_entries es) (take n ps)) ≡ None)
        → (if b then Some p else place_of_named_entry name (zip (names_of_entries es) (take n ps))) ≡ None
    by true none later = absurd (cc)
    by false none later = later none

taken_front_is_at_most_its_number : {X : Type 0} (n : ℕ) (xs : List X) → length (take n xs) ≤ n
taken_front_is_at_most_its_number zero xs = omega arith
taken_front_is_at_most_its_number (suc n) [] = omega arith
taken_front_is_at_most_its_number (suc n) (x ∷ xs) = omega (arith, taken_front_is_at_most_its_number n xs)

-- ---- sets of names beside places

module _ {K : Type 0} (items : K → List ℕ) (keys : List K) (places : List Place) (now : List (List ℕ × Place))
    (same : length keys ≡ length places) (view : zip (map items keys) places ≡ now) where
  abbrev texts_of : List (List ℕ)
  texts_of = map items keys

  beside : length texts_of ≡ length places
  beside = length-map keys items ∙ same

  pub count_is : length places ≡ length now
  count_is = entries_zipped_have_count_of_places texts_of places beside ∙ ap length view

  pub names_are : names_of_entries now ≡ texts_of
  names_are = ap names_of_entries (sym view) ∙ names_of_zipped_entries_are_names texts_of places beside

  pub name_at : (n : ℕ) → option_map items (slice_get keys n) ≡ slice_get (names_of_entries now) n
  name_at n = sym (slice_get-map items keys n) ∙ ap (λ ns. slice_get ns n) (sym names_are)

  pub number_is : (name : List ℕ) → position (λ k. bytes_eq name (items k)) keys ≡ number_of_named_entry name now
  number_is name = position_of_key_is_number_of_entry items name keys places beside ∙ ap (number_of_named_entry name) view

  pub place_is : (name : List ℕ) (n : ℕ) → number_of_named_entry name now ≡ Some n → slice_get places n ≡ place_of_named_entry name now
  place_is name n is =
      sym (place_of_zipped_entry_is_numbered_place texts_of places n beside)
      ∙ ap (λ es. option_map (λ e. e.1) (slice_get es n)) view
      ∙ ap (λ o. option_map (λ e. e.1) (option_and_then (slice_get now) o)) (sym is)
      ∙ sym (place_of_entry_is_at_its_number name now)

  pub no_place : (name : List ℕ) → number_of_named_entry name now ≡ None → None ≡ place_of_named_entry name now
  no_place name is = ap (λ o. option_map (λ e. e.1) (option_and_then (slice_get now) o)) (sym is) ∙ sym (place_of_entry_is_at_its_number name now)

  -- the names with their own places
  pub whole_beside : zip (names_of_entries now) places ≡ now
  whole_beside = ap (λ ns. zip ns places) names_are ∙ view

  pub are_apart : IsDistinct (λ a b. bytes_eq (items a) (items b)) keys → (n : ℕ) (name : List ℕ) → slice_get (names_of_entries now) n ≡ Some name → place_of_named_entry name (take n now) ≡ None
  are_apart apart n name is =
      ap (λ es. place_of_named_entry name (take n es)) (sym view)
      ∙ name_of_distinct_keys_is_not_in_front items keys places n name apart (ap (λ ns. slice_get ns n) (sym names_are) ∙ is)

  pub is_absent : (name : List ℕ) → place_of_named_entry name now ≡ None → list_any (λ k. bytes_eq name (items k)) keys ≡ false
  is_absent name none = name_without_entry_matches_no_key items name keys places beside (ap (place_of_named_entry name) view ∙ none)

  pub pushed : (more : List K) (k : K) (p : Place) (name : List ℕ) → more ≡ keys ++ k ∷ [] → items k ≡ name
      → zip (map items more) (places ++ p ∷ []) ≡ now ++ (name, p) ∷ []
  pushed more k p name is place_of_named_entry =
      ap (λ ks. zip (map items ks) (places ++ p ∷ [])) is
      ∙ ap (λ ts. zip ts (places ++ p ∷ [])) (map-append items keys (k ∷ []))
      ∙ zip_adds_name_with_its_place texts_of places (items k) p beside
      ∙ ap (λ es. es ++ (items k, p) ∷ []) view
      ∙ ap (λ n. now ++ (n, p) ∷ []) place_of_named_entry

  -- names and places that are cut to the shorter list
  pub cut_known : (ps front : List Place) (ks : List K) → front ≡ take (length now) ps → ks ≡ take (length front) keys → zip (map items ks) front ≡ known_names_with_places now ps
  cut_known ps front ks is keys_are =
      let count : length now ≡ length texts_of = sym count_is ∙ sym beside in
      ap (λ k. zip (map items k) front) keys_are
      ∙ ap (λ ts. zip ts front) (sym (take-map items (length front) keys))
      ∙ names_past_places_do_not_count texts_of front
      ∙ ap (zip texts_of) (is ∙ ap (λ n. take n ps) count)
      ∙ places_past_names_do_not_count texts_of ps
      ∙ ap (λ ns. zip ns ps) (sym names_are)

  pub cut_count : (ps front : List Place) (ks : List K) → front ≡ take (length now) ps → ks ≡ take (length front) keys → length ks ≡ length front
  cut_count ps front ks is keys_are =
      ap length keys_are ∙ length-take-le (length front) keys (omega (arith, ap length is, taken_front_is_at_most_its_number (length now) ps, count_is, same))

-- ---- the first names

-- the next name, with its place
pub first_entries_add_next_name_and_place : (es : List (List ℕ × Place)) (ps : List Place) (n : ℕ) (name : List ℕ) (p : Place) → n < length ps → p ≡ get_or ps n p → slice_get (names_of_entries es) n ≡ Some name
    → zip (names_of_entries es) (take n ps) ++ (name, p) ∷ [] ≡ zip (names_of_entries es) (take (n + 1) ps)
first_entries_add_next_name_and_place es ps n name p less is next =
    sym (zip_adds_place_for_next_known_name (names_of_entries es) (take n ps) name p (ap (slice_get (names_of_entries es)) (length-take-le n ps (omega (arith, less))) ∙ next))
    ∙ ap (zip (names_of_entries es)) (ap (λ q. take n ps ++ q ∷ []) is ∙ sym (take_more ps n p less))

pub no_places_make_no_entries : (ks : List (List ℕ)) (ps : List Place) → zip ks (take 0 ps) ≡ []
no_places_make_no_entries [] ps = refl
no_places_make_no_entries (k ∷ ks) ps = refl

-- each place has a name
pub numbered_place_has_name : (es : List (List ℕ × Place)) (ps : List Place) (n : ℕ) → n < length ps → length ps ≤ length es → slice_get (names_of_entries es) n ≡ None → ⊥
numbered_place_has_name [] ps n less fits none = omega (arith, less, fits)
numbered_place_has_name (e ∷ es) [] n less fits none = omega (arith, less)
numbered_place_has_name (e ∷ es) (p ∷ ps) zero less fits none = cc
numbered_place_has_name (e ∷ es) (p ∷ ps) (suc n) less fits none = numbered_place_has_name es ps n (omega (arith, less)) (omega (arith, fits)) none

-- ---- the name that follows

equal_optional_name_is_that_name : (name : List ℕ) (o : Option (List ℕ)) → is_equal_optional_name name o ≡ true → o ≡ Some name
equal_optional_name_is_that_name name None is = absurd (cc)
equal_optional_name_is_that_name name (Some next) is = ap Some ((bytes_eq-Decides next name).0 is)

pub next_known_name_is_added_with_place : (known : List (List ℕ × Place)) (places : List Place) (name : List ℕ) (p : Place) → is_equal_optional_name name (slice_get (names_of_entries known) (length places)) ≡ true
    → known_names_with_places known (places ++ p ∷ []) ≡ known_names_with_places known places ++ (name, p) ∷ []
next_known_name_is_added_with_place known places name p next = zip_adds_place_for_next_known_name (names_of_entries known) places name p (equal_optional_name_is_that_name name _ next)

pub next_known_name_is_not_among_first : (known : List (List ℕ × Place)) (places : List Place) (name : List ℕ)
    → ((n : ℕ) (x : List ℕ) → slice_get (names_of_entries known) n ≡ Some x → place_of_named_entry x (take n known) ≡ None)
    → is_equal_optional_name name (slice_get (names_of_entries known) (length places)) ≡ true → place_of_named_entry name (known_names_with_places known places) ≡ None
next_known_name_is_not_among_first known places name apart next =
    ap (λ ps. place_of_named_entry name (known_names_with_places known ps)) (sym (take_all (length places) places (omega arith)))
    ∙ name_absent_from_front_is_absent_from_zip name (length places) known places (apart (length places) name (equal_optional_name_is_that_name name _ next))
