-- Lists of which one item is replaced by others.
use Rattle.sudoers_tree.proofs.Common.{Line, List, Some, [], ap, arith, drop, insert, join, length, length-append, lf_count, map, map-append, refl, remove, slice_get, suc, sym, take}
use Rattle.std.proofs.Common.{get_or, set}
use Rattle.std.proofs.lemmas.List.Elements.{All-append}
use Rattle.sudoers_tree.proofs.Common.{All, All-cons, All-drop, All-take, AllByRecursion, slice_get-get_or, subst}
use Rattle.sudoers_tree.proofs.Common.{texts_of_lines, zero, ℕ, ◌++◌, ◌+◌, ◌<◌, ◌∙◌, ◌∷◌, ◌≡◌, ◌≤◌}
use Rattle.sudoers_tree.proofs.Joined.{join_of_appended_lines_is_appended, lf_count_adds_over_append}
use Rattle.sudoers_tree.specs.internal.InPlace.{with_items_in_place}

-- The item with the number n stands behind the first n items, and before the others.
pub list_splits_at_item : {X : Type 0} (xs : List X) (n : ℕ) (x : X) → slice_get xs n ≡ Some x → take n xs ++ x ∷ drop (suc n) xs ≡ xs
list_splits_at_item [] n x is = absurd cc
list_splits_at_item (y ∷ xs) zero x is = let same : y ≡ x = cc in ap (λ z. z ∷ xs) (sym same)
list_splits_at_item (y ∷ xs) (suc n) x is = ap (λ zs. y ∷ zs) (list_splits_at_item xs n x is)

pub rest_from_item_begins_with_it : {X : Type 0} (xs : List X) (n : ℕ) (x : X) → slice_get xs n ≡ Some x → drop n xs ≡ x ∷ drop (suc n) xs
rest_from_item_begins_with_it [] n x is = absurd cc
rest_from_item_begins_with_it (y ∷ xs) zero x is = let same : y ≡ x = cc in ap (λ z. z ∷ xs) same
rest_from_item_begins_with_it (y ∷ xs) (suc n) x is = rest_from_item_begins_with_it xs n x is

-- ---- an item that is put, taken out or replaced

pub put_item_is_in_place : {X : Type 0} (xs : List X) (n : ℕ) (x y : X) → slice_get xs n ≡ Some x → insert xs n y ≡ with_items_in_place n (y ∷ x ∷ []) xs
put_item_is_in_place [] n x y is = absurd cc
put_item_is_in_place (z ∷ xs) zero x y is = let same : z ≡ x = cc in ap (λ w. y ∷ w ∷ xs) same
put_item_is_in_place (z ∷ xs) (suc n) x y is = ap (λ zs. z ∷ zs) (put_item_is_in_place xs n x y is)

pub removed_item_is_in_place : {X : Type 0} (xs : List X) (n : ℕ) (x : X) → slice_get xs n ≡ Some x → remove xs n ≡ with_items_in_place n [] xs
removed_item_is_in_place [] n x is = absurd cc
removed_item_is_in_place (z ∷ xs) zero x is = refl
removed_item_is_in_place (z ∷ xs) (suc n) x is = ap (λ zs. z ∷ zs) (removed_item_is_in_place xs n x is)

-- ---- what a list with items in place is made of

pub mapped_items_in_place : {X Y : Type 0} (h : X → Y) (n : ℕ) (news xs : List X) → map h (with_items_in_place n news xs) ≡ with_items_in_place n (map h news) (map h xs)
mapped_items_in_place h zero news [] = map-append h news []
mapped_items_in_place h zero news (x ∷ xs) = map-append h news xs
mapped_items_in_place h (suc n) news [] = map-append h news []
mapped_items_in_place h (suc n) news (x ∷ xs) = ap (λ ys. h x ∷ ys) (mapped_items_in_place h n news xs)

pub length_with_items_in_place : {X : Type 0} (n : ℕ) (news xs : List X) → n < length xs → length (with_items_in_place n news xs) + 1 ≡ length xs + length news
length_with_items_in_place n news [] less = absurd (omega (arith, less))
length_with_items_in_place zero news (x ∷ xs) less = omega (arith, length-append news xs)
length_with_items_in_place (suc n) news (x ∷ xs) less = omega (arith, length_with_items_in_place n news xs (omega (arith, less)))

-- The first items, before the place, stay.
pub items_before_place_stay : {X : Type 0} (k n : ℕ) (news xs : List X) → k ≤ n → n < length xs → take k (with_items_in_place n news xs) ≡ take k xs
items_before_place_stay zero n news xs le less = refl
items_before_place_stay (suc k) n news [] le less = absurd (omega (arith, less))
items_before_place_stay (suc k) zero news (x ∷ xs) le less = absurd (omega (arith, le))
items_before_place_stay (suc k) (suc n) news (x ∷ xs) le less = ap (λ ys. x ∷ ys) (items_before_place_stay k n news xs (omega (arith, le)) (omega (arith, less)))

take_of_append_behind_front : {X : Type 0} (news xs : List X) (k m : ℕ) → m ≡ length news + k → take m (news ++ xs) ≡ news ++ take k xs
take_of_append_behind_front [] xs k m is = ap (λ j. take j xs) (omega (arith, is))
take_of_append_behind_front (x ∷ news) xs k zero is = absurd (omega (arith, is))
take_of_append_behind_front (x ∷ news) xs k (suc m) is = ap (λ ys. x ∷ ys) (take_of_append_behind_front news xs k m (omega (arith, is)))

-- The first items, up to one behind the place, are those before with the items in place.
pub items_up_to_later_place_are_in_place : {X : Type 0} (k m n : ℕ) (news xs : List X) → n < k → k ≤ length xs → m + 1 ≡ k + length news
    → take m (with_items_in_place n news xs) ≡ with_items_in_place n news (take k xs)
items_up_to_later_place_are_in_place k m n news [] less le is = absurd (omega (arith, less, le))
items_up_to_later_place_are_in_place zero m n news (x ∷ xs) less le is = absurd (omega (arith, less))
items_up_to_later_place_are_in_place (suc k) m zero news (x ∷ xs) less le is = take_of_append_behind_front news xs k m (omega (arith, is))
items_up_to_later_place_are_in_place (suc k) zero (suc n) news (x ∷ xs) less le is = absurd (omega (arith, less, is))
items_up_to_later_place_are_in_place (suc k) (suc m) (suc n) news (x ∷ xs) less le is =
    ap (λ ys. x ∷ ys) (items_up_to_later_place_are_in_place k m n news xs (omega (arith, less)) (omega (arith, le)) (omega (arith, is)))

-- ---- line feeds of lines

abbrev pub lf_count_of_lines_joined : List Line → ℕ
lf_count_of_lines_joined lines = lf_count (join (texts_of_lines lines))

pub lf_count_of_appended_lines : (xs ys : List Line) → lf_count_of_lines_joined (xs ++ ys) ≡ lf_count_of_lines_joined xs + lf_count_of_lines_joined ys
lf_count_of_appended_lines xs ys =
    ap (λ ts. lf_count (join ts)) (map-append (λ (line : Line). line.text) xs ys)
    ∙ ap lf_count (join_of_appended_lines_is_appended (texts_of_lines xs) (texts_of_lines ys))
    ∙ lf_count_adds_over_append (join (texts_of_lines xs)) (join (texts_of_lines ys))

-- Lines in place of another have the line feeds of all, but for those of that line.
pub lf_count_with_lines_in_place : (n : ℕ) (news lines : List Line) (line : Line) → slice_get lines n ≡ Some line
    → lf_count_of_lines_joined (with_items_in_place n news lines) + lf_count_of_lines_joined (line ∷ []) ≡ lf_count_of_lines_joined lines + lf_count_of_lines_joined news
lf_count_with_lines_in_place n news lines line is =
    let whole : lf_count_of_lines_joined lines ≡ lf_count_of_lines_joined (take n lines) + lf_count_of_lines_joined (line ∷ drop (suc n) lines) =
    ap lf_count_of_lines_joined (sym (list_splits_at_item lines n line is)) ∙ lf_count_of_appended_lines (take n lines) (line ∷ drop (suc n) lines) in
    let here : lf_count_of_lines_joined (line ∷ drop (suc n) lines) ≡ lf_count_of_lines_joined (line ∷ []) + lf_count_of_lines_joined (drop (suc n) lines) =
    lf_count_of_appended_lines (line ∷ []) (drop (suc n) lines) in
    let front : lf_count_of_lines_joined (with_items_in_place n news lines) ≡ lf_count_of_lines_joined (take n lines) + lf_count_of_lines_joined (news ++ drop (suc n) lines) =
    lf_count_of_appended_lines (take n lines) (news ++ drop (suc n) lines) in
    omega (arith, whole, here, front, lf_count_of_appended_lines news (drop (suc n) lines))

-- ---- items that are changed one after another

-- the next of items that are changed up to it
pub next_item_behind_changed_front : {X : Type 0} (change : X → X) (i : ℕ) (xs : List X) (d : X) → i < length xs → get_or (map change (take i xs) ++ drop i xs) i d ≡ get_or xs i d
next_item_behind_changed_front change i [] d less = absurd (omega (arith, less))
next_item_behind_changed_front change zero (x ∷ xs) d less = refl
next_item_behind_changed_front change (suc i) (x ∷ xs) d less = next_item_behind_changed_front change i xs d (omega (arith, less))

pub changed_item_extends_changed_front : {X : Type 0} (change : X → X) (i : ℕ) (xs : List X) (d : X) → i < length xs
    → set (map change (take i xs) ++ drop i xs) i (change (get_or xs i d)) ≡ map change (take (i + 1) xs) ++ drop (i + 1) xs
changed_item_extends_changed_front change i [] d less = absurd (omega (arith, less))
changed_item_extends_changed_front change zero (x ∷ xs) d less = refl
changed_item_extends_changed_front change (suc i) (x ∷ xs) d less =
    let more : suc i + 1 ≡ suc (i + 1) = omega arith in
    ap (λ ys. change x ∷ ys) (changed_item_extends_changed_front change i xs d (omega (arith, less)))
    ∙ ap (λ n. map change (take n (x ∷ xs)) ++ drop n (x ∷ xs)) (sym more)

-- ---- what holds of items that are put or taken out

pub map_of_remove_is_remove_of_map : {X Y : Type 0} (h : X → Y) (n : ℕ) (xs : List X) → map h (remove xs n) ≡ remove (map h xs) n
map_of_remove_is_remove_of_map h zero [] = refl
map_of_remove_is_remove_of_map h (suc n) [] = refl
map_of_remove_is_remove_of_map h zero (x ∷ xs) = refl
map_of_remove_is_remove_of_map h (suc n) (x ∷ xs) = ap (λ ys. h x ∷ ys) (map_of_remove_is_remove_of_map h n xs)

pub property_of_all_holds_without_item : {X : Type 0} (P : X → Type 0) (n : ℕ) (xs : List X) → AllByRecursion P xs → AllByRecursion P (remove xs n)
property_of_all_holds_without_item P zero [] all = all
property_of_all_holds_without_item P (suc n) [] all = all
property_of_all_holds_without_item P zero (x ∷ xs) all = all.1
property_of_all_holds_without_item P (suc n) (x ∷ xs) all = (all.0, property_of_all_holds_without_item P n xs all.1)

pub join_without_text_is_no_longer : (n : ℕ) (texts : List (List ℕ)) → length (join (remove texts n)) ≤ length (join texts)
join_without_text_is_no_longer zero [] = omega arith
join_without_text_is_no_longer (suc n) [] = omega arith
join_without_text_is_no_longer zero (text ∷ texts) = omega (arith, length-append text (join texts))
join_without_text_is_no_longer (suc n) (text ∷ texts) = omega (arith, length-append text (join texts), length-append text (join (remove texts n)), join_without_text_is_no_longer n texts)

pub all_items_but_one : {X : Type 0} (P : X → Type 0) (xs : List X) (n : ℕ) (d : X) → n < length xs → All P xs → All P (remove xs n)
all_items_but_one P xs n d less all =
    subst (All P) (sym (removed_item_is_in_place xs n (get_or xs n d) (slice_get-get_or xs n d less))) (All-append P (take n xs) (drop (suc n) xs) (All-take P n xs all) (All-drop P (suc n) xs all))

pub map_of_insert_is_insert_of_map : {X Y : Type 0} (h : X → Y) (n : ℕ) (xs : List X) (x : X) → map h (insert xs n x) ≡ insert (map h xs) n (h x)
map_of_insert_is_insert_of_map h zero [] x = refl
map_of_insert_is_insert_of_map h (suc n) [] x = refl
map_of_insert_is_insert_of_map h zero (y ∷ xs) x = refl
map_of_insert_is_insert_of_map h (suc n) (y ∷ xs) x = ap (λ ys. h y ∷ ys) (map_of_insert_is_insert_of_map h n xs x)

pub map_of_set_is_set_of_map : {X Y : Type 0} (h : X → Y) (n : ℕ) (xs : List X) (x : X) → map h (set xs n x) ≡ set (map h xs) n (h x)
map_of_set_is_set_of_map h zero [] x = refl
map_of_set_is_set_of_map h (suc n) [] x = refl
map_of_set_is_set_of_map h zero (y ∷ xs) x = refl
map_of_set_is_set_of_map h (suc n) (y ∷ xs) x = ap (λ ys. h y ∷ ys) (map_of_set_is_set_of_map h n xs x)

pub set_item_is_in_place : {X : Type 0} (xs : List X) (n : ℕ) (x y : X) → slice_get xs n ≡ Some x → set xs n y ≡ with_items_in_place n (y ∷ []) xs
set_item_is_in_place [] n x y is = absurd cc
set_item_is_in_place (z ∷ xs) zero x y is = refl
set_item_is_in_place (z ∷ xs) (suc n) x y is = ap (λ zs. z ∷ zs) (set_item_is_in_place xs n x y is)

pub property_of_all_and_new_holds_with_item : {X : Type 0} (P : X → Type 0) (n : ℕ) (xs : List X) (x : X) → AllByRecursion P xs → P x → n ≤ length xs → AllByRecursion P (insert xs n x)
property_of_all_and_new_holds_with_item P zero [] x all here le = (here, tt)
property_of_all_and_new_holds_with_item P (suc n) [] x all here le = absurd (omega (arith, le))
property_of_all_and_new_holds_with_item P zero (y ∷ xs) x all here le = (here, all)
property_of_all_and_new_holds_with_item P (suc n) (y ∷ xs) x all here le = (all.0, property_of_all_and_new_holds_with_item P n xs x all.1 here (omega (arith, le)))

pub property_of_all_and_new_holds_after_set : {X : Type 0} (P : X → Type 0) (n : ℕ) (xs : List X) (x : X) → AllByRecursion P xs → P x → AllByRecursion P (set xs n x)
property_of_all_and_new_holds_after_set P zero [] x all here = tt
property_of_all_and_new_holds_after_set P (suc n) [] x all here = tt
property_of_all_and_new_holds_after_set P zero (y ∷ xs) x all here = (here, all.1)
property_of_all_and_new_holds_after_set P (suc n) (y ∷ xs) x all here = (all.0, property_of_all_and_new_holds_after_set P n xs x all.1 here)

pub join_with_text_is_longer_by_it : (n : ℕ) (texts : List (List ℕ)) (text : List ℕ) → n ≤ length texts → length (join (insert texts n text)) ≡ length text + length (join texts)
join_with_text_is_longer_by_it zero texts text le = length-append text (join texts)
join_with_text_is_longer_by_it (suc n) [] text le = absurd (omega (arith, le))
join_with_text_is_longer_by_it (suc n) (first ∷ texts) text le =
    omega (arith, length-append first (join (insert texts n text)), length-append first (join texts), join_with_text_is_longer_by_it n texts text (omega (arith, le)))

pub join_with_other_text_has_its_size : (n : ℕ) (texts : List (List ℕ)) (old text : List ℕ) → slice_get texts n ≡ Some old → length (join (set texts n text)) + length old ≡ length text + length (join texts)
join_with_other_text_has_its_size n [] old text is = absurd cc
join_with_other_text_has_its_size zero (first ∷ texts) old text is =
    let same : first ≡ old = cc in
    omega (arith, ap length same, length-append first (join texts), length-append text (join texts))
join_with_other_text_has_its_size (suc n) (first ∷ texts) old text is =
    omega (arith, length-append first (join (set texts n text)), length-append first (join texts), join_with_other_text_has_its_size n texts old text is)

pub all_items_and_new : {X : Type 0} (P : X → Type 0) (xs : List X) (n : ℕ) (x : X) → P x → All P xs → All P (insert xs n x)
all_items_and_new P xs n x here all = All-append P (take n xs) (x ∷ drop n xs) (All-take P n xs all) (All-cons P x (drop n xs) here (All-drop P n xs all))
