-- Where the bytes of a definition begin and stop.
use Rattle.sudoers_edit.proofs.Common.{AreOrderedSpans, ByteExtent, Def, List, Some, [], ap, arith, drop, ends_in_lf, extents_of_definitions, false, length, length-append, length-drop, length-take-le}
use Rattle.sudoers_edit.proofs.Common.{line_without_bytes, option_map, owned_bytes_start, owned_bytes_stop, refl, slice_get, suc, sym, take, zero, ℕ, ◌++◌, ◌-◌, ◌<◌, ◌∙◌, ◌∷◌, ◌≡◌, ◌≤◌}
use Rattle.std.proofs.Common.{ne_eqb}
use Rattle.std.specs.Prelude.{◌==◌}

abbrev pub AreAscendingDefinitions : ℕ → ℕ → List Def → Type 0
AreAscendingDefinitions = AreOrderedSpans (λ (d : Def). d.start) (λ (d : Def). d.stop)

start_of_ascending_is_at_most_end : (from to : ℕ) (defs : List Def) → AreAscendingDefinitions from to defs → from ≤ to
start_of_ascending_is_at_most_end from to [] a = a
start_of_ascending_is_at_most_end from to (d ∷ defs) a = omega (arith, a.0, a.1, start_of_ascending_is_at_most_end d.stop to defs a.2)

owned_start_is_stop_of_item_before : (q : ℕ) (xs : List ByteExtent) → owned_bytes_start (suc q) xs ≡ option_map (λ (x : ByteExtent). x.1) (slice_get xs q)
owned_start_is_stop_of_item_before q xs =
    let some : (suc q == 0) ≡ false = ne_eqb (suc q) 0 (λ same. omega (arith, same)) in
    let back : suc q - 1 ≡ q = omega arith in
    rw (some, back) refl

later_item_owns_up_to_its_stop : (q : ℕ) (xs : List ByteExtent) → owned_bytes_stop (suc q) xs ≡ option_map (λ (x : ByteExtent). x.1) (slice_get xs (suc q))
later_item_owns_up_to_its_stop q xs =
    let some : (suc q == 0) ≡ false = ne_eqb (suc q) 0 (λ same. omega (arith, same)) in
    rw some refl

stops_of_neighbouring_definitions_are_ordered : (lo hi : ℕ) (defs : List Def) (q from to : ℕ) → AreAscendingDefinitions lo hi defs
    → option_map (λ (x : ByteExtent). x.1) (slice_get (extents_of_definitions defs) q) ≡ Some from
    → option_map (λ (x : ByteExtent). x.1) (slice_get (extents_of_definitions defs) (suc q)) ≡ Some to → (from ≤ to) × (to ≤ hi)
stops_of_neighbouring_definitions_are_ordered lo hi [] q from to a b c = absurd (cc)
stops_of_neighbouring_definitions_are_ordered lo hi (d ∷ []) q from to a b c = absurd (cc)
stops_of_neighbouring_definitions_are_ordered lo hi (d ∷ e ∷ ds) zero from to a b c =
    let begins : d.stop ≡ from = cc in
    let stops : e.stop ≡ to = cc in
    (omega (arith, a.2.0, a.2.1, begins, stops), omega (arith, start_of_ascending_is_at_most_end e.stop hi ds a.2.2, stops))
stops_of_neighbouring_definitions_are_ordered lo hi (d ∷ e ∷ ds) (suc q) from to a b c = stops_of_neighbouring_definitions_are_ordered d.stop hi (e ∷ ds) q from to a.2 b c

-- What a definition owns stands among them.
pub bytes_owned_by_definition_are_within : (lo hi : ℕ) (defs : List Def) (at from to : ℕ) → AreAscendingDefinitions lo hi defs → owned_bytes_start at (extents_of_definitions defs) ≡ Some from
    → owned_bytes_stop at (extents_of_definitions defs) ≡ Some to → (from ≤ to) × (to ≤ hi)
bytes_owned_by_definition_are_within lo hi [] zero from to a b c = absurd (cc)
bytes_owned_by_definition_are_within lo hi (d ∷ []) zero from to a b c = absurd (cc)
bytes_owned_by_definition_are_within lo hi (d ∷ e ∷ ds) zero from to a b c =
    let begins : d.start ≡ from = cc in
    let stops : e.start ≡ to = cc in
    (omega (arith, a.1, a.2.0, begins, stops), omega (arith, a.2.1, start_of_ascending_is_at_most_end e.stop hi ds a.2.2, stops))
bytes_owned_by_definition_are_within lo hi defs (suc q) from to a b c =
    stops_of_neighbouring_definitions_are_ordered lo hi defs q from to a (sym (owned_start_is_stop_of_item_before q (extents_of_definitions defs)) ∙ b) (sym (later_item_owns_up_to_its_stop q (extents_of_definitions defs)) ∙ c)

-- ---- the line without them

pub line_without_bytes_is_not_longer : (from to : ℕ) (line : List ℕ) → from ≤ to → to ≤ length line → length (line_without_bytes from to line) ≤ length line
line_without_bytes_is_not_longer from to line order inside =
    let front : length (take from line) ≡ from = length-take-le from line (omega (arith, order, inside)) in
    omega (arith, order, inside, length-append (take from line) (drop to line), front, length-drop to line)

line_end_is_that_of_last_part : (xs : List ℕ) (b : ℕ) (ys : List ℕ) → ends_in_lf (xs ++ b ∷ ys) ≡ ends_in_lf (b ∷ ys)
line_end_is_that_of_last_part [] b ys = refl
line_end_is_that_of_last_part (x ∷ []) b ys = refl
line_end_is_that_of_last_part (x ∷ y ∷ xs) b ys = line_end_is_that_of_last_part (y ∷ xs) b ys

-- the end of a line
pub record HasRestAtOffset (to : ℕ) (line : List ℕ) : Type 0 where
  pub first : ℕ
  pub rest : List ℕ
  pub is : drop to line ≡ first ∷ rest
  pub same : ends_in_lf line ≡ ends_in_lf (first ∷ rest)

pub line_has_rest_below_its_length : (to : ℕ) (line : List ℕ) → to < length line → HasRestAtOffset to line
line_has_rest_below_its_length to [] inside = absurd (omega (arith, inside))
line_has_rest_below_its_length zero (b ∷ line) inside = record { first = b; rest = line; is = refl; same = refl }
line_has_rest_below_its_length (suc to) (b ∷ []) inside = absurd (omega (arith, inside))
line_has_rest_below_its_length (suc to) (b ∷ c ∷ line) inside =
    let t = line_has_rest_below_its_length to (c ∷ line) (omega (arith, inside)) in
    record { first = t.first; rest = t.rest; is = t.is; same = t.same }

pub line_without_inner_bytes_keeps_end : (from to : ℕ) (line : List ℕ) → to < length line → ends_in_lf (line_without_bytes from to line) ≡ ends_in_lf line
line_without_inner_bytes_keeps_end from to line inside =
    let t = line_has_rest_below_its_length to line inside in
    ap (λ z. ends_in_lf (take from line ++ z)) t.is ∙ line_end_is_that_of_last_part (take from line) t.first t.rest ∙ sym t.same
