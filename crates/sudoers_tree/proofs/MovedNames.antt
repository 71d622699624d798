-- Definitions whose places moved: they have the same faults, and an index of them has moved places.
use Rattle.sudoers_tree.proofs.Common.{AliasNameIndex, Bool, Def, DefinitionKey, IsIndexOfDefinitions, Kind, Line, List, Node, None, Place, PlacedDefinition, Some, [], alias_limit_of_each_kind, append-nil, ap, ap₂, arith}
use Rattle.sudoers_tree.proofs.Common.{bytes_eq, definitions_from_line_number, definitions_from_place, definitions_in_line, definitions_of_lines, drop, false, fault_of_new_entry, first_definition_fault}
use Rattle.sudoers_tree.proofs.Common.{first_of_two_faults, if◌then◌else◌, index_entries_of_kind, is_equal_kind, is_reserved, is_some, key_of_definition, keys_of_definitions, length, length-map, length-take-le, map, map-append}
use Rattle.sudoers_tree.proofs.Common.{nat_le, nat_tests, place_of_named_entry, refl, slice_get, slice_get_within, suc, sym, take, true, ℕ, ◌++◌, ◌+◌, ◌-◌, ◌<◌, ◌∙◌, ◌∷◌, ◌≡◌, ◌≤◌}
use Rattle.sudoers_grammar.specs.Node as node
use Rattle.sudoers_tree.specs.declared.fault.ReadFault.TheVariants.{Duplicate, Reserved, TooMany}
use Rattle.sudoers_tree.specs.declared.moved_lines.LineMove.{LineMove}
use Rattle.sudoers_tree.specs.internal.InPlace.{moved_entry, moved_place, with_items_in_place}
use Rattle.sudoers_tree.proofs.Joined.{definitions_of_appended_lines_are_appended}
use Rattle.sudoers_tree.proofs.SameKeys.{entries_of_definition_keys, entries_of_definitions_are_those_of_keys, first_definition_fault_is_that_of_keys, first_fault_of_keys}
use Rattle.sudoers_tree.proofs.SplicedLists.{list_splits_at_item}

-- what the names tell of a definition, with a moved place
abbrev pub moved_key : ℕ → LineMove → DefinitionKey → DefinitionKey
moved_key from move x = (x.0, moved_entry from move x.1)

module _ (from : ℕ) (move : LineMove) where
  -- ---- entries

  entries_of_moved_keys_are_moved : (k : Kind) (xs : List DefinitionKey) → entries_of_definition_keys k (map (moved_key from move) xs) ≡ map (moved_entry from move) (entries_of_definition_keys k xs)
  entries_of_moved_keys_are_moved k [] = refl
  entries_of_moved_keys_are_moved k (x ∷ xs) = by (is_equal_kind k x.0) (entries_of_moved_keys_are_moved k xs)
    where
      by : (b : Bool) → entries_of_definition_keys k (map (moved_key from move) xs) ≡ map (moved_entry from move) (entries_of_definition_keys k xs)
          → (if b then moved_entry from move x.1 ∷ entries_of_definition_keys k (map (moved_key from move) xs) else entries_of_definition_keys k (map (moved_key from move) xs))
          ≡ map (moved_entry from move) (if b then x.1 ∷ entries_of_definition_keys k xs else entries_of_definition_keys k xs)
      by true later = ap (λ es. moved_entry from move x.1 ∷ es) later
      by false later = later

  moved_entries_have_same_names : (name : List ℕ) (es : List (List ℕ × Place)) → is_some (place_of_named_entry name (map (moved_entry from move) es)) ≡ is_some (place_of_named_entry name es)
  moved_entries_have_same_names name [] = refl
  moved_entries_have_same_names name (e ∷ es) = by (bytes_eq name e.0) (moved_entries_have_same_names name es)
    where
      by : (b : Bool) → is_some (place_of_named_entry name (map (moved_entry from move) es)) ≡ is_some (place_of_named_entry name es)
          → is_some (if b then Some (moved_place from move e.1) else place_of_named_entry name (map (moved_entry from move) es)) ≡ is_some (if b then Some e.1 else place_of_named_entry name es)
      by true later = refl
      by false later = later

  moved_entries_have_same_fault : (k : Kind) (es : List (List ℕ × Place)) (name : List ℕ) → fault_of_new_entry k (map (moved_entry from move) es) name ≡ fault_of_new_entry k es name
  moved_entries_have_same_fault k es name =
      ap₂ (λ b n. if is_reserved name then Some (Reserved k name) else (if b then Some (Duplicate k name) else (if nat_le alias_limit_of_each_kind n then Some (TooMany k) else None)))
      (moved_entries_have_same_names name es) (length-map es (moved_entry from move))

  moved_keys_have_same_first_fault : (before xs : List DefinitionKey) → first_fault_of_keys (map (moved_key from move) before) (map (moved_key from move) xs) ≡ first_fault_of_keys before xs
  moved_keys_have_same_first_fault before [] = refl
  moved_keys_have_same_first_fault before (x ∷ xs) =
      ap₂ first_of_two_faults
      (ap (λ es. fault_of_new_entry x.0 es x.1.0) (entries_of_moved_keys_are_moved x.0 before) ∙ moved_entries_have_same_fault x.0 (entries_of_definition_keys x.0 before) x.1.0)
      (ap (λ ks. first_fault_of_keys ks (map (moved_key from move) xs)) (sym (map-append (moved_key from move) before (x ∷ []))) ∙ moved_keys_have_same_first_fault (before ++ x ∷ []) xs)

  -- Definitions whose places moved have the same faults, and an index of them has moved places.
  pub moved_definitions_stay_faultless : (ds es : List PlacedDefinition) → keys_of_definitions es ≡ map (moved_key from move) (keys_of_definitions ds) → first_definition_fault [] ds ≡ None
      → first_definition_fault [] es ≡ None
  moved_definitions_stay_faultless ds es moved none =
      first_definition_fault_is_that_of_keys [] es ∙ ap (first_fault_of_keys []) moved ∙ moved_keys_have_same_first_fault [] (keys_of_definitions ds)
      ∙ sym (first_definition_fault_is_that_of_keys [] ds)
      ∙ none

  pub moved_index_is_of_moved_definitions : (index other : AliasNameIndex) (ds es : List PlacedDefinition) → keys_of_definitions es ≡ map (moved_key from move) (keys_of_definitions ds) → IsIndexOfDefinitions index ds
      → ((k : Kind) → index_entries_of_kind k other ≡ map (moved_entry from move) (index_entries_of_kind k index)) → IsIndexOfDefinitions other es
  moved_index_is_of_moved_definitions index other ds es moved is changed k =
      changed k ∙ ap (map (moved_entry from move)) (is k ∙ entries_of_definitions_are_those_of_keys k ds) ∙ sym (entries_of_moved_keys_are_moved k (keys_of_definitions ds))
      ∙ ap (entries_of_definition_keys k) (sym moved)
      ∙ sym (entries_of_definitions_are_those_of_keys k es)

  -- ---- definitions before the lines that move

  place_before_stays : (place : Place) → place.line < from → moved_place from move place ≡ place
  place_before_stays place less =
      let early : nat_le from place.line ≡ false = grind (arith, nat_tests, less) in
      ap (λ b. if b then record { line = place.line + move.up - move.down; def = place.def } else place) early

  keys_of_list_before_stay : (k : Kind) (i n : ℕ) (ds : List Def) → i < from → map (moved_key from move) (keys_of_definitions (definitions_from_place k i n ds)) ≡ keys_of_definitions (definitions_from_place k i n ds)
  keys_of_list_before_stay k i n [] less = refl
  keys_of_list_before_stay k i n (d ∷ ds) less =
      ap₂ (λ (place : Place) (ks : List DefinitionKey). (k, (d.name, place)) ∷ ks) (place_before_stays (record { line = i; def = n }) less) (keys_of_list_before_stay k i (n + 1) ds less)

  pub keys_of_line_before_stay : (i : ℕ) (says : Node) → i < from → map (moved_key from move) (keys_of_definitions (definitions_in_line i says)) ≡ keys_of_definitions (definitions_in_line i says)
  keys_of_line_before_stay i (node.Alias k defs) less = keys_of_list_before_stay k i 0 defs less
  keys_of_line_before_stay i node.Blank less = refl
  keys_of_line_before_stay i node.Comment less = refl
  keys_of_line_before_stay i (node.Include dir path) less = refl
  keys_of_line_before_stay i (node.Defaults scope params) less = refl
  keys_of_line_before_stay i (node.Spec users groups) less = refl

  appended_keys : (ds es : List PlacedDefinition) → map (moved_key from move) (keys_of_definitions (ds ++ es)) ≡ map (moved_key from move) (keys_of_definitions ds) ++ map (moved_key from move) (keys_of_definitions es)
  appended_keys ds es =
      ap (map (moved_key from move)) (map-append key_of_definition ds es) ∙ map-append (moved_key from move) (keys_of_definitions ds) (keys_of_definitions es)

  keys_of_lines_before_stay : (i : ℕ) (lines : List Line) → i + length lines ≤ from
      → map (moved_key from move) (keys_of_definitions (definitions_from_line_number i lines)) ≡ keys_of_definitions (definitions_from_line_number i lines)
  keys_of_lines_before_stay i [] le = refl
  keys_of_lines_before_stay i (line ∷ lines) le =
      appended_keys (definitions_in_line i line.node) (definitions_from_line_number (i + 1) lines)
      ∙ ap₂ (λ (xs : List DefinitionKey) ys. xs ++ ys) (keys_of_line_before_stay i line.node (omega (arith, le))) (keys_of_lines_before_stay (i + 1) lines (omega (arith, le)))
      ∙ sym (map-append key_of_definition (definitions_in_line i line.node) (definitions_from_line_number (i + 1) lines))

  -- ---- definitions of lines that move

  place_behind_moves : (place : Place) → from ≤ place.line → moved_place from move place ≡ record { line = place.line + move.up - move.down; def = place.def }
  place_behind_moves place le =
      let late : nat_le from place.line ≡ true = grind (arith, nat_tests, le) in
      ap (λ b. if b then record { line = place.line + move.up - move.down; def = place.def } else place) late

  keys_of_list_behind_move : (k : Kind) (i j n : ℕ) (ds : List Def) → from ≤ i → j ≡ i + move.up - move.down
      → map (moved_key from move) (keys_of_definitions (definitions_from_place k i n ds)) ≡ keys_of_definitions (definitions_from_place k j n ds)
  keys_of_list_behind_move k i j n [] le is = refl
  keys_of_list_behind_move k i j n (d ∷ ds) le is =
      ap₂ (λ (place : Place) (ks : List DefinitionKey). (k, (d.name, place)) ∷ ks)
      (place_behind_moves (record { line = i; def = n }) le ∙ ap (λ l. let place : Place = record { line = l; def = n } in place) (sym is)) (keys_of_list_behind_move k i j (n + 1) ds le is)

  pub keys_of_line_behind_move : (i j : ℕ) (says : Node) → from ≤ i → j ≡ i + move.up - move.down
      → map (moved_key from move) (keys_of_definitions (definitions_in_line i says)) ≡ keys_of_definitions (definitions_in_line j says)
  keys_of_line_behind_move i j (node.Alias k defs) le is = keys_of_list_behind_move k i j 0 defs le is
  keys_of_line_behind_move i j node.Blank le is = refl
  keys_of_line_behind_move i j node.Comment le is = refl
  keys_of_line_behind_move i j (node.Include dir path) le is = refl
  keys_of_line_behind_move i j (node.Defaults scope params) le is = refl
  keys_of_line_behind_move i j (node.Spec users groups) le is = refl

  keys_of_lines_behind_move : (i j : ℕ) (lines : List Line) → from ≤ i → j + move.down ≡ i + move.up
      → map (moved_key from move) (keys_of_definitions (definitions_from_line_number i lines)) ≡ keys_of_definitions (definitions_from_line_number j lines)
  keys_of_lines_behind_move i j [] le is = refl
  keys_of_lines_behind_move i j (line ∷ lines) le is =
      appended_keys (definitions_in_line i line.node) (definitions_from_line_number (i + 1) lines)
      ∙ ap₂ (λ (xs : List DefinitionKey) ys. xs ++ ys) (keys_of_line_behind_move i j line.node le (omega (arith, is))) (keys_of_lines_behind_move (i + 1) (j + 1) lines (omega (arith, le)) (omega (arith, is)))
      ∙ sym (map-append key_of_definition (definitions_in_line j line.node) (definitions_from_line_number (j + 1) lines))

  -- ---- lines in the place of a line

  keys_in_three_parts : (p : ℕ) (front middle behind : List Line) (i j : ℕ) → i ≡ length front → j ≡ i + length middle
      → keys_of_definitions (definitions_of_lines (front ++ (middle ++ behind)))
      ≡ keys_of_definitions (definitions_of_lines front) ++ (keys_of_definitions (definitions_from_line_number i middle) ++ keys_of_definitions (definitions_from_line_number j behind))
  keys_in_three_parts p front middle behind i j first second =
      ap keys_of_definitions (definitions_of_appended_lines_are_appended 0 front (middle ++ behind))
      ∙ map-append key_of_definition (definitions_of_lines front) (definitions_from_line_number (0 + length front) (middle ++ behind))
      ∙ ap (λ n. keys_of_definitions (definitions_of_lines front) ++ keys_of_definitions (definitions_from_line_number n (middle ++ behind))) (omega (arith, first))
      ∙ ap (λ ds. keys_of_definitions (definitions_of_lines front) ++ keys_of_definitions ds) (definitions_of_appended_lines_are_appended i middle behind)
      ∙ ap (λ ks. keys_of_definitions (definitions_of_lines front) ++ ks) (map-append key_of_definition (definitions_from_line_number i middle) (definitions_from_line_number (i + length middle) behind))
      ∙ ap (λ n. keys_of_definitions (definitions_of_lines front) ++ (keys_of_definitions (definitions_from_line_number i middle) ++ keys_of_definitions (definitions_from_line_number n behind))) (sym second)

  pub keys_move_around_place : (p : ℕ) (lines news : List Line) (line : Line) → slice_get lines p ≡ Some line → p ≤ from → from ≤ p + 1 → length news + move.down ≡ 1 + move.up
      → keys_of_definitions (definitions_from_line_number p news) ≡ map (moved_key from move) (keys_of_definitions (definitions_in_line p line.node))
      → keys_of_definitions (definitions_of_lines (with_items_in_place p news lines)) ≡ map (moved_key from move) (keys_of_definitions (definitions_of_lines lines))
  keys_move_around_place p lines news line at low high count here =
      let within : p < length lines = slice_get_within lines p line at in
      let size : length (take p lines) ≡ p = length-take-le p lines (omega (arith, within)) in
      let front : List Line = take p lines in
      let behind : List Line = drop (suc p) lines in
      let olds : keys_of_definitions (definitions_of_lines lines)
      ≡ keys_of_definitions (definitions_of_lines front) ++ (keys_of_definitions (definitions_from_line_number p (line ∷ [])) ++ keys_of_definitions (definitions_from_line_number (p + 1) behind)) =
      ap (λ ls. keys_of_definitions (definitions_of_lines ls)) (sym (list_splits_at_item lines p line at)) ∙ keys_in_three_parts p front (line ∷ []) behind p (p + 1) (sym size) refl in
      keys_in_three_parts p front news behind p (p + length news) (sym size) refl
      ∙ ap₂ (λ (xs : List DefinitionKey) ys. xs ++ ys) (sym (keys_of_lines_before_stay 0 front (omega (arith, size, low))))
      (ap₂ (λ (xs : List DefinitionKey) ys. xs ++ ys) (here ∙ ap (λ ds. map (moved_key from move) (keys_of_definitions ds)) (sym (append-nil (definitions_in_line p line.node))))
      (sym (keys_of_lines_behind_move (p + 1) (p + length news) behind high (omega (arith, count)))))
      ∙ ap (λ ks. map (moved_key from move) (keys_of_definitions (definitions_of_lines front)) ++ ks)
      (sym (map-append (moved_key from move) (keys_of_definitions (definitions_from_line_number p (line ∷ []))) (keys_of_definitions (definitions_from_line_number (p + 1) behind))))
      ∙ sym (map-append (moved_key from move) (keys_of_definitions (definitions_of_lines front)) (keys_of_definitions (definitions_from_line_number p (line ∷ [])) ++ keys_of_definitions (definitions_from_line_number (p + 1) behind)))
      ∙ ap (map (moved_key from move)) (sym olds)
