-- Notes line by line are those of the whole.
use Rattle.sudoers_check.proofs.Common.{Atom, Bool, Def, Kind, Line, List, ListHasElement, ListedMember, Member, Mention, Node, None, Note, Option, PlacedDefinition, AreKeysOfUndefinedMentions, Some, WalkLineSpot}
use Rattle.sudoers_check.proofs.Common.{WalkState, [], ap, append-nil, append_assoc, ap₂, arith, bytes_eq, bytes_eq-Decides, definition_count_in_node, definition_place_of_name, definitions_from_line_number}
use Rattle.sudoers_check.proofs.Common.{definitions_from_place, definitions_in_line, definitions_of_lines, definitions_with_mark, drop, false, first_definition_of, if◌then◌else◌, inl, inr, is_equal_kind}
use Rattle.sudoers_check.proofs.Common.{is_first_mention_of_undefined, is_mention_of_name, is_some, length, length-drop, length-take, line_of_row, lines_of_rows, list_any, listed_members_of_node, map, map-append}
use Rattle.sudoers_check.proofs.Common.{mention_of_atom, mentions_in_lines_numbered_from, mentions_in_node, new_undefined_mentions, note_in_line_text, note_in_walk_line, note_of_definition, note_of_mention}
use Rattle.sudoers_check.proofs.Common.{notes_of_definitions_in_line_with_mark, notes_of_definitions_in_lines_with_mark, notes_of_definitions_in_line_node_with_mark, notes_of_mentions, option_map, refl, slice_get, slice_index_or, spot_of_walk_line, suc, sym}
use Rattle.sudoers_check.proofs.Common.{ltb, ltb-true, take, text_of_line_at, true, undefined_mentions_of_lines, undefined_notes_in_lines, unmarked_places_in_line_counted_from, unmarked_places_in_lines, unmarked_places_in_line_node, zero, ℕ, ◌++◌, ◌+◌}
use Rattle.sudoers_check.proofs.Common.{◌<◌, ◌||◌, ◌∙◌, ◌∷◌, ◌≡◌}
use Rattle.std.specs.Option.{is_some as is_there}
use mathlib.Core.Bool.{beq}
use Rattle.sudoers_grammar.specs.declared.node.Atom.TheVariants as atom
use Rattle.sudoers_grammar.specs.Node as node
use Rattle.sudoers_line_rows.specs.declared.row_lists.RowsOfTable.{RowsOfTable}
use Rattle.sudoers_tree.specs.declared.line.LineRow.{LineRow}
use Rattle.sudoers_tree.specs.declared.place.Place.{Place}
use Rattle.sudoers_check.proofs.Named.{true_conjunction_has_true_parts, truth_value_is_not_true_and_false, kinds_tested_equal_are_equal, element_of_appended_is_in_either, flat_map_element_is_of_some_part}
use Rattle.sudoers_check.proofs.Located.{definition_count_in_lines, definitions_in_line_are_counted_by_node}

-- ---- lists

pub list_from_index_is_element_and_rest : {X : Type 0} (xs : List X) (i : ℕ) (x : X) → i < length xs → x ≡ slice_index_or xs i x → drop i xs ≡ x ∷ drop (i + 1) xs
list_from_index_is_element_and_rest [] i x l e = absurd (omega arith)
list_from_index_is_element_and_rest (y ∷ ys) zero x l e = ap (λ z. z ∷ ys) (sym e)
list_from_index_is_element_and_rest (y ∷ ys) (suc n) x l e =
    let next : suc (n + 1) ≡ suc n + 1 = omega arith in list_from_index_is_element_and_rest ys n x (omega (arith, l)) e ∙ ap (λ k. x ∷ drop k (y ∷ ys)) next

-- ---- the names that were seen

mention_test_over_pushed_is_either : (k : Kind) (name : List ℕ) (before : List Mention) (m : Mention) → list_any (is_mention_of_name k name) (before ++ m ∷ []) ≡ list_any (is_mention_of_name k name) before || is_mention_of_name k name m
mention_test_over_pushed_is_either k name [] m = or_none (is_mention_of_name k name m)
  where
    or_none : (b : Bool) → (b || false) ≡ b
    or_none true = refl
    or_none false = refl
mention_test_over_pushed_is_either k name (x ∷ before) m = ap (λ b. is_mention_of_name k name x || b) (mention_test_over_pushed_is_either k name before m) ∙ assoc (is_mention_of_name k name x) (list_any (is_mention_of_name k name) before) (is_mention_of_name k name m)
  where
    assoc : (a b c : Bool) → (a || (b || c)) ≡ ((a || b) || c)
    assoc true b c = refl
    assoc false b c = refl

-- a name that is defined is none that is not
pub defined_mention_keeps_seen_keys_matching : (ds : List PlacedDefinition) (keys : List (List ℕ)) (before : List Mention) (m : Mention) → is_some (first_definition_of m.kind m.name ds) ≡ true → AreKeysOfUndefinedMentions ds keys before
    → AreKeysOfUndefinedMentions ds keys (before ++ m ∷ [])
defined_mention_keeps_seen_keys_matching ds keys before m name_with_place_is_defined agrees k name none =
    agrees k name none ∙ sym (mention_test_over_pushed_is_either k name before m ∙ ap (λ b. list_any (is_mention_of_name k name) before || b) (other (is_mention_of_name k name m) refl) ∙ or_none (list_any (is_mention_of_name k name) before))
  where
    or_none : (b : Bool) → (b || false) ≡ b
    or_none true = refl
    or_none false = refl

    other : (b : Bool) → is_mention_of_name k name m ≡ b → b ≡ false
    other false e = refl
    other true e =
        let parts = true_conjunction_has_true_parts (is_equal_kind k m.kind) (bytes_eq name m.name) e in
        let same_k : k ≡ m.kind = kinds_tested_equal_are_equal k m.kind parts.0 in
        let same_n : name ≡ m.name = (bytes_eq-Decides name m.name).0 parts.1 in
        absurd (truth_value_is_not_true_and_false (is_some (first_definition_of m.kind m.name ds)) name_with_place_is_defined
        (ap (λ j. is_some (first_definition_of j m.name ds)) (sym same_k) ∙ ap (λ n. is_some (first_definition_of k n ds)) (sym same_n) ∙ ap is_some none))

place_found_implies_definition_found : (r : Option Place) (o : Option PlacedDefinition) → r ≡ option_map (λ (d : PlacedDefinition). d.place) o → true ≡ is_there r → is_some o ≡ true
place_found_implies_definition_found r None e t = absurd (truth_value_is_not_true_and_false (is_there r) (sym t) (ap is_there e))
place_found_implies_definition_found r (Some d) e t = refl

-- a name whose place is told is defined
pub name_with_place_is_defined : (r : Option Place) (k : Kind) (name : List ℕ) (lines : List Line) → r ≡ definition_place_of_name k name lines → true ≡ is_there r → is_some (first_definition_of k name (definitions_of_lines lines)) ≡ true
name_with_place_is_defined r k name lines e t = place_found_implies_definition_found r (first_definition_of k name (definitions_of_lines lines)) e t

-- ---- one mention more

pub first_undefined_mention_is_noted : (ds : List PlacedDefinition) (now : List Mention) (m : Mention) (rest : List Mention) (at : WalkLineSpot) (text : List ℕ) (notes : List Note) (note : Note)
    → is_first_mention_of_undefined ds now m ≡ true → note ≡ note_in_line_text at text m.kind m.name m.span.start
    → (notes ++ note ∷ []) ++ notes_of_mentions at text (new_undefined_mentions ds (now ++ m ∷ []) rest) ≡ notes ++ notes_of_mentions at text (new_undefined_mentions ds now (m ∷ rest))
first_undefined_mention_is_noted ds now m rest at text notes note first is =
    append_assoc notes (note ∷ []) (notes_of_mentions at text (new_undefined_mentions ds (now ++ m ∷ []) rest))
    ∙ ap (λ n. notes ++ n ∷ notes_of_mentions at text (new_undefined_mentions ds (now ++ m ∷ []) rest)) is
    ∙ ap (λ b. notes ++ notes_of_mentions at text ((if b then m ∷ [] else []) ++ new_undefined_mentions ds (now ++ m ∷ []) rest)) (sym first)

pub other_mention_is_not_noted : (ds : List PlacedDefinition) (now : List Mention) (m : Mention) (rest : List Mention) (at : WalkLineSpot) (text : List ℕ) (notes : List Note)
    → is_first_mention_of_undefined ds now m ≡ false
    → notes ++ notes_of_mentions at text (new_undefined_mentions ds (now ++ m ∷ []) rest) ≡ notes ++ notes_of_mentions at text (new_undefined_mentions ds now (m ∷ rest))
other_mention_is_not_noted ds now m rest at text notes other =
    ap (λ b. notes ++ notes_of_mentions at text ((if b then m ∷ [] else []) ++ new_undefined_mentions ds (now ++ m ∷ []) rest)) (sym other)

-- ---- lines one after another

-- the row with this number holds the line with this number
pub row_at_number_holds_line_at_number : (lines : List Line) (held : RowsOfTable LineRow) (i : ℕ) (none : LineRow) (line : Line) → lines_of_rows held ≡ lines → i < length held.rows.now
    → line ≡ line_of_row held.tables.now (slice_index_or held.rows.now i none) → slice_get lines i ≡ Some line
row_at_number_holds_line_at_number lines held i none line same within shown = ap (λ ls. slice_get ls i) (sym same) ∙ stands held.rows.now i within ∙ ap (λ l. Some l) (sym shown)
  where
    stands : (rows : List LineRow) (i : ℕ) → i < length rows → slice_get (map (line_of_row held.tables.now) rows) i ≡ Some (line_of_row held.tables.now (slice_index_or rows i none))
    stands [] i l = absurd (omega arith)
    stands (r ∷ rows) zero l = refl
    stands (r ∷ rows) (suc i) l = stands rows i (omega (arith, l))

-- a row that was looked up by its number holds the line with that number
pub found_row_holds_line_at_number : (lines : List Line) (held : RowsOfTable LineRow) (i : ℕ) (row : LineRow) (line : Line) → lines_of_rows held ≡ lines → true ≡ ltb i (length held.rows.now)
    → row ≡ slice_index_or held.rows.now i row → line ≡ line_of_row held.tables.now row → slice_get lines i ≡ Some line
found_row_holds_line_at_number lines held i row line same within there shown =
    row_at_number_holds_line_at_number lines held i row line same (ltb-true i (length held.rows.now) (sym within)) (shown ∙ ap (λ r. line_of_row held.tables.now r) there)

line_after_front_has_its_text : (walk : WalkState) (front : List Line) (line : Line) (rest : List Line) → front ++ line ∷ rest ≡ walk.lines → text_of_line_at walk.lines (length front) ≡ line.text
line_after_front_has_its_text walk front line rest e = ap (λ ls. text_of_line_at ls (length front)) (sym e) ∙ by front
  where
    by : (front : List Line) → text_of_line_at (front ++ line ∷ rest) (length front) ≡ line.text
    by [] = refl
    by (x ∷ front) = by front

-- the lines behind one more
front_with_line_and_rest_is_walk : (walk : WalkState) (front : List Line) (line : Line) (rest : List Line) → front ++ line ∷ rest ≡ walk.lines → (front ++ line ∷ []) ++ rest ≡ walk.lines
front_with_line_and_rest_is_walk walk front line rest e = append_assoc front (line ∷ []) rest ∙ e

pushed_line_raises_length_by_one : (front : List Line) (line : Line) → length (front ++ line ∷ []) ≡ length front + 1
pushed_line_raises_length_by_one [] line = refl
pushed_line_raises_length_by_one (x ∷ front) line = omega (arith, pushed_line_raises_length_by_one front line)

-- a note in the line with this number
note_in_text_is_note_in_walk : (walk : WalkState) (n : ℕ) (text : List ℕ) (k : Kind) (name : List ℕ) (start : ℕ) → text_of_line_at walk.lines n ≡ text
    → note_in_line_text (spot_of_walk_line walk n) text k name start ≡ note_in_walk_line walk k name n start
note_in_text_is_note_in_walk walk n text k name start e = ap (λ t. note_in_line_text (spot_of_walk_line walk n) t k name start) (sym e)

-- ---- definitions with a mark

pub no_definitions_have_no_notes : (wanted : Bool) (at : WalkLineSpot) (text : List ℕ) (k : Kind) (marks : List Bool) → notes_of_definitions_in_line_with_mark wanted at text k marks [] ≡ []
no_definitions_have_no_notes wanted at text k [] = refl
no_definitions_have_no_notes wanted at text k (m ∷ ms) = refl

-- where no mark is the wanted one
pub unwanted_marks_have_no_notes : (wanted : Bool) (at : WalkLineSpot) (text : List ℕ) (marks : List Bool) (says : Node) → list_any (λ m. beq m wanted) marks ≡ false
    → notes_of_definitions_in_line_node_with_mark wanted at text marks says ≡ []
unwanted_marks_have_no_notes wanted at text marks (node.Alias k defs) e = by wanted marks defs e
  where
    by : (w : Bool) (ms : List Bool) (ds : List Def) → list_any (λ m. beq m w) ms ≡ false → notes_of_definitions_in_line_with_mark w at text k ms ds ≡ []
    by w [] ds none = refl
    by w (m ∷ ms) [] none = refl
    by true (true ∷ ms) (d ∷ ds) none = absurd cc
    by true (false ∷ ms) (d ∷ ds) none = by true ms ds none
    by false (true ∷ ms) (d ∷ ds) none = by false ms ds none
    by false (false ∷ ms) (d ∷ ds) none = absurd cc
unwanted_marks_have_no_notes wanted at text marks node.Blank e = refl
unwanted_marks_have_no_notes wanted at text marks node.Comment e = refl
unwanted_marks_have_no_notes wanted at text marks (node.Include dir path) e = refl
unwanted_marks_have_no_notes wanted at text marks (node.Defaults scope params) e = refl
unwanted_marks_have_no_notes wanted at text marks (node.Spec users groups) e = refl

no_definitions_are_picked_from_none : (wanted : Bool) (marks : List Bool) → definitions_with_mark wanted marks [] ≡ []
no_definitions_are_picked_from_none wanted [] = refl
no_definitions_are_picked_from_none wanted (m ∷ ms) = refl

pub unwanted_marks_pick_no_definitions : (wanted : Bool) (marks : List Bool) (ds : List PlacedDefinition) → list_any (λ m. beq m wanted) marks ≡ false → definitions_with_mark wanted marks ds ≡ []
unwanted_marks_pick_no_definitions wanted [] ds e = refl
unwanted_marks_pick_no_definitions wanted (m ∷ ms) [] e = refl
unwanted_marks_pick_no_definitions true (true ∷ ms) (d ∷ ds) e = absurd cc
unwanted_marks_pick_no_definitions true (false ∷ ms) (d ∷ ds) e = unwanted_marks_pick_no_definitions true ms ds e
unwanted_marks_pick_no_definitions false (true ∷ ms) (d ∷ ds) e = unwanted_marks_pick_no_definitions false ms ds e
unwanted_marks_pick_no_definitions false (false ∷ ms) (d ∷ ds) e = absurd cc

definitions_picked_from_appended_are_appended : (wanted : Bool) (marks : List Bool) (xs ys : List PlacedDefinition) → definitions_with_mark wanted marks (xs ++ ys) ≡ definitions_with_mark wanted (take (length xs) marks) xs ++ definitions_with_mark wanted (drop (length xs) marks) ys
definitions_picked_from_appended_are_appended wanted [] xs ys = none xs
  where
    none : (zs : List PlacedDefinition) → [] ≡ definitions_with_mark wanted (take (length zs) []) zs ++ definitions_with_mark wanted (drop (length zs) []) ys
    none [] = refl
    none (z ∷ zs) = refl
definitions_picked_from_appended_are_appended wanted (m ∷ ms) [] ys = ap (λ ps. ps) refl
definitions_picked_from_appended_are_appended true (true ∷ ms) (x ∷ xs) ys = ap (λ zs. x ∷ zs) (definitions_picked_from_appended_are_appended true ms xs ys)
definitions_picked_from_appended_are_appended true (false ∷ ms) (x ∷ xs) ys = definitions_picked_from_appended_are_appended true ms xs ys
definitions_picked_from_appended_are_appended false (true ∷ ms) (x ∷ xs) ys = definitions_picked_from_appended_are_appended false ms xs ys
definitions_picked_from_appended_are_appended false (false ∷ ms) (x ∷ xs) ys = ap (λ zs. x ∷ zs) (definitions_picked_from_appended_are_appended false ms xs ys)

definition_notes_in_line_are_of_picked : (wanted : Bool) (walk : WalkState) (line : ℕ) (text : List ℕ) (k : Kind) (n : ℕ) (marks : List Bool) (defs : List Def) → text_of_line_at walk.lines line ≡ text
    → notes_of_definitions_in_line_with_mark wanted (spot_of_walk_line walk line) text k marks defs ≡ map (note_of_definition walk) (definitions_with_mark wanted marks (definitions_from_place k line n defs))
definition_notes_in_line_are_of_picked wanted walk line text k n [] defs e = refl
definition_notes_in_line_are_of_picked wanted walk line text k n (m ∷ ms) [] e = refl
definition_notes_in_line_are_of_picked true walk line text k n (true ∷ ms) (d ∷ defs) e = ap₂ (λ x xs. x ∷ xs) (note_in_text_is_note_in_walk walk line text k d.name d.start e) (definition_notes_in_line_are_of_picked true walk line text k (n + 1) ms defs e)
definition_notes_in_line_are_of_picked true walk line text k n (false ∷ ms) (d ∷ defs) e = definition_notes_in_line_are_of_picked true walk line text k (n + 1) ms defs e
definition_notes_in_line_are_of_picked false walk line text k n (true ∷ ms) (d ∷ defs) e = definition_notes_in_line_are_of_picked false walk line text k (n + 1) ms defs e
definition_notes_in_line_are_of_picked false walk line text k n (false ∷ ms) (d ∷ defs) e = ap₂ (λ x xs. x ∷ xs) (note_in_text_is_note_in_walk walk line text k d.name d.start e) (definition_notes_in_line_are_of_picked false walk line text k (n + 1) ms defs e)

notes_in_node_are_of_picked_definitions : (wanted : Bool) (walk : WalkState) (line : ℕ) (text : List ℕ) (marks : List Bool) (says : Node) → text_of_line_at walk.lines line ≡ text
    → notes_of_definitions_in_line_node_with_mark wanted (spot_of_walk_line walk line) text marks says ≡ map (note_of_definition walk) (definitions_with_mark wanted marks (definitions_in_line line says))
notes_in_node_are_of_picked_definitions wanted walk line text marks (node.Alias k defs) e = definition_notes_in_line_are_of_picked wanted walk line text k 0 marks defs e
notes_in_node_are_of_picked_definitions wanted walk line text marks node.Blank e = ap (map (note_of_definition walk)) (sym (no_definitions_are_picked_from_none wanted marks))
notes_in_node_are_of_picked_definitions wanted walk line text marks node.Comment e = ap (map (note_of_definition walk)) (sym (no_definitions_are_picked_from_none wanted marks))
notes_in_node_are_of_picked_definitions wanted walk line text marks (node.Include dir path) e = ap (map (note_of_definition walk)) (sym (no_definitions_are_picked_from_none wanted marks))
notes_in_node_are_of_picked_definitions wanted walk line text marks (node.Defaults scope params) e = ap (map (note_of_definition walk)) (sym (no_definitions_are_picked_from_none wanted marks))
notes_in_node_are_of_picked_definitions wanted walk line text marks (node.Spec users groups) e = ap (map (note_of_definition walk)) (sym (no_definitions_are_picked_from_none wanted marks))

notes_in_later_lines_are_of_picked : (wanted : Bool) (walk : WalkState) (front rest : List Line) (marks : List Bool) → front ++ rest ≡ walk.lines
    → notes_of_definitions_in_lines_with_mark wanted walk (length front) marks rest ≡ map (note_of_definition walk) (definitions_with_mark wanted marks (definitions_from_line_number (length front) rest))
notes_in_later_lines_are_of_picked wanted walk front [] marks e = ap (map (note_of_definition walk)) (sym (no_definitions_are_picked_from_none wanted marks))
notes_in_later_lines_are_of_picked wanted walk front (line ∷ rest) marks e =
    let n : ℕ = length front in
    let count : length (definitions_in_line n line.node) ≡ definition_count_in_node line.node = definitions_in_line_are_counted_by_node n line.node in
    let N = note_of_definition walk in
    let behind : List Bool = drop (definition_count_in_node line.node) marks in
    let first = notes_in_node_are_of_picked_definitions wanted walk n line.text (take (definition_count_in_node line.node) marks) line.node (line_after_front_has_its_text walk front line rest e) in
    let more : notes_of_definitions_in_lines_with_mark wanted walk (n + 1) behind rest ≡ map N (definitions_with_mark wanted behind (definitions_from_line_number (n + 1) rest)) =
    ap (λ i. notes_of_definitions_in_lines_with_mark wanted walk i behind rest) (sym (pushed_line_raises_length_by_one front line))
    ∙ notes_in_later_lines_are_of_picked wanted walk (front ++ line ∷ []) rest behind (front_with_line_and_rest_is_walk walk front line rest e)
    ∙ ap (λ i. map N (definitions_with_mark wanted behind (definitions_from_line_number i rest))) (pushed_line_raises_length_by_one front line) in
    ap₂ (λ xs ys. xs ++ ys) first more
    ∙ sym (map-append N (definitions_with_mark wanted (take (definition_count_in_node line.node) marks) (definitions_in_line n line.node)) (definitions_with_mark wanted behind (definitions_from_line_number (n + 1) rest)))
    ∙ ap (λ i. map N (definitions_with_mark wanted (take i marks) (definitions_in_line n line.node) ++ definitions_with_mark wanted (drop i marks) (definitions_from_line_number (n + 1) rest))) (sym count)
    ∙ ap (map N) (sym (definitions_picked_from_appended_are_appended wanted marks (definitions_in_line n line.node) (definitions_from_line_number (n + 1) rest)))

pub notes_in_all_lines_are_of_picked : (wanted : Bool) (marks : List Bool) (walk : WalkState)
    → notes_of_definitions_in_lines_with_mark wanted walk 0 marks walk.lines ≡ map (note_of_definition walk) (definitions_with_mark wanted marks (definitions_of_lines walk.lines))
notes_in_all_lines_are_of_picked wanted marks walk = notes_in_later_lines_are_of_picked wanted walk [] walk.lines marks refl

-- ---- undefined names

undefined_mentions_of_appended_are_appended : (ds : List PlacedDefinition) (before xs ys : List Mention) → new_undefined_mentions ds before (xs ++ ys) ≡ new_undefined_mentions ds before xs ++ new_undefined_mentions ds (before ++ xs) ys
undefined_mentions_of_appended_are_appended ds before [] ys = ap (λ b. new_undefined_mentions ds b ys) (sym (append-nil before))
undefined_mentions_of_appended_are_appended ds before (x ∷ xs) ys =
    ap (λ zs. (if is_first_mention_of_undefined ds before x then x ∷ [] else []) ++ zs)
    (undefined_mentions_of_appended_are_appended ds (before ++ x ∷ []) xs ys ∙ ap (λ b. new_undefined_mentions ds (before ++ x ∷ []) xs ++ new_undefined_mentions ds b ys) (append_assoc before (x ∷ []) xs))
    ∙ sym (append_assoc (if is_first_mention_of_undefined ds before x then x ∷ [] else []) (new_undefined_mentions ds (before ++ x ∷ []) xs) (new_undefined_mentions ds (before ++ x ∷ xs) ys))

-- notes of undefined names in the line with this number
notes_of_mentions_in_line_are_mapped : (walk : WalkState) (n : ℕ) (text : List ℕ) (ms : List Mention) → text_of_line_at walk.lines n ≡ text → ((m : Mention) → ListHasElement ms m → m.span.line ≡ n)
    → notes_of_mentions (spot_of_walk_line walk n) text ms ≡ map (note_of_mention walk) ms
notes_of_mentions_in_line_are_mapped walk n text [] e on = refl
notes_of_mentions_in_line_are_mapped walk n text (m ∷ ms) e on =
    ap₂ (λ x xs. x ∷ xs)
    (note_in_text_is_note_in_walk walk n text m.kind m.name m.span.start e ∙ ap (λ i. note_in_walk_line walk m.kind m.name i m.span.start) (sym (on m (inl refl))))
    (notes_of_mentions_in_line_are_mapped walk n text ms e (λ x h. on x (inr h)))

-- each mention of a line stands in it
mention_of_atom_is_on_its_line : (n : ℕ) (k : Kind) (m : Member) (a : Atom) (x : Mention) → ListHasElement (mention_of_atom n k m a) x → x.span.line ≡ n
mention_of_atom_is_on_its_line n k m (atom.Alias name) x (inl e) = ap (λ (y : Mention). y.span.line) (sym e)
mention_of_atom_is_on_its_line n k m (atom.Alias name) x (inr h) = absurd h
mention_of_atom_is_on_its_line n k m atom.All x h = absurd h
mention_of_atom_is_on_its_line n k m (atom.Name v) x h = absurd h
mention_of_atom_is_on_its_line n k m (atom.Id v) x h = absurd h
mention_of_atom_is_on_its_line n k m (atom.Group v) x h = absurd h
mention_of_atom_is_on_its_line n k m (atom.GroupId v) x h = absurd h
mention_of_atom_is_on_its_line n k m (atom.NonUnix v) x h = absurd h
mention_of_atom_is_on_its_line n k m (atom.Netgroup v) x h = absurd h
mention_of_atom_is_on_its_line n k m (atom.Host v) x h = absurd h
mention_of_atom_is_on_its_line n k m (atom.Address v) x h = absurd h
mention_of_atom_is_on_its_line n k m (atom.Network v w) x h = absurd h
mention_of_atom_is_on_its_line n k m atom.Listing x h = absurd h
mention_of_atom_is_on_its_line n k m (atom.Path v w) x h = absurd h
mention_of_atom_is_on_its_line n k m (atom.Sudoedit v) x h = absurd h

mention_in_node_is_on_its_line : (n : ℕ) (says : Node) (x : Mention) → ListHasElement (mentions_in_node n says) x → x.span.line ≡ n
mention_in_node_is_on_its_line n says x h =
    let from = flat_map_element_is_of_some_part (λ (l : ListedMember). mention_of_atom n l.0 l.1 l.1.atom) (listed_members_of_node says) x h in
    mention_of_atom_is_on_its_line n from.0.0 from.0.1 from.0.1.atom x from.2

-- undefined ones are mentions
undefined_mention_is_a_mention : (ds : List PlacedDefinition) (before ms : List Mention) (x : Mention) → ListHasElement (new_undefined_mentions ds before ms) x → ListHasElement ms x
undefined_mention_is_a_mention ds before [] x h = absurd h
undefined_mention_is_a_mention ds before (m ∷ ms) x h = elim (element_of_appended_is_in_either (if is_first_mention_of_undefined ds before m then m ∷ [] else []) (new_undefined_mentions ds (before ++ m ∷ []) ms) x h) as (λ _. ListHasElement (m ∷ ms) x) [
  | inl first ↦ by (is_first_mention_of_undefined ds before m) first
  | inr later ↦ inr (undefined_mention_is_a_mention ds (before ++ m ∷ []) ms x later)
]
  where
    by : (b : Bool) → ListHasElement (if b then m ∷ [] else []) x → ListHasElement (m ∷ ms) x
    by true (inl e) = inl e
    by true (inr h) = absurd h
    by false h = absurd h

undefined_notes_in_later_lines_are_mapped : (ds : List PlacedDefinition) (walk : WalkState) (front rest : List Line) (before : List Mention) → front ++ rest ≡ walk.lines
    → undefined_notes_in_lines ds walk before (length front) rest ≡ map (note_of_mention walk) (new_undefined_mentions ds before (mentions_in_lines_numbered_from (length front) rest))
undefined_notes_in_later_lines_are_mapped ds walk front [] before e = refl
undefined_notes_in_later_lines_are_mapped ds walk front (line ∷ rest) before e =
    let n : ℕ = length front in
    let here : List Mention = mentions_in_node n line.node in
    let N = note_of_mention walk in
    let first = notes_of_mentions_in_line_are_mapped walk n line.text (new_undefined_mentions ds before here) (line_after_front_has_its_text walk front line rest e)
    (λ x h. mention_in_node_is_on_its_line n line.node x (undefined_mention_is_a_mention ds before here x h)) in
    let more : undefined_notes_in_lines ds walk (before ++ here) (n + 1) rest ≡ map N (new_undefined_mentions ds (before ++ here) (mentions_in_lines_numbered_from (n + 1) rest)) =
    ap (λ i. undefined_notes_in_lines ds walk (before ++ here) i rest) (sym (pushed_line_raises_length_by_one front line))
    ∙ undefined_notes_in_later_lines_are_mapped ds walk (front ++ line ∷ []) rest (before ++ here) (front_with_line_and_rest_is_walk walk front line rest e)
    ∙ ap (λ i. map N (new_undefined_mentions ds (before ++ here) (mentions_in_lines_numbered_from i rest))) (pushed_line_raises_length_by_one front line) in
    ap₂ (λ xs ys. xs ++ ys) first more
    ∙ sym (map-append N (new_undefined_mentions ds before here) (new_undefined_mentions ds (before ++ here) (mentions_in_lines_numbered_from (n + 1) rest)))
    ∙ ap (map N) (sym (undefined_mentions_of_appended_are_appended ds before here (mentions_in_lines_numbered_from (n + 1) rest)))

pub undefined_notes_of_walk_are_mapped : (walk : WalkState)
    → undefined_notes_in_lines (definitions_of_lines walk.lines) walk [] 0 walk.lines ≡ map (note_of_mention walk) (undefined_mentions_of_lines walk.lines)
undefined_notes_of_walk_are_mapped walk = undefined_notes_in_later_lines_are_mapped (definitions_of_lines walk.lines) walk [] walk.lines [] refl

-- ---- places of definitions without a mark

unmarked_places_from_place_are_of_picked : (line : ℕ) (k : Kind) (n : ℕ) (marks : List Bool) (defs : List Def) → length marks ≡ length defs
    → unmarked_places_in_line_counted_from line k n marks ≡ map (λ (d : PlacedDefinition). (d.kind, d.place)) (definitions_with_mark false marks (definitions_from_place k line n defs))
unmarked_places_from_place_are_of_picked line k n [] defs l = refl
unmarked_places_from_place_are_of_picked line k n (m ∷ ms) [] l = absurd (omega (arith, l))
unmarked_places_from_place_are_of_picked line k n (true ∷ ms) (d ∷ defs) l = unmarked_places_from_place_are_of_picked line k (n + 1) ms defs (omega (arith, l))
unmarked_places_from_place_are_of_picked line k n (false ∷ ms) (d ∷ defs) l = ap (λ ps. (k, record { line = line; def = n }) ∷ ps) (unmarked_places_from_place_are_of_picked line k (n + 1) ms defs (omega (arith, l)))

unmarked_places_in_node_are_of_picked : (line : ℕ) (marks : List Bool) (says : Node) → length marks ≡ definition_count_in_node says
    → unmarked_places_in_line_node line marks says ≡ map (λ (d : PlacedDefinition). (d.kind, d.place)) (definitions_with_mark false marks (definitions_in_line line says))
unmarked_places_in_node_are_of_picked line marks (node.Alias k defs) l = unmarked_places_from_place_are_of_picked line k 0 marks defs l
unmarked_places_in_node_are_of_picked line marks node.Blank l = ap (map (λ (d : PlacedDefinition). (d.kind, d.place))) (sym (no_definitions_are_picked_from_none false marks))
unmarked_places_in_node_are_of_picked line marks node.Comment l = ap (map (λ (d : PlacedDefinition). (d.kind, d.place))) (sym (no_definitions_are_picked_from_none false marks))
unmarked_places_in_node_are_of_picked line marks (node.Include dir path) l = ap (map (λ (d : PlacedDefinition). (d.kind, d.place))) (sym (no_definitions_are_picked_from_none false marks))
unmarked_places_in_node_are_of_picked line marks (node.Defaults scope params) l = ap (map (λ (d : PlacedDefinition). (d.kind, d.place))) (sym (no_definitions_are_picked_from_none false marks))
unmarked_places_in_node_are_of_picked line marks (node.Spec users groups) l = ap (map (λ (d : PlacedDefinition). (d.kind, d.place))) (sym (no_definitions_are_picked_from_none false marks))

pub unmarked_places_in_lines_are_of_picked : (n : ℕ) (marks : List Bool) (lines : List Line) → length marks ≡ definition_count_in_lines lines
    → unmarked_places_in_lines n marks lines ≡ map (λ (d : PlacedDefinition). (d.kind, d.place)) (definitions_with_mark false marks (definitions_from_line_number n lines))
unmarked_places_in_lines_are_of_picked n marks [] l = ap (map (λ (d : PlacedDefinition). (d.kind, d.place))) (sym (no_definitions_are_picked_from_none false marks))
unmarked_places_in_lines_are_of_picked n marks (line ∷ lines) l =
    let count : length (definitions_in_line n line.node) ≡ definition_count_in_node line.node = definitions_in_line_are_counted_by_node n line.node in
    let front : length (take (definition_count_in_node line.node) marks) ≡ definition_count_in_node line.node = omega (arith, l, length-take (definition_count_in_node line.node) marks) in
    let behind : length (drop (definition_count_in_node line.node) marks) ≡ definition_count_in_lines lines = omega (arith, l, length-drop (definition_count_in_node line.node) marks) in
    ap₂ (λ xs ys. xs ++ ys) (unmarked_places_in_node_are_of_picked n (take (definition_count_in_node line.node) marks) line.node front) (unmarked_places_in_lines_are_of_picked (n + 1) (drop (definition_count_in_node line.node) marks) lines behind)
    ∙ sym (map-append (λ (d : PlacedDefinition). (d.kind, d.place)) (definitions_with_mark false (take (definition_count_in_node line.node) marks) (definitions_in_line n line.node)) (definitions_with_mark false (drop (definition_count_in_node line.node) marks) (definitions_from_line_number (n + 1) lines)))
    ∙ ap (λ k. map (λ (d : PlacedDefinition). (d.kind, d.place)) (definitions_with_mark false (take k marks) (definitions_in_line n line.node) ++ definitions_with_mark false (drop k marks) (definitions_from_line_number (n + 1) lines))) (sym count)
    ∙ ap (map (λ (d : PlacedDefinition). (d.kind, d.place))) (sym (definitions_picked_from_appended_are_appended false marks (definitions_in_line n line.node) (definitions_from_line_number (n + 1) lines)))
