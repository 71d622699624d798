-- How the names change that lines define, where the lines change in their places.
use Rattle.sudoers_tree.proofs.Common.{All, ChangesDefinedNames, Def, IsDefinitionRenamed, IsLastingLineRow, Kind, LineRow, List, Node, Ok, Place, PlacedDefinition, RenamesOneDefinition, Tables, []}
use Rattle.sudoers_tree.proofs.Common.{alias_definition_in_tables, ap, append_assoc, ap₂, arith, definitions_from_place, definitions_in_line, definitions_of_lines, get_or, key_of_definition, keys_of_definitions}
use Rattle.sudoers_tree.proofs.Common.{length, length-map, length-take-le, line_of_row, map, map-append, node_in_tables, outcome_of_line, refl, subst, sym, take, take_more, text_in_tables, ℕ, ◌++◌, ◌+◌, ◌<◌, ◌∙◌}
use Rattle.sudoers_tree.proofs.Common.{◌∷◌, ◌≡◌}
use Rattle.sudoers_line_rows.specs.declared.rows.AliasDefinitionRow.{AliasDefinitionRow}
use Rattle.sudoers_tree.specs.declared.defined_names_change.DefinedNamesChange.{DefinedNamesChange}
use Rattle.sudoers_tree.specs.declared.defined_names_change.DefinedNamesChange.TheVariants.{Nothing, One, Other}
use Rattle.sudoers_tree.proofs.Joined.{definitions_with_last_line_are_appended}

-- ---- definitions, and those behind them

equal_keys_of_parts_imply_equal_keys : (ds es more others : List PlacedDefinition) → keys_of_definitions es ≡ keys_of_definitions ds → keys_of_definitions others ≡ keys_of_definitions more
    → keys_of_definitions (es ++ others) ≡ keys_of_definitions (ds ++ more)
equal_keys_of_parts_imply_equal_keys ds es more others front behind =
    map-append key_of_definition es others ∙ ap₂ (λ xs ys. xs ++ ys) front behind ∙ sym (map-append key_of_definition ds more)

renaming_after_same_keys_renames_one : (ds es more others : List PlacedDefinition) → keys_of_definitions es ≡ keys_of_definitions ds → RenamesOneDefinition more others → RenamesOneDefinition (ds ++ more) (es ++ others)
renaming_after_same_keys_renames_one ds es more others same r = record {
  before = ds ++ r.before;
  old = r.old;
  after = r.after;
  front = es ++ r.front;
  new = r.new;
  behind = r.behind;
  olds = ap (λ xs. ds ++ xs) r.olds ∙ sym (append_assoc ds r.before (r.old ∷ r.after));
  news = ap (λ xs. es ++ xs) r.news ∙ sym (append_assoc es r.front (r.new ∷ r.behind));
  same_before = equal_keys_of_parts_imply_equal_keys ds es r.before r.front same r.same_before;
  same_after = r.same_after;
  kind = r.kind;
  place = r.place;
}

renaming_before_same_keys_renames_one : (ds es more others : List PlacedDefinition) → RenamesOneDefinition ds es → keys_of_definitions others ≡ keys_of_definitions more → RenamesOneDefinition (ds ++ more) (es ++ others)
renaming_before_same_keys_renames_one ds es more others r same = record {
  before = r.before;
  old = r.old;
  after = r.after ++ more;
  front = r.front;
  new = r.new;
  behind = r.behind ++ others;
  olds = ap (λ xs. xs ++ more) r.olds ∙ append_assoc r.before (r.old ∷ r.after) more;
  news = ap (λ xs. xs ++ others) r.news ∙ append_assoc r.front (r.new ∷ r.behind) others;
  same_before = r.same_before;
  same_after = equal_keys_of_parts_imply_equal_keys r.after r.behind more others r.same_after same;
  kind = r.kind;
  place = r.place;
}

-- a change behind definitions that keep their names
pub names_change_stands_after_same_keys : (t : Tables) (change : DefinedNamesChange) (ds es more others : List PlacedDefinition) → keys_of_definitions es ≡ keys_of_definitions ds
    → ChangesDefinedNames t change more others → ChangesDefinedNames t change (ds ++ more) (es ++ others)
unfolding renaming_after_same_keys_renames_one
names_change_stands_after_same_keys t Nothing ds es more others same next = equal_keys_of_parts_imply_equal_keys ds es more others same next
names_change_stands_after_same_keys t (One place kind name fresh) ds es more others same next = record {
  one = renaming_after_same_keys_renames_one ds es more others same next.one;
  place_is = next.place_is;
  kind_is = next.kind_is;
  name_is = next.name_is;
  fresh_is = next.fresh_is;
}
names_change_stands_after_same_keys t Other ds es more others same next = tt

-- a change before definitions that keep their names
pub names_change_stands_before_same_keys : (t : Tables) (change : DefinedNamesChange) (ds es more others : List PlacedDefinition) → ChangesDefinedNames t change ds es
    → keys_of_definitions others ≡ keys_of_definitions more → ChangesDefinedNames t change (ds ++ more) (es ++ others)
unfolding renaming_before_same_keys_renames_one
names_change_stands_before_same_keys t Nothing ds es more others first same = equal_keys_of_parts_imply_equal_keys ds es more others first same
names_change_stands_before_same_keys t (One place kind name fresh) ds es more others first same = record {
  one = renaming_before_same_keys_renames_one ds es more others first.one same;
  place_is = first.place_is;
  kind_is = first.kind_is;
  name_is = first.name_is;
  fresh_is = first.fresh_is;
}
names_change_stands_before_same_keys t Other ds es more others first same = tt

-- ---- one definition

-- the definition that a row holds
abbrev pub definition_in_alias_definition_row : Tables → Kind → Place → AliasDefinitionRow → PlacedDefinition
definition_in_alias_definition_row t kind place row = record { kind = kind; place = place; def = alias_definition_in_tables t row }

pub definition_of_new_row_is_renamed_one : (t : Tables) (kind : Kind) (place : Place) (old new : AliasDefinitionRow)
    → IsDefinitionRenamed t place kind old.name new.name (definition_in_alias_definition_row t kind place old ∷ []) (definition_in_alias_definition_row t kind place new ∷ [])
definition_of_new_row_is_renamed_one t kind place old new = record {
  one = record {
    before = [];
    old = definition_in_alias_definition_row t kind place old;
    after = [];
    front = [];
    new = definition_in_alias_definition_row t kind place new;
    behind = [];
    olds = refl;
    news = refl;
    same_before = refl;
    same_after = refl;
    kind = refl;
    place = refl;
  };
  place_is = refl;
  kind_is = refl;
  name_is = refl;
  fresh_is = refl;
}

-- ---- one more definition of a line

definitions_from_place_append_last : (k : Kind) (line n : ℕ) (xs : List Def) (x : Def)
    → definitions_from_place k line n (xs ++ x ∷ [])
    ≡ definitions_from_place k line n xs ++ record { kind = k; place = record { line = line; def = n + length xs }; def = x } ∷ []
definitions_from_place_append_last k line n [] x =
    ap (λ m. let d : PlacedDefinition = record { kind = k; place = record { line = line; def = m }; def = x } in d ∷ []) (omega arith)
definitions_from_place_append_last k line n (y ∷ xs) x =
    ap (λ ds. record { kind = k; place = record { line = line; def = n }; def = y } ∷ ds) (definitions_from_place_append_last k line (n + 1) xs x
    ∙ ap (λ m. definitions_from_place k line (n + 1) xs ++ (let d : PlacedDefinition = record { kind = k; place = record { line = line; def = m }; def = x } in d ∷ []))
    (omega arith))

-- the definitions of the first rows of a line
abbrev pub definitions_of_first_rows_of_line : Tables → Kind → ℕ → List AliasDefinitionRow → ℕ → List PlacedDefinition
definitions_of_first_rows_of_line t k line rows n = definitions_from_place k line 0 (map (alias_definition_in_tables t) (take n rows))

pub definitions_of_first_rows_add_next : (t : Tables) (k : Kind) (line : ℕ) (rows : List AliasDefinitionRow) (n : ℕ) (row : AliasDefinitionRow) → n < length rows
    → definitions_of_first_rows_of_line t k line rows (n + 1)
    ≡ definitions_of_first_rows_of_line t k line rows n ++ definition_in_alias_definition_row t k (record { line = line; def = n }) (get_or rows n row) ∷ []
definitions_of_first_rows_add_next t k line rows n row less =
    let front = take n rows in
    let count : length (map (alias_definition_in_tables t) front) ≡ n = length-map front (alias_definition_in_tables t) ∙ length-take-le n rows (omega (arith, less)) in
    ap (λ xs. definitions_from_place k line 0 (map (alias_definition_in_tables t) xs)) (take_more rows n row less)
    ∙ ap (definitions_from_place k line 0) (map-append (alias_definition_in_tables t) front (get_or rows n row ∷ []))
    ∙ definitions_from_place_append_last k line 0 (map (alias_definition_in_tables t) front) (alias_definition_in_tables t (get_or rows n row))
    ∙ ap (λ m. definitions_of_first_rows_of_line t k line rows n ++ definition_in_alias_definition_row t k (record { line = line; def = m }) (get_or rows n row) ∷ []) (omega (arith, count))

-- ---- one more line

-- the definitions of the first lines
abbrev pub definitions_of_first_lines : Tables → List LineRow → ℕ → List PlacedDefinition
definitions_of_first_lines t rows n = definitions_of_lines (map (line_of_row t) (take n rows))

pub definitions_of_first_lines_add_next : (t : Tables) (rows : List LineRow) (n : ℕ) (row : LineRow) → n < length rows
    → definitions_of_first_lines t rows (n + 1) ≡ definitions_of_first_lines t rows n ++ definitions_in_line n (node_in_tables t (get_or rows n row).node)
definitions_of_first_lines_add_next t rows n row less =
    let front = take n rows in
    let count : length (map (line_of_row t) front) ≡ n = length-map front (line_of_row t) ∙ length-take-le n rows (omega (arith, less)) in
    ap (λ xs. definitions_of_lines (map (line_of_row t) xs)) (take_more rows n row less)
    ∙ ap definitions_of_lines (map-append (line_of_row t) front (get_or rows n row ∷ []))
    ∙ definitions_with_last_line_are_appended (map (line_of_row t) front) (line_of_row t (get_or rows n row))
    ∙ ap (λ m. definitions_of_first_lines t rows n ++ definitions_in_line m (node_in_tables t (get_or rows n row).node)) count

-- Two rows of one text say the same.
pub rows_of_equal_text_say_the_same : (t : Tables) (row other : LineRow) → IsLastingLineRow t row → IsLastingLineRow t other → row.text ≡ other.text
    → node_in_tables t row.node ≡ node_in_tables t other.node
rows_of_equal_text_say_the_same t row other stands stays same =
    let ok : Ok (node_in_tables t row.node) ≡ Ok (node_in_tables t other.node) =
    sym stands.says ∙ ap (λ x. outcome_of_line (text_in_tables t x)) same ∙ stays.says in
    cc

-- ---- one step further

pub names_change_goes_on_to_next_definition : (t : Tables) (k : Kind) (line : ℕ) (olds news : List AliasDefinitionRow) (n : ℕ) (a b : AliasDefinitionRow) (change : DefinedNamesChange)
    → n < length olds → length olds ≡ length news
    → ChangesDefinedNames t change (definitions_of_first_rows_of_line t k line olds n ++ definition_in_alias_definition_row t k (record { line = line; def = n }) (get_or olds n a) ∷ [])
    (definitions_of_first_rows_of_line t k line news n ++ definition_in_alias_definition_row t k (record { line = line; def = n }) (get_or news n b) ∷ [])
    → ChangesDefinedNames t change (definitions_of_first_rows_of_line t k line olds (n + 1)) (definitions_of_first_rows_of_line t k line news (n + 1))
names_change_goes_on_to_next_definition t k line olds news n a b change less count is =
    subst (λ ds. ChangesDefinedNames t change ds (definitions_of_first_rows_of_line t k line news (n + 1))) (sym (definitions_of_first_rows_add_next t k line olds n a less))
    (subst (λ es. ChangesDefinedNames t change (definitions_of_first_rows_of_line t k line olds n ++ definition_in_alias_definition_row t k (record { line = line; def = n }) (get_or olds n a) ∷ []) es)
    (sym (definitions_of_first_rows_add_next t k line news n b (omega (arith, less, count)))) is)

pub names_change_goes_on_to_next_line : (t : Tables) (olds news : List LineRow) (n : ℕ) (a b : LineRow) (change : DefinedNamesChange)
    → n < length olds → length olds ≡ length news
    → ChangesDefinedNames t change (definitions_of_first_lines t olds n ++ definitions_in_line n (node_in_tables t (get_or olds n a).node))
    (definitions_of_first_lines t news n ++ definitions_in_line n (node_in_tables t (get_or news n b).node))
    → ChangesDefinedNames t change (definitions_of_first_lines t olds (n + 1)) (definitions_of_first_lines t news (n + 1))
names_change_goes_on_to_next_line t olds news n a b change less count is =
    subst (λ ds. ChangesDefinedNames t change ds (definitions_of_first_lines t news (n + 1))) (sym (definitions_of_first_lines_add_next t olds n a less))
    (subst (λ es. ChangesDefinedNames t change (definitions_of_first_lines t olds n ++ definitions_in_line n (node_in_tables t (get_or olds n a).node)) es)
    (sym (definitions_of_first_lines_add_next t news n b (omega (arith, less, count)))) is)

-- a line more that keeps its text
pub names_change_keeps_over_line_of_same_text : (t : Tables) (olds news : List LineRow) (n : ℕ) (a b : LineRow) (change : DefinedNamesChange)
    → n < length olds → length olds ≡ length news → All (IsLastingLineRow t) olds → All (IsLastingLineRow t) news
    → (get_or olds n a).text ≡ (get_or news n b).text → ChangesDefinedNames t change (definitions_of_first_lines t olds n) (definitions_of_first_lines t news n)
    → ChangesDefinedNames t change (definitions_of_first_lines t olds (n + 1)) (definitions_of_first_lines t news (n + 1))
names_change_keeps_over_line_of_same_text t olds news n a b change less count stand stay same is =
    let row = get_or olds n a in
    let other = get_or news n b in
    names_change_goes_on_to_next_line t olds news n a b change less count
    (names_change_stands_before_same_keys t change (definitions_of_first_lines t olds n) (definitions_of_first_lines t news n) (definitions_in_line n (node_in_tables t row.node))
    (definitions_in_line n (node_in_tables t other.node)) is
    (ap (λ (x : Node). keys_of_definitions (definitions_in_line n x))
    (sym (rows_of_equal_text_say_the_same t row other (stand n a less) (stay n b (omega (arith, less, count))) same))))
