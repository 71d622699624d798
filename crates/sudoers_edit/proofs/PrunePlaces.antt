-- Where the definitions and the lines of a walk stand, and how many there are.
use Rattle.sudoers_edit.proofs.Common.{AllByRecursion, AreLinesAtSpots, Bool, Cmnd, Def, EachIsOneLineWhenCut, Host, Kind, Line, List, LoadedPolicy, NamedFile, Node, Ok, ParsedFile, Place, PlacedDefinition, Runas}
use Rattle.sudoers_edit.proofs.Common.{Some, User, WalkLineSpot, [], ap, arith, cut_outcome_of_text, definition_count_of_kind, definitions_from_line_number, definitions_from_place, definitions_in_line, false, filter}
use Rattle.sudoers_edit.proofs.Common.{has_inner_line_without_lf, if◌then◌else◌, inl, inr, is_equal_kind, join, leading_place_count_in_line, length, length-append, length-map, line_limit, lines_of_numbered_file, map}
use Rattle.sudoers_edit.proofs.Common.{map-append, named_file_of_parsed, named_files_of_policy, policy_or_load_fault, refl, reverse, reverse-append, slice_get, slice_index_or, spot_of_walk_line, suc, sym, text_limit}
use Rattle.sudoers_edit.proofs.Common.{texts_of_lines, true, zero, ℕ, ◌++◌, ◌+◌, ◌<◌, ◌^◌, ◌∙◌, ◌∷◌, ◌≡◌, ◌≤◌, ◌⊎◌}
use Rattle.std.proofs.Common.{eq-eqb, ne_eqb}
use Rattle.std.specs.Prelude.{◌==◌}
use Rattle.sudoers_grammar.specs.Node as node
use Rattle.sudoers_tree.proofs.WalkSound.{loaded_policy_is_load_of_files}

-- LISTS

pub property_of_lists_holds_of_their_join : {X : Type 0} (P : X → Type 0) (xs ys : List X) → AllByRecursion P xs → AllByRecursion P ys → AllByRecursion P (xs ++ ys)
property_of_lists_holds_of_their_join P [] ys a b = b
property_of_lists_holds_of_their_join P (x ∷ xs) ys a b = (a.0, property_of_lists_holds_of_their_join P xs ys a.1 b)

pub property_of_list_implies_weaker_property : {X : Type 0} (P Q : X → Type 0) (xs : List X) → ((x : X) → P x → Q x) → AllByRecursion P xs → AllByRecursion Q xs
property_of_list_implies_weaker_property P Q [] more a = tt
property_of_list_implies_weaker_property P Q (x ∷ xs) more a = (more x a.0, property_of_list_implies_weaker_property P Q xs more a.1)

pub property_of_list_holds_of_filtered : {X : Type 0} (P : X → Type 0) (test : X → Bool) (xs : List X) → AllByRecursion P xs → AllByRecursion P (filter test xs)
property_of_list_holds_of_filtered P test [] a = tt
property_of_list_holds_of_filtered P test (x ∷ xs) a = kept (test x) (property_of_list_holds_of_filtered P test xs a.1)
  where
    kept : (b : Bool) → AllByRecursion P (filter test xs) → AllByRecursion P (if b then x ∷ filter test xs else filter test xs)
    kept true more = (a.0, more)
    kept false more = more

pub property_of_values_holds_of_map : {X Y : Type 0} (P : Y → Type 0) (f : X → Y) (xs : List X) → AllByRecursion (λ x. P (f x)) xs → AllByRecursion P (map f xs)
property_of_values_holds_of_map P f [] a = tt
property_of_values_holds_of_map P f (x ∷ xs) a = (a.0, property_of_values_holds_of_map P f xs a.1)

pub map_of_reverse_is_reverse_of_map : {X Y : Type 0} (f : X → Y) (xs : List X) → map f (reverse xs) ≡ reverse (map f xs)
map_of_reverse_is_reverse_of_map f [] = refl
map_of_reverse_is_reverse_of_map f (x ∷ xs) =
    ap (map f) (reverse-append (x ∷ []) xs) ∙ map-append f (reverse xs) (x ∷ [])
    ∙ ap (λ z. z ++ f x ∷ []) (map_of_reverse_is_reverse_of_map f xs) ∙ sym (reverse-append (f x ∷ []) (map f xs))

pub map_of_map_is_map_of_composition : {X Y Z : Type 0} (f : Y → Z) (g : X → Y) (xs : List X) → map f (map g xs) ≡ map (λ x. f (g x)) xs
map_of_map_is_map_of_composition f g [] = refl
map_of_map_is_map_of_composition f g (x ∷ xs) = ap (λ z. f (g x) ∷ z) (map_of_map_is_map_of_composition f g xs)

-- THE LINES OF DEFINITIONS

abbrev pub kind_and_place_of_definition : PlacedDefinition → Kind × Place
kind_and_place_of_definition d = (d.kind, d.place)

pub placed_definitions_are_as_many : (k : Kind) (line n : ℕ) (defs : List Def) → length (definitions_from_place k line n defs) ≡ length defs
placed_definitions_are_as_many k line n [] = refl
placed_definitions_are_as_many k line n (d ∷ ds) = ap suc (placed_definitions_are_as_many k line (n + 1) ds)

pub placed_definitions_are_in_line : (k : Kind) (line n : ℕ) (defs : List Def) → AllByRecursion (λ (d : PlacedDefinition). d.place.line ≡ line) (definitions_from_place k line n defs)
placed_definitions_are_in_line k line n [] = tt
placed_definitions_are_in_line k line n (d ∷ ds) = (refl, placed_definitions_are_in_line k line (n + 1) ds)

pub definitions_of_line_are_placed_in_it : (n : ℕ) (says : Node) → AllByRecursion (λ (d : PlacedDefinition). d.place.line ≡ n) (definitions_in_line n says)
definitions_of_line_are_placed_in_it n (node.Alias k defs) = placed_definitions_are_in_line k n 0 defs
definitions_of_line_are_placed_in_it n node.Blank = tt
definitions_of_line_are_placed_in_it n node.Comment = tt
definitions_of_line_are_placed_in_it n (node.Include dir path) = tt
definitions_of_line_are_placed_in_it n (node.Defaults scope params) = tt
definitions_of_line_are_placed_in_it n (node.Spec users groups) = tt

pub definitions_of_lines_are_placed_from_number : (n : ℕ) (lines : List Line) → AllByRecursion (λ (d : PlacedDefinition). n ≤ d.place.line) (definitions_from_line_number n lines)
definitions_of_lines_are_placed_from_number n [] = tt
definitions_of_lines_are_placed_from_number n (line ∷ lines) =
    property_of_lists_holds_of_their_join (λ (d : PlacedDefinition). n ≤ d.place.line) (definitions_in_line n line.node) (definitions_from_line_number (n + 1) lines)
    (property_of_list_implies_weaker_property (λ (d : PlacedDefinition). d.place.line ≡ n) (λ (d : PlacedDefinition). n ≤ d.place.line) (definitions_in_line n line.node) (λ d is. omega (arith, is)) (definitions_of_line_are_placed_in_it n line.node))
    (property_of_list_implies_weaker_property (λ (d : PlacedDefinition). n + 1 ≤ d.place.line) (λ (d : PlacedDefinition). n ≤ d.place.line) (definitions_from_line_number (n + 1) lines) (λ d is. omega (arith, is)) (definitions_of_lines_are_placed_from_number (n + 1) lines))

pub leading_places_in_line_are_counted : (n : ℕ) (here later : List (Kind × Place)) → AllByRecursion (λ (p : Kind × Place). p.1.line ≡ n) here
    → AllByRecursion (λ (p : Kind × Place). n + 1 ≤ p.1.line) later → leading_place_count_in_line n (here ++ later) ≡ length here
leading_places_in_line_are_counted n [] [] a b = refl
leading_places_in_line_are_counted n [] (p ∷ ps) a b = rw (differs p.1.line n b.0) refl
  where
    differs : (x y : ℕ) → y + 1 ≤ x → (x == y) ≡ false
    differs x y less = ne_eqb x y (λ same. omega (arith, less, same))
leading_places_in_line_are_counted n (p ∷ ps) later a b = rw (eq-eqb p.1.line n a.0) (omega (arith, leading_places_in_line_are_counted n ps later a.1 b))

-- LIMITS

pub kind_equals_itself : (k : Kind) → is_equal_kind k k ≡ true
kind_equals_itself User = refl
kind_equals_itself Runas = refl
kind_equals_itself Host = refl
kind_equals_itself Cmnd = refl

pub count_of_placed_definitions_is_length : (k : Kind) (line n : ℕ) (defs : List Def) → definition_count_of_kind k (definitions_from_place k line n defs) ≡ length defs
count_of_placed_definitions_is_length k line n [] = refl
count_of_placed_definitions_is_length k line n (d ∷ ds) = rw (kind_equals_itself k) (omega (arith, count_of_placed_definitions_is_length k line (n + 1) ds))

pub count_of_kind_in_joined_is_sum : (k : Kind) (xs ys : List PlacedDefinition) → definition_count_of_kind k (xs ++ ys) ≡ definition_count_of_kind k xs + definition_count_of_kind k ys
count_of_kind_in_joined_is_sum k [] ys = omega arith
count_of_kind_in_joined_is_sum k (x ∷ xs) ys = counted (is_equal_kind k x.kind) (count_of_kind_in_joined_is_sum k xs ys)
  where
    counted : (b : Bool) → definition_count_of_kind k (xs ++ ys) ≡ definition_count_of_kind k xs + definition_count_of_kind k ys
        → (if b then 1 + definition_count_of_kind k (xs ++ ys) else definition_count_of_kind k (xs ++ ys)) ≡ (if b then 1 + definition_count_of_kind k xs else definition_count_of_kind k xs) + definition_count_of_kind k ys
    counted true more = omega (arith, more)
    counted false more = more

pub definition_numbers_are_below_count : (k : Kind) (line n : ℕ) (defs : List Def) → AllByRecursion (λ (d : PlacedDefinition). d.place.def < n + length defs) (definitions_from_place k line n defs)
definition_numbers_are_below_count k line n [] = tt
definition_numbers_are_below_count k line n (d ∷ ds) = (
  omega arith,
  property_of_list_implies_weaker_property (λ (x : PlacedDefinition). x.place.def < (n + 1) + length ds) (λ (x : PlacedDefinition). x.place.def < n + length (d ∷ ds)) (definitions_from_place k line (n + 1) ds)
      (λ x less. omega (arith, less)) (definition_numbers_are_below_count k line (n + 1) ds),
)

pub definition_numbers_of_line_are_below_most : (most n : ℕ) (says : Node) → ((k : Kind) → definition_count_of_kind k (definitions_in_line n says) ≤ most) → AllByRecursion (λ (d : PlacedDefinition). d.place.def < most) (definitions_in_line n says)
definition_numbers_of_line_are_below_most most n (node.Alias k defs) few =
    property_of_list_implies_weaker_property (λ (d : PlacedDefinition). d.place.def < 0 + length defs) (λ (d : PlacedDefinition). d.place.def < most) (definitions_from_place k n 0 defs)
    (λ d less. omega (arith, less, few k, count_of_placed_definitions_is_length k n 0 defs)) (definition_numbers_are_below_count k n 0 defs)
definition_numbers_of_line_are_below_most most n node.Blank few = tt
definition_numbers_of_line_are_below_most most n node.Comment few = tt
definition_numbers_of_line_are_below_most most n (node.Include dir path) few = tt
definition_numbers_of_line_are_below_most most n (node.Defaults scope params) few = tt
definition_numbers_of_line_are_below_most most n (node.Spec users groups) few = tt

pub definition_numbers_of_lines_are_below_most : (most n : ℕ) (lines : List Line) → ((k : Kind) → definition_count_of_kind k (definitions_from_line_number n lines) ≤ most)
    → AllByRecursion (λ (d : PlacedDefinition). d.place.def < most) (definitions_from_line_number n lines)
definition_numbers_of_lines_are_below_most most n [] few = tt
definition_numbers_of_lines_are_below_most most n (line ∷ lines) few =
    property_of_lists_holds_of_their_join (λ (d : PlacedDefinition). d.place.def < most) (definitions_in_line n line.node) (definitions_from_line_number (n + 1) lines)
    (definition_numbers_of_line_are_below_most most n line.node (λ k. omega (arith, few k, count_of_kind_in_joined_is_sum k (definitions_in_line n line.node) (definitions_from_line_number (n + 1) lines))))
    (definition_numbers_of_lines_are_below_most most (n + 1) lines (λ k. omega (arith, few k, count_of_kind_in_joined_is_sum k (definitions_in_line n line.node) (definitions_from_line_number (n + 1) lines))))

pub lines_cut_alone_are_within_text_size : ((line : List ℕ) → cut_outcome_of_text line ≡ Ok (line ∷ []) → (0 < length line) × (length line ≤ line_limit))
    → (lines : List Line) → EachIsOneLineWhenCut (texts_of_lines lines) → length lines ≤ length (join (texts_of_lines lines))
lines_cut_alone_are_within_text_size size [] each = omega arith
lines_cut_alone_are_within_text_size size (line ∷ lines) each =
    omega (arith, (size line.text each.0).0, lines_cut_alone_are_within_text_size size lines each.1, length-append line.text (join (texts_of_lines lines)))

-- WHERE LINES OF THE WALK STAND

-- a line that stands in its file
record IsSpotInFile (files : List ParsedFile) (at : WalkLineSpot) : Type 0 where
  file : at.file < length files
  line : at.line < length (lines_of_numbered_file files at.file)

pub number_of_found_item_is_below_length : {X : Type 0} (xs : List X) (n : ℕ) (x : X) → slice_get xs n ≡ Some x → n < length xs
number_of_found_item_is_below_length [] n x is = absurd (cc)
number_of_found_item_is_below_length (y ∷ xs) zero x is = omega arith
number_of_found_item_is_below_length (y ∷ xs) (suc n) x is = let more = number_of_found_item_is_below_length xs n x is in omega (arith, more)

pub file_with_line_is_below_count : (files : List ParsedFile) (f n : ℕ) (line : Line) → slice_get (lines_of_numbered_file files f) n ≡ Some line → f < length files
file_with_line_is_below_count [] f n line is = absurd (none f is)
  where
    none : (f : ℕ) → slice_get (lines_of_numbered_file [] f) n ≡ Some line → ⊥
    none zero is = cc
    none (suc f) is = cc
file_with_line_is_below_count (file ∷ files) zero n line is = omega arith
file_with_line_is_below_count (file ∷ files) (suc f) n line is = let more = file_with_line_is_below_count files f n line is in omega (arith, more)

abbrev pub spot_of_first_row : WalkLineSpot
spot_of_first_row = record { file = 0; line = 0; row = 1 }

-- each spot is the first of no file, or a line stands there
walk_spot_is_first_or_in_file : (files : List ParsedFile) (spots : List WalkLineSpot) (lines : List Line) → AreLinesAtSpots files spots lines → (n : ℕ)
    → (slice_index_or spots n spot_of_first_row ≡ spot_of_first_row) ⊎ IsSpotInFile files (slice_index_or spots n spot_of_first_row)
walk_spot_is_first_or_in_file files [] [] stand n = inl refl
walk_spot_is_first_or_in_file files [] (line ∷ lines) stand n = absurd stand
walk_spot_is_first_or_in_file files (at ∷ spots) [] stand n = absurd stand
walk_spot_is_first_or_in_file files (at ∷ spots) (line ∷ lines) stand zero =
    inr (record {
      file = file_with_line_is_below_count files at.file at.line line stand.0.is_line;
      line = number_of_found_item_is_below_length (lines_of_numbered_file files at.file) at.line line stand.0.is_line;
    })
walk_spot_is_first_or_in_file files (at ∷ spots) (line ∷ lines) stand (suc n) = walk_spot_is_first_or_in_file files spots lines stand.1 n

abbrev pub WalkLinesAreAtSpots : Type 0
WalkLinesAreAtSpots = (files : List NamedFile) (policy : LoadedPolicy) → policy_or_load_fault files ≡ Ok policy → AreLinesAtSpots policy.files policy.walk.spots policy.walk.lines

pub file_number_of_spot_fits_u32 : (policy : LoadedPolicy) (n : ℕ) → policy_or_load_fault (named_files_of_policy policy) ≡ Ok policy → WalkLinesAreAtSpots → (spot_of_walk_line policy.walk n).file < 2 ^ 32
file_number_of_spot_fits_u32 policy n loaded stand = by (walk_spot_is_first_or_in_file policy.files policy.walk.spots policy.walk.lines (stand (named_files_of_policy policy) policy loaded) n)
  where
    few : length (named_files_of_policy policy) ≤ 256
    few = (loaded_policy_is_load_of_files (named_files_of_policy policy) policy loaded).few

    by : (spot_of_walk_line policy.walk n ≡ spot_of_first_row) ⊎ IsSpotInFile policy.files (spot_of_walk_line policy.walk n) → (spot_of_walk_line policy.walk n).file < 2 ^ 32
    by (inl first) = omega (arith, ap (λ (at : WalkLineSpot). at.file) first)
    by (inr inside) = omega (arith, inside.file, few, length-map policy.files named_file_of_parsed)

pub line_number_of_spot_fits_u32 : (policy : LoadedPolicy) (n : ℕ) → policy_or_load_fault (named_files_of_policy policy) ≡ Ok policy → WalkLinesAreAtSpots
    → ((files : List NamedFile) (policy : LoadedPolicy) → policy_or_load_fault files ≡ Ok policy → (f : ℕ)
    → cut_outcome_of_text (join (texts_of_lines (lines_of_numbered_file policy.files f))) ≡ Ok (texts_of_lines (lines_of_numbered_file policy.files f)))
    → ((text : List ℕ) (lines : List (List ℕ)) → cut_outcome_of_text text ≡ Ok lines
    → EachIsOneLineWhenCut lines × (has_inner_line_without_lf lines ≡ false) × (join lines ≡ text) × (length text ≤ text_limit))
    → ((line : List ℕ) → cut_outcome_of_text line ≡ Ok (line ∷ []) → (0 < length line) × (length line ≤ line_limit))
    → (spot_of_walk_line policy.walk n).line < 2 ^ 32
line_number_of_spot_fits_u32 policy n loaded stand cut alone size = by (walk_spot_is_first_or_in_file policy.files policy.walk.spots policy.walk.lines (stand (named_files_of_policy policy) policy loaded) n)
  where
    at : WalkLineSpot
    at = spot_of_walk_line policy.walk n

    lines : List Line
    lines = lines_of_numbered_file policy.files at.file

    is : EachIsOneLineWhenCut (texts_of_lines lines) × (has_inner_line_without_lf (texts_of_lines lines) ≡ false) × (join (texts_of_lines lines) ≡ join (texts_of_lines lines)) × (length (join (texts_of_lines lines)) ≤ text_limit)
    is = alone (join (texts_of_lines lines)) (texts_of_lines lines) (cut (named_files_of_policy policy) policy loaded at.file)

    by : (at ≡ spot_of_first_row) ⊎ IsSpotInFile policy.files at → at.line < 2 ^ 32
    by (inl first) = omega (arith, ap (λ (at : WalkLineSpot). at.line) first)
    by (inr inside) = omega (arith, inside.line, lines_cut_alone_are_within_text_size size lines is.0, is.3)
