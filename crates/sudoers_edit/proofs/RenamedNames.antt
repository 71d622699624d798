-- Definitions of which one has another name that none of its kind had: they can stand if they could before.
use Rattle.sudoers_edit.proofs.Common.{AliasRenaming, AllByRecursion, Bool, Cmnd, Def, HasUnreservedName, Host, Kind, Line, List, Node, Place, PlacedDefinition, Runas, Some, User, [], ap, ap₂, bytes_eq}
use Rattle.sudoers_edit.proofs.Common.{bytes_eq-Decides, definition_count_of_kind, definition_with_alias_renamed, definitions_from_line_number, definitions_from_place, definitions_in_line, definitions_of_lines}
use Rattle.sudoers_edit.proofs.Common.{false, first_definition_of, if◌then◌else◌, is_definition_of_name, is_equal_kind, is_reserved, lines_after_rename, named_alias_of_kind_and_name, node_with_alias_renamed, refl}
use Rattle.sudoers_edit.proofs.Common.{renaming_of_alias_in_node, sym, true, ℕ, ◌&&◌, ◌++◌, ◌+◌, ◌∙◌, ◌∷◌, ◌≡◌}
use Rattle.std.specs.Option.{option_map}
use Rattle.std.specs.Prelude.{Option, map}
use Rattle.sudoers_grammar.specs.Node as node

-- the name of a definition of this kind, where one alias has another name
abbrev pub name_after_rename : Kind → List ℕ → List ℕ → Kind → List ℕ → List ℕ
name_after_rename k name fresh j word = if is_equal_kind k j && bytes_eq name word then fresh else word

-- The second are the first at the same places, each with that name.
abbrev pub AreRenamedDefinitions : Kind → List ℕ → List ℕ → List PlacedDefinition → List PlacedDefinition → Type 0
AreRenamedDefinitions k name fresh [] [] = Unit {0}
AreRenamedDefinitions k name fresh [] (e ∷ es) = ⊥
AreRenamedDefinitions k name fresh (d ∷ ds) [] = ⊥
AreRenamedDefinitions k name fresh (d ∷ ds) (e ∷ es) =
    (e.kind ≡ d.kind) × (e.place ≡ d.place) × (e.def.name ≡ name_after_rename k name fresh d.kind d.def.name) × AreRenamedDefinitions k name fresh ds es

-- ---- those of renamed lines

joined_renamed_definitions_are_renamed : (k : Kind) (name fresh : List ℕ) (ds es xs ys : List PlacedDefinition) → AreRenamedDefinitions k name fresh ds es → AreRenamedDefinitions k name fresh xs ys
    → AreRenamedDefinitions k name fresh (ds ++ xs) (es ++ ys)
joined_renamed_definitions_are_renamed k name fresh [] [] xs ys a b = b
joined_renamed_definitions_are_renamed k name fresh [] (e ∷ es) xs ys a b = absurd a
joined_renamed_definitions_are_renamed k name fresh (d ∷ ds) [] xs ys a b = absurd a
joined_renamed_definitions_are_renamed k name fresh (d ∷ ds) (e ∷ es) xs ys a b = (a.0, a.1, a.2, joined_renamed_definitions_are_renamed k name fresh ds es xs ys a.3 b)

placed_definitions_are_renamed : (k : Kind) (name fresh : List ℕ) (at : ℕ → ℕ) (j : Kind) (line n : ℕ) (defs : List Def)
    → AreRenamedDefinitions k name fresh (definitions_from_place j line n defs)
    (definitions_from_place j line n (map (definition_with_alias_renamed (record { old = named_alias_of_kind_and_name k name; fresh = fresh; at = at }) j) defs))
placed_definitions_are_renamed k name fresh at j line n [] = tt
placed_definitions_are_renamed k name fresh at j line n (d ∷ defs) = (refl, refl, refl, placed_definitions_are_renamed k name fresh at j line (n + 1) defs)

definitions_of_renamed_line_are_renamed : (k : Kind) (name fresh : List ℕ) (at : ℕ → ℕ) (line : ℕ) (says : Node)
    → AreRenamedDefinitions k name fresh (definitions_in_line line says)
    (definitions_in_line line (node_with_alias_renamed (record { old = named_alias_of_kind_and_name k name; fresh = fresh; at = at }) says))
definitions_of_renamed_line_are_renamed k name fresh at line (node.Alias j defs) = placed_definitions_are_renamed k name fresh at j line 0 defs
definitions_of_renamed_line_are_renamed k name fresh at line node.Blank = tt
definitions_of_renamed_line_are_renamed k name fresh at line node.Comment = tt
definitions_of_renamed_line_are_renamed k name fresh at line (node.Include dir path) = tt
definitions_of_renamed_line_are_renamed k name fresh at line (node.Defaults scope params) = tt
definitions_of_renamed_line_are_renamed k name fresh at line (node.Spec users groups) = tt

definitions_from_number_are_renamed : (k : Kind) (name fresh : List ℕ) (n : ℕ) (lines : List Line)
    → AreRenamedDefinitions k name fresh (definitions_from_line_number n lines) (definitions_from_line_number n (lines_after_rename k name fresh lines))
definitions_from_number_are_renamed k name fresh n [] = tt
definitions_from_number_are_renamed k name fresh n (line ∷ lines) =
    let r : AliasRenaming = renaming_of_alias_in_node (named_alias_of_kind_and_name k name) fresh line.node in
    joined_renamed_definitions_are_renamed k name fresh (definitions_in_line n line.node) (definitions_in_line n (node_with_alias_renamed r line.node))
    (definitions_from_line_number (n + 1) lines) (definitions_from_line_number (n + 1) (lines_after_rename k name fresh lines))
    (definitions_of_renamed_line_are_renamed k name fresh r.at n line.node) (definitions_from_number_are_renamed k name fresh (n + 1) lines)

pub definitions_of_renamed_lines_are_renamed : (k : Kind) (name fresh : List ℕ) (lines : List Line)
    → AreRenamedDefinitions k name fresh (definitions_of_lines lines) (definitions_of_lines (lines_after_rename k name fresh lines))
definitions_of_renamed_lines_are_renamed k name fresh lines = definitions_from_number_are_renamed k name fresh 0 lines

-- ---- what is true of them

choice_of_unreserved_names_is_unreserved : (b : Bool) (fresh word : List ℕ) → is_reserved fresh ≡ false → is_reserved word ≡ false → is_reserved (if b then fresh else word) ≡ false
choice_of_unreserved_names_is_unreserved true fresh word f w = f
choice_of_unreserved_names_is_unreserved false fresh word f w = w

pub renamed_definitions_have_unreserved_names : (k : Kind) (name fresh : List ℕ) (ds es : List PlacedDefinition) → AreRenamedDefinitions k name fresh ds es → is_reserved fresh ≡ false
    → AllByRecursion HasUnreservedName ds → AllByRecursion HasUnreservedName es
renamed_definitions_have_unreserved_names k name fresh [] [] are good free = tt
renamed_definitions_have_unreserved_names k name fresh [] (e ∷ es) are good free = absurd are
renamed_definitions_have_unreserved_names k name fresh (d ∷ ds) [] are good free = absurd are
renamed_definitions_have_unreserved_names k name fresh (d ∷ ds) (e ∷ es) are good free = (
  ap is_reserved are.2 ∙ choice_of_unreserved_names_is_unreserved (is_equal_kind k d.kind && bytes_eq name d.def.name) fresh d.def.name good free.0,
  renamed_definitions_have_unreserved_names k name fresh ds es are.3 good free.1,
)

pub renamed_definitions_have_equal_count_of_kind : (k : Kind) (name fresh : List ℕ) (j : Kind) (ds es : List PlacedDefinition) → AreRenamedDefinitions k name fresh ds es
    → definition_count_of_kind j es ≡ definition_count_of_kind j ds
renamed_definitions_have_equal_count_of_kind k name fresh j [] [] are = refl
renamed_definitions_have_equal_count_of_kind k name fresh j [] (e ∷ es) are = absurd are
renamed_definitions_have_equal_count_of_kind k name fresh j (d ∷ ds) [] are = absurd are
renamed_definitions_have_equal_count_of_kind k name fresh j (d ∷ ds) (e ∷ es) are =
    ap₂ (λ (i : Kind) (n : ℕ). if is_equal_kind j i then 1 + n else n) are.0 (renamed_definitions_have_equal_count_of_kind k name fresh j ds es are.3)

-- ---- which names are defined

unlike_bytes_are_unequal : (a b : List ℕ) → bytes_eq a b ≡ false → a ≡ b → ⊥
unlike_bytes_are_unequal a b differ same = let both : true ≡ false = sym ((bytes_eq-Decides a b).1 same) ∙ differ in cc

pub unequal_bytes_are_unlike : (a b : List ℕ) → (a ≡ b → ⊥) → bytes_eq a b ≡ false
unequal_bytes_are_unlike a b differ = by (bytes_eq a b) refl
  where
    by : (c : Bool) → bytes_eq a b ≡ c → c ≡ false
    by true is = absurd (differ ((bytes_eq-Decides a b).0 is))
    by false is = refl

pub kinds_told_equal_are_same : (j i : Kind) → is_equal_kind j i ≡ true → j ≡ i
kinds_told_equal_are_same User User h = refl
kinds_told_equal_are_same User Runas h = absurd (cc)
kinds_told_equal_are_same User Host h = absurd (cc)
kinds_told_equal_are_same User Cmnd h = absurd (cc)
kinds_told_equal_are_same Runas User h = absurd (cc)
kinds_told_equal_are_same Runas Runas h = refl
kinds_told_equal_are_same Runas Host h = absurd (cc)
kinds_told_equal_are_same Runas Cmnd h = absurd (cc)
kinds_told_equal_are_same Host User h = absurd (cc)
kinds_told_equal_are_same Host Runas h = absurd (cc)
kinds_told_equal_are_same Host Host h = refl
kinds_told_equal_are_same Host Cmnd h = absurd (cc)
kinds_told_equal_are_same Cmnd User h = absurd (cc)
kinds_told_equal_are_same Cmnd Runas h = absurd (cc)
kinds_told_equal_are_same Cmnd Host h = absurd (cc)
kinds_told_equal_are_same Cmnd Cmnd h = refl

-- No definition of the kind has the name.
abbrev pub IsNotDefinitionOfAlias : Kind → List ℕ → PlacedDefinition → Type 0
IsNotDefinitionOfAlias k fresh d = (is_equal_kind k d.kind && bytes_eq fresh d.def.name) ≡ false

-- two names of a kind are alike exactly if they were
names_after_rename_are_alike_as_before : (m : Bool) (name fresh v w : List ℕ) → (m && bytes_eq fresh v) ≡ false → (m && bytes_eq fresh w) ≡ false
    → bytes_eq (if m && bytes_eq name v then fresh else v) (if m && bytes_eq name w then fresh else w) ≡ bytes_eq v w
names_after_rename_are_alike_as_before false name fresh v w a b = refl
names_after_rename_are_alike_as_before true name fresh v w a b = by (bytes_eq name v) (bytes_eq name w) refl refl
  where
    by : (c d : Bool) → bytes_eq name v ≡ c → bytes_eq name w ≡ d → bytes_eq (if c then fresh else v) (if d then fresh else w) ≡ bytes_eq v w
    by true true is so =
        let same : v ≡ w = sym ((bytes_eq-Decides name v).0 is) ∙ (bytes_eq-Decides name w).0 so in
        (bytes_eq-Decides fresh fresh).1 refl ∙ sym ((bytes_eq-Decides v w).1 same)
    by true false is so = b ∙ sym (ap (λ x. bytes_eq x w) (sym ((bytes_eq-Decides name v).0 is)) ∙ so)
    by false true is so =
        unequal_bytes_are_unlike v fresh (λ same. unlike_bytes_are_unequal fresh v a (sym same))
        ∙ sym (unequal_bytes_are_unlike v w (λ same. unlike_bytes_are_unequal name v is ((bytes_eq-Decides name w).0 so ∙ sym same)))
    by false false is so = refl

pub renamed_definition_defines_renamed_name : (k : Kind) (name fresh : List ℕ) (j : Kind) (word : List ℕ) (d e : PlacedDefinition) → e.kind ≡ d.kind
    → e.def.name ≡ name_after_rename k name fresh d.kind d.def.name → (is_equal_kind k j && bytes_eq fresh word) ≡ false → IsNotDefinitionOfAlias k fresh d
    → is_definition_of_name j (name_after_rename k name fresh j word) e ≡ is_definition_of_name j word d
renamed_definition_defines_renamed_name k name fresh j word d e kinds names free lacks =
    ap₂ (λ (i : Kind) (n : List ℕ). is_equal_kind j i && bytes_eq (name_after_rename k name fresh j word) n) kinds names ∙ by (is_equal_kind j d.kind) refl
  where
    by : (b : Bool) → is_equal_kind j d.kind ≡ b
        → (b && bytes_eq (name_after_rename k name fresh j word) (name_after_rename k name fresh d.kind d.def.name)) ≡ (b && bytes_eq word d.def.name)
    by false is = refl
    by true is =
        let same : d.kind ≡ j = sym (kinds_told_equal_are_same j d.kind is) in
        ap (λ (i : Kind). bytes_eq (name_after_rename k name fresh j word) (name_after_rename k name fresh i d.def.name)) same
        ∙ names_after_rename_are_alike_as_before (is_equal_kind k j) name fresh word d.def.name free (ap (λ (i : Kind). is_equal_kind k i && bytes_eq fresh d.def.name) (sym same) ∙ lacks)

abbrev pub optional_place_of_definition : Option PlacedDefinition → Option Place
optional_place_of_definition o = option_map (λ (d : PlacedDefinition). d.place) o

place_of_renamed_choice_is_same : (a b : Bool) (d e : PlacedDefinition) (o p : Option PlacedDefinition) → a ≡ b → e.place ≡ d.place → optional_place_of_definition p ≡ optional_place_of_definition o
    → optional_place_of_definition (if a then Some e else p) ≡ optional_place_of_definition (if b then Some d else o)
place_of_renamed_choice_is_same true b d e o p is here rest = rw (sym is) (ap (λ z. Some z) here)
place_of_renamed_choice_is_same false b d e o p is here rest = rw (sym is) rest

-- a name is defined where its old one was
pub renamed_name_is_defined_at_same_place : (k : Kind) (name fresh : List ℕ) (j : Kind) (word : List ℕ) (ds es : List PlacedDefinition) → AreRenamedDefinitions k name fresh ds es
    → (is_equal_kind k j && bytes_eq fresh word) ≡ false → AllByRecursion (IsNotDefinitionOfAlias k fresh) ds
    → optional_place_of_definition (first_definition_of j (name_after_rename k name fresh j word) es) ≡ optional_place_of_definition (first_definition_of j word ds)
renamed_name_is_defined_at_same_place k name fresh j word [] [] are free lack = refl
renamed_name_is_defined_at_same_place k name fresh j word [] (e ∷ es) are free lack = absurd are
renamed_name_is_defined_at_same_place k name fresh j word (d ∷ ds) [] are free lack = absurd are
renamed_name_is_defined_at_same_place k name fresh j word (d ∷ ds) (e ∷ es) are free lack =
    place_of_renamed_choice_is_same (is_definition_of_name j (name_after_rename k name fresh j word) e) (is_definition_of_name j word d) d e (first_definition_of j word ds)
    (first_definition_of j (name_after_rename k name fresh j word) es) (renamed_definition_defines_renamed_name k name fresh j word d e are.0 are.2 free lack.0) are.1
    (renamed_name_is_defined_at_same_place k name fresh j word ds es are.3 free lack.1)
