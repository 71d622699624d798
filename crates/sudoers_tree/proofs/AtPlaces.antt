-- Where definitions stand: a place that is found leads back to its definition.
use Rattle.sudoers_tree.proofs.Common.{AllByRecursion, Bool, Def, Kind, Line, List, Node, None, Option, Place, PlacedDefinition, Some, [], alias_definitions_of_view, ap, arith, definition_place_of_name}
use Rattle.sudoers_tree.proofs.Common.{definitions_from_line_number, definitions_from_place, definitions_in_line, definitions_of_lines, false, first_definition_of, if◌then◌else◌, is_definition_of_name}
use Rattle.sudoers_tree.proofs.Common.{members_of_alias_definition, node_of_view, option_map, refl, slice_get, subst, suc, sym, true, ℕ, ◌++◌, ◌+◌, ◌∙◌, ◌∷◌, ◌≡◌}
use Rattle.sudoers_grammar.specs.Node as node
use Rattle.sudoers_line_rows.specs.declared.row_lists.RowsOfTable.{RowsOfTable}
use Rattle.sudoers_line_rows.specs.declared.rows.AliasDefinitionRow.{AliasDefinitionRow}
use Rattle.sudoers_line_rows.specs.declared.view.Node.{Node as NodeView}
use Rattle.sudoers_line_rows.specs.declared.view.Node.TheVariants as view

-- The definition stands in its place of the lines.
record IsDefinitionAtItsPlace (lines : List Line) (d : PlacedDefinition) : Type 0 where
  line : Line
  defs : List Def
  line_is : slice_get lines d.place.line ≡ Some line
  says : line.node ≡ node.Alias d.kind defs
  def_is : slice_get defs d.place.def ≡ Some d.def

-- ---- each definition stands in its place

-- of the definitions of a line, those from one on
definitions_from_place_are_at_their_places : (lines : List Line) (number : ℕ) (line : Line) (k : Kind) (defs : List Def) → slice_get lines number ≡ Some line
    → line.node ≡ node.Alias k defs → (n : ℕ) (ds : List Def) → ((i : ℕ) → slice_get ds i ≡ slice_get defs (n + i))
    → AllByRecursion (IsDefinitionAtItsPlace lines) (definitions_from_place k number n ds)
definitions_from_place_are_at_their_places lines number line k defs is says n [] same = tt
definitions_from_place_are_at_their_places lines number line k defs is says n (d ∷ ds) same = (
  record { line = line; defs = defs; line_is = is; says = says; def_is = ap (slice_get defs) (omega arith) ∙ sym (same 0) },
  definitions_from_place_are_at_their_places lines number line k defs is says (n + 1) ds (λ i. same (suc i) ∙ ap (slice_get defs) (omega arith)),
)

definitions_in_line_are_at_their_places : (lines : List Line) (number : ℕ) (line : Line) → slice_get lines number ≡ Some line → (says : Node) → line.node ≡ says
    → AllByRecursion (IsDefinitionAtItsPlace lines) (definitions_in_line number says)
definitions_in_line_are_at_their_places lines number line is (node.Alias k defs) e = definitions_from_place_are_at_their_places lines number line k defs is e 0 defs (λ i. ap (slice_get defs) (omega arith))
definitions_in_line_are_at_their_places lines number line is node.Blank e = tt
definitions_in_line_are_at_their_places lines number line is node.Comment e = tt
definitions_in_line_are_at_their_places lines number line is (node.Include dir path) e = tt
definitions_in_line_are_at_their_places lines number line is (node.Defaults scope params) e = tt
definitions_in_line_are_at_their_places lines number line is (node.Spec users groups) e = tt

property_of_two_lists_holds_of_append : (P : PlacedDefinition → Type 0) (ds es : List PlacedDefinition) → AllByRecursion P ds → AllByRecursion P es → AllByRecursion P (ds ++ es)
property_of_two_lists_holds_of_append P [] es p q = q
property_of_two_lists_holds_of_append P (d ∷ ds) es p q = (p.0, property_of_two_lists_holds_of_append P ds es p.1 q)

-- of all lines, those from one on
definitions_of_lines_are_at_their_places : (lines : List Line) (n : ℕ) (rest : List Line) → ((i : ℕ) → slice_get rest i ≡ slice_get lines (n + i))
    → AllByRecursion (IsDefinitionAtItsPlace lines) (definitions_from_line_number n rest)
definitions_of_lines_are_at_their_places lines n [] same = tt
definitions_of_lines_are_at_their_places lines n (line ∷ rest) same =
    property_of_two_lists_holds_of_append (IsDefinitionAtItsPlace lines) (definitions_in_line n line.node) (definitions_from_line_number (n + 1) rest)
    (definitions_in_line_are_at_their_places lines n line (ap (slice_get lines) (omega arith) ∙ sym (same 0)) line.node refl)
    (definitions_of_lines_are_at_their_places lines (n + 1) rest (λ i. same (suc i) ∙ ap (slice_get lines) (omega arith)))

-- ---- what is found is one of them

first_definition_has_property_of_all : (P : PlacedDefinition → Type 0) (k : Kind) (name : List ℕ) (ds : List PlacedDefinition) → AllByRecursion P ds
    → (d : PlacedDefinition) → first_definition_of k name ds ≡ Some d → P d
first_definition_has_property_of_all P k name [] all d is = absurd cc
first_definition_has_property_of_all P k name (first ∷ ds) all d is = by (is_definition_of_name k name first) refl (first_definition_has_property_of_all P k name ds all.1 d)
  where
    by : (t : Bool) → is_definition_of_name k name first ≡ t → (first_definition_of k name ds ≡ Some d → P d) → P d
    by true e later =
        let same : Some first ≡ Some d = sym (ap (λ t. if t then Some first else first_definition_of k name ds) e) ∙ is in
        let one : first ≡ d = cc in
        subst P one all.0
    by false e later = later (sym (ap (λ t. if t then Some first else first_definition_of k name ds) e) ∙ is)

-- What stands in the place of an alias.
pub record IsDefinitionOfAliasFoundAt (lines : List Line) (k : Kind) (name : List ℕ) (place : Place) : Type 0 where
  pub line : Line
  pub kind : Kind
  pub defs : List Def
  pub def : Def
  pub line_is : slice_get lines place.line ≡ Some line
  pub says : line.node ≡ node.Alias kind defs
  pub def_is : slice_get defs place.def ≡ Some def
  pub members_are : members_of_alias_definition k name lines ≡ Some def.members

pub place_of_alias_holds_its_definition : (lines : List Line) (k : Kind) (name : List ℕ) (place : Place) → Some place ≡ definition_place_of_name k name lines → IsDefinitionOfAliasFoundAt lines k name place
place_of_alias_holds_its_definition lines k name place is = by (first_definition_of k name (definitions_of_lines lines)) refl
  where
    by : (o : Option PlacedDefinition) → first_definition_of k name (definitions_of_lines lines) ≡ o → IsDefinitionOfAliasFoundAt lines k name place
    by None e =
        let none : Some place ≡ None = is ∙ ap (option_map (λ (d : PlacedDefinition). d.place)) e in
        absurd cc
    by (Some d) e =
        let at : IsDefinitionAtItsPlace lines d = first_definition_has_property_of_all (IsDefinitionAtItsPlace lines) k name (definitions_of_lines lines) (definitions_of_lines_are_at_their_places lines 0 lines (λ i. ap (slice_get lines) (omega arith))) d e in
        let there : Some place ≡ Some d.place = is ∙ ap (option_map (λ (d : PlacedDefinition). d.place)) e in
        let same : d.place ≡ place = cc in
        record {
          line = at.line;
          kind = d.kind;
          defs = at.defs;
          def = d.def;
          line_is = ap (λ (p : Place). slice_get lines p.line) (sym same) ∙ at.line_is;
          says = at.says;
          def_is = ap (λ (p : Place). slice_get at.defs p.def) (sym same) ∙ at.def_is;
          members_are = ap (option_map (λ (d : PlacedDefinition). d.def.members)) e;
        }

-- what the line of the alias says
pub node_at_alias_place_is_alias_line : (lines : List Line) (k : Kind) (name : List ℕ) (place : Place) (at : IsDefinitionOfAliasFoundAt lines k name place) (o : Option Node)
    → o ≡ option_map (λ (line : Line). line.node) (slice_get lines place.line) → o ≡ Some (node.Alias at.kind at.defs)
node_at_alias_place_is_alias_line lines k name place at o is =
    is ∙ ap (option_map (λ (line : Line). line.node)) at.line_is ∙ ap (λ n. Some n) at.says

-- a view of a line of definitions
pub view_of_alias_node_is_alias_view : (v : NodeView) (k : Kind) (ds : List Def) → node_of_view v ≡ node.Alias k ds → (w : RowsOfTable AliasDefinitionRow) × (v ≡ view.Alias k w) × (alias_definitions_of_view w ≡ ds)
view_of_alias_node_is_alias_view view.Blank k ds e = absurd cc
view_of_alias_node_is_alias_view view.Comment k ds e = absurd cc
view_of_alias_node_is_alias_view (view.Include dir path) k ds e = absurd cc
view_of_alias_node_is_alias_view (view.Defaults scope params) k ds e = absurd cc
view_of_alias_node_is_alias_view (view.Alias j w) k ds e = let kind : j ≡ k = cc in (w, ap (λ x. view.Alias x w) kind, cc)
view_of_alias_node_is_alias_view (view.Spec users groups) k ds e = absurd cc

pub equal_alias_nodes_have_equal_definitions : (j k : Kind) (ds es : List Def) → node.Alias j ds ≡ node.Alias k es → ds ≡ es
equal_alias_nodes_have_equal_definitions j k ds es e = cc
