-- Lines in tables that grow.
use Rattle.sudoers_tree.proofs.Common.{All, All-head, All-tail, All-weaker, IsLastingLineRow, Line, LineRow, List, Node, Ok, RowMeaningLasts, RowMeansForGood, Some, Tables, TablesHaveGrown, [], ap, ap₂}
use Rattle.sudoers_tree.proofs.Common.{bits_of_alias_names_in, lf_count, line_of_row, map, node_in_tables, option_map, outcome_of_line, refl, slice_get, slice_get-map, subst, sym, text_in_tables, ℕ, ◌∙◌, ◌∷◌, ◌≡◌}
use Rattle.sudoers_line_rows.specs.declared.rows.NodeRow.{NodeRow}
use Rattle.sudoers_line_rows.specs.declared.rows.ByteRange.{ByteRange}

abbrev pub TableGrowthIsTransitive : Type 0
TableGrowthIsTransitive = (t u v : Tables) → TablesHaveGrown t u → TablesHaveGrown u v → TablesHaveGrown t v

-- A row stands in grown tables.
grown_tables_keep_row_lasting : TableGrowthIsTransitive → (t u : Tables) → TablesHaveGrown t u → (row : LineRow) → IsLastingLineRow t row → IsLastingLineRow u row
grown_tables_keep_row_lasting on t u g row stands = record {
  lasts = λ v h. stands.lasts v (on t u v g h) ∙ sym (stands.lasts u g);
  says = subst (λ (line : Line). outcome_of_line line.text ≡ Ok line.node) (sym (stands.lasts u g)) stands.says;
  bits = stands.bits ∙ sym (ap (λ (line : Line). bits_of_alias_names_in line.node) (stands.lasts u g));
  lfs = stands.lfs ∙ sym (ap (λ (line : Line). lf_count line.text) (stands.lasts u g));
}

pub grown_tables_keep_rows_lasting : TableGrowthIsTransitive → (t u : Tables) → TablesHaveGrown t u → (rows : List LineRow) → All (IsLastingLineRow t) rows → All (IsLastingLineRow u) rows
grown_tables_keep_rows_lasting on t u g rows all = All-weaker (IsLastingLineRow t) (IsLastingLineRow u) (grown_tables_keep_row_lasting on t u g) rows all

-- The rows hold the same lines in grown tables.
pub grown_tables_keep_lines_of_rows : (t u : Tables) → TablesHaveGrown t u → (rows : List LineRow) → All (IsLastingLineRow t) rows → map (line_of_row u) rows ≡ map (line_of_row t) rows
grown_tables_keep_lines_of_rows t u g [] all = refl
grown_tables_keep_lines_of_rows t u g (row ∷ rows) all =
    ap₂ (λ (l : Line) (ls : List Line). l ∷ ls) ((All-head (IsLastingLineRow t) row rows all).lasts u g) (grown_tables_keep_lines_of_rows t u g rows (All-tail (IsLastingLineRow t) row rows all))

abbrev line_row_of_parts : ByteRange → NodeRow → ℕ → ℕ → LineRow
line_row_of_parts text node bits lfs = record { text = text; node = node; bits = bits; lfs = lfs }

abbrev line_of_text_and_node : List ℕ → Node → Line
line_of_text_and_node text node = record { text = text; node = node }

-- A row stands whose text was kept in tables, and whose line was read into them then.
pub row_of_read_line_is_lasting : TableGrowthIsTransitive → (t u : Tables) (node : NodeRow) (text : ByteRange) (bits lfs : ℕ) (bytes : List ℕ) → RowMeansForGood text_in_tables t text bytes → TablesHaveGrown t u → outcome_of_line bytes ≡ Ok (node_in_tables u node)
    → RowMeaningLasts node_in_tables u node → bits ≡ bits_of_alias_names_in (node_in_tables u node) → lfs ≡ lf_count bytes
    → IsLastingLineRow u (line_row_of_parts text node bits lfs)
row_of_read_line_is_lasting on t u node text bits lfs bytes keeps g says lasts are count =
    let here : text_in_tables u text ≡ bytes = keeps u g in
    record {
      lasts = λ v h. ap₂ line_of_text_and_node (keeps v (on t u v g h) ∙ sym here) (lasts v h);
      says = ap outcome_of_line here ∙ says;
      bits = are;
      lfs = count ∙ ap lf_count (sym here);
    }

-- The row at a place holds the line there.
pub numbered_row_holds_numbered_line : (t : Tables) (rows : List LineRow) (at : ℕ) (row : LineRow) (lines : List Line) (line : Line) → map (line_of_row t) rows ≡ lines
    → slice_get rows at ≡ Some row → slice_get lines at ≡ Some line → line_of_row t row ≡ line
numbered_row_holds_numbered_line t rows at row lines line shown is there =
    let held : slice_get lines at ≡ Some (line_of_row t row) =
    ap (λ (ls : List Line). slice_get ls at) (sym shown) ∙ slice_get-map (line_of_row t) rows at ∙ ap (option_map (line_of_row t)) is in
    cc
