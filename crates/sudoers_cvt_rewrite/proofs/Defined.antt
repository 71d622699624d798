-- Definitions with a mark, and how many members they have.
use Rattle.sudoers_cvt_rewrite.proofs.Common.{Bool, Kind, Line, List, Member, PlacedDefinition, Tables, [], alias_lines_member_count, alias_node_of_definition}
use Rattle.sudoers_cvt_rewrite.proofs.Common.{ap, ap₂, arith, definitions_of_lines, drop, drop_more}
use Rattle.sudoers_cvt_rewrite.proofs.Common.{false, filter, get_or, if◌then◌else◌, is_used, kind_and_members_of_definition, kind_and_members_of_row}
use Rattle.sudoers_cvt_rewrite.proofs.Common.{length, length-map, map, marked_definitions_member_count, member_in_tables, refl, rules_with_used_definitions, sym}
use Rattle.sudoers_cvt_rewrite.proofs.Common.{true, ℕ, ◌+◌, ◌<◌, ◌∙◌, ◌∷◌, ◌≡◌}
use Rattle.sudoers_match_list.specs.declared.definition_rows.DefinitionKindAndMembers.{DefinitionKindAndMembers}

pub marked_rows_count_members_of_filtered : (t : Tables) (p : PlacedDefinition → Bool) (rows : List DefinitionKindAndMembers) (ds : List PlacedDefinition) → map (kind_and_members_of_row t) rows ≡ map kind_and_members_of_definition ds
    → marked_definitions_member_count (map p ds) rows ≡ alias_lines_member_count (map alias_node_of_definition (filter p ds))
marked_rows_count_members_of_filtered t p [] [] e = refl
marked_rows_count_members_of_filtered t p [] (d ∷ ds) e = absurd cc
marked_rows_count_members_of_filtered t p (row ∷ rows) [] e = absurd cc
marked_rows_count_members_of_filtered t p (row ∷ rows) (d ∷ ds) e =
    let one : kind_and_members_of_row t row ≡ kind_and_members_of_definition d = cc in
    let more : map (kind_and_members_of_row t) rows ≡ map kind_and_members_of_definition ds = cc in
    by (p d) (sym (length-map row.members.now (member_in_tables t)) ∙ ap (λ (x : Kind × List Member). length x.1) one) (marked_rows_count_members_of_filtered t p rows ds more)
  where
    by : (b : Bool) → length row.members.now ≡ length d.def.members → marked_definitions_member_count (map p ds) rows ≡ alias_lines_member_count (map alias_node_of_definition (filter p ds))
        → (if b then length row.members.now else 0) + marked_definitions_member_count (map p ds) rows ≡ alias_lines_member_count (map alias_node_of_definition (if b then d ∷ filter p ds else filter p ds))
    by true size rest = omega (arith, size, rest)
    by false size rest = omega (arith, rest)

-- one definition more
module _ (marks : List Bool) (rows : List DefinitionKindAndMembers) (i : ℕ) (m : Bool) (row : DefinitionKindAndMembers) (h : i < length rows) (same : length marks ≡ length rows) where
  next_marked : marked_definitions_member_count (drop i marks) (drop i rows) ≡ marked_definitions_member_count (get_or marks i m ∷ drop (i + 1) marks) (get_or rows i row ∷ drop (i + 1) rows)
  next_marked = ap₂ marked_definitions_member_count (drop_more marks i m (omega (arith, h, same))) (drop_more rows i row h)

  pub marked_stays : (old new total : ℕ) → get_or marks i m ≡ true → new ≡ old + length (get_or rows i row).members.now
      → old + marked_definitions_member_count (drop i marks) (drop i rows) ≡ total → new + marked_definitions_member_count (drop (i + 1) marks) (drop (i + 1) rows) ≡ total
  marked_stays old new total e counted is =
      let next = next_marked ∙ ap (λ b. (if b then length (get_or rows i row).members.now else 0) + marked_definitions_member_count (drop (i + 1) marks) (drop (i + 1) rows)) e in
      omega (arith, next, counted, is)

  pub marked_falls : (old new total : ℕ) → get_or marks i m ≡ false → new ≡ old
      → old + marked_definitions_member_count (drop i marks) (drop i rows) ≡ total → new + marked_definitions_member_count (drop (i + 1) marks) (drop (i + 1) rows) ≡ total
  marked_falls old new total e counted is =
      let next = next_marked ∙ ap (λ b. (if b then length (get_or rows i row).members.now else 0) + marked_definitions_member_count (drop (i + 1) marks) (drop (i + 1) rows)) e in
      omega (arith, next, counted, is)

-- ---- the marks of lines that define the same

module _ (t : Tables) (rows : List DefinitionKindAndMembers) (lines new : List Line) (marks : List Bool) (are : map (kind_and_members_of_row t) rows ≡ map kind_and_members_of_definition (definitions_of_lines lines))
    (same : definitions_of_lines new ≡ definitions_of_lines lines) (marked : marks ≡ map (is_used new) (definitions_of_lines new)) where
  pub counted_is : marked_definitions_member_count marks rows ≡ alias_lines_member_count (rules_with_used_definitions new).defs
  counted_is = ap (λ ms. marked_definitions_member_count ms rows) marked ∙ marked_rows_count_members_of_filtered t (is_used new) rows (definitions_of_lines new) (are ∙ ap (map kind_and_members_of_definition) (sym same))

  pub one_each : length marks ≡ length rows
  one_each =
      ap length marked ∙ length-map (definitions_of_lines new) (is_used new) ∙ ap length same
      ∙ sym (length-map (definitions_of_lines lines) kind_and_members_of_definition) ∙ sym (ap length are) ∙ length-map rows (kind_and_members_of_row t)
