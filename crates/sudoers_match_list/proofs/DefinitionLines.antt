-- Definitions by the lines that have them.
use Rattle.sudoers_match_list.proofs.Common.{Def, Kind, Line, List, Member, Node, Some, [], alias_line_if_any, alias_lines_of_lines_numbered_from}
use Rattle.sudoers_match_list.proofs.Common.{ap, append-nil, ap₂, arith, definition_count_in_node, definitions_from_line_number, definitions_from_place, definitions_in_line, definitions_of_lines, drop}
use Rattle.sudoers_match_list.proofs.Common.{kind_and_members_of_def, kind_and_members_of_definition, kinds_and_members_in_line}
use Rattle.sudoers_match_list.proofs.Common.{kinds_and_members_in_node, map, map-append, refl, slice_get, suc, sym}
use Rattle.sudoers_match_list.proofs.Common.{zero, ℕ, ◌++◌, ◌+◌, ◌∙◌, ◌∷◌, ◌≡◌}
use Rattle.std.specs.List.{flat_map}
use Rattle.std.proofs.lemmas.Grind.{flat_map-append}
use Rattle.sudoers_grammar.specs.Node as node
use Rattle.sudoers_check.specs.declared.definition_numbers.AliasLineFirstNumber.{AliasLineFirstNumber}

pub definitions_from_place_have_kinds_and_members : (k : Kind) (line n : ℕ) (ds : List Def) → map kind_and_members_of_definition (definitions_from_place k line n ds) ≡ map (kind_and_members_of_def k) ds
definitions_from_place_have_kinds_and_members k line n [] = refl
definitions_from_place_have_kinds_and_members k line n (d ∷ ds) = ap (λ rest. kind_and_members_of_def k d ∷ rest) (definitions_from_place_have_kinds_and_members k line (n + 1) ds)

-- ---- lines that have definitions

abbrev pub kinds_and_members_at_alias_line : List Line → AliasLineFirstNumber → List (Kind × List Member)
kinds_and_members_at_alias_line lines first = kinds_and_members_in_line (slice_get lines first.line)

first_of_rest_is_element_at_index : {X : Type 0} (n : ℕ) (xs : List X) (x : X) (rest : List X) → drop n xs ≡ x ∷ rest → (slice_get xs n ≡ Some x) × (drop (suc n) xs ≡ rest)
first_of_rest_is_element_at_index zero [] x rest e = absurd cc
first_of_rest_is_element_at_index zero (y ∷ xs) x rest e = (ap Some cc, cc)
first_of_rest_is_element_at_index (suc n) [] x rest e = absurd cc
first_of_rest_is_element_at_index (suc n) (y ∷ xs) x rest e = first_of_rest_is_element_at_index n xs x rest e

number_plus_one_is_successor : (n : ℕ) → n + 1 ≡ suc n
number_plus_one_is_successor n = omega arith

module _ (all : List Line) where
  at_first : (n number : ℕ) (line : Line) (says : Node) → line.node ≡ says → slice_get all n ≡ Some line
      → flat_map (kinds_and_members_at_alias_line all) (alias_line_if_any n number (definition_count_in_node says)) ≡ map kind_and_members_of_definition (definitions_in_line n says)
  at_first n number line (node.Alias k []) e at = refl
  at_first n number line (node.Alias k (d ∷ ds)) e at =
      append-nil (kinds_and_members_in_line (slice_get all n)) ∙ ap kinds_and_members_in_line at ∙ ap kinds_and_members_in_node e ∙ definitions_from_place_have_kinds_and_members k 0 0 (d ∷ ds) ∙ sym (definitions_from_place_have_kinds_and_members k n 0 (d ∷ ds))
  at_first n number line node.Blank e at = refl
  at_first n number line node.Comment e at = refl
  at_first n number line (node.Include dir path) e at = refl
  at_first n number line (node.Defaults scope params) e at = refl
  at_first n number line (node.Spec users groups) e at = refl

  at_firsts : (n number : ℕ) (lines : List Line) → drop n all ≡ lines
      → flat_map (kinds_and_members_at_alias_line all) (alias_lines_of_lines_numbered_from n number lines) ≡ map kind_and_members_of_definition (definitions_from_line_number n lines)
  at_firsts n number [] e = refl
  at_firsts n number (line ∷ lines) e =
      let at = first_of_rest_is_element_at_index n all line lines e in
      flat_map-append (kinds_and_members_at_alias_line all) (alias_line_if_any n number (definition_count_in_node line.node)) (alias_lines_of_lines_numbered_from (n + 1) (number + definition_count_in_node line.node) lines)
      ∙ ap₂ (λ xs ys. xs ++ ys) (at_first n number line line.node refl at.0) (at_firsts (n + 1) (number + definition_count_in_node line.node) lines (ap (λ i. drop i all) (number_plus_one_is_successor n) ∙ at.1))
      ∙ sym (map-append kind_and_members_of_definition (definitions_in_line n line.node) (definitions_from_line_number (n + 1) lines))

pub alias_lines_give_all_definitions : (lines : List Line) → flat_map (kinds_and_members_at_alias_line lines) (alias_lines_of_lines_numbered_from 0 0 lines) ≡ map kind_and_members_of_definition (definitions_of_lines lines)
alias_lines_give_all_definitions lines = at_firsts lines 0 0 lines refl
