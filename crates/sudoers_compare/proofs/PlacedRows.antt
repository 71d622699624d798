-- The rows of a policy at their places are the rows of its content.
use Rattle.std.proofs.Common.{◌≡◌, ℕ, ◌+◌, List, [], ◌∷◌, ◌++◌, map, refl, ap, ◌∙◌}
use Rattle.std.proofs.lemmas.List.{map-append}
use Rattle.std.specs.List.{cons_option, flat_map}
use Rattle.sudoers_grammar.specs.Node.{Member, HostGroup, Node}
use Rattle.sudoers_grammar.specs.Node as node
use Rattle.sudoers_tree.specs.Line.{Line}
use Rattle.sudoers_match.specs.Heads.{AccumulatedCommandSettings, commands_with_settings, empty_command_settings}
use Rattle.sudoers_match.specs.Specs.{UserSpec, user_spec_in_node, user_specs_of_lines}
use Rattle.laws_compare.specs.Content.{FlatPrivilegeRow}
use Rattle.laws_compare.specs.Computed.{content_of_lines, flat_rows_of_command, flat_rows_of_host_group, flat_rows_of_user_spec}
use Rattle.sudoers_compare.specs.FlatSpecs.{PlacedRow, row_at_place, placed_rows_of_command, placed_rows_of_host_group, placed_rows_of_node, placed_rows_from_line, placed_rows_of_policy}

rows_at_one_place_are_rows : (line start : ℕ) (rows : List FlatPrivilegeRow) → map (λ (placed : PlacedRow). placed.row) (map (row_at_place line start) rows) ≡ rows
rows_at_one_place_are_rows line start [] = refl
rows_at_one_place_are_rows line start (row ∷ rows) = ap (λ (behind : List FlatPrivilegeRow). row ∷ behind) (rows_at_one_place_are_rows line start rows)

rows_of_parts_are_rows : {X : Type 0} → (placed : X → List PlacedRow) (plain : X → List FlatPrivilegeRow) → ((x : X) → map (λ (row : PlacedRow). row.row) (placed x) ≡ plain x)
    → (xs : List X) → map (λ (row : PlacedRow). row.row) (flat_map placed xs) ≡ flat_map plain xs
rows_of_parts_are_rows placed plain each [] = refl
rows_of_parts_are_rows placed plain each (x ∷ xs) =
    map-append (λ (row : PlacedRow). row.row) (placed x) (flat_map placed xs)
    ∙ ap (λ (rows : List FlatPrivilegeRow). rows ++ map (λ (row : PlacedRow). row.row) (flat_map placed xs)) (each x)
    ∙ ap (λ (rows : List FlatPrivilegeRow). plain x ++ rows) (rows_of_parts_are_rows placed plain each xs)

rows_of_host_group_are_rows : (lines : List Line) (number : ℕ) (users : List Member) (group : HostGroup)
    → map (λ (row : PlacedRow). row.row) (placed_rows_of_host_group lines number users group) ≡ flat_rows_of_host_group lines users group
rows_of_host_group_are_rows lines number users group =
    rows_of_parts_are_rows (placed_rows_of_command lines number users group.hosts) (flat_rows_of_command lines users group.hosts)
    (λ (command : AccumulatedCommandSettings × Member). rows_at_one_place_are_rows number command.1.start (flat_rows_of_command lines users group.hosts command))
    (commands_with_settings empty_command_settings group.commands)

rows_of_node_are_rows : (all : List Line) (number : ℕ) (says : Node) (specs : List UserSpec)
    → map (λ (row : PlacedRow). row.row) (placed_rows_of_node all number says) ++ flat_map (flat_rows_of_user_spec all) specs ≡ flat_map (flat_rows_of_user_spec all) (cons_option (user_spec_in_node says) specs)
rows_of_node_are_rows all number (node.Spec users groups) specs =
    ap (λ (rows : List FlatPrivilegeRow). rows ++ flat_map (flat_rows_of_user_spec all) specs)
    (rows_of_parts_are_rows (placed_rows_of_host_group all number users) (flat_rows_of_host_group all users) (rows_of_host_group_are_rows all number users) groups)
rows_of_node_are_rows all number node.Blank specs = refl
rows_of_node_are_rows all number node.Comment specs = refl
rows_of_node_are_rows all number (node.Include dir path) specs = refl
rows_of_node_are_rows all number (node.Defaults scope params) specs = refl
rows_of_node_are_rows all number (node.Alias k defs) specs = refl

rows_of_lines_are_rows : (all : List Line) (number : ℕ) (lines : List Line) → map (λ (row : PlacedRow). row.row) (placed_rows_from_line all number lines) ≡ flat_map (flat_rows_of_user_spec all) (user_specs_of_lines lines)
rows_of_lines_are_rows all number [] = refl
rows_of_lines_are_rows all number (line ∷ lines) =
    map-append (λ (row : PlacedRow). row.row) (placed_rows_of_node all number line.node) (placed_rows_from_line all (number + 1) lines)
    ∙ ap (λ (rows : List FlatPrivilegeRow). map (λ (row : PlacedRow). row.row) (placed_rows_of_node all number line.node) ++ rows) (rows_of_lines_are_rows all (number + 1) lines)
    ∙ rows_of_node_are_rows all number line.node (user_specs_of_lines lines)

pub rows_of_policy_are_its_content : (lines : List Line) → map (λ (placed : PlacedRow). placed.row) (placed_rows_of_policy lines) ≡ (content_of_lines lines).rows
rows_of_policy_are_its_content lines = rows_of_lines_are_rows lines 0 lines
