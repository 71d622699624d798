-- Where an include line leads (sudoers(5), Including other files from within sudoers).
use Rattle.std.specs.Prelude.{ℕ, true, false, ◌==◌, List, [], ◌∷◌, ◌++◌, Option, Some, None, if◌then◌else◌}
use Rattle.std.specs.List.{list_all}
use Rattle.sudoers_grammar.specs.Node.{Node}
use Rattle.sudoers_grammar.specs.Node as node
use Rattle.sudoers_grammar.specs.Piece.{has_first_byte, has_byte}
use Rattle.sudoers_tree.specs.declared.include_leads.Lead.{Lead}
use Rattle.sudoers_tree.specs.declared.include_leads.Lead.TheVariants.{File, Dir}
use Rattle.sudoers_tree.specs.Single.{reading_of_single_line}

-- a name up to its last `/`, and with it; nothing if the name has none
abbrev pub folder_of : List ℕ → List ℕ
folder_of [] = []
folder_of (b ∷ name) = if has_byte 47 (b ∷ name) then b ∷ folder_of name else []

-- a name without the `/` at its end, however many
abbrev pub name_without_trailing_slashes : List ℕ → List ℕ
name_without_trailing_slashes [] = []
name_without_trailing_slashes (b ∷ name) = if list_all (λ c. c == 47) (b ∷ name) then [] else b ∷ name_without_trailing_slashes name

-- The name to which a path leads in the file `name`: the path itself if it begins with `/`, else the folder of the file and the path.
abbrev pub resolved_include_path : List ℕ → List ℕ → List ℕ
resolved_include_path name path = if has_first_byte 47 path then path else folder_of name ++ path

-- Where a line that says this leads in the file `name`. An include line leads to a file or to a folder. No other line leads anywhere.
abbrev pub lead_of_parsed_line : List ℕ → Node → Option Lead
lead_of_parsed_line name (node.Include false path) = Some (File (resolved_include_path name path))
lead_of_parsed_line name (node.Include true path) = Some (Dir (name_without_trailing_slashes (resolved_include_path name path)))
lead_of_parsed_line name node.Blank = None
lead_of_parsed_line name node.Comment = None
lead_of_parsed_line name (node.Defaults scope params) = None
lead_of_parsed_line name (node.Alias k defs) = None
lead_of_parsed_line name (node.Spec users groups) = None

abbrev pub lead_of_optional_node : List ℕ → Option Node → Option Lead
lead_of_optional_node name None = None
lead_of_optional_node name (Some says) = lead_of_parsed_line name says

-- Where a line of the file `name` leads. Bytes that are not one line that parses lead nowhere.
abbrev pub include_lead_of_line : List ℕ → List ℕ → Option Lead
include_lead_of_line name line = lead_of_optional_node name (reading_of_single_line line)
