-- User specifications, by their numbers (sudoers(5), User specification).
use Rattle.std.specs.Prelude.{◌≡◌, ℕ, suc, List, [], ◌∷◌, ◌++◌, Option, Some, None}
use Rattle.std.specs.List.{filter_map}
use Rattle.sudoers_grammar.specs.Node.{Member, HostGroup, Node}
use Rattle.sudoers_grammar.specs.Node as node
use Rattle.sudoers_tree.specs.Line.{Line}

pub record UserSpec : Type 0 where
  pub users : List Member
  pub groups : List HostGroup

abbrev pub user_spec_of_users_and_groups : List Member → List HostGroup → UserSpec
user_spec_of_users_and_groups users groups = record { users = users; groups = groups }

-- the user specification that a line is
abbrev pub user_spec_in_node : Node → Option UserSpec
user_spec_in_node (node.Spec users groups) = Some (user_spec_of_users_and_groups users groups)
user_spec_in_node (node.Defaults scope params) = None
user_spec_in_node (node.Alias k defs) = None
user_spec_in_node node.Blank = None
user_spec_in_node node.Comment = None
user_spec_in_node (node.Include dir path) = None

-- all user specifications, in file order
abbrev pub user_specs_of_lines : List Line → List UserSpec
user_specs_of_lines lines = filter_map (λ (line : Line). user_spec_in_node line.node) lines

-- What numbered things give, one after another.
abbrev pub IsConcatenationOfParts : {X Y : Type 0} → (ℕ → X → List Y → Type 0) → ℕ → List X → List Y → Type 0
IsConcatenationOfParts Part i [] ys = ys ≡ []
IsConcatenationOfParts {X} {Y} Part i (x ∷ xs) ys = (first rest : List Y) × (ys ≡ first ++ rest) × Part i x first × IsConcatenationOfParts Part (suc i) xs rest
