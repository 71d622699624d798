-- Names that have each alias in which a user stands.
use Rattle.std.specs.Prelude.{◌≡◌, ℕ, true, List}
use Rattle.std.specs.List.{list_any, AllByRecursion}
use Rattle.std.specs.Str.{bytes_eq}
use Rattle.sudoers_grammar.specs.Node.{Def}
use Rattle.sudoers_tree.specs.Line.{Line}
use Rattle.sudoers_plan.specs.declared.user_members.ListPart.{ListPart}
use Rattle.sudoers_plan.specs.User.{is_list_of_user, user_definitions_of_lines}

-- The names have each user alias whose list is the user's, by his name or by these names.
abbrev pub HaveAliasesOfUser : ListPart → List ℕ → List Line → List (List ℕ) → Type 0
HaveAliasesOfUser part user lines names =
    AllByRecursion (λ (d : Def). is_list_of_user part user lines names d.members ≡ true → list_any (bytes_eq d.name) names ≡ true) (user_definitions_of_lines lines)
