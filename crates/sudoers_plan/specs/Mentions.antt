-- Which definitions mention which aliases, and which are to be asked again. A device of the code, which no public contract cites.
use Rattle.std.specs.Prelude.{◌≡◌, ℕ, ◌+◌, ◌||◌, not, Bool, true, false, nat_eq, List, [], ◌∷◌, ◌++◌, Some, slice_get, slice_index_or, if◌then◌else◌}
use Rattle.std.specs.List.{list_any}
use Rattle.std.specs.Str.{bytes_eq}
use Rattle.sudoers_grammar.specs.declared.node.Atom.{Atom}
use Rattle.sudoers_grammar.specs.declared.node.Atom.TheVariants as atom
use Rattle.sudoers_grammar.specs.Node.{Def, Member}
use Rattle.sudoers_names.specs.Numbers.{numbers_of_name}
use Rattle.sudoers_tree.specs.Line.{Line}
use Rattle.sudoers_plan.specs.declared.user_members.ListPart.{ListPart}
use Rattle.sudoers_plan.specs.User.{is_list_of_user}

-- ---- mentions

abbrev pub is_alias_atom_of_name : List ℕ → Atom → Bool
is_alias_atom_of_name name (atom.Alias other) = bytes_eq name other
is_alias_atom_of_name name a = false

abbrev pub is_mention_of_name : List ℕ → Member → Bool
is_mention_of_name name m = is_alias_atom_of_name name m.atom

-- the numbers, and this one for each member that mentions the name
abbrev pub numbers_with_mentions : List ℕ → ℕ → List Member → List ℕ → List ℕ
numbers_with_mentions name number [] numbers = numbers
numbers_with_mentions name number (m ∷ ms) numbers = numbers_with_mentions name number ms (if is_mention_of_name name m then numbers ++ number ∷ [] else numbers)

-- the numbers, and those of the definitions that mention the name; they are numbered from n on
abbrev pub numbers_with_mentioning_definitions : List ℕ → ℕ → List Def → List ℕ → List ℕ
numbers_with_mentioning_definitions name n [] numbers = numbers
numbers_with_mentioning_definitions name n (d ∷ ds) numbers = numbers_with_mentioning_definitions name (n + 1) ds (numbers_with_mentions name n d.members numbers)

-- Of each definition that mentions a name, its number is among those of the name.
abbrev pub AreMentionsListed : List Def → List (List ℕ × List ℕ) → Type 0
AreMentionsListed ds listed = (j : ℕ) (d : Def) (name : List ℕ) → slice_get ds j ≡ Some d → list_any (is_mention_of_name name) d.members ≡ true
    → list_any (nat_eq j) (numbers_of_name name listed) ≡ true

-- ---- marks

-- the alias is among these names, or its list is not the user's
abbrev pub is_definition_settled : ListPart → List ℕ → List Line → List (List ℕ) → Def → Bool
is_definition_settled part user lines names d = list_any (bytes_eq d.name) names || not (is_list_of_user part user lines names d.members)

-- each definition without a mark is settled
abbrev pub AreUnmarkedSettled : ListPart → List ℕ → List Line → List (List ℕ) → List Def → List Bool → Type 0
AreUnmarkedSettled part user lines names ds marks = (j : ℕ) (d : Def) → slice_get ds j ≡ Some d → slice_index_or marks j false ≡ false → is_definition_settled part user lines names d ≡ true

-- the names after a definition was asked
abbrev pub names_with_definition : ListPart → List ℕ → List Line → List (List ℕ) → Def → List (List ℕ)
names_with_definition part user lines names d =
    if list_any (bytes_eq d.name) names then names else (if is_list_of_user part user lines names d.members then names ++ d.name ∷ [] else names)
