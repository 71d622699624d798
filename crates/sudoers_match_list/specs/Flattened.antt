-- Lists with their aliases replaced, computed. That the flat list is this one is a law (`flattened_is_flat`).
use Rattle.std.specs.Prelude.{ℕ, zero, suc, Bool, List, [], ◌∷◌, length, map, Option, Some, None}
use Rattle.std.specs.List.{flat_map}
use Rattle.sudoers_grammar.specs.declared.node.Kind.{Kind}
use Rattle.sudoers_grammar.specs.Node.{Member}
use Rattle.sudoers_tree.specs.Line.{Line}
use Rattle.sudoers_tree.specs.Definition.{definitions_of_lines}
use Rattle.sudoers_match_list.specs.Flat.{alias_members_of_atom, flipped_if_negated}

-- the member, its sign turned under an odd number of `!`
abbrev pub member_under_negation : Bool → Member → Member
member_under_negation negated m = record { start = m.start; stop = m.stop; negated = flipped_if_negated negated m.negated; digests = m.digests; atom = m.atom }

-- a member, or the members of the alias that it names
abbrev pub member_or_alias_members : Member → Option (List Member) → List Member
member_or_alias_members m None = m ∷ []
member_or_alias_members m (Some members) = map (member_under_negation m.negated) members

-- the list with each of its aliases replaced by the members of the alias
abbrev pub list_with_aliases_expanded_once : Kind → List Line → List Member → List Member
list_with_aliases_expanded_once k lines ms = flat_map (λ (m : Member). member_or_alias_members m (alias_members_of_atom k lines m.atom)) ms

abbrev pub list_expanded_n_times : ℕ → Kind → List Line → List Member → List Member
list_expanded_n_times zero k lines ms = ms
list_expanded_n_times (suc n) k lines ms = list_expanded_n_times n k lines (list_with_aliases_expanded_once k lines ms)

-- The list with its aliases replaced, and those that come in their place, as many times as there are definitions. Then none is left,
-- unless the list leads to a cyclic alias.
abbrev pub fully_expanded_list : Kind → List Line → List Member → List Member
fully_expanded_list k lines ms = list_expanded_n_times (length (definitions_of_lines lines)) k lines ms

-- how many members a list may have whose aliases are replaced, and how many the rules of a policy
abbrev pub expanded_member_limit : ℕ
expanded_member_limit = 65536
