-- A device of the proof, which no public contract cites: what matches the values of a filter, and what lists say of those that are not denied.
use Rattle.std.specs.Prelude.{◌≡◌, ◌&&◌, ℕ, Bool, false, not, List, ◌++◌, map, None}
use Rattle.std.specs.List.{list_any}
use Rattle.sudoers_grammar.specs.declared.node.Kind.{Kind}
use Rattle.sudoers_grammar.specs.declared.node.Atom.{Atom}
use Rattle.sudoers_grammar.specs.declared.node.Atom.TheVariants as atom
use Rattle.sudoers_grammar.specs.Node.{Member}
use Rattle.sudoers_tree.specs.Line.{Line}
use Rattle.sudoers_match_list.specs.Flat.{SignedAtom, alias_members_of_atom, last_hit_of_list, signed_atom_of_member}
use Rattle.sudoers_match_member.specs.Hits.{is_name_equal_ignoring_case}
use Rattle.sudoers_match_list.specs.Flattened.{fully_expanded_list}
use Rattle.sudoers_cvt_rewrite.specs.declared.filter_text.FilterKey.{FilterKey}
use Rattle.sudoers_cvt_rewrite.specs.declared.filter_text.FilterKey.TheVariants.{User, Group, Host}
use Rattle.sudoers_cvt_rewrite.specs.declared.filter_values.FilterValues.{FilterValues}
use Rattle.sudoers_cvt_rewrite.specs.declared.member_effects.MemberEffect.{MemberEffect}
use Rattle.sudoers_cvt_rewrite.specs.declared.member_effects.MemberEffect.TheVariants.{Nothing, Answer, Unknown}
use Rattle.sudoers_cvt_rewrite.specs.Filter.{is_atom_matching_user_name, is_atom_matching_group_name, is_atom_matching_host_name, is_allowing_hit, is_host_pattern_match, is_list_without_items}
use Rattle.sudoers_cvt_rewrite.specs.internal.SameNames.{is_name_denied}

-- what matches a value with this key
abbrev pub is_atom_matching_value : FilterKey → List ℕ → Atom → Bool
is_atom_matching_value User = is_atom_matching_user_name
is_atom_matching_value Group = is_atom_matching_group_name
is_atom_matching_value Host = is_atom_matching_host_name

-- The atom matches one of the values.
abbrev pub is_atom_matching_any_name : FilterKey → List (List ℕ) → Atom → Bool
is_atom_matching_any_name key names a = list_any (λ name. is_atom_matching_value key name a) names

-- The same by cases: the atom is `ALL`, and there is a value; or it is the name of a value; or it is the pattern of a host.
abbrev pub is_all_or_name_of_value : FilterKey → List (List ℕ) → Atom → Bool
is_all_or_name_of_value User names atom.All = not (is_list_without_items names)
is_all_or_name_of_value User names (atom.Alias name) = list_any (is_name_equal_ignoring_case name) names
is_all_or_name_of_value User names (atom.Name name) = list_any (is_name_equal_ignoring_case name) names
is_all_or_name_of_value User names other = false
is_all_or_name_of_value Group names atom.All = not (is_list_without_items names)
is_all_or_name_of_value Group names (atom.Group name) = list_any (is_name_equal_ignoring_case name) names
is_all_or_name_of_value Group names other = false
is_all_or_name_of_value Host names atom.All = not (is_list_without_items names)
is_all_or_name_of_value Host names (atom.Alias pattern) = list_any (λ name. is_host_pattern_match name pattern) names
is_all_or_name_of_value Host names (atom.Host pattern) = list_any (λ name. is_host_pattern_match name pattern) names
is_all_or_name_of_value Host names other = false

abbrev pub is_atom_matching_any_value : FilterValues → Atom → Bool
is_atom_matching_any_value values a = is_atom_matching_any_name values.key values.names.items a

-- the list, its aliases replaced, as atoms with signs
abbrev pub signed_atoms_of_expanded_list : List Line → Kind → List Member → List SignedAtom
signed_atoms_of_expanded_list lines k ms = map signed_atom_of_member (fully_expanded_list k lines ms)

-- The list allows one of the values that are not denied.
abbrev pub is_any_undenied_name_allowed : FilterKey → List (List ℕ) → List (List ℕ) → List SignedAtom → Bool
is_any_undenied_name_allowed key names denied fs = list_any (λ name. not (is_name_denied denied name) && is_allowing_hit (last_hit_of_list (is_atom_matching_value key name) fs)) names

-- What the last atoms of a list say of the values that are not denied: nothing but that more of them are denied, the answer, or what is not known.
abbrev pub IsEffectOfLastAtoms : FilterKey → List (List ℕ) → List (List ℕ) → List (List ℕ) → List SignedAtom → MemberEffect → Type 0
IsEffectOfLastAtoms key names denied more last Nothing = (before : List SignedAtom) → is_any_undenied_name_allowed key names more before ≡ is_any_undenied_name_allowed key names denied (before ++ last)
IsEffectOfLastAtoms key names denied more last (Answer says) = (before : List SignedAtom) → says ≡ is_any_undenied_name_allowed key names denied (before ++ last)
IsEffectOfLastAtoms key names denied more last Unknown = Unit {0}

-- The atom is no defined alias, and matches those values that are this name, letter case ignored.
pub record IsPlainNameOfAtom (k : Kind) (lines : List Line) (key : FilterKey) (a : Atom) (name : List ℕ) : Type 0 where
  pub undefined : alias_members_of_atom k lines a ≡ None
  pub matching : (value : List ℕ) → is_atom_matching_value key value a ≡ is_name_equal_ignoring_case name value
