-- The rows for a user on a host that flat user specifications hold, part by part. A device of the code, which no public contract cites.
use Rattle.std.specs.Prelude.{ℕ, Bool, ◌&&◌, List, [], if◌then◌else◌, Option, Some, None}
use Rattle.std.specs.List.{flat_map}
use Rattle.sudoers_grammar.specs.declared.node.Atom.{Atom}
use Rattle.sudoers_line_rows.specs.declared.rows.Tables.{Tables}
use Rattle.sudoers_match_member.specs.declared.people_and_commands.Who.{Who}
use Rattle.sudoers_match_member.specs.Hits.{is_user_atom_match, is_host_atom_match}
use Rattle.sudoers_match_list.specs.declared.verdict.MemberHit.{MemberHit}
use Rattle.sudoers_match_list.specs.Flat.{SignedAtom, has_no_digests}
use Rattle.laws_compare.specs.Effective.{is_allowed_by_flat_list}
use Rattle.sudoers_compare.specs.declared.flat_specs.FlatHostGroup.{FlatHostGroup}
use Rattle.sudoers_compare.specs.declared.flat_specs.FlatSpec.{FlatSpec}
use Rattle.sudoers_compare.specs.FlatSpecs.{PlacedRow, placed_rows_of_flat_command, signed_atoms_in_tables}

-- ---- lists

-- whether a list with one member more allows
abbrev pub is_allowed_with_member : (Atom → Bool) → Bool → SignedAtom → Bool
is_allowed_with_member test so_far s = if test s.atom && has_no_digests s.digests then s.allow else so_far

-- whether a list allows of which the rest says this
abbrev pub is_allowed_behind : Bool → Option MemberHit → Bool
is_allowed_behind so_far None = so_far
is_allowed_behind so_far (Some hit) = hit.allow

-- ---- rows

abbrev pub own_rows_of_flat_host_group : Who → Tables → ℕ → FlatHostGroup → List PlacedRow
own_rows_of_flat_host_group who t line group =
    if is_allowed_by_flat_list (is_host_atom_match who) (signed_atoms_in_tables t group.hosts.items)
    then flat_map (placed_rows_of_flat_command t line [] []) group.commands.items
    else []

abbrev pub own_rows_of_flat_spec : Who → Tables → FlatSpec → List PlacedRow
own_rows_of_flat_spec who t spec =
    if is_allowed_by_flat_list (is_user_atom_match who.user) (signed_atoms_in_tables t spec.users.items)
    then flat_map (own_rows_of_flat_host_group who t spec.line) spec.groups.items
    else []

abbrev pub own_rows_of_flat_specs : Who → Tables → List FlatSpec → List PlacedRow
own_rows_of_flat_specs who t specs = flat_map (own_rows_of_flat_spec who t) specs
