-- A list that names no alias stays as it is.
use Rattle.std.proofs.Common.{◌≡◌, ℕ, zero, suc, Bool, true, false, ◌||◌, List, [], ◌∷◌, ◌++◌, map, length, Option, None, refl, ap, ◌∙◌}
use Rattle.std.specs.List.{list_any}
use Rattle.sudoers_grammar.specs.declared.node.Kind.{Kind}
use Rattle.sudoers_grammar.specs.Node.{Member}
use Rattle.sudoers_line_rows.specs.declared.rows.AtomRow.{AtomRow}
use Rattle.sudoers_line_rows.specs.declared.rows.AtomRow.TheVariants.{All, Alias, Name, Id, Group, GroupId, NonUnix, Netgroup, Host, Address, Network, Listing, Path, Sudoedit}
use Rattle.sudoers_line_rows.specs.declared.rows.MemberRow.{MemberRow}
use Rattle.sudoers_line_rows.specs.declared.rows.Tables.{Tables}
use Rattle.sudoers_line_rows.specs.Tables.{atom_in_tables, member_in_tables}
use Rattle.sudoers_tree.specs.Line.{Line}
use Rattle.sudoers_tree.specs.Definition.{definitions_of_lines}
use Rattle.sudoers_match_list.specs.Flat.{alias_members_of_atom}
use Rattle.sudoers_match_list.specs.Flattened.{list_expanded_n_times, list_with_aliases_expanded_once, member_or_alias_members}
use Rattle.sudoers_cvt_rewrite.specs.internal.Written.{is_alias_atom_row, is_alias_row, list_expanded_if}

other_atom_has_no_members : (t : Tables) (k : Kind) (lines : List Line) (atom : AtomRow) → is_alias_atom_row atom ≡ false → alias_members_of_atom k lines (atom_in_tables t atom) ≡ None
other_atom_has_no_members t k lines All is = refl
other_atom_has_no_members t k lines (Alias x) is = cc
other_atom_has_no_members t k lines (Name x) is = refl
other_atom_has_no_members t k lines (Id n) is = refl
other_atom_has_no_members t k lines (Group x) is = refl
other_atom_has_no_members t k lines (GroupId n) is = refl
other_atom_has_no_members t k lines (NonUnix x) is = refl
other_atom_has_no_members t k lines (Netgroup x) is = refl
other_atom_has_no_members t k lines (Host x) is = refl
other_atom_has_no_members t k lines (Address a) is = refl
other_atom_has_no_members t k lines (Network a m) is = refl
other_atom_has_no_members t k lines Listing is = refl
other_atom_has_no_members t k lines (Path x r) is = refl
other_atom_has_no_members t k lines (Sudoedit r) is = refl

false_front : (a b : Bool) → (a || b) ≡ false → a ≡ false
false_front true b is = is
false_front false b is = refl

false_back : (a b : Bool) → (a || b) ≡ false → b ≡ false
false_back true b is = cc
false_back false b is = is

expanded_once_stays : (t : Tables) (k : Kind) (lines : List Line) (rows : List MemberRow) → list_any is_alias_row rows ≡ false → list_with_aliases_expanded_once k lines (map (member_in_tables t) rows) ≡ map (member_in_tables t) rows
expanded_once_stays t k lines [] none = refl
expanded_once_stays t k lines (row ∷ rows) none =
    let first = other_atom_has_no_members t k lines row.atom (false_front (is_alias_row row) (list_any is_alias_row rows) none) in
    let later = expanded_once_stays t k lines rows (false_back (is_alias_row row) (list_any is_alias_row rows) none) in
    ap (λ (o : Option (List Member)). member_or_alias_members (member_in_tables t row) o ++ list_with_aliases_expanded_once k lines (map (member_in_tables t) rows)) first
    ∙ ap (λ (ms : List Member). member_in_tables t row ∷ ms) later

expanded_n_times_stays : (n : ℕ) (k : Kind) (lines : List Line) (ms : List Member) → list_with_aliases_expanded_once k lines ms ≡ ms → list_expanded_n_times n k lines ms ≡ ms
expanded_n_times_stays zero k lines ms once = refl
expanded_n_times_stays (suc n) k lines ms once = ap (list_expanded_n_times n k lines) once ∙ expanded_n_times_stays n k lines ms once

pub list_without_aliases_stays : (expand : Bool) (t : Tables) (k : Kind) (lines : List Line) (rows : List MemberRow) → list_any is_alias_row rows ≡ false → list_expanded_if expand k lines (map (member_in_tables t) rows) ≡ map (member_in_tables t) rows
list_without_aliases_stays true t k lines rows none = expanded_n_times_stays (length (definitions_of_lines lines)) k lines (map (member_in_tables t) rows) (expanded_once_stays t k lines rows none)
list_without_aliases_stays false t k lines rows none = refl
