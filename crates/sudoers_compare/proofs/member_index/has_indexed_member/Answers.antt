use Rattle.std.proofs.Common.{◌≡◌, ◌∙◌, ℕ, ap, length, sym}
use Rattle.std.specs.Prelude.{nat_eq}
use Rattle.std.proofs.lemmas.Bool.{ltb-true}
use Rattle.indexmap.specs.IndexMap.{get}
use Rattle.sudoers_line_rows.specs.Tables.{member_in_tables}
use Rattle.sudoers_match_list.specs.Flat.{signed_atom_of_member}
use Rattle.sudoers_compare.specs.AtomNumbers.{atom_number}
use Rattle.sudoers_compare.specs.FlatRow.{signed_atoms_of_view}
use Rattle.sudoers_compare.proofs.MemberIndexes.{list_has_found_member, list_without_number_has_no_member, member_stands_at_place}
use Rattle.sudoers_compare.proofs.member_index.has_indexed_member.Goals as goal

pub returns-in_default : goal.returns-in_default
returns-in_default c =
    let s = signed_atom_of_member (member_in_tables c.args.tables.now c.args.row.now) in
    let number : atom_number s.atom ≡ c.number_of_atom.result = sym (c.number_of_atom.ensures ∙ ap atom_number c.atom_of_row.ensures) in
    sym (list_without_number_has_no_member s (signed_atoms_of_view c.args.members.now)
    (c.requires (atom_number s.atom) (ap (λ (n : ℕ). get nat_eq c.args.index.now n) number ∙ sym c.in_default.ensures.value)))

pub returns-in-Some-get : goal.returns-in-Some-get
returns-in-Some-get c =
    let s = signed_atom_of_member (member_in_tables c.args.tables.now c.args.row.now) in
    let t = c.args.members.now.tables.now in
    sym (list_has_found_member s (signed_atom_of_member (member_in_tables t c.in-Some-get.other.now)) (signed_atoms_of_view c.args.members.now) c.in-Some.place.now
    (member_stands_at_place signed_atom_of_member (member_in_tables t) c.args.members.now.rows.now c.in-Some.place.now c.in-Some-get.other.now
    (ltb-true c.in-Some.place.now (length c.args.members.now.rows.now) (sym c.in-Some-get.ensures.lookup.0)) c.in-Some-get.ensures.lookup.1)
    (sym c.if-is_same_member.ensures))
