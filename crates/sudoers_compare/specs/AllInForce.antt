-- Lists in which `ALL` is in force, member by member. A device of the proof.
use Rattle.std.specs.Prelude.{◌&&◌, ◌||◌, Bool, List}
use Rattle.sudoers_match_list.specs.Flat.{SignedAtom, is_all_atom, has_no_digests}
use Rattle.laws_compare.specs.Decided.{has_all_in_force, has_no_negation}

-- whether `ALL` is in force in a list with one member more
abbrev pub all_stays_in_force : Bool → SignedAtom → Bool
all_stays_in_force so_far s = s.allow && (so_far || (has_no_digests s.digests && is_all_atom s.atom))

-- whether it is in force in a list with these members more
abbrev pub all_is_in_force_behind : Bool → List SignedAtom → Bool
all_is_in_force_behind so_far fs = has_all_in_force fs || (so_far && has_no_negation fs)
