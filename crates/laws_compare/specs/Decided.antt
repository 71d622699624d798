-- Whether a row covers another, decided. That it covers it if this says so is a law (`decided_is_covered`).
use Rattle.std.specs.Prelude.{ℕ, ◌&&◌, ◌||◌, not, Bool, true, false, List, [], ◌∷◌, Option, Some, None}
use Rattle.std.specs.List.{list_any}
use Rattle.std.specs.Str.{bytes_eq}
use Rattle.sudoers_grammar.specs.declared.node.Args.{Args}
use Rattle.sudoers_grammar.specs.declared.node.Args.TheVariants as args
use Rattle.sudoers_grammar.specs.declared.node.Atom.{Atom}
use Rattle.sudoers_grammar.specs.declared.node.Atom.TheVariants as atom
use Rattle.sudoers_match_list.specs.Flat.{SignedAtom, is_all_atom, has_no_digests}
use Rattle.sudoers_line_rows.specs.Alike.{are_lists_alike, is_same_bool, is_same_digest, is_same_atom}
use Rattle.laws_compare.specs.Content.{FlatRunasSpec, Grant, FlatPrivilegeRow}

abbrev pub is_same_signed_atom : SignedAtom → SignedAtom → Bool
is_same_signed_atom s t =
    is_same_bool s.allow t.allow && are_lists_alike is_same_digest s.digests t.digests && is_same_atom s.atom t.atom

abbrev pub is_same_flat_list : List SignedAtom → List SignedAtom → Bool
is_same_flat_list fs gs = are_lists_alike is_same_signed_atom fs gs

-- no member of the list is negated
abbrev pub has_no_negation : List SignedAtom → Bool
has_no_negation [] = true
has_no_negation (s ∷ fs) = s.allow && has_no_negation fs

-- `ALL` stands in the list, and no negated member behind it
abbrev pub has_all_in_force : List SignedAtom → Bool
has_all_in_force [] = false
has_all_in_force (s ∷ fs) = has_all_in_force fs || (s.allow && has_no_digests s.digests && is_all_atom s.atom && has_no_negation fs)

-- the first list has each atom of the second that is not negated
abbrev pub has_each_unnegated_atom : List SignedAtom → List SignedAtom → Bool
has_each_unnegated_atom wide [] = true
has_each_unnegated_atom wide (s ∷ fs) =
    (not s.allow || list_any (is_same_signed_atom s) wide) && has_each_unnegated_atom wide fs

abbrev pub is_list_wider : List SignedAtom → List SignedAtom → Bool
is_list_wider wide narrow = is_same_flat_list wide narrow || has_all_in_force wide || (has_no_negation wide && has_each_unnegated_atom wide narrow)

abbrev pub has_no_negated_group : Option (List SignedAtom) → Bool
has_no_negated_group None = true
has_no_negated_group (Some groups) = has_no_negation groups

-- the list is there, and `ALL` is in force in it
abbrev pub has_present_list_all_in_force : Option (List SignedAtom) → Bool
has_present_list_all_in_force None = false
has_present_list_all_in_force (Some fs) = has_all_in_force fs

-- the users and groups of a Runas_Spec are wider than those of another
abbrev pub are_runas_lists_wider : Option (List SignedAtom) → Option (List SignedAtom) → Option (List SignedAtom) → Option (List SignedAtom) → Bool
are_runas_lists_wider (Some us) gs (Some vs) None = is_list_wider us vs && has_no_negated_group gs
are_runas_lists_wider (Some us) (Some gs) (Some vs) (Some hs) = is_list_wider us vs && is_list_wider gs hs
are_runas_lists_wider None (Some gs) None (Some hs) = is_list_wider gs hs
are_runas_lists_wider None None None None = true
are_runas_lists_wider us gs vs hs = false

abbrev pub is_runas_spec_wider : Option FlatRunasSpec → Option FlatRunasSpec → Bool
is_runas_spec_wider None None = true
is_runas_spec_wider None (Some n) = false
is_runas_spec_wider (Some w) None = has_present_list_all_in_force w.users && has_no_negated_group w.groups
is_runas_spec_wider (Some w) (Some n) =
    (has_present_list_all_in_force w.users && has_present_list_all_in_force w.groups) || are_runas_lists_wider w.users w.groups n.users n.groups

-- no arguments are written, so any may be given
abbrev pub is_any_arguments : Args → Bool
is_any_arguments args.Any = true
is_any_arguments other = false

abbrev pub is_same_command_with_any_arguments : Atom → Atom → Bool
is_same_command_with_any_arguments (atom.Path a m) (atom.Path b n) = bytes_eq a b && is_any_arguments m
is_same_command_with_any_arguments (atom.Sudoedit m) (atom.Sudoedit n) = is_any_arguments m
is_same_command_with_any_arguments a b = false

abbrev pub is_command_atom_wider : Atom → Atom → Bool
is_command_atom_wider wide narrow = is_all_atom wide || is_same_atom wide narrow || is_same_command_with_any_arguments wide narrow

abbrev pub is_time_bound_wider : Option (List ℕ) → Option (List ℕ) → Bool
is_time_bound_wider None narrow = true
is_time_bound_wider (Some a) None = false
is_time_bound_wider (Some a) (Some b) = bytes_eq a b

abbrev pub is_covering_grant : Grant → Grant → Bool
is_covering_grant wide narrow =
    is_runas_spec_wider wide.runas narrow.runas && is_time_bound_wider wide.options.notbefore narrow.options.notbefore
    && is_time_bound_wider wide.options.notafter narrow.options.notafter && has_no_digests wide.atom.digests
    && is_command_atom_wider wide.atom.atom narrow.atom.atom

abbrev pub is_covering_row : FlatPrivilegeRow → FlatPrivilegeRow → Bool
is_covering_row wide narrow =
    is_list_wider wide.users narrow.users && is_list_wider wide.hosts narrow.hosts && is_covering_grant wide.grant narrow.grant
