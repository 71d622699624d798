-- Members are the same exactly if their signed atoms are.
use Rattle.std.proofs.Common.{◌≡◌, Bool, true, false, not, ◌&&◌, List, [], ◌∷◌, map, refl, ap, ap₂}
use Rattle.sudoers_grammar.specs.Node.{Member}
use Rattle.sudoers_line_rows.specs.Alike.{are_lists_alike, is_same_bool, is_same_digest, is_same_atom, is_same_member}
use Rattle.sudoers_match_list.specs.Flat.{signed_atom_of_member}
use Rattle.laws_compare.specs.Decided.{is_same_signed_atom, is_same_flat_list}

opposites_are_alike_as_truth_values : (a b : Bool) → is_same_bool a b ≡ is_same_bool (not a) (not b)
opposites_are_alike_as_truth_values true true = refl
opposites_are_alike_as_truth_values true false = refl
opposites_are_alike_as_truth_values false true = refl
opposites_are_alike_as_truth_values false false = refl

pub members_are_alike_as_signed_atoms : (m n : Member) → is_same_member m n ≡ is_same_signed_atom (signed_atom_of_member m) (signed_atom_of_member n)
members_are_alike_as_signed_atoms m n =
    ap (λ same. same && are_lists_alike is_same_digest m.digests n.digests && is_same_atom m.atom n.atom) (opposites_are_alike_as_truth_values m.negated n.negated)

pub lists_are_alike_as_flat_lists : (ms ns : List Member)
    → are_lists_alike is_same_member ms ns ≡ is_same_flat_list (map signed_atom_of_member ms) (map signed_atom_of_member ns)
lists_are_alike_as_flat_lists [] [] = refl
lists_are_alike_as_flat_lists [] (n ∷ ns) = refl
lists_are_alike_as_flat_lists (m ∷ ms) [] = refl
lists_are_alike_as_flat_lists (m ∷ ms) (n ∷ ns) = ap₂ (λ a b. a && b) (members_are_alike_as_signed_atoms m n) (lists_are_alike_as_flat_lists ms ns)
