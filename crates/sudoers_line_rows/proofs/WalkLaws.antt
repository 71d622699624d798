-- The aliases among members of lists one after another.
use Rattle.std.proofs.Common.{◌≡◌, List, ◌++◌}
use Rattle.std.proofs.lemmas.Grind.{flat_map-append}
use Rattle.sudoers_grammar.specs.Listed.{ListedMember, alias_member_of_atom, aliases_among_listed}

pub aliases_among_appended_lists_are_appended : (xs ys : List ListedMember) → aliases_among_listed (xs ++ ys) ≡ aliases_among_listed xs ++ aliases_among_listed ys
aliases_among_appended_lists_are_appended xs ys = flat_map-append (λ (l : ListedMember). alias_member_of_atom l.0 l.1 l.1.atom) xs ys
