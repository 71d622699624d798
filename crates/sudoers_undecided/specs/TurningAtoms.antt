-- The members that could turn what a list says, computed.
use Rattle.std.specs.Prelude.{◌&&◌, not, Bool, true, false, List, [], ◌∷◌, Option, Some, None, if◌then◌else◌}
use Rattle.sudoers_grammar.specs.declared.node.Atom.{Atom}
use Rattle.sudoers_match_list.specs.declared.verdict.MemberHit.{MemberHit}
use Rattle.sudoers_match_list.specs.Flat.{SignedAtom, has_no_digests, last_hit_of_list}

abbrev pub is_no_hit : Option MemberHit → Bool
is_no_hit None = true
is_no_hit (Some hit) = false

abbrev pub are_contrary : Bool → Bool → Bool
are_contrary true b = not b
are_contrary false b = b

-- Those of the signed atoms, in their order, that are undecided, behind which none matches, and that say the contrary of this.
abbrev pub atoms_that_could_turn : (Atom → Bool) → (Atom → Bool) → Bool → List SignedAtom → List SignedAtom
atoms_that_could_turn undecided test allowed [] = []
atoms_that_could_turn undecided test allowed (s ∷ fs) =
    if undecided s.atom && (has_no_digests s.digests && (is_no_hit (last_hit_of_list test fs) && are_contrary s.allow allowed))
    then s ∷ atoms_that_could_turn undecided test allowed fs
    else atoms_that_could_turn undecided test allowed fs
