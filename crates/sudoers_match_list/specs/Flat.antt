-- Lists with their aliases replaced, and what they say (sudoers(5), Aliases).
use Rattle.std.specs.Prelude.{◌≡◌, ◌&&◌, Bool, true, false, not, List, [], ◌∷◌, ◌++◌, map, Option, Some, None, if◌then◌else◌}
use Rattle.sudoers_grammar.specs.declared.node.Kind.{Kind}
use Rattle.sudoers_grammar.specs.declared.node.Atom.{Atom}
use Rattle.sudoers_grammar.specs.declared.node.Atom.TheVariants as atom
use Rattle.sudoers_grammar.specs.Node.{Digest, Member}
use Rattle.sudoers_tree.specs.Line.{Line}
use Rattle.sudoers_tree.specs.Definition.{members_of_alias_definition}
use Rattle.sudoers_match_list.specs.declared.verdict.MemberHit.{MemberHit}
use Rattle.sudoers_match_list.specs.declared.verdict.Verdict.{Verdict}
use Rattle.sudoers_match_list.specs.declared.verdict.Verdict.TheVariants.{Allow, Deny, Unsaid}

-- the members of the alias that the atom names in a list of this kind, if it is defined
abbrev pub alias_members_of_atom : Kind → List Line → Atom → Option (List Member)
alias_members_of_atom k lines (atom.Alias name) = members_of_alias_definition k name lines
alias_members_of_atom k lines other = None

-- an atom with its sign and the digests of its member
pub record SignedAtom : Type 0 where
  pub allow : Bool
  pub digests : List Digest
  pub atom : Atom

abbrev pub signed_atom_of_member : Member → SignedAtom
signed_atom_of_member m = record { allow = not m.negated; digests = m.digests; atom = m.atom }

-- the sign, turned under an odd number of `!`
abbrev pub flipped_if_negated : Bool → Bool → Bool
flipped_if_negated true b = not b
flipped_if_negated false b = b

abbrev pub signed_atom_under_negation : Bool → SignedAtom → SignedAtom
signed_atom_under_negation negated s = record { allow = flipped_if_negated negated s.allow; digests = s.digests; atom = s.atom }

-- The signed atoms of a list: a defined alias is replaced by those of its members, their signs turned under an odd number of `!`.
-- A list that leads to a cyclic alias has none.
pub data IsFlatListOf (k : Kind) (lines : List Line) : List Member → List SignedAtom → Type 0 where
  none : IsFlatListOf k lines [] []
  one : (m : Member) (ms : List Member) (fs : List SignedAtom)
      → alias_members_of_atom k lines m.atom ≡ None → IsFlatListOf k lines ms fs → IsFlatListOf k lines (m ∷ ms) (signed_atom_of_member m ∷ fs)
  many : (m : Member) (ms members : List Member) (inner fs : List SignedAtom)
      → alias_members_of_atom k lines m.atom ≡ Some members → IsFlatListOf k lines members inner → IsFlatListOf k lines ms fs
      → IsFlatListOf k lines (m ∷ ms) (map (signed_atom_under_negation m.negated) inner ++ fs)

abbrev pub is_all_atom : Atom → Bool
is_all_atom atom.All = true
is_all_atom other = false

abbrev pub has_no_digests : List Digest → Bool
has_no_digests [] = true
has_no_digests (d ∷ ds) = false

-- what the atom says where the test holds of it; with a digest it says nothing
abbrev pub hit_of_signed_atom : (Atom → Bool) → SignedAtom → Option MemberHit
hit_of_signed_atom test s = if test s.atom && has_no_digests s.digests then Some (record { allow = s.allow; by_all = is_all_atom s.atom }) else None

-- the later one, if it is one
abbrev pub later_hit_if_any : Option MemberHit → Option MemberHit → Option MemberHit
later_hit_if_any before None = before
later_hit_if_any before (Some hit) = Some hit

abbrev pub hit_under_negation : Bool → Option MemberHit → Option MemberHit
hit_under_negation negated None = None
hit_under_negation negated (Some hit) = Some (record { allow = flipped_if_negated negated hit.allow; by_all = hit.by_all })

-- what the last of them says of which the test holds
abbrev pub last_hit_of_list : (Atom → Bool) → List SignedAtom → Option MemberHit
last_hit_of_list test [] = None
last_hit_of_list test (s ∷ fs) = later_hit_if_any (hit_of_signed_atom test s) (last_hit_of_list test fs)

-- It is what the last atom says of the flat list of which the test holds.
pub record IsLastHitOfList (k : Kind) (lines : List Line) (test : Atom → Bool) (ms : List Member) (hit : Option MemberHit) : Type 0 where
  pub flat : List SignedAtom
  pub is_flat : IsFlatListOf k lines ms flat
  pub is_last : last_hit_of_list test flat ≡ hit

abbrev pub verdict_of_hit : Option MemberHit → Verdict
verdict_of_hit None = Unsaid
verdict_of_hit (Some hit) = if hit.allow then Allow else Deny

-- The last matching member of the list decides.
pub record IsListVerdict (k : Kind) (lines : List Line) (test : Atom → Bool) (ms : List Member) (verdict : Verdict) : Type 0 where
  pub hit : Option MemberHit
  pub is_latest : IsLastHitOfList k lines test ms hit
  pub says : verdict ≡ verdict_of_hit hit

-- the verdict under an odd number of `!`
abbrev pub opposite_verdict : Verdict → Verdict
opposite_verdict Allow = Deny
opposite_verdict Deny = Allow
opposite_verdict Unsaid = Unsaid

-- what a list says that goes on with another
abbrev pub later_verdict_unless_unsaid : Verdict → Verdict → Verdict
later_verdict_unless_unsaid before Unsaid = before
later_verdict_unless_unsaid before said = said
