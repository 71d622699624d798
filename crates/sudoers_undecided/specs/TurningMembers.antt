-- The members of a list that could turn what it says.
use Rattle.std.specs.Prelude.{◌≡◌, not, Bool, true, List, ◌∷◌, ◌++◌, Option, Some, None}
use Rattle.sudoers_grammar.specs.declared.node.Kind.{Kind}
use Rattle.sudoers_grammar.specs.declared.node.Atom.{Atom}
use Rattle.sudoers_grammar.specs.Node.{Member}
use Rattle.sudoers_tree.specs.Line.{Line}
use Rattle.sudoers_match_list.specs.declared.verdict.MemberHit.{MemberHit}
use Rattle.sudoers_match_list.specs.Flat.{SignedAtom, IsFlatListOf, has_no_digests, last_hit_of_list}

-- what the last matching member says decides; where none matches, this holds
abbrev pub is_allowed_by_hit_or_else : Bool → Option MemberHit → Bool
is_allowed_by_hit_or_else own None = own
is_allowed_by_hit_or_else own (Some hit) = hit.allow

-- It cannot be decided, no member behind it matches, and it says the contrary of this.
pub record CouldTurnFlatList (undecided test : Atom → Bool) (allowed : Bool) (flat : List SignedAtom) (s : SignedAtom) : Type 0 where
  pub before : List SignedAtom
  pub after : List SignedAtom
  pub stands : flat ≡ before ++ s ∷ after
  pub is_undecided : undecided s.atom ≡ true
  pub bare : has_no_digests s.digests ≡ true
  pub none_behind : last_hit_of_list test after ≡ None
  pub contrary : s.allow ≡ not allowed

-- It could turn what the list says.
pub record CouldTurnList (k : Kind) (lines : List Line) (undecided test : Atom → Bool) (own : Bool) (ms : List Member) (s : SignedAtom) : Type 0 where
  pub flat : List SignedAtom
  pub is_flat : IsFlatListOf k lines ms flat
  pub turns : CouldTurnFlatList undecided test (is_allowed_by_hit_or_else own (last_hit_of_list test flat)) flat s
