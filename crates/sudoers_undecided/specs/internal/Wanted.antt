-- A device of the proof, which no public contract cites: which undecided members of a list count.
use Rattle.std.specs.Prelude.{◌≡◌, ◌∷◌, ◌++◌, not, Bool, true, false, List, None}
use Rattle.sudoers_grammar.specs.declared.node.Kind.{Kind}
use Rattle.sudoers_grammar.specs.declared.node.Atom.{Atom}
use Rattle.sudoers_grammar.specs.Node.{Member}
use Rattle.sudoers_line_rows.specs.View.{members_of_view}
use Rattle.sudoers_tree.specs.Line.{Line}
use Rattle.sudoers_check.specs.Chain.{ListHasElement}
use Rattle.sudoers_match_list.specs.Flat.{SignedAtom, IsFlatListOf, last_hit_of_list}
use Rattle.sudoers_undecided.specs.declared.wanted_members.WantedMembers.{WantedMembers}
use Rattle.sudoers_undecided.specs.declared.wanted_members.WantedMembers.TheVariants.{Allowing, Denying, All}
use Rattle.sudoers_undecided.specs.declared.wanted_members.CountedList.{CountedList}

abbrev pub wanted_of_sign : Bool → WantedMembers
wanted_of_sign true = Allowing
wanted_of_sign false = Denying

abbrev pub wanted_under_negation : Bool → WantedMembers → WantedMembers
wanted_under_negation negated All = All
wanted_under_negation negated Allowing = wanted_of_sign (not negated)
wanted_under_negation negated Denying = wanted_of_sign negated

abbrev pub is_sign_wanted : WantedMembers → Bool → Bool
is_sign_wanted All allow = true
is_sign_wanted Allowing allow = allow
is_sign_wanted Denying allow = not allow

abbrev pub is_all_wanted : WantedMembers → Bool
is_all_wanted All = true
is_all_wanted Allowing = false
is_all_wanted Denying = false

-- None of the signed atoms behind a wanted one matches, unless all are wanted.
abbrev pub NoneMatchesUnlessAllWanted : (Atom → Bool) → WantedMembers → List SignedAtom → Type 0
NoneMatchesUnlessAllWanted test wanted after = is_all_wanted wanted ≡ false → last_hit_of_list test after ≡ None

-- The signed atom is one of those that are wanted of a flat list.
pub record IsWantedOfFlatList (undecided : SignedAtom → Bool) (test : Atom → Bool) (wanted : WantedMembers) (flat : List SignedAtom) (s : SignedAtom) : Type 0 where
  pub before : List SignedAtom
  pub after : List SignedAtom
  pub stands : flat ≡ before ++ s ∷ after
  pub is_undecided : undecided s ≡ true
  pub none_behind : NoneMatchesUnlessAllWanted test wanted after
  pub sign : is_sign_wanted wanted s.allow ≡ true

-- It is one of those that are wanted of the list.
pub record IsWantedOfList (k : Kind) (lines : List Line) (undecided : SignedAtom → Bool) (test : Atom → Bool) (ms : List Member) (wanted : WantedMembers) (s : SignedAtom) : Type 0 where
  pub flat : List SignedAtom
  pub is_flat : IsFlatListOf k lines ms flat
  pub is_wanted : IsWantedOfFlatList undecided test wanted flat s

-- It is one of those that are wanted of one of the lists.
pub record IsWantedOfLists (k : Kind) (lines : List Line) (undecided : SignedAtom → Bool) (test : Atom → Bool) (lists : List CountedList) (s : SignedAtom) : Type 0 where
  pub list : CountedList
  pub stands : ListHasElement lists list
  pub is_wanted : IsWantedOfList k lines undecided test (members_of_view list.members) list.wanted s

-- The list has a flat list.
pub record HasFlatList (k : Kind) (lines : List Line) (l : CountedList) : Type 0 where
  pub flat : List SignedAtom
  pub is_flat : IsFlatListOf k lines (members_of_view l.members) flat

-- Each of the lists has one.
abbrev pub AreFlat : Kind → List Line → List CountedList → Type 0
AreFlat k lines lists = (l : CountedList) → ListHasElement lists l → HasFlatList k lines l
