-- A device of the proof, which no public contract cites: what a collector found, and what it still looks at.
use Rattle.std.specs.Prelude.{◌≡◌, ◌≤◌, ◌+◌, ◌||◌, ◌⊎◌, not, ℕ, Bool, true, false, List, [], ◌∷◌, length, Some, None, slice_get}
use Rattle.std.specs.Option.{is_some}
use Rattle.sudoers_grammar.specs.declared.node.Kind.{Kind}
use Rattle.sudoers_grammar.specs.declared.node.Atom.{Atom}
use Rattle.sudoers_grammar.specs.Node.{Member}
use Rattle.sudoers_line_rows.specs.View.{member_of_view}
use Rattle.sudoers_tree.specs.Line.{Line}
use Rattle.sudoers_tree.specs.Definition.{definitions_of_lines}
use Rattle.sudoers_check.specs.Chain.{ListHasElement}
use Rattle.sudoers_match_list.specs.Flat.{IsFlatListOf, SignedAtom, last_hit_of_list, signed_atom_of_member}
use Rattle.sudoers_match_list.specs.Search.{alias_number_of_atom, members_of_definition_number}
use Rattle.sudoers_undecided.specs.declared.alias_collector.AliasCollector.{AliasCollector}
use Rattle.sudoers_undecided.specs.declared.alias_collector.AliasMarks.{AliasMarks}
use Rattle.sudoers_undecided.specs.declared.alias_collector.PendingAlias.{PendingAlias}
use Rattle.sudoers_undecided.specs.declared.list_sway.ListSway.{ListSway}
use Rattle.sudoers_undecided.specs.declared.undecided_member.UndecidedMember.{UndecidedMember}
use Rattle.sudoers_undecided.specs.declared.wanted_members.WantedMembers.{WantedMembers}
use Rattle.sudoers_undecided.specs.declared.wanted_members.WantedMembers.TheVariants.{Allowing, Denying, All}
use Rattle.sudoers_undecided.specs.declared.request_part.RequestPart.{RequestPart}
use Rattle.sudoers_undecided.specs.declared.decided_aliases.DecidedAliases.{DecidedAliases}
use Rattle.sudoers_undecided.specs.declared.wanted_members.CountedList.{CountedList}
use Rattle.sudoers_undecided.specs.FoundMembers.{HasAtomInPart, IsAtomInPart}
use Rattle.sudoers_undecided.specs.internal.Decided.{DecidesAllAliases, matched_by, undecided_by}
use Rattle.sudoers_undecided.specs.internal.Wanted.{IsWantedOfFlatList, IsWantedOfLists, NoneMatchesUnlessAllWanted, is_all_wanted, is_sign_wanted, wanted_under_negation}

-- ---- marks

abbrev pub has_mark : AliasMarks → WantedMembers → Bool
has_mark m All = m.all
has_mark m Allowing = m.allowing
has_mark m Denying = m.denying

abbrev pub includes_wanted : AliasMarks → WantedMembers → Bool
includes_wanted m All = m.all
includes_wanted m Allowing = m.all || m.allowing
includes_wanted m Denying = m.all || m.denying

abbrev pub marks_with_wanted : AliasMarks → WantedMembers → AliasMarks
marks_with_wanted m All = record { allowing = m.allowing; denying = m.denying; all = true }
marks_with_wanted m Allowing = record { allowing = true; denying = m.denying; all = m.all }
marks_with_wanted m Denying = record { allowing = m.allowing; denying = true; all = m.all }

-- the alias with this number has the mark
pub record HasMark (marks : List AliasMarks) (n : ℕ) (w : WantedMembers) : Type 0 where
  pub of_alias : AliasMarks
  pub at : slice_get marks n ≡ Some of_alias
  pub has : has_mark of_alias w ≡ true

-- these members of the alias were asked for, or all
pub record IsAsked (marks : List AliasMarks) (n : ℕ) (w : WantedMembers) : Type 0 where
  pub of_alias : AliasMarks
  pub at : slice_get marks n ≡ Some of_alias
  pub includes : includes_wanted of_alias w ≡ true

abbrev pub one_unless : Bool → ℕ
one_unless true = 0
one_unless false = 1

-- how many marks are not set
abbrev pub marks_left : List AliasMarks → ℕ
marks_left [] = 0
marks_left (m ∷ ms) = one_unless m.allowing + one_unless m.denying + one_unless m.all + marks_left ms

abbrev pub pending_alias : ℕ → WantedMembers → PendingAlias
pending_alias n w = record { number = n; wanted = w }

-- ---- members that were looked at

-- No atom of the list matches.
pub record NoneMatches (k : Kind) (lines : List Line) (test : Atom → Bool) (ms : List Member) : Type 0 where
  pub flat : List SignedAtom
  pub is_flat : IsFlatListOf k lines ms flat
  pub none : last_hit_of_list test flat ≡ None

-- It is not known that an atom of the alias matches.
abbrev pub IsMissedAlias : DecidedAliases → ℕ → Type 0
IsMissedAlias d n = (slice_get d.sways.items n ≡ Some None) ⊎ ((sway : ListSway) × (slice_get d.sways.items n ≡ Some (Some sway)) × (is_some sway.hit ≡ false))

-- No atom of these members matches, if they have a flat list.
abbrev pub MatchesNothing : List Line → DecidedAliases → List Member → Type 0
MatchesNothing lines d ms = (flat : List SignedAtom) → IsFlatListOf d.kind lines ms flat → last_hit_of_list (matched_by d) flat ≡ None

-- None does, or all are wanted.
abbrev pub MatchesNothingUnlessAllWanted : List Line → DecidedAliases → WantedMembers → List Member → Type 0
MatchesNothingUnlessAllWanted lines d w ms = (flat : List SignedAtom) → IsFlatListOf d.kind lines ms flat → NoneMatchesUnlessAllWanted (matched_by d) w flat

-- The member was found, if it is wanted, or the alias that it names was asked.
pub record IsMemberHandled (lines : List Line) (c : AliasCollector) (w : WantedMembers) (m : Member) : Type 0 where
  pub plain : alias_number_of_atom c.aliases.now.kind lines m.atom ≡ None → undecided_by c.aliases.now (signed_atom_of_member m) ≡ true → is_sign_wanted w (not m.negated) ≡ true
      → HasAtomInPart c.found.items c.part (signed_atom_of_member m)
  pub alias : (n : ℕ) → alias_number_of_atom c.aliases.now.kind lines m.atom ≡ Some n → IsAsked c.marks.items n (wanted_under_negation m.negated w)

-- A member counts before these.
abbrev pub CountsBefore : List Line → AliasCollector → WantedMembers → List Member → Type 0
CountsBefore lines c w ms = (is_all_wanted w ≡ true) ⊎ NoneMatches c.aliases.now.kind lines (matched_by c.aliases.now) ms

-- Each member that counts was looked at.
abbrev pub AreMembersHandled : List Line → AliasCollector → WantedMembers → List Member → Type 0
AreMembersHandled lines c w [] = Unit {0}
AreMembersHandled lines c w (m ∷ ms) = (CountsBefore lines c w ms → IsMemberHandled lines c w m) × AreMembersHandled lines c w ms

-- ---- collectors

-- The member is not decided.
abbrev pub IsMemberUndecided : DecidedAliases → UndecidedMember → Type 0
IsMemberUndecided d u = undecided_by d (signed_atom_of_member (member_of_view u.member)) ≡ true

-- What was found and asked for stays, and what was found anew is not decided.
pub record KeepsFound (c e : AliasCollector) : Type 0 where
  pub part : e.part ≡ c.part
  pub aliases : e.aliases.now ≡ c.aliases.now
  pub found : (u : UndecidedMember) → ListHasElement c.found.items u → ListHasElement e.found.items u
  pub undecided : (u : UndecidedMember) → ListHasElement e.found.items u → ListHasElement c.found.items u ⊎ IsMemberUndecided c.aliases.now u
  pub marks : (n : ℕ) (w : WantedMembers) → HasMark c.marks.items n w → HasMark e.marks.items n w
  pub size : length e.marks.items ≡ length c.marks.items

-- What is asked for anew is pending.
pub record AsksMore (c e : AliasCollector) : Type 0 where
  pub keeps : KeepsFound c e
  pub pending : (p : PendingAlias) → ListHasElement c.pending.items p → ListHasElement e.pending.items p
  pub new : (n : ℕ) (w : WantedMembers) → HasMark e.marks.items n w → HasMark c.marks.items n w ⊎ ListHasElement e.pending.items (pending_alias n w)
  pub left : marks_left e.marks.items + length e.pending.items ≤ marks_left c.marks.items + length c.pending.items

-- Its aliases are decided, and each definition has marks.
pub record IsCollector (lines : List Line) (c : AliasCollector) : Type 0 where
  pub decided : DecidesAllAliases lines c.aliases.now
  pub size : length c.marks.items ≡ length (definitions_of_lines lines)

-- Each alias that was asked is pending, or was looked at.
abbrev pub IsClosedUpTo : List Line → AliasCollector → List PendingAlias → Type 0
IsClosedUpTo lines c pending = (n : ℕ) (w : WantedMembers) → HasMark c.marks.items n w
    → ListHasElement pending (pending_alias n w) ⊎ AreMembersHandled lines c w (members_of_definition_number lines n)

-- Nothing is pending.
pub record IsSettledCollector (lines : List Line) (c : AliasCollector) : Type 0 where
  pub collector : IsCollector lines c
  pub none_pending : c.pending.items ≡ []
  pub closed : IsClosedUpTo lines c []

-- ---- where members come from

-- The member is an atom that is wanted of one of the lists.
pub record IsMemberOfLists (lines : List Line) (d : DecidedAliases) (p : RequestPart) (lists : List CountedList) (u : UndecidedMember) : Type 0 where
  pub atom : SignedAtom
  pub is_wanted : IsWantedOfLists d.kind lines (undecided_by d) (matched_by d) lists atom
  pub is : IsAtomInPart p atom u

-- An atom with these parts is wanted of one of the lists.
pub record HasWantedAtomLike (lines : List Line) (d : DecidedAliases) (lists : List CountedList) (t : SignedAtom) : Type 0 where
  pub atom : SignedAtom
  pub is_wanted : IsWantedOfLists d.kind lines (undecided_by d) (matched_by d) lists atom
  pub atom_is : t.atom ≡ atom.atom
  pub digests : t.digests ≡ atom.digests

-- Each atom that is wanted of these members is wanted of one of the lists.
pub record AreWantedOfLists (lines : List Line) (d : DecidedAliases) (lists : List CountedList) (ms : List Member) (w : WantedMembers) : Type 0 where
  pub flat : List SignedAtom
  pub is_flat : IsFlatListOf d.kind lines ms flat
  pub each : (t : SignedAtom) → IsWantedOfFlatList (undecided_by d) (matched_by d) w flat t → HasWantedAtomLike lines d lists t

-- What was found is wanted of one of the lists, and so is what is pending.
pub record IsCollectorOfLists (lines : List Line) (lists : List CountedList) (c : AliasCollector) : Type 0 where
  pub found : (u : UndecidedMember) → ListHasElement c.found.items u → IsMemberOfLists lines c.aliases.now c.part lists u
  pub pending : (p : PendingAlias) → ListHasElement c.pending.items p → AreWantedOfLists lines c.aliases.now lists (members_of_definition_number lines p.number) p.wanted

-- What was found and asked for anew is wanted of these members.
abbrev pub CollectsOnlyOf : List Line → List Member → WantedMembers → AliasCollector → AliasCollector → Type 0
CollectsOnlyOf lines ms w c e = (lists : List CountedList) → AreWantedOfLists lines c.aliases.now lists ms w → IsCollectorOfLists lines lists c → IsCollectorOfLists lines lists e
