-- The members that are returned as not decided.
use Rattle.std.specs.Prelude.{◌≡◌, ◌⊎◌, List}
use Rattle.sudoers_tree.specs.Line.{Line}
use Rattle.sudoers_check.specs.Chain.{ListHasElement}
use Rattle.sudoers_line_rows.specs.View.{member_of_view}
use Rattle.sudoers_match_member.specs.declared.request.Request.{Request}
use Rattle.sudoers_match_list.specs.Flat.{SignedAtom}
use Rattle.sudoers_match.specs.Rows.{PrivilegeRow}
use Rattle.sudoers_undecided.specs.declared.request_part.RequestPart.{RequestPart}
use Rattle.sudoers_undecided.specs.declared.request_part.RequestPart.TheVariants.{Users, Hosts}
use Rattle.sudoers_undecided.specs.declared.undecided_member.UndecidedMember.{UndecidedMember}
use Rattle.sudoers_undecided.specs.MatchTests.{match_tests_of_request, undecided_by_files_or_paths}
use Rattle.sudoers_undecided.specs.UndecidedAnswer.{IsUndecidedInAnswer}
use Rattle.sudoers_undecided.specs.UndecidedListing.{IsUndecidedInRights}

-- The member is this atom, with its digests, in this part of a request.
pub record IsAtomInPart (p : RequestPart) (s : SignedAtom) (u : UndecidedMember) : Type 0 where
  pub part : u.part ≡ p
  pub atom : (member_of_view u.member).atom ≡ s.atom
  pub digests : (member_of_view u.member).digests ≡ s.digests

-- One of the members is this atom in this part.
pub record HasAtomInPart (found : List UndecidedMember) (p : RequestPart) (s : SignedAtom) : Type 0 where
  pub member : UndecidedMember
  pub stands : ListHasElement found member
  pub is : IsAtomInPart p s member

-- Each atom that was not decided in the answer to the request, and could have changed it, is one of the members, in the part that it
-- could turn.
abbrev pub HasEachUndecidedAtom : List Line → Request → List UndecidedMember → Type 0
HasEachUndecidedAtom lines r found = (row : PrivilegeRow) (p : RequestPart) (s : SignedAtom)
    → IsUndecidedInAnswer lines (undecided_by_files_or_paths r) (match_tests_of_request r) r row p s → HasAtomInPart found p s

-- The member is an atom that was not decided in the answer to the request, and could have changed it, in the part of the member.
pub record IsUndecidedMember (lines : List Line) (r : Request) (u : UndecidedMember) : Type 0 where
  pub row : PrivilegeRow
  pub atom : SignedAtom
  pub is_undecided : IsUndecidedInAnswer lines (undecided_by_files_or_paths r) (match_tests_of_request r) r row u.part atom
  pub is : IsAtomInPart u.part atom u

-- Each of the members could have changed the answer.
abbrev pub AreUndecidedMembers : List Line → Request → List UndecidedMember → Type 0
AreUndecidedMembers lines r found = (u : UndecidedMember) → ListHasElement found u → IsUndecidedMember lines r u

-- Each atom that was not decided in the listing of what the user of the request may run, and could have changed it, is one of the members.
abbrev pub HasEachAtomOfRights : List Line → Request → List UndecidedMember → Type 0
HasEachAtomOfRights lines r found = (s : SignedAtom) → IsUndecidedInRights lines (undecided_by_files_or_paths r) (match_tests_of_request r) s → HasAtomInPart found Users s ⊎ HasAtomInPart found Hosts s

-- The member is such an atom.
pub record IsUndecidedMemberOfRights (lines : List Line) (r : Request) (u : UndecidedMember) : Type 0 where
  pub atom : SignedAtom
  pub is_undecided : IsUndecidedInRights lines (undecided_by_files_or_paths r) (match_tests_of_request r) atom
  pub is : IsAtomInPart u.part atom u

abbrev pub AreUndecidedMembersOfRights : List Line → Request → List UndecidedMember → Type 0
AreUndecidedMembersOfRights lines r found = (u : UndecidedMember) → ListHasElement found u → IsUndecidedMemberOfRights lines r u
