-- What was not decided: the members that could have changed the answer.
use Rattle.std.specs.Prelude.{◌≡◌, ◌⊎◌, List, ◌∷◌, ◌++◌, Option}
use Rattle.std.specs.List.{AllByRecursion}
use Rattle.std.specs.Option.{option_map}
use Rattle.sudoers_tree.specs.Line.{Line}
use Rattle.sudoers_match_member.specs.declared.request.Request.{Request}
use Rattle.sudoers_match_list.specs.Flat.{SignedAtom}
use Rattle.sudoers_match.specs.Answer.{Answer, answer_of_fitting_row}
use Rattle.sudoers_match.specs.Last.{IsLastItemWith}
use Rattle.sudoers_match.specs.Rows.{PrivilegeRow, AreRowsPerFlatAtomOfPolicy}
use Rattle.sudoers_undecided.specs.MatchTests.{MatchTests}
use Rattle.sudoers_undecided.specs.RowParts.{RowPartHolds, CouldTurnRowPart}
use Rattle.sudoers_undecided.specs.declared.request_part.RequestPart.{RequestPart}

-- By these tests every part of the row holds.
abbrev pub RowFitsRequestByTests : List Line → MatchTests → Request → PrivilegeRow → Type 0
RowFitsRequestByTests lines tests r row = (p : RequestPart) → RowPartHolds lines tests r row p

-- Of all rows the last that fits by these tests gives the answer.
pub record IsAnswerByTests (lines : List Line) (tests : MatchTests) (r : Request) (answer : Option Answer) : Type 0 where
  pub rows : List PrivilegeRow
  pub are_rows : AreRowsPerFlatAtomOfPolicy lines rows
  pub last : Option PrivilegeRow
  pub is_last : IsLastItemWith (RowFitsRequestByTests lines tests r) rows last
  pub says : answer ≡ option_map answer_of_fitting_row last

-- Each part of the row holds, or could be turned.
abbrev pub RowMayFitRequest : List Line → MatchTests → MatchTests → Request → PrivilegeRow → Type 0
RowMayFitRequest lines undecided tests r row =
    (p : RequestPart) → RowPartHolds lines tests r row p ⊎ ((s : SignedAtom) × CouldTurnRowPart lines undecided tests r row p s)

-- The atom could have changed whether the row fits: it could turn a part of it, and the row fits, or that part does not hold and each
-- other part holds or could be turned too.
pub record CouldChangeWhetherRowFits (lines : List Line) (undecided tests : MatchTests) (r : Request) (row : PrivilegeRow) (p : RequestPart) (s : SignedAtom) : Type 0 where
  pub may : RowMayFitRequest lines undecided tests r row
  pub turns : CouldTurnRowPart lines undecided tests r row p s
  pub counts : RowFitsRequestByTests lines tests r row ⊎ (RowPartHolds lines tests r row p → ⊥)

-- Behind the row none fits: it is the row that decides, or stands behind it.
pub record IsBehindEachOtherFittingRow (lines : List Line) (tests : MatchTests) (r : Request) (row : PrivilegeRow) : Type 0 where
  pub rows : List PrivilegeRow
  pub are_rows : AreRowsPerFlatAtomOfPolicy lines rows
  pub before : List PrivilegeRow
  pub after : List PrivilegeRow
  pub stands : rows ≡ before ++ row ∷ after
  pub none_behind : AllByRecursion (λ (other : PrivilegeRow). RowFitsRequestByTests lines tests r other → ⊥) after

-- It could have changed the answer: it stands in this part of a row that decides or stands behind that row, and could have changed
-- whether the row fits.
pub record IsUndecidedInAnswer (lines : List Line) (undecided tests : MatchTests) (r : Request) (row : PrivilegeRow) (p : RequestPart) (s : SignedAtom) : Type 0 where
  pub not_passed : IsBehindEachOtherFittingRow lines tests r row
  pub could : CouldChangeWhetherRowFits lines undecided tests r row p s
