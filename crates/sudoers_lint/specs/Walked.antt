-- Rows as they are visited: the last of them that allows any command. A device of the proof, which no public contract cites.
use Rattle.std.specs.Prelude.{◌≡◌, ℕ, List, [], ◌∷◌, ◌++◌, Option}
use Rattle.sudoers_compare.specs.FlatSpecs.{PlacedRow}
use Rattle.sudoers_match_list.specs.Flat.{SignedAtom}
use Rattle.sudoers_lint.specs.declared.row_findings.RowWalk.{RowWalk}
use Rattle.sudoers_lint.specs.declared.row_findings.UserFacts.{UserFacts}
use Rattle.sudoers_lint.specs.Findings.{findings_of_rows}
use Rattle.sudoers_lint.specs.Lint.{AllowedAll, allowed_all_after, is_behind_all, is_list_of_root, is_open_list, is_open_list_but_some}
use Rattle.sudoers_lint.specs.Views.{allowed_all_of_view, findings_of_view}

-- the last row that allows any command, with these rows more
abbrev pub allowed_all_after_rows : Option AllowedAll → List PlacedRow → Option AllowedAll
allowed_all_after_rows before [] = before
allowed_all_after_rows before (placed ∷ rows) = allowed_all_after_rows (allowed_all_after before placed) rows

-- The second walk is the first with these rows more.
pub record AreRowsVisited (old new : RowWalk) (rows : List PlacedRow) : Type 0 where
  pub findings : findings_of_view new.found.findings.items ≡ findings_of_view old.found.findings.items ++ findings_of_rows (allowed_all_of_view old.last) rows
  pub last : allowed_all_of_view new.last ≡ allowed_all_after_rows (allowed_all_of_view old.last) rows

-- The second walk is the first with some of these rows more. The rest of them is left.
pub record AreRowsVisitedBut (old now : RowWalk) (all rest : List PlacedRow) : Type 0 where
  pub findings : findings_of_view now.found.findings.items ++ findings_of_rows (allowed_all_of_view now.last) rest
      ≡ findings_of_view old.found.findings.items ++ findings_of_rows (allowed_all_of_view old.last) all
  pub last : allowed_all_after_rows (allowed_all_of_view now.last) rest ≡ allowed_all_after_rows (allowed_all_of_view old.last) all

-- what holds of the users of a user specification
pub record AreFactsOfUsers (facts : UserFacts) (us : List SignedAtom) : Type 0 where
  pub for_root : facts.is_for_root ≡ is_list_of_root us
  pub is_open : facts.is_open ≡ is_open_list us
  pub but_some : facts.is_but_some ≡ is_open_list_but_some us

-- The walk knows whether a row on this line for these hosts is behind the last row that allows any command.
abbrev pub IsWalkOnLineForHosts : RowWalk → ℕ → List SignedAtom → Type 0
IsWalkOnLineForHosts walk line hosts = walk.is_behind ≡ is_behind_all (allowed_all_of_view walk.last) line hosts
