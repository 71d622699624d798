-- Rows that are visited part by part.
use Rattle.std.proofs.Common.{◌≡◌, ℕ, Bool, true, if◌then◌else◌, List, [], ◌∷◌, ◌++◌, map, Option, Some, refl, sym, ap, ap₂, ◌∙◌}
use Rattle.std.proofs.lemmas.List.{append_assoc, append-nil}
use Rattle.sudoers_line_rows.specs.declared.rows.MemberRow.{MemberRow}
use Rattle.sudoers_line_rows.specs.declared.rows.Tables.{Tables}
use Rattle.sudoers_match_list.specs.Flat.{SignedAtom}
use Rattle.sudoers_compare.specs.declared.flat_specs.FlatCommand.{FlatCommand}
use Rattle.sudoers_compare.specs.FlatSpecs.{PlacedRow, row_at_place, row_of_flat_command, signed_atoms_in_tables}
use Rattle.sudoers_lint.specs.declared.row_findings.RowWalk.{RowWalk}
use Rattle.sudoers_lint.specs.Findings.{Finding, findings_of_row, findings_of_rows}
use Rattle.sudoers_lint.specs.Lint.{AllowedAll, allowed_all_after, allowed_all_at, does_allow_any_command}
use Rattle.sudoers_lint.specs.Views.{allowed_all_of_view, findings_of_view}
use Rattle.sudoers_lint.specs.Walked.{AreRowsVisited, AreRowsVisitedBut, allowed_all_after_rows}

-- the rows of these members of a command
abbrev pub rows_of_members : Tables → ℕ → List SignedAtom → List SignedAtom → FlatCommand → List MemberRow → List PlacedRow
rows_of_members t line users hosts command members = map (row_at_place line command.start) (map (row_of_flat_command t users hosts command) (signed_atoms_in_tables t members))

findings_of_joined_rows : (before : Option AllowedAll) (rows more : List PlacedRow)
    → findings_of_rows before (rows ++ more) ≡ findings_of_rows before rows ++ findings_of_rows (allowed_all_after_rows before rows) more
findings_of_joined_rows before [] more = refl
findings_of_joined_rows before (placed ∷ rows) more =
    ap (λ (fs : List Finding). findings_of_row before placed ++ fs) (findings_of_joined_rows (allowed_all_after before placed) rows more)
    ∙ sym (append_assoc (findings_of_row before placed) (findings_of_rows (allowed_all_after before placed) rows) (findings_of_rows (allowed_all_after_rows (allowed_all_after before placed) rows) more))

allowed_all_after_joined_rows : (before : Option AllowedAll) (rows more : List PlacedRow)
    → allowed_all_after_rows before (rows ++ more) ≡ allowed_all_after_rows (allowed_all_after_rows before rows) more
allowed_all_after_joined_rows before [] more = refl
allowed_all_after_joined_rows before (placed ∷ rows) more = allowed_all_after_joined_rows (allowed_all_after before placed) rows more

-- What is found of a row is found, and it may be the last that allows any command.
-- A row that allows any command is the last one.
pub row_is_last : (before : Option AllowedAll) (placed : PlacedRow) → does_allow_any_command placed.row.grant.atom ≡ true
    → Some (allowed_all_at placed.line placed.row.hosts) ≡ allowed_all_after before placed
row_is_last before placed e = sym (ap (λ (allows : Bool). if allows then Some (allowed_all_at placed.line placed.row.hosts) else before) e)

pub row_is_visited : (old new : RowWalk) (placed : PlacedRow)
    → findings_of_view new.found.findings.items ≡ findings_of_view old.found.findings.items ++ findings_of_row (allowed_all_of_view old.last) placed
    → allowed_all_of_view new.last ≡ allowed_all_after (allowed_all_of_view old.last) placed → AreRowsVisited old new (placed ∷ [])
row_is_visited old new placed found last = record {
  findings = found ∙ ap (λ (fs : List Finding). findings_of_view old.found.findings.items ++ fs) (sym (append-nil (findings_of_row (allowed_all_of_view old.last) placed)));
  last = last;
}

pub no_row_is_visited_yet : (walk : RowWalk) (rows : List PlacedRow) → AreRowsVisitedBut walk walk rows rows
no_row_is_visited_yet walk rows = record { findings = refl; last = refl }

pub more_findings_are_found : (now next : RowWalk) (all : List Finding) (rows rest : List PlacedRow)
    → findings_of_view now.found.findings.items ++ findings_of_rows (allowed_all_of_view now.last) (rows ++ rest) ≡ all → AreRowsVisited now next rows
    → findings_of_view next.found.findings.items ++ findings_of_rows (allowed_all_of_view next.last) rest ≡ all
more_findings_are_found now next all rows rest so_far more =
    let before = allowed_all_of_view now.last in
    ap₂ (λ (fs : List Finding) (last : Option AllowedAll). fs ++ findings_of_rows last rest) more.findings more.last
    ∙ append_assoc (findings_of_view now.found.findings.items) (findings_of_rows before rows) (findings_of_rows (allowed_all_after_rows before rows) rest)
    ∙ ap (λ (fs : List Finding). findings_of_view now.found.findings.items ++ fs) (sym (findings_of_joined_rows before rows rest))
    ∙ so_far

pub more_rows_are_visited : (old now next : RowWalk) (all rows rest : List PlacedRow) → AreRowsVisitedBut old now all (rows ++ rest) → AreRowsVisited now next rows
    → AreRowsVisitedBut old next all rest
more_rows_are_visited old now next all rows rest so_far more = record {
  findings = more_findings_are_found now next (findings_of_view old.found.findings.items ++ findings_of_rows (allowed_all_of_view old.last) all) rows rest so_far.findings more;
  last = ap (λ (last : Option AllowedAll). allowed_all_after_rows last rest) more.last ∙ sym (allowed_all_after_joined_rows (allowed_all_of_view now.last) rows rest) ∙ so_far.last;
}

pub all_rows_are_visited : (old now : RowWalk) (all : List PlacedRow) → AreRowsVisitedBut old now all [] → AreRowsVisited old now all
all_rows_are_visited old now all so_far =
    record { findings = sym (append-nil (findings_of_view now.found.findings.items)) ∙ so_far.findings; last = so_far.last }
