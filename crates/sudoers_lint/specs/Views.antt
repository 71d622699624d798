-- What the code holds of findings and of rows.
use Rattle.std.specs.Prelude.{◌≡◌, ◌||◌, List, map, Option}
use Rattle.std.specs.Option.{option_map}
use Rattle.sudoers_compare.specs.FlatRow.{signed_atoms_of_view}
use Rattle.sudoers_compare.specs.FlatSpecs.{PlacedRow}
use Rattle.sudoers_lint.specs.declared.broken_rules.CommandFacts.{CommandFacts}
use Rattle.sudoers_lint.specs.declared.finding_list.LintFinding.{LintFinding}
use Rattle.sudoers_lint.specs.declared.row_findings.LastAllowedAll.{LastAllowedAll}
use Rattle.sudoers_lint.specs.Findings.{Finding, finding_at}
use Rattle.sudoers_lint.specs.Lint.{AllowedAll, allowed_all_at, is_list_of_root, is_open_list, is_open_list_but_some, is_runas_spec_but_some}

abbrev pub finding_of_view : LintFinding → Finding
finding_of_view f = finding_at f.line f.start f.subject.items f.rule

abbrev pub findings_of_view : List LintFinding → List Finding
findings_of_view fs = map finding_of_view fs

-- ---- rows

abbrev pub allowed_all_of_view : Option LastAllowedAll → Option AllowedAll
allowed_all_of_view last = option_map (λ (all : LastAllowedAll). allowed_all_at all.line (signed_atoms_of_view all.hosts)) last

-- what holds of all rows of a command
pub record AreFactsOfRow (facts : CommandFacts) (placed : PlacedRow) : Type 0 where
  pub line : facts.line ≡ placed.line
  pub start : facts.start ≡ placed.start
  pub for_root : facts.is_for_root ≡ is_list_of_root placed.row.users
  pub is_open : facts.is_open ≡ is_open_list placed.row.users
  pub but_some : facts.is_but_some ≡ (is_open_list_but_some placed.row.users || is_runas_spec_but_some placed.row.grant.runas)
  pub tags : facts.tags ≡ placed.row.grant.tags
