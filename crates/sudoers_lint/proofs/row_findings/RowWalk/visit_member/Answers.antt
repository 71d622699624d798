use Rattle.std.proofs.Common.{◌≡◌, Some, true, sym, ap, ap₂, ◌∙◌}
use Rattle.sudoers_compare.specs.FlatRow.{signed_atoms_of_view}
use Rattle.sudoers_lint.specs.Lint.{allowed_all_at, does_allow_any_command}
use Rattle.sudoers_lint.specs.Views.{allowed_all_of_view}
use Rattle.sudoers_lint.proofs.SameHosts.{same_place_is_behind}
use Rattle.sudoers_lint.proofs.Visits.{row_is_last, row_is_visited}
use Rattle.sudoers_lint.proofs.row_findings.RowWalk.visit_member.Goals as goal

pub returns-then-allows_any_command-clause-visited :
    goal.returns-then-allows_any_command-clause-visited
returns-then-allows_any_command-clause-visited c = λ placed facts hosts atom behind.
    let before = allowed_all_of_view c.args.self.now.last in
    let allows : does_allow_any_command placed.row.grant.atom ≡ true = ap does_allow_any_command atom ∙ sym c.if-allows_any_command.ensures in (
      row_is_visited c.args.self.now _ placed (c.in_ok-add_findings_of_member.ensures.added before placed facts behind atom) (ap₂ (λ line hs. Some (allowed_all_at line hs)) facts.line (sym hosts) ∙ row_is_last before placed allows),
      same_place_is_behind c.args.facts.now.line placed.line (signed_atoms_of_view c.args.hosts) placed.row.hosts facts.line hosts,
    )
