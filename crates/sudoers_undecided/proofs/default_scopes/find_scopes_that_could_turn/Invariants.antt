use Rattle.std.proofs.Common.{◌≡◌, ◌++◌, List, ℕ, Option, drop, map}
use Rattle.sudoers_grammar.specs.Node.{Scope}
use Rattle.sudoers_match_member.specs.declared.request.Request.{Request}
use Rattle.sudoers_match.specs.Default.{runas_defaults_of_lines}
use Rattle.sudoers_tree.specs.Line.{line_of_row}
use Rattle.sudoers_undecided.specs.internal.Counted.{AreAliasesOfRequest}
use Rattle.sudoers_undecided.specs.internal.Settings.{CountsSettings}
use Rattle.sudoers_undecided.proofs.default_scopes.find_scopes_that_could_turn.Given as goal

abbrev pub invariant-loop-line : goal.invariant-loop-line
invariant-loop-line l =
    let all = map (line_of_row l.lines.tables.now) l.lines.rows.now in
    (r : Request) → AreAliasesOfRequest l.policy r l.aliases → (before : List (Option Scope × List ℕ))
    × (runas_defaults_of_lines all ≡ before ++ runas_defaults_of_lines (map (line_of_row l.lines.tables.now) (drop l.line l.lines.rows.now)))
    × CountsSettings l.policy r l.initial.scopes l.scopes before
