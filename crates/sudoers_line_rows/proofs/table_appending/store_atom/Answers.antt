use Rattle.std.proofs.Common.{sym, ◌∙◌, ap₂}
use Rattle.sudoers_grammar.specs.declared.node.Atom.TheVariants.{Path}
use Rattle.sudoers_line_rows.proofs.Growth.{table_growth_is_transitive}
use Rattle.sudoers_line_rows.proofs.table_appending.store_atom.Goals as goal

pub returns-in_ok-args-in-Path-clause-keeps : goal.returns-in_ok-args-in-Path-clause-keeps
returns-in_ok-args-in-Path-clause-keeps c u g =
    let path = c.in_ok-path-in-Path.ensures.keeps u (table_growth_is_transitive _ _ _ c.in_ok-args-in-Path.ensures.grown g) in
    let args = c.in_ok-args-in-Path.ensures.keeps u g in
    ap₂ Path (path ∙ c.as_slice-in-Path.ensures) args ∙ sym c.in-Path.is
