use Rattle.std.proofs.Common.{◌≡◌, ◌∷◌, ◌+◌, ◌++◌, List, None, sym, ap, ◌∙◌, drop, subst}
use Rattle.std.proofs.lemmas.List.{drop_more}
use Rattle.sudoers_compare.specs.declared.flat_specs.FlatSpec.{FlatSpec}
use Rattle.sudoers_compare.specs.FlatSpecs.{placed_rows_of_flat_spec, placed_rows_of_flat_specs}
use Rattle.sudoers_lint.specs.Findings.{findings_of_rows}
use Rattle.sudoers_lint.specs.Views.{allowed_all_of_view, findings_of_view}
use Rattle.sudoers_lint.proofs.Visits.{more_findings_are_found}
use Rattle.sudoers_lint.proofs.row_findings.list_findings_of_specs.Goals as goal

pub loop-spec-preserved : goal.loop-spec-preserved
loop-spec-preserved c =
    let t = c.args.tables.now in
    let specs = c.args.specs.now in
    let number = c.loop-spec.spec-index in
    let now = c.loop-spec.walk in
    let left : drop number specs ≡ c.spec-item.result ∷ drop (number + 1) specs =
    drop_more specs number c.spec-item.result c.loop-spec-test.true ∙ ap (λ (spec : FlatSpec). spec ∷ drop (number + 1) specs) (sym c.spec-item.is) in
    let all = findings_of_rows None (placed_rows_of_flat_specs t specs) in
    more_findings_are_found now c.visit_spec.new.self all (placed_rows_of_flat_spec t c.spec-item.result) (placed_rows_of_flat_specs t (drop (number + 1) specs))
    (subst (λ (rest : List FlatSpec). findings_of_view now.found.findings.items ++ findings_of_rows (allowed_all_of_view now.last) (placed_rows_of_flat_specs t rest) ≡ all) left c.loop-spec.invariant)
    c.in_ok-visit_spec.ensures.visited
