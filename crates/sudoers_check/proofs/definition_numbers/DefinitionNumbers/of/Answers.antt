use Rattle.sudoers_check.proofs.Common.{None, ap, arith, get_or, rules, sym, ◌∙◌, ◌≡◌}
use Rattle.sudoers_check.proofs.Located.{undefined_name_has_no_number, definition_count_in_valid_lines_is_limited, definition_number_is_told_by_line, line_of_definition_is_among_alias_lines, alias_line_numbers_ascend_with_index}
use Rattle.sudoers_check.proofs.definition_numbers.DefinitionNumbers.of.Goals as goal

pub returns-in_err-place : goal.returns-in_err-place
returns-in_err-place c =
    let same : c.from_residual.result ≡ None = search rules in
    same ∙ sym (undefined_name_has_no_number c.args.kind c.args.name.now c.args.self.now.walk (sym c.in_err-place.ensures))

pub index_of_alias_line-requires : goal.index_of_alias_line-requires
index_of_alias_line-requires c = alias_line_numbers_ascend_with_index c.args.self.now.walk _ (c.as_slice.ensures.value ∙ c.args.self.now.firsts_are)

pub returns-in_err-at : goal.returns-in_err-at
returns-in_err-at c =
    absurd (line_of_definition_is_among_alias_lines c.args.kind c.args.name.now c.args.self.now.walk c.in_ok-place.place c.as_slice.result.now (c.as_slice.ensures.value ∙ c.args.self.now.firsts_are)
    (sym c.in_ok-place.ensures) (c.index_of_alias_line.ensures.missing c.in_err-at.was))

pub overflow_add-result : goal.overflow_add-result
overflow_add-result c =
    let first = c.index.result.now in
    let is = definition_number_is_told_by_line c.args.kind c.args.name.now c.args.self.now.walk c.in_ok-place.place c.as_slice.result.now c.in_ok-at.at first (c.as_slice.ensures.value ∙ c.args.self.now.firsts_are)
    (sym c.in_ok-place.ensures) c.in_ok-at.ensures.found.0 c.in_ok-at.ensures.found.1 (c.index.ensures ∙ ap (λ xs. get_or xs c.in_ok-at.at first) (sym c.as_slice.ensures.value)) in
    omega (arith, is.1, definition_count_in_valid_lines_is_limited c.args.self.now.walk c.is_walk.ensures)

pub returns : goal.returns
returns c =
    let first = c.index.result.now in
    let is = definition_number_is_told_by_line c.args.kind c.args.name.now c.args.self.now.walk c.in_ok-place.place c.as_slice.result.now c.in_ok-at.at first (c.as_slice.ensures.value ∙ c.args.self.now.firsts_are)
    (sym c.in_ok-place.ensures) c.in_ok-at.ensures.found.0 c.in_ok-at.ensures.found.1 (c.index.ensures ∙ ap (λ xs. get_or xs c.in_ok-at.at first) (sym c.as_slice.ensures.value)) in
    sym is.0
