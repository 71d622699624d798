use Rattle.sudoers_match_list.proofs.Common.{alias_lines_of_lines_numbered_from, ap, at_drop_all, at_drop_more, definitions_of_lines, drop, kind_and_members_of_definition, lines_of_rows, map, sym, ◌+◌, ◌∙◌}
use Rattle.std.specs.List.{flat_map}
use Rattle.sudoers_match_list.proofs.DefinitionLines.{alias_lines_give_all_definitions, kinds_and_members_at_alias_line}
use Rattle.sudoers_match_list.proofs.Appended.{empty_rest_leaves_written_items, appended_items_take_next_values}
use Rattle.sudoers_match_list.proofs.definition_rows.list_definitions.Goals as goal

pub loop-first-preserved : goal.loop-first-preserved
loop-first-preserved c =
    let firsts = c.alias_lines-firsts.result.now in
    let found = kinds_and_members_at_alias_line (lines_of_rows c.args.lines.now) in
    let i = c.loop-first.first-index in
    appended_items_take_next_values _ _ _ (flat_map found (drop i firsts)) (flat_map found (drop (i + 1) firsts)) _ c.in_ok-append_definitions_at_line.ensures
    (at_drop_more (flat_map found) firsts i _ c.loop-first-test.true) c.loop-first.invariant

pub returns : goal.returns
returns c =
    let firsts = c.alias_lines-firsts.result.now in
    let lines = lines_of_rows c.args.lines.now in
    let found = kinds_and_members_at_alias_line lines in
    empty_rest_leaves_written_items _ (flat_map found (drop c.loop-first.first-index firsts)) _ (at_drop_all (flat_map found) firsts c.loop-first.first-index c.loop-first-test.false) c.loop-first.invariant
    ∙ ap (flat_map found) (c.alias_lines-firsts.ensures ∙ ap (alias_lines_of_lines_numbered_from 0 0) (c.definition_numbers.ensures ∙ sym c.requires))
    ∙ alias_lines_give_all_definitions lines
    ∙ ap (λ ls. map kind_and_members_of_definition (definitions_of_lines ls)) c.requires
