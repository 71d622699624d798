use Rattle.std.proofs.Common.{sym, ap, ◌∙◌}
use Rattle.std.specs.Option.{option_map}
use Rattle.sudoers_tree.specs.Line.{Line, line_of_view}
use Rattle.sudoers_list.proofs.Passing.{line_numbered_from_zero_has_its_index}
use Rattle.sudoers_list.proofs.deciding_rule.find_walk_line_by_number.Goals as goal

pub returns-in-Some-clause-there : goal.returns-in-Some-clause-there
returns-in-Some-clause-there c = sym c.walk_line_at.ensures ∙ ap (option_map line_of_view) c.in-Some.is

pub returns-in-Some-clause-line : goal.returns-in-Some-clause-line
returns-in-Some-clause-line c =
    let n = c.args.number in
    sym (line_numbered_from_zero_has_its_index n c.args.policy.now.walk.lines ∙ ap (option_map (λ (l : Line). (n, l))) (returns-in-Some-clause-there c))

pub returns-in-None-clause-line : goal.returns-in-None-clause-line
returns-in-None-clause-line c =
    let n = c.args.number in
    let none = sym c.walk_line_at.ensures ∙ ap (option_map line_of_view) c.in-None.is in
    sym (line_numbered_from_zero_has_its_index n c.args.policy.now.walk.lines ∙ ap (option_map (λ (l : Line). (n, l))) none)
