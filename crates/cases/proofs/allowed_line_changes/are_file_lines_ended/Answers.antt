use Rattle.std.proofs.Common.{◌≡◌, ◌∙◌, true, List, slice_get, Some, sym, ap}
use Rattle.std.specs.Option.{option_map}
use Rattle.sudoers_text.specs.Ended.{ends_in_lf}
use Rattle.sudoers_tree.specs.Files.{lines_of_numbered_file}
use Rattle.sudoers_tree.specs.Line.{Line, line_of_view}
use Rattle.cases.proofs.FileChanges.{ended_line_before_ended_rest_is_ended}
use Rattle.cases.proofs.allowed_line_changes.are_file_lines_ended.Goals as goal

pub loop-number-preserved : goal.loop-number-preserved
loop-number-preserved c =
    let lines : List Line = lines_of_numbered_file c.args.policy.now.files c.args.file in
    let line : Line = line_of_view c.in-Some.line in
    let is : Some line ≡ slice_get lines c.loop-number.number = ap (option_map line_of_view) (sym c.in-Some.is) ∙ c.parsed_line.ensures in
    let lf : ends_in_lf line.text ≡ true = sym c.ends_in_lf.ensures ∙ c.if-ends_in_lf.true in
    λ rest. c.loop-number.invariant (ended_line_before_ended_rest_is_ended lines c.loop-number.number line is lf rest)
