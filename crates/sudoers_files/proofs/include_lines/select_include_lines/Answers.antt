use Rattle.std.proofs.Common.{◌∙◌, ◌++◌, ◌+◌, drop, sym, ap, append_assoc}
use Rattle.sudoers_tree.specs.Lead.{include_lead_of_line}
use Rattle.sudoers_tree.proofs.Numbered.{drop_begins_with_numbered_item}
use Rattle.sudoers_files.specs.Included.{names_from_include_leads_of_lines}
use Rattle.sudoers_files.proofs.include_lines.select_include_lines.Goals as goal

pub loop-number-preserved : goal.loop-number-preserved
loop-number-preserved c = λ of nothing.
    let name = c.args.name.now in
    let kept = c.loop-number.kept.items in
    let line = c.in-Some.line.now in
    let rest = drop (c.loop-number.number + 1) c.args.lines.now in
    ap (λ names. names ++ names_from_include_leads_of_lines of name rest) (c.in_ok-append_if_include_line.ensures of nothing)
    ∙ append_assoc (names_from_include_leads_of_lines of name kept) (of (include_lead_of_line name line)) (names_from_include_leads_of_lines of name rest)
    ∙ ap (λ lines. names_from_include_leads_of_lines of name kept ++ names_from_include_leads_of_lines of name lines) (sym (drop_begins_with_numbered_item c.args.lines.now c.loop-number.number line (sym c.in-Some.ensures)))
    ∙ c.loop-number.invariant of nothing
