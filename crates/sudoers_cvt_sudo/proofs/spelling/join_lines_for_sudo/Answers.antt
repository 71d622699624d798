use Rattle.std.proofs.Common.{◌∙◌, ◌++◌, ◌+◌, drop, sym, ap, append_assoc}
use Rattle.std.specs.Prelude.{map}
use Rattle.sudoers_text.specs.Line.{join}
use Rattle.sudoers_tree.proofs.Numbered.{drop_begins_with_numbered_item}
use Rattle.sudoers_cvt_sudo.specs.Printed.{line_for_sudo}
use Rattle.sudoers_cvt_sudo.proofs.spelling.join_lines_for_sudo.Goals as goal

pub loop-number-preserved : goal.loop-number-preserved
loop-number-preserved c =
    let so_far = c.loop-number.spelled.items in
    let line = c.in-Some.line.now in
    let rest = join (map line_for_sudo (drop (c.loop-number.number + 1) c.args.lines.now)) in
    ap (λ text. text ++ rest) c.in_ok-append_line_for_sudo.ensures
    ∙ append_assoc so_far (line_for_sudo line) rest
    ∙ ap (λ lines. so_far ++ join (map line_for_sudo lines)) (sym (drop_begins_with_numbered_item c.args.lines.now c.loop-number.number line (sym c.in-Some.ensures)))
    ∙ c.loop-number.invariant
