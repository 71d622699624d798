use Rattle.std.proofs.Common.{◌∙◌, ◌++◌, ◌+◌, drop, sym, ap, append_assoc}
use Rattle.std.specs.Prelude.{map}
use Rattle.sudoers_text.specs.Line.{join}
use Rattle.sudoers_tree.proofs.Numbered.{drop_begins_with_numbered_item}
use Rattle.sudoers_text.specs.Adapted.{adapted_line}
use Rattle.sudoers_dialect.proofs.dialect.join_adapted_lines.Goals as goal

pub loop-number-preserved : goal.loop-number-preserved
loop-number-preserved c =
    let so_far = c.loop-number.adapted.items in
    let line = c.in-Some.line.now in
    let rest = join (map adapted_line (drop (c.loop-number.number + 1) c.args.lines.now)) in
    ap (λ text. text ++ rest) c.in_ok-append_adapted_line.ensures
    ∙ append_assoc so_far (adapted_line line) rest
    ∙ ap (λ lines. so_far ++ join (map adapted_line lines)) (sym (drop_begins_with_numbered_item c.args.lines.now c.loop-number.number line (sym c.in-Some.ensures)))
    ∙ c.loop-number.invariant
