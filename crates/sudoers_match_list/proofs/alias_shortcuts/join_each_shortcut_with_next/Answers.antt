use Rattle.sudoers_match_list.proofs.Common.{arith, length, slice_get-get_or, ◌<◌}
use Rattle.sudoers_match_list.proofs.Shortened.{replaced_shortcut_keeps_shortcuts}
use Rattle.sudoers_match_list.proofs.alias_shortcuts.join_each_shortcut_with_next.Goals as goal

pub loop-i-preserved : goal.loop-i-preserved
loop-i-preserved c lines old =
    let ss = c.loop-i.shortcuts in
    let i = c.loop-i.i in
    let within : i < length ss = omega arith in
    let are = c.loop-i.invariant lines old in
    replaced_shortcut_keeps_shortcuts lines ss i c.join_shortcut_with_next.result (c.join_shortcut_with_next.ensures lines i are (are.each i _ (slice_get-get_or ss i _ within))) are
