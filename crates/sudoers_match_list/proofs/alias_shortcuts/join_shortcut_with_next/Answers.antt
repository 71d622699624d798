use Rattle.sudoers_match_list.proofs.Common.{Some, arith, length, ltb-true, refl, slice_get, slice_get_read, sym, ◌+◌, ◌≡◌}
use Rattle.sudoers_match_list.proofs.Shortened.{joined}
use Rattle.sudoers_match_list.proofs.alias_shortcuts.join_shortcut_with_next.Goals as goal

pub returns : goal.returns
returns c lines n are is =
    let ss = c.args.shortcuts.now in
    let first = c.args.first in
    let next = c.in-Some.next.now in
    let found = c.in-Some.ensures.lookup in
    let at : slice_get ss first.to ≡ Some next = slice_get_read ss (length ss) first.to next refl (ltb-true first.to (length ss) (sym found.0)) found.1 in
    let sum : c.saturating_add-times.result ≡ first.times + next.times = omega arith in
    joined lines n first next c.saturating_add-times.result c.flip_sign_if_negated.result is (are.each first.to next at) sum c.flip_sign_if_negated.ensures
