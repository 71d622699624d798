use Rattle.sudoers_undecided.proofs.Counting.{pushed_has, pushed_keeps, pushed_only, pushed_with_wanted}
use Rattle.sudoers_undecided.proofs.counted_lists.append_once.Goals as goal

pub returns-clause-has : goal.returns-clause-has
returns-clause-has c = pushed_has c.args.lists.now.items c.push.new.self.items _ (pushed_with_wanted c.args.lists.now.items c.push.new.self.items c.args.line c.args.members _ _ c.from_sign-wanted.ensures c.in_ok-push.ensures.items)

pub returns-clause-kept : goal.returns-clause-kept
returns-clause-kept c = pushed_keeps c.args.lists.now.items c.push.new.self.items _ c.in_ok-push.ensures.items

pub returns-clause-only : goal.returns-clause-only
returns-clause-only c = pushed_only c.args.lists.now.items c.push.new.self.items _ (pushed_with_wanted c.args.lists.now.items c.push.new.self.items c.args.line c.args.members _ _ c.from_sign-wanted.ensures c.in_ok-push.ensures.items)
