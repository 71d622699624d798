use Rattle.std.proofs.Common.{inl, inr}
use Rattle.sudoers_undecided.proofs.Counting.{pushed_has, pushed_keeps, pushed_only, pushed_with_wanted}
use Rattle.sudoers_undecided.proofs.user_and_host_lists.append_list_if_it_could_turn.Goals as goal

pub returns-in_ok-push-clause-kept : goal.returns-in_ok-push-clause-kept
returns-in_ok-push-clause-kept c = pushed_keeps c.args.lists.now.items c.push.new.self.items _ c.in_ok-push.ensures.items

pub returns-in_ok-push-clause-has : goal.returns-in_ok-push-clause-has
returns-in_ok-push-clause-has c _ =
    pushed_has c.args.lists.now.items c.push.new.self.items _ (pushed_with_wanted c.args.lists.now.items c.push.new.self.items c.args.line c.args.members.now _ _ c.from_sign.ensures c.in_ok-push.ensures.items)

pub returns-in_ok-push-clause-only : goal.returns-in_ok-push-clause-only
returns-in_ok-push-clause-only c l h =
    elim (pushed_only c.args.lists.now.items c.push.new.self.items _ (pushed_with_wanted c.args.lists.now.items c.push.new.self.items c.args.line c.args.members.now _ _ c.from_sign.ensures c.in_ok-push.ensures.items) l h) [
      | inl old ↦ inl old
      | inr same ↦ inr (c.if-standing.true, same)
    ]
