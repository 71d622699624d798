use Rattle.std.proofs.Common.{inl}
use Rattle.sudoers_undecided.proofs.AddedLists.{listed_alone}
use Rattle.sudoers_undecided.proofs.Counting.{pushed_has, pushed_keeps, pushed_only}
use Rattle.sudoers_undecided.proofs.counted_lists.CountedLists.add_command.Goals as goal

pub returns-clause-grown : goal.returns-clause-grown
returns-clause-grown c = record {
  users = λ l h. h;
  hosts = λ l h. h;
  runas_users = λ l h. h;
  runas_groups = λ l h. h;
  commands = pushed_keeps c.args.self.now.commands.items c.push.new.self.items _ c.in_ok-push.ensures.items;
  default = λ e. e;
}

pub returns-clause-has : goal.returns-clause-has
returns-clause-has c = pushed_has c.args.self.now.commands.items c.push.new.self.items _ c.in_ok-push.ensures.items

pub returns-clause-only : goal.returns-clause-only
returns-clause-only c = record {
  users = λ x h. inl h;
  hosts = λ x h. inl h;
  runas_users = λ x h. inl h;
  runas_groups = λ x h. inl h;
  commands = λ x h. listed_alone x _ (pushed_only c.args.self.now.commands.items c.push.new.self.items _ c.in_ok-push.ensures.items x h);
  default = λ e. inl e;
}
