use Rattle.std.proofs.Common.{[], inl}
use Rattle.sudoers_undecided.proofs.AddedLists.{flagged_of_spec, nothing_added}
use Rattle.sudoers_undecided.specs.internal.Parts.{runas_groups_part}
use Rattle.sudoers_undecided.proofs.counted_lists.CountedLists.add_runas_groups.Goals as goal

pub returns-then-not-wanted-clause-only : goal.returns-then-not-wanted-clause-only
returns-then-not-wanted-clause-only c = nothing_added c.args.self.now c.args.command.now (runas_groups_part c.args.wanted) []

pub returns-in_default-clause-only : goal.returns-in_default-clause-only
returns-in_default-clause-only c = nothing_added c.args.self.now c.args.command.now (runas_groups_part c.args.wanted) []

pub returns-clause-only : goal.returns-clause-only
returns-clause-only c = record {
  users = λ x h. inl h;
  hosts = λ x h. inl h;
  runas_users = λ x h. inl h;
  runas_groups = λ x h. flagged_of_spec c.if-not-wanted.false c.in-Some.runas c.in-Some.is (c.in_ok-append_once.ensures.only x h);
  commands = λ x h. inl h;
  default = λ e. inl e;
}
