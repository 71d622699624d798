use Rattle.std.proofs.Common.{[], inl}
use Rattle.sudoers_undecided.proofs.AddedLists.{flagged, nothing_added}
use Rattle.sudoers_undecided.specs.internal.Parts.{hosts_part}
use Rattle.sudoers_undecided.proofs.counted_lists.CountedLists.add_hosts.Goals as goal

pub returns-then-not-wanted-clause-only : goal.returns-then-not-wanted-clause-only
returns-then-not-wanted-clause-only c = nothing_added c.args.self.now c.args.command.now (hosts_part c.args.wanted) []

pub returns-clause-only : goal.returns-clause-only
returns-clause-only c = record {
  users = λ x h. inl h;
  hosts = λ x h. flagged c.if-not-wanted.false (c.in_ok-append_once.ensures.only x h);
  runas_users = λ x h. inl h;
  runas_groups = λ x h. inl h;
  commands = λ x h. inl h;
  default = λ e. inl e;
}
