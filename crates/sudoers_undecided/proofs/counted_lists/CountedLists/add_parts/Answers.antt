use Rattle.sudoers_undecided.proofs.AddedLists.{parts_added}
use Rattle.sudoers_undecided.proofs.counted_lists.CountedLists.add_parts.Goals as goal

pub returns-clause-only : goal.returns-clause-only
returns-clause-only c =
    parts_added c.args.self.now c.add_users.new.self c.add_hosts.new.self c.add_runas_users.new.self c.add_runas_groups.new.self c.args.command.now c.args.parts
    c.in_ok-add_users.ensures.only c.in_ok-add_hosts.ensures.only c.in_ok-add_runas_users.ensures.only c.in_ok-add_runas_groups.ensures.only
