use Rattle.sudoers_match.proofs.Common.{Cmnd, Group, Host, IsValidGroupVerdictCache, None, Option, Runas, Some, User, is_host_atom_match}
use Rattle.sudoers_match.proofs.Common.{is_runas_group_atom_match, is_user_atom_match}
use Rattle.sudoers_match.proofs.request_verdicts.RequestVerdictCache.new.Goals as goal

pub returns : goal.returns
returns c test =
    let r = c.args.request.now in
    record {
      default = c.requires;
      users = c.in_ok-users.ensures User (is_user_atom_match r.who.user);
      hosts = c.in_ok-hosts.ensures Host (is_host_atom_match r.who);
      targets = c.in_ok-targets.ensures Runas (is_user_atom_match r.target);
      groups = by r.target_group;
      commands = c.in_ok-commands.ensures Cmnd test;
      own = c.is_requested_group_absent_or_among-own.ensures;
    }
  where
    by : (o : Option Group) → IsValidGroupVerdictCache c.args.policy.now o c.in_ok-groups.groups
    by None = tt
    by (Some g) = c.in_ok-groups.ensures Runas (is_runas_group_atom_match g)
