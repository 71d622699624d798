-- A device of the proof, which no public contract cites: the users, hosts and Runas_Specs of commands.
use Rattle.std.specs.Prelude.{Bool}
use Rattle.sudoers_tree.specs.Line.{Line}
use Rattle.std.specs.Prelude.{List}
use Rattle.sudoers_match_member.specs.declared.request.Request.{Request}
use Rattle.sudoers_undecided.specs.declared.asked_request.CommandLists.{CommandLists}
use Rattle.sudoers_undecided.specs.declared.user_and_host_lists.UserAndHostLists.{UserAndHostLists}
use Rattle.sudoers_undecided.specs.declared.spec_rows.RunasOfCommands.{RunasOfCommands}
use Rattle.sudoers_undecided.specs.declared.spec_rows.UsersAndHosts.{UsersAndHosts}
use Rattle.sudoers_undecided.specs.internal.Counted.{IsHostsStanding, IsRunasGroupsStanding, IsRunasUsersStanding, IsUsersStanding}

pub record IsWhoStanding (lines : List Line) (r : Request) (who : UsersAndHosts) : Type 0 where
  pub users : IsUsersStanding lines r who.users who.users_standing
  pub hosts : IsHostsStanding lines r who.hosts who.hosts_standing

pub record IsRunasStanding (lines : List Line) (r : Request) (scopes : UserAndHostLists) (runas : RunasOfCommands) : Type 0 where
  pub users : IsRunasUsersStanding lines r scopes runas.runas runas.users
  pub groups : IsRunasGroupsStanding lines r runas.runas runas.groups

-- the lists of a command with these users, hosts and this Runas_Spec
abbrev pub lists_of : UsersAndHosts → RunasOfCommands → Bool → CommandLists
lists_of who runas in_time = record {
  line = who.line;
  users = who.users;
  hosts = who.hosts;
  runas = runas.runas;
  standing = record { users = who.users_standing; hosts = who.hosts_standing; runas_users = runas.users; runas_groups = runas.groups; is_in_time = in_time };
}
