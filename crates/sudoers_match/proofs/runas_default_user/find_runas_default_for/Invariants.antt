use Rattle.sudoers_match.proofs.Common.{Host, IsRunasDefaultOfLinesBefore, IsValidVerdictCache, User, is_host_atom_match, is_user_atom_match, line_of_row, map}
use Rattle.sudoers_match.proofs.runas_default_user.find_runas_default_for.Given as goal

abbrev pub invariant-loop-row : goal.invariant-loop-row
invariant-loop-row l = record {
  users : IsValidVerdictCache User l.policy (is_user_atom_match l.who.user) l.users;
  hosts : IsValidVerdictCache Host l.policy (is_host_atom_match l.who) l.hosts;
  name : IsRunasDefaultOfLinesBefore l.policy l.who (map (line_of_row l.lines.tables.now) l.lines.rows.now) l.row-index l.name;
}
