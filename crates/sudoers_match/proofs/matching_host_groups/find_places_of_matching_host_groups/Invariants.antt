use Rattle.sudoers_match.proofs.Common.{AreMatchingHostGroupPlacesOfSpec, Host, HostGroupPlace, IsConcatenationOfParts, IsValidVerdictCache, List, User, drop, is_host_atom_match, is_user_atom_match, line_of_row, map}
use Rattle.sudoers_match.proofs.Common.{user_specs_of_lines, ◌++◌, ◌≤◌}
use Rattle.sudoers_match.proofs.matching_host_groups.find_places_of_matching_host_groups.Given as goal

abbrev pub invariant-loop-row : goal.invariant-loop-row
invariant-loop-row l = record {
  users : IsValidVerdictCache User l.policy (is_user_atom_match l.who.user) l.users_said;
  hosts : IsValidVerdictCache Host l.policy (is_host_atom_match l.who) l.hosts_said;
  few : l.spec ≤ l.row-index;
  joined : (rest : List HostGroupPlace)
      → IsConcatenationOfParts (AreMatchingHostGroupPlacesOfSpec l.policy l.who) l.spec (user_specs_of_lines (map (line_of_row l.lines.tables.now) (drop l.row-index l.lines.rows.now))) rest
      → IsConcatenationOfParts (AreMatchingHostGroupPlacesOfSpec l.policy l.who) 0 (user_specs_of_lines (map (line_of_row l.lines.tables.now) l.lines.rows.now)) (l.places.items ++ rest);
}
