use Rattle.sudoers_match.proofs.Common.{AddsPartsBeforeIndex, HoldsHostGroupPlaceIfHostsMatch, Host, IsValidVerdictCache, host_group_in_tables, is_host_atom_match, map}
use Rattle.sudoers_match.proofs.matching_host_groups.add_places_of_host_groups_with_matching_hosts.Given as goal

abbrev pub invariant-loop-host_group : goal.invariant-loop-host_group
invariant-loop-host_group l = record {
  verdicts : IsValidVerdictCache Host l.policy (is_host_atom_match l.who) l.verdicts;
  added : AddsPartsBeforeIndex (HoldsHostGroupPlaceIfHostsMatch l.policy l.who l.spec) (map (host_group_in_tables l.groups.tables.now) l.groups.rows.now) l.host_group l.fn.places.items l.places.items;
}
