use Rattle.sudoers_match_list.proofs.Common.{IsLastHitOfList, IsValidVerdictCache, map, member_in_tables, take}
use Rattle.sudoers_match_list.proofs.alias_verdicts.AliasVerdictCache.find_last_hit.Given as goal

abbrev pub invariant-loop-row : goal.invariant-loop-row
invariant-loop-row g l = record {
  verdicts : IsValidVerdictCache l.kind l.numbers.walk (g.K.MemberKind.test l.asked) l.self;
  latest : IsLastHitOfList l.kind l.numbers.walk (g.K.MemberKind.test l.asked) (take l.row-index (map (member_in_tables l.members.tables.now) l.members.rows.now)) l.latest;
}
