use Rattle.sudoers_cvt_rewrite.proofs.Common.{AreValidVerdictCaches, drop, last_hit_in_expanded_list, length, list_any, map, member_in_tables, ◌≡◌, ◌≤◌}
use Rattle.sudoers_cvt_rewrite.specs.Filter.{is_allowing_hit}
use Rattle.sudoers_cvt_rewrite.proofs.values_matcher.has_allowed_value.Given as goal

abbrev pub invariant-loop-n : goal.invariant-loop-n
invariant-loop-n g l =
    let ms = map (member_in_tables l.members.tables.now) l.members.rows.now in
    record {
      kept : AreValidVerdictCaches l.kind l.policy g.K.MemberKind.test l.values l.verdicts.items;
      reached : l.n ≤ length l.verdicts.items;
      left : list_any (λ value. is_allowing_hit (last_hit_in_expanded_list l.policy l.kind (g.K.MemberKind.test value) ms)) (drop l.n l.values)
          ≡ list_any (λ value. is_allowing_hit (last_hit_in_expanded_list l.policy l.kind (g.K.MemberKind.test value) ms)) l.values;
    }
