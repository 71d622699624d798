use Rattle.sudoers_cvt_rewrite.proofs.Common.{drop, host_group_in_tables, host_group_of_filtered, map, ◌++◌, ◌≡◌}
use Rattle.sudoers_cvt_rewrite.proofs.selecting.select_all_host_groups.Given as goal

abbrev pub invariant-loop-row : goal.invariant-loop-row
invariant-loop-row l =
    map (host_group_of_filtered l.base) l.all.items ++ map (host_group_in_tables l.base) (drop l.row-index l.rows) ≡ map (host_group_in_tables l.base) l.rows
