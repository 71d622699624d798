use Rattle.sudoers_match.proofs.Common.{Bool, List, Tag, final_tags_of, map, tag_in_tables, take, ◌++◌, ◌≡◌}
use Rattle.sudoers_match.proofs.tags.CommandTags.set_all.Given as goal

abbrev pub invariant-loop-row : goal.invariant-loop-row
invariant-loop-row l =
    (before : List (Tag × Bool)) → l.fn.self ≡ final_tags_of before → l.self ≡ final_tags_of (before ++ take l.row-index (map (tag_in_tables l.tags.tables.now) l.tags.rows.now))
