use Rattle.sudoers_check.proofs.Common.{drop, map, mention_of_alias_member, ◌++◌, ◌≡◌}
use Rattle.sudoers_check.proofs.line_mentions.make_mentions_at_line.Given as goal

abbrev pub invariant-loop-alias : goal.invariant-loop-alias
invariant-loop-alias l = l.mentions.items ++ map (mention_of_alias_member l.line) (drop l.alias-index l.aliases) ≡ map (mention_of_alias_member l.line) l.aliases
