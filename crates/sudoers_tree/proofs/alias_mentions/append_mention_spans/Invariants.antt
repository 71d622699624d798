use Rattle.sudoers_tree.proofs.Common.{drop, flat_map, mention_span_if_alias_named, ◌++◌, ◌≡◌}
use Rattle.sudoers_tree.proofs.alias_mentions.append_mention_spans.Given as goal

abbrev pub invariant-loop-alias : goal.invariant-loop-alias
invariant-loop-alias l =
    l.spans.items ++ flat_map (mention_span_if_alias_named l.kind l.name l.line) (drop l.alias-index l.aliases)
    ≡ l.initial.spans.items ++ flat_map (mention_span_if_alias_named l.kind l.name l.line) l.aliases
