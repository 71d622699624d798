use Rattle.sudoers_check.proofs.Common.{Mention, definitions_of_lines, first_definition_of, is_some, subst, true, ◌≡◌}
use Rattle.sudoers_check.proofs.Noted.{defined_mention_keeps_seen_keys_matching, name_with_place_is_defined}
use Rattle.sudoers_check.proofs.notes.is_first_undefined_mention.Goals as goal

pub returns-then-is_some-clause-seen : goal.returns-then-is_some-clause-seen
returns-then-is_some-clause-seen c = λ before agrees.
    let ds = definitions_of_lines c.args.walk.now in
    let there = name_with_place_is_defined c.place_of_definition.result c.mention.inside.kind c.mention.inside.name.now c.args.walk.now c.place_of_definition.ensures c.if-is_some.ensures in
    defined_mention_keeps_seen_keys_matching ds c.args.seen.now before c.args.mention.now (subst (λ (m : Mention). is_some (first_definition_of m.kind m.name ds) ≡ true) c.mention.view_is there) agrees
