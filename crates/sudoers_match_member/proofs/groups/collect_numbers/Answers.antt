use Rattle.std.proofs.Common.{List, ap, eqb-true, sym, take, ◌==◌, ◌||◌, ◌∙◌}
use Rattle.std.proofs.lemmas.List.Folds.{list_any_more}
use Rattle.std.specs.List.{list_any}
use Rattle.sudoers_match_member.specs.declared.people_and_commands.Group.{Group}
use Rattle.sudoers_match_member.proofs.Added.{added_element_is_among_elements}
use Rattle.sudoers_match_member.proofs.groups.collect_numbers.Goals as goal

pub loop-group-preserved : goal.loop-group-preserved
loop-group-preserved c test =
    let groups : List Group = c.args.groups.now in
    let n = c.loop-group.group-index in
    let group : Group = c.group-item.result in
    let passes = λ (g : Group). test g.gid in
    added_element_is_among_elements (λ a b. a == b) group.gid (eqb-true group.gid) test c.loop-group.numbers c.add.new.self c.in_ok-add.ensures.added
    ∙ ap (λ b. b || passes group) (c.loop-group.invariant test)
    ∙ ap (λ g. list_any passes (take n groups) || passes g) c.group-item.is
    ∙ sym (list_any_more passes groups n group c.loop-group-test.true)
