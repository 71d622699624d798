use Rattle.std.proofs.Common.{List, ap, bytes_eq, sym, take, ℕ, ◌||◌, ◌∙◌, ◌≡◌}
use Rattle.std.proofs.lemmas.List.Folds.{list_any_more}
use Rattle.std.proofs.lemmas.Slice.Eq.{bytes_eq-Decides}
use Rattle.std.specs.List.{list_any}
use Rattle.std.specs.Str.{str_to_ascii_lowercase}
use Rattle.sudoers_match_member.specs.declared.people_and_commands.Group.{Group}
use Rattle.sudoers_match_member.proofs.Added.{added_element_is_among_elements}
use Rattle.sudoers_match_member.proofs.groups.collect_lower_names.Goals as goal

pub loop-group-preserved : goal.loop-group-preserved
loop-group-preserved c test =
    let groups : List Group = c.args.groups.now in
    let n = c.loop-group.group-index in
    let group : Group = c.group-item.result in
    let word : List ℕ = c.as_slice-in-loop-group.result.now in
    let low : word ≡ str_to_ascii_lowercase group.name = c.as_slice-in-loop-group.ensures.value ∙ c.in_ok-folded.ensures.ok ∙ ap str_to_ascii_lowercase c.as_slice.ensures in
    let passes = λ (g : Group). test (str_to_ascii_lowercase g.name) in
    added_element_is_among_elements bytes_eq word (λ x. (bytes_eq-Decides word x).0) test c.loop-group.names c.add.new.self c.in_ok-add.ensures.added
    ∙ ap (λ w. list_any test c.loop-group.names || test w) low
    ∙ ap (λ b. b || passes group) (c.loop-group.invariant test)
    ∙ ap (λ g. list_any passes (take n groups) || passes g) c.group-item.is
    ∙ sym (list_any_more passes groups n group c.loop-group-test.true)
