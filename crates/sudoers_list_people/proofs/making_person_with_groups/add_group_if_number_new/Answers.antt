use Rattle.std.proofs.Common.{◌≡◌, ◌∙◌, ◌==◌, ap, map, not, true, false, List, ℕ, [], ◌∷◌, ◌++◌}
use Rattle.std.specs.List.{list_any}
use Rattle.sudoers_list_people.proofs.Firsts.{item_with_new_number_is_pushed, item_with_old_number_changes_nothing, negated_true_test_is_false, negated_false_test_is_true}
use Rattle.sudoers_list_people.proofs.making_person_with_groups.add_group_if_number_new.Goals as goal

pub returns-in_ok-push-clause-added : goal.returns-in_ok-push-clause-added
returns-in_ok-push-clause-added c =
    let xs = c.args.groups.now.items in
    let new : list_any (λ n. c.args.gid == n) (map (λ y. y.gid) xs) ≡ false =
    negated_true_test_is_false _ c.in_ok-add.field-0 (c.in_ok-add.ensures.new ∙ ap (λ ns. not (list_any (λ n. c.args.gid == n) ns)) c.requires) c.if-branch.true in
    c.in_ok-push.ensures.items ∙ ap (λ (name : List ℕ). xs ++ record { gid = c.args.gid; name = name } ∷ []) c.in_ok-name.ensures
    ∙ item_with_new_number_is_pushed (λ y. y.gid) (record { gid = c.args.gid; name = c.args.name.now }) xs new

pub returns-else-branch-clause-added : goal.returns-else-branch-clause-added
returns-else-branch-clause-added c =
    let xs = c.args.groups.now.items in
    let has : list_any (λ n. c.args.gid == n) (map (λ y. y.gid) xs) ≡ true =
    negated_false_test_is_true _ c.in_ok-add.field-0 (c.in_ok-add.ensures.new ∙ ap (λ ns. not (list_any (λ n. c.args.gid == n) ns)) c.requires) c.if-branch.false in
    item_with_old_number_changes_nothing (λ y. y.gid) (record { gid = c.args.gid; name = c.args.name.now }) xs has
