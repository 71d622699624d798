use Rattle.std.proofs.Common.{rules, ◌∙◌}
use Rattle.sudoers_list_people.specs.Rows.{group_file_row_of_text}
use Rattle.sudoers_list_people.proofs.Firsts.{kept_new, kept_old}
use Rattle.sudoers_list_people.proofs.reading.add_group_row.Goals as goal

pub returns-in_ok-push-clause-added : goal.returns-in_ok-push-clause-added
returns-in_ok-push-clause-added c =
    c.in_ok-push.ensures.items
    ∙ kept_new (λ y. y.name) group_file_row_of_text c.args.row.now c.in-Some.group c.args.groups.now.items c.as_slice.result.now c.args.seen.now c.in_ok-add.field-0
    (record { over = search rules; says = search rules; asks = c.as_slice.ensures; names = c.requires; new = c.in_ok-add.ensures.new }) c.if-branch.true

pub returns-else-branch-clause-added : goal.returns-else-branch-clause-added
returns-else-branch-clause-added c =
    kept_old (λ y. y.name) group_file_row_of_text c.args.row.now c.in-Some.group c.args.groups.now.items c.as_slice.result.now c.args.seen.now c.in_ok-add.field-0
    (record { over = search rules; says = search rules; asks = c.as_slice.ensures; names = c.requires; new = c.in_ok-add.ensures.new }) c.if-branch.false
