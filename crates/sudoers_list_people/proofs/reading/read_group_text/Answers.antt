use Rattle.std.proofs.Common.{rules, ◌≡◌, ◌+◌, ◌∙◌, ap, length, nat_lt, false, Some, inr}
use Rattle.sudoers_text.specs.Fault.{text_limit}
use Rattle.sudoers_list_people.specs.declared.fault.PeopleFile.TheVariants.{Group}
use Rattle.sudoers_list_people.specs.internal.Slices.{texts_of_view}
use Rattle.sudoers_list_people.specs.Rows.{group_file_row_of_text}
use Rattle.sudoers_list_people.specs.People.{has_same_group_name, rows_of_file_text}
use Rattle.sudoers_list_people.proofs.Firsts.{name_equality_is_key, no_rows_are_read_at_start, next_good_row_keeps_read_so_far, next_bad_row_has_first_bad_position, fitting_text_fault_is_at_bad_row}
use Rattle.sudoers_list_people.proofs.reading.read_group_text.Goals as goal

pub loop-at-init : goal.loop-at-init
loop-at-init c =
    no_rows_are_read_at_start has_same_group_name group_file_row_of_text (λ x. x.name) (rows_of_file_text c.args.text.now) _ c.new-groups.result.items c.new-seen.result
    (ap texts_of_view c.deref-row-items.ensures.value ∙ c.in_ok-rows.ensures) (search rules) c.new-seen.ensures

pub returns-then-not-branch-clause-fault : goal.returns-then-not-branch-clause-fault
returns-then-not-branch-clause-fault c =
    let fits : nat_lt text_limit (length c.args.text.now) ≡ false = search rules in
    inr (fitting_text_fault_is_at_bad_row Group group_file_row_of_text c.args.text.now (Some (c.loop-at.at + 1)) fits
    (next_bad_row_has_first_bad_position has_same_group_name group_file_row_of_text (λ x. x.name) (rows_of_file_text c.args.text.now) c.deref-row-items.result.now c.loop-at.at _ c.loop-at.groups.items c.loop-at.seen
    c.in_ok-add_group_row.field-0 c.loop-at.invariant c.loop-at-test.true c.in_ok-add_group_row.ensures.good c.if-not-branch.true))

pub loop-at-preserved : goal.loop-at-preserved
loop-at-preserved c =
    next_good_row_keeps_read_so_far has_same_group_name (name_equality_is_key (λ x. x.name)) group_file_row_of_text (λ x. x.name) (rows_of_file_text c.args.text.now) c.deref-row-items.result.now c.loop-at.at _
    c.loop-at.groups.items c.add_group_row.new.groups.items c.loop-at.seen c.add_group_row.new.seen
    c.in_ok-add_group_row.field-0 c.loop-at.invariant c.loop-at-test.true c.in_ok-add_group_row.ensures.good c.if-not-branch.false
    c.in_ok-add_group_row.ensures.added c.in_ok-add_group_row.ensures.seen
