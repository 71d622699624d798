use Rattle.std.proofs.Common.{◌&&◌, Bool, Option, ap, sym, subst, ◌∙◌}
use Rattle.std.specs.Borrow.{Bor}
use Rattle.laws_compare.specs.Decided.{is_covering_grant}
use Rattle.sudoers_compare.specs.declared.row_lists.RowLists.{RowLists}
use Rattle.sudoers_compare.specs.FlatRow.{flat_row_of_view, grant_of_view}
use Rattle.sudoers_compare.specs.RowLists.{AreListsKeptIfAny}
use Rattle.sudoers_compare.proofs.KnownLists.{hosts_without_needed_bits_cover_nothing, users_without_needed_bits_cover_nothing}
use Rattle.sudoers_compare.proofs.known_answers.covers_row_by_lists.Goals as goal

pub returns-then-not-has_needed_bits : goal.returns-then-not-has_needed_bits
returns-then-not-has_needed_bits c = λ all right kept kept_too.
    let later = flat_row_of_view c.args.wide.now in
    let row = flat_row_of_view c.args.narrow.now in
    let of_later = subst (λ (o : Option (Bor RowLists)). AreListsKeptIfAny all o later) c.in-Some.is kept in
    let of_row = subst (λ (o : Option (Bor RowLists)). AreListsKeptIfAny all o row) c.in-Some-narrow_lists.is kept_too in (
      right,
      users_without_needed_bits_cover_nothing all c.in-Some.wide_lists.now c.in-Some-narrow_lists.narrow_lists.now later row of_later of_row c.has_needed_bits.ensures.small (sym c.if-not-has_needed_bits.ensures.same),
    )

pub returns-then-not-has_needed_bits-2 : goal.returns-then-not-has_needed_bits-2
returns-then-not-has_needed_bits-2 c = λ all right kept kept_too.
    let later = flat_row_of_view c.args.wide.now in
    let row = flat_row_of_view c.args.narrow.now in
    let of_later = subst (λ (o : Option (Bor RowLists)). AreListsKeptIfAny all o later) c.in-Some.is kept in
    let of_row = subst (λ (o : Option (Bor RowLists)). AreListsKeptIfAny all o row) c.in-Some-narrow_lists.is kept_too in (
      right,
      hosts_without_needed_bits_cover_nothing all c.in-Some.wide_lists.now c.in-Some-narrow_lists.narrow_lists.now later row of_later of_row c.has_needed_bits-2.ensures.small (sym c.if-not-has_needed_bits-2.ensures.same),
    )

pub returns-then-not-are_lists_wider_or_known : goal.returns-then-not-are_lists_wider_or_known
returns-then-not-are_lists_wider_or_known c = λ all right kept kept_too.
    let of_later = subst (λ (o : Option (Bor RowLists)). AreListsKeptIfAny all o (flat_row_of_view c.args.wide.now)) c.in-Some.is kept in
    let of_row = subst (λ (o : Option (Bor RowLists)). AreListsKeptIfAny all o (flat_row_of_view c.args.narrow.now)) c.in-Some-narrow_lists.is kept_too in
    let lists = c.are_lists_wider_or_known.ensures all right of_later of_row in
    (lists.0, sym (ap (λ (b : Bool). b && is_covering_grant (grant_of_view c.args.wide.now) (grant_of_view c.args.narrow.now)) (sym lists.1 ∙ c.if-not-are_lists_wider_or_known.true)))

pub returns : goal.returns
returns c = λ all right kept kept_too.
    let of_later = subst (λ (o : Option (Bor RowLists)). AreListsKeptIfAny all o (flat_row_of_view c.args.wide.now)) c.in-Some.is kept in
    let of_row = subst (λ (o : Option (Bor RowLists)). AreListsKeptIfAny all o (flat_row_of_view c.args.narrow.now)) c.in-Some-narrow_lists.is kept_too in
    let lists = c.are_lists_wider_or_known.ensures all right of_later of_row in
    (lists.0, c.covers_grant_in.ensures ∙ sym (ap (λ (b : Bool). b && is_covering_grant (grant_of_view c.args.wide.now) (grant_of_view c.args.narrow.now)) (sym lists.1 ∙ c.if-not-are_lists_wider_or_known.false)))
