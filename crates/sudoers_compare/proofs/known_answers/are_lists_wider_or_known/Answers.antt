use Rattle.std.proofs.Common.{◌≡◌, ◌&&◌, Bool, Some, ap, arith, get_or, sym, ◌∙◌}
use Rattle.std.specs.Prelude.{slice_get}
use Rattle.std.proofs.lemmas.Option.{slice_get-get_or}
use Rattle.laws_compare.specs.Decided.{is_list_wider}
use Rattle.sudoers_compare.specs.FlatRow.{signed_atoms_of_view}
use Rattle.sudoers_compare.specs.KnownAnswers.{users_at}
use Rattle.sudoers_compare.specs.RowLists.{ListsWithBits}
use Rattle.sudoers_compare.proofs.KnownLists.{changed_answers_are_right, denied_is_false, not_denied_is_true, nothing_asked}
use Rattle.sudoers_compare.proofs.known_answers.are_lists_wider_or_known.Goals as goal

pub returns-then-not-users : goal.returns-then-not-users
returns-then-not-users c = λ all right kept kept_too.
    let spec = c.args.wide_lists.now.spec in
    let answers = c.args.answers.now in
    let known = get_or answers spec nothing_asked in
    let stands : slice_get answers spec ≡ Some known = slice_get-get_or answers spec nothing_asked (omega (arith)) in
    let before = right spec known stands in
    let users = c.answer_of_lists-users.ensures (users_at all) spec (ap (λ (l : ListsWithBits). l.users) kept) (ap (λ (l : ListsWithBits). l.users) kept_too) before.0 in (
      changed_answers_are_right all answers spec (record { users = Some c.answer_of_lists-users.result; hosts = known.hosts }) right (users.0, before.1),
      sym (ap (λ (b : Bool). b && is_list_wider (signed_atoms_of_view c.args.wide.now.hosts) (signed_atoms_of_view c.args.narrow.now.hosts)) (sym users.1 ∙ denied_is_false c.answer_of_lists-users.result.is_wider c.if-not-users.true)),
    )

pub returns : goal.returns
returns c = λ all right kept kept_too.
    let spec = c.args.wide_lists.now.spec in
    let answers = c.args.answers.now in
    let known = get_or answers spec nothing_asked in
    let stands : slice_get answers spec ≡ Some known = slice_get-get_or answers spec nothing_asked (omega (arith)) in
    let before = right spec known stands in
    let users = c.answer_of_lists-users.ensures (users_at all) spec (ap (λ (l : ListsWithBits). l.users) kept) (ap (λ (l : ListsWithBits). l.users) kept_too) before.0 in
    let hosts = c.answer_of_lists-hosts.ensures all.hosts spec (ap (λ (l : ListsWithBits). l.hosts) kept) (ap (λ (l : ListsWithBits). l.hosts) kept_too) before.1 in (
      changed_answers_are_right all answers spec (record { users = Some c.answer_of_lists-users.result; hosts = Some c.answer_of_lists-hosts.result }) right (users.0, hosts.0),
      hosts.1 ∙ sym (ap (λ (b : Bool). b && is_list_wider (signed_atoms_of_view c.args.wide.now.hosts) (signed_atoms_of_view c.args.narrow.now.hosts)) (sym users.1 ∙ not_denied_is_true c.answer_of_lists-users.result.is_wider c.if-not-users.false)),
    )
