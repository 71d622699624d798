use Rattle.std.proofs.Common.{rules, ◌≡◌, ◌⊎◌, inl, inr, ℕ, List, [], Err, IfErr, map-id, subst, sym}
use Rattle.sudoers_check.specs.Chain.{ListHasElement}
use Rattle.sudoers_review_users.specs.AllUsers.{IsTextOfNamedUser}
use Rattle.sudoers_review_users.specs.declared.users_fault.UserChangesFault.{UserChangesFault}
use Rattle.sudoers_review_users.specs.Faults.{IsFaultOfNamedUser, IsFaultOfNamedUsers, IsMemoryOrSizeFaultForUsers}
use Rattle.sudoers_review_users.specs.Ready.{new_policy, old_policy}
use Rattle.sudoers_review_users.specs.UserChanges.{AreLinesOfItems}
use Rattle.sudoers_review_users.proofs.UserLines.{all_item_lines, item_is_among, one_more_item_line}
use Rattle.sudoers_review_users.proofs.users.list_changes_of_users.Goals as goal

pub returns-in_err-append_changes_of_named_user-clause-fault : goal.returns-in_err-append_changes_of_named_user-clause-fault
returns-in_err-append_changes_of_named_user-clause-fault c =
    let asked = c.args.asked.now in
    let names : List (List ℕ) = asked.names.now in
    let fault : UserChangesFault = c.in_err-append_changes_of_named_user.field-0.0 in
    let name : List ℕ = c.name-item.result in
    let same : c.from_residual.result ≡ Err fault = search rules in
    subst (λ r. IfErr r (λ (f : UserChangesFault). IsMemoryOrSizeFaultForUsers f ⊎ IsFaultOfNamedUsers c.args.people.now asked.host.now asked.interfaces.now names f)) (sym same)
    (elim c.in_err-append_changes_of_named_user.ensures.fault as (λ _. IsMemoryOrSizeFaultForUsers fault ⊎ IsFaultOfNamedUsers c.args.people.now asked.host.now asked.interfaces.now names fault) [
      | inl memory ↦ inl memory
      | inr told ↦ inr (
        name,
        subst (λ (one : List ℕ). ListHasElement names one) (sym c.name-item.is) (item_is_among names c.loop-name.name-index name c.loop-name-test.true),
        subst (λ (one : List ℕ). IsFaultOfNamedUser c.args.people.now asked.host.now asked.interfaces.now one fault) c.as_slice.ensures told,
      )
    ])

pub loop-name-preserved : goal.loop-name-preserved
loop-name-preserved c =
    let asked = c.args.asked.now in
    let compared = c.args.compared.now in
    let IsText : List ℕ → List ℕ → Type 0 = IsTextOfNamedUser (old_policy compared) (new_policy compared) asked.moment c.args.people.now asked.host.now asked.interfaces.now in
    let text = c.in_ok-append_changes_of_named_user.ensures.text in
    one_more_item_line IsText (λ (name : List ℕ). name) asked.names.now c.loop-name.name-index c.name-item.result
    [] c.loop-name.out.text.items c.append_changes_of_named_user.new.out.text.items text.0 c.loop-name-test.true text.1
    (subst (λ (name : List ℕ). IsText name text.0) c.name-item.is (subst (λ (name : List ℕ). IsText name text.0) c.as_slice.ensures text.2)) c.loop-name.invariant

pub returns-clause-text : goal.returns-clause-text
returns-clause-text c =
    let asked = c.args.asked.now in
    let compared = c.args.compared.now in
    let IsText : List ℕ → List ℕ → Type 0 = IsTextOfNamedUser (old_policy compared) (new_policy compared) asked.moment c.args.people.now asked.host.now asked.interfaces.now in
    let got = all_item_lines IsText (λ (name : List ℕ). name) asked.names.now c.loop-name.name-index [] c.loop-name.out.text.items c.loop-name-test.false c.loop-name.invariant in
    subst (λ (text : List ℕ). AreLinesOfItems IsText asked.names.now text) (sym got.1)
    (subst (λ (names : List (List ℕ)). AreLinesOfItems IsText names got.0) (map-id asked.names.now) got.2)
