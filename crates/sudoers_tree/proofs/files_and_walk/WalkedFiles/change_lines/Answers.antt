use Rattle.sudoers_tree.proofs.Common.{LineChange, List, WalkedFiles, [], ap, arith, get_or, length, files_after_changes, policy_of_walked_files, policy_or_load_fault}
use Rattle.sudoers_tree.proofs.Common.{Ok, subst, sym, ◌<◌, ◌∙◌, ◌∷◌, ◌≡◌}
use Rattle.sudoers_tree.proofs.ChangedLoads.{changed_files_load_by_their_parsed_files}
use Rattle.sudoers_tree.specs.internal.InPlace.{IsChangeInPlace}
use Rattle.sudoers_tree.proofs.files_and_walk.WalkedFiles.change_lines.Goals as goal

list_of_one_item_is_item : {X : Type 0} (xs : List X) (x d : X) → 0 < length xs → length xs < 2 → get_or xs 0 d ≡ x → xs ≡ x ∷ []
list_of_one_item_is_item [] x d low high is = absurd (omega (arith, low))
list_of_one_item_is_item (y ∷ []) x d low high is = ap (λ z. z ∷ []) is
list_of_one_item_is_item (y ∷ z ∷ ys) x d low high is = absurd (omega (arith, high))

pub returns-then-branch-clause-outcome : goal.returns-then-branch-clause-outcome
returns-then-branch-clause-outcome c =
    let w : WalkedFiles = c.args.self.now in
    let one : c.args.changes.now ≡ c.change-item.result ∷ [] =
    list_of_one_item_is_item c.args.changes.now c.change-item.result c.change-item.result (omega (arith, c.in-len1.len_at_least)) (omega (arith, c.in-len1.len_below)) (sym c.change-item.is) in
    sym (changed_files_load_by_their_parsed_files c.args.changes.now (policy_of_walked_files w) c.requires.loaded)
    ∙ subst (λ (changes : List LineChange). policy_or_load_fault (files_after_changes changes (policy_of_walked_files w).files) ≡ Ok (policy_of_walked_files c.change_line_in_place.new.self)) (sym one)
    (subst (λ b. IsChangeInPlace b (c.change-item.result ∷ []) w c.change_line_in_place.new.self) c.if-branch.true c.in_ok-change_line_in_place.ensures.made)
