-- Lists that are counted, and the rows whose atoms they name.
use Rattle.std.proofs.Common.{◌≡◌, ◌⊎◌, inl, inr, ℕ, List, [], ◌∷◌, ◌++◌, sym, ap, subst, ◌∙◌}
use Rattle.sudoers_line_rows.specs.declared.row_lists.RowsOfTable.{RowsOfTable}
use Rattle.sudoers_line_rows.specs.declared.rows.MemberRow.{MemberRow}
use Rattle.sudoers_check.specs.Chain.{ListHasElement}
use Rattle.sudoers_check.proofs.Lists.{Has_front, Has_push, Has_pushed}
use Rattle.sudoers_undecided.specs.declared.wanted_members.CountedList.{CountedList}
use Rattle.sudoers_undecided.specs.declared.wanted_members.WantedMembers.{WantedMembers}
use Rattle.sudoers_undecided.specs.internal.Counted.{command_list}

pub pushed_has : {X : Type 0} (xs ys : List X) (x : X) → ys ≡ xs ++ x ∷ [] → ListHasElement ys x
pushed_has xs ys x e = subst (λ zs. ListHasElement zs x) (sym e) (Has_pushed xs x)

pub pushed_keeps : {X : Type 0} (xs ys : List X) (x : X) → ys ≡ xs ++ x ∷ [] → (y : X) → ListHasElement xs y → ListHasElement ys y
pushed_keeps xs ys x e y h = subst (λ zs. ListHasElement zs y) (sym e) (Has_front xs (x ∷ []) y h)

pub pushed_only : {X : Type 0} (xs ys : List X) (x : X) → ys ≡ xs ++ x ∷ [] → (y : X) → ListHasElement ys y → ListHasElement xs y ⊎ (y ≡ x)
pushed_only xs ys x e y h = elim (Has_push xs x y (subst (λ zs. ListHasElement zs y) e h)) as (λ _. ListHasElement xs y ⊎ (y ≡ x)) [ inl old ↦ inl old | inr same ↦ inr (sym same) ]

pub pushed_with_wanted : (xs ys : List CountedList) (line : ℕ) (members : RowsOfTable MemberRow) (w v : WantedMembers) → w ≡ v → ys ≡ xs ++ command_list line members w ∷ [] → ys ≡ xs ++ command_list line members v ∷ []
pushed_with_wanted xs ys line members w v same e = e ∙ ap (λ u. xs ++ command_list line members u ∷ []) same
