use Rattle.sudoers_edit.proofs.Common.{AreChangesOfEdit, Bool, Edit, Kind, Line, List, None, Option, Place, Rename, Some, ap, definition_place_of_name, false, inr, is_alias_name_in_use, is_line_too_long, is_name}
use Rattle.sudoers_edit.proofs.Common.{is_reserved, is_some, is_there, list_any, not, refl, subst, sym, texts_of_changes, texts_of_renamed_lines, true, ℕ, ◌||◌, ◌∙◌, ◌≡◌}
use Rattle.sudoers_edit.proofs.RenameLeads.{rename_of_undefined_alias_is_no_alias, rename_to_bad_name_is_bad_name, rename_to_used_name_is_name_taken, rename_making_long_line_is_too_large, unrefused_name_is_name_and_not_reserved}
use Rattle.sudoers_edit.proofs.LawsApplied.{rename_changes_are_those_of_rename, long_rename_changes_are_long_walk_lines}
use Rattle.sudoers_edit.proofs.rename_plan.plan_alias_rename.Goals as goal
use Rattle.sudoers_edit.proofs.rename_plan.plan_alias_rename.Goals.{then-not-is_name-via-then-not-is_name, then-not-is_name-via-else-not-is_name+then-is_reserved}

there : (o : Option Place) → is_some o ≡ is_there o
there None = refl
there (Some p) = refl

-- whether the alias is defined, by what the walk says
defined : (k : Kind) (name : List ℕ) (walk lines : List Line) (o : Option Place) (b : Bool) → walk ≡ lines → o ≡ definition_place_of_name k name walk → is_there o ≡ b
    → is_some (definition_place_of_name k name lines) ≡ b
defined k name walk lines o b walk_is same is = ap (λ ls. is_some (definition_place_of_name k name ls)) (sym walk_is) ∙ ap is_some (sym same) ∙ there o ∙ is

no_name : (a b : Bool) → a ≡ false → (not a || b) ≡ true
no_name a b is = rw is refl

reserved : (a b : Bool) → a ≡ true → b ≡ true → (not a || b) ≡ true
reserved a b is too = rw (is, too) refl

free : (a b : Bool) → a ≡ true → b ≡ false → (not a || b) ≡ false
free a b is not_so = rw (is, not_so) refl

pub returns-then-is_none : goal.returns-then-is_none
returns-then-is_none c =
    inr (rename_of_undefined_alias_is_no_alias c.args.kind c.args.name.now c.args.fresh.now c.args.policy.now
    (defined c.args.kind c.args.name.now c.walk-walk.result c.args.policy.now.walk.lines c.place_of_definition.result false c.walk-walk.ensures c.place_of_definition.ensures
    c.if-is_none.ensures))

pub returns-then-not-is_name : goal.returns-then-not-is_name
returns-then-not-is_name c =
    let fresh : List ℕ = c.args.fresh.now in
    let some =
    defined c.args.kind c.args.name.now c.walk-walk.result c.args.policy.now.walk.lines c.place_of_definition.result true c.walk-walk.ensures c.place_of_definition.ensures
    c.if-is_none.ensures in
    inr (rename_to_bad_name_is_bad_name c.args.kind c.args.name.now fresh c.args.policy.now some (elim c.then-not-is_name.branch [
      | then-not-is_name-via-then-not-is_name w ↦ no_name (is_name fresh) (is_reserved fresh) (sym c.is_name.ensures ∙ w.if-not-is_name.true)
      | then-not-is_name-via-else-not-is_name+then-is_reserved w ↦
          reserved (is_name fresh) (is_reserved fresh) (sym c.is_name.ensures ∙ w.if-not-is_name.false) (sym w.is_reserved.ensures ∙ w.if-is_reserved.true)
    ]))

pub returns-then-branch : goal.returns-then-branch
returns-then-branch c =
    let fresh : List ℕ = c.args.fresh.now in
    let some =
    defined c.args.kind c.args.name.now c.walk-walk.result c.args.policy.now.walk.lines c.place_of_definition.result true c.walk-walk.ensures c.place_of_definition.ensures
    c.if-is_none.ensures in
    let good = free (is_name fresh) (is_reserved fresh) (sym c.is_name.ensures ∙ c.if-not-is_name.false) (sym c.is_reserved.ensures ∙ c.if-is_reserved.false) in
    inr (rename_to_used_name_is_name_taken c.args.kind c.args.name.now fresh c.args.policy.now some good
    (ap (is_alias_name_in_use c.args.kind fresh) (sym c.walk-walk.ensures) ∙ sym c.in_ok-is_alias_name_taken.ensures ∙ c.if-branch.true))

pub returns-then-has_change_with_too_long_line : goal.returns-then-has_change_with_too_long_line
returns-then-has_change_with_too_long_line c =
    let name : List ℕ = c.args.name.now in
    let fresh : List ℕ = c.args.fresh.now in
    let some =
    defined c.args.kind name c.walk-walk.result c.args.policy.now.walk.lines c.place_of_definition.result true c.walk-walk.ensures c.place_of_definition.ensures c.if-is_none.ensures in
    let good = free (is_name fresh) (is_reserved fresh) (sym c.is_name.ensures ∙ c.if-not-is_name.false) (sym c.is_reserved.ensures ∙ c.if-is_reserved.false) in
    let untaken = ap (is_alias_name_in_use c.args.kind fresh) (sym c.walk-walk.ensures) ∙ sym c.in_ok-is_alias_name_taken.ensures ∙ c.if-branch.false in
    let long : list_any is_line_too_long (texts_of_renamed_lines c.args.kind name fresh c.args.policy.now.walk.lines) ≡ true =
    sym (long_rename_changes_are_long_walk_lines c.args.kind name fresh c.args.policy.now c.allocator_of-alloc.ensures)
    ∙ ap (λ changes. list_any is_line_too_long (texts_of_changes changes)) (sym (c.as_slice.ensures.value ∙ c.in_ok-changes.ensures))
    ∙ sym c.has_change_with_too_long_line.ensures
    ∙ c.if-has_change_with_too_long_line.true in
    inr (rename_making_long_line_is_too_large c.args.kind name fresh c.args.policy.now some good untaken long)

pub returns : goal.returns
returns c =
    let name : List ℕ = c.args.name.now in
    let fresh : List ℕ = c.args.fresh.now in
    let some =
    defined c.args.kind name c.walk-walk.result c.args.policy.now.walk.lines c.place_of_definition.result true c.walk-walk.ensures c.place_of_definition.ensures c.if-is_none.ensures in
    let good = free (is_name fresh) (is_reserved fresh) (sym c.is_name.ensures ∙ c.if-not-is_name.false) (sym c.is_reserved.ensures ∙ c.if-is_reserved.false) in
    let untaken = ap (is_alias_name_in_use c.args.kind fresh) (sym c.walk-walk.ensures) ∙ sym c.in_ok-is_alias_name_taken.ensures ∙ c.if-branch.false in
    let short : list_any is_line_too_long (texts_of_renamed_lines c.args.kind name fresh c.args.policy.now.walk.lines) ≡ false =
    sym (long_rename_changes_are_long_walk_lines c.args.kind name fresh c.args.policy.now c.allocator_of-alloc.ensures)
    ∙ ap (λ changes. list_any is_line_too_long (texts_of_changes changes)) (sym (c.as_slice.ensures.value ∙ c.in_ok-changes.ensures))
    ∙ sym c.has_change_with_too_long_line.ensures
    ∙ c.if-has_change_with_too_long_line.false in
    subst (λ (inverse : List Edit). AreChangesOfEdit (Rename c.args.kind name fresh) inverse c.args.policy.now c.in_ok-changes.changes.items) (sym c.in_ok-inverse.ensures)
    (rename_changes_are_those_of_rename c.args.kind name fresh c.args.policy.now c.in_ok-changes.changes.items c.allocator_of-alloc.ensures some
    (unrefused_name_is_name_and_not_reserved (is_name fresh) (is_reserved fresh) good) untaken short c.in_ok-changes.ensures)
