use Rattle.sudoers_edit.proofs.Common.{LineChange, List, Option, [], ap, lines_of_numbered_file, option_or, replacement_text_by_first_change, reverse, reverse-append, slice_get, sym, texts_of_lines, ℕ, ◌++◌, ◌∙◌, ◌∷◌, ◌≡◌}
use Rattle.sudoers_edit.proofs.PruneOut.{first_change_decides_replacement_text}
use Rattle.sudoers_edit.proofs.prune_plan.text_of_line_after_changes.Goals as goal

-- what the last change says of the line
last_says : (f n : ℕ) (before changes : List LineChange) (last : LineChange) → changes ≡ before ++ last ∷ []
    → replacement_text_by_first_change f n (last ∷ []) ≡ replacement_text_by_first_change f n (reverse changes)
last_says f n before changes last is =
    sym (ap (λ cs. replacement_text_by_first_change f n (reverse cs)) is ∙ ap (replacement_text_by_first_change f n) (reverse-append before (last ∷ [])) ∙ first_change_decides_replacement_text f n last (reverse before))

pub returns-in-None : goal.returns-in-None
returns-in-None c =
    let line : Option (List ℕ) = slice_get (texts_of_lines (lines_of_numbered_file c.args.policy.now.files c.args.file)) c.args.line in
    c.line-in-None.ensures
    ∙ ap (λ (o : Option (List ℕ)). option_or o line)
    (c.in-None.ensures ∙ last_says c.args.file c.args.line c.in-Some.field-0-1.now c.args.changes.now c.in-Some.last.now c.in-Some.ensures.cases.0)
