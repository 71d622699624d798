use Rattle.sudoers_edit.proofs.Common.{List, Option, [], ap, line_texts_of_file, unwrap_or, unwrap_or-slice_get, ℕ, ◌∙◌}
use Rattle.sudoers_edit.proofs.edit_reversal.line_bytes_at.Goals as goal

pub returns-in-None : goal.returns-in-None
returns-in-None c =
    ap (λ (o : Option (List ℕ)). unwrap_or o []) c.in-None.ensures ∙ unwrap_or-slice_get (line_texts_of_file c.args.policy.now c.args.file) c.args.at []
