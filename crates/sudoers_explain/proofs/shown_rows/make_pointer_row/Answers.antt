use Rattle.std.proofs.Common.{◌++◌, ◌∷◌, [], List, ℕ, sym, ap, take, ◌∙◌}
use Rattle.sudoers_explain.proofs.Blanks.{blanks_of_shown_bytes_are_blanks_of_bytes}
use Rattle.sudoers_explain.proofs.shown_rows.make_pointer_row.Goals as goal

pub returns : goal.returns
returns c = c.in_ok-push.ensures.items ∙ ap (λ (bs : List ℕ). bs ++ 94 ∷ []) (c.in_ok-out.ensures ∙ sym (blanks_of_shown_bytes_are_blanks_of_bytes (take c.args.column c.args.row.now)))
