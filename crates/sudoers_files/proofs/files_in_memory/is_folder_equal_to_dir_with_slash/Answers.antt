use Rattle.std.proofs.Common.{◌≡◌, ◌∙◌, ◌==◌, ◌&&◌, ◌++◌, ◌∷◌, [], true, false, sym, ap, rules}
use Rattle.std.specs.Str.{bytes_eq}
use Rattle.sudoers_files.proofs.Fronts.{and_with_false_is_false, and_with_true_is_itself, equality_of_extended_bytes_splits_at_last}
use Rattle.sudoers_files.proofs.files_in_memory.is_folder_equal_to_dir_with_slash.Goals as goal

pub returns-then-last-eq47 : goal.returns-then-last-eq47
returns-then-last-eq47 c =
    let front = c.in-Some.front.now in
    let slash : (c.in-Some.last.now == 47) ≡ true = search rules in
    c.eq.ensures ∙ sym (and_with_true_is_itself (bytes_eq front c.args.dir.now)) ∙ ap (λ t. bytes_eq front c.args.dir.now && t) (sym slash)
    ∙ sym (equality_of_extended_bytes_splits_at_last front c.args.dir.now c.in-Some.last.now 47) ∙ ap (λ bytes. bytes_eq bytes (c.args.dir.now ++ 47 ∷ [])) (sym c.in-Some.ensures.cases.0)

pub returns-else-last-eq47 : goal.returns-else-last-eq47
returns-else-last-eq47 c =
    let front = c.in-Some.front.now in
    let other : (c.in-Some.last.now == 47) ≡ false = search rules in
    other ∙ sym (and_with_false_is_false (bytes_eq front c.args.dir.now)) ∙ ap (λ t. bytes_eq front c.args.dir.now && t) (sym other)
    ∙ sym (equality_of_extended_bytes_splits_at_last front c.args.dir.now c.in-Some.last.now 47) ∙ ap (λ bytes. bytes_eq bytes (c.args.dir.now ++ 47 ∷ [])) (sym c.in-Some.ensures.cases.0)
