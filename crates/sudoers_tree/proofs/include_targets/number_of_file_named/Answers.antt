use Rattle.sudoers_tree.proofs.Common.{bytes_eq, false, length, name_of_numbered_file, parsed_files_of_view, rules, sym, true, ◌<◌, ◌∙◌, ◌≡◌}
use Rattle.sudoers_tree.proofs.Numbered.{matching_file_is_first_file_named, other_file_is_not_first_file_named}
use Rattle.sudoers_tree.proofs.include_targets.number_of_file_named.Goals as goal

pub returns-then-eq : goal.returns-then-eq
returns-then-eq c =
    let less : c.loop-number.number < length (parsed_files_of_view c.args.files.now) = search rules in
    let is : bytes_eq c.args.name.now (name_of_numbered_file (parsed_files_of_view c.args.files.now) c.loop-number.number) ≡ true = search rules in
    sym (matching_file_is_first_file_named c.args.name.now (parsed_files_of_view c.args.files.now) c.loop-number.number less is) ∙ c.loop-number.invariant

pub loop-number-preserved : goal.loop-number-preserved
loop-number-preserved c =
    let less : c.loop-number.number < length (parsed_files_of_view c.args.files.now) = search rules in
    let is : bytes_eq c.args.name.now (name_of_numbered_file (parsed_files_of_view c.args.files.now) c.loop-number.number) ≡ false = search rules in
    sym (other_file_is_not_first_file_named c.args.name.now (parsed_files_of_view c.args.files.now) c.loop-number.number less is) ∙ c.loop-number.invariant
