use Rattle.sudoers_tree.proofs.Common.{List, ap, arith, drop, false, file_inserted_in_name_order, included_files_of_folder, is_includable_from_folder, length, name_of_numbered_file, parsed_files_of_view, rules, sym}
use Rattle.sudoers_tree.proofs.Common.{true, ℕ, ◌+◌, ◌-◌, ◌<◌, ◌∙◌, ◌≡◌}
use Rattle.sudoers_tree.proofs.Numbered.{includable_file_is_inserted_in_folder, other_file_is_not_in_folder}
use Rattle.sudoers_tree.proofs.include_targets.find_files_included_from_folder.Goals as goal

pub loop-number-preserved-in-Continue-1 : goal.loop-number-preserved-in-Continue-1
loop-number-preserved-in-Continue-1 c =
    let files = parsed_files_of_view c.args.files.now in
    let folder : List ℕ = c.args.folder.now in
    let number : ℕ = c.loop-number.number in
    let some : 0 < number = search rules in
    let less : number - 1 < length files = omega (arith, some, c.loop-number.invariant.0) in
    let next : number ≡ number - 1 + 1 = omega (arith, some) in
    let is : is_includable_from_folder folder (name_of_numbered_file files (number - 1)) ≡ true = search rules in (
      omega (arith, less),
      c.in_ok-insert_file_by_name.ensures
          ∙ ap (file_inserted_in_name_order files (number - 1)) (c.loop-number.invariant.1 ∙ ap (λ n. included_files_of_folder files folder n (drop n files)) next)
          ∙ sym (includable_file_is_inserted_in_folder files folder (number - 1) less is),
    )

pub loop-number-preserved : goal.loop-number-preserved
loop-number-preserved c =
    let files = parsed_files_of_view c.args.files.now in
    let folder : List ℕ = c.args.folder.now in
    let number : ℕ = c.loop-number.number in
    let some : 0 < number = search rules in
    let less : number - 1 < length files = omega (arith, some, c.loop-number.invariant.0) in
    let next : number ≡ number - 1 + 1 = omega (arith, some) in
    let is : is_includable_from_folder folder (name_of_numbered_file files (number - 1)) ≡ false = search rules in
    (omega (arith, less), c.loop-number.invariant.1 ∙ ap (λ n. included_files_of_folder files folder n (drop n files)) next ∙ sym (other_file_is_not_in_folder files folder (number - 1) less is))
