use Rattle.sudoers_edit.proofs.Common.{List, NamedFile, ap, arith, files_with_bytes_replaced, length, refl, slice_set, sym, ◌<◌, ◌∙◌, ◌≤◌}
use Rattle.sudoers_edit.proofs.LandLemmas.{replacement_past_last_file_keeps_files, setting_file_bytes_is_replacing_them}
use Rattle.sudoers_edit.proofs.edit_plan.copy_files_with_bytes.Goals as goal
use Rattle.sudoers_edit.proofs.edit_plan.copy_files_with_bytes.Goals.{in-Some, in_default}

pub returns : goal.returns
returns c =
    let files : List NamedFile = c.in_ok-files.files.items in
    elim c.match-get_mut.branch [
      | in-Some w ↦
          let within : c.args.file < length files = omega (arith, w.in-Some.ensures.variant.0 refl, c.in_ok-files.files.ok.0) in
          ap (λ v. v.items) w.files-is
          ∙ ap (λ bytes. slice_set files c.args.file (record { name = w.in-Some.named.now.name; bytes = bytes })) w.from_vec.ensures
          ∙ setting_file_bytes_is_replacing_them c.args.file c.args.bytes.items w.in-Some.named.now files within w.in-Some.ensures.value
          ∙ ap (files_with_bytes_replaced c.args.file c.args.bytes.items) c.in_ok-files.ensures
      | in_default w ↦
          let none : c.args.file < length files → ⊥ = λ less. let told = w.in_default.ensures.variant.1 (omega (arith, less, c.in_ok-files.files.ok.0)) in cc in
          let past : length files ≤ c.args.file = omega (arith, none) in
          ap (λ v. v.items) w.files-is ∙ sym (replacement_past_last_file_keeps_files c.args.file c.args.bytes.items files past) ∙ ap (files_with_bytes_replaced c.args.file c.args.bytes.items) c.in_ok-files.ensures
    ]
