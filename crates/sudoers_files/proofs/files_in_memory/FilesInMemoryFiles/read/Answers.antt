use Rattle.std.proofs.Common.{◌≡◌, ◌∙◌, Some, refl, sym, ap}
use Rattle.sudoers_files.specs.Shelf.{named_file_bytes_truncated_past_limit}
use Rattle.sudoers_files.proofs.Fronts.{limited_bytes_are_within_text_limit}
use Rattle.sudoers_files.proofs.files_in_memory.FilesInMemoryFiles.read.Goals as goal

pub returns-in_ok-from_slice-in-Some : goal.returns-in_ok-from_slice-in-Some
returns-in_ok-from_slice-in-Some c =
    let there : named_file_bytes_truncated_past_limit c.args.name.now c.args.self.now.files.items ≡ Some c.in_ok-from_slice-in-Some.field-0 =
    ap (named_file_bytes_truncated_past_limit c.args.name.now) (sym c.as_slice.ensures.value) ∙ c.in-Some.ensures ∙ ap (λ b. Some b) (sym c.in_ok-from_slice-in-Some.ensures) in
    record {
      counts = refl;
      told = sym there;
      most = limited_bytes_are_within_text_limit c.args.name.now c.args.self.now.files.items c.in_ok-from_slice-in-Some.field-0 there;
    }
