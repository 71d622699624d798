-- Devices of the proofs. No contract of an exported function cites them.
use Rattle.std.specs.Prelude.{◌≡◌, ◌≤◌, ℕ, ◌+◌, List, ◌++◌, length, Result, Ok, Err}
use Rattle.sudoers_tree.specs.declared.named_files.NamedFile.{NamedFile}
use Rattle.sudoers_bundle.specs.Bundle.{files_of_bundle_text, files_of_bundle_within_count}

-- these files, and those that follow
abbrev pub bundle_result_after_files : List NamedFile → Result (List NamedFile) ℕ → Result (List NamedFile) ℕ
bundle_result_after_files files (Ok more) = Ok (files ++ more)
bundle_result_after_files files (Err number) = Err number

-- The files were read of the text, and the rest is not read yet.
pub record IsUnreadBundleRest (text : List ℕ) (files : List NamedFile) (rest : List ℕ) : Type 0 where
  pub most : ℕ
  pub enough : length rest ≤ most
  pub told : bundle_result_after_files files (files_of_bundle_within_count most (length files + 1) rest) ≡ files_of_bundle_text text
