-- The files of a policy that have to be spelled otherwise, so that this toolkit and sudo read them alike.
use Rattle.std.specs.Prelude.{ℕ, not, List, [], ◌∷◌, ◌++◌, if◌then◌else◌}
use Rattle.std.specs.Str.{bytes_eq}
use Rattle.sudoers_tree.specs.declared.named_files.NamedFile.{NamedFile}
use Rattle.sudoers_bundle.specs.Bundle.{bundle_of_files}
use Rattle.sudoers_dialect.specs.Text.{adapted_text}

abbrev pub adapted_file : NamedFile → NamedFile
adapted_file file = record { name = file.name; bytes = adapted_text file.bytes }

-- those of the files whose text is not what it is in the dialect of sudo, adapted
abbrev pub changed_files : List NamedFile → List NamedFile
changed_files [] = []
changed_files (file ∷ files) =
    if bytes_eq file.bytes (adapted_text file.bytes) then changed_files files else adapted_file file ∷ changed_files files

-- of one file its text; of several the bundle of those that change
abbrev pub adapted_output : List NamedFile → List ℕ
adapted_output [] = []
adapted_output (file ∷ []) = adapted_text file.bytes
adapted_output (file ∷ other ∷ files) = bundle_of_files (changed_files (file ∷ other ∷ files))
