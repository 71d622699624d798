-- Files whose texts are read in a dialect.
use Rattle.std.specs.Prelude.{ℕ, ◌+◌, List, take, map}
use Rattle.std.specs.Option.{option_map}
use Rattle.sudoers_text.specs.Fault.{text_limit}
use Rattle.sudoers_tree.specs.declared.named_files.NamedFile.{NamedFile}
use Rattle.sudoers_files.specs.Shelf.{FileDeviceState}
use Rattle.sudoers_dialect.specs.declared.dialect.Dialect.{Dialect}
use Rattle.sudoers_dialect.specs.declared.dialect.Dialect.TheVariants as dialect
use Rattle.sudoers_dialect.specs.Text.{adapted_text}

-- What the text says in the dialect is what this text says.
abbrev pub text_in_dialect : Dialect → List ℕ → List ℕ
text_in_dialect dialect.Profile text = text
text_in_dialect dialect.Sudo text = adapted_text text

abbrev pub file_in_dialect : Dialect → NamedFile → NamedFile
file_in_dialect d file = record { name = file.name; bytes = text_in_dialect d file.bytes }

-- the same files under the same names, each with what its text says in the dialect
abbrev pub files_in_dialect : Dialect → FileDeviceState → FileDeviceState
files_in_dialect d state = record state { files = option_map (map (file_in_dialect d)) state.files }

-- the same of the bytes up to the first past the limit of a text
abbrev pub front_in_dialect : Dialect → List ℕ → List ℕ
front_in_dialect d front = take (text_limit + 1) (text_in_dialect d front)
