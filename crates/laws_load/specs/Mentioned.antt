-- Where names stand in the files of a policy.
use Rattle.std.specs.Prelude.{◌≡◌, ℕ, List, [], slice_index_or, slice_range}
use Rattle.sudoers_tree.specs.declared.place.FileSpan.{FileSpan}
use Rattle.sudoers_tree.specs.Files.{lines_of_numbered_file}
use Rattle.sudoers_tree.specs.Load.{LoadedPolicy}
use Rattle.sudoers_tree.specs.Policy.{texts_of_lines}

-- The name stands at this part of a line of a file.
abbrev pub NameStandsAtFileSpan : LoadedPolicy → List ℕ → FileSpan → Type 0
NameStandsAtFileSpan policy name span = slice_range (slice_index_or (texts_of_lines (lines_of_numbered_file policy.files span.file)) span.line []) span.start span.stop ≡ name
