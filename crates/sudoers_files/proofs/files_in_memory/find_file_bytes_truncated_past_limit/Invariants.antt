use Rattle.std.proofs.Common.{◌≡◌, drop}
use Rattle.sudoers_files.specs.Shelf.{named_file_bytes_truncated_past_limit}
use Rattle.sudoers_files.proofs.files_in_memory.find_file_bytes_truncated_past_limit.Given as goal

abbrev pub invariant-loop-file : goal.invariant-loop-file
invariant-loop-file l = named_file_bytes_truncated_past_limit l.name (drop l.file-index l.files) ≡ named_file_bytes_truncated_past_limit l.name l.files
