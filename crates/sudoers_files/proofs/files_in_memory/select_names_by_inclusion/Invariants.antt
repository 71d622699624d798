use Rattle.std.proofs.Common.{◌≡◌, not, if◌then◌else◌}
use Rattle.std.specs.List.{filter}
use Rattle.sudoers_tree.specs.Targets.{is_includable_base_name}
use Rattle.sudoers_files.proofs.files_in_memory.select_names_by_inclusion.Given as goal

abbrev pub invariant-loop-name : goal.invariant-loop-name
invariant-loop-name l = l.bases.items ≡ filter (λ base. if l.read then is_includable_base_name base else not (is_includable_base_name base)) l.yielded
