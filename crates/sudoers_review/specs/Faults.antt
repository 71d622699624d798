-- Why policies are not compared.
use Rattle.std.specs.Prelude.{◌≡◌, ◌⊎◌}
use Rattle.sudoers_match_list.specs.declared.flatten_size_fault.FlattenSizeFault.{FlattenSizeFault}
use Rattle.sudoers_match_list.specs.declared.flatten_size_fault.FlattenSizeFault.TheVariants as flatten
use Rattle.sudoers_match_list.specs.declared.verdict.AskFault.{AskFault}
use Rattle.sudoers_match_list.specs.declared.verdict.AskFault.TheVariants as ask
use Rattle.sudoers_review.specs.declared.compare_fault.CompareFault.{CompareFault}
use Rattle.sudoers_review.specs.declared.compare_fault.CompareFault.TheVariants as compare

-- memory ran out, or something is too large
abbrev pub IsMemoryOrSizeFault : CompareFault → Type 0
IsMemoryOrSizeFault fault = (fault ≡ compare.NoMemory) ⊎ (fault ≡ compare.TooLarge)

abbrev pub compare_fault_of_ask : AskFault → CompareFault
compare_fault_of_ask ask.Cycle = compare.Cycle
compare_fault_of_ask ask.TooLong = compare.TooLarge
compare_fault_of_ask ask.NoMemory = compare.NoMemory

abbrev pub compare_fault_of_flatten : FlattenSizeFault → CompareFault
compare_fault_of_flatten flatten.TooLarge = compare.TooLarge
compare_fault_of_flatten flatten.NoMemory = compare.NoMemory
