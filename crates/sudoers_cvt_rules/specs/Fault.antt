-- The fault of a conversion for which a list is flattened.
use Rattle.sudoers_match_list.specs.declared.flatten_size_fault.FlattenSizeFault.{FlattenSizeFault}
use Rattle.sudoers_match_list.specs.declared.flatten_size_fault.FlattenSizeFault.TheVariants as flatten
use Rattle.sudoers_cvt_rules.specs.declared.fault.CvtFault.{CvtFault}
use Rattle.sudoers_cvt_rules.specs.declared.fault.CvtFault.TheVariants.{TooLarge, NoMemory}

abbrev pub cvt_fault_of_flatten_fault : FlattenSizeFault → CvtFault
cvt_fault_of_flatten_fault flatten.TooLarge = TooLarge
cvt_fault_of_flatten_fault flatten.NoMemory = NoMemory
