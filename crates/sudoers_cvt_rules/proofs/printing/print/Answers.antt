use Rattle.std.proofs.Common.{rules}
use Rattle.sudoers_cvt_rules.proofs.Limits.{fitting_rules_pass_limit_test, print_fault_is_memory_or_size}
use Rattle.sudoers_cvt_rules.proofs.printing.print.Goals as goal

pub returns-in-Ok-clause-fits : goal.returns-in-Ok-clause-fits
returns-in-Ok-clause-fits c = fitting_rules_pass_limit_test c.args.rules.now c.in-Ok.ensures.fits

pub returns-in-Err-clause-fault : goal.returns-in-Err-clause-fault
returns-in-Err-clause-fault c = print_fault_is_memory_or_size c.args.rules.now c.in-Err.fault c.in-Err.ensures.fault
