use Rattle.std.proofs.Common.{[], arith}
use Rattle.sudoers_place.specs.Disk.{SameBut}
use Rattle.sudoers_place.proofs.Log.{log_goes_on, nothing_done}
use Rattle.sudoers_place.proofs.memory.MemoryWritableDisk.sync.Goals as goal

pub returns-clause-goes_on : goal.returns-clause-goes_on
returns-clause-goes_on c = log_goes_on (SameBut []) _ _ _ _ (omega arith) (nothing_done c.args.self.now.log.items [])
