use Rattle.std.proofs.Common.{[]}
use Rattle.sudoers_place.specs.Disk.{SameBut}
use Rattle.sudoers_place.proofs.Log.{log_goes_on, nothing_done}
use Rattle.sudoers_place.proofs.memory.MemoryWritableDisk.read.Goals as goal

pub returns-clause-goes_on : goal.returns-clause-goes_on
returns-clause-goes_on c = log_goes_on (SameBut []) _ _ _ _ c.count.ensures.counted (nothing_done c.args.self.now.log.items [])
