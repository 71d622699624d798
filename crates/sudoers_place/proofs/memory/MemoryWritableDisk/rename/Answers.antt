use Rattle.std.proofs.Common.{[], ◌∷◌}
use Rattle.sudoers_place.specs.Disk.{IsReplacedOrNot}
use Rattle.sudoers_place.specs.Memory.{image_of}
use Rattle.sudoers_place.proofs.Log.{log_goes_on}
use Rattle.sudoers_place.proofs.memory.MemoryWritableDisk.rename.Goals as goal

pub returns-clause-goes_on : goal.returns-clause-goes_on
returns-clause-goes_on c = log_goes_on (IsReplacedOrNot (c.args.from.now ∷ c.args.to.now ∷ []) c.args.to.now (image_of c.args.self.now.log.items c.args.from.now)) _ _ _ _ c.count.ensures.counted c.rename-renamed.ensures.goes_on
