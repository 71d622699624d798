use Rattle.std.proofs.Common.{[], ◌∷◌, None}
use Rattle.sudoers_place.specs.Disk.{IsReplacedOrNot}
use Rattle.sudoers_place.proofs.Log.{log_goes_on}
use Rattle.sudoers_place.proofs.memory.MemoryWritableDisk.remove.Goals as goal

pub returns-clause-goes_on : goal.returns-clause-goes_on
returns-clause-goes_on c = log_goes_on (IsReplacedOrNot (c.args.path.now ∷ []) c.args.path.now None) _ _ _ _ c.count.ensures.counted c.record-removed.ensures.goes_on
