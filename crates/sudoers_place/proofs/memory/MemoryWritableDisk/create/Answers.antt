use Rattle.std.proofs.Common.{[], ◌∷◌}
use Rattle.sudoers_place.specs.Disk.{SameBut, free_paths}
use Rattle.sudoers_place.specs.Memory.{image_of}
use Rattle.sudoers_place.proofs.Log.{log_goes_on}
use Rattle.sudoers_place.proofs.memory.MemoryWritableDisk.create.Goals as goal

pub returns-clause-goes_on : goal.returns-clause-goes_on
returns-clause-goes_on c = log_goes_on (SameBut (free_paths (image_of c.args.self.now.log.items) (c.args.path.now ∷ []))) _ _ _ _ c.count.ensures.counted c.create-created.ensures.goes_on
