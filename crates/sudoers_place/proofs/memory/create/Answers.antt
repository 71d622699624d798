use Rattle.std.proofs.Common.{◌≡◌, [], ◌∷◌, List, None, sym, ap, ◌∙◌}
use Rattle.sudoers_place.specs.declared.memory.Entry.{Entry}
use Rattle.sudoers_place.specs.Disk.{free_paths}
use Rattle.sudoers_place.specs.Memory.{file_if, image_of}
use Rattle.sudoers_place.proofs.Log.{nothing_done, only_free}
use Rattle.sudoers_place.proofs.memory.create.Goals as goal

pub returns-in-Ok-clause-goes_on : goal.returns-in-Ok-clause-goes_on
returns-in-Ok-clause-goes_on c =
    let looked : None ≡ image_of c.args.log.now.items c.args.path.now = sym (ap file_if c.in-Ok-None.field-0-is) ∙ c.in-Ok-None.ensures ∙ ap (λ (l : List Entry). image_of l c.args.path.now) c.deref.ensures.value in
    only_free _ _ _ _ (sym looked) c.record.ensures.goes_on

pub returns-in-Ok-None-clause-goes_on : goal.returns-in-Ok-None-clause-goes_on
returns-in-Ok-None-clause-goes_on c = nothing_done _ (free_paths (image_of c.args.log.now.items) (c.args.path.now ∷ []))

pub returns-in-Ok-Some-clause-goes_on : goal.returns-in-Ok-Some-clause-goes_on
returns-in-Ok-Some-clause-goes_on c = nothing_done _ (free_paths (image_of c.args.log.now.items) (c.args.path.now ∷ []))

pub returns-clause-goes_on : goal.returns-clause-goes_on
returns-clause-goes_on c = nothing_done _ (free_paths (image_of c.args.log.now.items) (c.args.path.now ∷ []))
