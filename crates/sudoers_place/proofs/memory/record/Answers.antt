use Rattle.std.proofs.Common.{◌≡◌, [], ◌∷◌, rules}
use Rattle.sudoers_place.specs.declared.memory.Entry.{Entry}
use Rattle.sudoers_place.proofs.Log.{not_pushed, pushed_said, pushes_to}
use Rattle.sudoers_place.proofs.memory.record.Goals as goal

pub returns-in_default-clause-goes_on : goal.returns-in_default-clause-goes_on
returns-in_default-clause-goes_on c = not_pushed _ _ (c.args.path.now ∷ []) c.args.path.now _ (search rules)

pub returns-in_default-push-clause-goes_on : goal.returns-in_default-push-clause-goes_on
returns-in_default-push-clause-goes_on c = not_pushed _ _ (c.args.path.now ∷ []) c.args.path.now _ c.in_default-push.ensures.items

pub returns-clause-goes_on : goal.returns-clause-goes_on
returns-clause-goes_on c =
    let named : c.in-Ok.copy.items ≡ c.args.path.now = search rules in
    let entry : Entry = record { path = c.in-Ok.copy; file = c.args.file } in
    pushes_to _ _ entry c.args.path.now c.in-Ok-push.ensures.items named

pub returns-clause-said : goal.returns-clause-said
returns-clause-said c =
    let named : c.in-Ok.copy.items ≡ c.args.path.now = search rules in
    let entry : Entry = record { path = c.in-Ok.copy; file = c.args.file } in
    pushed_said _ _ entry c.args.path.now c.in-Ok-push.ensures.items named
