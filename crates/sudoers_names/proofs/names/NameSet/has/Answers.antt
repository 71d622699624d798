use Rattle.std.proofs.Common.{◌∙◌, ap, bytes_eq}
use Rattle.std.specs.List.{list_any}
use Rattle.sudoers_names.proofs.Keys.{any_by_key_is_any_of_keys}
use Rattle.sudoers_names.proofs.names.NameSet.has.Goals as goal

pub returns : goal.returns
returns c =
    c.contains.ensures
    ∙ any_by_key_is_any_of_keys (λ k. k.items) (bytes_eq c.args.name.now) c.self.inside.names.keys
    ∙ ap (list_any (bytes_eq c.args.name.now)) c.self.view_is
