use Rattle.sudoers_tree.proofs.Common.{ap, known_or_own_entries, length, sym, take, ◌∙◌}
use Rattle.sudoers_tree.proofs.NameLists.{cut_known, cut_count}
use Rattle.sudoers_tree.proofs.defined_names.DefinedAliasNames.apply_names_update.Goals as goal

pub invariant_of-self-in-None : goal.invariant_of-self-in-None
invariant_of-self-in-None c =
    cut_count (λ k. k.items) c.self.inside.names.keys c.self.inside.places.items c.args.self.now c.self.invariant c.self.view_is c.args.renewal.places.items c.truncate.new.self.items c.truncate-in-None.new.self.keys
    (c.truncate.ensures.items ∙ ap (λ n. take n c.args.renewal.places.items) c.len.ensures)
    (c.truncate-in-None.ensures.keys ∙ ap (λ n. take n c.self.inside.names.keys) (ap length c.as_slice.ensures.value))

pub returns-in-None : goal.returns-in-None
returns-in-None c =
    cut_known (λ k. k.items) c.self.inside.names.keys c.self.inside.places.items c.args.self.now c.self.invariant c.self.view_is c.args.renewal.places.items c.truncate.new.self.items c.truncate-in-None.new.self.keys
    (c.truncate.ensures.items ∙ ap (λ n. take n c.args.renewal.places.items) c.len.ensures)
    (c.truncate-in-None.ensures.keys ∙ ap (λ n. take n c.self.inside.names.keys) (ap length c.as_slice.ensures.value))
    ∙ sym (ap (λ o. known_or_own_entries c.args.self.now o c.args.renewal.places.items) c.in-None.is)
