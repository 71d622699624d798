use Rattle.sudoers_tree.proofs.Common.{ap, remove, ◌∙◌}
use Rattle.sudoers_tree.proofs.RenamedNames.{still_within, not_there, renamed_count, renamed_view}
use Rattle.sudoers_tree.proofs.defined_names.DefinedAliasNames.rename_name_at.Goals as goal

pub shift_insert-requires-clause-in_bounds : goal.shift_insert-requires-clause-in_bounds
shift_insert-requires-clause-in_bounds c =
    still_within (λ k. k.items) c.self.inside.names.keys c.self.inside.places.items c.args.self.now c.self.invariant c.self.view_is
    c.args.number c.requires.within c.args.name c.requires.fresh c.shift_remove_index.new.self.keys
    (c.shift_remove_index.ensures.keys ∙ ap (λ ks. remove ks c.args.number) c.in_ok-reserve.ensures.keys)

pub shift_insert-requires-clause-below_len : goal.shift_insert-requires-clause-below_len
shift_insert-requires-clause-below_len c = λ there. absurd (
    not_there (λ k. k.items) c.self.inside.names.keys c.self.inside.places.items c.args.self.now c.self.invariant c.self.view_is
    c.args.number c.requires.within c.args.name c.requires.fresh c.shift_remove_index.new.self.keys
    (c.shift_remove_index.ensures.keys ∙ ap (λ ks. remove ks c.args.number) c.in_ok-reserve.ensures.keys) there)

pub invariant_of-self-2 : goal.invariant_of-self-2
invariant_of-self-2 c =
    renamed_count (λ k. k.items) c.self.inside.names.keys c.self.inside.places.items c.args.self.now c.self.invariant c.self.view_is
    c.args.number c.requires.within c.args.name c.requires.fresh c.shift_remove_index.new.self.keys
    (c.shift_remove_index.ensures.keys ∙ ap (λ ks. remove ks c.args.number) c.in_ok-reserve.ensures.keys) c.shift_insert.new.self.keys
    (rw c.unwrap.ensures at c.shift_insert.ensures.keys)

pub returns-clause-renamed : goal.returns-clause-renamed
returns-clause-renamed c =
    renamed_view (λ k. k.items) c.self.inside.names.keys c.self.inside.places.items c.args.self.now c.self.invariant c.self.view_is
    c.args.number c.requires.within c.args.name c.requires.fresh c.shift_remove_index.new.self.keys
    (c.shift_remove_index.ensures.keys ∙ ap (λ ks. remove ks c.args.number) c.in_ok-reserve.ensures.keys) c.shift_insert.new.self.keys
    (rw c.unwrap.ensures at c.shift_insert.ensures.keys)
