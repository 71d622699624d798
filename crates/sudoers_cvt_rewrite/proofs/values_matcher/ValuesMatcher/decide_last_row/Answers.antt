use Rattle.sudoers_cvt_rewrite.proofs.Common.{ap, last_hit_in_expanded_list, map, member_in_tables, sym, ◌∙◌, ◌∷◌, []}
use Rattle.sudoers_cvt_rewrite.specs.internal.Values.{is_atom_matching_any_value, signed_atoms_of_expanded_list}
use Rattle.sudoers_cvt_rewrite.proofs.Effects.{atoms_without_hit_change_nothing}
use Rattle.sudoers_cvt_rewrite.proofs.values_matcher.ValuesMatcher.decide_last_row.Goals as goal

pub returns-in-None-clause-effect : goal.returns-in-None-clause-effect
returns-in-None-clause-effect c =
    let values = c.args.self.now.values in
    let shown = member_in_tables c.args.tables.now in
    atoms_without_hit_change_nothing values.key values.names.items c.args.denied.now (signed_atoms_of_expanded_list c.args.policy.now c.args.kind (shown c.args.row.now ∷ []))
    (ap (λ rows. last_hit_in_expanded_list c.args.policy.now c.args.kind (is_atom_matching_any_value values) (map shown rows)) (sym c.from_ref-rows.ensures.value) ∙ c.in_ok-find_filter_hit.ensures.hit ∙ c.in-None.is)
