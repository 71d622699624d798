use Rattle.sudoers_cvt_rewrite.proofs.Common.{ap, is_any_value_matched_or_allowed, sym, ◌∙◌}
use Rattle.std.specs.Option.{is_some}
use Rattle.sudoers_line_rows.specs.View.{members_of_view}
use Rattle.sudoers_cvt_rewrite.specs.internal.Values.{is_atom_matching_value, signed_atoms_of_expanded_list}
use Rattle.sudoers_cvt_rewrite.proofs.AnyHits.{any_is_hit_if_one_is}
use Rattle.sudoers_cvt_rewrite.proofs.values_matcher.ValuesMatcher.matches_or_allows_value.Goals as goal

pub returns-clause-says : goal.returns-clause-says
returns-clause-says c =
    let values = c.args.self.now.values in
    let ms = members_of_view c.args.members.now in
    c.is_some.ensures ∙ ap is_some (sym c.in_ok-hit.ensures.hit)
    ∙ any_is_hit_if_one_is (is_atom_matching_value values.key) values.names.items (signed_atoms_of_expanded_list c.args.policy.now c.args.kind ms)
    ∙ ap (λ allowing. is_any_value_matched_or_allowed allowing c.args.policy.now c.args.kind (is_atom_matching_value values.key) values.names.items ms) (sym c.if-allowing.false)
