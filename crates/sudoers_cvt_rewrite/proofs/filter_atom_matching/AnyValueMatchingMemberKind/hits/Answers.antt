use Rattle.sudoers_cvt_rewrite.proofs.Common.{◌∙◌}
use Rattle.sudoers_line_rows.specs.View.{atom_of_view}
use Rattle.sudoers_cvt_rewrite.proofs.SameNames.{all_or_name_matches_any_value}
use Rattle.sudoers_cvt_rewrite.proofs.filter_atom_matching.AnyValueMatchingMemberKind.hits.Goals as goal

pub returns : goal.returns
returns c = c.is_any_value_matched_by_atom.ensures ∙ all_or_name_matches_any_value c.args.asked.now.key c.args.asked.now.names.items (atom_of_view c.args.atom.now)
