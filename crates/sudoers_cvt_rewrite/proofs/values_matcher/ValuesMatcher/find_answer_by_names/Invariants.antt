use Rattle.sudoers_cvt_rewrite.proofs.Common.{AreCachesOfValuesValid, is_any_value_matched_or_allowed, length, map, member_in_tables, take, true, ◌≡◌, ◌≤◌}
use Rattle.sudoers_cvt_rewrite.specs.internal.Values.{is_any_undenied_name_allowed, is_atom_matching_value, signed_atoms_of_expanded_list}
use Rattle.sudoers_cvt_rewrite.proofs.values_matcher.ValuesMatcher.find_answer_by_names.Given as goal

abbrev pub invariant-loop-left : goal.invariant-loop-left
invariant-loop-left l =
    let key = l.fn.self.values.key in
    let names = l.fn.self.values.names.items in
    let shown = member_in_tables l.members.tables.now in
    record {
      kept : AreCachesOfValuesValid l.kind l.policy l.self;
      values : l.self.values ≡ l.fn.self.values;
      within : l.left ≤ length l.members.rows.now;
      says : is_any_undenied_name_allowed key names l.denied (signed_atoms_of_expanded_list l.policy l.kind (map shown (take l.left l.members.rows.now)))
          ≡ is_any_value_matched_or_allowed true l.policy l.kind (is_atom_matching_value key) names (map shown l.members.rows.now);
    }

abbrev pub decreases-loop-left : goal.decreases-loop-left
decreases-loop-left l = l.left
