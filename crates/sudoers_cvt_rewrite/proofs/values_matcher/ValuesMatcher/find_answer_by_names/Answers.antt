use Rattle.sudoers_cvt_rewrite.proofs.Common.{ap, arith, map, member_in_tables, sym, take, zero, ◌∙◌, ◌≡◌}
use Rattle.std.specs.Prelude.{◌-◌}
use Rattle.sudoers_cvt_rewrite.specs.internal.Values.{is_any_undenied_name_allowed, signed_atoms_of_expanded_list}
use Rattle.sudoers_cvt_rewrite.proofs.LastMembers.{empty_list_allows_no_name, empty_list_has_no_atoms, last_member_answers, last_row_leads_to_no_cycle, members_before_last_decide}
use Rattle.sudoers_cvt_rewrite.proofs.values_matcher.ValuesMatcher.find_answer_by_names.Goals as goal

pub decide_last_row-requires-clause-straight : goal.decide_last_row-requires-clause-straight
decide_last_row-requires-clause-straight c =
    let some = c.loop-left-test.true in
    let within = c.loop-left.invariant.within in
    last_row_leads_to_no_cycle c.args.kind c.args.policy.now (member_in_tables c.args.members.now.tables.now) c.args.members.now.rows.now (c.loop-left.left - 1) _ (omega (arith, some, within)) c.requires.straight

pub loop-left-preserved : goal.loop-left-preserved
loop-left-preserved c =
    let some = c.loop-left-test.true in
    let before = c.loop-left.invariant in
    let within = before.within in
    let values = c.args.self.now.values in
    let said = c.in_ok-decide_last_row.ensures in
    record {
      kept = said.kept;
      values = said.values ∙ before.values;
      within = omega (arith, some, within);
      says = members_before_last_decide c.args.kind c.args.policy.now (member_in_tables c.args.members.now.tables.now) c.args.members.now.rows.now c.loop-left.left some within c.loop-left.self.values values before.values
          c.loop-left.denied c.decide_last_row.new.denied c.in_ok-decide_last_row.field-0 _ _ c.in-Nothing.is said.effect before.says;
    }

pub returns-in-Answer-clause-says : goal.returns-in-Answer-clause-says
returns-in-Answer-clause-says c =
    let before = c.loop-left.invariant in
    last_member_answers c.args.kind c.args.policy.now (member_in_tables c.args.members.now.tables.now) c.args.members.now.rows.now c.loop-left.left c.loop-left-test.true before.within c.loop-left.self.values c.args.self.now.values before.values
    c.loop-left.denied c.decide_last_row.new.denied c.in_ok-decide_last_row.field-0 _ _ c.in-Answer.says c.in-Answer.is c.in_ok-decide_last_row.ensures.effect before.says

pub returns-clause-says : goal.returns-clause-says
returns-clause-says c =
    let values = c.args.self.now.values in
    let shown = member_in_tables c.args.members.now.tables.now in
    let none = c.loop-left-test.false in
    let end : zero ≡ c.loop-left.left = omega (arith, none) in
    empty_list_allows_no_name values.key values.names.items c.loop-left.denied
    ∙ ap (is_any_undenied_name_allowed values.key values.names.items c.loop-left.denied) (sym (empty_list_has_no_atoms c.args.kind c.args.policy.now))
    ∙ ap (λ n. is_any_undenied_name_allowed values.key values.names.items c.loop-left.denied (signed_atoms_of_expanded_list c.args.policy.now c.args.kind (map shown (take n c.args.members.now.rows.now)))) end
    ∙ c.loop-left.invariant.says
