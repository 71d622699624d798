use Rattle.std.proofs.Common.{rules, ◌≡◌, map, Err, IfErr, sym, ap, subst}
use Rattle.serde_json.specs.Data.{string}
use Rattle.sudoers_line_rows.specs.Tables.{member_in_tables}
use Rattle.sudoers_line_rows.specs.View.{member_of_view}
use Rattle.sudoers_cvt_rules.specs.declared.fault.CvtFault.{CvtFault}
use Rattle.sudoers_cvt_spell.specs.Members.{printed_member}
use Rattle.sudoers_cvt_json.specs.Value.{printed_member_texts}
use Rattle.sudoers_cvt_json.specs.internal.Built.{IsJsonFault, are_values_unicode}
use Rattle.sudoers_cvt_json.proofs.Parts.{fault_of_first_value_left_is_of_all}
use Rattle.sudoers_cvt_json.proofs.Passing.{mapped_drop_begins_with_next_image}
use Rattle.sudoers_cvt_json.proofs.output.JsonOutput.write_members.Goals as goal

pub returns-in_err-write_member-clause-fault : goal.returns-in_err-write_member-clause-fault
returns-in_err-write_member-clause-fault c =
    let t = c.args.members.now.tables.now in
    let rows = c.args.members.now.rows.now in
    let all = are_values_unicode (map string (printed_member_texts c.args.first c.args.kind (map (member_in_tables t) rows))) in
    let fault : CvtFault = c.in_err-write_member.field-0.0 in
    let same : c.from_residual-in_err-write_member.result ≡ Err fault = search rules in
    subst (λ r. IfErr r (IsJsonFault all)) (sym same)
    (fault_of_first_value_left_is_of_all (string (printed_member c.loop-row.is_first c.args.kind (member_of_view c.member_of_row.result))) _ _ all fault
    (ap (λ ms. map string (printed_member_texts c.loop-row.is_first c.args.kind ms))
    (mapped_drop_begins_with_next_image (member_in_tables t) rows c.loop-row.row-index _ c.loop-row-test.true (member_of_view c.member_of_row.result) c.member_of_row.ensures))
    c.loop-row.invariant.unicode c.in_err-write_member.ensures.fault)
