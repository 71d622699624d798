use Rattle.sudoers_cvt_rewrite.proofs.Common.{List, MemberRow, ap, map, member_in_tables, members_of_range_in_tables, slice_range, text_in_tables, ◌∙◌, ◌≡◌}
use Rattle.sudoers_grammar.specs.Grammar.{stop_of_last_member}
use Rattle.sudoers_cvt_rewrite.proofs.Extending.{table_extension_is_transitive, table_likeness_is_transitive, members_like, text_like}
use Rattle.sudoers_cvt_rewrite.proofs.node_writing.write_copied_definition.Goals as goal

pub returns-clause-stays : goal.returns-clause-stays
returns-clause-stays c u e =
    let base = c.args.base.now in
    let row = c.args.row.now in
    let old = c.args.tables.now in
    let like = table_likeness_is_transitive base old u c.requires (table_extension_is_transitive _ _ _ c.in_ok-members.ensures.extended e).like in
    let name : text_in_tables u row.name ≡ text_in_tables base row.name = text_like base u like row.name in
    let members : members_of_range_in_tables u c.in_ok-members.members ≡ members_of_range_in_tables base row.members =
    c.in_ok-members.ensures.stays u e
    ∙ members_like base old c.requires c.rows_in.result.now
    ∙ ap (map (member_in_tables base)) (c.rows_in.ensures ∙ ap (λ (t : List MemberRow). slice_range t row.members.from row.members.to) c.as_slice.ensures.value) in
    λ i. record { name = name i; start = row.start; stop = stop_of_last_member (members i); members = members i }
