use Rattle.std.proofs.Common.{rules, ◌≡◌, List, ◌+◌, ◌∷◌, ◌++◌, drop, map, flat_map, codes, Err, IfErr, sym, ap, subst, ◌∙◌}
use Rattle.std.specs.List.{join_by}
use Rattle.sudoers_grammar.specs.Node.{HostGroup}
use Rattle.sudoers_line_rows.specs.Tables.{host_group_in_tables}
use Rattle.sudoers_line_rows.specs.View.{host_group_of_view, host_groups_of_view}
use Rattle.sudoers_cvt_spell.specs.Lines.{printed_host_group}
use Rattle.sudoers_cvt_rules.specs.declared.fault.CvtFault.{CvtFault}
use Rattle.sudoers_cvt_rules.specs.Effective.{effective_host_group}
use Rattle.sudoers_cvt_rules.specs.internal.Long.{IsFaultOfMakingUnendedLine}
use Rattle.sudoers_cvt_rules.proofs.Limits.{mapped_drop_begins_with_next_image, longer_text_is_too_long_too, length_of_printed_part_is_within_whole}
use Rattle.sudoers_cvt_rules.proofs.printed_lines.append_effective_host_groups.Goals as goal

pub returns-in_err-append_effective_host_group-2-clause-long : goal.returns-in_err-append_effective_host_group-2-clause-long
returns-in_err-append_effective_host_group-2-clause-long c =
    let t = c.args.groups.now.tables.now in
    let rest = c.in-Some.rest.now in
    let i = c.loop-row.row-index in
    let g : HostGroup = host_group_of_view c.host_group_of_row-in-loop-row.result in
    let shown = printed_host_group (effective_host_group g) in
    let more = map (host_group_in_tables t) (drop (i + 1) rest) in
    let behind = λ (gs : List HostGroup). flat_map (λ (h : HostGroup). codes " : " ++ printed_host_group h) (map effective_host_group gs) in
    let whole = c.args.out.now.items ++ join_by printed_host_group (codes " : ") (map effective_host_group (host_groups_of_view c.args.groups.now)) in
    let is : c.loop-row.out.items ++ behind (g ∷ more) ≡ whole =
    ap (λ gs. c.loop-row.out.items ++ behind gs) (sym (mapped_drop_begins_with_next_image (host_group_in_tables t) rest i _ c.loop-row-test.true g c.host_group_of_row-in-loop-row.ensures)) ∙ c.loop-row.invariant in
    let fault : CvtFault = c.in_err-append_effective_host_group-2.field-0.0 in
    let same : c.from_residual-in_err-append_effective_host_group-2.result ≡ Err fault = search rules in
    let long : IsFaultOfMakingUnendedLine ((c.loop-row.out.items ++ codes " : ") ++ shown) fault =
    subst (λ o. IsFaultOfMakingUnendedLine (o ++ shown) fault) c.in_ok-extend_from_slice.ensures.items c.in_err-append_effective_host_group-2.ensures.long in
    subst (λ r. IfErr r (IsFaultOfMakingUnendedLine whole)) (sym same)
    (longer_text_is_too_long_too ((c.loop-row.out.items ++ codes " : ") ++ shown) whole fault (length_of_printed_part_is_within_whole c.loop-row.out.items (codes " : ") shown (behind more) whole is) long)
