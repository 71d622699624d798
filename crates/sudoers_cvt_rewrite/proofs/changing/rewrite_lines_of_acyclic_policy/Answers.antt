use Rattle.sudoers_cvt_rewrite.proofs.Common.{CvtFault, Err, IfErr, IsTooManyMembersOrNoMemoryFault, ap, ap₂, arith, changes_of_view, definitions_of_lines, expanded_member_limit, false, inr, is_used, length, specs_and_defaults_member_count}
use Rattle.sudoers_cvt_rewrite.proofs.Common.{map, marked_definitions_member_count, member_count_of_rules, rewritten_lines_of_policy, rules, subst, sym, true, ◌∙◌, ◌≡◌, ◌≤◌}
use Rattle.sudoers_cvt_rewrite.proofs.Defined.{counted_is, one_each}
use Rattle.sudoers_cvt_rewrite.proofs.Kept.{rewritten_policy_keeps_definitions}
use Rattle.sudoers_cvt_rewrite.proofs.Whole.{line_members_are_counted_in_rules, refusal_grows_with_count_if_expanding, mapped_nodes_of_equal_lines_are_rewritten}
use Rattle.sudoers_cvt_rewrite.proofs.changing.rewrite_lines_of_acyclic_policy.Goals as goal
use Rattle.sudoers_cvt_rewrite.proofs.changing.rewrite_lines_of_acyclic_policy.Goals.{then-changes+in_ok-count_marked_definitions, else-changes}

pub returns-in_err-lines-clause-fault : goal.returns-in_err-lines-clause-fault
returns-in_err-lines-clause-fault c =
    let changes = changes_of_view c.args.changes.now in
    let lines = c.args.policy.now in
    let new = rewritten_lines_of_policy changes lines in
    let source = c.in_ok-source.source in
    let of_source = c.in_ok-source.ensures in
    let is = mapped_nodes_of_equal_lines_are_rewritten lines source.policy.now changes source.expand of_source.policy of_source.expand in
    let fault : CvtFault = c.in_err-lines.field-0.0 in
    let is_fault : c.from_residual-in_err-lines.result ≡ Err fault = search rules in
    let refused : IsTooManyMembersOrNoMemoryFault source.expand (specs_and_defaults_member_count new) fault = subst (λ ls. IsTooManyMembersOrNoMemoryFault source.expand (specs_and_defaults_member_count ls) fault) is c.in_err-lines.ensures.fault in
    subst (λ r. IfErr r (IsTooManyMembersOrNoMemoryFault changes.expand (member_count_of_rules new))) (sym is_fault)
    (refusal_grows_with_count_if_expanding changes.expand (specs_and_defaults_member_count new) (member_count_of_rules new) fault (subst (λ b. IsTooManyMembersOrNoMemoryFault b (specs_and_defaults_member_count new) fault) of_source.expand refused) (λ e. line_members_are_counted_in_rules new))

pub mark_used_definitions-requires : goal.mark_used_definitions-requires
mark_used_definitions-requires c =
    let changes = changes_of_view c.args.changes.now in
    let lines = c.args.policy.now in
    let new = rewritten_lines_of_policy changes lines in
    let source = c.in_ok-source.source in
    let of_source = c.in_ok-source.ensures in
    let is = mapped_nodes_of_equal_lines_are_rewritten lines source.policy.now changes source.expand of_source.policy of_source.expand in
    ap definitions_of_lines (c.as_rows.ensures ∙ c.in_ok-lines.ensures.lines ∙ is) ∙ rewritten_policy_keeps_definitions lines changes ∙ ap definitions_of_lines (sym c.definition_numbers.ensures)

pub count_marked_definitions-requires : goal.count_marked_definitions-requires
count_marked_definitions-requires c =
    let changes = changes_of_view c.args.changes.now in
    let lines = c.args.policy.now in
    let new = rewritten_lines_of_policy changes lines in
    let source = c.in_ok-source.source in
    let of_source = c.in_ok-source.ensures in
    let is = mapped_nodes_of_equal_lines_are_rewritten lines source.policy.now changes source.expand of_source.policy of_source.expand in
    let same = rewritten_policy_keeps_definitions lines changes ∙ ap definitions_of_lines (sym of_source.policy) in
    let marked = c.in_ok-marks.ensures ∙ ap (λ ls. map (is_used ls) (definitions_of_lines ls)) (c.as_rows.ensures ∙ c.in_ok-lines.ensures.lines ∙ is) in
    ap length c.as_slice-then-changes.ensures.value
    ∙ one_each source.lines.tables.now source.definitions.items source.policy.now new c.in_ok-marks.marks.items source.definitions_are same marked
    ∙ ap length (sym c.as_slice.ensures.value)

pub returns-in_err-count_marked_definitions-clause-fault : goal.returns-in_err-count_marked_definitions-clause-fault
returns-in_err-count_marked_definitions-clause-fault c =
    let changes = changes_of_view c.args.changes.now in
    let lines = c.args.policy.now in
    let new = rewritten_lines_of_policy changes lines in
    let source = c.in_ok-source.source in
    let of_source = c.in_ok-source.ensures in
    let is = mapped_nodes_of_equal_lines_are_rewritten lines source.policy.now changes source.expand of_source.policy of_source.expand in
    let same = rewritten_policy_keeps_definitions lines changes ∙ ap definitions_of_lines (sym of_source.policy) in
    let marked = c.in_ok-marks.ensures ∙ ap (λ ls. map (is_used ls) (definitions_of_lines ls)) (c.as_rows.ensures ∙ c.in_ok-lines.ensures.lines ∙ is) in
    let count = c.in_ok-lines.ensures.counted (of_source.expand ∙ c.if-changes.true) ∙ ap specs_and_defaults_member_count (c.in_ok-lines.ensures.lines ∙ is) in
    let defs = ap₂ marked_definitions_member_count c.as_slice-then-changes.ensures.value c.as_slice.ensures.value
    ∙ counted_is source.lines.tables.now source.definitions.items source.policy.now new c.in_ok-marks.marks.items source.definitions_are same marked in
    let fault : CvtFault = c.in_err-count_marked_definitions.field-0.0 in
    let is_fault : c.from_residual-in_err-count_marked_definitions.result ≡ Err fault = search rules in
    let too_large = c.in_err-count_marked_definitions.ensures.fault.0 in
    let many = c.in_err-count_marked_definitions.ensures.fault.1 in
    subst (λ r. IfErr r (IsTooManyMembersOrNoMemoryFault changes.expand (member_count_of_rules new))) (sym is_fault) (inr (too_large, c.if-changes.true, omega (arith, many, count, defs)))

pub returns-clause-lines : goal.returns-clause-lines
returns-clause-lines c =
    let changes = changes_of_view c.args.changes.now in
    let lines = c.args.policy.now in
    let new = rewritten_lines_of_policy changes lines in
    let source = c.in_ok-source.source in
    let of_source = c.in_ok-source.ensures in
    let is = mapped_nodes_of_equal_lines_are_rewritten lines source.policy.now changes source.expand of_source.policy of_source.expand in
    c.in_ok-lines.ensures.lines ∙ is

pub returns-clause-fits : goal.returns-clause-fits
returns-clause-fits c e =
    let changes = changes_of_view c.args.changes.now in
    let lines = c.args.policy.now in
    let new = rewritten_lines_of_policy changes lines in
    let source = c.in_ok-source.source in
    let of_source = c.in_ok-source.ensures in
    let is = mapped_nodes_of_equal_lines_are_rewritten lines source.policy.now changes source.expand of_source.policy of_source.expand in
    let same = rewritten_policy_keeps_definitions lines changes ∙ ap definitions_of_lines (sym of_source.policy) in
    let marked = c.in_ok-marks.ensures ∙ ap (λ ls. map (is_used ls) (definitions_of_lines ls)) (c.as_rows.ensures ∙ c.in_ok-lines.ensures.lines ∙ is) in
    let count = c.in_ok-lines.ensures.counted (of_source.expand ∙ e) ∙ ap specs_and_defaults_member_count (c.in_ok-lines.ensures.lines ∙ is) in
    elim c.if-changes.branch [
      | then-changes+in_ok-count_marked_definitions w ↦
          let defs = ap₂ marked_definitions_member_count w.as_slice-then-changes.ensures.value w.as_slice.ensures.value
          ∙ counted_is source.lines.tables.now source.definitions.items source.policy.now new c.in_ok-marks.marks.items source.definitions_are same marked in
          let few = w.in_ok-count_marked_definitions.ensures.fits in
          subst (λ ls. member_count_of_rules ls ≤ expanded_member_limit) (sym (c.in_ok-lines.ensures.lines ∙ is)) (omega (arith, few, count, defs))
      | else-changes w ↦ let clash : true ≡ false = sym e ∙ w.if-changes.false in absurd cc
    ]
