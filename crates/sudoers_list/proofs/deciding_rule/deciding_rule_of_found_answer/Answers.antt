use Rattle.std.proofs.Common.{◌≡◌, ℕ, Some, sym, ap, ap₂, ◌∙◌}
use Rattle.std.proofs.lemmas.Option.{same_Some}
use Rattle.std.specs.Option.{option_map}
use Rattle.sudoers_grammar.specs.Node.{CmdSpec, Member}
use Rattle.sudoers_line_rows.specs.View.{member_of_view}
use Rattle.sudoers_tree.specs.Line.{Line}
use Rattle.sudoers_match.specs.Answer.{Answer}
use Rattle.sudoers_match.specs.Found.{answer_without_member_and_settings}
use Rattle.sudoers_match.specs.Heads.{AccumulatedCommandSettings}
use Rattle.sudoers_list.specs.internal.Inside.{numbered_line_of_view}
use Rattle.sudoers_list.proofs.Ruled.{found_answer_has_its_deciding_rule, none_is_unequal_to_some}
use Rattle.sudoers_list.proofs.TagsSaid.{effective_command_has_answer_tags, held_tags_replaced_hold_settings, settings_with_tags_replaced}
use Rattle.sudoers_list.proofs.deciding_rule.deciding_rule_of_found_answer.Goals as goal

pub unreachable-requires : goal.unreachable-requires
unreachable-requires c =
    let on = found_answer_has_its_deciding_rule c.args.policy.now.walk.lines c.args.found.now c.requires in
    none_is_unequal_to_some on.0 (ap (option_map numbered_line_of_view) (sym c.in_default.is) ∙ c.find_walk_line_by_number.ensures.line ∙ on.1)

pub returns-clause-rule : goal.returns-clause-rule
returns-clause-rule c =
    let lines = c.args.policy.now.walk.lines in
    let found = c.args.found.now in
    let a : Answer = answer_without_member_and_settings found in
    let m : Member = member_of_view found.member in
    let on = found_answer_has_its_deciding_rule lines found c.requires in
    let h : AccumulatedCommandSettings = c.requires.in_groups.in_group.head in
    let at : numbered_line_of_view c.in-Some.at ≡ on.0 =
    same_Some (numbered_line_of_view c.in-Some.at) on.0
    (ap (option_map numbered_line_of_view) (sym c.in-Some.is) ∙ c.find_walk_line_by_number.ensures.line ∙ on.1) in (
      settings_with_tags_replaced a.tags h,
      held_tags_replaced_hold_settings found.head a.tags h c.requires.in_groups.in_group.is_head,
      on.2
          ∙ ap₂ (λ (l : ℕ × Line) (command : CmdSpec). Some (record { line = l.0; text = l.1.text; command = command }))
          (sym at) (sym (effective_command_has_answer_tags a.tags h m)),
    )
