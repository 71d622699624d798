use Rattle.std.proofs.Common.{◌≡◌, ◌∙◌, ◌+◌, Some, drop, false, true, get_or-set_other, length, map, slice_get, slice_index_or, sym, ap, arith}
use Rattle.std.proofs.lemmas.List.{length-map, length-set}
use Rattle.sudoers_grammar.specs.Node.{Def}
use Rattle.sudoers_line_rows.specs.Tables.{alias_definition_in_tables}
use Rattle.sudoers_line_rows.specs.View.{alias_definition_of_view}
use Rattle.sudoers_line_rows.specs.declared.rows.AliasDefinitionRow.{AliasDefinitionRow}
use Rattle.sudoers_plan.specs.Mentions.{is_definition_settled, names_with_definition}
use Rattle.sudoers_plan.specs.User.{names_with_definitions_of_user}
use Rattle.sudoers_plan.proofs.MarkedDefinitions.{front_definition_is_asked, item_of_mapped_list_stands, settled_definition_leaves_names, unmarked_are_settled_after_asking}
use Rattle.sudoers_plan.proofs.user_aliases.add_marked_aliases.Goals as goal
use Rattle.sudoers_plan.proofs.user_aliases.add_marked_aliases.Goals.{then-marks-number+in_ok-add_alias_of_user, else-marks-number}

pub loop-number-preserved : goal.loop-number-preserved
loop-number-preserved c =
    let part = c.args.part in
    let user = c.args.user.now in
    let lines = c.args.policy.now.walk.lines in
    let definitions = c.args.definitions.now in
    let view : AliasDefinitionRow → Def = alias_definition_in_tables definitions.tables.now in
    let rows = definitions.rows.items in
    let i = c.loop-number.number in
    let none : AliasDefinitionRow = record { name = record { from = 0; to = 0 }; start = 0; members = record { from = 0; to = 0 } } in
    let here : Def = view (slice_index_or c.as_slice-row-items.result.now i none) in
    let stands : slice_get (map view rows) i ≡ Some here =
    ap (λ r. slice_get (map view r) i) (sym c.as_slice-row-items.ensures.value) ∙ item_of_mapped_list_stands view c.as_slice-row-items.result.now i none c.loop-number-test.true in
    let names = c.loop-number.names in
    let marks = c.loop-number.marks in
    elim c.if-marks-number.branch [
      | then-marks-number+in_ok-add_alias_of_user w ↦
          let d : Def = alias_definition_of_view w.alias_definition_of_row-def.result in
          let is : slice_get (map view rows) i ≡ Some d = stands ∙ ap (λ (x : Def). Some x) (sym w.alias_definition_of_row-def.ensures) in
          let asked : c.if-marks-number.names ≡ names_with_definition part user lines names d = w.names-is ∙ w.in_ok-add_alias_of_user.ensures.names in
          let each : length marks ≡ length (map view rows) = c.loop-number.auto.marks ∙ c.requires.each ∙ sym (length-map rows view) in
          record {
            names = front_definition_is_asked part user lines names c.if-marks-number.names view rows i d is asked ∙ c.loop-number.invariant.names;
            settled = unmarked_are_settled_after_asking part user lines (map view rows) definitions.mentions names c.if-marks-number.names marks c.if-marks-number.marks i d definitions.listed is each asked
                (λ j mark apart. ap (λ ms. slice_index_or ms j false) w.marks-is ∙ w.in_ok-add_alias_of_user.ensures.kept j (get_or-set_other marks i j false false apart ∙ mark))
                (λ fresh j within listed. ap (λ ms. slice_index_or ms j false) w.marks-is ∙ w.in_ok-add_alias_of_user.ensures.marked fresh j (omega (arith, within, length-set marks i false)) listed)
                c.loop-number.invariant.settled;
          }
      | else-marks-number w ↦
          let settled : is_definition_settled part user lines names here ≡ true = c.loop-number.invariant.settled i here stands w.if-marks-number.false in
          record {
            names = ap (λ ns. names_with_definitions_of_user part user lines ns (map view (drop (i + 1) rows))) w.names-is
                ∙ front_definition_is_asked part user lines names names view rows i here stands (sym (settled_definition_leaves_names part user lines names here settled)) ∙ c.loop-number.invariant.names;
            settled = λ j e there unmarked.
                ap (λ ns. is_definition_settled part user lines ns e) w.names-is ∙ c.loop-number.invariant.settled j e there (ap (λ ms. slice_index_or ms j false) (sym w.marks-is) ∙ unmarked);
          }
    ]
