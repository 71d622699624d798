use Rattle.sudoers_tree.proofs.Common.{Err, IsLineOutcomeOrNoMemory, ap, arith, table_growth_is_transitive, length, lf_count_of_lines, line_of_row, map, outcome_of_line, subst, sym, text_limit, texts_of_lines, ◌+◌, ◌∙◌, ◌≤◌}
use Rattle.sudoers_tree.proofs.ReadPieces.{end_within, reads_text, stand_pushed, stops_text}
use Rattle.sudoers_tree.proofs.TreeLines.{grown_tables_keep_rows_lasting}
use Rattle.sudoers_tree.proofs.reading.read_and_append_line.Goals as goal

pub number_of_physical_line_after-line-requires : goal.number_of_physical_line_after-line-requires
number_of_physical_line_after-line-requires c =
    subst (λ rows. lf_count_of_lines (texts_of_lines (map (line_of_row c.read_line_into_row.new.tables) rows)) ≤ text_limit) (sym c.as_slice.ensures.value)
    (omega (arith, end_within table_growth_is_transitive c.args.tables.now c.read_line_into_row.new.tables c.in-Err-Syntax.ensures.grown c.args.rows.now.items c.requires.stand (length c.args.text.now) c.requires.fits))

pub syntax_fault_at-requires : goal.syntax_fault_at-requires
syntax_fault_at-requires c =
    omega (
      arith,
      c.number_of_physical_line_after-line.ensures,
      ap (λ rows. lf_count_of_lines (texts_of_lines (map (line_of_row c.read_line_into_row.new.tables) rows))) c.as_slice.ensures.value,
      end_within table_growth_is_transitive c.args.tables.now c.read_line_into_row.new.tables c.in-Err-Syntax.ensures.grown c.args.rows.now.items c.requires.stand (length c.args.text.now) c.requires.fits,
    )

pub returns-in_ok-push-in-Ok-clause-stand : goal.returns-in_ok-push-in-Ok-clause-stand
returns-in_ok-push-in-Ok-clause-stand c =
    stand_pushed table_growth_is_transitive c.args.tables.now c.read_line_into_row.new.tables c.in-Ok.ensures.grown c.args.rows.now.items c.requires.stand
    c.push.new.self.items c.in-Ok.row c.in_ok-push-in-Ok.ensures.items c.in-Ok.ensures.gives.0

pub returns-in_ok-push-in-Ok-clause-read : goal.returns-in_ok-push-in-Ok-clause-read
returns-in_ok-push-in-Ok-clause-read c =
    reads_text table_growth_is_transitive c.args.tables.now c.read_line_into_row.new.tables c.in-Ok.ensures.grown c.args.rows.now.items c.requires.stand
    c.push.new.self.items c.in-Ok.row c.args.text.now c.in_ok-push-in-Ok.ensures.items c.in-Ok.ensures.gives.0 c.in-Ok.ensures.gives.1

pub returns-in-Err-Syntax-clause-stand : goal.returns-in-Err-Syntax-clause-stand
returns-in-Err-Syntax-clause-stand c =
    grown_tables_keep_rows_lasting table_growth_is_transitive c.args.tables.now c.read_line_into_row.new.tables c.in-Err-Syntax.ensures.grown c.args.rows.now.items c.requires.stand

pub returns-in-Err-Syntax-clause-read : goal.returns-in-Err-Syntax-clause-read
returns-in-Err-Syntax-clause-read c =
    stops_text table_growth_is_transitive c.args.tables.now c.read_line_into_row.new.tables c.in-Err-Syntax.ensures.grown c.args.rows.now.items c.requires.stand
    c.args.text.now c.in-Err-Syntax.at c.in-Err-Syntax.why c.number_of_physical_line_after-line.result c.syntax_fault_at.result
    (subst (λ f. IsLineOutcomeOrNoMemory (Err f) (outcome_of_line c.args.text.now)) c.in-Err-Syntax.field-0-is c.in-Err-Syntax.ensures.gives)
    (c.number_of_physical_line_after-line.ensures ∙ ap (λ rows. 1 + lf_count_of_lines (texts_of_lines (map (line_of_row c.read_line_into_row.new.tables) rows))) c.as_slice.ensures.value) c.syntax_fault_at.ensures
