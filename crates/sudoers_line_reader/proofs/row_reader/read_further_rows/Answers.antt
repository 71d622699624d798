use Rattle.std.proofs.Common.{[], ◌∷◌, ◌++◌, rules, arith, sym, ◌∙◌}
use Rattle.std.proofs.lemmas.Grind.{common_steps}
use Rattle.sudoers_line_rows.specs.Tables.{values_of_row_range}
use Rattle.sudoers_line_reader.proofs.SoFar.{next_taken, next_halted, tables_grown, all_stand, row_behind_rows_joins_them}
use Rattle.sudoers_line_reader.proofs.row_reader.read_further_rows.Goals as goal

pub returns-in_err-row-clause-reads : goal.returns-in_err-row-clause-reads
returns-in_err-row-clause-reads g c =
    let h = next_halted c.requires.shrinks c.loop-reader.invariant.so (λ t. values_of_row_range (g.R.Row.TableRow.table t) (g.R.RowReader.said t)) c.read.new.tables c.read.new.cursor c.in_err-row.field-0.0 (sym c.comes.ensures ∙ c.loop-reader-test.true) c.in_err-row.ensures.reads in
    first_of (search rules, grind (arith, common_steps))

pub loop-reader-preserved : goal.loop-reader-preserved
loop-reader-preserved g c =
    let before = c.loop-reader.invariant in
    let taken = next_taken c.requires.shrinks before.so c.read.new.tables c.read.new.cursor c.in_ok-row.row (sym c.comes.ensures ∙ c.loop-reader-test.true) c.in_ok-row.ensures.reads.0 c.in_ok-row.ensures.reads.1 c.in_ok-row.ensures.grown in
    record {
      rows = before.rows ++ c.in_ok-row.row ∷ [];
      so = tables_grown c.requires.shrinks taken c.keep_one-in-loop-reader.new.tables c.in_ok-kept.ensures.grown;
      stand = row_behind_rows_joins_them _ _ _ c.loop-reader.rows c.in_ok-kept.kept c.in_ok-rows-2.rows before.rows c.in_ok-row.row before.stand (g.met.R.Row.TableRow.grows _ _ c.in_ok-row.ensures.grown)
          c.in_ok-kept.ensures.kept.0 c.in_ok-kept.ensures.kept.1 c.in_ok-rows-2.ensures.0 c.in_ok-rows-2.ensures.1 c.in_ok-rows-2.ensures.2;
    }

pub returns-clause-reads : goal.returns-clause-reads
returns-clause-reads g c =
    all_stand c.requires.shrinks c.loop-reader.invariant.so g.R.Row.TableRow.table g.met.R.Row.TableRow.grows c.loop-reader.rows (sym c.comes.ensures ∙ c.loop-reader-test.false) c.loop-reader.invariant.stand
