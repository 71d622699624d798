use Rattle.std.proofs.Common.{◌≡◌, [], true, false, refl, rules, arith, sym, subst}
use Rattle.std.proofs.lemmas.Grind.{common_steps}
use Rattle.sudoers_line_rows.specs.Tables.{values_of_row_range}
use Rattle.sudoers_line_reader.specs.Reader.{is_next_token, snoc}
use Rattle.sudoers_line_reader.specs.internal.Answer.{RowReadsAsOutcome}
use Rattle.sudoers_line_reader.proofs.Repeats.{next_read, next_none}
use Rattle.sudoers_line_reader.proofs.SoFar.{first_row_halts}
use Rattle.sudoers_line_reader.proofs.row_reader.read_repeated_rows.Goals as goal

pub returns-then-not-comes-clause-reads : goal.returns-then-not-comes-clause-reads
returns-then-not-comes-clause-reads g c =
    let none : is_next_token (g.R.LookaheadRowReader.begins c.args.reader) c.args.cursor.now ≡ false = first_of (search rules, cc) in
    (next_none snoc (g.R.LookaheadRowReader.begins c.args.reader) (g.R.RowReader.rule c.args.reader) c.requires [] c.args.cursor.now none, λ u h. refl)

pub returns-in_err-first-clause-reads : goal.returns-in_err-first-clause-reads
returns-in_err-first-clause-reads g c =
    let some : is_next_token (g.R.LookaheadRowReader.begins c.args.reader) c.args.cursor.now ≡ true = first_of (search rules, cc) in
    let h = first_row_halts g.R.RowReader.said (g.R.LookaheadRowReader.begins c.args.reader) (g.R.RowReader.rule c.args.reader) c.requires (λ t. values_of_row_range (g.R.Row.TableRow.table t) (g.R.RowReader.said t)) c.args.cursor.now c.read.new.tables c.read.new.cursor c.in_err-first.field-0.0 some c.in_err-first.ensures.reads in
    first_of (search rules, grind (arith, common_steps))

pub returns-clause-reads : goal.returns-clause-reads
returns-clause-reads g c =
    let some : is_next_token (g.R.LookaheadRowReader.begins c.args.reader) c.args.cursor.now ≡ true = first_of (search rules, cc) in
    let one = next_read snoc (g.R.LookaheadRowReader.begins c.args.reader) (g.R.RowReader.rule c.args.reader) c.requires [] (g.R.RowReader.said c.read.new.tables c.in_ok-first.first) c.args.cursor.now c.read.new.cursor some c.in_ok-first.ensures.reads.0 in
    subst (λ o. RowReadsAsOutcome o (λ t. values_of_row_range (g.R.Row.TableRow.table t) (g.R.RowReader.said t)) c.read_further_rows.new.tables c.read_further_rows.result c.read_further_rows.new.cursor) (sym one) c.read_further_rows.ensures.reads
