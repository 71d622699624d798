use Rattle.std.proofs.Common.{◌+◌, ◌∷◌, sym, subst, ℕ, length}
use Rattle.sudoers_text.specs.Unit.{bytes_of_unit, bytes_of_units_after_leading_gap}
use Rattle.sudoers_text.specs.internal.Left.{model_of_unit}
use Rattle.sudoers_text.proofs.Units.{AreLastBytesBeforePlace, begun_line_extends_or_stays_empty}
use Rattle.sudoers_text.proofs.text_units.LeftContext.pass_unit.Goals as goal

pub returns : goal.returns
returns c = λ before knows.
    let unit = model_of_unit c.args.unit.now in
    let text = c.args.text.now in
    let at = c.args.at in
    let family : ℕ → Type 0 = λ m. AreLastBytesBeforePlace text (at + length (bytes_of_unit unit)) m (bytes_of_units_after_leading_gap (unit ∷ before)) in
    let begins = subst family (sym c.begun_line_len_after.ensures)
    (begun_line_extends_or_stays_empty text at c.args.self.begun unit before (knows.within, knows.size, knows.begins) c.requires.stands) in
    record {
      item = c.may_id_begin_after.ensures before knows;
      continues = λ all. c.ends_open_after_unit.ensures all before;
      within = begins.0;
      size = begins.1;
      begins = begins.2;
    }
