use Rattle.std.proofs.Common.{◌≡◌, ◌++◌, drop, map}
use Rattle.sudoers_tree.specs.Line.{line_of_row}
use Rattle.sudoers_forms.specs.Forms.{forms_of_lines}
use Rattle.sudoers_forms.specs.Answers.{other_answers_of_lines}
use Rattle.sudoers_forms.proofs.sudo_forms.list_forms_for_sudo.Given as goal

abbrev pub invariant-loop-number : goal.invariant-loop-number
invariant-loop-number l = record {
  refused : l.forms.refused.items ++ forms_of_lines l.number (map (line_of_row l.lines.tables.now) (drop l.number l.lines.rows.now))
      ≡ forms_of_lines 0 (map (line_of_row l.lines.tables.now) l.lines.rows.now);
  answers : l.forms.answers.items ++ other_answers_of_lines l.number (map (line_of_row l.lines.tables.now) (drop l.number l.lines.rows.now))
      ≡ other_answers_of_lines 0 (map (line_of_row l.lines.tables.now) l.lines.rows.now);
}
