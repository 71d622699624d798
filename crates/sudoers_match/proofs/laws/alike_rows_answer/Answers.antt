use Rattle.sudoers_match.proofs.Alike.{alike_rows_have_same_answer_but_numbers, alike_numbered_rows_have_same_answer}
use Rattle.sudoers_match.proofs.laws.alike_rows_answer.Goals as goal

pub returns : goal.returns
returns c = record {
  alike = alike_rows_have_same_answer_but_numbers c.alike_lists_say_same.ensures;
  equal = alike_numbered_rows_have_same_answer c.alike_lists_say_same.ensures;
}
