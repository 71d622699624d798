-- A token of a line, without where its text lies in memory.
use Rattle.sudoers_forms.specs.declared.judged_token.JudgedToken.{JudgedToken}
use Rattle.sudoers_forms.specs.Forms.{PlacedToken}

abbrev pub model_of_judged_token : JudgedToken → PlacedToken
model_of_judged_token judged = record {
  first = judged.token.first;
  part = judged.token.part;
  second_before = judged.token.second_before.now;
  before_kind = judged.token.kind_before;
  before = judged.token.before.now;
  gap = judged.token.gap.now;
  rest = judged.token.rest.now;
  is_at_return = judged.token.is_at_return;
  kind = judged.token.kind;
  text = judged.token.text.now;
  start = judged.start;
  stop = judged.stop;
  form = judged.form;
}
