use Rattle.std.proofs.Common.{◌∙◌, List, refl, subst}
use Rattle.sudoers_tree.specs.Line.{Line}
use Rattle.sudoers_ask.specs.declared.asked_question.AskedQuestion.{AskedQuestion}
use Rattle.sudoers_ask.specs.internal.Asked.{IsReadyQuestion}
use Rattle.sudoers_ask.proofs.asked_question.AskedQuestion.new.Goals as goal

pub returns-clause-ready : goal.returns-clause-ready
returns-clause-ready c =
    let people = c.args.people.now in
    let q = c.args.question.now in
    let a : AskedQuestion = record {
      walk = c.in_ok-walk.walk;
      people = c.args.people;
      question = c.args.question;
      command = c.in_ok-command.command;
      specs = c.in_ok-specs.specs;
      has_default = c.has_runas_default-has_default.result;
      is_open = c.may_be_undecided-is_open.result;
    } in
    let it : IsReadyQuestion c.in_ok-walk.walk people q a = record {
      walk = refl;
      of_people = refl;
      of_question = refl;
      command = c.in_ok-command.ensures;
      default = c.has_runas_default-has_default.ensures;
      specs = c.in_ok-specs.ensures;
      open_to = c.may_be_undecided-is_open.ensures;
    } in
    subst (λ (ls : List Line). IsReadyQuestion ls people q a) (c.in_ok-walk.ensures.walk ∙ c.walk.ensures) it
