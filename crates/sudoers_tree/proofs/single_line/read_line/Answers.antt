use Rattle.sudoers_tree.proofs.Common.{Err, IsLineOutcomeOrNoMemory, LineFault, List, Node, None, Ok, Result, ReturnsNodeOrNoMemory, ap, false, if◌then◌else◌, is_logical_line, outcome_of_line, reading_of_single_line}
use Rattle.sudoers_tree.proofs.Common.{result_ok, subst, sym, true, ℕ, ◌∙◌, ◌≡◌}
use Rattle.sudoers_grammar.specs.declared.fault.LineFault.TheVariants.{Syntax}
use Rattle.sudoers_tree.proofs.Known.{logical_line_is_computed_logical_line, computed_logical_line_is_logical_line}
use Rattle.sudoers_tree.proofs.single_line.read_line.Goals as goal

-- bytes that are not one line have no reading
said_none : (text : List ℕ) → false ≡ is_logical_line text → None ≡ reading_of_single_line text
unfolding reading_of_single_line
said_none text e = ap (λ t. if t then result_ok (outcome_of_line text) else None) e

-- a line says what its outcome is
said_is : (text : List ℕ) (outcome : Result Node LineFault) → true ≡ is_logical_line text → outcome_of_line text ≡ outcome → result_ok outcome ≡ reading_of_single_line text
unfolding reading_of_single_line
said_is text outcome e is = ap result_ok (sym is) ∙ ap (λ t. if t then result_ok (outcome_of_line text) else None) e

pub returns-then-not-is_logical_line-clause-line : goal.returns-then-not-is_logical_line-clause-line
returns-then-not-is_logical_line-clause-line c = λ says whole reads.
    let both : false ≡ true = c.if-not-is_logical_line.ensures ∙ logical_line_is_computed_logical_line c.args.text.now whole in
    absurd cc

pub returns-then-not-is_logical_line-clause-said : goal.returns-then-not-is_logical_line-clause-said
returns-then-not-is_logical_line-clause-said c = said_none c.args.text.now c.if-not-is_logical_line.ensures

pub returns-in-Ok-clause-line : goal.returns-in-Ok-clause-line
returns-in-Ok-clause-line c = (computed_logical_line_is_logical_line c.args.text.now (sym c.if-not-is_logical_line.ensures), c.in-Ok.ensures.found)

pub returns-in-Ok-clause-said : goal.returns-in-Ok-clause-said
returns-in-Ok-clause-said c = said_is c.args.text.now (Ok c.in-Ok.reading) c.if-not-is_logical_line.ensures c.in-Ok.ensures.outcome

pub returns-in-Err-Syntax-clause-line : goal.returns-in-Err-Syntax-clause-line
returns-in-Err-Syntax-clause-line c = λ says line reads.
    subst (λ fault. ReturnsNodeOrNoMemory (Err fault) says) c.in-Err-Syntax.field-0-is (c.in-Err-Syntax.ensures.only says reads)

pub returns-in-Err-Syntax-clause-said : goal.returns-in-Err-Syntax-clause-said
returns-in-Err-Syntax-clause-said c =
    said_is c.args.text.now (Err (Syntax c.in-Err-Syntax.field-0-0 c.in-Err-Syntax.field-0-1)) c.if-not-is_logical_line.ensures
    (subst (λ fault. IsLineOutcomeOrNoMemory (Err fault) (outcome_of_line c.args.text.now)) c.in-Err-Syntax.field-0-is c.in-Err-Syntax.ensures.outcome)
