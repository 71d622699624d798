use Rattle.std.proofs.Common.{sym, arith}
use Rattle.sudoers_text.proofs.Units.{line_end_search_without_lf_keeps_all, line_ends_before_cr_of_lf, line_ends_at_lf_without_cr}
use Rattle.sudoers_text.proofs.text_units.take_up_to_line_end.Goals as goal
use Rattle.sudoers_text.proofs.text_units.take_up_to_line_end.Goals.{then-end-gt0+else-text-end-eq13, else-end-gt0}

pub returns-in-Some : goal.returns-in-Some
returns-in-Some c =
    let found = c.in-Some.ensures in
    sym (line_ends_before_cr_of_lf c.args.text.now c.in-Some.end c.if-end-gt0.true found.0.high (λ k below. found.0.before k (omega arith) below) found.1 c.if-text-end-eq13.true)

pub returns-in-Some-2 : goal.returns-in-Some-2
returns-in-Some-2 c =
    let found = c.in-Some.ensures in
    sym (line_ends_at_lf_without_cr c.args.text.now c.in-Some.end found.0.high (λ k below. found.0.before k (omega arith) below) found.1
    (λ some cr. elim c.if-end-gt0.branch [
      | then-end-gt0+else-text-end-eq13 w ↦ w.if-text-end-eq13.false cr
      | else-end-gt0 w ↦ absurd (omega (arith, w.if-end-gt0.false))
    ]))

pub returns-in-None : goal.returns-in-None
returns-in-None c = sym (line_end_search_without_lf_keeps_all c.args.text.now (λ k below. c.in-None.ensures k (omega arith) below))
