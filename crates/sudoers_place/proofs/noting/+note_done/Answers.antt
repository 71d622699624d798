use Rattle.std.proofs.lemmas.Result.{IfErr-weaker}
use Rattle.sudoers_place.proofs.Noted.{same_first, cause_later}
use Rattle.sudoers_place.proofs.noting.+note_done.Goals as goal

pub returns-in_err-note_one-clause-same : goal.returns-in_err-note_one-clause-same
returns-in_err-note_one-clause-same g t c = same_first c.args.changes.now c.in-Some.change.now c.in-Some.rest.now c.in-Some.ensures.cases.0 c.note_one.new.change c.note_one.ensures.same

pub returns-clause-cause : goal.returns-clause-cause
returns-clause-cause g t c = λ output. IfErr-weaker c.note_done.result _ _ (λ fault cause. cause_later c.args.changes.now c.in-Some.change.now c.in-Some.rest.now c.in-Some.ensures.cases.0 output fault _ _ _ c.note_one.ensures.goes_on cause) (c.note_done.ensures.cause output)
