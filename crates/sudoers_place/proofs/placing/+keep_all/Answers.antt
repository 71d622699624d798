use Rattle.std.proofs.lemmas.Result.{on_ok_weaker}
use Rattle.sudoers_place.proofs.Prepared.{split_stand}
use Rattle.sudoers_place.proofs.placing.+keep_all.Goals as goal

pub returns-clause-stand : goal.returns-clause-stand
returns-clause-stand g t c = on_ok_weaker c.keep_all.result (λ stand. split_stand c.args.changes.now c.in-Some.change.now c.in-Some.rest.now c.deref.result.now _ _ _ c.in-Some.ensures.cases.0 c.deref.ensures.value c.sync.ensures.goes_on c.keep_all.ensures.goes_on c.in-Ok.ensures.stands stand) c.keep_all.ensures.stand
