use Rattle.std.proofs.Common.{rules, ◌++◌}
use Rattle.std.specs.List.{AllByRecursion}
use Rattle.std.proofs.lemmas.Result.{on_ok_weaker}
use Rattle.sudoers_place.specs.Disk.{AreDistinct}
use Rattle.sudoers_place.specs.Placing.{temps_of, paths_of}
use Rattle.sudoers_place.specs.internal.Stages.{IsReady}
use Rattle.sudoers_place.proofs.Moves.{split_distinct, split_ready, split_one, split_both, split_placed}
use Rattle.sudoers_place.proofs.placing.+move_all.Goals as goal

pub returns-in_default-move_one-clause-goes_on : goal.returns-in_default-move_one-clause-goes_on
returns-in_default-move_one-clause-goes_on g t c = split_one c.args.changes.now c.in-Some.change.now c.in-Some.rest.now c.in-Some.ensures.cases.0 c.requires.distinct _ _ c.move_one.ensures.goes_on

pub move_all-requires : goal.move_all-requires
move_all-requires g t c κs within =
    let ready : AllByRecursion (IsReady (g.D.WritableDisk.story c.move_one.new.disk)) c.in-Some.rest.now = split_ready c.args.changes.now c.in-Some.change.now c.in-Some.rest.now c.in-Some.ensures.cases.0 c.requires.distinct _ _ c.requires.ready c.move_one.ensures.goes_on c.move_one.ensures.synced in
    let apart : AreDistinct (temps_of c.in-Some.rest.now ++ paths_of c.in-Some.rest.now) = split_distinct c.args.changes.now c.in-Some.change.now c.in-Some.rest.now c.in-Some.ensures.cases.0 c.requires.distinct in
    search rules

pub returns-clause-placed : goal.returns-clause-placed
returns-clause-placed g t c = on_ok_weaker c.move_all.result (λ placed. split_placed c.args.changes.now c.in-Some.change.now c.in-Some.rest.now c.in-Some.ensures.cases.0 c.requires.distinct _ _ _ c.move_one.ensures.goes_on c.move_all.ensures.goes_on c.in-Ok.ensures.placed placed) c.move_all.ensures.placed

pub returns-clause-goes_on : goal.returns-clause-goes_on
returns-clause-goes_on g t c = split_both c.args.changes.now c.in-Some.change.now c.in-Some.rest.now c.in-Some.ensures.cases.0 c.requires.distinct _ _ _ (g.met.D.WritableDisk.seen_now c.move_one.new.disk) c.move_one.ensures.goes_on c.move_all.ensures.goes_on
