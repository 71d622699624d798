use Rattle.std.proofs.Common.{rules, ◌++◌}
use Rattle.std.proofs.lemmas.Result.{on_ok_weaker, IfErr-weaker}
use Rattle.sudoers_place.specs.Disk.{AreDistinct}
use Rattle.sudoers_place.specs.Placing.{temps_of, paths_of}
use Rattle.sudoers_place.proofs.Moves.{split_distinct}
use Rattle.sudoers_place.proofs.Temps.{split_pair, split_one, split_both, split_removed, split_free, split_cause, split_written}
use Rattle.sudoers_place.proofs.placing.+write_temps.Goals as goal

pub write_temp-requires : goal.write_temp-requires
write_temp-requires g t c = split_pair c.args.changes.now c.in-Some.change.now c.in-Some.rest.now c.in-Some.ensures.cases.0 c.requires

pub write_temps-written-requires : goal.write_temps-written-requires
write_temps-written-requires g t c κs within =
    let apart : AreDistinct (temps_of c.in-Some.rest.now ++ paths_of c.in-Some.rest.now) = split_distinct c.args.changes.now c.in-Some.change.now c.in-Some.rest.now c.in-Some.ensures.cases.0 c.requires in
    search rules

pub returns-then-is_err-clause-cause : goal.returns-then-is_err-clause-cause
returns-then-is_err-clause-cause g t c = IfErr-weaker c.write_temps-written.result _ _ (λ fault cause. split_cause c.args.changes.now c.in-Some.change.now c.in-Some.rest.now c.in-Some.ensures.cases.0 c.requires fault _ _ _ _ c.write_temp.ensures.goes_on c.remove_temp.ensures.goes_on.counted cause) c.write_temps-written.ensures.cause

pub returns-else-is_err-clause-ready : goal.returns-else-is_err-clause-ready
returns-else-is_err-clause-ready g t c = on_ok_weaker c.write_temps-written.result (λ ready. split_written c.args.changes.now c.in-Some.change.now c.in-Some.rest.now c.in-Some.ensures.cases.0 c.requires _ _ c.in-Ok.ensures.ready c.write_temps-written.ensures.goes_on c.write_temps-written.ensures.synced ready) c.write_temps-written.ensures.ready

pub returns-in_default-write_temp-clause-goes_on : goal.returns-in_default-write_temp-clause-goes_on
returns-in_default-write_temp-clause-goes_on g t c = split_one c.args.changes.now c.in-Some.change.now c.in-Some.rest.now c.in-Some.ensures.cases.0 c.requires (g.D.WritableDisk.story c.args.disk.now) (g.D.WritableDisk.story c.write_temp.new.disk) c.write_temp.ensures.goes_on

pub returns-then-is_err-clause-goes_on : goal.returns-then-is_err-clause-goes_on
returns-then-is_err-clause-goes_on g t c = split_removed c.args.changes.now c.in-Some.change.now c.in-Some.rest.now c.in-Some.ensures.cases.0 c.requires (g.D.WritableDisk.story c.args.disk.now) (g.D.WritableDisk.story c.write_temp.new.disk) (g.D.WritableDisk.story c.write_temps-written.new.disk) (g.D.WritableDisk.story c.remove_temp.new.disk) (g.met.D.WritableDisk.seen_now c.write_temp.new.disk) (g.met.D.WritableDisk.seen_now c.write_temps-written.new.disk) c.in-Ok.ensures.free c.write_temp.ensures.goes_on c.write_temps-written.ensures.goes_on c.remove_temp.ensures.goes_on

pub returns-else-is_err-clause-goes_on : goal.returns-else-is_err-clause-goes_on
returns-else-is_err-clause-goes_on g t c = split_both c.args.changes.now c.in-Some.change.now c.in-Some.rest.now c.in-Some.ensures.cases.0 c.requires (g.D.WritableDisk.story c.args.disk.now) (g.D.WritableDisk.story c.write_temp.new.disk) (g.D.WritableDisk.story c.write_temps-written.new.disk) (g.met.D.WritableDisk.seen_now c.write_temp.new.disk) c.write_temp.ensures.goes_on c.write_temps-written.ensures.goes_on

pub returns-else-is_err-clause-free : goal.returns-else-is_err-clause-free
returns-else-is_err-clause-free g t c = on_ok_weaker c.write_temps-written.result (λ free. split_free c.args.changes.now c.in-Some.change.now c.in-Some.rest.now c.in-Some.ensures.cases.0 c.requires (g.D.WritableDisk.story c.args.disk.now) (g.D.WritableDisk.story c.write_temp.new.disk) c.write_temp.ensures.goes_on c.in-Ok.ensures.free free) c.write_temps-written.ensures.free
