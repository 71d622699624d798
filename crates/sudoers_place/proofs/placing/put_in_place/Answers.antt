use Rattle.std.proofs.lemmas.Result.{on_ok_weaker}
use Rattle.sudoers_place.proofs.Prepared.{all_in_place, all_placed, all_stands}
use Rattle.sudoers_place.proofs.Promise.{begins, and_ends}
use Rattle.sudoers_place.proofs.placing.put_in_place.Goals as goal

pub returns-in_err-move_all-clause-goes_on : goal.returns-in_err-move_all-clause-goes_on
returns-in_err-move_all-clause-goes_on g c = begins c.args.changes.now c.args.output.now c.requires (g.D.WritableDisk.story c.args.disk.now) (g.D.WritableDisk.story c.prepare.new.disk) (g.D.WritableDisk.story c.move_all.new.disk) (g.met.D.WritableDisk.seen_now c.prepare.new.disk) c.in_ok-prepare.ensures.stands c.in_ok-prepare.ensures.free c.prepare.ensures.goes_on c.move_all.ensures.goes_on

pub returns-clause-goes_on : goal.returns-clause-goes_on
returns-clause-goes_on g c = and_ends c.args.changes.now c.args.output.now c.requires (g.D.WritableDisk.story c.args.disk.now) (g.D.WritableDisk.story c.move_all.new.disk) (g.D.WritableDisk.story c.keep_all.new.disk) (g.met.D.WritableDisk.seen_now c.move_all.new.disk) (begins c.args.changes.now c.args.output.now c.requires (g.D.WritableDisk.story c.args.disk.now) (g.D.WritableDisk.story c.prepare.new.disk) (g.D.WritableDisk.story c.move_all.new.disk) (g.met.D.WritableDisk.seen_now c.prepare.new.disk) c.in_ok-prepare.ensures.stands c.in_ok-prepare.ensures.free c.prepare.ensures.goes_on c.move_all.ensures.goes_on) c.keep_all.ensures.goes_on

pub returns-clause-done : goal.returns-clause-done
returns-clause-done g c = on_ok_weaker c.keep_all.result (λ stand. all_in_place c.args.changes.now c.args.output.now c.requires (g.D.WritableDisk.story c.args.disk.now) (g.D.WritableDisk.story c.prepare.new.disk) (g.D.WritableDisk.story c.move_all.new.disk) (g.D.WritableDisk.story c.keep_all.new.disk) c.prepare.ensures.goes_on c.move_all.ensures.goes_on c.keep_all.ensures.goes_on c.in_ok-move_all.ensures.placed stand) c.keep_all.ensures.stand

pub returns-clause-output_stands : goal.returns-clause-output_stands
returns-clause-output_stands g c = on_ok_weaker c.keep_all.result (λ _. all_stands c.args.changes.now c.args.output.now c.requires (g.D.WritableDisk.story c.args.disk.now) (g.D.WritableDisk.story c.prepare.new.disk) (g.D.WritableDisk.story c.move_all.new.disk) (g.D.WritableDisk.story c.keep_all.new.disk) c.prepare.ensures.goes_on c.move_all.ensures.goes_on c.keep_all.ensures.goes_on c.in_ok-prepare.ensures.stands) c.keep_all.ensures.stand

pub returns-clause-placed : goal.returns-clause-placed
returns-clause-placed g c = λ number is. all_placed c.args.changes.now c.args.output.now c.requires (g.D.WritableDisk.story c.args.disk.now) (g.D.WritableDisk.story c.prepare.new.disk) (g.D.WritableDisk.story c.move_all.new.disk) (g.D.WritableDisk.story c.keep_all.new.disk) c.prepare.ensures.goes_on c.keep_all.ensures.goes_on c.in_ok-move_all.ensures.placed
