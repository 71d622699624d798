use Rattle.std.proofs.lemmas.Result.{on_ok_weaker, IfErr-weaker}
use Rattle.sudoers_place.proofs.Prepared.{prepared_before, still_before, prepared_free, removed_again, prepared_cause, prepared_expected, prepared_stands, ready_still}
use Rattle.sudoers_place.proofs.placing.prepare.Goals as goal

pub returns-then-is_err-clause-cause : goal.returns-then-is_err-clause-cause
returns-then-is_err-clause-cause g c = IfErr-weaker c.compare-compared.result _ _ (λ fault cause. prepared_cause c.args.changes.now c.args.output.now c.requires fault _ _ _ _ _ c.settle_output.ensures.goes_on c.write_temps.ensures.goes_on c.remove_temps.ensures.goes_on.counted cause) c.compare-compared.ensures.cause

pub returns-else-is_err-clause-ready : goal.returns-else-is_err-clause-ready
returns-else-is_err-clause-ready g c = on_ok_weaker c.compare-compared.result (λ _. ready_still c.args.changes.now _ _ c.compare-compared.ensures.goes_on c.compare-compared.ensures.synced c.in_ok-write_temps.ensures.ready) c.compare-compared.ensures.expected

pub returns-else-is_err-clause-stands : goal.returns-else-is_err-clause-stands
returns-else-is_err-clause-stands g c = on_ok_weaker c.compare-compared.result (λ _. prepared_stands c.args.changes.now c.args.output.now c.requires _ _ _ c.write_temps.ensures.goes_on c.compare-compared.ensures.goes_on c.in_ok-settle_output.ensures.stands) c.compare-compared.ensures.expected

pub returns-else-is_err-clause-expected : goal.returns-else-is_err-clause-expected
returns-else-is_err-clause-expected g c = on_ok_weaker c.compare-compared.result (λ expected. prepared_expected c.args.changes.now c.args.output.now c.requires _ _ _ c.settle_output.ensures.goes_on c.write_temps.ensures.goes_on expected) c.compare-compared.ensures.expected

pub returns-in_err-write_temps-clause-goes_on : goal.returns-in_err-write_temps-clause-goes_on
returns-in_err-write_temps-clause-goes_on g c = prepared_before c.args.changes.now c.args.output.now c.requires (g.D.WritableDisk.story c.args.disk.now) (g.D.WritableDisk.story c.settle_output.new.disk) (g.D.WritableDisk.story c.write_temps.new.disk) (g.met.D.WritableDisk.seen_now c.settle_output.new.disk) c.settle_output.ensures.goes_on c.write_temps.ensures.goes_on

pub returns-then-is_err-clause-goes_on : goal.returns-then-is_err-clause-goes_on
returns-then-is_err-clause-goes_on g c =
    let before = still_before c.args.changes.now c.args.output.now c.requires (g.D.WritableDisk.story c.args.disk.now) (g.D.WritableDisk.story c.write_temps.new.disk) (g.D.WritableDisk.story c.compare-compared.new.disk) (g.met.D.WritableDisk.seen_now c.write_temps.new.disk) (prepared_before c.args.changes.now c.args.output.now c.requires (g.D.WritableDisk.story c.args.disk.now) (g.D.WritableDisk.story c.settle_output.new.disk) (g.D.WritableDisk.story c.write_temps.new.disk) (g.met.D.WritableDisk.seen_now c.settle_output.new.disk) c.settle_output.ensures.goes_on c.write_temps.ensures.goes_on) c.compare-compared.ensures.goes_on in
    removed_again c.args.changes.now c.args.output.now c.requires (g.D.WritableDisk.story c.args.disk.now) (g.D.WritableDisk.story c.compare-compared.new.disk) (g.D.WritableDisk.story c.remove_temps.new.disk) (g.met.D.WritableDisk.seen_now c.compare-compared.new.disk) (prepared_free c.args.changes.now c.args.output.now c.requires (g.D.WritableDisk.story c.args.disk.now) (g.D.WritableDisk.story c.settle_output.new.disk) c.settle_output.ensures.goes_on c.in_ok-write_temps.ensures.free) before c.remove_temps.ensures.goes_on

pub returns-else-is_err-clause-free : goal.returns-else-is_err-clause-free
returns-else-is_err-clause-free g c = on_ok_weaker c.compare-compared.result (λ _. prepared_free c.args.changes.now c.args.output.now c.requires (g.D.WritableDisk.story c.args.disk.now) (g.D.WritableDisk.story c.settle_output.new.disk) c.settle_output.ensures.goes_on c.in_ok-write_temps.ensures.free) c.compare-compared.ensures.expected

pub returns-else-is_err-clause-goes_on : goal.returns-else-is_err-clause-goes_on
returns-else-is_err-clause-goes_on g c = still_before c.args.changes.now c.args.output.now c.requires (g.D.WritableDisk.story c.args.disk.now) (g.D.WritableDisk.story c.write_temps.new.disk) (g.D.WritableDisk.story c.compare-compared.new.disk) (g.met.D.WritableDisk.seen_now c.write_temps.new.disk) (prepared_before c.args.changes.now c.args.output.now c.requires (g.D.WritableDisk.story c.args.disk.now) (g.D.WritableDisk.story c.settle_output.new.disk) (g.D.WritableDisk.story c.write_temps.new.disk) (g.met.D.WritableDisk.seen_now c.settle_output.new.disk) c.settle_output.ensures.goes_on c.write_temps.ensures.goes_on) c.compare-compared.ensures.goes_on
