use Rattle.std.proofs.Common.{◌≡◌, true, inl, inr, refl, rules}
use Rattle.std.proofs.lemmas.Result.{on_ok_weaker, IfErr-weaker}
use Rattle.sudoers_place.specs.Disk.{SameWhereSeen}
use Rattle.sudoers_place.specs.Placing.{IsAsBefore, IsBeforeOrBegun, paths_of}
use Rattle.sudoers_place.proofs.Promise.{every_moment}
use Rattle.sudoers_place.proofs.Steps.{loosened}
use Rattle.sudoers_place.proofs.Noted.{same_changes, same_apart, all_either, all_kept, all_new, begins_noted, as_before_noted, kept_now, kept_on, cause_noted}
use Rattle.sudoers_place.proofs.noting.place.Goals as goal

pub returns-then-not-are_apart-clause-same : goal.returns-then-not-are_apart-clause-same
returns-then-not-are_apart-clause-same g c = same_changes c.args.changes.now

pub returns-in_err-note_done-clause-any_moment : goal.returns-in_err-note_done-clause-any_moment
returns-in_err-note_done-clause-any_moment g c = every_moment (IsBeforeOrBegun c.note_done.new.changes c.args.output.now (g.D.WritableDisk.story c.args.disk.now).seen) (g.D.WritableDisk.story c.args.disk.now) (g.D.WritableDisk.story c.note_done.new.disk) (g.met.D.WritableDisk.only_now c.args.disk.now) (λ d. inl (λ path h. refl)) (loosened _ _ _ _ c.note_done.ensures.goes_on (λ _ d e same. inl (λ path h. same path tt)))

pub put_in_place-requires : goal.put_in_place-requires
put_in_place-requires g c =
    let apart : c.are_apart.result ≡ true = search rules in
    same_apart c.args.changes.now c.note_done.new.changes c.args.output.now c.note_done.ensures.same (c.are_apart.ensures.0 apart)

pub returns-clause-any_moment : goal.returns-clause-any_moment
returns-clause-any_moment g c = every_moment (IsBeforeOrBegun c.note_done.new.changes c.args.output.now (g.D.WritableDisk.story c.args.disk.now).seen) (g.D.WritableDisk.story c.args.disk.now) (g.D.WritableDisk.story c.put_in_place.new.disk) (g.met.D.WritableDisk.only_now c.args.disk.now) (λ d. inl (λ path h. refl)) (begins_noted c.note_done.new.changes c.args.output.now (g.D.WritableDisk.story c.args.disk.now) (g.D.WritableDisk.story c.note_done.new.disk) (g.D.WritableDisk.story c.put_in_place.new.disk) (g.met.D.WritableDisk.seen_now c.note_done.new.disk) c.note_done.ensures.goes_on c.put_in_place.ensures.goes_on)

pub returns-clause-early : goal.returns-clause-early
returns-clause-early g c = IfErr-weaker c.put_in_place.result _ _ (λ fault before early. every_moment (IsAsBefore c.note_done.new.changes (g.D.WritableDisk.story c.args.disk.now).seen) (g.D.WritableDisk.story c.args.disk.now) (g.D.WritableDisk.story c.put_in_place.new.disk) (g.met.D.WritableDisk.only_now c.args.disk.now) (λ d path h. refl) (as_before_noted c.note_done.new.changes c.args.output.now (g.D.WritableDisk.story c.args.disk.now) (g.D.WritableDisk.story c.note_done.new.disk) (g.D.WritableDisk.story c.put_in_place.new.disk) (g.met.D.WritableDisk.seen_now c.note_done.new.disk) c.note_done.ensures.goes_on (before early))) c.put_in_place.ensures.early

pub returns-clause-unchanged : goal.returns-clause-unchanged
returns-clause-unchanged g c = on_ok_weaker c.put_in_place.result (λ _ known. all_either c.args.changes.now c.note_done.new.changes (g.D.WritableDisk.story c.args.disk.now).seen c.note_done.ensures.same (c.in_ok-note_done.ensures.noted known)) c.put_in_place.ensures.expected

pub returns-clause-late : goal.returns-clause-late
returns-clause-late g c = IfErr-weaker c.put_in_place.result _ _ (λ fault _. inr (λ known. all_either c.args.changes.now c.note_done.new.changes (g.D.WritableDisk.story c.args.disk.now).seen c.note_done.ensures.same (c.in_ok-note_done.ensures.noted known))) c.put_in_place.ensures.late

pub returns-clause-done : goal.returns-clause-done
returns-clause-done g c = on_ok_weaker c.put_in_place.result (λ done known. all_kept c.args.changes.now c.note_done.new.changes (g.D.WritableDisk.story c.args.disk.now).seen (g.D.WritableDisk.story c.note_done.new.disk).seen (g.D.WritableDisk.story c.put_in_place.new.disk) c.note_done.ensures.same (c.note_done.ensures.goes_on.is_step known).shown (c.in_ok-note_done.ensures.noted known) (done (c.note_done.ensures.goes_on.known.0 known))) c.put_in_place.ensures.done

pub returns-clause-cause : goal.returns-clause-cause
returns-clause-cause g c = IfErr-weaker c.put_in_place.result _ _ (λ fault cause. cause_noted c.args.changes.now c.note_done.new.changes c.args.output.now fault (g.D.WritableDisk.story c.args.disk.now) (g.D.WritableDisk.story c.note_done.new.disk) (g.D.WritableDisk.story c.put_in_place.new.disk) c.note_done.ensures.same c.note_done.ensures.goes_on c.in_ok-note_done.ensures.noted cause) c.put_in_place.ensures.cause

pub returns-in_err-note_done-clause-always_kept : goal.returns-in_err-note_done-clause-always_kept
returns-in_err-note_done-clause-always_kept g c = every_moment (SameWhereSeen (paths_of c.note_done.new.changes) (g.D.WritableDisk.story c.args.disk.now).seen) (g.D.WritableDisk.story c.args.disk.now) (g.D.WritableDisk.story c.note_done.new.disk) (g.met.D.WritableDisk.only_now c.args.disk.now) (λ d path file not_in there. refl) (loosened _ _ _ _ c.note_done.ensures.goes_on (λ _ d e same path file not_in there. same path tt))

pub returns-clause-kept : goal.returns-clause-kept
returns-clause-kept g c = kept_now c.note_done.new.changes c.args.output.now (g.D.WritableDisk.story c.args.disk.now) (g.D.WritableDisk.story c.put_in_place.new.disk) (begins_noted c.note_done.new.changes c.args.output.now (g.D.WritableDisk.story c.args.disk.now) (g.D.WritableDisk.story c.note_done.new.disk) (g.D.WritableDisk.story c.put_in_place.new.disk) (g.met.D.WritableDisk.seen_now c.note_done.new.disk) c.note_done.ensures.goes_on c.put_in_place.ensures.goes_on)

pub returns-clause-always_kept : goal.returns-clause-always_kept
returns-clause-always_kept g c = every_moment (SameWhereSeen (paths_of c.note_done.new.changes) (g.D.WritableDisk.story c.args.disk.now).seen) (g.D.WritableDisk.story c.args.disk.now) (g.D.WritableDisk.story c.put_in_place.new.disk) (g.met.D.WritableDisk.only_now c.args.disk.now) (λ d path file not_in there. refl) (kept_on c.note_done.new.changes c.args.output.now (g.D.WritableDisk.story c.args.disk.now) (g.D.WritableDisk.story c.put_in_place.new.disk) (begins_noted c.note_done.new.changes c.args.output.now (g.D.WritableDisk.story c.args.disk.now) (g.D.WritableDisk.story c.note_done.new.disk) (g.D.WritableDisk.story c.put_in_place.new.disk) (g.met.D.WritableDisk.seen_now c.note_done.new.disk) c.note_done.ensures.goes_on c.put_in_place.ensures.goes_on))

pub returns-clause-placed : goal.returns-clause-placed
returns-clause-placed g c = λ number is known.
    let then = c.note_done.ensures.goes_on.known.0 known in
    let later = c.put_in_place.ensures.goes_on.known.0 then in
    all_new c.args.changes.now c.note_done.new.changes (g.D.WritableDisk.story c.args.disk.now).seen (g.D.WritableDisk.story c.note_done.new.disk).seen (g.D.WritableDisk.story c.put_in_place.new.disk) c.note_done.ensures.same (c.note_done.ensures.goes_on.is_step known).shown (c.in_ok-note_done.ensures.noted known) later (c.put_in_place.ensures.placed number is then)
