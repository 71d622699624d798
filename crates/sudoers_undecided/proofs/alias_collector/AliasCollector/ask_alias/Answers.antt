use Rattle.std.proofs.Common.{◌∙◌, length, sym, ap, refl}
use Rattle.std.proofs.Math.ListN.{set}
use Rattle.std.proofs.lemmas.Option.{slice_get_read}
use Rattle.sudoers_undecided.specs.internal.Collected.{pending_alias}
use Rattle.sudoers_undecided.proofs.Asking.{asked_now, asks_one}
use Rattle.sudoers_undecided.proofs.Origins.{collector_with_pending}
use Rattle.sudoers_undecided.proofs.alias_collector.AliasCollector.ask_alias.Goals as goal

pub returns-clause-more : goal.returns-clause-more
returns-clause-more c =
    let marks = c.args.self.now.marks.items in
    asks_one c.args.self.now _ c.args.number c.args.wanted c.index.result.now (slice_get_read marks (length marks) c.args.number c.index.result.now refl c.requires c.index.ensures)
    (sym c.include.ensures ∙ c.if-include.false) refl refl refl (ap (set marks c.args.number) c.add.ensures) c.in_ok-push.ensures.items

pub returns-clause-asked : goal.returns-clause-asked
returns-clause-asked c =
    let marks = c.args.self.now.marks.items in
    asked_now marks c.args.number c.args.wanted c.index.result.now (slice_get_read marks (length marks) c.args.number c.index.result.now refl c.requires c.index.ensures) _ (ap (set marks c.args.number) c.add.ensures)

pub returns-clause-only : goal.returns-clause-only
returns-clause-only c lines lists wanted h = collector_with_pending lines lists c.args.self.now _ refl refl h (pending_alias c.args.number c.args.wanted) c.in_ok-push.ensures.items refl wanted
