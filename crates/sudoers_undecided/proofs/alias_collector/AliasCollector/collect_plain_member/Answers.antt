use Rattle.std.proofs.Common.{◌∙◌, sym, ap, is_some, refl}
use Rattle.sudoers_line_rows.specs.View.{member_of_view}
use Rattle.sudoers_undecided.proofs.Asking.{finds_one, pushed_atom}
use Rattle.sudoers_undecided.proofs.Origins.{collector_with_found, found_member_is_wanted}
use Rattle.sudoers_undecided.proofs.alias_collector.AliasCollector.collect_plain_member.Goals as goal

pub returns-clause-more : goal.returns-clause-more
returns-clause-more c = finds_one c.args.self.now _ _ (sym c.find_reason_of_member.ensures ∙ ap is_some c.in-Some.is) refl refl refl refl c.in_ok-push.ensures.items

pub returns-clause-found : goal.returns-clause-found
returns-clause-found c _ _ = pushed_atom c.args.self.now.found.items c.push.new.self.items _ c.in_ok-push.ensures.items

pub returns-clause-only : goal.returns-clause-only
returns-clause-only c lines is lists wanted h =
    let m = member_of_view c.args.member.now in
    collector_with_found lines lists c.args.self.now _ refl refl h _ refl c.in_ok-push.ensures.items
    (found_member_is_wanted lines c.args.self.now.aliases.now lists c.args.wanted c.args.self.now.part m is wanted (sym c.find_reason_of_member.ensures ∙ ap is_some c.in-Some.is) (sym c.includes_sign-is_wanted.ensures ∙ c.if-not-is_wanted.false) _ refl refl)
