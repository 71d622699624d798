use Rattle.std.proofs.Common.{◌≡◌, ◌∙◌, ◌-◌, ◌<◌, ◌≤◌, true, false, [], ◌∷◌, length, sym, subst, arith}
use Rattle.std.proofs.lemmas.List.{drop_all, length-map}
use Rattle.sudoers_line_rows.specs.Tables.{member_in_tables}
use Rattle.sudoers_line_rows.specs.View.{member_of_view, members_of_view}
use Rattle.sudoers_match_list.proofs.Places.{mapped_row_is_at_its_index}
use Rattle.sudoers_undecided.specs.internal.Collected.{AreMembersHandled, MatchesNothing}
use Rattle.sudoers_undecided.specs.internal.Wanted.{is_all_wanted}
use Rattle.sudoers_undecided.proofs.Asking.{asks_nothing, asks_on, members_stay_handled, one_more_handled}
use Rattle.sudoers_undecided.proofs.Collecting.{matching_member_ends_list}
use Rattle.sudoers_undecided.proofs.Origins.{nothing_matches_at_end, nothing_matches_from, one_more_collected}
use Rattle.sudoers_undecided.proofs.alias_collector.AliasCollector.collect_members.Goals as goal
use Rattle.sudoers_undecided.proofs.alias_collector.AliasCollector.collect_members.Goals.{else-matches-via-then-matches+else-not-is_all, else-matches-via-else-matches}

pub returns-then-not-is_all-clause-handled : goal.returns-then-not-is_all-clause-handled
returns-then-not-is_all-clause-handled c =
    let lines = c.args.numbers.now.walk in
    let ms = c.args.members.now in
    let left = c.loop-left.left in
    let m = member_of_view c.member_of_row-member.result in
    let within : left - 1 < length ms.rows.now = omega (arith, c.loop-left.invariant.within, c.loop-left-test.true) in
    let at = mapped_row_is_at_its_index (member_in_tables ms.tables.now) ms.rows.now (left - 1) _ within m c.member_of_row-member.ensures in
    let new = c.collect_member.new.self in
    let some : is_all_wanted c.args.wanted ≡ false = sym c.is_all.ensures ∙ c.if-not-is_all.true in
    matching_member_ends_list lines new c.args.wanted some (members_of_view ms) (left - 1) m at (c.in_ok-matches.ensures.hit c.if-matches.true)
    (one_more_handled lines new c.args.wanted (members_of_view ms) left m c.loop-left-test.true at c.in_ok-matches.ensures.handled
    (members_stay_handled lines c.loop-left.self new c.in_ok-matches.ensures.more.keeps c.args.wanted _ c.loop-left.invariant.handled))

pub returns-then-not-is_all-clause-only : goal.returns-then-not-is_all-clause-only
returns-then-not-is_all-clause-only c =
    let ms = c.args.members.now in
    let left = c.loop-left.left in
    let m = member_of_view c.member_of_row-member.result in
    let within : left - 1 < length ms.rows.now = omega (arith, c.loop-left.invariant.within, c.loop-left-test.true) in
    let at = mapped_row_is_at_its_index (member_in_tables ms.tables.now) ms.rows.now (left - 1) _ within m c.member_of_row-member.ensures in
    one_more_collected c.args.numbers.now.walk c.args.self.now c.loop-left.self c.collect_member.new.self c.loop-left.invariant.more.keeps.aliases c.args.wanted (members_of_view ms) left m c.loop-left-test.true at
    c.loop-left.invariant.behind c.loop-left.invariant.only c.in_ok-matches.ensures.only

pub loop-left-init : goal.loop-left-init
loop-left-init c =
    let lines = c.args.numbers.now.walk in
    let ms = c.args.members.now in
    let end : length (members_of_view ms) ≤ length ms.rows.now = omega (arith, length-map ms.rows.now (member_in_tables ms.tables.now)) in
    record {
      within = omega arith;
      more = asks_nothing c.args.self.now;
      handled = subst (AreMembersHandled lines c.args.self.now c.args.wanted) (sym (drop_all (length ms.rows.now) (members_of_view ms) end)) tt;
      behind = nothing_matches_at_end lines c.args.self.now.aliases.now c.args.wanted (members_of_view ms) (length ms.rows.now) end;
      only = λ lists wanted h. h;
    }

pub loop-left-preserved : goal.loop-left-preserved
loop-left-preserved c =
    let lines = c.args.numbers.now.walk in
    let ms = c.args.members.now in
    let left = c.loop-left.left in
    let m = member_of_view c.member_of_row-member.result in
    let within : left - 1 < length ms.rows.now = omega (arith, c.loop-left.invariant.within, c.loop-left-test.true) in
    let at = mapped_row_is_at_its_index (member_in_tables ms.tables.now) ms.rows.now (left - 1) _ within m c.member_of_row-member.ensures in
    let new = c.collect_member.new.self in
    let d = c.args.self.now.aliases.now in
    let aliases = c.loop-left.invariant.more.keeps.aliases in
    let here : is_all_wanted c.args.wanted ≡ false → MatchesNothing lines d (m ∷ []) = λ some. elim c.else-matches.branch as (λ _. MatchesNothing lines d (m ∷ [])) [
      | else-matches-via-then-matches+else-not-is_all w ↦ let clash : true ≡ false = sym w.if-not-is_all.false ∙ w.is_all.ensures ∙ some in absurd cc
      | else-matches-via-else-matches w ↦ subst (λ x. MatchesNothing lines x (m ∷ [])) aliases (c.in_ok-matches.ensures.missed w.if-matches.false)
    ] in
    record {
      within = omega (arith, within);
      more = asks_on c.args.self.now c.loop-left.self new c.loop-left.invariant.more c.in_ok-matches.ensures.more;
      handled = one_more_handled lines new c.args.wanted (members_of_view ms) left m c.loop-left-test.true at c.in_ok-matches.ensures.handled
          (members_stay_handled lines c.loop-left.self new c.in_ok-matches.ensures.more.keeps c.args.wanted _ c.loop-left.invariant.handled);
      behind = nothing_matches_from lines d c.args.wanted (members_of_view ms) left m c.loop-left-test.true at here c.loop-left.invariant.behind;
      only = one_more_collected lines c.args.self.now c.loop-left.self new aliases c.args.wanted (members_of_view ms) left m c.loop-left-test.true at c.loop-left.invariant.behind c.loop-left.invariant.only c.in_ok-matches.ensures.only;
    }
