use Rattle.std.proofs.Common.{subst}
use Rattle.sudoers_match_member.specs.internal.Known.{IsKnownBehindStar}
use Rattle.sudoers_match_member.proofs.Left.{progress_to_star_is_overall_progress}
use Rattle.sudoers_match_member.proofs.wildcards.matches_whole_pattern.Goals as goal

pub match_up_to_star-run-requires : goal.match_up_to_star-run-requires
match_up_to_star-run-requires c = record { known = c.make_for_pattern-known.ensures c.args.mode c.args.lower }

pub loop-run-init : goal.loop-run-init
loop-run-init c = record {
  so_far = progress_to_star_is_overall_progress c.args.mode c.args.lower c.args.pattern.now c.args.text.now c.match_up_to_star-run.result c.match_up_to_star-run.ensures.outcome;
  behind = c.match_up_to_star-run.ensures.behind;
}

pub count_items_if_no_star-requires : goal.count_items_if_no_star-requires
count_items_if_no_star-requires c =
    let known = subst (IsKnownBehindStar c.args.lower c.loop-run.known) c.in-Star.is c.loop-run.invariant.behind in
    record { known = c.forget_read_set.ensures c.args.mode c.args.lower c.in-Star.pattern.now known.0 known.1 }
