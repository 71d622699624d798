use Rattle.std.proofs.Common.{◌≡◌, ◌≤◌, take, length}
use Rattle.sudoers_text.specs.internal.Run.{is_id_position_after_run}
use Rattle.sudoers_text.proofs.plain_runs.may_id_begin_after_run.Given as goal

-- What has been passed from the end on decides nothing.
abbrev pub invariant-loop-end : goal.invariant-loop-end
invariant-loop-end l = record {
  inside : l.end ≤ length l.run;
  same : is_id_position_after_run l.item (take l.end l.run) ≡ is_id_position_after_run l.item l.run;
}

abbrev pub decreases-loop-end : goal.decreases-loop-end
decreases-loop-end l = l.end
