use Rattle.sudoers_match.proofs.Common.{Cmnd, Some, ap, map, slice_get, subst, sym, ◌∙◌, ◌≡◌}
use Rattle.std.proofs.lemmas.Option.{slice_get-get_or}
use Rattle.sudoers_match.specs.declared.request_verdicts.RequestContext.{RequestContext}
use Rattle.sudoers_match.specs.declared.specs_for_users.SpecOnLine.{SpecOnLine}
use Rattle.sudoers_match.specs.ForRequest.{numbered_spec_of_view}
use Rattle.sudoers_match.specs.internal.Misses.{IsValidMissSearch}
use Rattle.sudoers_match.specs.Spellings.{is_spelled_command_match, is_spelled_path_match}
use Rattle.sudoers_match.proofs.ForUsers.{groups_of_numbered_spec_straight, is_numbered, users_of_numbered_spec_straight}
use Rattle.sudoers_match.proofs.near_misses.list_near_misses.Goals as goal
use Rattle.sudoers_match.proofs.near_misses.list_near_misses.Goals.{then-branch+in_ok-append_misses_of_groups, else-branch}

pub loop-spec-init : goal.loop-spec-init
loop-spec-init c = record {
  question = c.in_ok-new.ensures (is_spelled_command_match c.args.command.now);
  paths = c.in_ok-make_verdict_cache.ensures Cmnd (is_spelled_path_match c.args.command.now);
}

pub allows_user-requires-clause-straight : goal.allows_user-requires-clause-straight
allows_user-requires-clause-straight c =
    let all = c.as_slice-spec-items.result.now in
    let item : SpecOnLine = c.spec-item.result in
    let i = c.loop-spec.spec-index in
    let at : slice_get all i ≡ Some item = slice_get-get_or all i item c.loop-spec-test.true ∙ ap Some (sym c.spec-item.is) in
    users_of_numbered_spec_straight c.args.policy.now c.is_acyclic.ensures.straight (numbered_spec_of_view item)
    (is_numbered c.args.policy.now all (ap (map numbered_spec_of_view) c.as_slice-spec-items.ensures.value ∙ c.in_ok-specs.ensures.all) i item at)

pub append_misses_of_groups-requires-clause-straight : goal.append_misses_of_groups-requires-clause-straight
append_misses_of_groups-requires-clause-straight c =
    let all = c.as_slice-spec-items.result.now in
    let item : SpecOnLine = c.spec-item.result in
    let i = c.loop-spec.spec-index in
    let at : slice_get all i ≡ Some item = slice_get-get_or all i item c.loop-spec-test.true ∙ ap Some (sym c.spec-item.is) in
    groups_of_numbered_spec_straight c.args.policy.now c.is_acyclic.ensures.straight (numbered_spec_of_view item)
    (is_numbered c.args.policy.now all (ap (map numbered_spec_of_view) c.as_slice-spec-items.ensures.value ∙ c.in_ok-specs.ensures.all) i item at)

pub loop-spec-preserved : goal.loop-spec-preserved
loop-spec-preserved c =
    let asked : RequestContext = record { policy = c.args.policy; request = c.args.request; command = c.args.command } in
    elim c.if-branch.branch [
      | then-branch+in_ok-append_misses_of_groups w ↦ subst (IsValidMissSearch asked) (sym w.search-is) w.in_ok-append_misses_of_groups.ensures
      | else-branch w ↦ subst (IsValidMissSearch asked) (sym w.search-is) (record { question = c.in_ok-allows_user.ensures.kept; paths = c.loop-spec.invariant.paths })
    ]
