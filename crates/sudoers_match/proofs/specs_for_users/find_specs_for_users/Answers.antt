use Rattle.sudoers_match.proofs.Common.{AllByRecursion, Some, ap, arith, command_test_of_context, map, slice_get, subst, sym, take_all, ◌∙◌, ◌∷◌, [], ◌≡◌}
use Rattle.std.proofs.lemmas.Option.{slice_get-get_or}
use Rattle.sudoers_match.specs.declared.specs_for_users.SpecOnLine.{SpecOnLine}
use Rattle.sudoers_match.specs.ForRequest.{numbered_spec_of_view}
use Rattle.sudoers_match.proofs.ForUsers.{MattersForSomeUser, groups_of_numbered_spec_straight, is_numbered, mapped_one_more, specs_serve_both}
use Rattle.sudoers_match.proofs.Lasts.{all_append}
use Rattle.sudoers_match.specs.Spellings.{is_spelled_command_match}
use Rattle.sudoers_match.proofs.specs_for_users.find_specs_for_users.Goals as goal

pub loop-spec-init : goal.loop-spec-init
loop-spec-init c = record {
  question = c.in_ok-question.ensures (is_spelled_command_match c.args.command.now);
  all = ap (map numbered_spec_of_view) c.new-specs.ensures.items;
  matter = subst (AllByRecursion (MattersForSomeUser c.args.policy.now (is_spelled_command_match c.args.command.now) c.args.of_target c.args.request.now)) (sym c.new-specs.ensures.items) tt;
}

pub has_group_for_some_user-requires-clause-straight : goal.has_group_for_some_user-requires-clause-straight
has_group_for_some_user-requires-clause-straight c =
    let all = c.as_slice-spec-items.result.now in
    let item : SpecOnLine = c.spec-item.result in
    let i = c.loop-spec.spec-index in
    let at : slice_get all i ≡ Some item = slice_get-get_or all i item c.loop-spec-test.true ∙ ap Some (sym c.spec-item.is) in
    groups_of_numbered_spec_straight c.args.policy.now c.is_acyclic.ensures.straight (numbered_spec_of_view item)
    (is_numbered c.args.policy.now all (ap (map numbered_spec_of_view) c.as_slice-spec-items.ensures.value ∙ c.in_ok-all.ensures.all) i item at)

pub loop-spec-preserved : goal.loop-spec-preserved
loop-spec-preserved c =
    let all = c.as_slice-spec-items.result.now in
    let item : SpecOnLine = c.spec-item.result in
    let i = c.loop-spec.spec-index in
    let x : SpecOnLine = record { line = item.line; users = item.users; groups = item.groups; matters = c.in_ok-matters.matters } in
    let P = MattersForSomeUser c.args.policy.now (is_spelled_command_match c.args.command.now) c.args.of_target c.args.request.now in
    let so_far = c.loop-spec.invariant in
    record {
      question = c.in_ok-matters.ensures.kept;
      all = ap (map numbered_spec_of_view) c.in_ok-push.ensures.items
          ∙ mapped_one_more numbered_spec_of_view c.loop-spec.specs.items all i item x c.loop-spec-test.true (ap numbered_spec_of_view c.spec-item.is) so_far.all;
      matter = subst (AllByRecursion P) (sym c.in_ok-push.ensures.items)
          (all_append P c.loop-spec.specs.items (x ∷ []) so_far.matter ((λ idle n rows p. c.in_ok-matters.ensures.idle idle n _ rows p), tt));
    }

pub returns : goal.returns
returns c =
    let all = c.as_slice-spec-items.result.now in
    let so_far = c.loop-spec.invariant in
    specs_serve_both c.args.policy.now (is_spelled_command_match c.args.command.now) c.args.of_target c.args.request.now c.loop-spec.specs.items
    (so_far.all ∙ ap (map numbered_spec_of_view) (take_all c.loop-spec.spec-index all c.loop-spec-test.false ∙ c.as_slice-spec-items.ensures.value) ∙ c.in_ok-all.ensures.all) so_far.matter
