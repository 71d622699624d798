use Rattle.std.proofs.Common.{◌++◌, ℕ, List, codes, ap, refl, subst, sym, ◌∙◌}
use Rattle.sudoers_match_member.specs.declared.people_and_commands.Who.{Who}
use Rattle.sudoers_review_users.specs.Ready.{IsReadyReview}
use Rattle.sudoers_review_users.specs.UserChanges.{example_is_named, no_example_is_found}
use Rattle.sudoers_review_users.proofs.UserLines.{example_is_appended}
use Rattle.sudoers_review_users.proofs.examples.append_example.Goals as goal

pub loop-example-init : goal.loop-example-init
loop-example-init c = (refl, refl)

pub has_other_answer-requires : goal.has_other_answer-requires
has_other_answer-requires c = subst (λ (who : Who). IsReadyReview who c.args.review.now) (sym c.loop-example.invariant.0) c.requires

pub returns-then-branch-clause-text : goal.returns-then-branch-clause-text
returns-then-branch-clause-text c =
    let o = c.args.out.now.items in (
      _,
      example_is_appended o c.loop-example.out.items c.extend_from_slice.new.self.items c.append_request.new.out.items _ c.loop-example.invariant.1 c.in_ok-extend_from_slice.ensures.items
          c.in_ok-append_request.ensures,
      example_is_named _ c.loop-example.invariant.0 (c.in_ok-has_other_answer.ensures c.if-branch.true),
    )

pub returns-clause-text : goal.returns-clause-text
returns-clause-text c =
    let words : List ℕ = codes "no example found" in
    (words, c.in_ok-extend_from_slice-2.ensures.items ∙ ap (λ (x : List ℕ). x ++ words) c.loop-example.invariant.1, no_example_is_found)
