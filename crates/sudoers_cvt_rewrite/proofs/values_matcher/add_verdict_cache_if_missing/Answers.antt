use Rattle.sudoers_cvt_rewrite.proofs.Common.{Some, ap, arith, length, length_push, slice_get, subst, ◌∙◌, ◌≡◌}
use Rattle.sudoers_cvt_rewrite.proofs.Matchers.{pushed_verdict_cache_is_at_end}
use Rattle.sudoers_cvt_rewrite.proofs.values_matcher.add_verdict_cache_if_missing.Goals as goal

pub returns : goal.returns
returns c =
    let old = c.args.verdicts.now.items in
    let fresh = c.in_ok-make_verdict_cache.field-0 in
    let items = c.in_ok-push.ensures.items in
    let more = ap length items ∙ length_push old fresh in
    let low = c.requires in
    record {
      within = omega (arith, more, low);
      each = λ i verdicts e. pushed_verdict_cache_is_at_end c.args.policy.now old fresh c.in_ok-make_verdict_cache.ensures i verdicts (subst (λ vs. slice_get vs i ≡ Some verdicts) items e);
    }
