use Rattle.sudoers_cvt_rewrite.proofs.Common.{Some, ap, arith, last_hit_in_expanded_list, length, map, member_in_tables, refl, sym, ◌∙◌}
use Rattle.std.proofs.lemmas.List.{length-set}
use Rattle.std.proofs.lemmas.Option.{slice_get-get_or, slice_get_read}
use Rattle.sudoers_cvt_rewrite.specs.Filter.{is_allowing_hit}
use Rattle.sudoers_cvt_rewrite.proofs.Matchers.{added_verdict_cache_keeps_caches_valid, replaced_verdict_cache_keeps_caches_valid, failing_item_is_dropped_from_any_test}
use Rattle.sudoers_cvt_rewrite.proofs.values_matcher.has_allowed_value.Goals as goal

pub find_filter_hit-requires-clause-verdicts : goal.find_filter_hit-requires-clause-verdicts
find_filter_hit-requires-clause-verdicts g c =
    let values = c.args.values.now in
    let n = c.loop-n.n in
    let more = c.add_verdict_cache_if_missing.new.verdicts.items in
    added_verdict_cache_keeps_caches_valid c.args.kind c.args.policy.now g.K.MemberKind.test values n c.loop-n.verdicts.items more c.in_ok-add_verdict_cache_if_missing.ensures c.loop-n.invariant.kept
    n c.index-values-n.result c.index_mut.result.now (slice_get_read values (length values) n c.index-values-n.result refl c.loop-n-test.true c.index-values-n.is)
    (slice_get-get_or more n _ c.in_ok-add_verdict_cache_if_missing.ensures.within ∙ ap Some (sym c.index_mut.ensures.value))

pub returns-then-is_allowing-clause-kept : goal.returns-then-is_allowing-clause-kept
returns-then-is_allowing-clause-kept g c =
    let n = c.loop-n.n in
    let more = c.add_verdict_cache_if_missing.new.verdicts.items in
    replaced_verdict_cache_keeps_caches_valid c.args.kind c.args.policy.now g.K.MemberKind.test c.args.values.now more n c.index-values-n.result c.find_filter_hit.new.verdicts c.index-values-n.is c.in_ok-hit.ensures.kept
    (added_verdict_cache_keeps_caches_valid c.args.kind c.args.policy.now g.K.MemberKind.test c.args.values.now n c.loop-n.verdicts.items more c.in_ok-add_verdict_cache_if_missing.ensures c.loop-n.invariant.kept)

pub loop-n-preserved : goal.loop-n-preserved
loop-n-preserved g c =
    let lines = c.args.policy.now in
    let test = g.K.MemberKind.test in
    let n = c.loop-n.n in
    let more = c.add_verdict_cache_if_missing.new.verdicts.items in
    let ms = map (member_in_tables c.args.members.now.tables.now) c.args.members.now.rows.now in
    let same = length-set more n c.find_filter_hit.new.verdicts in
    let within = c.in_ok-add_verdict_cache_if_missing.ensures.within in
    record {
      kept = replaced_verdict_cache_keeps_caches_valid c.args.kind lines test c.args.values.now more n c.index-values-n.result c.find_filter_hit.new.verdicts c.index-values-n.is c.in_ok-hit.ensures.kept
          (added_verdict_cache_keeps_caches_valid c.args.kind lines test c.args.values.now n c.loop-n.verdicts.items more c.in_ok-add_verdict_cache_if_missing.ensures c.loop-n.invariant.kept);
      reached = omega (arith, same, within);
      left = failing_item_is_dropped_from_any_test (λ value. is_allowing_hit (last_hit_in_expanded_list lines c.args.kind (test value) ms)) c.args.values.now n c.index-values-n.result
          c.loop-n-test.true c.index-values-n.is (ap is_allowing_hit c.in_ok-hit.ensures.hit ∙ sym c.is_allowing.ensures ∙ c.if-is_allowing.false) c.loop-n.invariant.left;
    }
