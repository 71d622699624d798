use Rattle.sudoers_cvt_rewrite.proofs.Common.{Some, slice_get, subst, ◌≡◌}
use Rattle.std.proofs.lemmas.Option.{none-some}
use Rattle.sudoers_cvt_rewrite.specs.internal.Values.{is_atom_matching_any_value}
use Rattle.sudoers_cvt_rewrite.proofs.values_matcher.ValuesMatcher.new.Goals as goal

pub returns : goal.returns
returns c kind = record {
  key_is = c.in_ok-new.ensures.key;
  same = c.in_ok-new.ensures.same;
  caches = record {
    any = c.in_ok-make_verdict_cache.ensures kind (is_atom_matching_any_value c.in_ok-new.field-0);
    each = λ n value verdicts at_x at_v. absurd (none-some verdicts (subst (λ all. slice_get all n ≡ Some verdicts) c.new-2.ensures.items at_v));
  };
}
