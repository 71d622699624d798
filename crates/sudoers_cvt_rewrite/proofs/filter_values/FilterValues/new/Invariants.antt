use Rattle.std.proofs.Common.{Bool, List, map, take, ℕ, ◌≡◌}
use Rattle.std.specs.List.{list_any}
use Rattle.sudoers_cvt_rewrite.specs.Filter.{host_name_before_dot}
use Rattle.std.specs.Str.{str_to_ascii_lowercase}
use Rattle.sudoers_cvt_rewrite.specs.internal.SameNames.{AreSameNamesIgnoringCase}
use Rattle.sudoers_cvt_rewrite.proofs.filter_values.FilterValues.new.Given as goal

abbrev pub invariant-loop-value : goal.invariant-loop-value
invariant-loop-value l = record {
  lower : l.lower ≡ map str_to_ascii_lowercase l.names.items;
  short : (test : List ℕ → Bool) → list_any test l.short ≡ list_any (λ name. test (str_to_ascii_lowercase (host_name_before_dot name))) l.names.items;
  same : AreSameNamesIgnoringCase l.names.items (take l.value-index l.values);
}
