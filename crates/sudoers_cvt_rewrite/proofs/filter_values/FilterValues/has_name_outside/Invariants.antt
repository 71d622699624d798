use Rattle.std.proofs.Common.{drop, not, ◌≡◌}
use Rattle.std.specs.List.{list_any}
use Rattle.sudoers_cvt_rewrite.specs.internal.SameNames.{is_name_denied}
use Rattle.sudoers_cvt_rewrite.proofs.filter_values.FilterValues.has_name_outside.Given as goal

abbrev pub invariant-loop-value : goal.invariant-loop-value
invariant-loop-value l =
    list_any (λ name. not (is_name_denied l.denied name)) (drop l.value-index l.self.names.items)
    ≡ list_any (λ name. not (is_name_denied l.denied name)) l.self.names.items
