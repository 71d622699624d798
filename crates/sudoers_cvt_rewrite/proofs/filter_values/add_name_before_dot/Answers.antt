use Rattle.std.proofs.Common.{List, ap, ℕ, ◌||◌, ◌∙◌, ◌≡◌}
use Rattle.std.specs.List.{list_any}
use Rattle.std.specs.Str.{str_to_ascii_lowercase}
use Rattle.sudoers_cvt_rewrite.specs.Filter.{host_name_before_dot}
use Rattle.sudoers_cvt_rewrite.proofs.FilterNames.{added_name_is_among_names}
use Rattle.sudoers_cvt_rewrite.proofs.filter_values.add_name_before_dot.Goals as goal

pub returns : goal.returns
returns c test =
    let word : List ℕ = c.as_slice.result.now in
    let is : word ≡ str_to_ascii_lowercase (host_name_before_dot c.args.value.now) = c.as_slice.ensures.value ∙ c.in_ok-folded.ensures.ok ∙ ap str_to_ascii_lowercase c.cut_host_at_first_dot.ensures in
    added_name_is_among_names c.args.short.now c.add.new.self word c.in_ok-add.ensures.added test ∙ ap (λ w. list_any test c.args.short.now || test w) is
