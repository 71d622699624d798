use Rattle.std.proofs.Common.{ap₂, bytes_eq, ◌∙◌}
use Rattle.std.specs.List.{list_any}
use Rattle.std.specs.Str.{str_to_ascii_lowercase}
use Rattle.sudoers_cvt_rewrite.proofs.FilterNames.{any_of_mapped_is_any_by_test_after_map}
use Rattle.sudoers_cvt_rewrite.proofs.filter_values.FilterValues.has_name.Goals as goal

pub returns-in-Some : goal.returns-in-Some
returns-in-Some c =
    c.has.ensures
    ∙ ap₂ (λ word names. list_any (bytes_eq word) names) (c.as_slice.ensures.value ∙ c.in-Some.ensures) c.args.self.now.same
    ∙ any_of_mapped_is_any_by_test_after_map (bytes_eq (str_to_ascii_lowercase c.args.name.now)) str_to_ascii_lowercase c.args.self.now.names.items
