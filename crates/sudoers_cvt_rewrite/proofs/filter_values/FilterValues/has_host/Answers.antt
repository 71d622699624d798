use Rattle.std.proofs.Common.{ap, bytes_eq, false, if◌then◌else◌, sym, true, ◌∙◌, ◌≡◌}
use Rattle.std.specs.List.{list_any}
use Rattle.std.specs.Str.{str_to_ascii_lowercase}
use Rattle.sudoers_match_member.specs.Hits.{has_dot, is_name_equal_ignoring_case}
use Rattle.sudoers_cvt_rewrite.specs.Filter.{host_name_before_dot, is_host_pattern_match}
use Rattle.sudoers_cvt_rewrite.proofs.AnyHits.{tests_alike_on_elements_pass_alike}
use Rattle.sudoers_cvt_rewrite.proofs.PlainHosts.{plain_host_pattern_matches_same_name}
use Rattle.sudoers_cvt_rewrite.proofs.filter_values.FilterValues.has_host.Goals as goal

pub returns-then-contains : goal.returns-then-contains
returns-then-contains c =
    let pattern = c.args.pattern.now in
    let dot : has_dot pattern ≡ true = sym c.contains.ensures.value ∙ c.if-contains.true in
    c.has_name.ensures ∙ tests_alike_on_elements_pass_alike (is_name_equal_ignoring_case pattern) (λ name. is_host_pattern_match name pattern) c.args.self.now.names.items (λ name has.
    sym (plain_host_pattern_matches_same_name name pattern c.requires ∙ ap (λ d. bytes_eq (str_to_ascii_lowercase pattern) (str_to_ascii_lowercase (if d then name else host_name_before_dot name))) dot))

pub returns-in-Some : goal.returns-in-Some
returns-in-Some c =
    let pattern = c.args.pattern.now in
    let dot : has_dot pattern ≡ false = sym c.contains.ensures.value ∙ c.if-contains.false in
    c.has.ensures
    ∙ ap (λ word. list_any (bytes_eq word) c.args.self.now.short) (c.as_slice.ensures.value ∙ c.in-Some.ensures)
    ∙ c.args.self.now.short_are (bytes_eq (str_to_ascii_lowercase pattern))
    ∙ tests_alike_on_elements_pass_alike (λ name. bytes_eq (str_to_ascii_lowercase pattern) (str_to_ascii_lowercase (host_name_before_dot name))) (λ name. is_host_pattern_match name pattern) c.args.self.now.names.items (λ name has.
    sym (plain_host_pattern_matches_same_name name pattern c.requires ∙ ap (λ d. bytes_eq (str_to_ascii_lowercase pattern) (str_to_ascii_lowercase (if d then name else host_name_before_dot name))) dot))
