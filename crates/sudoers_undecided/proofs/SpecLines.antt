-- User specifications as the code has them, and those of the lines.
use Rattle.std.proofs.Common.{◌≡◌, ◌∙◌, List, map, ap}
use Rattle.sudoers_match.specs.declared.specs_for_users.SpecOnLine.{SpecOnLine}
use Rattle.sudoers_match.specs.ForRequest.{numbered_spec_of_view}
use Rattle.sudoers_match.specs.Found.{specs_with_line_numbers}
use Rattle.sudoers_match.specs.Specs.{UserSpec, user_specs_of_lines}
use Rattle.sudoers_match.proofs.ForUsers.{map_of_map, numbered_specs_are_specs, second}
use Rattle.sudoers_tree.specs.Line.{Line}

abbrev pub spec_of : SpecOnLine → UserSpec
spec_of s = (numbered_spec_of_view s).1

pub are_specs : (lines : List Line) (items held : List SpecOnLine) → items ≡ held → map numbered_spec_of_view held ≡ specs_with_line_numbers 0 lines → map spec_of items ≡ user_specs_of_lines lines
are_specs lines items held same all =
    map_of_map numbered_spec_of_view second items ∙ ap (λ xs. map second (map numbered_spec_of_view xs)) same ∙ ap (map second) all ∙ numbered_specs_are_specs 0 lines
