-- How a line ends on which two policies differ.
use Rattle.std.specs.Prelude.{ℕ, List, ◌++◌, codes, Option, Some, None}
use Rattle.sudoers_tree.specs.Load.{LoadedPolicy}
use Rattle.sudoers_list.specs.Reason.{place_text_on_walk_line}
use Rattle.sudoers_review.specs.declared.change_lines.PlaceOnWalk.{PlaceOnWalk}

-- where its rule stands, if it has a place, and a line feed
abbrev pub line_end : LoadedPolicy → Option PlaceOnWalk → List ℕ
line_end policy None = codes "\n"
line_end policy (Some place) = codes "  " ++ place_text_on_walk_line policy place.line place.start ++ codes "\n"
