-- A text in the dialect of sudo.
use Rattle.std.specs.Prelude.{ℕ, List, map, Result, Ok, Err}
use Rattle.sudoers_text.specs.declared.fault.TextFault.{TextFault}
use Rattle.sudoers_text.specs.Line.{join}
use Rattle.sudoers_text.specs.Cut.{cut_outcome_of_text}
use Rattle.sudoers_text.specs.Adapted.{adapted_line}

-- each line adapted; a text that cannot be cut stays
abbrev pub join_of_adapted_lines : List ℕ → Result (List (List ℕ)) TextFault → List ℕ
join_of_adapted_lines text (Ok lines) = join (map adapted_line lines)
join_of_adapted_lines text (Err fault) = text

-- What the text says in the dialect of sudo is what this text says.
unfoldable pub adapted_text : List ℕ → List ℕ
adapted_text text = join_of_adapted_lines text (cut_outcome_of_text text)
