-- A text of which each line is read is its own adapted text.
use Rattle.std.proofs.Common.{◌≡◌, ℕ, List, [], ◌∷◌, map, Ok, refl, ap, ◌∙◌}
use Rattle.std.specs.List.{AllByRecursion}
use Rattle.sudoers_text.specs.Line.{join}
use Rattle.sudoers_text.specs.Cut.{cut_outcome_of_text}
use Rattle.sudoers_text.specs.Adapted.{adapted_line}
use Rattle.sudoers_dialect.specs.Text.{join_of_adapted_lines, adapted_text}
use Rattle.laws_dialect.specs.ReadLines.{IsReadLine}
use Rattle.laws_dialect.proofs.AdaptedLines.{ComputesRespelledLine, HasOneRespelledLine, read_line_is_its_adapted_line}

read_lines_are_their_adapted_lines : ComputesRespelledLine → HasOneRespelledLine → (lines : List (List ℕ)) → AllByRecursion IsReadLine lines → map adapted_line lines ≡ lines
read_lines_are_their_adapted_lines computed one [] all = refl
read_lines_are_their_adapted_lines computed one (line ∷ lines) all =
    ap (λ (l : List ℕ). l ∷ map adapted_line lines) (read_line_is_its_adapted_line computed one line all.0.0 all.0.1)
    ∙ ap (λ (ls : List (List ℕ)). line ∷ ls) (read_lines_are_their_adapted_lines computed one lines all.1)

pub read_text_is_its_adapted_text : ComputesRespelledLine → HasOneRespelledLine → ((text : List ℕ) (lines : List (List ℕ)) → cut_outcome_of_text text ≡ Ok lines → join lines ≡ text)
    → (text : List ℕ) (lines : List (List ℕ)) → cut_outcome_of_text text ≡ Ok lines → AllByRecursion IsReadLine lines → adapted_text text ≡ text
unfolding adapted_text
read_text_is_its_adapted_text computed one joined text lines cut all =
    ap (join_of_adapted_lines text) cut ∙ ap join (read_lines_are_their_adapted_lines computed one lines all) ∙ joined text lines cut
