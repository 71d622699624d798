-- Lines of the walk and the spots at which they stand.
use Rattle.sudoers_tree.proofs.Common.{AreLinesAtSpots, IsLineAtBoundedSpot, IsLineAtSpot, Line, List, LoadedPolicy, ParsedFile, Some, WalkLineSpot, [], ap, arith, join, length, lines_of_numbered_file}
use Rattle.sudoers_tree.proofs.Common.{physical_line_of_file_line, refl, slice_get, subst, suc, text_limit, texts_of_lines, zero, ℕ, ◌∷◌, ◌≡◌, ◌≤◌}
use Rattle.sudoers_tree.proofs.LineRows.{physical_line_plus_line_length_is_bounded}

pub lines_at_spots_have_count_of_spots : (files : List ParsedFile) (spots : List WalkLineSpot) (lines : List Line) → AreLinesAtSpots files spots lines → length spots ≡ length lines
lines_at_spots_have_count_of_spots files [] [] all = refl
lines_at_spots_have_count_of_spots files (at ∷ spots) (line ∷ lines) all = ap (λ n. suc n) (lines_at_spots_have_count_of_spots files spots lines all.1)
lines_at_spots_have_count_of_spots files [] (line ∷ lines) all = absurd all
lines_at_spots_have_count_of_spots files (at ∷ spots) [] all = absurd all

numbered_line_has_its_spot : (files : List ParsedFile) (spots : List WalkLineSpot) (lines : List Line) → AreLinesAtSpots files spots lines → (number : ℕ) (line : Line)
    → slice_get lines number ≡ Some line → (at : WalkLineSpot) × (slice_get spots number ≡ Some at) × IsLineAtSpot files at line
numbered_line_has_its_spot files [] [] all number line is = absurd cc
numbered_line_has_its_spot files (at ∷ spots) (l ∷ lines) all zero line is =
    let same : l ≡ line = cc in (at, refl, subst (IsLineAtSpot files at) same all.0)
numbered_line_has_its_spot files (at ∷ spots) (l ∷ lines) all (suc number) line is = numbered_line_has_its_spot files spots lines all.1 number line is
numbered_line_has_its_spot files [] (l ∷ lines) all number line is = absurd all
numbered_line_has_its_spot files (at ∷ spots) [] all number line is = absurd all

pub walk_line_has_bounded_spot : (policy : LoadedPolicy) → ((file : ℕ) → length (join (texts_of_lines (lines_of_numbered_file policy.files file))) ≤ text_limit)
    → AreLinesAtSpots policy.files policy.walk.spots policy.walk.lines → (number : ℕ) (line : Line) → slice_get policy.walk.lines number ≡ Some line
    → IsLineAtBoundedSpot policy number line
walk_line_has_bounded_spot policy fit all number line is =
    let here = numbered_line_has_its_spot policy.files policy.walk.spots policy.walk.lines all number line is in
    let stands : IsLineAtSpot policy.files here.0 line = here.2 in
    let row : here.0.row ≡ physical_line_of_file_line (lines_of_numbered_file policy.files here.0.file) here.0.line = ap (λ (at : WalkLineSpot). at.row) stands.is_spot in
    record {
      at = here.0;
      is = here.1;
      stands = stands;
      fits = omega (arith, row, physical_line_plus_line_length_is_bounded (lines_of_numbered_file policy.files here.0.file) here.0.line line stands.is_line (fit here.0.file));
    }
