-- A device of the proof, which no public contract cites: where the lines of a walk stand after lines of files were changed.
use Rattle.std.specs.Prelude.{ℕ, ◌+◌, List, [], ◌∷◌, ◌++◌, length, take}
use Rattle.sudoers_tree.specs.declared.place.WalkLineSpot.{WalkLineSpot}
use Rattle.sudoers_tree.specs.Files.{ParsedFile, lines_of_numbered_file}
use Rattle.sudoers_tree.specs.Line.{Line}
use Rattle.sudoers_tree.specs.Mapped.{LineToLinesMapping, mapped_lines_from_number}
use Rattle.sudoers_tree.specs.Walk.{spot_of_file_line}

-- the spots of these lines of the file f of these files, of which the first has the number m there
abbrev pub spots_from_line_number : List ParsedFile → ℕ → ℕ → List Line → List WalkLineSpot
spots_from_line_number files f m [] = []
spots_from_line_number files f m (line ∷ lines) = spot_of_file_line files f m ∷ spots_from_line_number files f (m + 1) lines

-- the number of the first of the lines that come of the line with the number n of the file f
abbrev pub mapped_line_number : LineToLinesMapping → List ParsedFile → ℕ → ℕ → ℕ
mapped_line_number g files f n = length (mapped_lines_from_number g f 0 (take n (lines_of_numbered_file files f)))

-- the spots, in the files `others`, of the lines that come of lines that stand at these spots of `files`
abbrev pub mapped_spots : LineToLinesMapping → List ParsedFile → List ParsedFile → List WalkLineSpot → List Line → List WalkLineSpot
mapped_spots g files others [] lines = []
mapped_spots g files others (at ∷ spots) [] = []
mapped_spots g files others (at ∷ spots) (line ∷ lines) =
    spots_from_line_number others at.file (mapped_line_number g files at.file at.line) (g at.file at.line line) ++ mapped_spots g files others spots lines
