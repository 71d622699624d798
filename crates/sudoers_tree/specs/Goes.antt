-- The walk as a relation (sudoers(5), Including other files from within sudoers): the lines of a file, each include line followed by
-- the walk of the files to which it leads. Its outcome is all that is on the walk then, or its first fault. By the law `walk_is` the
-- function `walk_of` computes this outcome, and there is no other.
use Rattle.std.specs.Prelude.{◌≡◌, ℕ, zero, suc, ◌+◌, true, false, List, [], ◌∷◌, Some, None, Result, Ok, Err}
use Rattle.sudoers_tree.specs.Line.{Line}
use Rattle.sudoers_tree.specs.declared.fault.SyntaxFault.{SyntaxFault}
use Rattle.sudoers_tree.specs.declared.load_fault.LoadFault.{LoadFault}
use Rattle.sudoers_tree.specs.declared.fault.ReadFault.TheVariants.{TooDeep}
use Rattle.sudoers_tree.specs.declared.load_fault.LoadFault.TheVariants.{InFile}
use Rattle.sudoers_tree.specs.Fault.{syntax_fault_as_read_fault}
use Rattle.sudoers_tree.specs.Files.{ParsedFile, fault_of_numbered_file, lines_of_numbered_file, name_of_numbered_file}
use Rattle.sudoers_tree.specs.Walk.{IncludeSite, WalkState, include_depth_limit, walk_with_file_entered, is_file_on_walk, lead_of_file_line, empty_walk, files_opened_by_lead, include_site_of_line, spot_of_file_line, walk_with_line_appended, repeated_include_fault}

mutual
  -- The outcome of these lines of the file f, from the one with the number n on. Below f files may be nested so many levels deep.
  pub data Goes (files : List ParsedFile) : ℕ → ℕ → ℕ → List Line → WalkState → Result WalkState LoadFault → Type 0 where
    end : (left f n : ℕ) (w : WalkState) → fault_of_numbered_file files f ≡ None → Goes files left f n [] w (Ok w)
    -- the line after those that are read does not parse
    broken : (left f n : ℕ) (w : WalkState) (fault : SyntaxFault) → fault_of_numbered_file files f ≡ Some fault
        → Goes files left f n [] w (Err (InFile (name_of_numbered_file files f) (syntax_fault_as_read_fault fault)))
    -- a name that the line defines is reserved, defined already, or one too many
    wrong : (left f n : ℕ) (line : Line) (lines : List Line) (w : WalkState) (fault : LoadFault)
        → walk_with_line_appended (name_of_numbered_file files f) (spot_of_file_line files f n) line w ≡ Err fault
        → Goes files left f n (line ∷ lines) w (Err fault)
    -- a file to which the line leads is missing, or on the walk already
    shut : (left f n : ℕ) (line : Line) (lines : List Line) (w now : WalkState) (fault : LoadFault)
        → walk_with_line_appended (name_of_numbered_file files f) (spot_of_file_line files f n) line w ≡ Ok now
        → files_opened_by_lead files (include_site_of_line files f n) now (lead_of_file_line files f line) ≡ Err fault
        → Goes files left f n (line ∷ lines) w (Err fault)
    -- the walk of a file to which the line leads has a fault
    stops : (left f n : ℕ) (line : Line) (lines : List Line) (w now : WalkState) (inner : List ℕ) (fault : LoadFault)
        → walk_with_line_appended (name_of_numbered_file files f) (spot_of_file_line files f n) line w ≡ Ok now
        → files_opened_by_lead files (include_site_of_line files f n) now (lead_of_file_line files f line) ≡ Ok inner
        → Enters files left (include_site_of_line files f n) inner now (Err fault)
        → Goes files left f n (line ∷ lines) w (Err fault)
    -- the line, the files to which it leads, and the lines after it
    onward : (left f n : ℕ) (line : Line) (lines : List Line) (w now within : WalkState) (inner : List ℕ) (outcome : Result WalkState LoadFault)
        → walk_with_line_appended (name_of_numbered_file files f) (spot_of_file_line files f n) line w ≡ Ok now
        → files_opened_by_lead files (include_site_of_line files f n) now (lead_of_file_line files f line) ≡ Ok inner
        → Enters files left (include_site_of_line files f n) inner now (Ok within)
        → Goes files left f (n + 1) lines within outcome
        → Goes files left f n (line ∷ lines) w outcome

  -- The outcome of these files in turn, to which the line at this site leads. Below its file, files may be nested so many levels deep.
  pub data Enters (files : List ParsedFile) : ℕ → IncludeSite → List ℕ → WalkState → Result WalkState LoadFault → Type 0 where
    none : (left : ℕ) (at : IncludeSite) (w : WalkState) → Enters files left at [] w (Ok w)
    -- the file is on the walk already
    again : (left : ℕ) (at : IncludeSite) (f : ℕ) (rest : List ℕ) (w : WalkState)
        → is_file_on_walk w f ≡ true → Enters files left at (f ∷ rest) w (Err (repeated_include_fault files at f))
    deep : (at : IncludeSite) (f : ℕ) (rest : List ℕ) (w : WalkState)
        → is_file_on_walk w f ≡ false → Enters files zero at (f ∷ rest) w (Err (InFile at.file (TooDeep at.row)))
    inside : (left : ℕ) (at : IncludeSite) (f : ℕ) (rest : List ℕ) (w : WalkState) (fault : LoadFault)
        → is_file_on_walk w f ≡ false → Goes files left f 0 (lines_of_numbered_file files f) (walk_with_file_entered f w) (Err fault)
        → Enters files (suc left) at (f ∷ rest) w (Err fault)
    more : (left : ℕ) (at : IncludeSite) (f : ℕ) (rest : List ℕ) (w now : WalkState) (outcome : Result WalkState LoadFault)
        → is_file_on_walk w f ≡ false → Goes files left f 0 (lines_of_numbered_file files f) (walk_with_file_entered f w) (Ok now)
        → Enters files (suc left) at rest now outcome
        → Enters files (suc left) at (f ∷ rest) w outcome

-- the outcome of the walk from the first file on
abbrev pub IsWalkOfFiles : List ParsedFile → Result WalkState LoadFault → Type 0
IsWalkOfFiles files outcome = Goes files include_depth_limit 0 0 (lines_of_numbered_file files 0) (walk_with_file_entered 0 empty_walk) outcome
