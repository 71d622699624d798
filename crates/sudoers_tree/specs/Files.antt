-- Files with names, as they are read.
use Rattle.std.specs.Prelude.{ℕ, ◌+◌, List, [], ◌∷◌, ◌++◌, take, slice_get, Option, Some, None, Result, Ok, Err}
use Rattle.std.specs.List.{AllByRecursion}
use Rattle.sudoers_text.specs.Line.{join}
use Rattle.sudoers_text.specs.Fault.{lf_count}
use Rattle.sudoers_grammar.specs.declared.fault.Why.{Why}
use Rattle.sudoers_grammar.specs.declared.fault.LineFault.{LineFault}
use Rattle.sudoers_grammar.specs.declared.fault.LineFault.TheVariants as line_fault
use Rattle.sudoers_grammar.specs.Node.{Node}
use Rattle.sudoers_line_reader.specs.Outcome.{outcome_of_line}
use Rattle.sudoers_tree.specs.Line.{Line}
use Rattle.sudoers_tree.specs.declared.fault.SyntaxFault.{SyntaxFault}
use Rattle.sudoers_tree.specs.Physical.{physical_line_after_bytes, column_behind}
use Rattle.sudoers_tree.specs.Policy.{texts_of_lines, IsCorrectlyParsed}
use Rattle.sudoers_tree.specs.Fault.{IsSyntaxFaultAfterLines}

-- a file as it is read: its lines up to the first that does not parse, with what they say, and the fault of that line
pub record ParsedFile : Type 0 where
  pub name : List ℕ
  pub lines : List Line
  pub fault : Option SyntaxFault

-- Each of the lines parses. They are all lines of these texts; or those before the first that does not parse, and this is its fault.
pub data AreParsedUntilFault : List (List ℕ) → List Line → Option SyntaxFault → Type 0 where
  whole : (lines : List Line) → AllByRecursion IsCorrectlyParsed lines → AreParsedUntilFault (texts_of_lines lines) lines None
  broken : (lines : List Line) (text : List ℕ) (more : List (List ℕ)) (fault : SyntaxFault) → AllByRecursion IsCorrectlyParsed lines
      → IsSyntaxFaultAfterLines lines text fault.line fault.col fault.why → AreParsedUntilFault (texts_of_lines lines ++ text ∷ more) lines (Some fault)

-- ---- the same as a function that computes

-- the fault at this byte of a line that begins on this physical line
abbrev pub syntax_fault_at_byte : ℕ → List ℕ → ℕ → Why → SyntaxFault
syntax_fault_at_byte row text at why = record { line = row + lf_count (take at text); col = column_behind (take at text); why = why }

abbrev pub line_before_parsed_lines : Line → List Line × Option SyntaxFault → List Line × Option SyntaxFault
line_before_parsed_lines line read = (line ∷ read.0, read.1)

abbrev pub parsed_lines_from_outcome : List Line → List ℕ → Result Node LineFault → (Line → List Line × Option SyntaxFault) → List Line × Option SyntaxFault
parsed_lines_from_outcome before text (Ok says) next = line_before_parsed_lines (record { text = text; node = says }) (next (record { text = text; node = says }))
parsed_lines_from_outcome before text (Err (line_fault.Syntax at why)) next = ([], Some (syntax_fault_at_byte (physical_line_after_bytes (join (texts_of_lines before))) text at why))
parsed_lines_from_outcome before text (Err line_fault.NoMemory) next = ([], None)

-- the lines of these texts, which come after the lines `before`, up to the first that does not parse, and the fault of that line
abbrev pub lines_parsed_until_fault : List Line → List (List ℕ) → List Line × Option SyntaxFault
lines_parsed_until_fault before [] = ([], None)
lines_parsed_until_fault before (text ∷ more) = parsed_lines_from_outcome before text (outcome_of_line text) (λ line. lines_parsed_until_fault (before ++ line ∷ []) more)

abbrev pub parsed_file_from_pair : List ℕ → List Line × Option SyntaxFault → ParsedFile
parsed_file_from_pair name read = record { name = name; lines = read.0; fault = read.1 }

-- the file of this name with lines of these texts, as it is read
unfoldable pub parsed_file_of_texts : List ℕ → List (List ℕ) → ParsedFile
parsed_file_of_texts name lines = parsed_file_from_pair name (lines_parsed_until_fault [] lines)

-- ---- files by their numbers, from 0

abbrev pub name_of_optional_file : Option ParsedFile → List ℕ
name_of_optional_file None = []
name_of_optional_file (Some file) = file.name

abbrev pub lines_of_optional_file : Option ParsedFile → List Line
lines_of_optional_file None = []
lines_of_optional_file (Some file) = file.lines

abbrev pub fault_of_optional_file : Option ParsedFile → Option SyntaxFault
fault_of_optional_file None = None
fault_of_optional_file (Some file) = file.fault

-- the name, the lines and the fault of the file with this number
abbrev pub name_of_numbered_file : List ParsedFile → ℕ → List ℕ
name_of_numbered_file files f = name_of_optional_file (slice_get files f)

abbrev pub lines_of_numbered_file : List ParsedFile → ℕ → List Line
lines_of_numbered_file files f = lines_of_optional_file (slice_get files f)

abbrev pub fault_of_numbered_file : List ParsedFile → ℕ → Option SyntaxFault
fault_of_numbered_file files f = fault_of_optional_file (slice_get files f)

-- the physical line on which the line with this number of a file begins, from 1
abbrev pub physical_line_of_file_line : List Line → ℕ → ℕ
physical_line_of_file_line lines n = physical_line_after_bytes (join (texts_of_lines (take n lines)))
