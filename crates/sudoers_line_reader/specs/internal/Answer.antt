-- What a reader answers that keeps rows.
use Rattle.std.specs.Prelude.{◌≡◌, Bool, true, false, if◌then◌else◌, List, [], ◌∷◌, Option, None, Result, Ok, Err}
use Rattle.sudoers_grammar.specs.Node.{Digest, Member}
use Rattle.sudoers_grammar.specs.declared.command_arguments.ArglessCommand.{ArglessCommand}
use Rattle.sudoers_grammar.specs.Arguments.{argless_command_of_atom}
use Rattle.sudoers_grammar.specs.Piece.{TokenWithBytes}
use Rattle.sudoers_line_rows.specs.declared.rows.Tables.{Tables}
use Rattle.sudoers_line_rows.specs.Tables.{RowMeaningLasts, atom_in_tables, member_in_tables}
use Rattle.sudoers_line_reader.specs.declared.command_words.CommandStartRow.{CommandStartRow}
use Rattle.sudoers_line_reader.specs.declared.cursor.HaltCause.{HaltCause}
use Rattle.sudoers_line_reader.specs.declared.cursor.HaltCause.TheVariants.{Fault, NoMemory}
use Rattle.sudoers_line_reader.specs.Reader.{ReadOutcome, Read, Halt}

abbrev pub command_start_of_word_row : Tables → CommandStartRow → Option ArglessCommand × Member
command_start_of_word_row t w = (if w.has_room then argless_command_of_atom (atom_in_tables t w.member.atom) else None, member_in_tables t w.member)

-- It says whether there are digests.
abbrev pub ReportsDigestPresence : Bool → List Digest → Type 0
ReportsDigestPresence true [] = ⊥
ReportsDigestPresence true (d ∷ ds) = Unit {0}
ReportsDigestPresence false [] = Unit {0}
ReportsDigestPresence false (d ∷ ds) = ⊥

-- What is read stands in the row for good, and the cursor behind it; or the cursor stands where the reader halts.
abbrev pub RowReadsAsOutcome : {R X : Type 0} → ReadOutcome X → (Tables → R → X) → Tables → Result R HaltCause → List TokenWithBytes → Type 0
RowReadsAsOutcome o view t (Ok r) left = (o ≡ Read (view t r) left) × RowMeaningLasts view t r
RowReadsAsOutcome o view t (Err Fault) left = o ≡ Halt left
RowReadsAsOutcome o view t (Err NoMemory) left = Unit {0}
