-- What a cursor shows, and what a reader answers that only takes tokens.
use Rattle.std.specs.Prelude.{◌≡◌, Bool, List, [], ◌∷◌, Option, Some, None, Result, Ok, Err}
use Rattle.sudoers_grammar.specs.Piece.{TokenWithBytes}
use Rattle.sudoers_line_reader.specs.declared.cursor.HaltCause.{HaltCause}
use Rattle.sudoers_line_reader.specs.declared.cursor.HaltCause.TheVariants.{Fault, NoMemory}
use Rattle.sudoers_line_reader.specs.Reader.{ReadOutcome, Read, Halt}

abbrev pub first_token_option : List TokenWithBytes → Option TokenWithBytes
first_token_option [] = None
first_token_option (t ∷ ts) = Some t

-- What is read, and the tokens left; or the tokens before which the reader halts.
abbrev pub ReadsAsOutcome : {R X : Type 0} → ReadOutcome X → (R → X) → Result R HaltCause → List TokenWithBytes → Type 0
ReadsAsOutcome o view (Ok r) left = o ≡ Read (view r) left
ReadsAsOutcome o view (Err Fault) left = o ≡ Halt left
ReadsAsOutcome o view (Err NoMemory) left = Unit {0}

-- Signs never halt.
abbrev pub SignsReadAs : ReadOutcome Bool → Bool → List TokenWithBytes → Type 0
SignsReadAs o b left = o ≡ Read b left

abbrev pub value_itself : {X : Type 0} → X → X
value_itself x = x
