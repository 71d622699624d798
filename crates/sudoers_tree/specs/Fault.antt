-- Why a text is no policy: its first fault.
use Rattle.std.specs.Prelude.{◌≡◌, ℕ, Bool, true, false, List, ◌∷◌, ◌++◌, take, length, Option, Some, None, nat_le, if◌then◌else◌}
use Rattle.std.specs.List.{AllByRecursion}
use Rattle.sudoers_text.specs.Line.{join}
use Rattle.sudoers_text.specs.Fault.{IsFaultlessCut}
use Rattle.sudoers_text.specs.Fault.{IsFaultOfText as IsTextFault}
use Rattle.sudoers_text.specs.Word.{is_reserved}
use Rattle.sudoers_grammar.specs.declared.fault.Why.{Why}
use Rattle.sudoers_grammar.specs.Node.{Node}
use Rattle.sudoers_grammar.specs.Line.{LineReadsAsNode, IsLineSyntaxFault}
use Rattle.sudoers_tree.specs.Line.{Line}
use Rattle.sudoers_tree.specs.declared.fault.ReadFault.{ReadFault}
use Rattle.sudoers_tree.specs.declared.fault.SyntaxFault.{SyntaxFault}
use Rattle.sudoers_tree.specs.declared.fault.ReadFault.TheVariants.{Text, Syntax, Reserved, Duplicate, TooMany, NotLoaded, Twice, TooDeep, NoMemory}
use Rattle.sudoers_tree.specs.Physical.{physical_line_after_bytes, column_behind}
use Rattle.sudoers_tree.specs.Definition.{PlacedDefinition, definitions_of_lines, definitions_in_line, first_definition_of}
use Rattle.sudoers_tree.specs.Policy.{alias_limit_of_each_kind, texts_of_lines, definition_count_of_kind, IsCorrectlyParsed}

abbrev pub is_some : {X : Type 0} → Option X → Bool
is_some None = false
is_some (Some x) = true

-- why a definition cannot stand after these: the first cause that fits
unfoldable pub fault_of_definition_name : List PlacedDefinition → PlacedDefinition → Option ReadFault
fault_of_definition_name before d =
    if is_reserved d.def.name then Some (Reserved d.kind d.def.name)
    else (if is_some (first_definition_of d.kind d.def.name before) then Some (Duplicate d.kind d.def.name)
    else (if nat_le alias_limit_of_each_kind (definition_count_of_kind d.kind before) then Some (TooMany d.kind) else None))

-- Each can stand after those before it.
abbrev pub AreSoundDefinitions : List PlacedDefinition → Type 0
AreSoundDefinitions ds = (before after : List PlacedDefinition) (d : PlacedDefinition) → ds ≡ before ++ d ∷ after → fault_of_definition_name before d ≡ None

-- The line parses, and this is the fault of the first of its definitions that cannot stand there.
pub record IsNameFaultInLine (before : List Line) (text : List ℕ) (fault : ReadFault) : Type 0 where
  pub says : Node
  pub reads : LineReadsAsNode text says
  pub good : List PlacedDefinition
  pub bad : PlacedDefinition
  pub more : List PlacedDefinition
  pub split : definitions_in_line (length before) says ≡ good ++ bad ∷ more
  pub sound : AreSoundDefinitions (definitions_of_lines before ++ good)
  pub fault_is : fault_of_definition_name (definitions_of_lines before ++ good) bad ≡ Some fault

-- The line does not parse: the physical line and the column of its first fault, from 1, and its cause.
pub record IsSyntaxFaultAfterLines (before : List Line) (text : List ℕ) (row col : ℕ) (why : Why) : Type 0 where
  pub at : ℕ
  pub first : IsLineSyntaxFault text at why
  pub row_is : row ≡ physical_line_after_bytes (join (texts_of_lines before) ++ take at text)
  pub col_is : col ≡ column_behind (take at text)

-- where and why a line does not parse, as a fault of the policy
abbrev pub syntax_fault_as_read_fault : SyntaxFault → ReadFault
syntax_fault_as_read_fault fault = Syntax fault.line fault.col fault.why

-- what is wrong with a line after these
abbrev pub IsFaultOfLineAfter : List Line → List ℕ → ReadFault → Type 0
IsFaultOfLineAfter before text (Syntax row col why) = IsSyntaxFaultAfterLines before text row col why
IsFaultOfLineAfter before text (Reserved k name) = IsNameFaultInLine before text (Reserved k name)
IsFaultOfLineAfter before text (Duplicate k name) = IsNameFaultInLine before text (Duplicate k name)
IsFaultOfLineAfter before text (TooMany k) = IsNameFaultInLine before text (TooMany k)
IsFaultOfLineAfter before text (NotLoaded row name) = ⊥
IsFaultOfLineAfter before text (Twice row name) = ⊥
IsFaultOfLineAfter before text (TooDeep row) = ⊥
IsFaultOfLineAfter before text (Text fault) = ⊥
IsFaultOfLineAfter before text NoMemory = ⊥

-- The first line with a fault has this one. The lines before it parse, and their definitions can stand.
pub record IsFirstLineFault (text : List ℕ) (fault : ReadFault) : Type 0 where
  pub before : List Line
  pub line : List ℕ
  pub after : List (List ℕ)
  pub cut : IsFaultlessCut text (texts_of_lines before ++ line ∷ after)
  pub says : AllByRecursion IsCorrectlyParsed before
  pub sound : AreSoundDefinitions (definitions_of_lines before)
  pub wrong : IsFaultOfLineAfter before line fault

-- The first fault of a text: that of its cut, or else of its first faulty line. Want of memory is none of the text. Nor is a file to
-- which it leads: the text alone is read.
abbrev pub IsFirstFaultOfText : List ℕ → ReadFault → Type 0
IsFirstFaultOfText text (Text fault) = IsTextFault text fault
IsFirstFaultOfText text (Syntax row col why) = IsFirstLineFault text (Syntax row col why)
IsFirstFaultOfText text (Reserved k name) = IsFirstLineFault text (Reserved k name)
IsFirstFaultOfText text (Duplicate k name) = IsFirstLineFault text (Duplicate k name)
IsFirstFaultOfText text (TooMany k) = IsFirstLineFault text (TooMany k)
IsFirstFaultOfText text (NotLoaded row name) = ⊥
IsFirstFaultOfText text (Twice row name) = ⊥
IsFirstFaultOfText text (TooDeep row) = ⊥
IsFirstFaultOfText text NoMemory = ⊥
