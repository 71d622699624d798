-- How reading a file ended, by what the program makes of it.
use Rattle.std.specs.Prelude.{◌≡◌, ℕ, nat_lt, if◌then◌else◌, length, Result, Ok, Err, Vec}
use Rattle.std.specs.declared.alloc.Global.{Global}
use Rattle.sudoers_files.specs.Reading.{ReadingEnd, Failed, GivenUp, OutOfMemory, TooLarge, Whole, Unread}
use Rattle.sudoers_run.specs.declared.fault.LayerFault.TheVariants as layer
use Rattle.sudoers_run.specs.declared.fault.ToolFault.{ToolFault}
use Rattle.sudoers_run.specs.declared.fault.ToolFault.TheVariants as tool

-- How it ended, by the error that comes of it. An error that comes later needs the whole file.
abbrev pub reading_end_of_fault : ToolFault → ReadingEnd
reading_end_of_fault tool.Read = Failed
reading_end_of_fault tool.NoEnd = GivenUp
reading_end_of_fault (tool.Layer layer.NoMemory) = OutOfMemory
reading_end_of_fault tool.InputTooLarge = TooLarge
reading_end_of_fault fault = Whole

-- the same, by what comes of it
abbrev pub reading_end_of_result : {A : Type 0} → Result A ToolFault → ReadingEnd
reading_end_of_result (Ok x) = Whole
reading_end_of_result (Err fault) = reading_end_of_fault fault

-- the same, by what was read, up to one byte past the limit
abbrev pub reading_end_of_read_bytes : ℕ → Result (Vec ℕ Global) ToolFault → ReadingEnd
reading_end_of_read_bytes limit (Ok front) = if nat_lt limit (length front.items) then TooLarge else Whole
reading_end_of_read_bytes limit (Err fault) = reading_end_of_fault fault

-- The file was read, to its end or past the limit.
abbrev pub WasReadToEndOrLimit : ReadingEnd → Type 0
WasReadToEndOrLimit Whole = Unit {0}
WasReadToEndOrLimit TooLarge = Unit {0}
WasReadToEndOrLimit how = ⊥

-- Of several files the next is read only after one that was read; else its reader is not asked.
abbrev pub IsUnreadUnlessPreviousWasRead : ReadingEnd → ReadingEnd → Type 0
IsUnreadUnlessPreviousWasRead Whole next = Unit {0}
IsUnreadUnlessPreviousWasRead TooLarge next = Unit {0}
IsUnreadUnlessPreviousWasRead how next = next ≡ Unread

-- the errors of reading a front
abbrev pub IsFaultOfReadingUpToLimit : ToolFault → Type 0
IsFaultOfReadingUpToLimit tool.Read = Unit {0}
IsFaultOfReadingUpToLimit tool.NoEnd = Unit {0}
IsFaultOfReadingUpToLimit (tool.Layer fault) = fault ≡ layer.NoMemory
IsFaultOfReadingUpToLimit tool.InputTooLarge = ⊥
IsFaultOfReadingUpToLimit tool.Write = ⊥
IsFaultOfReadingUpToLimit tool.NoMark = ⊥
IsFaultOfReadingUpToLimit (tool.BadBundle file) = ⊥

-- the errors of reading a whole input
abbrev pub IsFaultOfReadingWholeInput : ToolFault → Type 0
IsFaultOfReadingWholeInput tool.InputTooLarge = Unit {0}
IsFaultOfReadingWholeInput fault = IsFaultOfReadingUpToLimit fault
