-- What reading a file does to its reader: to the file's end, or to the first byte past a limit.
use Rattle.std.specs.Prelude.{◌≡◌, ◌≢◌, ℕ, ◌+◌, ◌≤◌, nat_lt, if◌then◌else◌, List, length, Result, Ok, Err, IfSome, Vec}
use Rattle.std.specs.declared.alloc.Global.{Global}
use Rattle.std.specs.Io.KnownBytes.{Consumes}
use Rattle.sudoers_files.specs.declared.fault.FileFault.{FileFault}
use Rattle.sudoers_files.specs.declared.fault.FileFault.TheVariants as file
use Rattle.sudoers_files.specs.Device.{ReaderMeter, IsCountHigherOrAtMaximum, ConsumesAllKnownBytes, ConsumesAtMostBytes, ConsumesExactlyBytes, count_plus_saturating}

-- how often a reader is asked
abbrev pub pull_count_limit : ℕ
pull_count_limit = 4194304

-- How it ended: the reader failed; or it was asked as often as it may be; or memory ran out; or the file passed the limit; or the reader
-- reported its end. Or the reader was not asked.
pub data ReadingEnd : Type 0 where
  Failed : ReadingEnd
  GivenUp : ReadingEnd
  OutOfMemory : ReadingEnd
  TooLarge : ReadingEnd
  Whole : ReadingEnd
  Unread : ReadingEnd

-- How it ended, by its fault.
abbrev pub reading_end_of_file_fault : FileFault → ReadingEnd
reading_end_of_file_fault file.Failed = Failed
reading_end_of_file_fault file.NoEnd = GivenUp
reading_end_of_file_fault file.NoMemory = OutOfMemory

-- The same, by what was read, up to one byte past the limit.
abbrev pub reading_end_of_file_result : ℕ → Result (Vec ℕ Global) FileFault → ReadingEnd
reading_end_of_file_result limit (Ok front) = if nat_lt limit (length front.items) then TooLarge else Whole
reading_end_of_file_result limit (Err fault) = reading_end_of_file_fault fault

-- What the reader shows of it. One that failed or was given up has given no byte past the limit. Past the limit one byte is taken, and
-- no more.
abbrev pub MeterShowsReadingEnd : ℕ → ReadingEnd → ReaderMeter → ReaderMeter → Type 0
MeterShowsReadingEnd limit Failed old new = IsCountHigherOrAtMaximum old.failures new.failures × ConsumesAtMostBytes old.remaining new.remaining limit
MeterShowsReadingEnd limit GivenUp old new = (count_plus_saturating pull_count_limit old.offers ≤ new.offers) × ConsumesAtMostBytes old.remaining new.remaining limit
MeterShowsReadingEnd limit OutOfMemory old new = ConsumesAtMostBytes old.remaining new.remaining (limit + 1)
MeterShowsReadingEnd limit TooLarge old new = (count_plus_saturating (limit + 1) old.given ≤ new.given) × ConsumesExactlyBytes old.remaining new.remaining (limit + 1)
MeterShowsReadingEnd limit Whole old new = IsCountHigherOrAtMaximum old.ends new.ends × ConsumesAllKnownBytes old.remaining new.remaining limit
MeterShowsReadingEnd limit Unread old new = new ≡ old

-- What reading a file does to its reader, if it ended in this way. The reader is asked at most `pull_count_limit` times. Its count of failures
-- stays, unless the reading ended with a failure.
pub record IsMeterAfterReadingUpToLimit (limit : ℕ) (how : ReadingEnd) (old new : ReaderMeter) : Type 0 where
  pub asked : new.pulls ≤ old.pulls + pull_count_limit
  pub well : how ≢ Failed → new.failures ≡ old.failures
  pub shows : MeterShowsReadingEnd limit how old new

-- The text of a reader: what is known of it, if that is known.
abbrev pub IsTextOfReader : ReaderMeter → List ℕ → Type 0
IsTextOfReader meter text = IfSome meter.remaining (λ bytes. text ≡ bytes)

-- What was read of a reader, up to one byte past a limit: all, if it is within the limit.
pub record IsReadToEndOrBytePastLimit (limit : ℕ) (old new : ReaderMeter) (front : List ℕ) : Type 0 where
  pub taken : Consumes old.remaining new.remaining front
  pub most : length front ≤ limit + 1
  pub all : length front ≤ limit → IsTextOfReader old front
