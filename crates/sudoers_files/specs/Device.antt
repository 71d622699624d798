-- What one pull, one push and a failure of a device do, and what is counted of a reader.
use Rattle.std.specs.Prelude.{◌≡◌, ◌≢◌, ℕ, ◌+◌, ◌-◌, min, ◌^◌, ◌<◌, ◌≤◌, ◌⊎◌, ◌&&◌, ◌==◌, nat_lt, List, length, take, Option, Result, Ok, Err, IfOk, IfErr, IfSome, OnErr, MatchBool}
use Rattle.std.specs.Io.KnownBytes.{Keeps, Consumes, IsAtEnd, Appends}
use Rattle.sudoers_files.specs.declared.counting_devices.PulledBytesOrInterrupted.{PulledBytesOrInterrupted}
use Rattle.sudoers_files.specs.declared.counting_devices.PulledBytesOrInterrupted.TheVariants.{Bytes, Interrupted}
use Rattle.sudoers_files.specs.declared.counting_devices.DeviceFailed.{DeviceFailed}

-- What is counted of a reader, each up to the greatest number that is counted: how often it failed, was asked, was asked with room for a
-- byte; how many bytes it gave; how often it reported its end. And what it has left to give, if that is known.
pub record ReaderMeter : Type 0 where
  pub failures : ℕ
  pub pulls : ℕ
  pub offers : ℕ
  pub given : ℕ
  pub ends : ℕ
  pub remaining : Option (List ℕ)

-- a count rose, or is the greatest that it can be
abbrev pub IsCountHigherOrAtMaximum : ℕ → ℕ → Type 0
IsCountHigherOrAtMaximum old new = (old < new) ⊎ (new ≡ 2 ^ 64 - 1)

-- one more, up to the greatest number that is counted
abbrev pub saturating_next : ℕ → ℕ
saturating_next n = min (n + 1) (2 ^ 64 - 1)

-- so many more, up to the greatest number that is counted
abbrev pub count_plus_saturating : ℕ → ℕ → ℕ
count_plus_saturating count n = min (n + count) (2 ^ 64 - 1)

-- The count of failures goes up with a failure, and stays with anything else.
abbrev pub CountsFailures : {A : Type 0} → ℕ → ℕ → Result A DeviceFailed → Type 0
CountsFailures old new (Ok x) = new ≡ old
CountsFailures old new (Err failed) = new ≡ saturating_next old

-- at most as many bytes as the buffer has
abbrev pub IsPulledWithinBuffer : PulledBytesOrInterrupted → List ℕ → Type 0
IsPulledWithinBuffer (Bytes n) buf = n ≤ length buf
IsPulledWithinBuffer Interrupted buf = Unit {0}

-- a count of bytes is taken from the known ones, none only at their end or with no room; else they stay
abbrev pub TakesPulledBytes : Option (List ℕ) → Option (List ℕ) → PulledBytesOrInterrupted → List ℕ → Type 0
TakesPulledBytes old new (Bytes n) buf = Consumes old new (take n buf) × (n ≡ 0 → 0 < length buf → IsAtEnd new)
TakesPulledBytes old new Interrupted buf = Keeps old new

-- The count of calls that offer room goes up with such a call, and stays with one that offers none.
abbrev pub CountsPullsWithRoom : ℕ → ℕ → List ℕ → Type 0
CountsPullsWithRoom old new buf = MatchBool (nat_lt 0 (length buf)) (new ≡ saturating_next old) (new ≡ old)

-- The count of bytes goes up by those that are given, and stays with anything else.
abbrev pub CountsGivenBytes : ℕ → ℕ → Result PulledBytesOrInterrupted DeviceFailed → Type 0
CountsGivenBytes old new (Ok (Bytes n)) = new ≡ count_plus_saturating n old
CountsGivenBytes old new (Ok Interrupted) = new ≡ old
CountsGivenBytes old new (Err failed) = new ≡ old

-- The count of ends goes up with no bytes where there is room, and stays with anything else.
abbrev pub CountsReportedEnds : ℕ → ℕ → Result PulledBytesOrInterrupted DeviceFailed → List ℕ → Type 0
CountsReportedEnds old new (Ok (Bytes n)) buf = MatchBool ((n == 0) && nat_lt 0 (length buf)) (new ≡ saturating_next old) (new ≡ old)
CountsReportedEnds old new (Ok Interrupted) buf = new ≡ old
CountsReportedEnds old new (Err failed) buf = new ≡ old

-- What one pull does: it takes bytes into the buffer, or none if it fails, and is counted.
pub record IsPullEffect (result : Result PulledBytesOrInterrupted DeviceFailed) (buf : List ℕ) (old new : ReaderMeter) : Type 0 where
  pub within : IfOk result (λ pulled. IsPulledWithinBuffer pulled buf)
  pub bytes : IfOk result (λ pulled. TakesPulledBytes old.remaining new.remaining pulled buf)
  pub kept : OnErr result (Keeps old.remaining new.remaining)
  pub failed : CountsFailures old.failures new.failures result
  pub asked : new.pulls ≡ saturating_next old.pulls
  pub offered : CountsPullsWithRoom old.offers new.offers buf
  pub given : CountsGivenBytes old.given new.given result
  pub ended : CountsReportedEnds old.ends new.ends result buf

-- known bytes grow by a front of these
abbrev pub AppendsPrefixOfBytes : Option (List ℕ) → Option (List ℕ) → List ℕ → Type 0
AppendsPrefixOfBytes old new bytes = (n : ℕ) × (n ≤ length bytes) × Appends old new (take n bytes)

-- so many of the known bytes were taken, all told
abbrev pub ConsumesAtMostBytes : Option (List ℕ) → Option (List ℕ) → ℕ → Type 0
ConsumesAtMostBytes old new most = (bytes : List ℕ) × (length bytes ≤ most) × Consumes old new bytes

abbrev pub ConsumesExactlyBytes : Option (List ℕ) → Option (List ℕ) → ℕ → Type 0
ConsumesExactlyBytes old new count = (bytes : List ℕ) × (length bytes ≡ count) × Consumes old new bytes

-- all known bytes were taken, and they are at most so many
abbrev pub ConsumesAllKnownBytes : Option (List ℕ) → Option (List ℕ) → ℕ → Type 0
ConsumesAllKnownBytes old new most = IfSome old (λ known. (length known ≤ most) × Consumes old new known)
