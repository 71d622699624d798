-- What reads take.
use Rattle.std.proofs.Common.{◌≡◌, ◌<◌, ◌+◌, ℕ, List, length, ◌++◌, Option, Some, None, Result, Ok, Err, Vec, Global, if◌then◌else◌, subst, sym, ap, ◌∙◌, append_assoc, take}
use Rattle.std.proofs.lemmas.Bool.{lt-ltb}
use Rattle.std.specs.Io.KnownBytes.{Consumes}
use Rattle.sudoers_files.specs.declared.counting_devices.PulledBytesOrInterrupted.{PulledBytesOrInterrupted}
use Rattle.sudoers_files.specs.declared.counting_devices.PulledBytesOrInterrupted.TheVariants.{Bytes}
use Rattle.sudoers_files.specs.declared.fault.FileFault.{FileFault}
use Rattle.sudoers_files.specs.Device.{ReaderMeter, TakesPulledBytes}
use Rattle.sudoers_files.specs.Reading.{IsMeterAfterReadingUpToLimit, TooLarge, Whole, reading_end_of_file_fault, reading_end_of_file_result}

-- two reads in turn
pub two_reads_consume_appended_bytes : (old mid new : Option (List ℕ)) (xs ys : List ℕ) → Consumes old mid xs → Consumes mid new ys → Consumes old new (xs ++ ys)
two_reads_consume_appended_bytes None mid new xs ys a b = tt
two_reads_consume_appended_bytes (Some o) None new xs ys a b = absurd a
two_reads_consume_appended_bytes (Some o) (Some m) None xs ys a b = absurd b
two_reads_consume_appended_bytes (Some o) (Some m) (Some n) xs ys a b = a ∙ ap (λ z. xs ++ z) b ∙ sym (append_assoc xs ys n)

pub pulled_bytes_are_consumed : (old new : Option (List ℕ)) (pulled : PulledBytesOrInterrupted) (n : ℕ) (buf : List ℕ) → pulled ≡ Bytes n → TakesPulledBytes old new pulled buf → Consumes old new (take n buf)
pulled_bytes_are_consumed old new pulled n buf e t = (subst (λ p. TakesPulledBytes old new p buf) e t).0

-- A front past the limit is of a file that is too large.
pub front_past_limit_is_too_large_reading : (limit : ℕ) (front : Vec ℕ Global) (old new : ReaderMeter) → limit < length front.items → IsMeterAfterReadingUpToLimit limit TooLarge old new → IsMeterAfterReadingUpToLimit limit (reading_end_of_file_result limit (Ok front)) old new
front_past_limit_is_too_large_reading limit front old new h reads =
    subst (λ how. IsMeterAfterReadingUpToLimit limit how old new) (sym (ap (λ b. if b then TooLarge else Whole) (lt-ltb limit (length front.items) h))) reads

pub failed_read_has_ending_of_its_fault : (limit : ℕ) (result : Result (Vec ℕ Global) FileFault) (fault : FileFault) (old new : ReaderMeter) → result ≡ Err fault → IsMeterAfterReadingUpToLimit limit (reading_end_of_file_fault fault) old new
    → IsMeterAfterReadingUpToLimit limit (reading_end_of_file_result limit result) old new
failed_read_has_ending_of_its_fault limit result fault old new is reads = subst (λ r. IsMeterAfterReadingUpToLimit limit (reading_end_of_file_result limit r) old new) (sym is) reads
