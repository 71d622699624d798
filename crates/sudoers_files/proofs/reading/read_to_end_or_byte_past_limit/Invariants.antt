use Rattle.std.proofs.Common.{◌≡◌, ◌≤◌, ◌+◌, vec_len}
use Rattle.std.specs.Io.KnownBytes.{Consumes}
use Rattle.sudoers_files.specs.Device.{ReaderMeter, count_plus_saturating}
use Rattle.sudoers_files.proofs.reading.read_to_end_or_byte_past_limit.Given as goal

abbrev pub invariant-loop-pull : goal.invariant-loop-pull
invariant-loop-pull g l =
    let old : ReaderMeter = g.R.Source.meter l.fn.reader in
    let now : ReaderMeter = g.R.Source.meter l.reader in
    (vec_len l.input ≤ l.limit) × Consumes old.remaining now.remaining l.input.items × (old.failures ≡ now.failures) × (old.ends ≡ now.ends)
    × (now.pulls ≤ old.pulls + l.pull) × (count_plus_saturating l.pull old.offers ≤ now.offers)
    × (count_plus_saturating (vec_len l.input) old.given ≤ now.given)
