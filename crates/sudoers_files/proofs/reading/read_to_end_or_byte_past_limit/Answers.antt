use Rattle.std.proofs.Common.{◌≡◌, ◌+◌, ◌≤◌, ◌<◌, ◌++◌, List, ℕ, Err, length, take, vec_len, rules, arith, subst, sym, ap, ◌∙◌}
use Rattle.std.proofs.lemmas.List.{length-append, take-append-le}
use Rattle.std.specs.Io.KnownBytes.{Consumes}
use Rattle.sudoers_files.specs.declared.fault.FileFault.TheVariants as file
use Rattle.sudoers_files.specs.Device.{ReaderMeter}
use Rattle.sudoers_files.proofs.ReadingLemmas.{two_reads_consume_appended_bytes, pulled_bytes_are_consumed, failed_read_has_ending_of_its_fault, front_past_limit_is_too_large_reading}
use Rattle.sudoers_files.proofs.reading.read_to_end_or_byte_past_limit.Goals as goal

pub returns-in_err-extend_from_slice-clause-reads : goal.returns-in_err-extend_from_slice-clause-reads
returns-in_err-extend_from_slice-clause-reads g c =
    let old : ReaderMeter = g.R.Source.meter c.args.reader.now in
    let mid : ReaderMeter = g.R.Source.meter c.loop-pull.reader in
    let new : ReaderMeter = g.R.Source.meter c.pull.new.self in
    let n = c.in-Ok-Bytes.n in
    let took = pulled_bytes_are_consumed mid.remaining new.remaining c.in-Ok-Bytes.field-0 n c.pull.new.buf c.in-Ok-Bytes.field-0-is c.in-Ok-Bytes.ensures.bytes in
    let more = two_reads_consume_appended_bytes old.remaining mid.remaining new.remaining c.loop-pull.input.items (take n c.pull.new.buf) c.loop-pull.invariant.1 took in
    let fits : vec_len c.loop-pull.input + n ≤ c.args.limit + 1 = search (rules, arith) in
    let known : vec_len c.loop-pull.input ≡ length c.loop-pull.input.items = search rules in
    let few : length (take n c.pull.new.buf) ≤ n = search rules in
    let all = length-append c.loop-pull.input.items (take n c.pull.new.buf) in
    let same : c.from_residual.result ≡ Err file.NoMemory = search rules in
    failed_read_has_ending_of_its_fault c.args.limit c.from_residual.result file.NoMemory old new same (record {
      asked = search (rules, arith);
      well = search rules;
      shows = (c.loop-pull.input.items ++ take n c.pull.new.buf, omega (arith, fits, known, few, all), more);
    })

pub returns-then-len-limit-clause-front : goal.returns-then-len-limit-clause-front
returns-then-len-limit-clause-front g c =
    let old : ReaderMeter = g.R.Source.meter c.args.reader.now in
    let mid : ReaderMeter = g.R.Source.meter c.loop-pull.reader in
    let new : ReaderMeter = g.R.Source.meter c.pull.new.self in
    let n = c.in-Ok-Bytes.n in
    let took = pulled_bytes_are_consumed mid.remaining new.remaining c.in-Ok-Bytes.field-0 n c.pull.new.buf c.in-Ok-Bytes.field-0-is c.in-Ok-Bytes.ensures.bytes in
    let more = two_reads_consume_appended_bytes old.remaining mid.remaining new.remaining c.loop-pull.input.items (take n c.pull.new.buf) c.loop-pull.invariant.1 took in
    let within : n ≤ length c.pull.new.buf = search (rules, arith) in
    let items : c.extend_from_slice.new.self.items ≡ c.loop-pull.input.items ++ take n c.pull.new.buf = c.in_ok-extend_from_slice.ensures.items ∙ ap (λ (x : List ℕ). c.loop-pull.input.items ++ x) (take-append-le n c.pull.new.buf _ within) in
    let size : c.len-in-loop-pull.result ≡ length c.extend_from_slice.new.self.items = search rules in
    let past = c.if-len-limit.true in
    record {
      taken = subst (λ x. Consumes old.remaining new.remaining x) (sym items) more;
      most = search (rules, arith);
      all = λ h. absurd (omega (arith, h, size, past));
    }

pub returns-then-len-limit-clause-reads : goal.returns-then-len-limit-clause-reads
returns-then-len-limit-clause-reads g c =
    let front = returns-then-len-limit-clause-front g c in
    let items : List ℕ = c.extend_from_slice.new.self.items in
    let size : c.len-in-loop-pull.result ≡ length items = search rules in
    let past : c.args.limit < length items = omega (arith, size, c.if-len-limit.true) in
    let exact : length items ≡ c.args.limit + 1 = omega (arith, past, front.most) in
    front_past_limit_is_too_large_reading c.args.limit c.extend_from_slice.new.self _ _ past (record { asked = search (rules, arith); well = search rules; shows = (search (rules, arith), (items, exact, front.taken)) })

pub loop-pull-preserved : goal.loop-pull-preserved
loop-pull-preserved g c =
    let old : ReaderMeter = g.R.Source.meter c.args.reader.now in
    let mid : ReaderMeter = g.R.Source.meter c.loop-pull.reader in
    let new : ReaderMeter = g.R.Source.meter c.pull.new.self in
    let n = c.in-Ok-Bytes.n in
    let took = pulled_bytes_are_consumed mid.remaining new.remaining c.in-Ok-Bytes.field-0 n c.pull.new.buf c.in-Ok-Bytes.field-0-is c.in-Ok-Bytes.ensures.bytes in
    let more = two_reads_consume_appended_bytes old.remaining mid.remaining new.remaining c.loop-pull.input.items (take n c.pull.new.buf) c.loop-pull.invariant.1 took in
    let within : n ≤ length c.pull.new.buf = search (rules, arith) in
    let items : c.extend_from_slice.new.self.items ≡ c.loop-pull.input.items ++ take n c.pull.new.buf = c.in_ok-extend_from_slice.ensures.items ∙ ap (λ (x : List ℕ). c.loop-pull.input.items ++ x) (take-append-le n c.pull.new.buf _ within) in
    (search rules, subst (λ x. Consumes old.remaining new.remaining x) (sym items) more, search rules, search rules, search rules, search rules, search rules)
