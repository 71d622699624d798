use Rattle.sudoers_text.specs.Part.{run_unit_size}
use Rattle.sudoers_text.proofs.Reach.{next_unit_is_part_of_run, run_unit_size_is_within_bytes}
use Rattle.sudoers_text.proofs.part.leading_run_len.Goals as goal

pub loop-len-preserved : goal.loop-len-preserved
loop-len-preserved c =
    let more = next_unit_is_part_of_run (run_unit_size c.args.rule) (run_unit_size_is_within_bytes c.args.rule) c.args.bytes.now c.loop-len.len c.run_unit_len-unit.result c.run_unit_len-unit.ensures.value c.if-unit-eq0.false c.loop-len.invariant.within c.loop-len.invariant.so_far in
    record { within = more.inside; so_far = more.same }
