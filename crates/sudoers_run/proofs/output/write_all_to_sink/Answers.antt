use Rattle.std.proofs.Common.{◌≡◌, ◌++◌, ◌-◌, ℕ, List, ap, ◌∙◌, sym, subst, arith, length, drop, take}
use Rattle.std.proofs.lemmas.List.{take_rest, length-drop}
use Rattle.std.proofs.Math.Seq.{take-add}
use Rattle.std.specs.Io.KnownBytes.{Appends}
use Rattle.sudoers_run.proofs.OutputLemmas.{two_appends_append_joined_bytes}
use Rattle.sudoers_run.proofs.output.write_all_to_sink.Goals as goal

pub loop-at-preserved : goal.loop-at-preserved
loop-at-preserved g c =
    let bytes : List ℕ = c.args.bytes.now in
    let at : ℕ = c.loop-at.at in
    let n : ℕ = c.in-Ok.n in
    let held = g.W.Write.contents in
    let tail : take (length bytes - at) (drop at bytes) ≡ drop at bytes = take_rest bytes at in (
      omega (arith, c.in-Ok.ensures.within, ap length tail, length-drop at bytes, c.loop-at.invariant.0),
      subst (λ (z : List ℕ). Appends (held c.args.writer.now) (held c.push.new.self) z) (ap (λ (z : List ℕ). take at bytes ++ take n z) tail ∙ sym (take-add at n bytes))
          (two_appends_append_joined_bytes (held c.args.writer.now) (held c.loop-at.writer) (held c.push.new.self) (take at bytes) (take n (take (length bytes - at) (drop at bytes))) c.loop-at.invariant.1 c.in-Ok.ensures.bytes),
      c.loop-at.invariant.2 ∙ sym c.in-Ok.ensures.failed,
    )
