use Rattle.std.proofs.Common.{◌≡◌, ◌-◌, ◌∙◌, ℕ, List, Bool, true, false, take, get_or, arith, sym, ap}
use Rattle.std.specs.Prelude.{if◌then◌else◌}
use Rattle.sudoers_text.specs.Unit.{is_comma_colon_or_equals}
use Rattle.sudoers_text.specs.internal.Run.{is_id_position_after_run, is_blank_or_sign_byte}
use Rattle.sudoers_text.proofs.Runs.{last_byte_tells_id_position_after_prefix}
use Rattle.sudoers_text.proofs.plain_runs.may_id_begin_after_run.Goals as goal

pub loop-end-preserved : goal.loop-end-preserved
loop-end-preserved c =
    let item = c.args.item in
    let run : List ℕ = c.args.run.now in
    let last : ℕ = get_or run (c.loop-end.end - 1) 0 in
    let keeps : is_blank_or_sign_byte last ≡ true = sym c.is_blank_or_sign.ensures ∙ c.if-not-is_blank_or_sign.false in
    record {
      inside = omega arith;
      same = sym (last_byte_tells_id_position_after_prefix item run c.loop-end.end c.loop-end-test.true c.loop-end.invariant.inside
          ∙ ap (λ (t : Bool). if t then is_id_position_after_run item (take (c.loop-end.end - 1) run) else is_comma_colon_or_equals last) keeps) ∙ c.loop-end.invariant.same;
    }

pub returns-then-not-is_blank_or_sign : goal.returns-then-not-is_blank_or_sign
returns-then-not-is_blank_or_sign c =
    let item = c.args.item in
    let run : List ℕ = c.args.run.now in
    let last : ℕ = get_or run (c.loop-end.end - 1) 0 in
    let none : is_blank_or_sign_byte last ≡ false = sym c.is_blank_or_sign.ensures ∙ c.if-not-is_blank_or_sign.true in
    c.is_comma_colon_or_equals.ensures
    ∙ sym (last_byte_tells_id_position_after_prefix item run c.loop-end.end c.loop-end-test.true c.loop-end.invariant.inside
    ∙ ap (λ (t : Bool). if t then is_id_position_after_run item (take (c.loop-end.end - 1) run) else is_comma_colon_or_equals last) none) ∙ c.loop-end.invariant.same
