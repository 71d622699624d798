use Rattle.std.proofs.Common.{◌+◌, length, ap, arith}
use Rattle.std.proofs.lemmas.List.{take_rest, length-drop}
use Rattle.sudoers_text.proofs.FirstLf.{clear_rest_has_no_backslash}
use Rattle.sudoers_text.proofs.cutting.find_backslash_from.Goals as goal

pub returns-in-Some : goal.returns-in-Some
returns-in-Some c = clear_rest_has_no_backslash c.args.text.now c.args.start (c.args.start + c.in-Some.at) (λ i from below. c.in-Some.ensures.0.before i from (omega arith))

pub returns-in-None : goal.returns-in-None
returns-in-None c =
    clear_rest_has_no_backslash c.args.text.now c.args.start (length c.args.text.now) (λ i from below.
    c.in-None.ensures i from (omega (arith, ap length (take_rest c.args.text.now c.args.start), length-drop c.args.start c.args.text.now)))
