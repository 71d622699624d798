use Rattle.std.proofs.Common.{◌+◌, ◌-◌, List, ℕ, length, take, drop, ap, arith}
use Rattle.std.proofs.lemmas.List.{take_rest, length-drop}
use Rattle.sudoers_text.proofs.FirstLf.{IsClosedLineFromStartToStop, first_lf_without_backslash_ends_line}
use Rattle.sudoers_text.proofs.cutting.find_logical_line_end.Goals as goal

pub returns-in-Some : goal.returns-in-Some
returns-in-Some c =
    let text : List ℕ = c.args.text.now in
    let rest : List ℕ = take (length text - c.args.start) (drop c.args.start text) in
    let found = c.in-Some.ensures in
    let ends : IsClosedLineFromStartToStop text c.args.start (c.args.start + c.in-Some.lf + 1) =
    first_lf_without_backslash_ends_line text rest c.args.start c.in-Some.lf (take_rest text c.args.start) found.0.high (λ k below. found.0.before k (omega arith) below) c.if-rest-lf-eq10.true in
    record {
      later = omega arith;
      inside = omega (arith, found.0.high, ap length (take_rest text c.args.start), length-drop c.args.start text);
      line = ends.line;
      open_text = λ all. (λ is. absurd (cc), λ unfinished. absurd (ends.closed unfinished));
    }
