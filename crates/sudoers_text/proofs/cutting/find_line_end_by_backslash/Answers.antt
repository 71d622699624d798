use Rattle.std.proofs.Common.{◌+◌, List, ℕ, length, ap, arith}
use Rattle.std.proofs.lemmas.List.{take_rest, length-drop}
use Rattle.sudoers_text.proofs.FirstLf.{IsClosedLineFromStartToStop, first_lf_before_backslash_ends_line}
use Rattle.sudoers_text.proofs.cutting.find_line_end_by_backslash.Goals as goal

pub returns-in-Some : goal.returns-in-Some
returns-in-Some c =
    let text : List ℕ = c.args.text.now in
    let found = c.in-Some.ensures in
    let ends : IsClosedLineFromStartToStop text c.args.start (c.args.start + c.in-Some.lf + 1) =
    first_lf_before_backslash_ends_line text c.args.start c.in-Some.lf c.args.backslash c.requires.clear found.0.high found.0.before found.1 c.if-start-lf.true in
    record {
      later = omega arith;
      inside = omega (arith, found.0.high, ap length (take_rest text c.args.start), length-drop c.args.start text);
      line = ends.line;
      open_text = λ all. (λ is. absurd (cc), λ unfinished. absurd (ends.closed unfinished));
    }
