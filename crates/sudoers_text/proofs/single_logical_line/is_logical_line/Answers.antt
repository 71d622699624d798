use Rattle.std.proofs.Common.{ℕ, List, length, arith, sym, ◌∙◌}
use Rattle.std.proofs.lemmas.Bool.{eqb-true}
use Rattle.std.proofs.lemmas.Bool.Decides.{nat_tests}
use Rattle.sudoers_text.proofs.LogicalLine.{no_logical_line_has_false_test, logical_line_is_not_empty, IsStopOfFirstLine, logical_line_stops_at_text_end, text_that_continues_is_no_logical_line, nul_place_test_is_logical_line_test}
use Rattle.sudoers_text.proofs.single_logical_line.is_logical_line.Goals as goal
use Rattle.sudoers_text.proofs.single_logical_line.is_logical_line.Goals.{After-find_logical_line_end-end, then-end-text, else-end-text}

pub returns-then-is_empty : goal.returns-then-is_empty
returns-then-is_empty c =
    no_logical_line_has_false_test c.args.text.now (λ is. let some = logical_line_is_not_empty c.args.text.now is in grind (arith, nat_tests))

-- what is known of the place where the first line stops
stops_first : (c : After-find_logical_line_end-end)
    → IsStopOfFirstLine c.args.text.now c.find_logical_line_end-end.result.stop c.find_logical_line_end-end.result.continues
stops_first c = record {
  inside = c.find_logical_line_end-end.ensures.inside;
  line = c.find_logical_line_end-end.ensures.line;
  open_text = c.find_logical_line_end-end.ensures.open_text;
}

pub returns-then-not-end : goal.returns-then-not-end
returns-then-not-end c =
    let text : List ℕ = c.args.text.now in
    let end = c.find_logical_line_end-end.result in
    let first = stops_first (goal.at.returns-then-not-end c).After-find_logical_line_end-end in
    let n = c.find_first_nul.ensures in
    elim c.if-end-text.branch [
      | then-end-text w ↦
          nul_place_test_is_logical_line_test text end.stop c.find_first_nul.result end.continues w.if-end-text.true
          (sym w.value-is ∙ c.if-not-end.true) first (record { inside = n.inside; before = n.before; found = n.found })
      | else-end-text w ↦
          absurd (w.if-end-text.false (eqb-true end.stop (length text) (sym w.value-is ∙ c.if-not-end.true)))
    ]

pub returns-else-not-end : goal.returns-else-not-end
returns-else-not-end c =
    let text : List ℕ = c.args.text.now in
    let end = c.find_logical_line_end-end.result in
    let first = stops_first (goal.at.returns-else-not-end c).After-find_logical_line_end-end in
    c.if-not-end.false
    ∙ no_logical_line_has_false_test text (λ is. elim c.if-end-text.branch [
      | then-end-text w ↦
          text_that_continues_is_no_logical_line text end.stop end.continues w.if-end-text.true (sym w.value-is ∙ c.if-not-end.false) first is
      | else-end-text w ↦ w.if-end-text.false (logical_line_stops_at_text_end text end.stop end.continues first is)
    ])
