use Rattle.sudoers_undecided.proofs.AnswersByTests.{has_flat_list_or_none, nothing_undecided_then_same}
use Rattle.sudoers_undecided.proofs.laws.nothing_undecided_then_same_answer.Goals as goal

pub returns : goal.returns
returns c lines r undecided other walk misses agrees name default none answer a =
    nothing_undecided_then_same c.one_flat.ensures lines (has_flat_list_or_none c.flat_or_cycle.ensures lines (λ k ms fs f l. c.flat_then_no_cycle.ensures k lines walk ms fs f l)) r undecided other misses agrees name default none answer a
