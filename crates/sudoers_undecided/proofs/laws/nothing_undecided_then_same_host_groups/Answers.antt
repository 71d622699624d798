use Rattle.sudoers_undecided.specs.MatchTests.{match_tests_of_request}
use Rattle.sudoers_undecided.proofs.ListingsByTests.{nothing_undecided_then_same_places}
use Rattle.sudoers_undecided.proofs.AnswersByTests.{has_flat_list_or_none}
use Rattle.sudoers_undecided.proofs.laws.nothing_undecided_then_same_host_groups.Goals as goal

pub returns : goal.returns
returns c lines r undecided other walk misses agrees none places p =
    nothing_undecided_then_same_places c.one_flat.ensures lines (has_flat_list_or_none c.flat_or_cycle.ensures lines (λ k ms fs f l. c.flat_then_no_cycle.ensures k lines walk ms fs f l)) undecided (match_tests_of_request r) other misses agrees none places p
