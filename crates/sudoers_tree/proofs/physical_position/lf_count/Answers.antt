use Rattle.sudoers_tree.proofs.Common.{ap, arith, is_byte, length, lf_count, ◌∙◌, ◌∷◌, ◌≡◌}
use Rattle.memchr.proofs.lemmas.CallerLemmas.{length-places}
use Rattle.sudoers_tree.proofs.LineEnds.{lf_count_is_at_most_length}
use Rattle.sudoers_tree.proofs.physical_position.lf_count.Goals as goal

pub loop-init : goal.loop-init
loop-init c =
    let all : length c.into_iter-iterator.result ≡ lf_count c.args.bytes.now =
    ap length (c.into_iter-iterator.ensures.into_iter_gives ∙ c.memchr_iter-items.ensures.value) ∙ length-places (is_byte 10) c.args.bytes.now in
    omega (arith, all)

pub overflow_add-count : goal.overflow_add-count
overflow_add-count c =
    let left : length c.loop.iterator' ≡ length (c.in-Some.field-0 ∷ c.next.new.self) = ap length c.in-Some.ensures.steps in
    omega (arith, left, c.loop.invariant, lf_count_is_at_most_length c.args.bytes.now)

pub loop-preserved : goal.loop-preserved
loop-preserved c =
    let left : length c.loop.iterator' ≡ length (c.in-Some.field-0 ∷ c.next.new.self) = ap length c.in-Some.ensures.steps in
    omega (arith, left, c.loop.invariant)

pub returns-clause-count : goal.returns-clause-count
returns-clause-count c =
    let left : length c.loop.iterator' ≡ 0 = ap length c.in-None.ensures.steps.0 in
    omega (arith, left, c.loop.invariant)

pub returns-clause-within : goal.returns-clause-within
returns-clause-within c = omega (arith, c.loop.invariant, lf_count_is_at_most_length c.args.bytes.now)
