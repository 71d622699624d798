use Rattle.sudoers_match_list.proofs.Common.{IsPendingPartInPlaceOfAliasMember, MatchOption, None, [], alias_members_of_atom, arith, list_expanded_n_times, member_in_tables, refl, rules, subst, suc, sym, ◌+◌, ◌∷◌, ◌≡◌}
use Rattle.sudoers_match_list.proofs.Parts.{times_plain}
use Rattle.sudoers_match_list.proofs.Shortened.{last_replaces}
use Rattle.sudoers_match_list.proofs.flatten.find_pending_part_in_place_of_alias_member.Goals as goal

pub returns-in_err-chain : goal.returns-in_err-chain
returns-in_err-chain c =
    let aliases = c.args.source.now in
    let k = c.args.kind in
    let lines = aliases.policy.now in
    let t = aliases.lines.tables.now in
    let m = member_in_tables t c.args.row.now in
    let none : c.from_residual-in_err-chain.result ≡ None = search rules in
    let plain : alias_members_of_atom k lines m.atom ≡ None = search rules in
    subst (λ r. MatchOption r (list_expanded_n_times c.args.times k lines (m ∷ []) ≡ m ∷ []) (IsPendingPartInPlaceOfAliasMember k lines t c.args.times m)) (sym none)
    (times_plain k lines c.args.times m plain)

pub returns : goal.returns
returns c =
    let aliases = c.args.source.now in
    let t = aliases.lines.tables.now in
    let chain = c.in_ok-chain.chain in
    let left = c.in_ok-left.left in
    let times = c.in-Some.times in
    let one = c.in_ok-left.ensures in
    let some = c.in-Some.ensures in
    let less : c.args.times ≡ suc left = omega (arith, one.0, one.1) in
    let sum : left ≡ chain.times + times = omega (arith, some.0, some.1) in
    last_replaces c.args.kind aliases.policy.now t (member_in_tables t c.args.row.now) chain c.in_ok-chain.ensures c.args.times left less
    (record { rows = chain.last; negated = c.flip_sign_if_negated.result; times = times }) times sum refl c.flip_sign_if_negated.ensures refl
