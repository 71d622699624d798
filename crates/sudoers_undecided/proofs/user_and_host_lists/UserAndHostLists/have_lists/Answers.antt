use Rattle.std.proofs.Common.{◌==◌, ◌≡◌, ◌∙◌, Bool, true, false, not, inl, inr, length, vec_len, rules, ap, sym, refl}
use Rattle.sudoers_undecided.proofs.SettingCounts.{list_with_length_has_item}
use Rattle.sudoers_undecided.proofs.user_and_host_lists.UserAndHostLists.have_lists.Goals as goal

is_false : (b : Bool) → not b ≡ true → b ≡ false
is_false true e = absurd cc
is_false false e = refl

pub returns-then-not-is_empty-clause-turned : goal.returns-then-not-is_empty-clause-turned
returns-then-not-is_empty-clause-turned c lines r t e =
    let size : vec_len c.args.self.now.users ≡ length c.args.self.now.users.items = search rules in
    let one = list_with_length_has_item c.args.self.now.users.items (ap (λ n. n == 0) (sym size) ∙ sym c.is_empty.ensures ∙ is_false c.is_empty.result e) in
    let w = t.users one.item one.stands in
    (w.0, inl (record { list = one.item; stands = one.stands; is_wanted = w.1 }))

pub returns-else-not-is_empty-clause-turned : goal.returns-else-not-is_empty-clause-turned
returns-else-not-is_empty-clause-turned c lines r t e =
    let size : vec_len c.args.self.now.hosts ≡ length c.args.self.now.hosts.items = search rules in
    let one = list_with_length_has_item c.args.self.now.hosts.items (ap (λ n. n == 0) (sym size) ∙ sym c.is_empty-else-not-is_empty.ensures ∙ is_false c.is_empty-else-not-is_empty.result e) in
    let w = t.hosts one.item one.stands in
    (w.0, inr (record { list = one.item; stands = one.stands; is_wanted = w.1 }))
